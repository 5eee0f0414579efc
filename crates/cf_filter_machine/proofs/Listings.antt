-- Lists of entries that suit, as their changes are looked at and made.
use Rattle.std.proofs.Common.{◌≡◌, ◌<◌, ◌+◌, ℕ, suc, Bool, true, false, ◌||◌, not, List, [], ◌∷◌, ◌++◌, length, None, refl, sym, ◌∙◌, ap, subst, arith}
use Rattle.std.specs.Prelude.{Err, Ok, Result, nat_lt}
use Rattle.std.specs.List.{list_any}
use Rattle.std.proofs.lemmas.Bool.{or_from, or_parts}
use Rattle.std.proofs.lemmas.Bool.Decides.{nat_tests}
use Rattle.cf_base.specs.declared.answers.AuxRecord.{AuxRecord}
use Rattle.cf_base.specs.declared.changes.Change.{Change}
use Rattle.cf_base.specs.declared.changes.Change.TheVariants as change
use Rattle.cf_base.specs.declared.codes.Code.TheVariants as code
use Rattle.cf_base.specs.declared.codes.CallError.{CallError}
use Rattle.cf_base.specs.declared.codes.CallError.TheVariants.{OutOfMemory, No}
use Rattle.cf_base.specs.declared.ids.ItemId.{ItemId}
use Rattle.cf_base.specs.declared.ids.Usn.{Usn}
use Rattle.cf_disk.specs.Disk.{State}
use Rattle.cf_filter_machine.proofs.ComingItems.{all_below}
use Rattle.cf_filter_machine.proofs.EntriesKept.{directory_first, kept_early}
use Rattle.cf_filter_machine.proofs.EnterSteps.{listed, plain}
use Rattle.cf_filter_machine.proofs.RoomReads.{below_listed, turned}
use Rattle.cf_filter_machine.specs.Entering.{AfterEntry, AreReadyEntries, Coming, EndsBy, Enters, MayEnter, is_listed}
use Rattle.cf_filter_machine.specs.Held.{Held}
use Rattle.cf_filter_machine.specs.Sensing.{Stands, sense}
use Rattle.cf_model.specs.Books.{Book}
use Rattle.cf_model.specs.Changes.{lacks_numbers, needs_id, next_number, no_blocks, no_table, put_change, put_changes, why_no_room}
use Rattle.cf_model.specs.Numbers.{most}
use Rattle.cf_model.specs.Operations.{changes_with}
use Rattle.cf_model.specs.State.{Filter, Volume}
use Rattle.cf_model.specs.Words.{first_of}
use Rattle.cf_volume_points.specs.At.{At}
use Rattle.cf_filter_steps.specs.Answering.{After, Answers, Reads}
use Rattle.cf_filter_steps.specs.Good.{Every}
use Rattle.cf_filter_steps.specs.Listing.{AreEntries, HasRecordsBeside, IsEntry, Listing, ReadyListed, room_listed}
use Rattle.cf_volume.specs.RoomLeft.{FitInTurn, FitsAmong, HasBeside, HasRoomWith}
use Rattle.cf_volume_changes.specs.declared.room.changes.Room.{Room}

-- each of its changes finds room

lacks_one : (p n : ℕ) (a b : Bool) → (nat_lt most (p + suc n) || (a || b)) ≡ false → (nat_lt most (p + 1) || (a || false)) ≡ false
lacks_one p n a b h =
    let x = or_parts (nat_lt most (p + suc n)) (a || b) h in
    or_from (nat_lt most (p + 1)) (a || false) (less x.0) (or_from a false (or_parts a b x.1).0 refl)
  where
    less : nat_lt most (p + suc n) ≡ false → nat_lt most (p + 1) ≡ false
    less e = grind (arith, nat_tests)

lacks_rest : (p n : ℕ) (a b : Bool) → (nat_lt most (p + suc n) || (a || b)) ≡ false → (nat_lt most (p + 1 + n) || b) ≡ false
lacks_rest p n a b h =
    let x = or_parts (nat_lt most (p + suc n)) (a || b) h in
    let same : p + 1 + n ≡ p + suc n = omega arith in
    or_from (nat_lt most (p + 1 + n)) b (ap (λ (k : ℕ). nat_lt most k) same ∙ x.0) (or_parts a b x.1).1

finds_room : (c : Change) (v : Volume) → is_listed c ≡ true → lacks_numbers v (c ∷ []) ≡ false → no_table v (c ∷ []) ≡ false → why_no_room (c ∷ []) v ≡ None
finds_room c v is numbers table = λ j. first_of ((numbers j, code.Exhausted) ∷ (table j, code.TableFull) ∷ (blocks j, code.Full) ∷ [])
  where
    blocks : no_blocks v (c ∷ []) ≡ false
    blocks = ap (λ (b : Bool). b || false) ((plain c is).full v)

ready_entries : (dir : ItemId) (cs : List Change) (v : Volume) → AreEntries dir cs v → lacks_numbers v cs ≡ false → no_table v cs ≡ false → AreReadyEntries dir cs v
ready_entries dir [] v e numbers table = record {}
ready_entries dir (c ∷ cs) v e numbers table =
    let t = or_parts _ (no_table (put_change c v) cs) table in (
      record {
        room = finds_room c v (listed dir c v e.0) (lacks_one v.place (length cs) (needs_id c) (list_any needs_id cs) numbers) (or_from _ false t.0 refl);
        entry = e.0;
      },
      ready_entries dir cs (put_change c v) e.1 (lacks_rest v.place (length cs) (needs_id c) (list_any needs_id cs) numbers) t.1,
    )

ends_last : (dir : ItemId) (before : List Change) → EndsBy dir (before ++ change.Populated dir ∷ [])
ends_last dir [] = refl
ends_last dir (c ∷ []) = refl
ends_last dir (c ∷ d ∷ ds) = ends_last dir (d ∷ ds)

ends_listed : (f : Book → Book) (dir : ItemId) (cs : List Change) (records : List AuxRecord) (s : Filter) → Listing f dir cs records s → EndsBy dir cs
ends_listed f dir cs records s h = subst (EndsBy dir) (sym h.ends) (ends_last dir h.before)

may_enter : (f : Book → Book) (dir : ItemId) (cs : List Change) (records : List AuxRecord) (s : Filter) → ReadyListed f dir cs records s → MayEnter f dir cs records s
may_enter f dir cs records s p =
    let ends = ends_listed f dir cs records s p.listing in record {
      entries = ready_entries dir cs s.volume p.listing.entries p.numbers (or_parts (no_table s.volume cs) _ p.table).0;
      ends = ends;
      beside = p.listing.beside;
    }

-- from a state of a filter to one

comes_in : {D : Type 0} (state : D → State) (f : Book → Book) (dir : ItemId) (cs : List Change) (records : List AuxRecord) (x : Held D) (s : Filter) → Stands state x s → MayEnter f dir cs records s → Coming state dir x s
comes_in state f dir cs records x s h p = record {
  fair = h.fair;
  volume = h.volume;
  desk = h.desk;
  whole = h.whole;
  kept = kept_early dir s.volume (directory_first dir cs s.volume p.ends p.entries) h.kept;
  points = h.points;
  aimed = h.aimed;
  files = h.good.files;
  numbered = h.good.numbered;
  reads = h.good.reads;
}

left_as : {D : Type 0} (state : D → State) (r : Result (Unit {0}) CallError) (x y : Held D) (t : Filter) → AfterEntry state (Stands state) x r y t → After (sense state) x r y t
left_as state (Ok a) x y t h = h
left_as state (Err (No code)) x y t h = h
left_as state (Err OutOfMemory) x y t h = h

pub entered : {D : Type 0} (state : D → State) (f : Book → Book) (dir : ItemId) (cs : List Change) (records : List AuxRecord) (x y : Held D) (r : Result (Unit {0}) CallError)
    → Enters state dir (Stands state) (MayEnter f dir cs records) (changes_with f cs) x r y → Answers (sense state) (ReadyListed f dir cs records) (changes_with f cs) x r y
entered state f dir cs records x y r enters = record {
  leads = λ s h p.
      let may = may_enter f dir cs records s p in
      let a = enters.leads s (comes_in state f dir cs records x s h may) may in (a.0, a.1, a.2, left_as state r x y a.0 a.3);
}

-- whether it finds room

fits_entry : (dir : ItemId) (c : Change) (v : Volume) → Every (λ i. i.id.0 < v.next_item.0) v.items → IsEntry dir c v → FitsAmong c v.book v.items
fits_entry dir (change.Make item parent name kind size identity) v h e = (all_below item v.items (subst (λ (k : ItemId). Every (λ i. i.id.0 < k.0) v.items) (sym e.lists.0) h), e.fits.0, e.fits.1, e.fits.2)
fits_entry dir (change.Remove item) v h e = absurd e.lists
fits_entry dir (change.Move item parent name) v h e = absurd e.lists
fits_entry dir (change.Write item at bytes) v h e = absurd e.lists
fits_entry dir (change.Size item size) v h e = absurd e.lists
fits_entry dir (change.Filled item start bytes) v h e = absurd e.lists
fits_entry dir (change.Validated item start len) v h e = absurd e.lists
fits_entry dir (change.Emptied item start len) v h e = absurd e.lists
fits_entry dir (change.SetPin item pin) v h e = absurd e.lists
fits_entry dir (change.Mark item number) v h e = e.fits
fits_entry dir (change.Clear item) v h e = absurd e.lists
fits_entry dir (change.Convert item identity) v h e = absurd e.lists
fits_entry dir (change.Revert item) v h e = absurd e.lists
fits_entry dir (change.Rebase item identity len at) v h e = absurd e.lists
fits_entry dir (change.Take item identity size) v h e = absurd e.lists
fits_entry dir (change.Copy item from parent name) v h e = absurd e.lists
fits_entry dir (change.Populated item) v h e = e.fits
fits_entry dir (change.Keep item on) v h e = absurd e.lists

entries_fit : (dir : ItemId) (cs : List Change) (v : Volume) → Every (λ i. i.id.0 < v.next_item.0) v.items → AreEntries dir cs v → FitInTurn cs v
entries_fit dir [] v h e = record {}
entries_fit dir (c ∷ cs) v h e = let is = listed dir c v e.0 in (fits_entry dir c v h e.0, (plain c is).fits v.book, entries_fit dir cs (put_change c v) (below_listed v h c is) e.1)

same_books : (dir : ItemId) (cs : List Change) (v : Volume) → AreEntries dir cs v → (put_changes cs v).book ≡ v.book
same_books dir [] v e = refl
same_books dir (c ∷ cs) v e = same_books dir cs (put_change c v) e.1 ∙ (plain c (listed dir c v e.0)).book v.book

pub records_put : (n : Usn) (b new : Book) (records : List AuxRecord) → HasRecordsBeside n b records new → HasBeside b records new
records_put n b new records h = record { told = h.told; anchors = h.anchors; clock = h.clock; accesses = h.accesses }

pub listed_read : {D : Type 0} (state : D → State) (dir : ItemId) (cs : List Change) (records : List AuxRecord) (x : Held D) (r : Room)
    → ((v : Volume) (b : Book) → At (state x.disk) x.known v → FitInTurn cs v → HasBeside (put_changes cs v).book records b → HasRoomWith cs b v r)
    → (f : Book → Book) → Reads (sense state) (Listing f dir cs records) (room_listed f cs) x (record { no_numbers = not r.places; no_table = not r.table; no_blocks = not r.blocks })
listed_read state dir cs records x r told f = record {
  is = λ s h p.
      let book = same_books dir cs s.volume p.entries in
      let k = told s.volume (f (put_changes cs s.volume).book) h.volume (entries_fit dir cs s.volume h.good.volume.below p.entries)
      (subst (λ (b : Book). HasBeside b records (f b)) (sym book) (records_put (next_number s.volume) s.volume.book (f s.volume.book) records p.beside)) in
      λ j. record { no_numbers = turned _ _ k.places j; no_table = turned _ _ k.table j; no_blocks = turned _ _ k.blocks j };
}
