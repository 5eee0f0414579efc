-- Lists of entries as steps of a filter.
use Rattle.std.proofs.Common.{◌≡◌, inl, inr, Bool, true, false, List, [], ◌∷◌, ◌++◌, refl, sym, ◌∙◌, ap, subst}
use Rattle.std.proofs.lemmas.Bool.{true≢false}
use Rattle.std.proofs.lemmas.Result.{err_from_is_err_and}
use Rattle.std.specs.Prelude.{Err, IfErr, IfOk, None, Ok, Result}
use Rattle.std.specs.Result.{IsErrAnd}
use Rattle.cf_filter_machine.proofs.Aims.{aims_on, aims_put, needs_none, ready, rising_coming}
use Rattle.cf_volume_room.specs.Aims.{IsAimedBy}
use Rattle.cf_base.specs.declared.answers.AuxRecord.{AuxRecord}
use Rattle.cf_base.specs.declared.changes.Change.{Change}
use Rattle.cf_base.specs.declared.changes.Change.TheVariants as change
use Rattle.cf_base.specs.declared.codes.CallError.{CallError}
use Rattle.cf_base.specs.declared.codes.CallError.TheVariants.{OutOfMemory, No}
use Rattle.cf_base.specs.declared.ids.ItemId.{ItemId}
use Rattle.cf_base.specs.declared.ids.Usn.{Usn}
use Rattle.cf_base.specs.declared.notices.Notice.TheVariants as notice
use Rattle.cf_disk.specs.Disk.{Leaves, State}
use Rattle.cf_disk.specs.Leaving.{leaves_weaker}
use Rattle.cf_filter_machine.proofs.ChangeSteps.{by_room, grows_put, later, longer_point, not_refused, put_ends, told}
use Rattle.cf_filter_machine.proofs.EntriesKept.{book_beside, directory_first, kept_come, kept_entry, later_beside}
use Rattle.cf_filter_machine.proofs.PointSteps.{last_point}
use Rattle.cf_filter_machine.proofs.Shown.{shows_after}
use Rattle.cf_filter_machine.proofs.StillFiles.{in_place, still_opened, still_reads, with_more}
use Rattle.cf_filter_machine.specs.Entering.{AfterEntry, Coming, EndsBy, Enters, GoesOn, IsReadyEntry, MayEnter, is_listed}
use Rattle.cf_filter_desk.specs.Desks.{Desk, desk_of}
use Rattle.cf_filter_machine.specs.Held.{Held}
use Rattle.cf_filter_machine.specs.Keeping.{HasKeptPoints, IsKeptVolume}
use Rattle.cf_filter_machine.specs.Lasting.{IsBetween, Lasts, Moved}
use Rattle.cf_filter_machine.specs.Lasts.{grows_not, lasts_at, moved_on, no_move}
use Rattle.cf_filter_machine.specs.Sensing.{Stands, rose_on}
use Rattle.cf_model.specs.Arrows.{Arrow, then_do, unit}
use Rattle.cf_model.specs.Blocks.{is_full}
use Rattle.cf_model.specs.Books.{Book, book_after}
use Rattle.cf_model.specs.Changes.{change as one_change, change_with, may_need_room, next_number, put_change, put_with_book, same_book, why_no_room}
use Rattle.cf_model.specs.Formats.{with_records}
use Rattle.cf_model.specs.Effects.{made, marked, populated}
use Rattle.cf_model.specs.Items.{pin_of}
use Rattle.cf_model.specs.Operations.{changes_with}
use Rattle.cf_model.specs.State.{Filter, Volume}
use Rattle.cf_model.specs.Trees.{Does, Ends, Stops}
use Rattle.cf_model.proofs.TreeLaws as trees
use Rattle.cf_volume_points.proofs.Points.{Fair}
use Rattle.cf_volume_points.specs.At.{Applied, At, StandsLast}
use Rattle.cf_volume_points.specs.Holding.{FitsTable}
use Rattle.cf_volume_points.specs.Keeping.{FitsBook}
use Rattle.cf_volume_points.specs.Known.{Known}
use Rattle.cf_filter_steps.specs.Good.{IsFileIn}
use Rattle.cf_filter_steps.specs.Listing.{HasRecordsBeside, IsEntry}
use Rattle.cf_volume.specs.Calls as volume
use Rattle.cf_volume.specs.Calls.{HasRecords, IsCause, OnDisk, Runs, StopsOnly}
use Rattle.cf_volume.specs.Written.{contents_in}

-- What holds of each change of such a list: it needs no cluster, and leaves the book.
pub record IsPlain (c : Change) : Type 0 where
  pub room : (v : Volume) → may_need_room c v ≡ false
  pub full : (v : Volume) → is_full v.clusters v.items c ≡ false
  pub book : (b : Book) → book_after c b ≡ b
  pub fits : (b : Book) → FitsBook c b
  pub file : (v : Volume) (id : ItemId) → IsFileIn v.items id → IsFileIn (put_change c v).items id

pub plain : (c : Change) → is_listed c ≡ true → IsPlain c
plain (change.Make item parent name kind size identity) e = record {
  room = λ v. refl;
  full = λ v. refl;
  book = λ b. refl;
  fits = λ b. record {};
  file = λ v id h. with_more v.items (made item parent name kind size identity (pin_of v.items parent) (next_number v) ∷ []) id h;
}
plain (change.Remove item) e = absurd (true≢false (sym e))
plain (change.Move item parent name) e = absurd (true≢false (sym e))
plain (change.Write item at bytes) e = absurd (true≢false (sym e))
plain (change.Size item size) e = absurd (true≢false (sym e))
plain (change.Filled item start bytes) e = absurd (true≢false (sym e))
plain (change.Validated item start len) e = absurd (true≢false (sym e))
plain (change.Emptied item start len) e = absurd (true≢false (sym e))
plain (change.SetPin item pin) e = absurd (true≢false (sym e))
plain (change.Mark item number) e = record { room = λ v. refl; full = λ v. refl; book = λ b. refl; fits = λ b. record {}; file = λ v id h. in_place v.items item marked id (λ i. refl) (λ i. refl) h }
plain (change.Clear item) e = absurd (true≢false (sym e))
plain (change.Convert item identity) e = absurd (true≢false (sym e))
plain (change.Revert item) e = absurd (true≢false (sym e))
plain (change.Rebase item identity len at) e = absurd (true≢false (sym e))
plain (change.Take item identity size) e = absurd (true≢false (sym e))
plain (change.Copy item from parent name) e = absurd (true≢false (sym e))
plain (change.Populated item) e = record { room = λ v. refl; full = λ v. refl; book = λ b. refl; fits = λ b. record {}; file = λ v id h. in_place v.items item populated id (λ i. refl) (λ i. refl) h }
plain (change.Keep item on) e = absurd (true≢false (sym e))

pub listed : (dir : ItemId) (c : Change) (v : Volume) → IsEntry dir c v → is_listed c ≡ true
listed dir (change.Make item parent name kind size identity) v e = refl
listed dir (change.Remove item) v e = absurd e.lists
listed dir (change.Move item parent name) v e = absurd e.lists
listed dir (change.Write item at bytes) v e = absurd e.lists
listed dir (change.Size item size) v e = absurd e.lists
listed dir (change.Filled item start bytes) v e = absurd e.lists
listed dir (change.Validated item start len) v e = absurd e.lists
listed dir (change.Emptied item start len) v e = absurd e.lists
listed dir (change.SetPin item pin) v e = absurd e.lists
listed dir (change.Mark item number) v e = refl
listed dir (change.Clear item) v e = absurd e.lists
listed dir (change.Convert item identity) v e = absurd e.lists
listed dir (change.Revert item) v e = absurd e.lists
listed dir (change.Rebase item identity len at) v e = absurd e.lists
listed dir (change.Take item identity size) v e = absurd e.lists
listed dir (change.Copy item from parent name) v e = absurd e.lists
listed dir (change.Populated item) v e = refl
listed dir (change.Keep item on) v e = absurd e.lists

-- the step of a change that needs no room

done_as : (f : Book → Book) (c : Change) (s t : Filter) (may : Bool) → may ≡ false → Ends (by_room f c s may) unit t → t ≡ told f c false s
done_as f c s t true none e = absurd (true≢false none)
done_as f c s t false none e = e.1

ends_plain : (f : Book → Book) (c : Change) (s : Filter) → Ends (change_with f c s) unit (told f c false s)
ends_plain f c s = put_ends f c s false (may_need_room c s.volume) (λ e. absurd (true≢false (sym e)))

stops_plain : (f : Book → Book) (c : Change) (s : Filter) (may : Bool) → may ≡ false → Stops (by_room f c s may) s
stops_plain f c s true none = absurd (true≢false none)
stops_plain f c s false none = inl refl

-- One change of a list, which was put in the volume and told, or was not.

module _ {D : Type 0} (state : D → State) (dir : ItemId) (x : Held D) (c : Change) (f : Book → Book) (d : D) (fair : Fair (state d)) (crash : (v : Volume) → At (state x.disk) x.known v → Leaves (state x.disk) (state d) (StandsLast v)) (runs : Runs (state x.disk) (state d)) where
  moved_to : (g : Book → Book) (s : Filter) → Coming state dir x s → Moved (state x.disk) (state d) s.volume (later c g s.volume false)
  moved_to g s h = record {
    runs = runs;
    grows = grows_put c g s.volume false;
    leaves = leaves_weaker (state x.disk) (state d) (StandsLast s.volume) (IsBetween s.volume (later c g s.volume false)) (crash s.volume h.volume)
        (λ i l. record { mid = s.volume; after = grows_not s.volume; before = grows_put c g s.volume false; stands = last_point s.volume h.points i l });
  }

  points_to : (g : Book → Book) (s : Filter) → Coming state dir x s → HasKeptPoints (later c g s.volume false)
  points_to g s h = λ p o. longer_point s.volume.epoch s.volume.log ((next_number s.volume, c) ∷ []) p (h.points p o)

  aimed_to : (g : Book → Book) → is_listed c ≡ true → (s : Filter) → Coming state dir x s → IsAimedBy (state d).settings.aim (later c g s.volume false)
  aimed_to g is s h =
      aims_put (state d).settings.aim g c s.volume false (ready (state x.disk) x.known s.volume h.volume (rising_coming dir s.volume.items h.kept.good.tree.order) h.points)
      (needs_none (state d).settings.aim c s.volume ((plain c is).room s.volume)) (aims_on (state x.disk) (state d) s.volume runs.settings h.aimed)

  desk_to : (e : Desk) (n : Usn) (g : Book → Book) (s : Filter) → Coming state dir x s → e ≡ record x.desk { notes = x.desk.notes ++ notice.Change n c ∷ [] } → n ≡ next_number s.volume → e ≡ desk_of (told g c false s)
  desk_to e n g s h desk number =
      desk ∙ ap (λ (z : Desk). record z { notes = z.notes ++ notice.Change n c ∷ [] }) h.desk
      ∙ ap (λ (m : Usn). record (desk_of s) { notes = s.notes ++ notice.Change m c ∷ [] }) number

  -- not the last one
  pub entered_one : (k : Known) (e : Desk) (n : Usn) → is_listed c ≡ true → k.broken ≡ false → e ≡ record x.desk { notes = x.desk.notes ++ notice.Change n c ∷ [] } → ((v : Volume) → At (state x.disk) x.known v → n ≡ next_number v)
      → ((v : Volume) → At (state x.disk) x.known v → At (state d) k (put_change c v))
      → Enters state dir (Coming state dir) (λ s. IsReadyEntry dir c s.volume) (one_change c) x (Ok unit) (record { disk = d; known = k; desk = e })
  entered_one k e n is usable desk number put = record {
    leads = λ s h p.
        let at : At (state d) k (put_change c s.volume) = put s.volume h.volume in
        let files = (plain c is).file s.volume in (
          told same_book c false s,
          ends_plain same_book c s,
          moved_to same_book s h,
          record {
            fair = fair;
            volume = at;
            desk = desk_to e n same_book s h desk (number s.volume h.volume);
            whole = usable;
            kept = kept_entry dir s.volume h.kept h.volume.now.book c p.entry at.now.fits;
            points = points_to same_book s h;
            aimed = aimed_to same_book is s h;
            files = still_opened s.volume.items (put_change c s.volume).items files s.handles h.files;
            numbered = h.numbered;
            reads = still_reads s.volume.items (put_change c s.volume).items files s.waiting.waits h.reads;
          },
        );
  }

  -- the last one, with what comes beside it
  pub entered_last : (k : Known) (e : Desk) (n : Usn) (records : List AuxRecord) → is_listed c ≡ true → k.broken ≡ false → e ≡ record x.desk { notes = x.desk.notes ++ notice.Change n c ∷ [] }
      → ((v : Volume) → At (state x.disk) x.known v → n ≡ next_number v)
      → ((s : Filter) → Coming state dir x s → MayEnter f dir (c ∷ []) records s → At (state d) k (put_with_book f c s.volume))
      → ((v : Volume) → At (state x.disk) x.known v → FitsTable (put_change c v).items (put_change c v).book)
      → Enters state dir (Stands state) (MayEnter f dir (c ∷ []) records) (change_with f c) x (Ok unit) (record { disk = d; known = k; desk = e })
  entered_last k e n records is usable desk number put fits = record {
    leads = λ s h p.
        let at : At (state d) k (put_with_book f c s.volume) = put s h p in
        let files = (plain c is).file s.volume in
        let come : IsKeptVolume (put_change c s.volume) = come_last s h p (fits s.volume h.volume) in
        let kept : IsKeptVolume (put_with_book f c s.volume) = book_beside (put_change c s.volume) records (f (put_change c s.volume).book)
        (subst (λ (b : Book). HasRecordsBeside (next_number (put_change c s.volume)) b records (f b)) (sym ((plain c is).book s.volume.book)) (later_beside c s.volume records (f s.volume.book) p.beside)) at.now.fits come in (
          told f c false s,
          ends_plain f c s,
          moved_to f s h,
          record {
            fair = fair;
            volume = at;
            desk = desk_to e n f s h desk (number s.volume h.volume);
            whole = usable;
            good = record {
              volume = kept.good;
              files = still_opened s.volume.items (put_change c s.volume).items files s.handles h.files;
              numbered = h.numbered;
              reads = still_reads s.volume.items (put_change c s.volume).items files s.waiting.waits h.reads;
            };
            kept = kept;
            points = points_to f s h;
            aimed = aimed_to f is s h;
          },
        );
  }
    where
      come_last : (s : Filter) → Coming state dir x s → MayEnter f dir (c ∷ []) records s → FitsTable (put_change c s.volume).items (put_change c s.volume).book → IsKeptVolume (put_change c s.volume)
      come_last s h p fits =
          subst (λ (z : Change). IsKeptVolume (put_change z s.volume)) (sym p.ends)
          (kept_come dir s.volume h.kept h.volume.now.book (directory_first dir (c ∷ []) s.volume p.ends p.entries)
          (subst (λ (z : Change). FitsTable (put_change z s.volume).items (put_change z s.volume).book) p.ends fits))

  module _ (Q : Held D → Filter → Type 0) (P : Filter → Type 0) where
    -- it was put in, and there is no memory for the rest
    pub entry_lost : (k : Known) (y : Held D) → y.disk ≡ d → ((v : Volume) → At (state x.disk) x.known v → At (state d) k (put_change c v)) → Enters state dir Q P (change_with f c) x (Err OutOfMemory) y
    entry_lost k y same put = record {
      leads = λ s h p. (
        told same_book c false s,
        record {},
        subst (λ (z : D). Moved (state x.disk) (state z) s.volume (later c same_book s.volume false)) (sym same) (moved_to same_book s h),
        subst (λ (z : D). Lasts (state z) (later c same_book s.volume false)) (sym same) (lasts_at (state d) k (put_change c s.volume) fair (put s.volume h.volume) (points_to same_book s h)),
      );
    }

    stay_moved : (s : Filter) → Coming state dir x s → Moved (state x.disk) (state d) s.volume s.volume
    stay_moved s h = record {
      runs = runs;
      grows = grows_not s.volume;
      leaves = leaves_weaker (state x.disk) (state d) (StandsLast s.volume) (IsBetween s.volume s.volume) (crash s.volume h.volume)
          (λ i l. record { mid = s.volume; after = grows_not s.volume; before = grows_not s.volume; stands = last_point s.volume h.points i l });
    }

    stay_lasts : (s : Filter) → Coming state dir x s → Lasts (state d) s.volume
    stay_lasts s h i left = last_point s.volume h.points i ((crash s.volume h.volume).now i left)

    -- it was not put in
    pub entry_stopped : (k : Known) (e : Desk) (q : CallError) → e ≡ x.desk → contents_in k ≡ contents_in x.known → ((s : Filter) → Coming state dir x s → P s → StopsOnly q × (may_need_room c s.volume ≡ false)) → IsCause q (state x.disk) (state d)
        → Enters state dir Q P (change_with f c) x (Err q) (record { disk = d; known = k; desk = e })
    entry_stopped k e (No code) same still only cause = record {
      leads = λ s h p. (
        s,
        ((only s h p).0, stops_plain f c s (may_need_room c s.volume) (only s h p).1),
        stay_moved s h,
        (
          record {
            notes = ap (λ (z : Desk). z.notes) (same ∙ h.desk);
            policy = ap (λ (z : Desk). z.policy) (same ∙ h.desk);
            connected = ap (λ (z : Desk). z.connected) (same ∙ h.desk);
            shows = shows_after (state x.disk) (state d) x.known k s.volume runs still h.volume;
            lasts = stay_lasts s h;
          },
          cause ((only s h p).0),
        ),
      );
    }
    entry_stopped k e OutOfMemory same still only cause = record { leads = λ s h p. (s, record {}, stay_moved s h, stay_lasts s h) }

-- nothing was done, where memory runs out
pub enters_lost : {D : Type 0} (state : D → State) (dir : ItemId) (Q : Held D → Filter → Type 0) (P : Filter → Type 0) (f : Arrow Filter (Unit {0})) (x : Held D) → Enters state dir Q P f x (Err OutOfMemory) x
enters_lost state dir Q P f x = record {
  leads = λ s h p.
      let lasts : Lasts (state x.disk) s.volume = lasts_at (state x.disk) x.known s.volume h.fair h.volume h.points in
      (s, record {}, no_move (state x.disk) s.volume lasts, lasts);
}

-- at an exit by `?`
pub enters_err : {D : Type 0} (state : D → State) (dir : ItemId) (Q : Held D → Filter → Type 0) (P : Filter → Type 0) (f : Arrow Filter (Unit {0})) (x y : Held D) (e : CallError) (r : Result (Unit {0}) CallError)
    → IsErrAnd r (λ z. z ≡ e) → Enters state dir Q P f x (Err e) y → Enters state dir Q P f x r y
enters_err {D} state dir Q P f x y e r is h =
    let p = err_from_is_err_and r is in subst (λ (q : Result (Unit {0}) CallError). Enters state dir Q P f x q y) (sym (p.1 ∙ ap (λ (z : CallError). Err z) p.2)) h

-- One after the other.

with_more_of : (f : Book → Book) (c last : Change) (rest : List Change) → changes_with f (c ∷ rest ++ last ∷ []) ≡ then_do (one_change c) (changes_with f (rest ++ last ∷ []))
with_more_of f c last [] = refl
with_more_of f c last (d ∷ ds) = refl

ends_rest : (dir : ItemId) (c last : Change) (rest : List Change) → EndsBy dir (c ∷ rest ++ last ∷ []) → EndsBy dir (rest ++ last ∷ [])
ends_rest dir c last [] h = h
ends_rest dir c last (d ∷ ds) h = h

module _ {D : Type 0} (state : D → State) (dir : ItemId) (Q : Held D → Filter → Type 0) (f : Book → Book) (c last : Change) (rest : List Change) (records : List AuxRecord) where
  rest_may : (s t : Filter) → MayEnter f dir (c ∷ rest ++ last ∷ []) records s → Ends (one_change c s) unit t → MayEnter f dir (rest ++ last ∷ []) records t
  rest_may s t p e =
      let is = plain c (listed dir c s.volume p.entries.0.entry) in
      subst (MayEnter f dir (rest ++ last ∷ []) records) (sym (done_as same_book c s t (may_need_room c s.volume) (is.room s.volume) e)) (record {
        entries = p.entries.1;
        ends = ends_rest dir c last rest p.ends;
        beside = subst (λ (b : Book). HasRecordsBeside (next_number (put_change c s.volume)) b records (f b)) (sym (is.book s.volume.book)) (later_beside c s.volume records (f s.volume.book) p.beside);
      })

  -- seen from further back
  entry_on : (x m y : Held D) (r : Result (Unit {0}) CallError) (t : Filter) → Runs (state x.disk) (state m.disk) → AfterEntry state Q m r y t → AfterEntry state Q x r y t
  entry_on x m y (Ok a) t runs h = h
  entry_on x m y (Err (No code)) t runs h = (h.0, rose_on (state x.disk) (state m.disk) (state y.disk) runs h.1)
  entry_on x m y (Err OutOfMemory) t runs h = h

  pub enters_more : (x m y : Held D) (r : Result (Unit {0}) CallError) → Enters state dir (Coming state dir) (λ s. IsReadyEntry dir c s.volume) (one_change c) x (Ok unit) m
      → Enters state dir Q (MayEnter f dir (rest ++ last ∷ []) records) (changes_with f (rest ++ last ∷ [])) m r y
      → Enters state dir Q (MayEnter f dir (c ∷ rest ++ last ∷ []) records) (changes_with f (c ∷ rest ++ last ∷ [])) x r y
  enters_more x m y r first then = record {
    leads = λ s h p.
        let a = first.leads s h p.entries.0 in
        let b = then.leads a.0 a.3 (rest_may s a.0 p a.1) in (
          b.0,
          subst (λ (g : Arrow Filter (Unit {0})). Does (g s) r b.0) (sym (with_more_of f c last rest)) (trees.goes_on (one_change c s) (λ _ t. changes_with f (rest ++ last ∷ []) t) unit a.0 r b.0 a.1 b.1),
          moved_on (state x.disk) (state m.disk) (state y.disk) s.volume a.0.volume b.0.volume a.2 b.2,
          entry_on x m y r b.0 a.2.runs b.3,
        );
  }

  after_any : (R : Held D → Filter → Type 0) (e : CallError) (x y : Held D) (t : Filter) → AfterEntry {A = Unit {0}} state R x (Err e) y t → AfterEntry {A = Unit {0}} state Q x (Err e) y t
  after_any R (No code) x y t h = h
  after_any R OutOfMemory x y t h = h

  pub enters_stops : (x y : Held D) (e : CallError) → Enters state dir (Coming state dir) (λ s. IsReadyEntry dir c s.volume) (one_change c) x (Err e) y
      → Enters state dir Q (MayEnter f dir (c ∷ rest ++ last ∷ []) records) (changes_with f (c ∷ rest ++ last ∷ [])) x (Err e) y
  enters_stops x y e first = record {
    leads = λ s h p.
        let a = first.leads s h p.entries.0 in (
          a.0,
          subst (λ (g : Arrow Filter (Unit {0})). Does (g s) (Err e) a.0) (sym (with_more_of f c last rest)) (trees.fails_first (one_change c s) (λ _ t. changes_with f (rest ++ last ∷ []) t) e a.0 a.1),
          a.2,
          after_any (Coming state dir) e x y a.0 a.3,
        );
  }

-- what is put beside the last change
pub records_beside : (d : State) (k : Known) (v : Volume) (f : Book → Book) (records : List AuxRecord) → At d k v → (n : Usn) → HasRecordsBeside n v.book records (f v.book) → HasRecords v.book (with_records records k.records) (f v.book)
records_beside d k v f records at n h = record { told = h.told ∙ ap (with_records records) (sym at.now.records); anchors = h.anchors; clock = h.clock; accesses = h.accesses }

pub last_put : (d : State) (k : Known) (c : Change) (v : Volume) (f : Book → Book) (records : List AuxRecord) → is_listed c ≡ true → At d k (put_change c v) → (n : Usn) → HasRecordsBeside n v.book records (f v.book)
    → HasRecords (put_change c v).book (with_records records k.records) (f (put_change c v).book)
last_put d k c v f records is at n h = records_beside d k (put_change c v) f records at n (subst (λ (b : Book). HasRecordsBeside n b records (f b)) (sym ((plain c is).book v.book)) h)

-- of the volume alone

pub put_plain : (d : State) (k : Known) (c : Change) (v : Volume) → is_listed c ≡ true → Applied d k c v → At d k (put_change c v)
put_plain d k c v is (inl put) = put.at
put_plain d k c v is (inr put) = absurd (true≢false (sym put.needed ∙ (plain c is).room v))

pub stops_alone : {D : Type 0} (c : Change) (v : Volume) (old new : OnDisk D) (r : Result Usn CallError) → why_no_room (c ∷ []) v ≡ None → volume.Answers c v old r new → IfErr r StopsOnly
stops_alone c v old new (Ok n) none h = record {}
stops_alone c v old new (Err q) none h = not_refused c v old new q none h

-- the loop

pub goes_err : {D : Type 0} (state : D → State) (dir : ItemId) (f : Book → Book) (last : Change) (records : List AuxRecord) (before : List Change) (x m : Held D) (e : CallError) (r : Result (Unit {0}) CallError)
    → IsErrAnd r (λ z. z ≡ e) → GoesOn state dir f last records before x (Err e) m → GoesOn state dir f last records before x r m
goes_err {D} state dir f last records before x m e r is h =
    let p = err_from_is_err_and r is in subst (λ (q : Result (Unit {0}) CallError). GoesOn state dir f last records before x q m) (sym (p.1 ∙ ap (λ (z : CallError). Err z) p.2)) h

pub ok_of : {A E : Type 0} {P : Type 0} (r : Result A E) → P → IfOk r (λ a. P)
ok_of (Ok a) p = p
ok_of (Err e) p = record {}
