-- Auxiliary records that are put.
use Rattle.std.proofs.Common.{◌≡◌, ℕ, Bool, true, false, List, [], ◌∷◌, Option, Some, None, refl, sym, ◌∙◌, ap, subst}
use Rattle.std.proofs.lemmas.Result.{err_from_is_err_and}
use Rattle.std.specs.Prelude.{Err, IfOk, Ok, OnOk, Result, find, is_err, ◌==◌}
use Rattle.std.specs.Result.{IsErrAnd}
use Rattle.cf_filter_machine.proofs.Aims.{aims_book}
use Rattle.cf_base.specs.declared.answers.Access.{Access}
use Rattle.cf_base.specs.declared.answers.Anchor.{Anchor}
use Rattle.cf_base.specs.declared.answers.AuxRecord.{AuxRecord}
use Rattle.cf_base.specs.declared.codes.Code.{Code}
use Rattle.cf_base.specs.declared.codes.Code.TheVariants as code
use Rattle.cf_base.specs.declared.codes.CallError.{CallError}
use Rattle.cf_base.specs.declared.codes.CallError.TheVariants.{No}
use Rattle.cf_base.specs.declared.codes.CallError.TheVariants as fail
use Rattle.cf_base.specs.declared.ids.ItemId.{ItemId}
use Rattle.cf_base.specs.declared.memory.OutOfMemory.{OutOfMemory}
use Rattle.cf_disk.specs.Disk.{State}
use Rattle.cf_filter.proofs.Called.{is_broken, whole_again}
use Rattle.cf_filter.specs.Calling.{Told, answer_of, broken_by, is_stopped}
use Rattle.cf_filter.specs.PortLaws.{false_true}
use Rattle.cf_filter.specs.Recording.{Attempts, HasRoom, PutsRecord, aux_outcome, drop_outcome, put_told}
use Rattle.cf_filter_machine.proofs.BookSteps.{book_lost, book_moved}
use Rattle.cf_filter_machine.proofs.DeskSteps.{on_disk}
use Rattle.cf_filter_machine.specs.Entering.{held}
use Rattle.cf_filter_desk.specs.Desks.{Desk}
use Rattle.cf_filter_machine.specs.Held.{Held}
use Rattle.cf_filter_machine.specs.Keeping.{IsKeptVolume, IsRisingBy}
use Rattle.cf_filter_machine.specs.Lasting.{Moved}
use Rattle.cf_filter_machine.proofs.Rebooked.{rebooked}
use Rattle.cf_filter_machine.specs.Lasts.{lasts_at}
use Rattle.cf_filter_machine.specs.Sensing.{Stands, sense}
use Rattle.cf_model.specs.Arrows.{Arrow, attempt, noted, outcome, unless_done}
use Rattle.cf_model.specs.Books.{Book, aux_records}
use Rattle.cf_model.specs.Changes.{next_number}
use Rattle.cf_model.specs.Images.{table_full}
use Rattle.cf_model.specs.Items.{Item, item_of}
use Rattle.cf_model.specs.Numbers.{above, is_no_usn, no_usn}
use Rattle.cf_model.specs.State.{Filter, Volume}
use Rattle.cf_model.specs.Trees.{Ends}
use Rattle.cf_model.specs.Words.{first_of, part}
use Rattle.cf_volume_points.specs.At.{At}
use Rattle.cf_filter_steps.specs.Answering.{Answers}
use Rattle.cf_engine_host.specs.BookSteps.{put_outcome, why_full, with_book_of}
use Rattle.cf_engine_host.specs.BookSteps as host
use Rattle.cf_volume.specs.Calls.{HasRecords, OnDisk, WhyAux, put_record}

-- why a record was not put
full_of : {D : Type 0} (v : Volume) (b : Book) (old new : OnDisk D) (r : Result (Unit {0}) CallError) → r ≡ Err (No code.TableFull) → WhyAux v b old r new → (table_full v.items b ≡ true) × (new ≡ old)
full_of {D} v b old new r is h =
    let w : (code.TableFull ≡ code.TableFull) × (table_full v.items b ≡ true) × (new ≡ old) = subst (λ (q : Result (Unit {0}) CallError). WhyAux v b old q new) is h in
    (w.1, w.2)

module _ {D : Type 0} (state : D → State) (key : List ℕ) (value : Option (List ℕ)) (f : Book → Book) (old new : OnDisk D) (e : Desk) where
  -- by the records that are known
  as_known : (s : Filter) → Stands state (held old e) s → PutsRecord key value f s → HasRecords s.volume.book (put_record key value old.known.records) (f s.volume.book)
  as_known s h p = subst (λ (rs : List AuxRecord). HasRecords s.volume.book (put_record key value rs) (f s.volume.book)) (sym h.volume.now.records) p.has

  done_by : (o : Option Code) (s : Filter) → o ≡ None → Ends (unless_done (noted (with_book_of f)) o s) None (with_book_of f s)
  done_by o s none = subst (λ (c : Option Code). Ends (unless_done (noted (with_book_of f)) c s) None (with_book_of f s)) (sym none) (refl, refl)

  full_by : (o : Option Code) (s : Filter) → o ≡ Some code.TableFull → Ends (unless_done (noted (with_book_of f)) o s) (Some code.TableFull) s
  full_by o s full = subst (λ (c : Option Code). Ends (unless_done (noted (with_book_of f)) c s) (Some code.TableFull) s) (sym full) (refl, refl)

  record_put : new.disk ≡ old.disk → new.known.broken ≡ false
      → ((v : Volume) (b : Book) → At (state old.disk) old.known v → HasRecords v.book (put_record key value old.known.records) b → At (state new.disk) new.known (record v { book = b }))
      → ((v : Volume) (b : Book) → At (state old.disk) old.known v → HasRecords v.book (put_record key value old.known.records) b → old.known.broken ≡ false → table_full v.items b ≡ false)
      → Answers (sense state) (PutsRecord key value f) (attempt (why_full f) (noted (with_book_of f))) (held old e) (Ok None) (held new e)
  record_put same usable ok why = subst (λ (d : D). Answers (sense state) (PutsRecord key value f) (attempt (why_full f) (noted (with_book_of f))) (held old e) (Ok None) (record { disk = d; known = new.known; desk = e })) (sym same) (record {
    leads = λ s h p.
        let has = as_known s h p in
        let now = on_disk state new.known (with_book_of f s).volume same (ok s.volume (f s.volume.book) h.volume has) in
        let after : IsKeptVolume (with_book_of f s).volume = rebooked s.volume (f s.volume.book) now.now.fits.short (p.kept h.kept.book) h.kept in (
          with_book_of f s,
          done_by (why_full f s) s (ap (λ (t : Bool). first_of ((t, code.TableFull) ∷ [])) (why s.volume (f s.volume.book) h.volume has h.whole)),
          book_moved (state old.disk) s.volume (f s.volume.book) (lasts_at (state old.disk) old.known s.volume h.fair h.volume h.points),
          record {
            fair = h.fair;
            volume = now;
            desk = h.desk;
            whole = usable;
            good = record { volume = after.good; files = h.good.files; numbered = h.good.numbered; reads = h.good.reads };
            kept = after;
            points = h.points;
            aimed = aims_book (state old.disk).settings.aim s.volume (f s.volume.book) h.aimed;
          },
        );
  })

  module _ (full : (v : Volume) (b : Book) → At (state old.disk) old.known v → HasRecords v.book (put_record key value old.known.records) b → old.known.broken ≡ false → (table_full v.items b ≡ true) × (new ≡ old)) where
    record_full : Answers (sense state) (PutsRecord key value f) (attempt (why_full f) (noted (with_book_of f))) (held old e) (Ok (Some code.TableFull)) (held new e)
    record_full = record {
      leads = λ s h p.
          let w = full s.volume (f s.volume.book) h.volume (as_known s h p) h.whole in (
            s,
            full_by (why_full f s) s (ap (λ (t : Bool). first_of ((t, code.TableFull) ∷ [])) w.0),
            subst (λ (o : OnDisk D). Moved (state old.disk) (state o.disk) s.volume s.volume) (sym w.1) ((sense state).stays (held old e) s h),
            subst (λ (o : OnDisk D). Stands state (held o e) s) (sym w.1) h,
          );
    }

    record_same : (s : Filter) → Stands state (held old e) s → PutsRecord key value f s → held new e ≡ held old e
    record_same s h p = let w = full s.volume (f s.volume.book) h.volume (as_known s h p) h.whole in ap (λ (o : OnDisk D). held o e) w.1

  record_lost : new.disk ≡ old.disk → Answers (sense state) (PutsRecord key value f) (attempt (why_full f) (noted (with_book_of f))) (held old e) (Err fail.OutOfMemory) (held new e)
  record_lost same = book_lost state (PutsRecord key value f) (held old e) (held new e) new.known e (λ j. record { disk = same j; known = new.known; desk = e }) (attempt (why_full f) (noted (with_book_of f)))

  module _ (r : Result (Unit {0}) CallError) (why : (v : Volume) (b : Book) → At (state old.disk) old.known v → HasRecords v.book (put_record key value old.known.records) b → old.known.broken ≡ false → WhyAux v b old r new) where
    pub record_told : (q : Result Bool OutOfMemory) → HasRoom r q → new.disk ≡ old.disk → OnOk r (new.known.broken ≡ false)
        → ((v : Volume) (b : Book) → At (state old.disk) old.known v → HasRecords v.book (put_record key value old.known.records) b → OnOk r (At (state new.disk) new.known (record v { book = b })))
        → Answers (sense state) (PutsRecord key value f) (attempt (why_full f) (noted (with_book_of f))) (held old e) (aux_outcome q) (held new e)
    record_told (Ok true) is same usable ok =
        record_put same (subst (λ (x : Result (Unit {0}) CallError). OnOk x (new.known.broken ≡ false)) is usable)
        (λ v b at has. subst (λ (x : Result (Unit {0}) CallError). OnOk x (At (state new.disk) new.known (record v { book = b }))) is (ok v b at has))
        (λ v b at has whole. subst (λ (x : Result (Unit {0}) CallError). WhyAux v b old x new) is (why v b at has whole))
    record_told (Ok false) is same usable ok = record_full (λ v b at has whole. full_of v b old new r is (why v b at has whole))
    record_told (Err m) is same usable ok = record_lost same

    pub record_stays : (q : Result Bool OutOfMemory) → HasRoom r q → (s : Filter) → Stands state (held old e) s → PutsRecord key value f s → IfOk q (λ put. put ≡ false → held new e ≡ held old e)
    record_stays (Ok true) is s h p = λ bad. false_true (sym bad)
    record_stays (Ok false) is s h p = λ none. record_same (λ v b at has whole. full_of v b old new r is (why v b at has whole)) s h p
    record_stays (Err m) is s h p = record {}

-- a call, from its parts

-- as another sees the machine inside
pub seen_same : {D : Type 0} (state : D → State) (P : Filter → Type 0) {x y : Held D} (first : Result Bool OutOfMemory) (mid : Held D) → x ≡ y → ((s : Filter) → Stands state x s → P s → IfOk first (λ put. put ≡ false → mid ≡ x)) → (s : Filter) → Stands state y s → P s → IfOk first (λ put. put ≡ false → mid ≡ y)
seen_same {D} state P {x} {y} first mid same h = subst (λ (z : Held D). (s : Filter) → Stands state z s → P s → IfOk first (λ put. put ≡ false → mid ≡ z)) same h

abbrev is_refused : Result (Option Code) CallError → Bool
is_refused (Ok (Some c)) = true
is_refused (Ok None) = false
is_refused (Err e) = false

module _ {D : Type 0} (state : D → State) (P : Filter → Type 0) (why : Filter → Option Code) (step : Arrow Filter (Unit {0})) where
  ended : (first : Result Bool OutOfMemory) (x mid : Held D) → Answers (sense state) P (attempt why step) x (aux_outcome first) mid → Answers (sense state) P (attempt why step) x (aux_outcome first) (broken_by (is_stopped (put_told first)) mid)
  unfolding broken_by
  ended (Ok true) x mid h = record { leads = λ s i p. let a = h.leads s i p in (a.0, a.1, a.2, whole_again state mid a.0 a.3) }
  ended (Ok false) x mid h = record { leads = λ s i p. let a = h.leads s i p in (a.0, a.1, a.2, whole_again state mid a.0 a.3) }
  ended (Err e) x mid h = record { leads = λ s i p. let a = h.leads s i p in (a.0, a.1, a.2, a.3) }

  outcome_put : (first : Result Bool OutOfMemory) → outcome (answer_of (put_told first)) ≡ aux_outcome first
  outcome_put (Ok true) = refl
  outcome_put (Ok false) = refl
  outcome_put (Err e) = refl

  stopped_put : (first : Result Bool OutOfMemory) → is_stopped (put_told first) ≡ is_err (aux_outcome first)
  stopped_put (Ok true) = refl
  stopped_put (Ok false) = refl
  stopped_put (Err e) = refl

  still : (first : Result Bool OutOfMemory) (x mid : Held D) (c : Code) → x.desk.broken ≡ false → IfOk first (λ put. put ≡ false → mid ≡ x) → aux_outcome first ≡ Ok (Some c) → broken_by (is_stopped (put_told first)) mid ≡ x
  unfolding broken_by
  still (Ok true) x mid c whole same refused = false_true (ap is_refused refused)
  still (Ok false) x mid c whole same refused =
      ap (λ (y : Held D). record y { desk = record y.desk { broken = false } }) (same refl)
      ∙ ap (λ (b : Bool). record x { desk = record x.desk { broken = b } }) (sym whole)
  still (Err e) x mid c whole same refused = false_true (ap is_refused refused)

  pub attempted : (x mid new : Held D) (first : Result Bool OutOfMemory) (r : Result (Unit {0}) CallError) (q : Told (Unit {0})) → x.desk.broken ≡ false → Answers (sense state) P (attempt why step) x (aux_outcome first) mid
      → ((s : Filter) → Stands state x s → P s → IfOk first (λ put. put ≡ false → mid ≡ x)) → q ≡ put_told first → r ≡ answer_of q → new ≡ broken_by (is_stopped q) mid → Attempts (sense state) P why step x r new
  attempted x mid new first r q whole h stays gives is after =
      let same : outcome r ≡ aux_outcome first = ap (λ (o : Result (Unit {0}) CallError). outcome o) (is ∙ ap (λ (o : Told (Unit {0})). answer_of o) gives) ∙ outcome_put first in
      let now : new ≡ broken_by (is_stopped (put_told first)) mid = after ∙ ap (λ (o : Told (Unit {0})). broken_by (is_stopped o) mid) gives in record {
        broken = λ broken. false_true (sym whole ∙ broken);
        does = λ usable. (
          subst (λ (o : Result (Option Code) CallError). Answers (sense state) P (attempt why step) x o new) (sym same)
              (subst (λ (y : Held D). Answers (sense state) P (attempt why step) x (aux_outcome first) y) (sym now) (ended first x mid h)),
          is_broken state (is_stopped (put_told first)) mid new now ∙ stopped_put first ∙ ap (λ (o : Result (Option Code) CallError). is_err o) (sym same),
        );
        stays = λ usable s i p c refused. now ∙ still first x mid c whole (stays s i p) (sym same ∙ refused);
      }

  -- a call of a broken filter
  pub attempted_not : (old new : Held D) (e : CallError) (r : Result (Unit {0}) CallError) → e ≡ No code.Broken → old.desk.broken ≡ true → IsErrAnd r (λ y. y ≡ e) → new ≡ old → Attempts (sense state) P why step old r new
  attempted_not old new e r is broken err same =
      let o = err_from_is_err_and r err in record {
        broken = λ h. (o.1 ∙ ap (λ (y : CallError). Err y) (o.2 ∙ is), same);
        does = λ whole. false_true (sym whole ∙ broken);
        stays = λ whole. false_true (sym whole ∙ broken);
      }

-- steps of an engine

pub puts_record : (key : List ℕ) (value : Option (List ℕ)) (f : Book → Book) (s : Filter) → host.HasRecords (put_record key value (aux_records s.volume.book)) f s → PutsRecord key value f s
puts_record key value f s h = record {
  has = record { told = h.records; anchors = h.anchors; clock = h.clock; accesses = h.accesses };
  kept = λ k. record {
    anchors = subst (λ (a : List Anchor). (id : ItemId) → above (next_number s.volume) (part (λ z. z.number) no_usn (find (λ z. z.item.0 == id.0) a)) ≡ true) (sym h.anchors) k.anchors;
    accesses = subst (λ (a : List Access). (id : ItemId) (i : Item) → item_of s.volume.items id ≡ Some i → i.directory ≡ true → part (λ z. z.clock) 0 (find (λ z. z.item.0 == id.0) a) ≡ 0) (sym h.accesses) k.accesses;
    fits = h.fits;
    graves = h.tombstones k.graves;
    anchors_rise = subst (λ (a : List Anchor). IsRisingBy (λ z. z.item.0) (λ z. is_no_usn z.number ≡ false) a) (sym h.anchors) k.anchors_rise;
    accesses_rise = subst (λ (a : List Access). IsRisingBy (λ z. z.item.0) (λ z. (z.clock == 0) ≡ false) a) (sym h.accesses) k.accesses_rise;
  };
}

-- a record that stands on its own, by its parts
pub puts_beside : (r : AuxRecord) (key value : List ℕ) (f : Book → Book) (s : Filter) → key ≡ r.key → value ≡ r.value → host.PutsBeside r f s → PutsRecord key (Some value) f s
puts_beside r key value f s k v h =
    subst (λ (a : List ℕ). PutsRecord a (Some value) f s) (sym k) (subst (λ (b : List ℕ). PutsRecord r.key (Some b) f s) (sym v) (puts_record r.key (Some r.value) f s h))

pub put_given : {D : Type 0} (state : D → State) (P : Filter → Type 0) (step : Arrow Filter (Option Code)) (x y : Held D) (put : Bool) → Answers (sense state) P step x (aux_outcome (Ok put)) y → Answers (sense state) P step x (put_outcome (Ok put)) y
put_given state P step x y true h = h
put_given state P step x y false h = h

pub put_lost : {D : Type 0} (state : D → State) (P : Filter → Type 0) (step : Arrow Filter (Option Code)) (x y : Held D) (r : Result Bool CallError) → IsErrAnd r (λ z. z ≡ fail.OutOfMemory) → Answers (sense state) P step x (Err fail.OutOfMemory) y
    → Answers (sense state) P step x (put_outcome r) y
put_lost state P step x y r is h =
    let o = err_from_is_err_and r is in subst (λ (z : Result Bool CallError). Answers (sense state) P step x (put_outcome z) y) (sym (o.1 ∙ ap (λ (z : CallError). Err z) o.2)) h

module _ {D : Type 0} (state : D → State) (P : Filter → Type 0) (why : Filter → Option Code) (g : Filter → Filter) (x y : Held D) where
  done_alone : (o : Option Code) (s t : Filter) → Ends (unless_done (noted g) o s) None t → t ≡ g s
  done_alone None s t h = h.1
  done_alone (Some c) s t h = let z : ◌≡◌ {A = Option Code} None (Some c) = h.0 in absurd cc

  pub drop_done : (q : Result Bool OutOfMemory) → Answers (sense state) P (attempt why (noted g)) x (aux_outcome q) y → Answers (sense state) P (noted g) x (drop_outcome q) y
  drop_done (Ok true) h = record { leads = λ s i p. let l = h.leads s i p in (l.0, (refl, done_alone (why s) s l.0 l.1), l.2, l.3) }
  drop_done (Ok false) h = record { leads = λ s i p. let l = h.leads s i p in (l.0, record {}, l.2, (sense state).endures y l.0 l.3) }
  drop_done (Err e) h = record { leads = λ s i p. let l = h.leads s i p in (l.0, record {}, l.2, l.3) }
