-- A change beside which an entry ends: why it is refused, and what it leaves.
use Rattle.std.proofs.Common.{◌≡◌, ℕ, Bool, true, false, List, [], ◌∷◌, refl, sym, ◌∙◌, ap, subst}
use Rattle.std.specs.Prelude.{Result, Ok, Err, Option, Some, None, option_map}
use Rattle.cf_base.specs.declared.answers.AuxRecord.{AuxRecord}
use Rattle.cf_base.specs.declared.changes.Change.{Change}
use Rattle.cf_base.specs.declared.codes.Code.{Code}
use Rattle.cf_base.specs.declared.codes.Code.TheVariants as code
use Rattle.cf_base.specs.declared.codes.CallError.{CallError}
use Rattle.cf_base.specs.declared.codes.CallError.TheVariants.{No, OutOfMemory}
use Rattle.cf_base.specs.declared.ids.Token.{Token}
use Rattle.cf_engine_host.specs.BookSteps.{DropsRecord, PutsBeside, put_outcome, why_full, with_book_of}
use Rattle.cf_engine_queue.specs.Books.{entry_value}
use Rattle.cf_engine_queue.specs.Records.{FitsKey, IsEntry, IsKeepable}
use Rattle.cf_engine_queue.specs.declared.uploads.QueueEntry.{QueueEntry as Entry}
use Rattle.cf_engine_replies.specs.Rebases.{PutsBack, ReadyIf, ReadyWithout, RefusedIf, StandsIf, change_and_mark, rebase_now, refused_without, without}
use Rattle.cf_engine_queue.proofs.PutBack.{entry_back}
use Rattle.cf_engine_steps.specs.Answering.{After, Answers, Any, On}
use Rattle.cf_engine_steps.specs.BookReads.{entry_in}
use Rattle.cf_engine_steps.specs.States.{Own, whole}
use Rattle.cf_engine_steps.specs.Suited.{IsSuited}
use Rattle.cf_engine_steps.proofs.BookTests.{drops_entry}
use Rattle.cf_engine_steps.proofs.Laws.{after_on, stops_first, then_any, then_on, weaker}
use Rattle.cf_engine_steps.proofs.Lifting.{lift_filter, mean_filter, quiet_change}
use Rattle.cf_engine_steps.proofs.Tried.{suits_high}
use Rattle.cf_filter_steps.specs.Answering as steps
use Rattle.cf_filter_steps.specs.Readings.{room_refusal}
use Rattle.cf_filter_steps.specs.Suiting.{Ready, Suiting, Suits}
use Rattle.cf_model.specs.Arrows.{Arrow, attempt, noted, reading, ret, unit, unless_done}
use Rattle.cf_model.specs.Books.{Book, QueueEntry, key_bytes, without_entry}
use Rattle.cf_model.specs.Changes.{change as one_change, why_no_room}
use Rattle.cf_model.specs.PushReplies.{rebase, rebase_unless, see_and_mark, take}
use Rattle.cf_model.specs.Skips.{change_refused, do_change, is_too_deep, or_else}
use Rattle.cf_model.specs.State.{Filter, State, Volume, with_filter}
use Rattle.cf_model.specs.Trees.{Does, Ends, Stops}
use Rattle.cf_model.specs.Words.{first_of}
use Rattle.cf_remote.specs.Told.{Told}

-- a record that is put where there is room for it

ended_put : (f : Book → Book) (o : Option Code) (s t : Filter) → Ends (unless_done (noted (with_book_of f)) o s) None t → t ≡ with_book_of f s
ended_put f None s t h = h.1
ended_put f (Some c) s t h = let z : ◌≡◌ {A = Option Code} None (Some c) = h.0 in absurd cc

no_stop : (f : Book → Book) (o : Option Code) (s t : Filter) → Stops (unless_done (noted (with_book_of f)) o s) t → ⊥
no_stop f None s t h = h
no_stop f (Some d) s t h = h

module _ {X : Type 0} (S : steps.Sense X) (P : Filter → Type 0) (f : Book → Book) (x y : X) where
  pub put_here : (b : Bool) → b ≡ true → steps.Answers S P (attempt (why_full f) (noted (with_book_of f))) x (put_outcome (Ok b)) y → steps.Answers S P (noted (with_book_of f)) x (Ok unit) y
  put_here true is h = record { leads = λ s i p. let l = h.leads s i p in (l.0, (refl, ended_put f (why_full f s) s l.0 l.1), l.2, l.3) }
  put_here false is h = let z : false ≡ true = is in cc

  pub put_nowhere : (b : Bool) → b ≡ false → steps.Answers S P (attempt (why_full f) (noted (with_book_of f))) x (put_outcome (Ok b)) y → steps.Answers S P (noted (with_book_of f)) x (Err OutOfMemory) y
  put_nowhere false is h = record { leads = λ s i p. let l = h.leads s i p in (l.0, record {}, l.2, S.endures y l.0 l.3) }
  put_nowhere true is h = let z : true ≡ false = is in cc

  pub put_lost : (q : CallError) → steps.Answers S P (attempt (why_full f) (noted (with_book_of f))) x (put_outcome (Err q)) y → steps.Answers S P (noted (with_book_of f)) x (Err q) y
  put_lost (No c) h = record { leads = λ s i p. absurd (no_stop f (why_full f s) s (h.leads s i p).0 (h.leads s i p).1.1) }
  put_lost OutOfMemory h = record { leads = λ s i p. let l = h.leads s i p in (l.0, record {}, l.2, l.3) }

-- why a change is refused now

deep_refused : (c : Change) (v : Volume) → is_too_deep v.items c ≡ true → change_refused c v ≡ Some code.TooDeep
deep_refused c v h = ap (λ (b : Bool). or_else (first_of ((b, code.TooDeep) ∷ [])) (why_no_room (c ∷ []) v)) h

room_refused : (c : Change) (v : Volume) → Suits c v → change_refused c v ≡ why_no_room (c ∷ []) v
room_refused c v h = ap (λ (b : Bool). or_else (first_of ((b, code.TooDeep) ∷ [])) (why_no_room (c ∷ []) v)) (suits_high c v h)

module _ {X : Type 0} (S : steps.Sense X) (c : Change) (x : X) (o : Option Code) where
  pub refused_deep : (d : Code) → o ≡ Some d → IsSuited S c x o → RefusedIf S c x (Some d)
  refused_deep d is h =
      let t = subst (λ (w : Option Code). IsSuited S c x w) is h in record {
        refused = λ s m. ap (λ (w : Code). Some w) t.0 ∙ sym (deep_refused c s.volume (t.1.deep refl s m));
        suits = λ none s m. let z : ◌≡◌ {A = Option Code} (Some d) None = none in cc;
      }

  pub refused_room : (cs : List Change) (w : Option Code) → cs ≡ c ∷ [] → o ≡ None → IsSuited S c x o → steps.Reads S (Suiting cs) (room_refusal cs) x w → RefusedIf S c x w
  refused_room cs w one is h reads =
      let t = subst (λ (z : Option Code). IsSuited S c x z) is h in
      let room = subst (λ (ds : List Change). steps.Reads S (Suiting ds) (room_refusal ds) x w) one reads in record {
        refused = λ s m. room.is s m (t.suits refl s m) ∙ sym (room_refused c s.volume (t.suits refl s m).0);
        suits = λ none s m. (t.suits refl s m).0;
      }

-- the record of the entry is taken out, and put back

puts_back : (token : Token) (r : AuxRecord) (s : Filter) → IsKeepable s.volume.book → PutsBack token r s → PutsBeside r (λ _. s.volume.book) (without token s)
puts_back token r s k p = record { records = sym p; anchors = refl; clock = refl; accesses = refl; fits = k; tombstones = λ h. h }

module _ {X : Type 0} (S : steps.Sense X) (token : Token) (c : Change) (r : AuxRecord) (x m : X) where
  pub out_fails : (q : CallError) → steps.Answers S steps.Any (noted (without token)) x (Err q) m → steps.Answers S (PutsBack token r) (reading (refused_without token c) ret) x (Err q) m
  out_fails (No d) h = record { leads = λ s i p. absurd (h.leads s i (record {})).1.1 }
  out_fails OutOfMemory h = record { leads = λ s i p. let l = h.leads s i (record {}) in (l.0, record {}, l.2, l.3) }

  module _ (u : Unit {0}) (out : steps.Answers S steps.Any (noted (without token)) x (Ok u) m) where
    taken : (s : Filter) → S.means x s → S.means m (without token s) × S.moved x m s (without token s)
    taken s i = let l = out.leads s i (record {}) in (subst (λ (t : Filter). S.means m t) l.1.1 l.3, subst (λ (t : Filter). S.moved x m s t) l.1.1 l.2)

    pub asks_fail : steps.Answers S (PutsBack token r) (reading (refused_without token c) ret) x (Err OutOfMemory) m
    asks_fail = record { leads = λ s i p. let t = taken s i in (without token s, record {}, t.1, S.endures m (without token s) t.0) }

    pub ready_by : (o : Option Code) → RefusedIf S c m o → ReadyIf S token c x o
    ready_by o h = record {
      ready = λ none s i.
          let t = (taken s i).0 in let suits = h.suits none (without token s) t in
          record { room = sym (room_refused c (without token s).volume suits) ∙ sym (h.refused (without token s) t) ∙ none; suits = suits };
    }

    module _ (keepable : (z : X) (s : Filter) → S.means z s → IsKeepable s.volume.book) (y : X) where
      pub back_fails : (q : CallError) → ((f : Book → Book) → steps.Answers S (PutsBeside r f) (noted (with_book_of f)) m (Err q) y) → steps.Answers S (PutsBack token r) (reading (refused_without token c) ret) x (Err q) y
      back_fails (No d) put = record { leads = λ s i p. absurd ((put (λ _. s.volume.book)).leads (without token s) (taken s i).0 (puts_back token r s (keepable x s i) p)).1.1 }
      back_fails OutOfMemory put = record {
        leads = λ s i p.
            let t = taken s i in let k = (put (λ _. s.volume.book)).leads (without token s) t.0 (puts_back token r s (keepable x s i) p) in
            (k.0, record {}, S.goes_on x m y s (without token s) k.0 t.1 k.2, k.3);
      }

      pub refused_back : (o : Option Code) (v : Unit {0}) → RefusedIf S c m o → ((f : Book → Book) → steps.Answers S (PutsBeside r f) (noted (with_book_of f)) m (Ok v) y) → steps.Answers S (PutsBack token r) (reading (refused_without token c) ret) x (Ok o) y
      refused_back o v h put = record {
        leads = λ s i p.
            let t = taken s i in let k = (put (λ _. s.volume.book)).leads (without token s) t.0 (puts_back token r s (keepable x s i) p) in
            let same : k.0 ≡ s = k.1.1 in (
              s,
              (h.refused (without token s) t.0, refl),
              subst (λ (z : Filter). S.moved x y s z) same (S.goes_on x m y s (without token s) k.0 t.1 k.2),
              subst (λ (z : Filter). S.means y z) same k.3,
            );
      }

-- the record of an entry that is live
pub stands_by : {X : Type 0} (S : steps.Sense X) (keepable : (z : X) (s : Filter) → S.means z s → IsKeepable s.volume.book) (token : Token) (x : X) (o : Option Entry) (e : Entry) (r : AuxRecord)
    → steps.Reads S steps.Any (entry_in token) x (option_map entry_value o) → o ≡ Some e → IsEntry r (entry_value e) → StandsIf S token r x
stands_by S keepable token x o e r reads is says = record {
  back = λ s i. entry_back s.volume.book token (entry_value e) r (keepable x s i) (ap (λ (z : Option Entry). option_map entry_value z) (sym is) ∙ reads.is s i (record {})) says;
}

pub refused_by : {X : Type 0} (S : steps.Sense X) (token : Token) (c : Change) (r : AuxRecord) (x y : X) (q : Result (Option Code) CallError) → StandsIf S token r x
    → steps.Answers S (PutsBack token r) (reading (refused_without token c) ret) x q y → steps.Answers S steps.Any (reading (refused_without token c) ret) x q y
refused_by S token c r x y q stands h = record { leads = λ s i p. h.leads s i (stands.back s i) }

-- without memory nothing is said of what was done
pub lost : {X A : Type 0} (S : steps.Sense X) (P : Filter → Type 0) (f : Arrow Filter A) (x : X) → steps.Answers S P f x (Err OutOfMemory) x
lost S P f x = record { leads = λ s i p. (s, record {}, S.stays x s i, S.endures x s i) }

pub taken_out : {X : Type 0} (S : steps.Sense X) (keepable : (z : X) (s : Filter) → S.means z s → IsKeepable s.volume.book) (token : Token) (key : List ℕ) (x y : X) (r : Result (Unit {0}) CallError) → FitsKey token.0 → key ≡ 113 ∷ key_bytes token.0
    → steps.Answers S (DropsRecord key (without_entry token)) (noted (without token)) x r y → steps.Answers S steps.Any (noted (without token)) x r y
taken_out S keepable token key x y r fits is h = record { leads = λ s i p. h.leads s i (drops_entry key token s fits is (keepable x s i)) }

-- the whole

module _ {X R : Type 0} (S : steps.Sense X) (told : R → Told) (d : QueueEntry) (c : Change) (x y : X) (e : Own R) where
  pub rebase_fails : (q : CallError) → steps.Answers S steps.Any (reading (refused_without d.token c) ret) x (Err q) y → Answers (whole S told) Any (rebase d c) (x, e) (Err q) (y, e)
  rebase_fails (No b) h = record { leads = λ s i p. absurd (h.leads s.filter i.filter (record {})).1.1 }
  rebase_fails OutOfMemory h = record { leads = λ s i p. let l = h.leads s.filter i.filter (record {}) in (with_filter l.0 s, record {}, l.2, l.3) }

  pub rebased : (P : State → Type 0) (z : X) (f : Own R) (o w : Option Code) (r : Result (Unit {0}) CallError) → ((s : State) → (whole S told).means (x, e) s → P s) → o ≡ w
      → steps.Answers S steps.Any (reading (refused_without d.token c) ret) x (Ok o) y → Answers (whole S told) P (rebase_unless d c w) (y, e) r (z, f) → Answers (whole S told) Any (rebase d c) (x, e) r (z, f)
  rebased P z f o w r holds is h k = record {
    leads = λ s i p.
        let l = h.leads s.filter i.filter (record {}) in
        let m = subst (λ (t : Filter). S.means y t) l.1.1 l.3 in
        let a = subst (λ (t : Filter). S.moved x y s.filter t) l.1.1 l.2 in
        let v = k.leads s (mean_filter S told x y e s s.filter i m) (holds s i) in
        subst (λ (b : Option Code). (t : State) × Does (rebase_unless d c b s) r t × (whole S told).moved (x, e) (z, f) s t × After (whole S told) (x, e) r (z, f) s t) (sym is ∙ l.1.0) (
          v.0,
          v.1,
          S.goes_on x y z s.filter s.filter v.0.filter a v.2,
          after_on (whole S told) (x, e) (y, e) (z, f) s s v.0 r a ((whole S told).counts_none (x, e) s) v.3,
        );
  }

module _ {X R : Type 0} (S : steps.Sense X) (told : R → Told) (d : QueueEntry) (c : Change) (x y : X) where
  pub change_lost : (e : Own R) (q : CallError) → steps.Answers S (Ready c) (one_change c) x (Err q) y → Answers (whole S told) (On (Ready c)) (change_and_mark d c) (x, e) (Err q) (y, e)
  change_lost e q h = stops_first (whole S told) (On (Ready c)) (do_change c) (see_and_mark d) (x, e) (y, e) q (lift_filter S told (Ready c) (one_change c) x y e (Err q) (quiet_change c) h)

  pub changed : (z : X) (e f : Own R) (u : Unit {0}) (r : Result (Unit {0}) CallError) → steps.Answers S (Ready c) (one_change c) x (Ok u) y → Answers (whole S told) Any (see_and_mark d) (y, e) r (z, f) → Answers (whole S told) (On (Ready c)) (change_and_mark d c) (x, e) r (z, f)
  changed z e f u r h k = then_any (whole S told) (On (Ready c)) (do_change c) (see_and_mark d) (x, e) (y, e) (z, f) u r (lift_filter S told (Ready c) (one_change c) x y e (Ok u) (quiet_change c) h) k

module _ {X R : Type 0} (S : steps.Sense X) (told : R → Told) (d : QueueEntry) (c : Change) (x y : X) where
  pub take_lost : (e f : Own R) (q : CallError) → Answers (whole S told) Any (take d) (x, e) (Err q) (y, f) → Answers (whole S told) (On (ReadyWithout d.token c)) (rebase_now d c) (x, e) (Err q) (y, f)
  take_lost e f q h = weaker (whole S told) Any (On (ReadyWithout d.token c)) (rebase_now d c) (x, e) (y, f) (Err q) (λ s p. record {}) (stops_first (whole S told) Any (take d) (change_and_mark d c) (x, e) (y, f) q h)

  pub taken_and_changed : (z : X) (e f g : Own R) (u : Unit {0}) (r : Result (Unit {0}) CallError) → Answers (whole S told) Any (take d) (x, e) (Ok u) (y, f) → Answers (whole S told) (On (Ready c)) (change_and_mark d c) (y, f) r (z, g)
      → Answers (whole S told) (On (ReadyWithout d.token c)) (rebase_now d c) (x, e) r (z, g)
  taken_and_changed z e f g u r h k = then_on (whole S told) (On (ReadyWithout d.token c)) (On (Ready c)) (take d) (change_and_mark d c) (x, e) (y, f) (z, g) u r
      (λ s t p ends. subst (λ (w : State). Ready c w.filter) (sym ends.1) p)
      (weaker (whole S told) Any (On (ReadyWithout d.token c)) (take d) (x, e) (y, f) (Ok u) (λ s p. record {}) h) k
