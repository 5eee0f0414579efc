-- What was flushed stays, whatever comes after it.
use Rattle.std.proofs.Common.{◌≡◌, ℕ, zero, suc, ◌+◌, ◌<◌, ◌≤◌, List, [], ◌∷◌, length, take, min, refl, sym, ◌∙◌, ap, subst, arith, inl, inr}
use Rattle.std.proofs.lemmas.List.{length-append, length-take, take-append-le}
use Rattle.std.proofs.Math.Seq.{take-length}
use Rattle.cf_base.specs.declared.answers.Answer.{Answer}
use Rattle.cf_base.specs.declared.answers.Shown.{Shown}
use Rattle.cf_base.specs.declared.changes.Change.{Change}
use Rattle.cf_base.specs.declared.events.Event.{Event}
use Rattle.cf_base.specs.declared.ids.Usn.{Usn}
use Rattle.cf_base.specs.declared.policies.Mode.{Mode}
use Rattle.cf_model.specs.Books.{Book}
use Rattle.cf_base.specs.declared.calls.Call.TheVariants as call
use Rattle.cf_base.specs.declared.events.Event.TheVariants as event
use Rattle.cf_model.specs.Events.{tree_of}
use Rattle.cf_model.specs.Changes.{put_with_book}
use Rattle.cf_model.specs.Flushed.{AtLeast, Holds, HoldsIn}
use Rattle.cf_model.specs.Lawful.{Runs}
use Rattle.cf_model.specs.Points.{Opens}
use Rattle.cf_model.specs.Restarts.{opened_at}
use Rattle.cf_model.specs.State.{Point, State, Volume}
use Rattle.cf_model.specs.Trees.{Ends}
use Rattle.cf_model.proofs.VolumeLaws.{ClosedVolume, runs_keep_volume}

abbrev Log : Type 0
Log = List (Usn × Change)

take_of_take : (n k : ℕ) (xs : Log) → n ≤ k → take n (take k xs) ≡ take n xs
take_of_take zero k xs h = refl
take_of_take (suc n) zero xs h = elim (none h) as (λ _. take (suc n) (take zero xs) ≡ take (suc n) xs) [ ] where
  none : suc n ≤ zero → ⊥
  none h = omega (arith, h)
take_of_take (suc n) (suc k) [] h = refl
take_of_take (suc n) (suc k) (x ∷ xs) h = ap (λ (ys : Log). x ∷ ys) (take_of_take n k xs (less h)) where
  less : suc n ≤ suc k → n ≤ k
  less h = omega (arith, h)

same : (n : ℕ) → n ≤ n
same n = omega arith

at_least_both : (n a b : ℕ) → n ≤ a → n ≤ b → n ≤ min a b
at_least_both n a b h k = omega (arith, h, k)

more : (n a : ℕ) → n ≤ a → n ≤ a + 1
more n a h = omega (arith, h)

at_least : (n : ℕ) (ps : List Point) (p : Point) → AtLeast n ps → Opens ps p → n ≤ p.count
at_least n [] p h is = elim is as (λ _. n ≤ p.count) [ ]
at_least n (q ∷ ps) p h (inl e) = rw e h.0
at_least n (q ∷ ps) p h (inr is) = at_least n ps p h.1 is

put_holds : (log : Log) (f : Book → Book) (c : Change) (v : Volume) → Holds log v → Holds log (put_with_book f c v)
put_holds log f c v h = (
  take-append-le (length log) v.log _ h.1 ∙ h.0,
  subst (λ (n : ℕ). length log ≤ n) (sym (length-append v.log _)) (more (length log) (length v.log) h.1),
  h.2,
)

opened_holds : (log : Log) (p : Point) (epoch : ℕ) (v : Volume) → Opens v.points p → v.epoch < epoch → Holds log v → Holds log (opened_at p epoch v)
opened_holds log p epoch v is small h =
    let many : length log ≤ p.count = at_least (length log) v.points p h.2 is in (
      take_of_take (length log) p.count v.log many ∙ h.0,
      subst (λ (n : ℕ). length log ≤ n) (sym (length-take p.count v.log)) (at_least_both (length log) p.count (length v.log) many h.1),
      (many, record {}),
    )

holds_closed : (log : Log) → ClosedVolume (Holds log)
holds_closed log = record {
  put = put_holds log;
  begins = λ v h. (h.0, h.1, (h.1, h.2));
  sure = λ v h. (h.0, h.1, (h.1, record {}));
  room = λ v h. (h.0, h.1, (h.1, h.2));
  book = λ b v h. h;
  opens = opened_holds log;
}

pub runs_hold : (log : Log) (m : Mode) (s : State) (trace : List (Event × Answer)) (t : State) → Runs m s trace t → HoldsIn log s → HoldsIn log t
runs_hold log m s trace t h i = runs_keep_volume (Holds log) (holds_closed log) m s trace t h i

-- after a flush that ended all changes so far are held
pub flush_holds : (s : State) (r : Shown) (t : State) → Ends (tree_of (event.Call call.Flush) s) r t → HoldsIn t.filter.volume.log t
flush_holds s r t (e, f) = rw f (take-length s.filter.volume.log, same _, (same _, record {}))

pub flushed_stays : (m : Mode) (s : State) (r : Shown) (mid : State) (trace : List (Event × Answer)) (t : State)
    → Ends (tree_of (event.Call call.Flush) s) r mid → Runs m mid trace t → HoldsIn mid.filter.volume.log t
flushed_stays m s r mid trace t e h = runs_hold mid.filter.volume.log m mid trace t h (flush_holds s r mid e)

pub flushed_is_front : (m : Mode) (s : State) (r : Shown) (mid : State) (trace : List (Event × Answer)) (t : State)
    → Ends (tree_of (event.Call call.Flush) s) r mid → Runs m mid trace t → take (length mid.filter.volume.log) t.filter.volume.log ≡ mid.filter.volume.log
flushed_is_front m s r mid trace t e h = (flushed_stays m s r mid trace t e h).0
