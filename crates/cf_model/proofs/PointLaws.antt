-- In every state of a run there is a point that a restart may open.
use Rattle.std.proofs.Common.{ℕ, ◌+◌, ◌<◌, ◌≤◌, false, List, [], ◌∷◌, length, min, refl, sym, subst, arith, inl, inr}
use Rattle.std.proofs.lemmas.List.{length-append, length-take}
use Rattle.cf_base.specs.declared.answers.Answer.{Answer}
use Rattle.cf_base.specs.declared.changes.Change.{Change}
use Rattle.cf_base.specs.declared.events.Event.{Event}
use Rattle.cf_base.specs.declared.policies.Mode.{Mode}
use Rattle.cf_model.specs.Books.{Book}
use Rattle.cf_model.specs.Changes.{put_with_book}
use Rattle.cf_model.specs.Lawful.{Runs}
use Rattle.cf_model.specs.Points.{ArePoints, HasPoints, Opens}
use Rattle.cf_model.specs.Restarts.{opened_at}
use Rattle.cf_model.specs.State.{Point, State, Volume, start}
use Rattle.cf_model.specs.Store.{Held}
use Rattle.cf_model.proofs.VolumeLaws.{ClosedVolume, runs_keep_volume}

same : (n : ℕ) → n ≤ n
same n = omega arith

further : (a n m : ℕ) → a ≤ n → n ≤ m → a ≤ m
further a n m h k = omega (arith, h, k)

of_longer : (n m : ℕ) (ps : List Point) → n ≤ m → ArePoints n ps → ArePoints m ps
of_longer n m [] k h = h
of_longer n m (p ∷ []) k h = (h.0, further p.count n m h.1 k)
of_longer n m (p ∷ q ∷ ps) k h = (h.0, further p.count n m h.1 k, h.2)

-- one more that is not sure
one_more : (n : ℕ) (b : Book) (ps : List Point) → ArePoints n ps → ArePoints n (record { sure = false; count = n; book = b } ∷ ps)
one_more n b [] h = elim h as (λ _. ArePoints n (record { sure = false; count = n; book = b } ∷ [])) [ ]
one_more n b (p ∷ ps) h = (refl, same n, h)

longer : (n : ℕ) → n ≤ n + 1
longer n = omega arith

put_has : (f : Book → Book) (c : Change) (v : Volume) → HasPoints v → HasPoints (put_with_book f c v)
put_has f c v h = subst (λ (n : ℕ). ArePoints n v.points) (sym (length-append v.log _)) (of_longer (length v.log) (length v.log + 1) v.points (longer (length v.log)) h)

-- a point that may be opened has no more changes than the log
in_log : (n : ℕ) (ps : List Point) (p : Point) → ArePoints n ps → Opens ps p → p.count ≤ n
in_log n [] p h is = elim is as (λ _. p.count ≤ n) [ ]
in_log n (q ∷ []) p h (inl e) = rw e h.1
in_log n (q ∷ []) p h (inr is) = elim is as (λ _. p.count ≤ n) [ ]
in_log n (q ∷ r ∷ ps) p h (inl e) = rw e h.1
in_log n (q ∷ r ∷ ps) p h (inr is) = further p.count q.count n (in_log q.count (r ∷ ps) p h.2 is) h.1

both : (a n : ℕ) → a ≤ n → a ≤ min a n
both a n h = omega (arith, h)

opened_has : (p : Point) (epoch : ℕ) (v : Volume) → Opens v.points p → v.epoch < epoch → HasPoints v → HasPoints (opened_at p epoch v)
opened_has p epoch v is small h =
    (refl, subst (λ (n : ℕ). p.count ≤ n) (sym (length-take p.count v.log)) (both p.count (length v.log) (in_log (length v.log) v.points p h is)))

has_closed : ClosedVolume HasPoints
has_closed = record {
  put = put_has;
  begins = λ v h. one_more (length v.log) v.book v.points h;
  sure = λ v h. (refl, same (length v.log));
  room = λ v h. one_more (length v.log) v.book v.points h;
  book = λ b v h. h;
  opens = opened_has;
}

pub runs_have_points : (m : Mode) (s : State) (trace : List (Event × Answer)) (t : State) → Runs m s trace t → HasPoints s.filter.volume → HasPoints t.filter.volume
runs_have_points m s trace t h i = runs_keep_volume HasPoints has_closed m s trace t h i

-- from the start
pub started_with_points : (m : Mode) (remote : Held) (clusters : ℕ) (trace : List (Event × Answer)) (t : State) → Runs m (start m remote clusters) trace t → HasPoints t.filter.volume
started_with_points m remote clusters trace t h = runs_have_points m (start m remote clusters) trace t h (refl, same 0)
