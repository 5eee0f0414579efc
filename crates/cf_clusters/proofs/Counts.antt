-- How many uses pass a test, after a change of one and after a commit.
use Rattle.std.proofs.Common.{◌≡◌, ℕ, zero, suc, ◌+◌, ◌<◌, Bool, true, false, cond, List, [], ◌∷◌, length, Option, Some, None, get_or, set, map, inl, inr, ◌≤◌, refl, ap, arith}
use Rattle.std.proofs.lemmas.Bool.{cases_Bool}
use Rattle.cf_clusters.specs.declared.uses.Use.{Use}
use Rattle.cf_clusters.specs.declared.uses.Use.TheVariants.{Free, Held, Staged, Dropped}
use Rattle.std.specs.Prelude.{◌-◌}
use Rattle.std.proofs.lemmas.List.{length-map}
use Rattle.cf_clusters.specs.Layout.{IsLayout, use_at, uses_from}
use Rattle.cf_clusters.specs.Roles.{how_many, is_free, is_now, is_dropped, use_of, committed, dropped, dropped_at, staged_at}

pub how_many-set : (test : Use → Bool) (us : List Use) (k : ℕ) (u d : Use) → k < length us → how_many test (set us k u) + cond (test (get_or us k d)) 1 0 ≡ how_many test us + cond (test u) 1 0
how_many-set test [] k u d lt = absurd (omega arith)
how_many-set test (v ∷ us) zero u d lt = omega arith
how_many-set test (v ∷ us) (suc k) u d lt = omega (arith, how_many-set test us k u d (omega arith))

-- after a commit the dropped ones are free too
pub free_committed : (us : List Use) → how_many is_free (map committed us) ≡ how_many is_free us + how_many is_dropped us
free_committed [] = refl
free_committed (Free ∷ us) = omega (arith, free_committed us)
free_committed (Held ∷ us) = omega (arith, free_committed us)
free_committed (Staged ∷ us) = omega (arith, free_committed us)
free_committed (Dropped ∷ us) = omega (arith, free_committed us)

pub none_dropped : (us : List Use) → how_many is_dropped (map committed us) ≡ 0
none_dropped [] = refl
none_dropped (Free ∷ us) = omega (arith, none_dropped us)
none_dropped (Held ∷ us) = omega (arith, none_dropped us)
none_dropped (Staged ∷ us) = omega (arith, none_dropped us)
none_dropped (Dropped ∷ us) = omega (arith, none_dropped us)

-- each cluster is free, held now or dropped
pub uses_add_up : (us : List Use) → how_many is_free us + how_many is_now us + how_many is_dropped us ≡ length us
uses_add_up [] = refl
uses_add_up (Free ∷ us) = omega (arith, uses_add_up us)
uses_add_up (Held ∷ us) = omega (arith, uses_add_up us)
uses_add_up (Staged ∷ us) = omega (arith, uses_add_up us)
uses_add_up (Dropped ∷ us) = omega (arith, uses_add_up us)

pub now_committed : (us : List Use) → how_many is_now (map committed us) ≡ how_many is_now us
now_committed [] = refl
now_committed (Free ∷ us) = omega (arith, now_committed us)
now_committed (Held ∷ us) = omega (arith, now_committed us)
now_committed (Staged ∷ us) = omega (arith, now_committed us)
now_committed (Dropped ∷ us) = omega (arith, now_committed us)

-- one more is held now
pub now_staged : (us : List Use) (k : ℕ) → k < length us → use_of us k ≡ Free → how_many is_now (set us k Staged) ≡ how_many is_now us + 1
now_staged us k lt free = let weight : Use → ℕ = λ u. cond (is_now u) 1 0 in omega (arith, how_many-set is_now us k Staged Held lt, ap weight free)

-- one less is
pub now_dropped : (us : List Use) (k : ℕ) → k < length us → is_now (use_of us k) ≡ true → how_many is_now (dropped_at k us) + 1 ≡ how_many is_now us
now_dropped us k lt now = let weight : Bool → ℕ = λ b. cond b 1 0 in omega (arith, how_many-set is_now us k (dropped (use_of us k)) Held lt, ap weight now, gone (use_of us k)) where
  gone : (u : Use) → ◌≡◌ {A = ℕ} (cond (is_now (dropped u)) 1 0) 0
  gone Free = refl
  gone Held = refl
  gone Staged = refl
  gone Dropped = refl

-- where none passes the test, no cluster does
pub none_pass : (test : Use → Bool) (us : List Use) (k : ℕ) → how_many test us ≡ 0 → k < length us → test (use_of us k) ≡ false
none_pass test [] k none lt = absurd (omega arith)
none_pass test (u ∷ us) zero none lt = elim (cases_Bool (test u)) [
  | inl hit ↦ let weight : Bool → ℕ = λ b. cond b 1 0 in absurd (omega (arith, none, ap weight hit))
  | inr miss ↦ miss
]
none_pass test (u ∷ us) (suc k) none lt = none_pass test us k (omega (arith, none)) (omega arith)

-- a drop makes no cluster less free
drop_frees : (us : List Use) (o : ℕ) → how_many is_free us ≤ how_many is_free (dropped_at o us)
drop_frees [] o = omega arith
drop_frees (Free ∷ us) zero = omega arith
drop_frees (Held ∷ us) zero = omega arith
drop_frees (Staged ∷ us) zero = omega arith
drop_frees (Dropped ∷ us) zero = omega arith
drop_frees (u ∷ us) (suc o) = omega (arith, drop_frees us o)

-- a stage takes one free cluster at most
pub free_staged : (us : List Use) (k : ℕ) (old : Option ℕ) → k < length us → use_of us k ≡ Free → how_many is_free us ≤ how_many is_free (staged_at k old us) + 1
free_staged us k None lt free = let weight : Use → ℕ = λ u. cond (is_free u) 1 0 in omega (arith, how_many-set is_free us k Staged Held lt, ap weight free)
free_staged us k (Some o) lt free = let weight : Use → ℕ = λ u. cond (is_free u) 1 0 in
    omega (arith, how_many-set is_free us k Staged Held lt, ap weight free, drop_frees (set us k Staged) o)

-- how many the state holds, by the bounds of the order
pub now_count : (order places : List ℕ) (free staged held : ℕ) → IsLayout order places free staged held → length places - staged ≡ how_many is_now (uses_from free staged held places)
now_count order places free staged held layout =
    let all = uses_add_up (uses_from free staged held places) in
    let long = length-map places (use_at free staged held) in
    omega (arith, all, long, layout.free_count, layout.dropped_count, layout.first, layout.second, layout.third, layout.inverse.size)
