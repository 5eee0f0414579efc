-- How the past of a disk goes on by one call.
use Rattle.std.proofs.Common.{◌≡◌, ◌⊎◌, inl, inr, ℕ, ◌+◌, ◌^◌, ◌<◌, ◌≤◌, List, [], ◌∷◌, ◌++◌, length, take, Option, Some, None, Bool, true, false, cond, ltb, sym, subst, refl, arith}
use Rattle.std.proofs.lemmas.Bool.{cases_lt}
use Rattle.std.proofs.lemmas.List.{take_all, take-append-le, length-append}
use Rattle.cf_base.specs.declared.policies.Choice.{Choice}
use Rattle.cf_disk.specs.declared.trails.Head.{Head}
use Rattle.cf_disk.specs.Disk.{AddsPower}
use Rattle.cf_disk.specs.PowerBooks.{PowerBook, added}
use Rattle.cf_disk.specs.Images.{Held, IsImage}
use Rattle.cf_disk.specs.Trails.{step, run_calls, MovesOn}
use Rattle.cf_disk.specs.TraceState.{Since, moment_of}

pub run_push : (h : Held) (cs : List (Head × List ℕ)) (c : Head × List ℕ) → run_calls h (cs ++ c ∷ []) ≡ step c (run_calls h cs)
unfolding run_calls
run_push h [] c = refl
run_push h (x ∷ xs) c = run_push (step x h) xs c

-- one more call
pub traced_push : (start now next : Held) (cs new : List (Head × List ℕ)) (c : Head × List ℕ) → now ≡ run_calls start cs → new ≡ cs ++ c ∷ [] → next ≡ step c now → next ≡ run_calls start new
traced_push start now next cs new c is new_is next_is = rw (new_is, next_is, run_push start cs c, sym is) refl

pub moment_push : (before : Option ℕ) (cs new : List (Head × List ℕ)) (c : Head × List ℕ) → new ≡ cs ++ c ∷ [] → moment_of before (length cs) ≤ moment_of before (length new)
moment_push None cs new c is = omega arith
moment_push (Some b) cs new c is = rw is (omega (arith, length-append cs (c ∷ [])))

module _ (start next : Held) (cs new : List (Head × List ℕ)) (c : Head × List ℕ) (new_is : new ≡ cs ++ c ∷ []) (traced : next ≡ run_calls start new) where
  pub since_push : (before : Option ℕ) (t : ℕ) (image : List ℕ) → Since before start new t image → Since before start cs t image ⊎ IsImage next image
  since_push None t image left = absurd left
  since_push (Some b) t image left = elim (cases_lt (length cs) left.1.0) [
    | inl later ↦
        let all : take left.1.0 new ≡ new = take_all left.1.0 new (rw new_is (omega (arith, later, length-append cs (c ∷ [])))) in
        inr (subst (λ (h : Held). IsImage h image) (sym traced) (subst (λ (l : List (Head × List ℕ)). IsImage (run_calls start l) image) all left.1.3))
    | inr before ↦
        let same : take left.1.0 new ≡ take left.1.0 cs = rw new_is (take-append-le left.1.0 cs (c ∷ []) before) in
        inl (left.0, (left.1.0, left.1.1, before, subst (λ (l : List (Head × List ℕ)). IsImage (run_calls start l) image) same left.1.3))
  ]

  pub kept_push : (before : Option ℕ) (t : ℕ) (image : List ℕ) → Since before start cs t image → Since before start new t image
  kept_push None t image left = absurd left
  kept_push (Some b) t image left =
      let same : take left.1.0 new ≡ take left.1.0 cs = rw new_is (take-append-le left.1.0 cs (c ∷ []) left.1.2) in
      let size : length new ≡ length cs + 1 = rw new_is (length-append cs (c ∷ [])) in
      (left.0, (left.1.0, left.1.1, omega (arith, left.1.2, size), subst (λ (l : List (Head × List ℕ)). IsImage (run_calls start l) image) (sym same) left.1.3))

pub run_none : (h : Held) → run_calls h [] ≡ h
unfolding run_calls
run_none h = refl

-- a power cut begins a new past
pub moment_power : (before new : Option ℕ) (calls : ℕ) → calls < 2 ^ 64 → ((b : ℕ) → before ≡ Some b → b < 2 ^ 64) → MovesOn before calls new → moment_of before calls ≤ moment_of new 0
moment_power None new calls few small moves = rw moves (omega arith)
moment_power (Some b) None calls few small moves = omega (arith, few, small b refl)
moment_power (Some b) (Some n) calls few small moves = omega (arith, moves)

pub since_power : (before new : Option ℕ) (start : Held) (calls t : ℕ) (image : List ℕ) → t ≤ moment_of before calls → MovesOn before calls new → Since new start [] t image → ⊥
since_power None new start calls t image le moves left = subst (λ (o : Option ℕ). Since o start [] t image) moves left
since_power (Some b) None start calls t image le moves left = left
since_power (Some b) (Some n) start calls t image le moves left = omega (arith, le, moves, left.0)

-- the list of power cuts has one more, or is no longer reported
pub adds_power : (choice : Choice) (image seen : List ℕ) (old new : PowerBook) → new ≡ added choice image old → image ≡ seen
    → AddsPower choice seen (cond old.told (Some old.kept) None) (cond new.told (Some new.kept) None)
adds_power choice image seen old new is same = rw (is, same) (cases old.told (ltb (length old.kept) old.most))
  where
    cases : (told more : Bool) → AddsPower choice seen (cond told (Some old.kept) None) (cond (cond more told false) (Some (cond more (old.kept ++ (choice, seen) ∷ []) old.kept)) None)
    cases true true = refl
    cases true false = tt
    cases false true = tt
    cases false false = tt
