-- What stands at a place once bytes are put over others.
use Rattle.std.proofs.Common.{◌≡◌, ℕ, ◌+◌, ◌-◌, ◌*◌, ◌<◌, ◌≤◌, Bool, true, false, cond, List, ◌++◌, length, take, drop, replicate, min, max, refl, sym, ◌∙◌, ap, arith, ◌==◌, inl, inr, length-append, length-take, length-drop}
use Rattle.std.specs.List.{slice_range}
use Rattle.std.proofs.lemmas.Bool.{cases_lt, true≢false}
use Rattle.std.proofs.lemmas.List.{length-replicate}
use Rattle.std.proofs.lemmas.Bool.Decides.{nat_tests}
use Rattle.cf_volume_blocks.specs.Bytes.{Clears, Lays, has_at}
use Rattle.cf_disk.specs.Splice.{over, length-over}
use Rattle.cf_model.proofs.Places.{passes_back, passes_drop, passes_front, passes_replicate, passes_take}
use Rattle.cf_model.specs.Words.{within}

-- the three cases of a place
in_run : (from to p : ℕ) {A : Type 0} (x y z : A) → from ≤ p → p < to → z ≡ x → z ≡ cond (within from to p) x y
in_run from to p {A} x y z low high e = e ∙ sym (ap (λ (b : Bool). cond b x y) (inside low high))
  where
    inside : from ≤ p → p < to → within from to p ≡ true
    inside a b = grind (arith, nat_tests)

before_run : (from to p : ℕ) {A : Type 0} (x y z : A) → p < from → z ≡ y → z ≡ cond (within from to p) x y
before_run from to p {A} x y z low e = e ∙ sym (ap (λ (b : Bool). cond b x y) (outside low))
  where
    outside : p < from → within from to p ≡ false
    outside a = grind (arith, nat_tests)

after_run : (from to p : ℕ) {A : Type 0} (x y z : A) → to ≤ p → z ≡ y → z ≡ cond (within from to p) x y
after_run from to p {A} x y z high e = e ∙ sym (ap (λ (b : Bool). cond b x y) (outside high))
  where
    outside : to ≤ p → within from to p ≡ false
    outside a = grind (arith, nat_tests)

pub over_at : (at : ℕ) (mid xs : List ℕ) (q v : ℕ) → at + length mid ≤ length xs → has_at (over at mid xs) q v ≡ cond (within at (at + length mid) q) (has_at mid (q - at) v) (has_at xs q v)
over_at at mid xs q v room = elim (cases_lt q at) [
  | inl low ↦ before_run at (at + length mid) q (has_at mid (q - at) v) (has_at xs q v) (has_at (over at mid xs) q v) low
      (passes_front is (take at xs ++ mid) (drop (at + length mid) xs) q (omega (arith, head)) ∙ passes_front is (take at xs) mid q (omega (arith, front)) ∙ passes_take is at xs q low)
  | inr high ↦ elim (cases_lt q (at + length mid)) [
    | inl within_it ↦ in_run at (at + length mid) q (has_at mid (q - at) v) (has_at xs q v) (has_at (over at mid xs) q v) high within_it
        (passes_front is (take at xs ++ mid) (drop (at + length mid) xs) q (omega (arith, head)) ∙ passes_back is (take at xs) mid q (q - at) (omega (arith, front)))
    | inr past ↦ after_run at (at + length mid) q (has_at mid (q - at) v) (has_at xs q v) (has_at (over at mid xs) q v) past
        (passes_back is (take at xs ++ mid) (drop (at + length mid) xs) q (q - (at + length mid)) (omega (arith, head)) ∙ passes_drop is (at + length mid) xs q (q - (at + length mid)) (omega arith))
  ]
]
  where
    is : ℕ → Bool
    is b = b == v

    front : length (take at xs) ≡ at
    front = omega (arith, length-take at xs)

    head : length (take at xs ++ mid) ≡ at + length mid
    head = omega (arith, length-append (take at xs) mid, front)

-- the same test, and the same where it holds
pub two : (b c : Bool) (x y z : Bool) → b ≡ c → (b ≡ true → x ≡ y) → cond b x z ≡ cond c y z
two true true x y z e f = f refl
two false false x y z e f = refl
two true false x y z e f = absurd (true≢false e)
two false true x y z e f = absurd (true≢false (sym e))

-- bytes of a run of the file that lie in a block
pub lays : (number at from to : ℕ) (bytes mid old new : List ℕ) → from ≡ max at (4096 * number) → to ≡ min (at + length bytes) (4096 * number + 4096) → from < to → length old ≡ 4096
    → mid ≡ slice_range bytes (from - at) (to - at) → new ≡ over (from - 4096 * number) mid old → Lays number at bytes old new
lays number at from to bytes mid old new from_is to_is less size mid_is new_is = record {
  size = ap length new_is ∙ length-over 0 (from - 4096 * number) mid old room;
  each = λ q v low. ap (λ (l : List ℕ). has_at l q v) new_is ∙ over_at (from - 4096 * number) mid old q v room ∙ at_place q v low;
}
  where
    long : length mid ≡ to - from
    long = ap length mid_is ∙ omega (arith, length-take (to - at - (from - at)) (drop (from - at) bytes), length-drop (from - at) bytes)

    room : from - 4096 * number + length mid ≤ length old
    room = omega (arith, long, size)

    same_test : (q : ℕ) → q < 4096 → within (from - 4096 * number) (from - 4096 * number + length mid) q ≡ within at (at + length bytes) (4096 * number + q)
    same_test q low = grind (arith, nat_tests, long)

    here : (q v : ℕ) → from ≤ 4096 * number + q → 4096 * number + q < to → has_at mid (q - (from - 4096 * number)) v ≡ has_at bytes (4096 * number + q - at) v
    here q v above under =
        ap (λ (l : List ℕ). has_at l (q - (from - 4096 * number)) v) mid_is
        ∙ passes_take (λ b. b == v) (to - at - (from - at)) (drop (from - at) bytes) (q - (from - 4096 * number)) (omega arith)
        ∙ passes_drop (λ b. b == v) (from - at) bytes (4096 * number + q - at) (q - (from - 4096 * number)) (omega arith)

    above_from : (q : ℕ) → within (from - 4096 * number) (from - 4096 * number + length mid) q ≡ true → from ≤ 4096 * number + q
    above_from q inside = grind (arith, nat_tests, long, inside)

    below_to : (q : ℕ) → within (from - 4096 * number) (from - 4096 * number + length mid) q ≡ true → 4096 * number + q < to
    below_to q inside = grind (arith, nat_tests, long, inside)

    at_place : (q v : ℕ) → q < 4096 → cond (within (from - 4096 * number) (from - 4096 * number + length mid) q) (has_at mid (q - (from - 4096 * number)) v) (has_at old q v)
        ≡ cond (within at (at + length bytes) (4096 * number + q)) (has_at bytes (4096 * number + q - at) v) (has_at old q v)
    at_place q v low = two (within (from - 4096 * number) (from - 4096 * number + length mid) q) (within at (at + length bytes) (4096 * number + q))
        (has_at mid (q - (from - 4096 * number)) v) (has_at bytes (4096 * number + q - at) v) (has_at old q v) (same_test q low)
        (λ inside. here q v (above_from q inside) (below_to q inside))

pub clears : (number from to low high : ℕ) (old new : List ℕ) → low ≡ max from (4096 * number) → high ≡ min to (4096 * number + 4096) → low < high → length old ≡ 4096
    → new ≡ over (low - 4096 * number) (replicate {A = ℕ} (high - low) 0) old → Clears number from to old new
clears number from to low high old new low_is high_is less size new_is = record {
  size = ap length new_is ∙ length-over 0 (low - 4096 * number) (replicate {A = ℕ} (high - low) 0) old room;
  each = λ q v under. ap (λ (l : List ℕ). has_at l q v) new_is ∙ over_at (low - 4096 * number) (replicate {A = ℕ} (high - low) 0) old q v room
      ∙ two (within (low - 4096 * number) (low - 4096 * number + length (replicate {A = ℕ} (high - low) 0)) q) (within from to (4096 * number + q))
      (has_at (replicate {A = ℕ} (high - low) 0) (q - (low - 4096 * number)) v) (0 == v) (has_at old q v) (same_test q under)
      (λ inside. passes_replicate (λ b. b == v) (high - low) 0 (q - (low - 4096 * number)) (in_it q inside));
}
  where
    long : length (replicate {A = ℕ} (high - low) 0) ≡ high - low
    long = length-replicate {A = ℕ} (high - low) 0

    room : low - 4096 * number + length (replicate {A = ℕ} (high - low) 0) ≤ length old
    room = omega (arith, long, size)

    same_test : (q : ℕ) → q < 4096 → within (low - 4096 * number) (low - 4096 * number + length (replicate {A = ℕ} (high - low) 0)) q ≡ within from to (4096 * number + q)
    same_test q under = grind (arith, nat_tests, long)

    in_it : (q : ℕ) → within (low - 4096 * number) (low - 4096 * number + length (replicate {A = ℕ} (high - low) 0)) q ≡ true → q - (low - 4096 * number) < high - low
    in_it q inside = grind (arith, nat_tests, long, inside)
