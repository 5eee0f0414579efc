-- Finite maps as lists of pairs in order.
use Rattle.std.proofs.Common.{◌≡◌, ℕ, zero, suc, ◌+◌, ◌<◌, ◌≤◌, List, [], ◌∷◌, length, get_or, set, Some, None, Result, Ok, Err, IfOk, IfErr, refl, sym, ap, ◌∙◌, arith, eqb, inl, inr}
use Rattle.std.specs.List.{insert, remove}
use Rattle.std.specs.List.Sorted.{IsSearchInRange, IsBinarySearchResult, IsNonDecreasingBy}
use Rattle.std.specs.Ordering.{nat_cmp, ordering_index}
use Rattle.std.proofs.lemmas.Bool.{cases_Bool, cases_order, cond-true, cond-false, eqb-true}
use Rattle.std.proofs.lemmas.Bool.Decides.{nat_tests}
use Rattle.std.proofs.lemmas.Cmp.{ranked}
use Rattle.std.proofs.lemmas.List.Sorted.{IsNonDecreasingBy-from_default}
use Rattle.cf_ranges.specs.Pairs.{cluster_at, IsAt, IsGapFor, IsRisingFrom, IsRising, Puts}

from_low : (low j : ℕ) (ps : List (ℕ × ℕ)) → IsRisingFrom low ps → j < length ps → low ≤ (get_or ps j (0, 0)).0
from_low low j [] h lt = absurd (omega arith)
from_low low zero (p ∷ ps) h lt = h.0
from_low low (suc j) (p ∷ ps) h lt = omega (arith, h.0, from_low (p.0 + 1) j ps h.1 (omega arith))

rises : (low i j : ℕ) (ps : List (ℕ × ℕ)) → IsRisingFrom low ps → i < j → j < length ps → (get_or ps i (0, 0)).0 < (get_or ps j (0, 0)).0
rises low i j [] h less lt = absurd (omega arith)
rises low i zero (p ∷ ps) h less lt = absurd (omega arith)
rises low zero (suc j) (p ∷ ps) h less lt = omega (arith, from_low (p.0 + 1) j ps h.1 (omega arith))
rises low (suc i) (suc j) (p ∷ ps) h less lt = rises (p.0 + 1) i j ps h.1 (omega arith) (omega arith)

absent_below : (low b : ℕ) (ps : List (ℕ × ℕ)) → IsRisingFrom low ps → b < low → cluster_at ps b ≡ None
absent_below low b [] h lt = refl
absent_below low b (p ∷ ps) h lt = grind (arith, nat_tests, h.0, absent_below (p.0 + 1) b ps h.1 (omega (arith, h.0)))

-- in the tail, a pair is one place lower
at_tail : (p : ℕ × ℕ) (ps : List (ℕ × ℕ)) (b i : ℕ) → IsAt (p ∷ ps) b (suc i) → IsAt ps b i
at_tail p ps b i is_at = record { in_range = omega (arith, is_at.in_range); has_block = is_at.has_block }

gap_tail : (p : ℕ × ℕ) (ps : List (ℕ × ℕ)) (b i : ℕ) → IsGapFor (p ∷ ps) b (suc i) → IsGapFor ps b i
gap_tail p ps b i gap = record {
  in_range = omega (arith, gap.in_range);
  lower_before = λ k lt. gap.lower_before (suc k) (omega arith);
  higher_after = λ k le lt. gap.higher_after (suc k) (omega arith) (omega arith);
}

-- the first block is below that of a later place
lower_head : (low : ℕ) (p : ℕ × ℕ) (ps : List (ℕ × ℕ)) (b i : ℕ) → IsRisingFrom low (p ∷ ps) → IsAt (p ∷ ps) b (suc i) → p.0 < b
lower_head low p ps b i h is_at = omega (arith, is_at.has_block, from_low (p.0 + 1) i ps h.1 (omega (arith, is_at.in_range)))

pub present : (low : ℕ) (ps : List (ℕ × ℕ)) (b i : ℕ) → IsRisingFrom low ps → IsAt ps b i → cluster_at ps b ≡ Some (get_or ps i (0, 0)).1
present low [] b i h is_at = absurd (omega (arith, is_at.in_range))
present low (p ∷ ps) b zero h is_at = grind (arith, nat_tests, is_at.has_block)
present low (p ∷ ps) b (suc i) h is_at = grind (arith, nat_tests, lower_head low p ps b i h is_at, present (p.0 + 1) ps b i h.1 (at_tail p ps b i is_at))

pub absent : (low : ℕ) (ps : List (ℕ × ℕ)) (b i : ℕ) → IsRisingFrom low ps → IsGapFor ps b i → cluster_at ps b ≡ None
absent low [] b i h gap = refl
absent low (p ∷ ps) b zero h gap = absent_below (b + 1) b (p ∷ ps) (omega (arith, gap.higher_after 0 (omega arith) (omega arith)), h.1) (omega arith)
absent low (p ∷ ps) b (suc i) h gap = grind (arith, nat_tests, gap.lower_before 0 (omega arith), absent (p.0 + 1) ps b i h.1 (gap_tail p ps b i gap))

-- writing over the pair
pub puts_set : (low : ℕ) (ps : List (ℕ × ℕ)) (b c i : ℕ) → IsRisingFrom low ps → IsAt ps b i → Puts ps (set ps i (b, c)) b (Some c)
puts_set low [] b c i h is_at q = absurd (omega (arith, is_at.in_range))
puts_set low (p ∷ ps) b c zero h is_at q = grind (arith, nat_tests, is_at.has_block)
puts_set low (p ∷ ps) b c (suc i) h is_at q = grind (arith, nat_tests, lower_head low p ps b i h is_at, puts_set (p.0 + 1) ps b c i h.1 (at_tail p ps b i is_at) q)

pub rising_set : (low : ℕ) (ps : List (ℕ × ℕ)) (b c i : ℕ) → IsRisingFrom low ps → IsAt ps b i → IsRisingFrom low (set ps i (b, c))
rising_set low [] b c i h is_at = absurd (omega (arith, is_at.in_range))
rising_set low (p ∷ ps) b c zero h is_at = (omega (arith, h.0, is_at.has_block), lower (p.0 + 1) (b + 1) ps (omega (arith, is_at.has_block)) h.1) where
  lower : (high low : ℕ) (ps : List (ℕ × ℕ)) → low ≤ high → IsRisingFrom high ps → IsRisingFrom low ps
  lower high low [] le h = tt
  lower high low (p ∷ ps) le h = (omega (arith, h.0), h.1)
rising_set low (p ∷ ps) b c (suc i) h is_at = (h.0, rising_set (p.0 + 1) ps b c i h.1 (at_tail p ps b i is_at))

-- a new pair in the gap
pub puts_insert : (low : ℕ) (ps : List (ℕ × ℕ)) (b c i : ℕ) → IsRisingFrom low ps → IsGapFor ps b i → Puts ps (insert ps i (b, c)) b (Some c)
puts_insert low ps b c zero h gap q = grind (arith, nat_tests)
puts_insert low [] b c (suc i) h gap q = absurd (omega (arith, gap.in_range))
puts_insert low (p ∷ ps) b c (suc i) h gap q = grind (arith, nat_tests, gap.lower_before 0 (omega arith), puts_insert (p.0 + 1) ps b c i h.1 (gap_tail p ps b i gap) q)

pub rising_insert : (low : ℕ) (ps : List (ℕ × ℕ)) (b c i : ℕ) → low ≤ b → IsRisingFrom low ps → IsGapFor ps b i → IsRisingFrom low (insert ps i (b, c))
rising_insert low [] b c zero le h gap = (le, tt)
rising_insert low (p ∷ ps) b c zero le h gap = (le, (omega (arith, gap.higher_after 0 (omega arith) (omega arith)), h.1))
rising_insert low [] b c (suc i) le h gap = absurd (omega (arith, gap.in_range))
rising_insert low (p ∷ ps) b c (suc i) le h gap = (h.0, rising_insert (p.0 + 1) ps b c i (omega (arith, gap.lower_before 0 (omega arith))) h.1 (gap_tail p ps b i gap))

-- taking the pair out
pub puts_remove : (low : ℕ) (ps : List (ℕ × ℕ)) (b i : ℕ) → IsRisingFrom low ps → IsAt ps b i → Puts ps (remove ps i) b None
puts_remove low [] b i h is_at q = absurd (omega (arith, is_at.in_range))
puts_remove low (p ∷ ps) b zero h is_at q = grind (arith, nat_tests, is_at.has_block, absent_below (p.0 + 1) b ps h.1 (omega (arith, is_at.has_block)))
puts_remove low (p ∷ ps) b (suc i) h is_at q = grind (arith, nat_tests, lower_head low p ps b i h is_at, puts_remove (p.0 + 1) ps b i h.1 (at_tail p ps b i is_at) q)

pub rising_remove : (low : ℕ) (ps : List (ℕ × ℕ)) (b i : ℕ) → IsRisingFrom low ps → IsAt ps b i → IsRisingFrom low (remove ps i)
rising_remove low [] b i h is_at = absurd (omega (arith, is_at.in_range))
rising_remove low (p ∷ ps) b zero h is_at = lower (p.0 + 1) low ps (omega (arith, h.0)) h.1 where
  lower : (high low : ℕ) (ps : List (ℕ × ℕ)) → low ≤ high → IsRisingFrom high ps → IsRisingFrom low ps
  lower high low [] le h = tt
  lower high low (p ∷ ps) le h = (omega (arith, h.0), h.1)
rising_remove low (p ∷ ps) b (suc i) h is_at = (h.0, rising_remove (p.0 + 1) ps b i h.1 (at_tail p ps b i is_at))

-- a block that has no pair stays so
pub puts_none : (ps : List (ℕ × ℕ)) (b : ℕ) → cluster_at ps b ≡ None → Puts ps ps b None
puts_none ps b none q = elim (cases_Bool (eqb q b)) [
  | inl same ↦ ap (cluster_at ps) (eqb-true q b same) ∙ none ∙ sym (cond-true _ _ _ same)
  | inr other ↦ sym (cond-false _ _ _ other)
]

-- a binary search by block ends at its pair, or at the gap for it
pub searched : (ps : List (ℕ × ℕ)) → IsRising ps → (b : ℕ) (r : Result ℕ ℕ) → IsSearchInRange r (length ps) → IsBinarySearchResult (λ pair. nat_cmp pair.0 b) ps r
    → record { found : IfOk r (IsAt ps b); absent : IfErr r (IsGapFor ps b) }
searched ps h b (Ok i) in_range equal = record { found = record { in_range = in_range; has_block = ranked _ b _ (sym (equal (0, 0))) }; absent = tt }
searched ps h b (Err i) in_range parted = record {
  found = tt;
  absent = record {
    in_range = in_range;
    lower_before = λ k lt. ranked _ b _ (sym ((parted (comparisons_rise ps h b)).0 k (0, 0) (omega arith) lt));
    higher_after = λ k le lt. ranked _ b _ (sym ((parted (comparisons_rise ps h b)).1 k (0, 0) le lt));
  };
} where
  comparisons_rise : (ps : List (ℕ × ℕ)) → IsRising ps → (b : ℕ) → IsNonDecreasingBy (λ pair. ordering_index (nat_cmp pair.0 b)) ps
  comparisons_rise ps h b = IsNonDecreasingBy-from_default (λ pair. ordering_index (nat_cmp pair.0 b)) ps (0, 0) (λ i j le in_range.
      let blocks_rise : (get_or ps i (0, 0)).0 ≤ (get_or ps j (0, 0)).0 = grind (arith, λ (less : i < j). rises 0 i j ps h less in_range, λ (same : i ≡ j). ap (λ k. (get_or ps k (0, 0)).0) same) in
      grind (arith, nat_tests))

-- a map has one list
here : (p : ℕ × ℕ) (ps : List (ℕ × ℕ)) → cluster_at (p ∷ ps) p.0 ≡ Some p.1
here p ps = grind (arith, nat_tests)

same_pair : (p q : ℕ × ℕ) → p.0 ≡ q.0 → Some p.1 ≡ Some q.1 → p ≡ q
same_pair p q e f = grind (arith)

pub one_list : (low high : ℕ) (xs ys : List (ℕ × ℕ)) → IsRisingFrom low xs → IsRisingFrom high ys → ((k : ℕ) → cluster_at xs k ≡ cluster_at ys k) → xs ≡ ys
one_list low high [] [] rx ry same = refl
one_list low high [] (q ∷ ys) rx ry same = let z : None ≡ Some q.1 = same q.0 ∙ here q ys in cc
one_list low high (p ∷ xs) [] rx ry same = let z : Some p.1 ≡ None = sym (here p xs) ∙ same p.0 in cc
one_list low high (p ∷ xs) (q ∷ ys) rx ry same =
    let first : p.0 ≡ q.0 = elim (cases_order p.0 q.0) [
      | inl e ↦ e
      | inr u ↦ elim u [
        | inl less ↦ let z : Some p.1 ≡ None = sym (here p xs) ∙ same p.0 ∙ absent_below q.0 p.0 (q ∷ ys) (omega arith, ry.1) less in cc
        | inr more ↦ let z : Some q.1 ≡ None = sym (here q ys) ∙ sym (same q.0) ∙ absent_below p.0 q.0 (p ∷ xs) (omega arith, rx.1) more in cc
      ]
    ] in
    let both : p ≡ q = same_pair p q first (sym (here p xs) ∙ same p.0 ∙ ap (cluster_at (q ∷ ys)) first ∙ here q ys) in
    ap (λ r. r ∷ xs) both ∙ ap (λ rs. q ∷ rs) (one_list (p.0 + 1) (q.0 + 1) xs ys rx.1 ry.1 (rest p q xs ys first rx.1 ry.1 same)) where
      rest : (p q : ℕ × ℕ) (xs ys : List (ℕ × ℕ)) → p.0 ≡ q.0 → IsRisingFrom (p.0 + 1) xs → IsRisingFrom (q.0 + 1) ys → ((k : ℕ) → cluster_at (p ∷ xs) k ≡ cluster_at (q ∷ ys) k) → (k : ℕ) → cluster_at xs k ≡ cluster_at ys k
      rest p q xs ys first rx ry same k = grind (arith, nat_tests, same k, λ (here : k ≡ p.0). absent_below (p.0 + 1) k xs rx (omega arith), λ (here : k ≡ p.0). absent_below (q.0 + 1) k ys ry (omega arith))
