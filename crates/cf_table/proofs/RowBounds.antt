-- Where a row with an id can be among rows whose ids rise.
use Rattle.std.proofs.Common.{◌≡◌, ℕ, zero, suc, ◌+◌, ◌-◌, ◌<◌, ◌≤◌, List, [], ◌∷◌, length, take, drop, get_or, sym, ◌∙◌, ap, arith, inl, inr}
use Rattle.std.proofs.lemmas.Bool.{cases_lt}
use Rattle.std.proofs.lemmas.List.{get_or-drop, get_or-take, length-drop, length-take}
use Rattle.cf_table.specs.Tables.{IsRowAt, IsRowGap, RisesFrom}
use Rattle.cf_table.specs.declared.rows.Row.{Row}

-- no two rows have an id
rises_by : (low : ℕ) (rows : List Row) → RisesFrom low rows → (j : ℕ) (d : Row) → j < length rows → low + j ≤ (get_or rows j d).id.0
rises_by low [] h j d lt = absurd (omega arith)
rises_by low (r ∷ rs) h zero d lt = omega (arith, h.0)
rises_by low (r ∷ rs) h (suc j) d lt = omega (arith, h.0, rises_by (r.id.0 + 1) rs h.1 j d (omega arith))

pub rises_apart : (low : ℕ) (rows : List Row) → RisesFrom low rows → (i j : ℕ) (d : Row) → i ≤ j → j < length rows → (get_or rows i d).id.0 + (j - i) ≤ (get_or rows j d).id.0
rises_apart low [] h i j d le lt = absurd (omega arith)
rises_apart low (r ∷ rs) h zero zero d le lt = omega arith
rises_apart low (r ∷ rs) h zero (suc j) d le lt = omega (arith, rises_by (r.id.0 + 1) rs h.1 j d (omega arith))
rises_apart low (r ∷ rs) h (suc i) zero d le lt = absurd (omega arith)
rises_apart low (r ∷ rs) h (suc i) (suc j) d le lt = omega (arith, rises_apart (r.id.0 + 1) rs h.1 i j d (omega arith) (omega arith))

-- a part of such rows
lower : (a b : ℕ) (rows : List Row) → b ≤ a → RisesFrom a rows → RisesFrom b rows
lower a b [] le h = tt
lower a b (r ∷ rs) le h = (omega (arith, h.0, le), h.1)

rises_drop : (low n : ℕ) (rows : List Row) → RisesFrom low rows → RisesFrom low (drop n rows)
rises_drop low zero rows h = h
rises_drop low (suc n) [] h = tt
rises_drop low (suc n) (r ∷ rs) h = lower (r.id.0 + 1) low (drop n rs) (omega (arith, h.0)) (rises_drop (r.id.0 + 1) n rs h.1)

rises_take : (low n : ℕ) (rows : List Row) → RisesFrom low rows → RisesFrom low (take n rows)
rises_take low zero rows h = tt
rises_take low (suc n) [] h = tt
rises_take low (suc n) (r ∷ rs) h = (h.0, rises_take (r.id.0 + 1) n rs h.1)

pub rises_part : (at n : ℕ) (rows : List Row) → RisesFrom 0 rows → RisesFrom 0 (take n (drop at rows))
rises_part at n rows h = rises_take 0 n (drop at rows) (rises_drop 0 at rows h)

-- the bounds are in order
pub bounds_order : (rows : List Row) (id low end : ℕ) → low ≤ length rows → ((k : ℕ) (d : Row) → k < low → (get_or rows k d).id.0 < id)
    → ((k : ℕ) (d : Row) → end ≤ k → k < length rows → id < (get_or rows k d).id.0) → low ≤ end
bounds_order [] id low end within lower_before higher_after = omega (arith, within)
bounds_order (r ∷ rs) id low end within lower_before higher_after = elim (cases_lt end low) [
  | inl less ↦ absurd (omega (arith, lower_before end r less, higher_after end r (omega arith) (omega (arith, less, within))))
  | inr fine ↦ fine
]

-- what is found in the part where the id can be
module _ (rows : List Row) (id low end : ℕ) (end_within : end ≤ length rows)
    (lower_before : (k : ℕ) (d : Row) → k < low → (get_or rows k d).id.0 < id)
    (higher_after : (k : ℕ) (d : Row) → end ≤ k → k < length rows → id < (get_or rows k d).id.0) where
  part_at : (n i : ℕ) (d : Row) → i < n → get_or (take n (drop low rows)) i d ≡ get_or rows (low + i) d
  part_at n i d lt = get_or-take n (drop low rows) i d lt ∙ get_or-drop low rows i d

  module _ (n : ℕ) (n_is : low + n ≡ end) where
    part_size : length (take n (drop low rows)) ≡ n
    part_size = omega (arith, length-take n (drop low rows), length-drop low rows, end_within, n_is)

    pub found_there : (i : ℕ) → IsRowAt (take n (drop low rows)) id i → IsRowAt rows id (low + i)
    found_there i at = record {
      in_range = omega (arith, at.in_range, part_size, end_within, n_is);
      has_id = λ d. ap (λ (r : Row). r.id.0) (sym (part_at n i d (omega (arith, at.in_range, part_size)))) ∙ at.has_id d;
    }

    pub gap_there : (i : ℕ) → IsRowGap (take n (drop low rows)) id i → IsRowGap rows id (low + i)
    gap_there i gap = record {
      in_range = omega (arith, gap.in_range, part_size, end_within, n_is);
      lower_before = λ k d lt. elim (cases_lt k low) [
        | inl before ↦ lower_before k d before
        | inr within ↦
            let here : low + (k - low) ≡ k = omega (arith, within) in
            omega (
              arith,
              gap.lower_before (k - low) d (omega (arith, lt, within)),
              ap (λ (r : Row). r.id.0) (part_at n (k - low) d (omega (arith, lt, within, gap.in_range, part_size))),
              ap (λ (j : ℕ). (get_or rows j d).id.0) here,
            )
      ];
      higher_after = λ k d le lt. elim (cases_lt k end) [
        | inl within ↦
            let here : low + (k - low) ≡ k = omega (arith, le) in
            omega (
              arith,
              gap.higher_after (k - low) d (omega (arith, le)) (omega (arith, within, part_size, n_is, le)),
              ap (λ (r : Row). r.id.0) (part_at n (k - low) d (omega (arith, within, n_is, le))),
              ap (λ (j : ℕ). (get_or rows j d).id.0) here,
            )
        | inr behind ↦ higher_after k d behind lt
      ];
    }
