-- The blocks of extents that have a cluster just where a byte is held.
use Rattle.std.proofs.Common.{◌≡◌, ℕ, zero, suc, ◌+◌, ◌*◌, ◌-◌, ◌<◌, ◌≤◌, Bool, true, false, List, [], ◌∷◌, length, take, drop, refl, sym, ap, subst, ◌∙◌, arith, eqb, Option, None, is_some, inl, inr}
use Rattle.std.specs.Prelude.{filter, map}
use Rattle.std.specs.List.{list_any}
use Rattle.std.proofs.lemmas.Bool.{cases_lt, cond-true, cond-false, eq-eqb, ne_eqb}
use Rattle.cf_model.specs.Blocks.{block_has_byte, blocks_holding, blocks_in}
use Rattle.cf_model.specs.Words.{counting}
use Rattle.cf_ranges.specs.Pairs.{IsRising, IsRisingFrom, cluster_at}

none_below : (low k : ℕ) (ps : List (ℕ × ℕ)) → k < low → IsRisingFrom low ps → cluster_at ps k ≡ None
none_below low k [] h r = refl
none_below low k (p ∷ ps) h r = cond-false (eqb p.0 k) _ _ (ne_eqb p.0 k (λ e. omega (arith, r.0))) ∙ none_below (p.0 + 1) k ps (omega (arith, r.0)) r.1

at_first : (p : ℕ × ℕ) (ps : List (ℕ × ℕ)) (k : ℕ) → p.0 ≡ k → is_some (cluster_at (p ∷ ps) k) ≡ true
at_first p ps k e = ap is_some (cond-true (eqb p.0 k) _ _ (eq-eqb p.0 k e))

past_first : (p : ℕ × ℕ) (ps : List (ℕ × ℕ)) (k : ℕ) → p.0 < k → cluster_at (p ∷ ps) k ≡ cluster_at ps k
past_first p ps k h = cond-false (eqb p.0 k) _ _ (ne_eqb p.0 k (λ e. omega arith))

named_where : (low n : ℕ) (ps : List (ℕ × ℕ)) (f : ℕ → Bool) → IsRisingFrom low ps → ((k : ℕ) → low ≤ k → is_some (cluster_at ps k) ≡ f k) → ((k : ℕ) → low + n ≤ k → f k ≡ false) →
    map (λ (p : ℕ × ℕ). p.0) ps ≡ filter f (counting low n)
named_where low zero [] f r same none = refl
named_where low zero (p ∷ ps) f r same none = let z : true ≡ false = sym (at_first p ps p.0 refl) ∙ same p.0 r.0 ∙ none p.0 (omega (arith, r.0)) in absurd cc
named_where low (suc n) [] f r same none =
    named_where (low + 1) n [] f tt (λ k le. same k (omega arith)) (λ k le. none k (omega arith)) ∙ sym (cond-false (f low) _ _ (sym (same low (omega arith))))
named_where low (suc n) (p ∷ ps) f r same none = elim (cases_lt low p.0) [
  | inl less ↦ named_where (low + 1) n (p ∷ ps) f (omega (arith, less), r.1) (λ k le. same k (omega arith)) (λ k le. none k (omega arith))
      ∙ sym (cond-false (f low) _ _ (sym (same low (omega arith)) ∙ ap is_some (none_below p.0 low (p ∷ ps) less (omega arith, r.1))))
  | inr more ↦ let e : p.0 ≡ low = omega (arith, r.0) in
      ap (λ m. m ∷ map (λ (q : ℕ × ℕ). q.0) ps) e
      ∙ ap (λ l. low ∷ l) (named_where (low + 1) n ps f (subst (λ m. IsRisingFrom (m + 1) ps) e r.1) (λ k le. ap is_some (sym (past_first p ps k (omega (arith, e)))) ∙ same k (omega arith)) (λ k le. none k (omega arith)))
      ∙ sym (cond-true (f low) _ _ (sym (same low (omega arith)) ∙ at_first p ps low e))
]

nothing_past : {A : Type 0} (xs : List A) (a n : ℕ) → length xs ≤ a → take n (drop a xs) ≡ []
nothing_past xs a n h = ap (take n) (gone xs a h) ∙ none n where
  gone : {A : Type 0} (xs : List A) (a : ℕ) → length xs ≤ a → drop a xs ≡ []
  gone [] zero h = refl
  gone [] (suc a) h = refl
  gone (x ∷ xs) zero h = absurd (omega arith)
  gone (x ∷ xs) (suc a) h = gone xs a (omega arith)

  none : {A : Type 0} (n : ℕ) → take n (let nothing : List A = [] in nothing) ≡ []
  none zero = refl
  none (suc n) = refl

no_byte_past : (held : List (Option ℕ)) (k : ℕ) → blocks_in (length held) ≤ k → block_has_byte held k ≡ false
no_byte_past held k h = ap (list_any is_some) (nothing_past held (4096 * k) (4096 * k + 4096 - 4096 * k) (omega arith))

pub blocks_are_held : (ps : List (ℕ × ℕ)) (held : List (Option ℕ)) → IsRising ps → ((k : ℕ) → is_some (cluster_at ps k) ≡ block_has_byte held k) → map (λ (p : ℕ × ℕ). p.0) ps ≡ blocks_holding held
blocks_are_held ps held r same = named_where 0 (blocks_in (length held)) ps (block_has_byte held) r (λ k le. same k) (λ k le. no_byte_past held k (omega arith))
