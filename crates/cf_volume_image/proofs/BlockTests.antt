-- Tests of the blocks of a set of places.
use Rattle.std.proofs.Common.{◌≡◌, ℕ, ◌+◌, ◌-◌, ◌*◌, ◌/◌, ◌<◌, ◌≤◌, true, false, List, [], ◌∷◌, sym, subst, arith, inl, inr}
use Rattle.std.specs.Prelude.{is_some}
use Rattle.std.proofs.lemmas.Bool.{cases_lt}
use Rattle.cf_base.specs.declared.spans.Span.{Span}
use Rattle.cf_ranges.specs.Pairs.{cluster_at}
use Rattle.cf_ranges.specs.Positions.{HasBlock, IsBelow, IsRunsFrom, contains, in_span}
use Rattle.cf_volume_image.specs.Sets.{HasBlocks, HasBlocksOf, HaveBytes}
use Rattle.cf_volume_image.proofs.SetTests.{either_of, inside, or_left, or_right, within_from}

-- each run ends by there
abbrev pub EndsBy : ℕ → List Span → Type 0
EndsBy top [] = Unit {0}
EndsBy top (s ∷ ss) = (s.start + s.len ≤ top) × EndsBy top ss

pub ends_of : (low top : ℕ) (runs : List Span) → IsRunsFrom low runs → IsBelow runs top → EndsBy top runs
ends_of low top [] h below = tt
ends_of low top (r ∷ rs) h below =
    let last : contains (r ∷ rs) (r.start + r.len - 1) ≡ true = or_left (in_span r (r.start + r.len - 1)) (contains rs (r.start + r.len - 1)) (inside r.start (r.start + r.len) (r.start + r.len - 1) (omega (arith, h.1)) (omega (arith, h.1))) in
    (omega (arith, h.1, below (r.start + r.len - 1) last), ends_of (r.start + r.len + 1) top rs h.3 (λ p at. below p (or_right (in_span r p) (contains rs p) at)))

block_of : (p b : ℕ) → 4096 * b ≤ p → p < 4096 * b + 4096 → p / 4096 ≡ b
block_of p b h k = omega arith

pub blocks_first : (pairs : List (ℕ × ℕ)) (rest : List Span) (s : Span) → 0 < s.len → HasBlocksOf pairs (s ∷ rest) → HasBlocks pairs (s.start / 4096) ((s.start + s.len - 1) / 4096 + 1)
blocks_first pairs rest s some h b le lt = elim (cases_lt s.start (4096 * b)) [
  | inl less ↦
      let p : contains (s ∷ rest) (4096 * b) ≡ true = or_left (in_span s (4096 * b)) (contains rest (4096 * b)) (inside s.start (s.start + s.len) (4096 * b) (omega (arith, less)) (omega (arith, lt, some))) in
      subst (λ (n : ℕ). is_some (cluster_at pairs n) ≡ true) (block_of (4096 * b) b (omega arith) (omega arith)) (h (4096 * b) p)
  | inr more ↦
      let p : contains (s ∷ rest) s.start ≡ true = or_left (in_span s s.start) (contains rest s.start) (inside s.start (s.start + s.len) s.start (omega arith) (omega (arith, some))) in
      subst (λ (n : ℕ). is_some (cluster_at pairs n) ≡ true) (block_of s.start b more (omega (arith, le))) (h s.start p)
]

pub blocks_rest : (pairs : List (ℕ × ℕ)) (rest : List Span) (s : Span) → HasBlocksOf pairs (s ∷ rest) → HasBlocksOf pairs rest
blocks_rest pairs rest s h p at = h p (or_right (in_span s p) (contains rest p) at)

pub blocks_cons : (pairs : List (ℕ × ℕ)) (rest : List Span) (s : Span) → HasBlocks pairs (s.start / 4096) ((s.start + s.len - 1) / 4096 + 1) → HasBlocksOf pairs rest → HasBlocksOf pairs (s ∷ rest)
blocks_cons pairs rest s h k p at = elim (either_of (in_span s p) (contains rest p) at) [
  | inl here ↦ let w = within_from s.start (s.start + s.len) p here in h (p / 4096) (omega (arith, w.0)) (omega (arith, w.1))
  | inr there ↦ k p there
]

pub no_blocks : (pairs : List (ℕ × ℕ)) (runs : List Span) → runs ≡ [] → HasBlocksOf pairs runs
no_blocks pairs runs is p at = let z : false ≡ true = subst (λ (l : List Span). contains l p ≡ true) is at in absurd cc

pub ends_first : (top : ℕ) (rest : List Span) (s : Span) (runs : List Span) → runs ≡ s ∷ rest → EndsBy top runs → s.start + s.len ≤ top
ends_first top rest s runs is h = (subst (EndsBy top) is h).0

pub ends_rest : (top : ℕ) (rest : List Span) (s : Span) (runs : List Span) → runs ≡ s ∷ rest → EndsBy top runs → EndsBy top rest
ends_rest top rest s runs is h = (subst (EndsBy top) is h).1

pub bytes_first : (here : List Span) (rest pairs : List (ℕ × ℕ)) (p : ℕ × ℕ) → pairs ≡ p ∷ rest → HaveBytes pairs here → HasBlock here p.0
bytes_first here rest pairs p is h = (subst (λ (l : List (ℕ × ℕ)). HaveBytes l here) is h).0

pub bytes_rest : (here : List Span) (rest pairs : List (ℕ × ℕ)) (p : ℕ × ℕ) → pairs ≡ p ∷ rest → HaveBytes pairs here → HaveBytes rest here
bytes_rest here rest pairs p is h = (subst (λ (l : List (ℕ × ℕ)). HaveBytes l here) is h).1

pub bytes_cons : (here : List Span) (rest pairs : List (ℕ × ℕ)) (p : ℕ × ℕ) → pairs ≡ p ∷ rest → HasBlock here p.0 → HaveBytes rest here → HaveBytes pairs here
bytes_cons here rest pairs p is h k = subst (λ (l : List (ℕ × ℕ)). HaveBytes l here) (sym is) (h, k)

pub no_pairs : (here : List Span) (pairs : List (ℕ × ℕ)) → pairs ≡ [] → HaveBytes pairs here
no_pairs here pairs is = subst (λ (l : List (ℕ × ℕ)). HaveBytes l here) (sym is) tt
