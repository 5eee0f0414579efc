-- Tests of sets of places and of the clusters of a file decide what they say.
use Rattle.std.proofs.Common.{◌≡◌, ℕ, zero, suc, ◌+◌, ◌-◌, ◌/◌, ◌<◌, ◌≤◌, Bool, true, false, ◌&&◌, List, [], ◌∷◌, refl, sym, subst, ◌∙◌, arith, leb, inl, inr}
use Rattle.std.proofs.lemmas.Bool.{cases_lt, le-leb, leb-true}
use Rattle.std.proofs.lemmas.Bool.Decides.{nat_tests}
use Rattle.std.specs.List.{list_all}
use Rattle.std.specs.Prelude.{map}
use Rattle.cf_base.specs.declared.spans.Span.{Span}
use Rattle.cf_model.specs.Words.{counting}
use Rattle.cf_ranges.specs.Positions.{IsBelow, IsRuns, IsRunsFrom, contains, in_span, touches, within}
use Rattle.cf_ranges.proofs.Blocks.{touches_means}
use Rattle.cf_ranges.proofs.Sets.{none_below}
use Rattle.cf_scrub.specs.Blocks.{are_blocks_of, blocks_of}
use Rattle.cf_scrub.specs.Places.{ends_by, has_all, has_run, has_span, spans}
use Rattle.cf_scrub.proofs.BlockSteps.{block_is, touched_is}
use Rattle.cf_scrub.proofs.Bools.{both, either, left, neither, right, two}
use Rattle.cf_table.specs.Spelling.{extent_of, row_value}
use Rattle.cf_table.specs.declared.rows.Row.{Row}
use Rattle.cf_volume_image.specs.Sets.{HasAll, HasBlocksOf, HasSpan, HaveBytes}
use Rattle.cf_volume_image.specs.Sound.{HoldsBytes, has_block}
use Rattle.cf_volume_image.proofs.BlockTests.{blocks_cons, blocks_first, blocks_rest, no_blocks}
use Rattle.cf_volume_image.proofs.SetTests.{all_cons, all_first, all_rest, gap_behind, inside, none_inside, span_of_none, within_from}
use Rattle.cf_volume_image.proofs.SoundTests.{has_blocks, have_bytes, holds_bytes}

-- spans

spans_have : (runs : List Span) (from to : ℕ) → spans runs from to ≡ true → HasSpan runs from to
spans_have [] from to h p le lt = let z : false ≡ true = h in absurd cc
spans_have (s ∷ ss) from to h p le lt = elim (either (leb s.start from && leb to (s.start + s.len)) (spans ss from to) h) [
  | inl one ↦
      let w = two (leb s.start from) (leb to (s.start + s.len)) one in
      left (in_span s p) (contains ss p) (inside s.start (s.start + s.len) p (omega (arith, leb-true s.start from w.0, le)) (omega (arith, leb-true to (s.start + s.len) w.1, lt)))
  | inr more ↦ right (in_span s p) (contains ss p) (spans_have ss from to more p le lt)
]

have_spans : (low : ℕ) (runs : List Span) (from to : ℕ) → IsRunsFrom low runs → from < to → HasSpan runs from to → spans runs from to ≡ true
have_spans low [] from to h lt all = all from (omega arith) lt
have_spans low (s ∷ ss) from to h lt all = elim (cases_lt from s.start) [
  | inl before ↦ let z : false ≡ true = sym (none_below from s.start (s ∷ ss) before (omega arith, h.1, h.2, h.3)) ∙ all from (omega arith) lt in absurd cc
  | inr begun ↦ elim (cases_lt from (s.start + s.len)) [
    | inl here ↦ elim (cases_lt (s.start + s.len) to) [
      | inl ends ↦ let z : false ≡ true = sym (gap_behind low (s ∷ ss) 0 s h (omega arith)) ∙ all (s.start + s.len) (omega (arith, here)) ends in absurd cc
      | inr le ↦ left (leb s.start from && leb to (s.start + s.len)) (spans ss from to) (both (leb s.start from) (leb to (s.start + s.len)) (le-leb s.start from begun) (le-leb to (s.start + s.len) le))
    ]
    | inr past ↦
        right (leb s.start from && leb to (s.start + s.len)) (spans ss from to) (have_spans (s.start + s.len + 1) ss from to h.3 lt
        (λ p le less. neither (in_span s p) (contains ss p) (behind s.start (s.start + s.len) p (omega (arith, past, le))) (all p le less)))
  ]
] where
  behind : (start end p : ℕ) → end ≤ p → within start end p ≡ false
  behind start end p h = grind (arith, nat_tests)

pub span_from : (runs : List Span) (from to : ℕ) → has_span runs from to ≡ true → HasSpan runs from to
span_from runs from to h = elim (either (leb to from) (spans runs from to) h) [
  | inl none ↦ span_of_none runs from to (leb-true to from none)
  | inr some ↦ spans_have runs from to some
]

pub span_told : (runs : List Span) (from to : ℕ) → IsRuns runs → HasSpan runs from to → has_span runs from to ≡ true
span_told runs from to h all = elim (cases_lt from to) [
  | inl lt ↦ right (leb to from) (spans runs from to) (have_spans 0 runs from to h lt all)
  | inr le ↦ left (leb to from) (spans runs from to) (le-leb to from le)
]

pub all_from : (outer inner : List Span) → has_all outer inner ≡ true → HasAll outer inner
all_from outer [] h = none_inside outer [] refl
all_from outer (s ∷ ss) h = let w = two (has_run outer s) (has_all outer ss) h in all_cons outer ss s (spans_have outer s.start (s.start + s.len) w.0) (all_from outer ss w.1)

all_told_from : (low : ℕ) (outer inner : List Span) → IsRuns outer → IsRunsFrom low inner → HasAll outer inner → has_all outer inner ≡ true
all_told_from low outer [] h k all = refl
all_told_from low outer (s ∷ ss) h k all =
    both (has_run outer s) (has_all outer ss) (have_spans 0 outer s.start (s.start + s.len) h (omega (arith, k.1)) (all_first outer ss s all)) (all_told_from (s.start + s.len + 1) outer ss h k.3 (all_rest outer ss s all))

pub all_told : (outer inner : List Span) → IsRuns outer → IsRuns inner → HasAll outer inner → has_all outer inner ≡ true
all_told outer inner h k all = all_told_from 0 outer inner h k all

pub ends_from : (runs : List Span) (top : ℕ) → ends_by runs top ≡ true → IsBelow runs top
ends_from [] top h p at = let z : false ≡ true = at in absurd cc
ends_from (s ∷ ss) top h p at =
    let w = two (leb (s.start + s.len) top) (ends_by ss top) h in
    elim (either (in_span s p) (contains ss p) at) [
      | inl here ↦ omega (arith, leb-true (s.start + s.len) top w.0, (within_from s.start (s.start + s.len) p here).1)
      | inr there ↦ ends_from ss top w.1 p there
    ]

pub ends_told : (low : ℕ) (runs : List Span) (top : ℕ) → IsRunsFrom low runs → IsBelow runs top → ends_by runs top ≡ true
ends_told low [] top h below = refl
ends_told low (s ∷ ss) top h below =
    let last : contains (s ∷ ss) (s.start + s.len - 1) ≡ true = left (in_span s (s.start + s.len - 1)) (contains ss (s.start + s.len - 1)) (inside s.start (s.start + s.len) (s.start + s.len - 1) (omega (arith, h.1)) (omega (arith, h.1))) in
    both (leb (s.start + s.len) top) (ends_by ss top) (le-leb (s.start + s.len) top (omega (arith, h.1, below (s.start + s.len - 1) last)))
    (ends_told (s.start + s.len + 1) ss top h.3 (λ p at. below p (right (in_span s p) (contains ss p) at)))

-- blocks

counted : (f : ℕ → Bool) (from n b : ℕ) → list_all f (counting from n) ≡ true → from ≤ b → b < from + n → f b ≡ true
counted f from zero b h le lt = absurd (omega arith)
counted f from (suc n) b h le lt =
    let w = two (f from) (list_all f (counting (from + 1) n)) h in
    elim (cases_lt from b) [
      | inl less ↦ counted f (from + 1) n b w.1 (omega arith) (omega arith)
      | inr more ↦ let same : from ≡ b = omega arith in subst (λ (k : ℕ). f k ≡ true) same w.0
    ]

told_each : (f : ℕ → Bool) (from n : ℕ) → ((b : ℕ) → from ≤ b → b < from + n → f b ≡ true) → list_all f (counting from n) ≡ true
told_each f from zero h = refl
told_each f from (suc n) h = both (f from) (list_all f (counting (from + 1) n)) (h from (omega arith) (omega arith)) (told_each f (from + 1) n (λ b le lt. h b (omega arith) (omega arith)))

abbrev has_each : List (ℕ × ℕ) → List Span → Bool
has_each pairs runs = list_all (λ s. list_all (has_block (map extent_of pairs)) (blocks_of s)) runs

within_count : (from to b : ℕ) → from ≤ b → b < to → b < from + (to - from)
within_count from to b h k = omega arith

below_end : (from to b : ℕ) → from ≤ to → b < from + (to - from) → b < to
below_end from to b h k = omega arith

ordered : (start len : ℕ) → 0 < len → start / 4096 ≤ (start + len - 1) / 4096 + 1
ordered start len h = omega arith

blocks_from : (low : ℕ) (pairs : List (ℕ × ℕ)) (runs : List Span) → IsRunsFrom low runs → has_each pairs runs ≡ true → HasBlocksOf pairs runs
blocks_from low pairs [] h all = no_blocks pairs [] refl
blocks_from low pairs (s ∷ ss) h all =
    let w = two (list_all (has_block (map extent_of pairs)) (blocks_of s)) (has_each pairs ss) all in
    blocks_cons pairs ss s (λ b le lt. sym (block_is pairs b) ∙ counted (has_block (map extent_of pairs)) (s.start / 4096) ((s.start + s.len - 1) / 4096 + 1 - s.start / 4096) b w.0 le (within_count (s.start / 4096) ((s.start + s.len - 1) / 4096 + 1) b le lt))
    (blocks_from (s.start + s.len + 1) pairs ss h.3 w.1)

blocks_told : (low : ℕ) (pairs : List (ℕ × ℕ)) (runs : List Span) → IsRunsFrom low runs → HasBlocksOf pairs runs → has_each pairs runs ≡ true
blocks_told low pairs [] h all = refl
blocks_told low pairs (s ∷ ss) h all =
    both (list_all (has_block (map extent_of pairs)) (blocks_of s)) (has_each pairs ss)
    (told_each (has_block (map extent_of pairs)) (s.start / 4096) ((s.start + s.len - 1) / 4096 + 1 - s.start / 4096) (λ b le lt. block_is pairs b ∙ blocks_first pairs ss s h.1 all b le (below_end (s.start / 4096) ((s.start + s.len - 1) / 4096 + 1) b (ordered s.start s.len h.1) lt)))
    (blocks_told (s.start + s.len + 1) pairs ss h.3 (blocks_rest pairs ss s all))

bytes_from : (pairs : List (ℕ × ℕ)) (runs : List Span) → IsRuns runs → list_all (λ p. touches runs p.0) pairs ≡ true → HaveBytes pairs runs
bytes_from [] runs h all = tt
bytes_from (p ∷ ps) runs h all = let w = two (touches runs p.0) (list_all (λ q. touches runs q.0) ps) all in ((touches_means runs p.0 h).0 w.0, bytes_from ps runs h w.1)

bytes_told : (pairs : List (ℕ × ℕ)) (runs : List Span) → IsRuns runs → HaveBytes pairs runs → list_all (λ p. touches runs p.0) pairs ≡ true
bytes_told [] runs h all = refl
bytes_told (p ∷ ps) runs h all = both (touches runs p.0) (list_all (λ q. touches runs q.0) ps) ((touches_means runs p.0 h).1 all.0) (bytes_told ps runs h all.1)

pub holds_from : (r : Row) → IsRuns r.here → are_blocks_of (map extent_of r.extents) r.here ≡ true → HoldsBytes (row_value r)
holds_from r h all =
    let w = two (has_each r.extents r.here) (list_all (λ e. touches r.here e.block) (map extent_of r.extents)) all in
    holds_bytes r (blocks_from 0 r.extents r.here h w.0) (bytes_from r.extents r.here h (sym (touched_is r.extents r.here) ∙ w.1))

pub holds_told : (r : Row) → IsRuns r.here → HoldsBytes (row_value r) → are_blocks_of (map extent_of r.extents) r.here ≡ true
holds_told r h all =
    both (has_each r.extents r.here) (list_all (λ e. touches r.here e.block) (map extent_of r.extents)) (blocks_told 0 r.extents r.here h (has_blocks r all)) (touched_is r.extents r.here ∙ bytes_told r.extents r.here h (have_bytes r all))
