-- Steps of the tests of blocks.
use Rattle.std.proofs.Common.{◌≡◌, ℕ, ◌+◌, ◌-◌, ◌*◌, ◌<◌, Bool, true, false, ◌||◌, ◌&&◌, cond, List, [], ◌∷◌, refl, sym, ap, ◌∙◌, arith, eqb, Some}
use Rattle.std.proofs.lemmas.Bool.Decides.{nat_tests}
use Rattle.std.specs.List.{list_all}
use Rattle.std.specs.Prelude.{is_some, map, nat_le, nat_lt}
use Rattle.cf_base.specs.declared.spans.Span.{Span}
use Rattle.cf_model.specs.Words.{counting}
use Rattle.cf_ranges.specs.Pairs.{cluster_at}
use Rattle.cf_ranges.specs.Positions.{touches}
use Rattle.cf_scrub.specs.Blocks.{are_blocks_of, blocks_of}
use Rattle.cf_scrub.specs.Places.{spans}
use Rattle.cf_table.specs.Spelling.{extent_of}
use Rattle.cf_volume_image.specs.Sound.{has_block}
use Rattle.cf_volume_image.proofs.TreeSteps.{less_one}

pub block_is : (ps : List (ℕ × ℕ)) (b : ℕ) → has_block (map extent_of ps) b ≡ is_some (cluster_at ps b)
block_is [] b = refl
block_is (p ∷ ps) b = by (eqb p.0 b) (block_is ps b) where
  by : (a : Bool) → has_block (map extent_of ps) b ≡ is_some (cluster_at ps b) → (a || has_block (map extent_of ps) b) ≡ is_some (cond a (Some p.1) (cluster_at ps b))
  by true h = refl
  by false h = h

pub counting_step : (f : ℕ → Bool) (b to : ℕ) → b < to → f b ≡ true → list_all f (counting (b + 1) (to - (b + 1))) ≡ list_all f (counting b (to - b))
counting_step f b to lt h = sym (ap (λ (n : ℕ). list_all f (counting b n)) (less_one to b lt) ∙ ap (λ v. v && list_all f (counting (b + 1) (to - (b + 1)))) h)

pub touches_is : (runs : List Span) (b : ℕ) → touches runs b ≡ spans runs (4096 * b + 4095) (4096 * b + 1)
touches_is [] b = refl
touches_is (s ∷ ss) b = two (one s.start (s.start + s.len) (4096 * b)) (touches_is ss b) where
  one : (start end at : ℕ) → (nat_lt start (at + 4096) && nat_lt at end) ≡ (nat_le start (at + 4095) && nat_le (at + 1) end)
  one start end at = grind (arith, nat_tests)

  two : {a b c d : Bool} → a ≡ b → c ≡ d → (a || c) ≡ (b || d)
  two {a} {b} {c} {d} h k = ap (λ v. v || c) h ∙ ap (λ v. b || v) k

pub next_is : (at end : ℕ) → nat_le (at + 1) end ≡ nat_lt at end
next_is at end = grind (arith, nat_tests)

pub touched_is : (ps : List (ℕ × ℕ)) (runs : List Span) → list_all (λ e. touches runs e.block) (map extent_of ps) ≡ list_all (λ p. touches runs p.0) ps
touched_is [] runs = refl
touched_is (p ∷ ps) runs = ap (λ v. touches runs p.0 && v) (touched_is ps runs)

-- both tests of a file
pub blocks_are : (es ps : List (ℕ × ℕ)) (here runs : List Span) (have touched : Bool) → runs ≡ here → ps ≡ es → have ≡ list_all (λ s. list_all (has_block (map extent_of es)) (blocks_of s)) runs → have ≡ true
    → touched ≡ list_all (λ p. touches runs p.0) ps → touched ≡ are_blocks_of (map extent_of es) here
blocks_are es ps here runs have touched r p h so k =
    k ∙ ap (λ (ss : List Span). list_all (λ q. touches ss q.0) ps) r ∙ ap (λ (qs : List (ℕ × ℕ)). list_all (λ q. touches here q.0) qs) p ∙ sym (touched_is es here)
    ∙ sym (ap (λ v. v && list_all (λ e. touches here e.block) (map extent_of es)) (ap (list_all (λ s. list_all (has_block (map extent_of es)) (blocks_of s))) (sym r) ∙ sym h ∙ so))
