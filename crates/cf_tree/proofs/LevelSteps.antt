-- One level more.
use Rattle.std.proofs.Common.{◌≡◌, ℕ, zero, suc, ◌-◌, ◌<◌, List, ◌++◌, refl, ◌∙◌, arith, append_assoc}
use Rattle.std.proofs.lemmas.List.{append-nil}
use Rattle.cf_base.specs.declared.ids.ItemId.{ItemId}
use Rattle.cf_table.specs.declared.rows.Row.{Row}
use Rattle.cf_tree.specs.Levels.{level_at, level_below, levels_in}

pub one_down : (n : ℕ) (rows : List Row) (level below : List ItemId) → 0 < n → below ≡ level_below rows level → level_at (n - 1) rows below ≡ level_at n rows level
unfolding level_at
one_down zero rows level below lt e = absurd (omega arith)
one_down (suc n) rows level below lt e = let less : suc n - 1 ≡ n = omega arith in λ k. level_at (less k) rows (e k)

pub none_down : (rows : List Row) (level : List ItemId) → level_at 0 rows level ≡ level
unfolding level_at
none_down rows level = refl

pub one_more : (n : ℕ) (rows : List Row) (all level below : List ItemId) → 0 < n → below ≡ level_below rows level → (all ++ level) ++ levels_in (n - 1) rows below ≡ all ++ levels_in n rows level
unfolding levels_in
one_more zero rows all level below lt e = absurd (omega arith)
one_more (suc n) rows all level below lt e = let less : suc n - 1 ≡ n = omega arith in (λ k. (all ++ level) ++ levels_in (less k) rows (e k)) ∙ append_assoc all level (levels_in n rows (level_below rows level))

pub no_more : (rows : List Row) (all level : List ItemId) → all ++ levels_in 0 rows level ≡ all
unfolding levels_in
no_more rows all level = append-nil all
