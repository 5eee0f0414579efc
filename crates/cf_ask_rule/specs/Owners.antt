-- How many asks own a block.
use Rattle.std.specs.Prelude.{ℕ, cond, List, [], ◌∷◌, ◌+◌, ◌≤◌, ◌&&◌, ◌==◌}
use Rattle.cf_base.specs.declared.ids.ItemId.{ItemId}
use Rattle.cf_model.specs.Requests.{Live, has_block}

-- how many asks of the item own the block
abbrev pub owners : ItemId → ℕ → List Live → ℕ
owners item b [] = 0
owners item b (a ∷ as') = cond ((a.ask.item.0 == item.0) && has_block a.owned b) 1 0 + owners item b as'

-- no block of the item has two owners
abbrev pub AreApart : ItemId → List Live → Type 0
AreApart item asks = (b : ℕ) → owners item b asks ≤ 1
