-- Removals, and the keys of the records that they take away.
use Rattle.std.specs.Prelude.{ℕ, List, codes, ◌++◌}
use Rattle.cf_base.specs.declared.changes.Change.{Change}
use Rattle.cf_base.specs.declared.changes.Change.TheVariants as change
use Rattle.cf_base.specs.declared.ids.ItemId.{ItemId}
use Rattle.cf_model.specs.Words.{in_bytes}

-- of the path seen of an item
abbrev pub seen_key : ItemId → List ℕ
seen_key id = codes "s" ++ in_bytes 8 id.0

abbrev pub IsRemove : Change → Type 0
IsRemove (change.Remove item) = Unit {0}
IsRemove _ = ⊥
