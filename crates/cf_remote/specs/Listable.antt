-- Items that a listing can tell.
use Rattle.std.specs.Prelude.{◌≡◌, ◌⊎◌, true, List, []}
use Rattle.std.specs.List.{AllByRecursion}
use Rattle.cf_base.specs.declared.messages.Entry.{Entry}
use Rattle.cf_model.specs.Fits.{are_distinct, are_named_apart, is_entry}
use Rattle.cf_model.specs.Growth.{IsCounted}
use Rattle.cf_model.specs.Store.{Held, Stored, entry_told}

-- the item is the root, which is in no directory, or what is told of it is an entry that can be
abbrev pub IsListable : Stored → Type 0
IsListable s = ((s.rid.0 ≡ 1) × (s.parent.0 ≡ 0)) ⊎ (is_entry [] (entry_told s) ≡ true)

pub record AreListable (held : Held) : Type 0 where
  pub counted : IsCounted held
  pub items : AllByRecursion IsListable held.items

-- no item is told twice, and no name
pub record AreApart (es : List Entry) : Type 0 where
  pub rids : are_distinct es ≡ true
  pub names : are_named_apart es ≡ true
