-- What the calls of a volume ask of a change.
use Rattle.std.specs.Prelude.{◌≤◌, ◌<◌, List, All}
use Rattle.cf_base.specs.declared.items.SeenPath.{SeenPath}
use Rattle.cf_base.specs.declared.changes.Change.{Change}
use Rattle.cf_base.specs.declared.changes.Change.TheVariants as change
use Rattle.cf_base.specs.declared.ids.ItemId.{ItemId}
use Rattle.cf_model.specs.Books.{Book}

-- a new item has the id that the next item gets, or a later one
abbrev pub IsNextId : Change → ItemId → Type 0
IsNextId (change.Make item parent name kind size identity) next = next.0 ≤ item.0
IsNextId (change.Copy item from parent name) next = next.0 ≤ item.0
IsNextId c next = Unit {0}

-- ids of paths seen have room in the key of their record
abbrev pub AreShortIds : List SeenPath → Type 0
AreShortIds ps = All (λ p. p.item.0 < 18446744073709551616) ps

-- what a change asks of the book: the record of a removed item's path is found by its key
abbrev pub FitsBook : Change → Book → Type 0
FitsBook (change.Remove item) b = AreShortIds b.seen
FitsBook c b = Unit {0}
