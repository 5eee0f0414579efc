-- What the provider is asked for, and what waits miss.
use Rattle.std.specs.Prelude.{◌≡◌, true, List, ◌==◌}
use Rattle.std.specs.List.{list_any}
use Rattle.cf_base.specs.declared.ids.ItemId.{ItemId}
use Rattle.cf_model.specs.Asks.{is_wanted}
use Rattle.cf_model.specs.Missing.{View, Wait}
use Rattle.cf_model.specs.Requests.{Live, is_data}

-- a data ask of the item has a block in which one of the waits misses a byte
abbrev pub IsMissed : ItemId → View → List Wait → Live → Type 0
IsMissed item v ws a = (a.ask.item.0 == item.0) ≡ true → is_data a.ask.kind ≡ true → list_any (is_wanted item v ws) a.owned ≡ true
