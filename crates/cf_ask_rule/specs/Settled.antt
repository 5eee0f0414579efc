-- An item of which nothing is left to do.
use Rattle.std.specs.Prelude.{◌≡◌, true, false, List, []}
use Rattle.std.specs.List.{AllByRecursion}
use Rattle.cf_ask_rule.specs.Near.{is_on}
use Rattle.cf_base.specs.declared.ids.ItemId.{ItemId}
use Rattle.cf_model.specs.Asks.{dehydrate_asks, is_idle, list_asks, open_blocks}
use Rattle.cf_model.specs.Missing.{View, Wait, is_met}
use Rattle.cf_model.specs.Requests.{Live}

-- By this view none of the waits on the item is met, none of its asks is idle, and none is to be made.
pub record IsSettled (item : ItemId) (v : View) (waits : List Wait) (asks : List Live) : Type 0 where
  pub unmet : AllByRecursion (λ w. is_on item w ≡ true → is_met v w ≡ false) waits
  pub awaited : AllByRecursion (λ a. is_idle item v waits a ≡ false) asks
  pub owned : open_blocks item v waits asks ≡ []
  pub listed : list_asks item waits asks ≡ []
  pub consented : dehydrate_asks item waits asks ≡ []
