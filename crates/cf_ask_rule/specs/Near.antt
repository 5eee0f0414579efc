-- What a step of an item looks at, and changes: the waits on the item, and the asks on it or of the key that the deed names.
use Rattle.std.specs.Prelude.{◌≡◌, Bool, true, false, not, List, Option, Some, None, filter, ◌&&◌, ◌||◌, ◌==◌}
use Rattle.std.specs.List.{AllByRecursion}
use Rattle.cf_ask_rule.specs.Plans.{Outlook}
use Rattle.cf_base.specs.declared.ids.ItemId.{ItemId}
use Rattle.cf_base.specs.declared.ids.Key.{Key}
use Rattle.cf_model.specs.Missing.{Wait}
use Rattle.cf_model.specs.Numbers.{same_key}
use Rattle.cf_model.specs.Requests.{Cancels, Closes, Deed, Expires, Fails, Finishes, Leaves, Live, Nothing, Restarts, is_data}
use Rattle.cf_model.specs.Words.{is_empty, says}

abbrev pub is_on : ItemId → Wait → Bool
is_on item w = w.item.0 == item.0

-- the key that a deed names
abbrev pub named : Deed → Option Key
named Nothing = None
named (Leaves key blocks) = Some key
named (Fails key blocks cause) = Some key
named (Cancels wait) = None
named (Closes handle last) = None
named Restarts = None
named (Expires key) = Some key
named (Finishes key cause) = Some key

abbrev pub is_near : ItemId → Option Key → Live → Bool
is_near item key a = (a.ask.item.0 == item.0) || says (same_key a.ask.key) key

-- A data ask has a block.
abbrev pub IsFull : Live → Type 0
IsFull a = (is_data a.ask.kind && is_empty a.owned) ≡ false

-- The wait of an ask, if it has one of these, is on its item.
abbrev pub Agrees : List Wait → Live → Type 0
Agrees waits a = AllByRecursion (λ w. same_key w.id.0 a.wait.0 ≡ true → (w.item.0 == a.ask.item.0) ≡ true) waits

-- The one plan, for all waits and asks, is the other, for those that are near; what is not near stays.
pub record IsLocal (item : ItemId) (key : Option Key) (waits : List Wait) (asks : List Live) (all part : Outlook) : Type 0 where
  pub ended : all.ended ≡ part.ended
  pub left : filter (is_on item) all.left ≡ part.left
  pub other_waits : filter (λ w. not (is_on item w)) all.left ≡ filter (λ w. not (is_on item w)) waits
  pub cancelled : all.cancelled ≡ part.cancelled
  pub kept : filter (is_near item key) all.kept ≡ part.kept
  pub other_asks : filter (λ a. not (is_near item key a)) all.kept ≡ filter (λ a. not (is_near item key a)) asks
  pub made : all.made ≡ part.made
