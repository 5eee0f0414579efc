-- What the engine reads of a filter, and of the whole state.
use Rattle.std.specs.Prelude.{Bool, Option, Some, None, cond, is_some, nat_le}
use Rattle.cf_base.specs.declared.ids.ItemId.{ItemId}
use Rattle.cf_base.specs.declared.ids.Token.{Token}
use Rattle.cf_model.specs.Items.{item_of}
use Rattle.cf_model.specs.Numbers.{most}
use Rattle.cf_model.specs.Pushes.{next_token}
use Rattle.cf_model.specs.State.{Filter, State}

-- an item is there
abbrev pub is_here : ItemId → Filter → Bool
is_here id s = is_some (item_of s.volume.items id)

-- the token that the next upload gets, where one is left
abbrev pub token_left : State → Option Token
token_left s = cond (nat_le most s.volatile.tokens) None (Some (next_token s))
