-- Uploads of items that are there.
use Rattle.std.specs.Prelude.{◌≡◌, Bool, true, false, Option, Some, None}
use Rattle.cf_base.specs.declared.answers.Shown.{Shown}
use Rattle.cf_base.specs.declared.answers.Shown.TheVariants as shown
use Rattle.cf_base.specs.declared.codes.Code.{Code}
use Rattle.cf_base.specs.declared.ids.ItemId.{ItemId}
use Rattle.cf_engine_queue.specs.Books.{entry_value}
use Rattle.cf_engine_uploads.specs.declared.entries.Draft.{Draft}
use Rattle.cf_filter_steps.specs.Answering.{IsAt}
use Rattle.cf_model.specs.Books.{Action, MakeDir, MoveItem, PutFile, RemoveItem}
use Rattle.cf_model.specs.Identities.{base_version}
use Rattle.cf_model.specs.Items.{Item, is_all_here}
use Rattle.cf_model.specs.Pushes.{entry_by, why_no_token}
use Rattle.cf_model.specs.State.{Filter, State}

-- the upload is of a place, without bytes
abbrev pub is_of_place : Action → Bool
is_of_place PutFile = false
is_of_place MakeDir = true
is_of_place MoveItem = true
is_of_place RemoveItem = false

-- the item is there, and each of its bytes is here
pub record IsWholeItem (id : ItemId) (i : Item) (s : Filter) : Type 0 where
  pub there : IsAt id i s
  pub whole : is_all_here i ≡ true

-- The draft is that of a Put of the item with this id, of which each byte is here, and a token is left.
pub record MayPut (id : ItemId) (i : Item) (d : Draft) (s : State) : Type 0 where
  pub item : IsWholeItem id i s.filter
  pub left : why_no_token s ≡ None
  pub entry : entry_value d.entry ≡ entry_by PutFile i s
  pub expect : d.expect ≡ base_version i

-- why a call was refused
abbrev pub refusal_of : Shown → Option Code
refusal_of (shown.Refused c) = Some c
refusal_of _ = None
