-- Entries of uploads, by what was read of their items.
use Rattle.std.specs.Prelude.{◌≡◌}
use Rattle.cf_base.specs.declared.ids.ItemId.{ItemId}
use Rattle.cf_base.specs.declared.ids.Rid.{Rid}
use Rattle.cf_base.specs.declared.ids.Token.{Token}
use Rattle.cf_engine_queue.specs.Books.{entry_value}
use Rattle.cf_engine_uploads.specs.declared.entries.Draft.{Draft}
use Rattle.cf_filter_steps.specs.Answering.{IsAt, Sense}
use Rattle.cf_model.specs.Books.{Action, QueueEntry}
use Rattle.cf_model.specs.Identities.{base_version, parent_target, target_of}
use Rattle.cf_model.specs.Items.{Item}
use Rattle.cf_model.specs.Pushes.{entry_by, next_token, placed}
use Rattle.cf_model.specs.State.{State, items_now}
use Rattle.cf_table.specs.Means.{Means}
use Rattle.cf_table.specs.declared.rows.Row.{Row}

-- the row means the item, and the token, the target and that of the parent are those of the state
pub record IsRead (row : Row) (token : Token) (target parent : Rid) (i : Item) (s : State) : Type 0 where
  pub means : Means row i
  pub token_is : token ≡ next_token s
  pub target_is : target ≡ target_of i
  pub parent_is : parent ≡ parent_target (items_now s) i

abbrev pub IsPlaced : Row → Token → Action → Rid → Rid → QueueEntry → Type 0
IsPlaced row token action target parent e = (s : State) (i : Item) → IsRead row token target parent i s → e ≡ placed action i s

abbrev pub IsEntry : Row → Token → Action → Rid → Rid → QueueEntry → Type 0
IsEntry row token action target parent e = (s : State) (i : Item) → IsRead row token target parent i s → e ≡ entry_by action i s

-- the upload of the item with this id, in each state in which the token is the next one
pub record Drafts {X : Type 0} (S : Sense X) (token : Token) (action : Action) (id : ItemId) (x : X) (d : Draft) : Type 0 where
  pub entry : (s : State) (i : Item) → S.means x s.filter → IsAt id i s.filter → token ≡ next_token s → entry_value d.entry ≡ entry_by action i s
  pub expect : (s : State) (i : Item) → S.means x s.filter → IsAt id i s.filter → d.expect ≡ base_version i
