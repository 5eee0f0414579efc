-- What a turn that was planned is.
use Rattle.std.specs.Prelude.{◌≡◌, Bool, Option, Some}
use Rattle.cf_base.specs.declared.ids.ItemId.{ItemId}
use Rattle.cf_base.specs.declared.items.SeenPath.{SeenPath}
use Rattle.cf_base.specs.declared.messages.Entry.{Entry}
use Rattle.cf_engine_feed.specs.Indexes.{Indexes}
use Rattle.cf_engine_feed.specs.declared.indexes.Targets.{Targets}
use Rattle.cf_engine_feed_plan.specs.Premises.{id_of}
use Rattle.cf_engine_feed_plan.specs.Turns.{IsTurn}
use Rattle.cf_engine_feed_plan.specs.declared.entry_steps.Turn.{Turn}
use Rattle.cf_filter_steps.specs.Answering.{Sense}
use Rattle.cf_model.specs.Books.{seen_of}
use Rattle.cf_model.specs.Dehydration.{in_use}
use Rattle.cf_model.specs.Feeds.{parent_here}
use Rattle.cf_model.specs.Identities.{by_target}
use Rattle.cf_model.specs.Items.{Item}
use Rattle.cf_model.specs.State.{State, book_now, items_now}

-- where an item that may be there was seen, and whether it is in use

pub record SeenAt {X : Type 0} (S : Sense X) (x : X) (item : Option ItemId) (path : Option SeenPath) : Type 0 where
  pub is : (s : State) (id : ItemId) → S.means x s.filter → item ≡ Some id → path ≡ seen_of s.filter.volume.book id

pub record IsUsedAt {X : Type 0} (S : Sense X) (x : X) (item : Option ItemId) (used : Bool) : Type 0 where
  pub is : (s : State) (id : ItemId) → S.means x s.filter → item ≡ Some id → used ≡ in_use id s.filter

-- what was found of an entry: the item and the parent, and where the item was seen
pub record IsFound (id above : Option ItemId) (at : Option SeenPath) (e : Entry) (s : State) : Type 0 where
  pub item : id ≡ id_of (by_target (items_now s) e.rid)
  pub parent : above ≡ id_of (parent_here s e)
  pub path : (i : Item) → by_target (items_now s) e.rid ≡ Some i → at ≡ seen_of (book_now s) i.id

-- in each whole state whose filter it stands for, and whose items the index has, the turn is the entry's
pub record PlansTurn {X : Type 0} (S : Sense X) (last : Bool) (e : Entry) (x : X) (targets : Targets) (turn : Turn) : Type 0 where
  pub is : (s : State) → S.means x s.filter → Indexes targets s → IsTurn last e s turn
