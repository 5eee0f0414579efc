-- An index of the local items by the item of the remote that each is.
use Rattle.std.specs.BTreeMap.{get}
use Rattle.std.specs.Ordering.{nat_cmp}
use Rattle.std.specs.Prelude.{ℕ, Bool, false, cond, List, Option, Some, None, not, ◌≡◌, ◌==◌, ◌&&◌}
use Rattle.cf_base.specs.declared.ids.ItemId.{ItemId}
use Rattle.cf_engine_feed.specs.declared.indexes.Targets.{Targets}
use Rattle.cf_model.specs.Identities.{target_of}
use Rattle.cf_model.specs.Items.{Item, item_of}
use Rattle.cf_model.specs.State.{State, items_now}
use Rattle.cf_model.specs.Words.{part}

-- the item of the remote that the item with this id is, 0 for none
abbrev pub target_at : List Item → ItemId → ℕ
target_at items id = part (λ i. (target_of i).0) 0 (item_of items id)

-- what the index has of an item of the remote
abbrev pub entry_of : Targets → ℕ → Option ℕ
entry_of t rid = get nat_cmp t.ids rid

-- What an entry says of an item of the remote: no local item is it, or the one with this id alone; 0 says nothing.
abbrev pub Says : Option ℕ → (ItemId → ℕ) → ℕ → Type 0
Says None targets rid = (d : ItemId) → (targets d == rid) ≡ false
Says (Some k) targets rid = (k == 0) ≡ false → (d : ItemId) → (targets d == rid) ≡ (d.0 == k)

-- each entry says what is so
pub record IsIndex (t : Targets) (targets : ItemId → ℕ) : Type 0 where
  pub says : (rid : ℕ) → (rid == 0) ≡ false → Says (entry_of t rid) targets rid

-- the entry of one item of the remote is another, and all others stay
abbrev pub Puts : ℕ → Option ℕ → Targets → Targets → Type 0
Puts rid entry old new = (q : ℕ) → entry_of new q ≡ cond (rid == q) entry (entry_of old q)

-- the item alone has another target
pub record Changes (item : ItemId) (before after : ℕ) (old new : ItemId → ℕ) : Type 0 where
  pub was : old item ≡ before
  pub is : new item ≡ after
  pub others : (d : ItemId) → (d.0 == item.0) ≡ false → new d ≡ old d

-- the index is that of the state's items
abbrev pub Indexes : Targets → State → Type 0
Indexes t s = IsIndex t (target_at (items_now s))

-- the entry is that of the item alone
abbrev pub is_of : Option ℕ → ℕ → Bool
is_of None item = false
is_of (Some k) item = (k == item) && not (k == 0)

-- the entry with an item more
abbrev pub with_item : Option ℕ → ℕ → ℕ
with_item None item = item
with_item (Some k) item = 0
