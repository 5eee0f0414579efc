-- Tombstones, and uploads of removals and of new items: of the remote, the items and the book.
use Rattle.std.specs.Prelude.{true, Some, ◌≡◌, ◌⊎◌, List}
use Rattle.cf_model.specs.Books.{Book, RemoveItem, Tombstone}
use Rattle.cf_model.specs.Identities.{target_of}
use Rattle.cf_model.specs.Items.{Item}
use Rattle.cf_model.specs.PushReplies.{is_new_entry}
use Rattle.cf_model.specs.Soundness.{Each}
use Rattle.cf_model.specs.Store.{Held, Stored, stored_at}
use Rattle.cf_model_laws.specs.Invariant.{All}

-- the tombstone of a directory has version 0
abbrev pub IsOfKindBuried : Held → Tombstone → Type 0
IsOfKindBuried r t = (t.rid.0 ≡ 0) ⊎ ((x : Stored) × (stored_at r.items t.rid ≡ Some x) × (x.directory ≡ true → t.version.0 ≡ 0))

pub record AreBuriedRight (r : Held) (items : List Item) (b : Book) : Type 0 where
  -- two tombstones with one number are one
  pub alone : All (λ t. All (λ u. t.number ≡ u.number → t ≡ u) b.tombstones) b.tombstones
  -- a removal on its way is of the item of the tombstone with its number
  pub removals : All (λ e. e.action ≡ RemoveItem → All (λ t. t.number ≡ e.number → t.rid.0 ≡ e.rid.0) b.tombstones) b.entries
  -- a new item that is on its way has no target
  pub fresh : All (λ e. is_new_entry e ≡ true → Each e.item (λ i. (target_of i).0 ≡ 0) items) b.entries
  -- the tombstone of a directory has version 0
  pub kinds : All (IsOfKindBuried r) b.tombstones
