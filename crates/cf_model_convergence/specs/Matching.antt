-- Items here that match their targets.
use Rattle.std.specs.Prelude.{true, false, [], Some, ◌∷◌, ◌≡◌}
use Rattle.cf_model.specs.Identities.{parent_target, target_of}
use Rattle.cf_model.specs.Items.{Item, item_of}
use Rattle.cf_model.specs.LookUp.{is_excluded, item_line}
use Rattle.cf_model.specs.Settled.{has_one_local, is_latest}
use Rattle.cf_model.specs.Skips.{in_use}
use Rattle.cf_model.specs.State.{State, book_now, items_now}
use Rattle.cf_model.specs.Store.{Stored, line_of, stored_at}
use Rattle.cf_model.specs.Words.{same}
use Rattle.cf_model_laws.specs.Invariant.{All}

-- The target is live and of the item's kind, it stands in the target of the item's parent under the item's name, and a file
-- has its latest version.
pub record IsMatched (s : State) (i : Item) : Type 0 where
  pub stored : Stored
  pub found : stored_at s.link.remote.items (target_of i) ≡ Some stored
  pub live : stored.live ≡ true
  pub kind : stored.directory ≡ i.directory
  pub parent : (parent_target (items_now s) i).0 ≡ stored.parent.0
  pub name : same i.name stored.name ≡ true
  pub latest : i.directory ≡ false → is_latest i stored ≡ true
  pub in_sync : i.in_sync ≡ true

-- the item is there, and is not the root
abbrev pub IsBelow : State → Item → Type 0
IsBelow s i = (item_of (items_now s) i.id ≡ Some i) × ((i.id.0 ≡ 1) → ⊥)

-- The items are trees here and in the remote, with one root; a parent is not in use; and all items below the root that are
-- neither excluded nor in use match. No tombstone is left.
pub record IsMatching (s : State) : Type 0 where
  pub found : All (λ i. item_of (items_now s) i.id ≡ Some i) (items_now s)
  pub tree : (i : Item) → IsBelow s i → (p : Item) × (item_of (items_now s) i.parent ≡ Some p) × (item_line (items_now s) i.id ≡ i.id.0 ∷ item_line (items_now s) p.id)
  pub remote_tree : (r : Stored) → stored_at s.link.remote.items r.rid ≡ Some r → r.live ≡ true → ((r.rid.0 ≡ 1) → ⊥) → line_of s.link.remote r.rid ≡ r.rid.0 ∷ line_of s.link.remote r.parent
  pub one_root : (i : Item) → IsBelow s i → (target_of i).0 ≡ 1 → ⊥
  pub idle : (i p : Item) → IsBelow s i → item_of (items_now s) i.parent ≡ Some p → in_use s p.id ≡ false
  pub matched : (i : Item) → IsBelow s i → is_excluded (items_now s) i.id ≡ false → in_use s i.id ≡ false → IsMatched s i
  pub buried : (book_now s).tombstones ≡ []

-- each live item of the remote is here once
abbrev pub IsAllHere : State → Type 0
IsAllHere s = All (λ r. has_one_local s r ≡ true) s.link.remote.items
