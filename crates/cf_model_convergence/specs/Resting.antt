-- Items here that a pass left alone, and what is known of their targets.
use Rattle.std.specs.Prelude.{List, true, false, Some, ◌<◌, ◌≤◌, ◌≡◌, ◌∷◌, []}
use Rattle.cf_base.specs.declared.items.SeenPath.{SeenPath}
use Rattle.cf_model.specs.Books.{Book, seen_of}
use Rattle.cf_model.specs.Identities.{base_rid, base_version, has_target, is_untargeted, stands_at_seen, target_of}
use Rattle.cf_model.specs.Items.{Item, is_dirty, item_of}
use Rattle.cf_model.specs.LookUp.{is_excluded, item_line}
use Rattle.cf_model.specs.Skips.{in_use}
use Rattle.cf_model.specs.State.{State, book_now, items_now}
use Rattle.cf_model.specs.Store.{Stored, latest, stored_at}
use Rattle.cf_model_laws.specs.Invariant.{All, Among}
use Rattle.cf_model_convergence.specs.Matching.{IsBelow}
use Rattle.cf_model_convergence.specs.Tidy.{IsTidy}

-- the target is of the item's kind, and of a file it is the base too
pub record IsTargetRight (i : Item) (r : Stored) : Type 0 where
  pub kind : r.directory ≡ i.directory
  pub base : i.directory ≡ false → (base_rid i).0 ≡ r.rid.0

-- The target is live; a file has its latest version as the base, and a path that is seen is the target's.
pub record IsKnown (b : Book) (i : Item) (r : Stored) : Type 0 where
  pub live : r.live ≡ true
  pub version : i.directory ≡ false → (base_version i).0 ≡ latest r
  pub seen : (p : SeenPath) → seen_of b i.id ≡ Some p → (p.parent.0 ≡ r.parent.0) × (p.name ≡ r.name)

-- nothing of the item is to be uploaded or marked
pub record IsRested (s : State) (i : Item) : Type 0 where
  pub target : is_untargeted i ≡ false
  pub stands : stands_at_seen (items_now s) (book_now s) i ≡ true
  pub clean : is_dirty i ≡ false
  pub in_sync : i.in_sync ≡ true

abbrev pub IsTargetOf : State → Item → Stored → Type 0
IsTargetOf s i r = stored_at s.link.remote.items (target_of i) ≡ Some r

-- Items are trees here and in the remote. Targets are items of the remote, none but the root's is its root, and they are right;
-- those that the cursor has passed are known. Of what is neither excluded nor in use, nothing is left to do, and the targets that
-- the cursor has not passed are known too. No parent is in use, and no tombstone is left.
pub record IsAtRest (s : State) : Type 0 where
  pub tidy : IsTidy s.link.remote
  pub found : All (λ i. item_of (items_now s) i.id ≡ Some i) (items_now s)
  pub tree : (i : Item) → IsBelow s i → (p : Item) × (item_of (items_now s) i.parent ≡ Some p) × (item_line (items_now s) i.id ≡ i.id.0 ∷ item_line (items_now s) p.id)
  pub one_root : (i : Item) → IsBelow s i → (target_of i).0 ≡ 1 → ⊥
  pub there : (i : Item) → IsBelow s i → is_untargeted i ≡ false → (r : Stored) × IsTargetOf s i r
  pub right : (i : Item) (r : Stored) → IsBelow s i → IsTargetOf s i r → IsTargetRight i r
  pub passed : (i : Item) (r : Stored) → IsBelow s i → IsTargetOf s i r → r.changed ≤ (book_now s).cursor → IsKnown (book_now s) i r
  pub rested : (i : Item) → IsBelow s i → is_excluded (items_now s) i.id ≡ false → in_use s i.id ≡ false → IsRested s i
  pub ahead : (i : Item) (r : Stored) → IsBelow s i → is_excluded (items_now s) i.id ≡ false → in_use s i.id ≡ false → IsTargetOf s i r → (book_now s).cursor < r.changed → IsKnown (book_now s) i r
  pub idle : (i p : Item) → IsBelow s i → item_of (items_now s) i.parent ≡ Some p → in_use s p.id ≡ false
  pub buried : (book_now s).tombstones ≡ []

-- no two items have one target
abbrev pub AreTargetsApart : List Item → Type 0
AreTargetsApart [] = Unit {0}
AreTargetsApart (i ∷ is) = All (λ j. (target_of i).0 ≡ (target_of j).0 → (target_of i).0 ≡ 0) is × AreTargetsApart is

-- Each live item of the remote is a target here, and of one item alone.
pub record AreAllTargets (s : State) : Type 0 where
  pub apart : AreTargetsApart (items_now s)
  pub some : All (λ r. r.live ≡ true → (i : Item) × Among i (items_now s) × (has_target i r.rid ≡ true)) s.link.remote.items
