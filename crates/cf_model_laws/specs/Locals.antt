-- Local writes are not lost.
use Rattle.std.specs.Prelude.{ℕ, true, false, List, [], cond, Option, Some, None, slice_get, ◌∷◌, ◌++◌, ◌≡◌, ◌==◌}
use Rattle.cf_base.specs.declared.changes.Change.{Change}
use Rattle.cf_base.specs.declared.changes.Change.TheVariants as change
use Rattle.cf_base.specs.declared.ids.ItemId.{ItemId}
use Rattle.cf_base.specs.declared.ids.Usn.{Usn}
use Rattle.cf_model.specs.Effects.{effect}
use Rattle.cf_model.specs.Items.{Item, item_of, size_of}
use Rattle.cf_model.specs.Kept.{byte_given, is_kept, lists, lists_at, takes_away, with_copies, with_copy}
use Rattle.cf_model.specs.Logs.{items_of}
use Rattle.cf_model.specs.Overlay.{Put, Resize}
use Rattle.cf_model.specs.State.{State}
use Rattle.cf_model_laws.specs.Invariant.{All}
use Rattle.cf_model_laws.specs.Premises.{IsFair}
use Rattle.cf_model_laws.specs.Uses.{since}

-- the byte that a write or a size gives to position p of an item, which has this size before
abbrev pub byte_by : Change → ItemId → ℕ → ℕ → Option ℕ
byte_by (change.Write item at bytes) id size p = cond (item.0 == id.0) (byte_given size (Put at bytes) p) None
byte_by (change.Size item n) id size p = cond (item.0 == id.0) (byte_given size (Resize n) p) None
byte_by _ id size p = None

-- the change gives byte b to position p of a file
pub record IsWritten (items : List Item) (c : Change) (id : ItemId) (p b : ℕ) : Type 0 where
  pub item : Item
  pub found : item_of items id ≡ Some item
  pub file : item.directory ≡ false
  pub byte : byte_by c id (size_of item) p ≡ Some b

-- None of these changes takes the byte at p away from one of the items that still lists write n: no other write over it, no cut
-- before it, no removal. A copy of one of the items is one of them too.
abbrev pub AreSparing : List Item → List ItemId → Usn → ℕ → List (Usn × Change) → Type 0
AreSparing items ids n p [] = Unit {0}
AreSparing items ids n p (c ∷ cs) = All (λ id. lists_at items id n ≡ true → takes_away items id p c.1 ≡ false) ids × AreSparing (effect items c.1 c.0) (with_copy c.1 ids) n p cs

-- write n of the log gave byte b to position p of the file, and no later change of it took that byte away
pub record IsLocal (log : List (Usn × Change)) (id : ItemId) (n : Usn) (p b : ℕ) : Type 0 where
  pub before : List (Usn × Change)
  pub write : Change
  pub after : List (Usn × Change)
  pub parts : log ≡ before ++ (n, write) ∷ after
  pub written : IsWritten (items_of before) write id p b
  pub spared : AreSparing (effect (items_of before) write n) (id ∷ []) n p after

-- The byte is here, or in a version that the remote has made.
abbrev pub AreLocalsKept : State → Type 0
AreLocalsKept s = IsFair s.link → (id : ItemId) (n : Usn) (p b : ℕ) → IsLocal s.filter.volume.log id n p b → is_kept s.link.remote s.filter.volume.log id n p b ≡ true

-- as long as the write stands in the list of an item, or of a copy of it, it is that byte which is here
abbrev pub AreLocalsHeld : State → Type 0
AreLocalsHeld s =
    IsFair s.link → (id : ItemId) (n : Usn) (p b : ℕ) (h : IsLocal s.filter.volume.log id n p b)
    → All (λ k. (i : Item) → item_of s.filter.volume.items k ≡ Some i → lists n i.writes ≡ true → slice_get i.held p ≡ Some (Some b)) (with_copies h.after (id ∷ []))

-- A write that stood in the log of the first state was flushed there: it is in the log of the second, and what is said of the
-- byte speaks of the changes up to this one.
pub record IsLocalSince (s t : State) (id : ItemId) (n : Usn) (p b : ℕ) : Type 0 where
  pub before : List (Usn × Change)
  pub write : Change
  pub after : List (Usn × Change)
  pub parts : s.filter.volume.log ≡ before ++ (n, write) ∷ after
  pub written : IsWritten (items_of before) write id p b
  pub spared : AreSparing (effect (items_of before) write n) (id ∷ []) n p (after ++ since s t)

abbrev pub AreFlushedKept : State → State → Type 0
AreFlushedKept s t = IsFair t.link → (id : ItemId) (n : Usn) (p b : ℕ) → IsLocalSince s t id n p b → is_kept t.link.remote t.filter.volume.log id n p b ≡ true
