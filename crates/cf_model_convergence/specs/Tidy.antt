-- Remotes that their own rules could have made.
use Rattle.std.specs.Prelude.{ℕ, zero, suc, true, false, List, [], Some, length, ◌≡◌, ◌≤◌}
use Rattle.cf_base.specs.declared.ids.Rid.{Rid}
use Rattle.cf_base.specs.declared.limits.TheConstants.{MOST_FILE_BYTES, MOST_PATH_NAMES}
use Rattle.cf_model.specs.Growth.{IsCounted}
use Rattle.cf_model.specs.Numbers.{root_rid}
use Rattle.cf_model.specs.Store.{Held, Stored, is_live_dir, stored_at}
use Rattle.cf_model.specs.Texts.{is_name}
use Rattle.cf_model_laws.specs.Invariant.{All}

abbrev pub IsLower : Stored → Type 0
IsLower s = (s.rid.0 ≡ 1) → ⊥

-- An item below the root was changed at a time so far, it has a name, and is not its own parent.
pub record IsPlacedAt (clock : ℕ) (s : Stored) : Type 0 where
  pub late : 1 ≤ s.changed
  pub early : s.changed ≤ clock
  pub named : is_name s.name ≡ true
  pub apart : (s.parent.0 ≡ s.rid.0) → ⊥

-- A directory has no version, a file has one at least, none of them longer than a file may be.
pub record HasVersions (s : Stored) : Type 0 where
  pub none : s.directory ≡ true → s.versions ≡ []
  pub some : s.directory ≡ false → 1 ≤ length s.versions
  pub short : All (λ (bytes : List ℕ). length bytes ≤ MOST_FILE_BYTES) s.versions

-- so many steps lead from an item up to the root
abbrev pub Reaches : List Stored → ℕ → Rid → Type 0
Reaches items zero rid = rid.0 ≡ 1
Reaches items (suc n) rid = ((rid.0 ≡ 1) → ⊥) × (s : Stored) × (stored_at items rid ≡ Some s) × Reaches items n s.parent

-- a live item has few names on its path
abbrev pub IsReached : List Stored → Stored → Type 0
IsReached items s = s.live ≡ true → (n : ℕ) × (n ≤ MOST_PATH_NAMES) × Reaches items n s.rid

pub record IsTidyItem (held : Held) (s : Stored) : Type 0 where
  pub placed : IsLower s → IsPlacedAt held.clock s
  pub versions : HasVersions s
  -- the parent of a live item is a live directory
  pub under : IsLower s → s.live ≡ true → is_live_dir held s.parent ≡ true

pub record IsTidy (held : Held) : Type 0 where
  pub counted : IsCounted held
  pub root : is_live_dir held root_rid ≡ true
  pub items : All (IsTidyItem held) held.items
  pub reached : All (IsReached held.items) held.items
