-- What the steps of a rewrite leave.
use Rattle.std.specs.Prelude.{◌≡◌, ◌≢◌, ◌≤◌, ◌+◌, ◌⊎◌, ◌∷◌, [], ◌++◌, ℕ, List, length, get_or}
use Rattle.std.specs.Int.{w32, to_be_bytes}
use Rattle.cf_disk.specs.Disk.{State, part, SameBut, Keeps, Leaves, may_fail}

-- an image that a crash may leave, but for an open gate, or for a letter behind a closed one
abbrev pub IsClosing : State → ℕ → List ℕ → Type 0
IsClosing old at c = (d : List ℕ) × old.may_leave d × (((get_or old.seen at 0 ≢ 0) × SameBut at 1 d c) ⊎ ((get_or old.seen at 0 ≡ 0) × SameBut (at + 1) 1 d c))

-- the gate is closed, and nothing else but a letter is changed
pub record Closes (at : ℕ) (old new : List ℕ) : Type 0 where
  pub gate : get_or new at 0 ≡ 0
  pub same : SameBut at 2 old new

-- a header, an image and a closed first gate stand in the slot, and nothing else is changed
pub record Stages (at : ℕ) (header image : List ℕ) (old new : List ℕ) : Type 0 where
  pub header_is : part (at + 1) 27 new ≡ header
  pub image_is : part (at + 4096) (length image) new ≡ image
  pub gate_is : part (at + 1310720) 1 new ≡ 0 ∷ []
  pub same : SameBut (at + 1) 1572863 old new

-- what stands behind a record's gate, up to the next gate
unfoldable pub body : List ℕ → List ℕ
body payload = to_be_bytes w32 (length payload) ++ (payload ++ 0 ∷ [])

-- a record stands behind its gate, and a closed gate behind it; nothing else is changed
pub record Records (at : ℕ) (payload : List ℕ) (old new : List ℕ) : Type 0 where
  pub body_is : part at (5 + length payload) new ≡ body payload
  pub same : SameBut at (5 + length payload) old new

-- a call that only reads
pub record ReadsOnly (old new : State) : Type 0 where
  pub keeps : Keeps old new
  pub leaves : Leaves old new old.may_leave
  pub written : new.written ≡ old.written
  pub powers : new.powers ≡ old.powers
  pub settings : new.settings ≡ old.settings
  pub faults : old.faults ≤ new.faults
  pub calm : may_fail new.armed ≤ may_fail old.armed
