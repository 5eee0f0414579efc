-- The power cuts of a disk, and the images that they left.
use Rattle.std.specs.Prelude.{◌≡◌, ℕ, List, [], ◌∷◌, Option, Some}
use Rattle.cf_base.specs.declared.changes.Change.{Change}
use Rattle.cf_base.specs.declared.ids.Usn.{Usn}
use Rattle.cf_base.specs.declared.policies.Choice.{Choice}
use Rattle.cf_disk.specs.Disk.{AddsPower}
use Rattle.cf_model.specs.Books.{Book}
use Rattle.cf_volume_points.specs.Standing.{Standing}

-- the image of a device stands for a log and a book, in some epoch
abbrev pub StandsFor : List ℕ → List (Usn × Change) → Book → Type 0
StandsFor image log b = (epoch : ℕ) × Standing epoch image log b

-- what the disk reports of its power cuts, and the image that the last of a run's power cuts left, if it had one
pub record Past : Type 0 where
  pub told : Option (List (Choice × List ℕ))
  pub last : Option (List ℕ)

-- The power cuts that a disk reports have each of these more, in order, where it reports them.
abbrev pub Gains : List (Choice × List ℕ) → Option (List (Choice × List ℕ)) → Option (List (Choice × List ℕ)) → Type 0
Gains [] old new = new ≡ old
Gains (w ∷ ws) old new = (mid : Option (List (Choice × List ℕ))) × AddsPower w.0 w.1 old mid × Gains ws mid new

-- the image that the last of these left, or that one before them left
abbrev pub last_image : Option (List ℕ) → List (Choice × List ℕ) → Option (List ℕ)
last_image last [] = last
last_image last (w ∷ ws) = last_image (Some w.1) ws
