-- The power cuts of a disk that keeps the first of them.
use Rattle.std.specs.Prelude.{◌≡◌, ◌*◌, ◌≤◌, ℕ, Bool, false, cond, ltb, List, [], ◌∷◌, ◌++◌, length}
use Rattle.cf_base.specs.declared.policies.Choice.{Choice}
use Rattle.cf_disk.specs.Cuts.{total}

-- the choice and the image of each of the first power cuts, in order; whether there were no more; the size of an image
pub record PowerBook : Type 0 where
  pub kept : List (Choice × List ℕ)
  pub size : ℕ
  pub most : ℕ
  pub told : Bool

-- one more power cut: it is kept where it has room, and else they are no longer reported
abbrev pub added : Choice → List ℕ → PowerBook → PowerBook
added choice image p = record {
  kept = cond (ltb (length p.kept) p.most) (p.kept ++ (choice, image) ∷ []) p.kept;
  size = p.size;
  most = p.most;
  told = cond (ltb (length p.kept) p.most) p.told false;
}

-- so they lie in memory: the images one behind the other, in the room that was taken
pub record AreImages (choices : List Choice) (images : List ℕ) (size most room image_room : ℕ) : Type 0 where
  pub whole : total (λ (c : Choice). size) choices ≡ length images
  pub fit : length choices ≤ most
  pub room_is : most ≤ room
  pub image_room_is : most * size ≤ image_room
