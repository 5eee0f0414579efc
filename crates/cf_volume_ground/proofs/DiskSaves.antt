-- A save on a disk, as one on the ground that the disk is.
use Rattle.std.proofs.Common.{◌≡◌, ℕ, subst}
use Rattle.std.specs.Prelude.{Err, Ok, OnOk, Result}
use Rattle.cf_disk.specs.Disk.{Leaves, State}
use Rattle.cf_disk.specs.Leaving.{leaves_weaker}
use Rattle.cf_journal.specs.Content.{Content}
use Rattle.cf_journal.specs.Settled.{Settled}
use Rattle.cf_journal.specs.declared.journals.Journal.{Journal}
use Rattle.cf_model.specs.Formats.{Image}
use Rattle.cf_volume_commit.specs.Differing.{IsThen}
use Rattle.cf_volume_commit.specs.Leading.{HaveStoredPins}
use Rattle.cf_volume_points.specs.declared.earlier.Earlier.{Earlier}
use Rattle.cf_volume_image.specs.Contents.{image_of}
use Rattle.cf_volume_image.specs.States.{TellsIn}
use Rattle.cf_volume_image.specs.declared.contents.Contents.{Contents}
use Rattle.cf_volume_points.specs.Saving.{IsBacked, IsSaving, IsSavingFrom, Saved, SavedIfLeft}

on_ok : {T E P Q : Type 0} (r : Result T E) → (P → Q) → OnOk r P → OnOk r Q
on_ok (Ok x) f h = f h
on_ok (Err e) f h = tt

-- what a save gives of the content that a disk stands for
abbrev Given : State → Journal → Earlier → Contents → (Content → Image → Type 0) → Type 0
Given s j then c P = (x : Content) (image : Image) → Settled j s x → TellsIn x.format x.image x.payloads image → IsThen then c image → HaveStoredPins c.rows.rows → P x image

-- the same of what the images that a crash may leave stand for
abbrev Backed : State → Journal → Earlier → Contents → (ℕ → Image → Type 0) → Type 0
Backed s j then c P = (n : ℕ) (image : Image) → IsBacked s j n image → IsThen then c image → HaveStoredPins c.rows.rows → P n image

-- a disk as it reads is one of its images
module _ {D T E : Type 0} (state : D → State) {a b : D} (same : a ≡ b) (one : (state a).may_leave (state a).seen) (t : State) (r : Result T E) (j k : Journal) (then : Earlier) (c : Contents) where
  pub saved_on : Given (state a) j then c (λ x image. OnOk r (Saved k t (image_of c))) → Backed (state b) j then c (λ n image. OnOk r (SavedIfLeft k t (image_of c)))
  saved_on save = subst (λ (d : D). Backed (state d) j then c (λ n image. OnOk r (SavedIfLeft k t (image_of c)))) same
      (λ n image backed is pins. let x = backed (state a).seen one in on_ok r (λ saved d left. saved) (save x.0 image x.1 x.2.told is pins))

  pub crash_on : Given (state a) j then c (λ x image. Leaves (state a) t (IsSaving (state a) x (image_of c))) → Backed (state b) j then c (λ n image. Leaves (state b) t (IsSavingFrom (state b) n image (image_of c)))
  crash_on save = subst (λ (d : D). Backed (state d) j then c (λ n image. Leaves (state d) t (IsSavingFrom (state d) n image (image_of c)))) same
      (λ n image backed is pins.
      let x = backed (state a).seen one in
      leaves_weaker (state a) t (IsSaving (state a) x.0 (image_of c)) (IsSavingFrom (state a) n image (image_of c)) (save x.0 image x.1 x.2.told is pins) (λ d h. (x.0, x.2, h)))
