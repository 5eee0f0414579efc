-- What an opening knows is the image that the disk holds.
use Rattle.std.proofs.Common.{◌≡◌, ◌<◌, inl, inr, sym, ap, subst, ◌⊎◌, ℕ, List, arith}
use Rattle.std.specs.Prelude.{false}
use Rattle.std.specs.Prelude.{Err, Result}
use Rattle.cf_base.specs.declared.codes.Code.{Code}
use Rattle.cf_base.specs.declared.codes.CallError.{CallError}
use Rattle.cf_base.specs.declared.codes.CallError.TheVariants as fail
use Rattle.cf_volume_commit.specs.Loaded as loaded
use Rattle.cf_volume_commit.specs.Loaded.{HoldsImage, raised_image}
use Rattle.cf_volume_commit.specs.declared.parts.Parts.{Parts}
use Rattle.cf_volume_image.specs.Contents.{image_of}
use Rattle.cf_model.specs.Formats.{Image}
use Rattle.cf_model.specs.Numbers.{most, usn_after}
use Rattle.cf_table.specs.Changing.{IsNext}
use Rattle.cf_volume_points.specs.Known.{Known}
use Rattle.cf_volume_points.specs.Sound.{Sound}
use Rattle.cf_volume.proofs.Stopped.{refused_as}
use Rattle.cf_volume_changes.specs.Calls.{IsRefused}
use Rattle.cf_volume.specs.Openings.{IsOpenedFrom}
use Rattle.cf_volume_changes.specs.Steady.{Steady}

known_from : (p : Parts) (i : Image) → image_of p.contents ≡ raised_image i.header.last.epoch i → IsOpenedFrom i (loaded.known_of p)
known_from p i told = record {
  rows = ap (λ (j : Image). j.rows) told;
  records = ap (λ (j : Image). j.records) told;
  next = ap (λ (j : Image). j.header.next) told;
  count = ap (λ (j : Image). j.header.count) told;
  clock = ap (λ (j : Image). j.header.clock) told;
  epoch = ap (λ (j : Image). j.header.last.epoch) told;
  place = ap (λ (j : Image). j.header.last.place) told;
}

pub opened_from : (disk : List ℕ) (p : Parts) (k : Known) → k ≡ loaded.known_of p
    → (i : Image) × HoldsImage disk i × (i.header.last.epoch < most) × (image_of p.contents ≡ raised_image i.header.last.epoch i)
    → (i : Image) × HoldsImage disk i × (i.header.last.epoch < most) × IsOpenedFrom i k
opened_from disk p k is found = (found.0, found.1, found.2, subst (IsOpenedFrom found.0) (sym is) (known_from p found.0 found.3))

pub refused_as_one : {A : Type 0} → (e : CallError) (c d : Code) → IsRefused e c ⊎ IsRefused e d
    → (◌≡◌ {A = Result A CallError} (Err e) (Err (fail.No c))) ⊎ (◌≡◌ {A = Result A CallError} (Err e) (Err (fail.No d)))
refused_as_one {A} e c d (inl is) = inl (ap Err (refused_as e c is))
refused_as_one {A} e c d (inr is) = inr (ap Err (refused_as e d is))

-- what is opened is steady
pub steady_opened : (size new : ℕ) (p : Parts) (k : Known) → new ≡ size → k ≡ loaded.known_of p → Sound size (loaded.known_of p) → IsNext (usn_after p.contents.last.epoch p.contents.last.place) p.contents.rows.rows → p.journal.broken ≡ false → Steady new k
steady_opened size new p k same is sound later usable = subst (λ (n : ℕ). Steady n k) (sym same) (subst (λ (x : Known). Steady size x) (sym is) here)
  where
    here : Steady size (loaded.known_of p)
    here = record { fit = sound.fit; clusters = sound.clusters; inside = sound.inside; room = sound.room; later = later; earlier = omega arith; usable = usable }
