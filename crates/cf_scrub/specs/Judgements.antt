-- How the bytes of a device are judged.
use Rattle.std.specs.Prelude.{ℕ, List, [], length, false, ◌%◌, ◌∷◌, ◌≡◌, ◌⊎◌}
use Rattle.cf_journal.specs.Places.{IsFound}
use Rattle.cf_journal.specs.Settled.{IsFitSize}
use Rattle.cf_journal.specs.declared.found.Found.{Found}
use Rattle.cf_model.specs.Formats.{Image}
use Rattle.cf_scrub.specs.States.{damage, damages}
use Rattle.cf_scrub.specs.declared.damages.Damage.{Damage}
use Rattle.cf_scrub.specs.declared.damages.DamageKind.TheVariants as kind
use Rattle.cf_scrub.specs.declared.judgements.Judgement.{Judgement}
use Rattle.cf_scrub.specs.declared.judgements.Judgement.TheVariants.{Clean, Damaged}
use Rattle.cf_volume_commit.specs.Damages.{IsDamage}
use Rattle.cf_volume_commit.specs.Loaded.{HoldsImage, IsNoVolume}
use Rattle.cf_volume_commit.specs.declared.damages.Damage.{Damage as Cause}
use Rattle.cf_volume_commit.specs.declared.damages.Damage.TheVariants as cause
use Rattle.cf_volume_image.specs.States.{TellsIn}
use Rattle.cf_volume_points.specs.Standing.{clusters_on}

-- a size of a device, in bytes
abbrev pub IsFit : ℕ → Type 0
IsFit n = IsFitSize n × (n % 4096 ≡ 0)

-- the state that the bytes tell, and all of its damages
pub record IsState (bytes : List ℕ) (list : List Damage) : Type 0 where
  pub found : Found
  pub is : IsFound found bytes
  pub whole : found.overruns ≡ false
  pub state : Image
  pub told : TellsIn found.format found.image found.payloads state
  pub damages : list ≡ damages found.format (clusters_on bytes) state

-- what is listed of bytes for the first thing that is wrong with them
abbrev pub IsListOf : List ℕ → List Damage → Cause → Type 0
IsListOf bytes list cause.NoSlot = list ≡ damage kind.NoSlot 0 ∷ []
IsListOf bytes list (cause.Image at) = list ≡ damage kind.Image at ∷ []
IsListOf bytes list (cause.Record at) = list ≡ damage kind.Record at ∷ []
IsListOf bytes list cause.Unsound = IsState bytes list

-- the damages of bytes of a fit size: the first field that is not spelled, or those of the state
abbrev pub AreDamages : List ℕ → List Damage → Type 0
AreDamages bytes list = (first : Cause) × IsDamage bytes first × IsListOf bytes list first

-- Clean where the size is fit and the bytes are those of a volume, which has this count and epoch. Damaged where the size is
-- not fit, or where it is and the bytes are those of no volume.
abbrev pub IsJudgement : List ℕ → Judgement → Type 0
IsJudgement bytes (Clean count epoch) =
    IsFit (length bytes) × ((i : Image) × HoldsImage bytes i × (count ≡ i.header.count) × (epoch ≡ i.header.last.epoch))
IsJudgement bytes (Damaged v) =
    ((IsFit (length bytes) → ⊥) × (v.items ≡ damage kind.Size (length bytes) ∷ []))
    ⊎ (IsFit (length bytes) × IsNoVolume bytes × AreDamages bytes v.items × (v.items ≡ [] → ⊥))
