-- Why an image and payloads tell no volume: the first field that is not spelled and where it begins, or else that their
-- state is none of a volume.
use Rattle.std.specs.Prelude.{ℕ, List, Some, slice_get, take, ◌≡◌}
use Rattle.cf_codec.specs.Left.{Left}
use Rattle.cf_codec.specs.declared.formats.Format.{Format}
use Rattle.cf_model.specs.Formats.{Image, Payload}
use Rattle.cf_table.specs.declared.failures.RowError.{RowError}
use Rattle.cf_table.specs.declared.failures.RowError.TheVariants as field
use Rattle.cf_volume_image.specs.Faults.{AtImage, AtPayload}
use Rattle.cf_volume_image.specs.Sound.{IsSoundIn}
use Rattle.cf_volume_image.specs.Spelled.{AreSpelledIn, IsImageIn, spell_image_in}
use Rattle.cf_volume_image.specs.States.{TellsIn}
use Rattle.cf_volume_image.specs.declared.failures.ImageError.{ImageError}
use Rattle.cf_volume_image.specs.declared.failures.ImageError.TheVariants as image

-- the field begins at this byte
abbrev pub BeginsAt : ℕ → RowError → Type 0
BeginsAt place (field.Short at) = at ≡ place
BeginsAt place (field.BadField at) = at ≡ place
BeginsAt place field.OutOfMemory = ⊥

-- the first field of the text that is not spelled begins at this byte
abbrev pub Fails : (Left → RowError → Type 0) → List ℕ → ℕ → Type 0
Fails At text place = (e : RowError) × At (record { place = 0; rest = text }) e × BeginsAt place e

abbrev pub IsImageFault : Format → List ℕ → ℕ → Type 0
IsImageFault f text place = Fails (AtImage f) text place

abbrev pub IsPayloadFault : Format → List ℕ → ℕ → Type 0
IsPayloadFault f text place = Fails (AtPayload f) text place

-- The image and the payloads before the one of this number are spelled, and that one is not.
pub record IsFirstFault (f : Format) (image : List ℕ) (payloads : List (List ℕ)) (number place : ℕ) : Type 0 where
  pub value : Image
  pub changes : List Payload
  pub is_image : IsImageIn f value
  pub image_is : image ≡ spell_image_in f value
  pub before : AreSpelledIn f (take number payloads) changes
  pub text : List ℕ
  pub there : slice_get payloads number ≡ Some text
  pub fault : IsPayloadFault f text place

-- all is spelled, and the state is none of a volume of so many clusters
pub record IsUnsound (f : Format) (image : List ℕ) (payloads : List (List ℕ)) (clusters : ℕ) : Type 0 where
  pub state : Image
  pub told : TellsIn f image payloads state
  pub unsound : IsSoundIn f clusters state → ⊥

-- one of the texts is not spelled
abbrev pub IsUnspelled : Format → List ℕ → List (List ℕ) → ImageError → Type 0
IsUnspelled f text payloads (image.Image place) = IsImageFault f text place
IsUnspelled f text payloads (image.Payload number place) = IsFirstFault f text payloads number place
IsUnspelled f text payloads image.Unsound = ⊥
IsUnspelled f text payloads image.OutOfMemory = Unit {0}

abbrev pub IsCause : Format → List ℕ → List (List ℕ) → ℕ → ImageError → Type 0
IsCause f text payloads clusters (image.Image place) = IsImageFault f text place
IsCause f text payloads clusters (image.Payload number place) = IsFirstFault f text payloads number place
IsCause f text payloads clusters image.Unsound = IsUnsound f text payloads clusters
IsCause f text payloads clusters image.OutOfMemory = Unit {0}

-- a cause that shows something of the texts
abbrev pub IsKnown : ImageError → Type 0
IsKnown (image.Image place) = Unit {0}
IsKnown (image.Payload number place) = Unit {0}
IsKnown image.Unsound = Unit {0}
IsKnown image.OutOfMemory = ⊥

-- a fault of a text as a cause

abbrev pub image_error : RowError → ImageError
image_error (field.Short place) = image.Image place
image_error (field.BadField place) = image.Image place
image_error field.OutOfMemory = image.OutOfMemory

abbrev pub payload_error : ℕ → RowError → ImageError
payload_error number (field.Short place) = image.Payload number place
payload_error number (field.BadField place) = image.Payload number place
payload_error number field.OutOfMemory = image.OutOfMemory
