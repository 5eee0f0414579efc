-- What the bytes of an image and of the payloads after it tell.
use Rattle.std.specs.Prelude.{ℕ, List, filter, not, ◌≡◌}
use Rattle.cf_base.specs.declared.answers.AuxRecord.{AuxRecord}
use Rattle.cf_base.specs.declared.ids.ItemId.{ItemId}
use Rattle.cf_codec.specs.declared.formats.Format.{Format}
use Rattle.cf_codec.specs.declared.formats.Format.TheVariants.{Second}
use Rattle.cf_model.specs.Formats.{Image, Payload, after_payload, after_payloads, is_key_removed, is_removed}
use Rattle.cf_model.specs.Rows.{Row}
use Rattle.cf_volume_image.specs.Sound.{IsSoundIn}
use Rattle.cf_volume_image.specs.Spelled.{AreSpelledIn, IsImageIn, IsPayloadIn, spell_image_in, spell_payload_in}

-- the texts are those of an image and of payloads, and this is the state after them
pub record TellsIn (f : Format) (image : List ℕ) (payloads : List (List ℕ)) (state : Image) : Type 0 where
  pub value : Image
  pub changes : List Payload
  pub is_image : IsImageIn f value
  pub image_is : image ≡ spell_image_in f value
  pub payloads_are : AreSpelledIn f payloads changes
  pub state_is : state ≡ after_payloads value changes

-- The texts tell this state, and it is one of a volume of so many clusters.
pub record IsContentsIn (f : Format) (image : List ℕ) (payloads : List (List ℕ)) (clusters : ℕ) (state : Image) : Type 0 where
  pub told : TellsIn f image payloads state
  pub sound : IsSoundIn f clusters state

-- the text is that of a payload, and the state after it is this one
pub record IsAfterIn (f : Format) (text : List ℕ) (old new : Image) : Type 0 where
  pub value : Payload
  pub is_payload : IsPayloadIn f value
  pub text_is : text ≡ spell_payload_in f value
  pub new_is : new ≡ after_payload old value

-- in format 2, which is written

abbrev pub Tells : List ℕ → List (List ℕ) → Image → Type 0
Tells image payloads state = TellsIn Second image payloads state

abbrev pub IsContents : List ℕ → List (List ℕ) → ℕ → Image → Type 0
IsContents image payloads clusters state = IsContentsIn Second image payloads clusters state

abbrev pub IsAfter : List ℕ → Image → Image → Type 0
IsAfter text old new = IsAfterIn Second text old new

abbrev pub without_rows : List ItemId → List Row → List Row
without_rows ids rows = filter (λ r. not (is_removed ids r)) rows

abbrev pub without_records : List (List ℕ) → List AuxRecord → List AuxRecord
without_records keys records = filter (λ r. not (is_key_removed keys r)) records
