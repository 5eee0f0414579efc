use Rattle.cf_volume_image.specs.Spelled.{IsImageIn, IsPayloadIn, spell_image_in, spell_payload_in}
use Rattle.cf_volume_image.proofs.OneImage.{alone, one_image, one_payload}
use Rattle.cf_volume_image.proofs.Told.{one_told}
use Rattle.cf_volume_image.proofs.laws.one_value_of_a_text.Goals as goal

pub returns-clause-image : goal.returns-clause-image
returns-clause-image c = λ f. alone (IsImageIn f) (spell_image_in f) (one_image f)

pub returns-clause-payload : goal.returns-clause-payload
returns-clause-payload c = λ f. alone (IsPayloadIn f) (spell_payload_in f) (one_payload f)

pub returns-clause-state : goal.returns-clause-state
returns-clause-state c = one_told
