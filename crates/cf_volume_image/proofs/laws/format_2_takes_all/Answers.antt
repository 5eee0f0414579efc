use Rattle.cf_volume_image.proofs.Formats.{image_in_second, sound_in_second}
use Rattle.cf_volume_image.proofs.laws.format_2_takes_all.Goals as goal

pub returns-clause-image : goal.returns-clause-image
returns-clause-image c = image_in_second

pub returns-clause-sound : goal.returns-clause-sound
returns-clause-sound c = sound_in_second
