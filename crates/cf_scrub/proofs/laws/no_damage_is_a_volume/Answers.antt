use Rattle.cf_scrub.proofs.StateLaws.{none_told, sound_from}
use Rattle.cf_scrub.proofs.laws.no_damage_is_a_volume.Goals as goal

pub returns-clause-sound : goal.returns-clause-sound
returns-clause-sound c = sound_from

pub returns-clause-none : goal.returns-clause-none
returns-clause-none c = none_told
