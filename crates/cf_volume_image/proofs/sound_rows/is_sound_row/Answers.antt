use Rattle.cf_volume_image.proofs.SoundRows.{sound_row, tested_row}
use Rattle.cf_volume_image.proofs.sound_rows.is_sound_row.Goals as goal

pub returns : goal.returns
returns c = (
  λ yes. sound_row c.args.next c.args.last c.args.row.now (c.has_sound_name.ensures.0 c.if-not-has_sound_name.false) (c.is_sound_but_name.ensures.0 yes),
  λ is. c.is_sound_but_name.ensures.1 (tested_row c.args.next c.args.last c.args.row.now is),
)
