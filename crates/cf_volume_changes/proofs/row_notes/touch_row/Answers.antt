use Rattle.cf_table.specs.Applied.{Touches}
use Rattle.cf_volume_changes.proofs.Rebooks.{set_noted}
use Rattle.cf_volume_changes.specs.Steady.{known_of}
use Rattle.cf_volume_changes.proofs.row_notes.touch_row.Goals as goal

pub returns : goal.returns
returns c = set_noted (Touches c.args.parts.now.contents.clock) c.args.id (known_of c.args.parts.now) c.touch.new.self c.note_row.new.before.rows c.image_len.ensures.rises c.requires.there c.touch.ensures.sets c.touch.ensures.next c.in_ok-note_row.ensures.ok
