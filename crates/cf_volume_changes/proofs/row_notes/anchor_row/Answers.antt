use Rattle.cf_table.specs.Applied.{SetsAnchor}
use Rattle.cf_volume_changes.proofs.Rebooks.{set_noted}
use Rattle.cf_volume_changes.specs.Steady.{known_of}
use Rattle.cf_volume_changes.proofs.row_notes.anchor_row.Goals as goal

pub returns : goal.returns
returns c = set_noted SetsAnchor c.args.id (known_of c.args.parts.now) c.set_anchor.new.self c.note_row.new.before.rows c.image_len.ensures.rises c.requires.there c.set_anchor.ensures.sets c.set_anchor.ensures.next c.in_ok-note_row.ensures.ok
