use Rattle.cf_volume_changes.proofs.Noted.{found_spellable}
use Rattle.cf_volume_changes.proofs.row_notes.copy_row.Goals as goal

pub returns-clause-spellable : goal.returns-clause-spellable
returns-clause-spellable c = found_spellable c.args.rows.now.rows c.args.row.now.id c.args.row.now c.image_len.ensures.kept c.requires
