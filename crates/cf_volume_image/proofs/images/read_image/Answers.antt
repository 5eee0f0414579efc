use Rattle.std.proofs.Common.{◌∙◌, List, ap, subst, sym}
use Rattle.std.specs.Prelude.{All}
use Rattle.cf_model.specs.Formats.{Image}
use Rattle.cf_table.proofs.ReadExit.{exits}
use Rattle.cf_table.specs.Spelling.{HasRoom}
use Rattle.cf_table.specs.declared.rows.Row.{Row}
use Rattle.cf_volume_image.specs.Spelled.{IsImageIn, spell_image_in}
use Rattle.cf_volume_image.proofs.NoImage.{no_image}
use Rattle.cf_volume_image.proofs.images.read_image.Goals as goal

pub returns-in_err-draft-clause-none : goal.returns-in_err-draft-clause-none
returns-in_err-draft-clause-none c = no_image c.args.format c.args.b.now _ (exits _ _ _ c.from_residual.ensures.1 c.in_err-draft.ensures.fault)

pub returns-clause-spelled : goal.returns-clause-spelled
returns-clause-spelled c = c.in_ok-draft.ensures.spelled ∙ ap (spell_image_in c.args.format) (sym c.in_ok-into_contents.ensures.image)

pub returns-clause-fits : goal.returns-clause-fits
returns-clause-fits c = subst (λ (i : Image). IsImageIn c.args.format i) (sym c.in_ok-into_contents.ensures.image) c.in_ok-draft.ensures.fits

pub returns-clause-room : goal.returns-clause-room
returns-clause-room c = subst (λ (l : List Row). All HasRoom l) (sym c.in_ok-into_contents.ensures.rows) c.in_ok-draft.ensures.room
