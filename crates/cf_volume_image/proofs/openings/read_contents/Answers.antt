use Rattle.std.proofs.Common.{◌≡◌, ◌∙◌, false, sym, true}
use Rattle.cf_table.proofs.ReadExit.{exits}
use Rattle.cf_volume_image.specs.Contents.{image_of}
use Rattle.cf_volume_image.specs.declared.failures.ImageError.TheVariants as image
use Rattle.cf_volume_image.proofs.CauseLaws.{as_cause, shows_none}
use Rattle.cf_volume_image.proofs.RoomKept.{told_room}
use Rattle.cf_volume_image.proofs.openings.read_contents.Goals as goal

pub returns-in_err-contents-clause-none : goal.returns-in_err-contents-clause-none
returns-in_err-contents-clause-none c =
    exits _ _ _ c.from_residual.ensures.1
    (shows_none c.args.format c.args.image.now c.args.payloads.now c.args.clusters _ (as_cause c.args.format c.args.image.now c.args.payloads.now c.args.clusters _ c.in_err-contents.ensures.cause))

pub returns-in-Ok-true-clause-room : goal.returns-in-Ok-true-clause-room
returns-in-Ok-true-clause-room c = told_room c.args.format c.args.image.now c.args.payloads.now c.in_ok-contents.contents c.in_ok-contents.ensures.told

pub returns-in-Ok-false-clause-none : goal.returns-in-Ok-false-clause-none
returns-in-Ok-false-clause-none c =
    shows_none c.args.format c.args.image.now c.args.payloads.now c.args.clusters image.Unsound (record {
      state = image_of c.in_ok-contents.contents;
      told = c.in_ok-contents.ensures.told;
      unsound = λ u. let z : false ≡ true = sym c.in-Ok-false.field-0-test ∙ c.in-Ok-false.ensures.1 u in absurd cc;
    })
