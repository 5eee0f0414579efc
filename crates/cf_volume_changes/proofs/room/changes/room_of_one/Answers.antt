use Rattle.std.proofs.Common.{◌∙◌, sym, arith}
use Rattle.cf_volume_changes.proofs.Judged.{clusters_full, needs_no_id, numbers_left, room_is}
use Rattle.cf_volume_changes.proofs.Planning.{fits_stays}
use Rattle.cf_volume_changes.specs.Now.{resting}
use Rattle.cf_volume_changes.specs.Steady.{known_of}
use Rattle.cf_volume_changes.proofs.room.changes.room_of_one.Goals as goal

pub returns-in_ok-full-in-Some : goal.returns-in_ok-full-in-Some
returns-in_ok-full-in-Some c = λ seen v at.
    let kind = fits_stays c.args.change.now c.in-Some.row.now c.in-Some.ensures.fits in
    room_is c.args.change.now v c.in_ok-full-in-Some.full c.is_full.result (numbers_left c.args.change.now v (needs_no_id c.args.change.now kind) (omega (arith, c.in-Some.ensures.place, at.place)))
    (c.in_ok-full-in-Some.ensures seen v at (c.in_ok-blocks-in-Some.ensures seen v at))
    (clusters_full (resting seen) (known_of c.args.parts.now) v c.args.change.now c.in_ok-blocks-in-Some.blocks at (c.in_ok-blocks-in-Some.ensures seen v at) ∙ sym c.is_full.ensures)
