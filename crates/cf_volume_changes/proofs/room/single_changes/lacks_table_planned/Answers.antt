use Rattle.std.proofs.Common.{length, subst}
use Rattle.cf_base.specs.declared.items.Pin.{Pin}
use Rattle.cf_model.specs.Formats.{spell_image}
use Rattle.cf_model.specs.Items.{Item}
use Rattle.cf_model.specs.Numbers.{usn_after}
use Rattle.cf_table.specs.Applied.{item_effect}
use Rattle.cf_table.specs.Changing.{item_of_change, pin_for}
use Rattle.cf_table.specs.Means.{IsLater, Means}
use Rattle.cf_volume_changes.proofs.Judged.{table_is}
use Rattle.cf_volume_changes.proofs.Planning.{fits_stays}
use Rattle.cf_volume_changes.proofs.Puts.{found_of, found_table}
use Rattle.cf_volume_changes.specs.Laid.{Plans}
use Rattle.cf_volume_changes.specs.Now.{resting}
use Rattle.cf_volume_changes.specs.Steady.{known_of}
use Rattle.cf_volume_image.specs.Contents.{image_of}
use Rattle.cf_volume_points.proofs.Commits.{image_len_is}
use Rattle.cf_volume_changes.proofs.room.single_changes.lacks_table_planned.Goals as goal

pub plan_item-requires-clause-later : goal.plan_item-requires-clause-later
plan_item-requires-clause-later c =
    found_of (λ x. IsLater (usn_after c.args.parts.now.contents.last.epoch c.args.parts.now.contents.last.place) x) c.args.parts.now.contents.rows.rows (item_of_change c.args.change.now) c.args.row.now c.requires.later c.requires.found

pub returns : goal.returns
returns c = λ seen v at.
    let means = c.in_ok-planned.ensures in
    let plan : Plans c.args.change.now (pin_for c.args.change.now c.args.parts.now.contents.rows.rows) (usn_after c.args.parts.now.contents.last.epoch c.args.parts.now.contents.last.place) c.args.row.now c.in_ok-planned.planned.row c.in_ok-planned.planned.blocks.items = record {
      means = subst (λ (p : Pin). (i : Item) → Means c.args.row.now i → Means c.in_ok-planned.planned.row (item_effect c.args.change.now p (usn_after c.args.parts.now.contents.last.epoch c.args.parts.now.contents.last.place) i)) c.pin_for-pin.ensures means.means;
      rest = means.rest;
      later = means.later;
      stored = means.stored;
      spellable = means.spellable (found_table c.args.parts.now.contents.rows.rows (item_of_change c.args.change.now) c.args.row.now c.image_len.ensures.kept c.requires.found).spellable;
      puts = means.blocks;
    } in
    table_is (resting seen) (known_of c.args.parts.now) v c.args.change.now c.args.row.now c.in_ok-planned.planned.row c.in_ok-planned.planned.blocks.items at c.image_len.ensures.rises c.image_len.ensures.kept
    (fits_stays c.args.change.now c.args.row.now c.requires.fits) c.requires.found plan (length (spell_image (image_of c.args.parts.now.contents))) (image_len_is (known_of c.args.parts.now)) c.is_too_long_with-long.result c.is_too_long_with-long.ensures
