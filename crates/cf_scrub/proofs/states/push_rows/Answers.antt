use Rattle.std.proofs.Common.{[], arith, refl}
use Rattle.std.specs.Prelude.{map}
use Rattle.cf_scrub.specs.Blocks.{with_held}
use Rattle.cf_scrub.proofs.Pushed.{rows_end, rows_step}
use Rattle.cf_table.specs.Spelling.{extent_of}
use Rattle.cf_volume_image.specs.Contents.{image_of}
use Rattle.cf_scrub.proofs.states.push_rows.Goals as goal

pub loop-row-init : goal.loop-row-init
loop-row-init c = ([], c.in_ok-marks.ensures, refl)

pub loop-row-preserved : goal.loop-row-preserved
loop-row-preserved c =
    let inv = c.loop-row.invariant in
    let p = c.in_ok-push_row.ensures c.args.clusters inv.0 inv.1 in (
      with_held inv.0 (map extent_of c.row-item.result.extents),
      p.1,
      rows_step (image_of c.args.contents.now) c.args.clusters c.loop-row.row-index c.args.rows.now c.row-item.result inv.0 _ _ _ c.loop-row-test.true c.row-item.is p.0 inv.2,
    )

pub returns : goal.returns
returns c = rows_end (image_of c.args.contents.now) c.args.clusters c.loop-row.row-index c.args.rows.now c.loop-row.invariant.0 _ _ (omega arith) c.loop-row.invariant.2
