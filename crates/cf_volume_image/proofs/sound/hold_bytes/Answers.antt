use Rattle.std.proofs.Common.{◌≡◌, false, true}
use Rattle.cf_volume_image.proofs.EachRow.{below_first, below_rest, holds_cons, holds_first, holds_rest}
use Rattle.cf_volume_image.proofs.Loops.{drop_at}
use Rattle.cf_volume_image.proofs.SoundTests.{has_blocks, have_bytes, holds_bytes}
use Rattle.cf_volume_image.proofs.sound.hold_bytes.Goals as goal

pub are_blocks_of-requires : goal.are_blocks_of-requires
are_blocks_of-requires c = below_first _ _ c.row-item.result (drop_at c.args.rows.now c.loop-row.row-index c.row-item.result c.loop-row-test.true c.row-item.is) c.loop-row.invariant.below

pub returns-then-not-are_blocks_of : goal.returns-then-not-are_blocks_of
returns-then-not-are_blocks_of c =
    let is = drop_at c.args.rows.now c.loop-row.row-index c.row-item.result c.loop-row-test.true c.row-item.is in (
      λ z. let w : false ≡ true = z in absurd cc,
      λ all. let h = holds_first _ _ c.row-item.result is (c.loop-row.invariant.from all) in c.if-not-are_blocks_of.ensures.1 (has_blocks c.row-item.result h, have_bytes c.row-item.result h),
    )

pub loop-row-preserved : goal.loop-row-preserved
loop-row-preserved c =
    let is = drop_at c.args.rows.now c.loop-row.row-index c.row-item.result c.loop-row-test.true c.row-item.is in
    let both = c.are_blocks_of.ensures.0 c.if-not-are_blocks_of.false in
    record {
      to = λ rest. c.loop-row.invariant.to (holds_cons _ _ c.row-item.result is (holds_bytes c.row-item.result both.0 both.1) rest);
      from = λ all. holds_rest _ _ c.row-item.result is (c.loop-row.invariant.from all);
      below = below_rest _ _ c.row-item.result is c.loop-row.invariant.below;
    }
