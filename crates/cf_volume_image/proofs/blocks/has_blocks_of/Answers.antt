use Rattle.std.proofs.Common.{◌≡◌, List, arith, false, get_or, refl, subst, sym, true}
use Rattle.cf_base.specs.declared.spans.Span.{Span}
use Rattle.cf_volume_image.specs.Sets.{HasBlocksOf}
use Rattle.cf_volume_image.proofs.BlockTests.{blocks_cons, blocks_first, blocks_rest, ends_of, ends_rest, no_blocks}
use Rattle.cf_volume_image.proofs.Loops.{drop_end, drop_get}
use Rattle.cf_volume_image.proofs.SetTests.{nonempty}
use Rattle.cf_volume_image.proofs.blocks.has_blocks_of.Goals as goal

pub overflow_sub-to : goal.overflow_sub-to
overflow_sub-to c = omega (arith, nonempty 0 c.args.runs.now c.loop-run.run-index (record { start = 0; len = 0 }) c.requires.runs c.loop-run-test.true)

pub returns-then-not-has_blocks : goal.returns-then-not-has_blocks
returns-then-not-has_blocks c = (
  λ z. let w : false ≡ true = z in absurd cc,
  λ all. c.if-not-has_blocks.ensures.1 (blocks_first c.args.extents.now _ (get_or c.args.runs.now c.loop-run.run-index (record { start = 0; len = 0 }))
      (nonempty 0 c.args.runs.now c.loop-run.run-index (record { start = 0; len = 0 }) c.requires.runs c.loop-run-test.true)
      (subst (λ (l : List Span). HasBlocksOf c.args.extents.now l) (drop_get c.args.runs.now c.loop-run.run-index (record { start = 0; len = 0 }) c.loop-run-test.true) (c.loop-run.invariant.from all))),
)

pub loop-run-init : goal.loop-run-init
loop-run-init c = record { to = λ h. h; from = λ h. h; small = ends_of 0 16777216 c.args.runs.now c.requires.runs c.requires.small }

pub loop-run-preserved : goal.loop-run-preserved
loop-run-preserved c =
    let is = drop_get c.args.runs.now c.loop-run.run-index (record { start = 0; len = 0 }) c.loop-run-test.true in
    record {
      to = λ rest. c.loop-run.invariant.to (subst (λ (l : List Span). HasBlocksOf c.args.extents.now l) (sym is)
          (blocks_cons c.args.extents.now _ (get_or c.args.runs.now c.loop-run.run-index (record { start = 0; len = 0 })) (c.has_blocks.ensures.0 c.if-not-has_blocks.false) rest));
      from = λ all. blocks_rest c.args.extents.now _ (get_or c.args.runs.now c.loop-run.run-index (record { start = 0; len = 0 }))
          (subst (λ (l : List Span). HasBlocksOf c.args.extents.now l) is (c.loop-run.invariant.from all));
      small = ends_rest 16777216 _ _ _ is c.loop-run.invariant.small;
    }

pub returns : goal.returns
returns c = (λ yes. c.loop-run.invariant.to (no_blocks c.args.extents.now _ (drop_end c.args.runs.now c.loop-run.run-index (omega arith))), λ all. refl)
