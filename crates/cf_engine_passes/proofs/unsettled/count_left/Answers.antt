use Rattle.std.proofs.Common.{◌+◌, subst, sym}
use Rattle.cf_engine_passes.proofs.CountedLeft.{Counted, all_counted, as_many, none_yet, one_more}
use Rattle.cf_engine_passes.proofs.unsettled.count_left.Goals.{else-is_left, then-is_left}
use Rattle.cf_engine_passes.proofs.unsettled.count_left.Goals as goal

pub loop-row-init : goal.loop-row-init
loop-row-init g c = none_yet g.S.Steps.sense c.args.s.now c.args.rows.now

pub loop-row-preserved : goal.loop-row-preserved
loop-row-preserved g c = elim c.if-is_left.branch [
  | then-is_left w ↦ subst (Counted g.S.Steps.sense c.args.s.now c.args.rows.now (c.loop-row.row-index + 1)) (sym w.count-is)
      (one_more g.S.Steps.sense c.args.s.now c.args.rows.now c.loop-row.row-index c.loop-row.count c.row-item.result c.is_left.result c.loop-row.invariant c.loop-row-test.true c.row-item.is c.is_left.ensures w.if-is_left.true)
  | else-is_left w ↦ subst (Counted g.S.Steps.sense c.args.s.now c.args.rows.now (c.loop-row.row-index + 1)) (sym w.count-is)
      (as_many g.S.Steps.sense c.args.s.now c.args.rows.now c.loop-row.row-index c.loop-row.count c.row-item.result c.is_left.result c.loop-row.invariant c.loop-row-test.true c.row-item.is c.is_left.ensures w.if-is_left.false)
]

pub returns : goal.returns
returns g c = all_counted g.S.Steps.sense c.args.s.now c.args.rows.now c.loop-row.row-index c.loop-row.count c.loop-row.invariant c.loop-row-test.false
