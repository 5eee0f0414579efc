use Rattle.std.proofs.Common.{ap}
use Rattle.cf_base.specs.declared.ids.Rid.{Rid}
use Rattle.cf_engine_feed.proofs.IndexFinds.{all_filled, none_filled, one_filled}
use Rattle.cf_engine_feed.proofs.targets.fill.Goals as goal

pub loop-row-init : goal.loop-row-init
loop-row-init c = λ items m r h. none_filled c.args.rows.now items c.args.targets.now m h

pub loop-row-preserved : goal.loop-row-preserved
loop-row-preserved c = λ items m r h. one_filled c.args.rows.now c.loop-row.row-index c.row-item.result items c.in_ok-rid.rid.0 c.loop-row.targets c.enter.new.self c.loop-row-test.true c.row-item.is r (λ i n. ap (λ (v : Rid). v.0) (c.in_ok-rid.ensures.is i n)) c.in_ok-enter.ensures (c.loop-row.invariant items m r h)

pub returns : goal.returns
returns c = λ items m r h. all_filled c.args.rows.now c.loop-row.row-index items c.loop-row.targets c.loop-row-test.false (c.loop-row.invariant items m r h)
