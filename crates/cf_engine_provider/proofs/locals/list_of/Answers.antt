use Rattle.cf_engine_provider.proofs.Targeted.{all_rows, none_yet, one_more}
use Rattle.cf_engine_provider.proofs.locals.list_of.Goals as goal

pub loop-row-init : goal.loop-row-init
loop-row-init c = λ items m. none_yet c.args.rows.now items c.new-list.result.items c.new-list.ensures.items m

pub loop-row-preserved : goal.loop-row-preserved
loop-row-preserved c = λ items m.
    one_more c.args.rows.now c.loop-row.row-index c.row-item.result items c.loop-row.list.items c.add.new.list.items c.loop-row-test.true c.row-item.is (c.loop-row.invariant items m) c.in_ok-add.ensures

pub returns : goal.returns
returns c = λ items m. all_rows c.args.rows.now c.loop-row.row-index items c.loop-row.list.items c.loop-row-test.false (c.loop-row.invariant items m)
