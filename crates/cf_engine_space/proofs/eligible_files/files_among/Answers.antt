use Rattle.cf_engine_space.proofs.Eligible.{all_files, one_file}
use Rattle.cf_engine_space.proofs.eligible_files.files_among.Goals as goal

pub loop-row-preserved : goal.loop-row-preserved
loop-row-preserved g c = one_file g.S.Steps.sense c.args.policy.now c.args.rows.now c.args.s.now c.loop-row.row-index c.loop-row.files.items c.push_file.new.files.items c.row-item.result c.candidate-file.result c.loop-row.invariant c.loop-row-test.true c.row-item.is c.candidate-file.ensures c.in_ok-push_file.ensures

pub returns : goal.returns
returns g c = all_files g.S.Steps.sense c.args.policy.now c.args.rows.now c.args.s.now c.loop-row.row-index c.loop-row.files.items c.loop-row.invariant c.loop-row-test.false
