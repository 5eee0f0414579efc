use Rattle.std.proofs.Common.{ap, arith, length}
use Rattle.cf_table.proofs.Searched.{runs_short}
use Rattle.cf_table.proofs.row_lists.run_count.Goals as goal

pub returns-clause-small : goal.returns-clause-small
returns-clause-small c = omega (arith, ap length c.runs.ensures.value, runs_short 0 c.args.set.now (omega arith) c.runs.ensures.maximal)
