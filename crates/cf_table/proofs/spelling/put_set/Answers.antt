use Rattle.std.proofs.Common.{ap, arith, length}
use Rattle.cf_table.proofs.Fields.{few_runs}
use Rattle.cf_table.proofs.spelling.put_set.Goals as goal

pub overflow_cast-runs : goal.overflow_cast-runs
overflow_cast-runs c = omega (arith, ap length c.runs-runs.ensures.value, few_runs 0 c.args.set.now (omega arith) c.runs-runs.ensures.maximal c.requires)
