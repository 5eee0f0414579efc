use Rattle.std.proofs.Common.{◌-◌, ◌∙◌, sym, arith}
use Rattle.cf_ranges.proofs.Joins.{begun_start, last_ended, last_reaches, none_ended}
use Rattle.cf_ranges.proofs.run_lists.ended.Goals as goal

pub returns-then-next-eq0-clause-count : goal.returns-then-next-eq0-clause-count
returns-then-next-eq0-clause-count c = sym (none_ended c.args.at 0 c.args.runs.now c.requires (sym c.begun-next.ensures.count ∙ omega arith))

pub overflow_sub-at : goal.overflow_sub-at
overflow_sub-at c = begun_start c.args.at (c.begun-next.result - 1) c.args.runs.now (record { start = 0; len = 0 }) (sym c.begun-next.ensures.count ∙ omega arith)

pub returns-then-at-run-clause-count : goal.returns-then-at-run-clause-count
returns-then-at-run-clause-count c = omega (arith, last_ended c.args.at (c.begun-next.result - 1) 0 c.args.runs.now (record { start = 0; len = 0 }) c.requires (sym c.begun-next.ensures.count ∙ omega arith) c.if-at-run.true)

pub returns-else-at-run-clause-count : goal.returns-else-at-run-clause-count
returns-else-at-run-clause-count c = sym (last_reaches c.args.at (c.begun-next.result - 1) 0 c.args.runs.now (record { start = 0; len = 0 }) c.requires (sym c.begun-next.ensures.count ∙ omega arith) c.if-at-run.false)
