use Rattle.std.proofs.Common.{ℕ, ◌<◌, get_or}
use Rattle.cf_engine_host.specs.BookSteps.{records_of}
use Rattle.cf_engine_steps.specs.States.{whole}
use Rattle.cf_engine_uploads.specs.Turns.{PlansTurn}
use Rattle.cf_engine_uploads.specs.declared.turns.Course.TheVariants.{Nothing}
use Rattle.cf_filter_steps.specs.Answering.{Any, Reads}
use Rattle.cf_table.specs.declared.rows.Row.{Row}
use Rattle.cf_engine_uploads.proofs.turns.are_idle.Given as goal

-- those that were looked at have nothing to do, and the paths are those of the book
abbrev pub invariant-loop-row : goal.invariant-loop-row
invariant-loop-row g l = record {
  idle : (k : ℕ) (d : Row) → k < l.row-index → PlansTurn (whole g.S.Steps.sense g.R.Remote.told) (get_or l.rows k d).id (l.s, l.e) Nothing;
  seen : Reads g.S.Steps.sense Any records_of l.s l.seen;
}
