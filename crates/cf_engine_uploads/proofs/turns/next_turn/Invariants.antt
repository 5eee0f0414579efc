use Rattle.cf_engine_host.specs.BookSteps.{records_of}
use Rattle.cf_engine_steps.specs.States.{whole}
use Rattle.cf_engine_uploads.specs.Turns.{SameTurns}
use Rattle.cf_filter_steps.specs.Answering.{Any, Reads}
use Rattle.cf_engine_uploads.proofs.turns.next_turn.Given as goal

-- those that were looked at are nothing, and the paths are those of the book
abbrev pub invariant-loop-place : goal.invariant-loop-place
invariant-loop-place g l = record {
  same : SameTurns (whole g.S.Steps.sense g.R.Remote.told) l.ids l.from l.place (l.s, l.e);
  seen : Reads g.S.Steps.sense Any records_of l.s l.seen;
}
