use Rattle.std.proofs.Common.{inl}
use Rattle.cf_io.proofs.Adding.{Adds-none}
use Rattle.cf_world.proofs.checks.judge_report.Goals as goal

pub returns-in-Err-clause-puts : goal.returns-in-Err-clause-puts
returns-in-Err-clause-puts g c = inl (c.plain.ensures.status, Adds-none (g.K.Sink.held c.args.sink.now))
