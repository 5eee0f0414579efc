use Rattle.cf_engine_queue.specs.Books.{entry_value}
use Rattle.cf_base.specs.declared.codes.CallError.TheVariants.{OutOfMemory}
use Rattle.cf_engine_steps.specs.Answering.{Any}
use Rattle.cf_engine_steps.specs.States.{whole}
use Rattle.cf_engine_replies.specs.Removals.{removal_ended}
use Rattle.cf_engine_steps.proofs.Laws.{with_err}
use Rattle.cf_engine_steps.proofs.Noted.{no_memory}
use Rattle.cf_engine_replies.proofs.Replied.{ended_by}
use Rattle.cf_engine_replies.proofs.removals.end_removal.Goals as goal

pub returns-in_err-directory : goal.returns-in_err-directory
returns-in_err-directory g c = with_err (whole g.S.Steps.sense g.R.Remote.told) Any (removal_ended (entry_value c.args.entry.now)) (c.args.s.now, c.args.e.now) (c.args.s.now, c.args.e.now) OutOfMemory c.from_residual.result c.from_residual.ensures.1 (no_memory (whole g.S.Steps.sense g.R.Remote.told) Any (removal_ended (entry_value c.args.entry.now)) (c.args.s.now, c.args.e.now))

pub returns : goal.returns
returns g c = ended_by g.S.Steps.sense g.R.Remote.told (entry_value c.args.entry.now) c.in_ok-directory.directory c.args.s.now c.end_tombstone.new.s c.args.e.now c.end_tombstone.new.e c.end_tombstone.result c.in_ok-directory.ensures c.end_tombstone.ensures
