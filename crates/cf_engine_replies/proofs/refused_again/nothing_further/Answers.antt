use Rattle.cf_engine_queue.specs.Books.{entry_value}
use Rattle.cf_engine_steps.specs.Answering.{Any}
use Rattle.cf_model.specs.PushReplies.{not_in_row}
use Rattle.cf_engine_steps.proofs.Noted.{noted_volatile}
use Rattle.cf_engine_replies.proofs.refused_again.nothing_further.Goals as goal

pub returns : goal.returns
returns g c = noted_volatile g.S.Steps.sense g.R.Remote.told Any c.args.s.now c.args.e.now c.leave_row.new.self (not_in_row (entry_value c.args.entry.now)) c.leave_row.ensures
