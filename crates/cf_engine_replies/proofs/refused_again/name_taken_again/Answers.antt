use Rattle.cf_engine_queue.specs.Books.{entry_value}
use Rattle.cf_engine_steps.specs.Answering.{Any}
use Rattle.cf_engine_replies.specs.Refusals.{moved_off}
use Rattle.cf_model.specs.PushReplies.{not_in_row}
use Rattle.cf_model.specs.Skips.{in_volatile}
use Rattle.cf_engine_steps.proofs.Laws.{then_both}
use Rattle.cf_engine_steps.proofs.Noted.{noted_volatile}
use Rattle.cf_engine_replies.proofs.refused_again.name_taken_again.Goals as goal

pub returns : goal.returns
returns g c = then_both _ (in_volatile (not_in_row (entry_value c.args.entry.now))) (moved_off (entry_value c.args.entry.now)) _ _ _ _ _ _ _ _ (noted_volatile g.S.Steps.sense g.R.Remote.told Any c.args.s.now c.args.e.now c.leave_row.new.self (not_in_row (entry_value c.args.entry.now)) c.leave_row.ensures) c.move_off.ensures
