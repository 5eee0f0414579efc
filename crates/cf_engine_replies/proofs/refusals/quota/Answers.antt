use Rattle.cf_engine_queue.specs.Books.{entry_value}
use Rattle.cf_engine_steps.specs.Answering.{Any}
use Rattle.cf_base.specs.declared.codes.Code.TheVariants as code
use Rattle.cf_model.specs.PushReplies.{not_in_row, nothing_further}
use Rattle.cf_model.specs.Skips.{skip}
use Rattle.cf_engine_steps.proofs.Laws.{then_both}
use Rattle.cf_engine_steps.proofs.Noted.{noted_volatile}
use Rattle.cf_engine_replies.proofs.refusals.quota.Goals as goal

pub returns : goal.returns
returns g c = then_both _ (nothing_further (entry_value c.args.entry.now)) (skip code.Quota) _ _ _ _ _ _ _ _ (noted_volatile g.S.Steps.sense g.R.Remote.told Any c.args.s.now c.args.e.now c.leave_row.new.self (not_in_row (entry_value c.args.entry.now)) c.leave_row.ensures) c.skip.ensures
