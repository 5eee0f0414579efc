use Rattle.std.specs.Prelude.{Some, None}
use Rattle.cf_engine_queue.specs.Books.{entry_value}
use Rattle.cf_engine_replies.specs.Rebases.{ReadyWithout}
use Rattle.cf_engine_steps.specs.Answering.{Any, On}
use Rattle.cf_engine_steps.specs.States.{whole}
use Rattle.cf_model.specs.PushReplies.{rebase}
use Rattle.cf_engine_steps.proofs.Laws.{with_err}
use Rattle.cf_engine_replies.proofs.Rebased.{rebase_fails, rebased}
use Rattle.cf_engine_replies.proofs.rebases.rebase.Goals as goal

pub returns-in_err-code : goal.returns-in_err-code
returns-in_err-code g c = with_err (whole g.S.Steps.sense g.R.Remote.told) Any (rebase (entry_value c.args.entry.now) c.args.change.now) (c.args.s.now, c.args.e.now) (c.refuse_without.new.s, c.args.e.now) c.in_err-code.field-0.0 c.from_residual.result c.from_residual.ensures.1
    (rebase_fails g.S.Steps.sense g.R.Remote.told (entry_value c.args.entry.now) c.args.change.now c.args.s.now c.refuse_without.new.s c.args.e.now c.in_err-code.field-0.0 c.in_err-code.ensures.answers)

pub returns-in-Some : goal.returns-in-Some
returns-in-Some g c = rebased g.S.Steps.sense g.R.Remote.told (entry_value c.args.entry.now) c.args.change.now c.args.s.now c.refuse_without.new.s c.args.e.now Any c.skip.new.s c.skip.new.e c.in_ok-code.field-0 (Some c.in-Some.code) c.skip.result
    (λ s i. record {}) c.in-Some.is c.in_ok-code.ensures.answers c.skip.ensures

pub returns-in-None : goal.returns-in-None
returns-in-None g c = rebased g.S.Steps.sense g.R.Remote.told (entry_value c.args.entry.now) c.args.change.now c.args.s.now c.refuse_without.new.s c.args.e.now (On (ReadyWithout c.args.entry.now.token c.args.change.now)) c.rebase_now.new.s c.rebase_now.new.e c.in_ok-code.field-0 None c.rebase_now.result
    (λ s i. c.in_ok-code.ensures.ready.ready c.in-None.is s.filter i.filter) c.in-None.is c.in_ok-code.ensures.answers c.rebase_now.ensures
