use Rattle.std.proofs.Common.{ℕ, subst}
use Rattle.cf_engine_messages.specs.Refusals.{refuse_at}
use Rattle.cf_engine_steps.specs.Answering.{Answers, Any}
use Rattle.cf_engine_steps.specs.States.{whole}
use Rattle.cf_engine_messages.proofs.refusals.take_gone.Goals as goal

pub returns : goal.returns
returns g c = subst (λ (n : ℕ). Answers (whole g.S.Steps.sense g.R.Remote.told) Any (refuse_at n c.args.key) (c.args.s.now, c.args.e.now) c.refuse_at.result (c.refuse_at.new.s, c.refuse_at.new.e)) c.number.ensures c.refuse_at.ensures
