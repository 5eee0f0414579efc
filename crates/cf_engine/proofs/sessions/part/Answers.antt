use Rattle.std.proofs.Common.{sym, subst}
use Rattle.std.specs.Prelude.{Err}
use Rattle.cf_base.specs.declared.codes.CallError.{CallError}
use Rattle.cf_engine_steps.proofs.Noted.{no_memory}
use Rattle.cf_engine_steps.specs.Answering.{Answers, Any}
use Rattle.cf_engine_steps.specs.States.{whole}
use Rattle.cf_model.specs.EngineEvents.{engine_event}
use Rattle.cf_engine.proofs.sessions.part.Goals as goal

pub returns-in_default : goal.returns-in_default
returns-in_default g c = subst (λ (q : CallError). Answers (whole g.H.Steps.sense g.R.Remote.told) Any (engine_event c.args.event) (c.args.host.now, c.args.engine.now) (Err q) (c.args.host.now, c.args.engine.now)) (sym c.from.ensures)
    (no_memory (whole g.H.Steps.sense g.R.Remote.told) Any (engine_event c.args.event) (c.args.host.now, c.args.engine.now))
