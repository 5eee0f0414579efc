use Rattle.std.proofs.Common.{refl}
use Rattle.cf_filter_events.proofs.Provided.{provides_step}
use Rattle.cf_provider_script.specs.Lines.{Answers}
use Rattle.cf_world_filter.specs.Scripts.{scripts}
use Rattle.cf_world_filter.specs.Plays.{scripts_act}
use Rattle.cf_model.proofs.OperationsKeep.{execute_keeps}
use Rattle.cf_model.specs.Operations.{execute}
use Rattle.cf_world_filter.proofs.actors.ScriptActor.carry_out.Goals as goal

pub returns : goal.returns
returns g c =
    provides_step Answers scripts scripts_act g.G.Ground.state _ (execute c.args.operation.now) _ _ _ _ _ _ _ _ _ _ (record { of = refl; stops = refl; needs = refl }) (λ P closed. execute_keeps P closed c.args.operation.now) (λ z m. refl) c.new-notes.ensures c.execute_now-told.ensures.does c.execute_now-told.ensures.keeps c.outcome.ensures c.answered.ensures
