use Rattle.std.proofs.Common.{List, ap, refl, sym, ℕ}
use Rattle.cf_filter_events.proofs.Provided.{provides_step}
use Rattle.cf_provider_script.specs.Lines.{Answers}
use Rattle.cf_world_filter.specs.Scripts.{scripts}
use Rattle.cf_world_filter.specs.Plays.{scripts_act}
use Rattle.cf_model.proofs.PlacementsKeep.{mark_keeps}
use Rattle.cf_model.specs.Callbacks.{calling}
use Rattle.cf_model.specs.Placements.{mark}
use Rattle.cf_world_filter.proofs.actors.ScriptActor.mark.Goals as goal

pub returns : goal.returns
returns g c =
    provides_step Answers scripts scripts_act g.G.Ground.state _ (mark c.as_str.result.now c.args.given) _ _ _ _ _ _ _ _ _ _ (record { of = refl; stops = refl; needs = refl }) (λ P closed. mark_keeps P closed c.as_str.result.now c.args.given) (λ z m. ap (λ (p : List ℕ). calling (mark p c.args.given) z) (sym c.as_str.ensures)) c.new-notes.ensures c.set_in_sync-told.ensures.does c.set_in_sync-told.ensures.keeps c.number.ensures c.answered.ensures
