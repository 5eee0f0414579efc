use Rattle.std.proofs.Common.{List, ap, refl, sym, ℕ}
use Rattle.cf_filter_events.proofs.Called.{calls_step}
use Rattle.cf_provider_script.specs.Lines.{Answers}
use Rattle.cf_world_filter.specs.Scripts.{scripts}
use Rattle.cf_world_filter.specs.Plays.{scripts_act}
use Rattle.cf_model.proofs.PlacementsKeep.{convert_keeps}
use Rattle.cf_model.specs.Placements.{convert}
use Rattle.cf_model.specs.State.{in_filter}
use Rattle.cf_world_filter.proofs.placeholders.convert.Goals as goal

pub returns : goal.returns
returns g c =
    λ plan. calls_step Answers scripts scripts_act g.G.Ground.state _ (convert c.as_str.result.now c.args.identity.now) _ _ _ _ _ _ _ _ _ (record { of = refl; stops = refl; needs = refl }) (λ P closed. convert_keeps P closed c.as_str.result.now c.args.identity.now) (λ z m. ap (λ (p : List ℕ). in_filter (convert p c.args.identity.now) z) (sym c.as_str.ensures)) c.new-notes.ensures c.convert-told.ensures.does c.convert-told.ensures.keeps c.number.ensures c.answered.ensures
