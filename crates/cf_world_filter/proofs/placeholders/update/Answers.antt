use Rattle.std.proofs.Common.{List, ap, refl, sym, ℕ, ◌∙◌}
use Rattle.cf_filter_events.proofs.Called.{calls_step}
use Rattle.cf_provider_script.specs.Lines.{Answers}
use Rattle.cf_world_filter.specs.Scripts.{scripts}
use Rattle.cf_world_filter.specs.Plays.{scripts_act}
use Rattle.cf_model.proofs.PlacementsKeep.{update_keeps}
use Rattle.cf_model.specs.Placements.{update}
use Rattle.cf_model.specs.State.{in_filter}
use Rattle.std.specs.Prelude.{Option}
use Rattle.cf_world_filter.proofs.placeholders.update.Goals as goal

pub returns : goal.returns
returns g c =
    λ plan. calls_step Answers scripts scripts_act g.G.Ground.state _ (update c.as_str.result.now c.args.identity.now c.wide_size.result) _ _ _ _ _ _ _ _ _ (record { of = refl; stops = refl; needs = refl }) (λ P closed. update_keeps P closed c.as_str.result.now c.args.identity.now c.wide_size.result) (λ z m. ap (λ (s : Option ℕ). in_filter (update c.args.path.now c.args.identity.now s) z) (sym c.wide_size.ensures) ∙ ap (λ (p : List ℕ). in_filter (update p c.args.identity.now c.wide_size.result) z) (sym c.as_str.ensures)) c.new-notes.ensures c.update-told.ensures.does c.update-told.ensures.keeps c.number.ensures c.answered.ensures
