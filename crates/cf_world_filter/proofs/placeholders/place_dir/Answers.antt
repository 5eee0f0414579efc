use Rattle.std.proofs.Common.{List, ap, refl, sym, ℕ, ◌∙◌}
use Rattle.cf_filter_events.proofs.Called.{calls_step}
use Rattle.cf_provider_script.specs.Lines.{Answers}
use Rattle.cf_world_filter.specs.Scripts.{scripts}
use Rattle.cf_world_filter.specs.Plays.{scripts_act}
use Rattle.cf_world_filter.proofs.Planned.{no_memory}
use Rattle.cf_model.proofs.PlacementsKeep.{create_keeps}
use Rattle.cf_model.specs.Placements.{create}
use Rattle.cf_model.specs.Plans.{NewPlaceholderDir}
use Rattle.cf_model.specs.State.{in_filter}
use Rattle.cf_world_filter.proofs.placeholders.place_dir.Goals as goal

pub returns : goal.returns
returns g c =
    λ plan. calls_step Answers scripts scripts_act g.G.Ground.state _ (create c.as_str.result.now (NewPlaceholderDir c.in_ok-identity.identity c.args.in_sync)) _ _ _ _ _ _ _ _ _ (record { of = refl; stops = refl; needs = refl }) (λ P closed. create_keeps P closed c.as_str.result.now (NewPlaceholderDir c.in_ok-identity.identity c.args.in_sync)) (λ z m. ap (λ (i : List ℕ). in_filter (create c.args.path.now (NewPlaceholderDir i c.args.in_sync)) z) (sym c.in_ok-identity.ensures) ∙ ap (λ (p : List ℕ). in_filter (create p (NewPlaceholderDir c.in_ok-identity.identity c.args.in_sync)) z) (sym c.as_str.ensures)) c.new-notes.ensures c.create-told.ensures.does c.create-told.ensures.keeps c.item.ensures c.answered.ensures

pub returns-in_err-identity : goal.returns-in_err-identity
returns-in_err-identity g c = λ plan. no_memory _ _ _ _ c.from_residual.result _ c.from_residual.ensures.1
