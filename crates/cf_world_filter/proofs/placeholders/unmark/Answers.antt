use Rattle.std.proofs.Common.{List, ap, refl, sym, ℕ}
use Rattle.cf_filter_events.proofs.Called.{calls_step}
use Rattle.cf_provider_script.specs.Lines.{Answers}
use Rattle.cf_world_filter.specs.Scripts.{scripts}
use Rattle.cf_world_filter.specs.Plays.{scripts_act}
use Rattle.cf_model.proofs.PlacementsKeep.{unmark_keeps}
use Rattle.cf_model.specs.Placements.{unmark}
use Rattle.cf_model.specs.State.{in_filter}
use Rattle.cf_world_filter.proofs.placeholders.unmark.Goals as goal

pub returns : goal.returns
returns g c =
    λ plan. calls_step Answers scripts scripts_act g.G.Ground.state _ (unmark c.as_str.result.now) _ _ _ _ _ _ _ _ _ (record { of = refl; stops = refl; needs = refl }) (λ P closed. unmark_keeps P closed c.as_str.result.now) (λ z m. ap (λ (p : List ℕ). in_filter (unmark p) z) (sym c.as_str.ensures)) c.new-notes.ensures c.clear_in_sync-told.ensures.does c.clear_in_sync-told.ensures.keeps c.number.ensures c.answered.ensures
