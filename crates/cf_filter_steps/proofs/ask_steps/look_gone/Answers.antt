use Rattle.std.proofs.Common.{◌∙◌, ap}
use Rattle.cf_ask_rule.specs.Deeds.{deed_of}
use Rattle.cf_model.specs.Asks.{step_of}
use Rattle.cf_model.specs.Missing.{View}
use Rattle.cf_filter_steps.proofs.AskRule.{looked_gone, planned_of}
use Rattle.cf_filter_steps.proofs.Laws.{ok_both, ok_map}
use Rattle.cf_filter_steps.proofs.ask_steps.look_gone.Goals as goal

pub returns-clause-planned : goal.returns-clause-planned
returns-clause-planned g c = ok_both c.look.result _ _ _ (λ p e seen. planned_of p _ _ _ _ _ c.requests.ensures.value e seen) c.look.ensures.planned c.look.ensures.seen

pub returns-clause-looks : goal.returns-clause-looks
returns-clause-looks g c = ok_map c.look.result _ _ (λ p e.
    looked_gone g.S.Steps.sense c.args.s.now c.requests.result.now c.args.item (deed_of c.args.act) p c.requests.ensures.means (e ∙ ap (λ (v : View). step_of c.args.item v (deed_of c.args.act) c.requests.result.now) c.no_view-v.ensures.shows)) c.look.ensures.planned
