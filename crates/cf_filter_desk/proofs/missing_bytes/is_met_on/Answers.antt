use Rattle.std.proofs.Common.{◌∙◌, ap}
use Rattle.cf_model.specs.Missing.{View, is_met}
use Rattle.cf_model.specs.Requests.{wait_after}
use Rattle.cf_filter_steps.proofs.Laws.{ok_map}
use Rattle.cf_filter_desk.proofs.missing_bytes.is_met_on.Goals as goal

pub returns : goal.returns
returns c = ok_map c.is_met.result _ _
    (λ met e. λ i means small. e ∙ ap (λ (v : View). is_met v (wait_after c.args.requests.now 0 c.args.need.now.kind c.args.need.now.item c.args.need.now.handle c.args.need.now.span)) (c.view_of-v.ensures.shows i means small)) c.is_met.ensures
