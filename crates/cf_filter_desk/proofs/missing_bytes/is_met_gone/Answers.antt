use Rattle.std.proofs.Common.{◌≡◌, Bool, ◌∙◌, ap}
use Rattle.std.proofs.lemmas.Result.{IfOk-weaker}
use Rattle.cf_ask_rule.specs.Sights.{shown}
use Rattle.cf_model.specs.Missing.{View, is_met}
use Rattle.cf_model.specs.Requests.{wait_after}
use Rattle.cf_model.specs.Settling.{no_view}
use Rattle.cf_filter_desk.proofs.missing_bytes.is_met_gone.Goals as goal

pub returns : goal.returns
returns c = IfOk-weaker c.is_met.result (λ met. met ≡ is_met (shown c.no_view-v.result) (wait_after c.args.requests.now 0 c.args.need.now.kind c.args.need.now.item c.args.need.now.handle c.args.need.now.span)) (λ met. met ≡ is_met no_view (wait_after c.args.requests.now 0 c.args.need.now.kind c.args.need.now.item c.args.need.now.handle c.args.need.now.span))
    (λ met e. e ∙ ap (λ (v : View). is_met v (wait_after c.args.requests.now 0 c.args.need.now.kind c.args.need.now.item c.args.need.now.handle c.args.need.now.span)) c.no_view-v.ensures.shows) c.is_met.ensures
