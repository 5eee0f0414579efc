use Rattle.std.proofs.Common.{◌∙◌}
use Rattle.cf_model.specs.Requests.{with_waits}
use Rattle.cf_waits.proofs.Counts.{limit_by}
use Rattle.cf_waits.specs.Steps.{carried}
use Rattle.cf_waits.proofs.requests.Requests.limit_with.Goals as goal

pub returns : goal.returns
returns c =
    c.first_limit.ensures
    ∙ limit_by c.args.limits (carried c.args.step.now (with_waits c.args.begun.now c.args.self.now)).1 c.passes_waits-waits.result c.passes_asks-asks.result c.passes_numbers-numbers.result c.passes_waits-waits.ensures c.passes_asks-asks.ensures c.passes_numbers-numbers.ensures
