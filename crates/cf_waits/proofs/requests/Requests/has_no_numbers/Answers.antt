use Rattle.std.proofs.Common.{◌∙◌, ap}
use Rattle.cf_model.specs.Requests.{Waiting, no_numbers}
use Rattle.cf_waits.proofs.Planning.{with_none}
use Rattle.cf_waits.specs.Steps.{carried}
use Rattle.cf_waits.proofs.requests.Requests.has_no_numbers.Goals as goal

pub returns : goal.returns
returns c = c.has_no_numbers_with.ensures ∙ ap (λ (s : Waiting). no_numbers (carried c.args.step.now s).1) (with_none c.args.self.now)
