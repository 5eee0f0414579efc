use Rattle.std.proofs.Common.{◌∙◌, ap}
use Rattle.cf_model.specs.Requests.{Waiting}
use Rattle.cf_waits.proofs.Planning.{with_none}
use Rattle.cf_waits.specs.Steps.{carried, limit_of}
use Rattle.cf_waits.proofs.requests.Requests.limit_after.Goals as goal

pub returns : goal.returns
returns c = c.limit_with.ensures ∙ ap (λ (s : Waiting). limit_of c.args.limits (carried c.args.step.now s).1) (with_none c.args.self.now)
