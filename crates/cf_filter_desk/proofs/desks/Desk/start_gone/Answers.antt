use Rattle.cf_filter_desk.proofs.Beginnings.{begun_err}
use Rattle.cf_filter_desk.specs.Desks.{Desk}
use Rattle.cf_model.specs.Settling.{no_view}
use Rattle.cf_filter_steps.specs.Needing.{meant}
use Rattle.cf_filter_desk.proofs.desks.Desk.start_gone.Goals as goal

pub returns-in_err-begun-clause-begins : goal.returns-in_err-begun-clause-begins
returns-in_err-begun-clause-begins c = begun_err (meant c.args.need.now) (λ (d : Desk). no_view) _ c.args.self.now c.in_err-begun.field-0.0 c.from_residual.result c.start_gone.new.requests c.from_residual.ensures.1 c.self.view_is c.in_err-begun.ensures.begins
