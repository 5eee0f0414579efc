use Rattle.cf_filter_desk.proofs.Beginnings.{begun_desk, begun_err}
use Rattle.cf_filter_desk.specs.Desks.{Desk}
use Rattle.cf_model.specs.Missing.{view_of}
use Rattle.cf_filter_steps.specs.Needing.{meant}
use Rattle.cf_filter_desk.proofs.desks.Desk.start_on.Goals as goal

pub returns-in_err-begun-clause-begins : goal.returns-in_err-begun-clause-begins
returns-in_err-begun-clause-begins c = λ i means small.
    begun_err (meant c.args.need.now) (λ (d : Desk). view_of d.policy i) _ c.args.self.now c.in_err-begun.field-0.0 c.from_residual.result c.start_on.new.requests c.from_residual.ensures.1 c.self.view_is (c.in_err-begun.ensures.begins i means small)

pub returns-clause-begins : goal.returns-clause-begins
returns-clause-begins c = λ i means small.
    begun_desk (meant c.args.need.now) (λ (d : Desk). view_of d.policy i) _ c.args.self.now c.in_ok-begun.begun c.start_on.new.requests c.note_background.new.notes c.self.view_is c.in_ok-note_background.ensures (c.in_ok-begun.ensures.begins i means small)
