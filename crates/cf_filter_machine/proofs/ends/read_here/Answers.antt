use Rattle.cf_filter_machine.proofs.ReadSteps.{memory_causes, memory_stops}
use Rattle.cf_filter_machine.proofs.Shown.{memory_left, same_left}
use Rattle.cf_filter_machine.proofs.ends.read_here.Goals as goal

pub returns-in_err-touch-clause-cause : goal.returns-in_err-touch-clause-cause
returns-in_err-touch-clause-cause g c = memory_causes _ _ c.from_residual-in_err-touch.result c.in_err-touch.field-0.0 c.from_residual-in_err-touch.ensures.1 (c.in_err-touch.ensures.only c.in_ok-bytes.ensures.usable)

pub returns-in_err-touch-clause-only : goal.returns-in_err-touch-clause-only
returns-in_err-touch-clause-only g c = λ whole. memory_stops c.from_residual-in_err-touch.result c.in_err-touch.field-0.0 c.from_residual-in_err-touch.ensures.1 (c.in_err-touch.ensures.only c.in_ok-bytes.ensures.usable)

pub returns-in_err-bytes-clause-stays : goal.returns-in_err-bytes-clause-stays
returns-in_err-bytes-clause-stays g c = same_left c.from_residual.result _ _ c.in_err-bytes.ensures.contents

pub returns-in_err-touch-clause-stays : goal.returns-in_err-touch-clause-stays
returns-in_err-touch-clause-stays g c = memory_left c.from_residual-in_err-touch.result c.in_err-touch.field-0.0 _ _ c.from_residual-in_err-touch.ensures.1 (c.in_err-touch.ensures.only c.in_ok-bytes.ensures.usable)
