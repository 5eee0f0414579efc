use Rattle.std.proofs.Common.{subst, sym}
use Rattle.cf_filter_machine.proofs.DeskSteps.{seen_desk}
use Rattle.cf_filter_desk.specs.Desks.{Desk}
use Rattle.cf_waits.specs.Steps.{IsPlanned}
use Rattle.cf_filter.proofs.steps.FilterOnSteps.take.Goals as goal

pub take-requires : goal.take-requires
take-requires g c = subst (λ (d : Desk). IsPlanned c.args.step d.waiting) (sym (seen_desk c.self.view_is)) c.requires
