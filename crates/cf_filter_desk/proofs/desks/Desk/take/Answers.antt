use Rattle.std.proofs.Common.{sym, subst}
use Rattle.cf_filter_desk.specs.Desks.{Desk}
use Rattle.cf_waits.specs.Steps.{IsPlanned}
use Rattle.cf_filter_desk.proofs.desks.Desk.take.Goals as goal

pub take-requires-clause-planned : goal.take-requires-clause-planned
take-requires-clause-planned c = subst (λ (d : Desk). IsPlanned c.args.step d.waiting) (sym c.self.view_is) c.requires
