use Rattle.std.proofs.Common.{refl}
use Rattle.cf_filter_machine.proofs.DeskSteps.{desk_stepped, seen_desk, with_desk}
use Rattle.cf_filter_machine.proofs.GoodSteps.{same_good}
use Rattle.cf_filter_desk.specs.Desks.{Desk}
use Rattle.cf_filter_steps.specs.Answering.{Any}
use Rattle.cf_model.specs.Calls.{with_policy}
use Rattle.cf_filter_machine.proofs.filter_steps.MachineOnSteps.set_policy.Goals as goal

pub returns : goal.returns
returns g c = desk_stepped g.G.Ground.state Any (with_policy c.args.policy) (λ (d : Desk). record d { policy = c.args.policy }) c.args.self.now _ c.self.inside.desk c.set_policy.new.self (with_desk c.set_policy.new.self c.self.view_is) (seen_desk c.self.view_is) c.set_policy.ensures
    (λ s. refl) (λ s h. refl) (λ s h p. same_good s (with_policy c.args.policy s) refl refl refl h.good)
