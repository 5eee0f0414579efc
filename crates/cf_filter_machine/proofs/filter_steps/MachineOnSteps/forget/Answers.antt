use Rattle.std.proofs.Common.{refl}
use Rattle.cf_filter_machine.proofs.DeskSteps.{desk_stepped, seen_desk, with_desk}
use Rattle.cf_filter_machine.proofs.GoodSteps.{closed_good}
use Rattle.cf_filter_desk.specs.Desks.{Desk}
use Rattle.cf_filter_steps.specs.Answering.{Any}
use Rattle.std.specs.Prelude.{filter, not}
use Rattle.cf_model.specs.Numbers.{same_key}
use Rattle.cf_model.specs.Waits.{without_handle}
use Rattle.cf_filter_machine.proofs.filter_steps.MachineOnSteps.forget.Goals as goal

pub returns : goal.returns
returns g c = desk_stepped g.G.Ground.state Any (without_handle c.args.handle) (λ (d : Desk). record d { handles = filter (λ o. not (same_key o.handle.0 c.args.handle.0)) d.handles }) c.args.self.now _ c.self.inside.desk c.forget.new.self (with_desk c.forget.new.self c.self.view_is) (seen_desk c.self.view_is) c.forget.ensures
    (λ s. refl) (λ s h. refl) (λ s h p. closed_good c.args.handle s h.good)
