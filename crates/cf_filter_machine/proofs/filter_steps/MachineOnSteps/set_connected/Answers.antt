use Rattle.std.proofs.Common.{◌≡◌, Bool, true, false, refl}
use Rattle.cf_filter_machine.proofs.DeskSteps.{desk_stepped, seen_desk, with_desk}
use Rattle.cf_filter_machine.proofs.GoodSteps.{same_good}
use Rattle.cf_filter_desk.specs.Desks.{Desk, desk_of}
use Rattle.cf_model.specs.State.{Filter}
use Rattle.cf_filter_steps.specs.Answering.{Any}
use Rattle.cf_filter_steps.specs.Good.{IsGood}
use Rattle.cf_filter_steps.specs.Needing.{with_link}
use Rattle.cf_filter_machine.proofs.filter_steps.MachineOnSteps.set_connected.Goals as goal

same_volume : (on : Bool) (s : Filter) → (with_link on s).volume ≡ s.volume
same_volume true s = refl
same_volume false s = refl

same_desk : (on : Bool) (s : Filter) → record (desk_of s) { connected = on } ≡ desk_of (with_link on s)
same_desk true s = refl
same_desk false s = refl

good : (on : Bool) (s : Filter) → IsGood s → IsGood (with_link on s)
good true s h = same_good s (with_link true s) refl refl refl h
good false s h = same_good s (with_link false s) refl refl refl h

pub returns : goal.returns
returns g c = desk_stepped g.G.Ground.state Any (with_link c.args.on) (λ (d : Desk). record d { connected = c.args.on }) c.args.self.now _ c.self.inside.desk c.set_connected.new.self (with_desk c.set_connected.new.self c.self.view_is) (seen_desk c.self.view_is) c.set_connected.ensures
    (same_volume c.args.on) (λ s h. same_desk c.args.on s) (λ s h p. good c.args.on s h.good)
