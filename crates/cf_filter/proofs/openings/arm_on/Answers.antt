use Rattle.std.proofs.Common.{◌≡◌, ◌∙◌, ap, subst}
use Rattle.std.specs.Prelude.{Some, option_map}
use Rattle.cf_disk.specs.Disk.{IsUnchanged}
use Rattle.cf_filter_machine.specs.Held.{Held}
use Rattle.cf_filter_machine.proofs.DeskSteps.{seen_desk}
use Rattle.cf_filter.proofs.openings.arm_on.Goals as goal

pub returns-clause-same : goal.returns-clause-same
returns-clause-same g c = subst (λ (w : Held g.row.D.Denot). IsUnchanged (g.D.Disk.state w.disk) (g.D.Disk.state c.arm.new.self.disk)) c.machine.view_is c.arm.ensures.same

pub returns-clause-armed : goal.returns-clause-armed
returns-clause-armed g c = subst (λ (w : Held g.row.D.Denot). (g.D.Disk.state c.arm.new.self.disk).armed ≡ option_map (λ _. Some c.args.calls) (g.D.Disk.state w.disk).armed) c.machine.view_is c.arm.ensures.armed

pub returns-clause-known : goal.returns-clause-known
returns-clause-known g c = c.arm.ensures.known ∙ ap (λ (w : Held g.row.D.Denot). w.known) c.machine.view_is

pub returns-clause-desk : goal.returns-clause-desk
returns-clause-desk g c = seen_desk c.machine.view_is
