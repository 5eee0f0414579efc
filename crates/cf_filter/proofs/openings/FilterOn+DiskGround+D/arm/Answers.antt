use Rattle.std.proofs.Common.{◌≡◌, ◌∙◌, ap, subst, sym}
use Rattle.std.specs.Prelude.{Some, option_map}
use Rattle.cf_disk.specs.Disk.{IsUnchanged}
use Rattle.cf_filter.proofs.Armed.{armed_stands, armed_stopped}
use Rattle.cf_filter_machine.specs.Held.{Held}
use Rattle.cf_filter_machine.specs.Sensing.{Stands, Stopped}
use Rattle.cf_filter.proofs.openings.FilterOn+DiskGround+D.arm.Goals as goal

pub returns-clause-stands : goal.returns-clause-stands
returns-clause-stands g c = λ s h.
    armed_stands g.D.Disk.state c.self.inside.machine c.arm_on.new.machine c.arm_on.ensures.same c.arm_on.ensures.known c.arm_on.ensures.desk
    (record { same_size = g.met.D.Disk.same_size c.arm_on.new.machine.disk }) s
    (subst (λ (w : Held g.row.D.Denot). Stands g.D.Disk.state w s) (sym c.self.view_is) h)

pub returns-clause-stopped : goal.returns-clause-stopped
returns-clause-stopped g c = λ s h.
    armed_stopped g.D.Disk.state c.self.inside.machine c.arm_on.new.machine c.arm_on.ensures.same c.arm_on.ensures.known c.arm_on.ensures.desk s
    (subst (λ (w : Held g.row.D.Denot). Stopped g.D.Disk.state w s) (sym c.self.view_is) h)

pub returns-clause-same : goal.returns-clause-same
returns-clause-same g c = subst (λ (w : Held g.row.D.Denot). IsUnchanged (g.D.Disk.state w.disk) (g.D.Disk.state c.arm_on.new.machine.disk)) c.self.view_is c.arm_on.ensures.same

pub returns-clause-armed : goal.returns-clause-armed
returns-clause-armed g c = subst (λ (w : Held g.row.D.Denot). (g.D.Disk.state c.arm_on.new.machine.disk).armed ≡ option_map (λ _. Some c.args.calls) (g.D.Disk.state w.disk).armed) c.self.view_is c.arm_on.ensures.armed

pub returns-clause-known : goal.returns-clause-known
returns-clause-known g c = c.arm_on.ensures.known ∙ ap (λ (w : Held g.row.D.Denot). w.known) c.self.view_is

pub returns-clause-desk : goal.returns-clause-desk
returns-clause-desk g c = c.arm_on.ensures.desk ∙ ap (λ (w : Held g.row.D.Denot). w.desk) c.self.view_is
