use Rattle.std.proofs.Common.{List, ℕ, ap, arith, subst}
use Rattle.std.specs.Prelude.{Err}
use Rattle.cf_world_devices.proofs.Migrated.{later_fault, unopened_writes}
use Rattle.cf_world_devices.specs.Migrations.{IsRefused}
use Rattle.cf_world_devices.proofs.migrations.put.Goals as goal

pub returns-in-Ok-clause-device_fault : goal.returns-in-Ok-clause-device_fault
returns-in-Ok-clause-device_fault g c =
    later_fault (g.D.Disk.state c.args.disk.now) (g.D.Disk.state c.rewritten.new.disk) (g.D.Disk.state c.hand_out.new.disk) (g.K.Sink.held c.args.sink.now) (g.K.Sink.held c.hand_out.new.sink) c.hand_out.result c.hand_out.ensures.writes c.rewritten.ensures.faults c.rewritten.ensures.calm

pub returns-in-Err-clause-writes : goal.returns-in-Err-clause-writes
returns-in-Err-clause-writes g c =
    unopened_writes (g.D.Disk.state c.args.disk.now) (g.D.Disk.state c.rewritten.new.disk) c.args.bytes.items (g.K.Sink.held c.args.sink.now) c.in-Err.why c.in-Err.ensures.only
    (λ e. subst (λ (l : List ℕ). IsRefused l) c.deref.ensures.value (c.in-Err.ensures.image (ap Err e))) (omega (arith, c.len.ensures, c.size-2.ensures, c.if-len-size.false))
