use Rattle.std.proofs.Common.{ℕ, ◌∙◌, ap, subst, sym}
use Rattle.std.specs.Prelude.{Err, min}
use Rattle.cf_world_devices.proofs.Migrated.{read_device, unread_device}
use Rattle.cf_world_devices.specs.Sizes.{IsFit}
use Rattle.cf_world_devices.proofs.migrations.migrate.Goals as goal

pub returns-in-Ok-clause-bytes : goal.returns-in-Ok-clause-bytes
returns-in-Ok-clause-bytes g c = (
  c.in-Ok.bytes.items,
  c.in-Ok.ensures.ok,
  read_device (g.D.Disk.state c.args.disk.now) (g.D.Disk.state c.put.new.disk) c.in-Ok.bytes.items (g.K.Sink.held c.args.sink.now) (g.K.Sink.held c.put.new.sink) _ _ _ _ c.put.result c.put.ensures.writes c.put.ensures.fit c.put.ensures.unfit c.put.ensures.read c.put.ensures.sink_fault,
)

pub returns-in-Err-clause-bytes : goal.returns-in-Err-clause-bytes
returns-in-Err-clause-bytes g c =
    let size = c.size-in-Err.ensures in
    unread_device (g.D.Disk.state c.args.disk.now) (g.S.Source.left c.args.source.now) (g.K.Sink.held c.args.sink.now) _ _ _ _ c.min-limit.result c.in-Err.fail (λ e. c.in-Err.ensures.too_long (ap Err e)) (λ e. c.in-Err.ensures.fault (ap Err e))
    (c.min-limit.ensures ∙ ap (λ (n : ℕ). min n 271581184) c.size.ensures) c.unread.result c.unread.ensures.only c.unread.ensures.fault (λ e is. c.unread.ensures.fit e (subst IsFit (sym size) is))
    (λ e. let h = c.unread.ensures.image e in (h.0, subst IsFit size h.1))
