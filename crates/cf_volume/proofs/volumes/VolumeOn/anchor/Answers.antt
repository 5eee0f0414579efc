use Rattle.std.proofs.Common.{sym}
use Rattle.cf_disk.specs.Disk.{size_of}
use Rattle.cf_volume_changes.proofs.Rebooks.{anchored_at, anchored_steady}
use Rattle.cf_volume.proofs.Views.{seen_at}
use Rattle.cf_volume_changes.specs.Steady.{known_of}
use Rattle.cf_volume.proofs.WrittenBytes.{seen_notes, sets_notes}
use Rattle.cf_volume.proofs.volumes.VolumeOn.anchor.Goals as goal

pub invariant_of-self : goal.invariant_of-self
invariant_of-self g c = λ usable.
    anchored_steady (size_of (g.G.Ground.state c.self.inside.ground)) c.args.id (known_of c.self.inside.parts) (known_of c.anchor_row.new.parts) (c.self.invariant c.if-self.false) c.in-Ok.ensures

pub returns-in-Ok-clause-ok : goal.returns-in-Ok-clause-ok
returns-in-Ok-clause-ok g c = λ v i at found.
    anchored_at (g.G.Ground.state c.self.inside.ground) c.args.id (known_of c.self.inside.parts) (known_of c.anchor_row.new.parts) v (seen_at g.G.Ground.state v (sym c.self.view_is) at) c.in-Ok.ensures i found

pub returns-in-Ok-clause-noted : goal.returns-in-Ok-clause-noted
returns-in-Ok-clause-noted g c = seen_notes c.args.id (known_of c.anchor_row.new.parts) c.self.view_is (sets_notes _ c.args.id (known_of c.self.inside.parts) (known_of c.anchor_row.new.parts) c.in-Ok.ensures)
