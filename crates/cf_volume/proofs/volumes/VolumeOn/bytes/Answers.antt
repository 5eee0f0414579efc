use Rattle.std.proofs.Common.{◌+◌, sym}
use Rattle.cf_disk.specs.Disk.{size_of}
use Rattle.cf_volume_points.proofs.Readings.{read_at}
use Rattle.cf_volume_points.proofs.Saves.{reading_leaves, untouched}
use Rattle.cf_volume_points.specs.At.{StandsLast}
use Rattle.cf_volume.proofs.OfVolume.{bytes_read, row_inside}
use Rattle.cf_volume.proofs.Views.{seen_at, seen_here, seen_leaves}
use Rattle.cf_volume_changes.specs.Steady.{known_of}
use Rattle.cf_volume.proofs.volumes.VolumeOn.bytes.Goals as goal

pub returns-then-self-clause-crash : goal.returns-then-self-clause-crash
returns-then-self-clause-crash g c = λ v at.
    untouched (g.G.Ground.state c.args.self.now.disk) (g.G.Ground.state c.args.self.now.disk) c.args.self.now.known v
    (record { same_size = g.met.G.Ground.same_size c.args.self.now.disk }) at

pub read_item-requires-clause-inside : goal.read_item-requires-clause-inside
read_item-requires-clause-inside g c = row_inside (size_of (g.G.Ground.state c.self.inside.ground)) (known_of c.self.inside.parts) c.args.id (c.self.invariant c.if-self.false)

pub returns-in-Ok-clause-bytes : goal.returns-in-Ok-clause-bytes
returns-in-Ok-clause-bytes g c = λ v i at found.
    bytes_read (g.G.Ground.state c.self.inside.ground) (g.G.Ground.state c.read_item.new.ground) (known_of c.self.inside.parts) v c.args.id i c.args.span.start (c.args.span.start + c.args.span.len) c.in-Ok.bytes
    (seen_at g.G.Ground.state v (sym c.self.view_is) at) found (seen_here c.args.id c.args.span.start (c.args.span.start + c.args.span.len) (sym c.self.view_is) c.requires.here) c.in-Ok.ensures.bytes

pub returns-in-Ok-clause-ok : goal.returns-in-Ok-clause-ok
returns-in-Ok-clause-ok g c = λ v at.
    read_at (g.G.Ground.state c.self.inside.ground) (g.G.Ground.state c.read_item.new.ground) (known_of c.self.inside.parts) v
    (record { same_size = g.met.G.Ground.same_size c.self.inside.ground })
    (seen_at g.G.Ground.state v (sym c.self.view_is) at) c.in-Ok.ensures.keeps c.in-Ok.ensures.crash

pub returns-in-Ok-clause-crash : goal.returns-in-Ok-clause-crash
returns-in-Ok-clause-crash g c = λ v at.
    seen_leaves g.G.Ground.state (g.G.Ground.state c.read_item.new.ground) (StandsLast v) c.self.view_is
    (reading_leaves (g.G.Ground.state c.self.inside.ground) (g.G.Ground.state c.read_item.new.ground) (known_of c.self.inside.parts) v
    (record { same_size = g.met.G.Ground.same_size c.self.inside.ground })
    (seen_at g.G.Ground.state v (sym c.self.view_is) at) c.in-Ok.ensures.crash)

pub returns-in-Err-clause-crash : goal.returns-in-Err-clause-crash
returns-in-Err-clause-crash g c = λ v at.
    seen_leaves g.G.Ground.state (g.G.Ground.state c.read_item.new.ground) (StandsLast v) c.self.view_is
    (reading_leaves (g.G.Ground.state c.self.inside.ground) (g.G.Ground.state c.read_item.new.ground) (known_of c.self.inside.parts) v
    (record { same_size = g.met.G.Ground.same_size c.self.inside.ground })
    (seen_at g.G.Ground.state v (sym c.self.view_is) at) c.in-Err.ensures.crash)
