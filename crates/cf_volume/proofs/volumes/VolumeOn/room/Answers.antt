use Rattle.std.proofs.Common.{sym}
use Rattle.cf_volume.proofs.Views.{seen_at}
use Rattle.cf_volume_changes.proofs.Resting.{now_is}
use Rattle.cf_volume_changes.specs.Steady.{known_of}
use Rattle.cf_volume.proofs.volumes.VolumeOn.room.Goals as goal

pub room_for-requires : goal.room_for-requires
room_for-requires g c = record { later = (c.self.invariant c.if-self.false).later }

pub returns : goal.returns
returns g c = λ v at fits.
    c.room_for.ensures (g.G.Ground.state c.self.inside.ground).seen v (now_is (g.G.Ground.state c.self.inside.ground) (known_of c.self.inside.parts) v (seen_at g.G.Ground.state v (sym c.self.view_is) at).now) fits
