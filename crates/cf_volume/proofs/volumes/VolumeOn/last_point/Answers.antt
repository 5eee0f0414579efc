use Rattle.cf_volume_points.proofs.Saves.{last_stands}
use Rattle.cf_volume.proofs.volumes.VolumeOn.last_point.Goals as goal

pub returns : goal.returns
returns g c = λ v at image left.
    last_stands (g.G.Ground.state c.args.self.now.disk) (g.G.Ground.state c.args.self.now.disk) c.args.self.now.known v (record { same_size = g.met.G.Ground.same_size c.args.self.now.disk }) at image left
