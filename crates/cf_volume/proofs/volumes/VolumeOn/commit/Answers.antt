use Rattle.cf_volume_points.proofs.Saves.{untouched_either}
use Rattle.cf_volume.proofs.WrittenBytes.{seen_counts}
use Rattle.cf_volume.proofs.volumes.VolumeOn.commit.Goals as goal

pub returns-then-self-clause-crash : goal.returns-then-self-clause-crash
returns-then-self-clause-crash g c = λ v at keep.
    untouched_either (g.G.Ground.state c.args.self.now.disk) (g.G.Ground.state c.args.self.now.disk) c.args.self.now.known v
    (record { same_size = g.met.G.Ground.same_size c.args.self.now.disk }) at

pub returns-in-Ok-clause-written : goal.returns-in-Ok-clause-written
returns-in-Ok-clause-written g c =
    let h = seen_counts g.G.Ground.state g.G.Ground.writes _ (g.G.Ground.state c.commit_parts.new.ground) c.self.view_is c.in-Ok.ensures.written in
    record { exact = h.exact; least = h.least; most = h.most }

pub returns-in-Err-clause-written : goal.returns-in-Err-clause-written
returns-in-Err-clause-written g c =
    let h = seen_counts g.G.Ground.state g.G.Ground.writes _ (g.G.Ground.state c.commit_parts.new.ground) c.self.view_is c.in-Err.ensures.written in
    record { exact = tt; least = h.least; most = h.most }
