use Rattle.cf_volume_points.proofs.Saves.{staging_leaves, untouched}
use Rattle.cf_volume_changes.specs.Steady.{known_of}
use Rattle.cf_volume.proofs.room_commits.accept.Goals as goal

pub returns-in-Make-clause-crash : goal.returns-in-Make-clause-crash
returns-in-Make-clause-crash g c = λ v at.
    untouched (g.G.Ground.state c.args.ground.now) (g.G.Ground.state c.args.ground.now) (known_of c.args.parts.now) v
    (record { same_size = g.met.G.Ground.same_size c.args.ground.now }) at

pub returns-in-Copy-clause-crash : goal.returns-in-Copy-clause-crash
returns-in-Copy-clause-crash g c = λ v at.
    staging_leaves (g.G.Ground.state c.args.ground.now) (g.G.Ground.state c.put_copy.new.ground) (known_of c.args.parts.now) v
    (record { same_size = g.met.G.Ground.same_size c.args.ground.now }) at c.put_copy.ensures.crash

pub returns-in-Remove-clause-crash : goal.returns-in-Remove-clause-crash
returns-in-Remove-clause-crash g c = λ v at.
    untouched (g.G.Ground.state c.args.ground.now) (g.G.Ground.state c.args.ground.now) (known_of c.args.parts.now) v
    (record { same_size = g.met.G.Ground.same_size c.args.ground.now }) at
