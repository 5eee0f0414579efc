use Rattle.cf_volume_points.proofs.Saves.{staging_leaves, untouched}
use Rattle.cf_volume_changes.specs.Steady.{known_of}
use Rattle.cf_volume.proofs.room_commits.put_in_place.Goals as goal

pub returns-then-is_there-clause-crash : goal.returns-then-is_there-clause-crash
returns-then-is_there-clause-crash g c = λ v at.
    staging_leaves (g.G.Ground.state c.args.ground.now) (g.G.Ground.state c.put_stay.new.ground) (known_of c.args.parts.now) v
    (record { same_size = g.met.G.Ground.same_size c.args.ground.now }) at c.put_stay.ensures.crash

pub returns-else-is_there-clause-crash : goal.returns-else-is_there-clause-crash
returns-else-is_there-clause-crash g c = λ v at.
    untouched (g.G.Ground.state c.args.ground.now) (g.G.Ground.state c.args.ground.now) (known_of c.args.parts.now) v
    (record { same_size = g.met.G.Ground.same_size c.args.ground.now }) at
