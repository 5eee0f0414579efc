use Rattle.std.proofs.Common.{◌+◌, sym}
use Rattle.cf_volume_points.proofs.Saves.{untouched, untouched_either}
use Rattle.cf_volume_points.specs.At.{StandsEither, StandsLast}
use Rattle.cf_volume.proofs.Views.{seen_at, seen_leaves}
use Rattle.cf_volume.proofs.WithRoom.{whole_answer}
use Rattle.cf_volume_changes.specs.Steady.{known_of}
use Rattle.cf_model.specs.Costs.{most_of_change}
use Rattle.cf_table.specs.Changing.{item_of_change}
use Rattle.cf_volume.proofs.WrittenBytes.{seen_notes, seen_writes}
use Rattle.cf_volume.specs.Written.{commit_bytes}
use Rattle.cf_volume_points.specs.Known.{Known}
use Rattle.cf_volume.proofs.volumes.VolumeOn.apply.Goals as goal

pub returns-then-self-clause-crash : goal.returns-then-self-clause-crash
returns-then-self-clause-crash g c = λ v at keep.
    untouched_either (g.G.Ground.state c.args.self.now.disk) (g.G.Ground.state c.args.self.now.disk) c.args.self.now.known v
    (record { same_size = g.met.G.Ground.same_size c.args.self.now.disk }) at

pub returns-then-not-has_place-clause-crash : goal.returns-then-not-has_place-clause-crash
returns-then-not-has_place-clause-crash g c = λ v at keep.
    untouched_either (g.G.Ground.state c.args.self.now.disk) (g.G.Ground.state c.args.self.now.disk) c.args.self.now.known v
    (record { same_size = g.met.G.Ground.same_size c.args.self.now.disk }) at

pub returns-in-Ok-clause-crash : goal.returns-in-Ok-clause-crash
returns-in-Ok-clause-crash g c = λ v at keep.
    seen_leaves g.G.Ground.state (g.G.Ground.state c.accept_with_room.new.ground) (StandsEither v) c.self.view_is (c.in-Ok.ensures.crash v (seen_at g.G.Ground.state v (sym c.self.view_is) at) keep)

pub returns-in-Err-clause-why : goal.returns-in-Err-clause-why
returns-in-Err-clause-why g c = λ v at keep whole.
    whole_answer c.args.change.now v c.self.inside.ground c.accept_with_room.new.ground (known_of c.self.inside.parts) (known_of c.accept_with_room.new.parts) c.in-Err.fail c.stops-self-inside.result c.self.view_is c.if-self.false
    c.stops-self-inside.ensures (c.in-Err.ensures.why v (seen_at g.G.Ground.state v (sym c.self.view_is) at) keep)

pub returns-in-Err-clause-crash : goal.returns-in-Err-clause-crash
returns-in-Err-clause-crash g c = λ v at keep.
    seen_leaves g.G.Ground.state (g.G.Ground.state c.accept_with_room.new.ground) (StandsEither v) c.self.view_is (c.in-Err.ensures.crash v (seen_at g.G.Ground.state v (sym c.self.view_is) at) keep)

pub returns-then-self-clause-kept_crash : goal.returns-then-self-clause-kept_crash
returns-then-self-clause-kept_crash g c = λ v at none.
    untouched (g.G.Ground.state c.args.self.now.disk) (g.G.Ground.state c.args.self.now.disk) c.args.self.now.known v
    (record { same_size = g.met.G.Ground.same_size c.args.self.now.disk }) at

pub returns-then-not-has_place-clause-kept_crash : goal.returns-then-not-has_place-clause-kept_crash
returns-then-not-has_place-clause-kept_crash g c = λ v at none.
    untouched (g.G.Ground.state c.args.self.now.disk) (g.G.Ground.state c.args.self.now.disk) c.args.self.now.known v
    (record { same_size = g.met.G.Ground.same_size c.args.self.now.disk }) at

pub returns-in-Ok-clause-kept_crash : goal.returns-in-Ok-clause-kept_crash
returns-in-Ok-clause-kept_crash g c = λ v at none.
    seen_leaves g.G.Ground.state (g.G.Ground.state c.accept_with_room.new.ground) (StandsLast v) c.self.view_is (c.in-Ok.ensures.kept_crash v (seen_at g.G.Ground.state v (sym c.self.view_is) at) none)

pub returns-in-Err-clause-kept_crash : goal.returns-in-Err-clause-kept_crash
returns-in-Err-clause-kept_crash g c = λ v at none.
    seen_leaves g.G.Ground.state (g.G.Ground.state c.accept_with_room.new.ground) (StandsLast v) c.self.view_is (c.in-Err.ensures.kept_crash v (seen_at g.G.Ground.state v (sym c.self.view_is) at) none)

pub returns-in-Ok-clause-noted : goal.returns-in-Ok-clause-noted
returns-in-Ok-clause-noted g c = seen_notes (item_of_change c.args.change.now) (known_of c.accept_with_room.new.parts) c.self.view_is c.in-Ok.ensures.noted

pub returns-in-Ok-clause-written : goal.returns-in-Ok-clause-written
returns-in-Ok-clause-written g c = λ v at keep.
    seen_writes g.G.Ground.state (λ (k : Known). commit_bytes k + most_of_change v.items c.args.change.now) (g.G.Ground.state c.accept_with_room.new.ground) c.self.view_is (c.in-Ok.ensures.written v (seen_at g.G.Ground.state v (sym c.self.view_is) at) keep)

pub returns-in-Err-clause-written : goal.returns-in-Err-clause-written
returns-in-Err-clause-written g c = λ v at keep.
    seen_writes g.G.Ground.state (λ (k : Known). commit_bytes k + most_of_change v.items c.args.change.now) (g.G.Ground.state c.accept_with_room.new.ground) c.self.view_is (c.in-Err.ensures.written v (seen_at g.G.Ground.state v (sym c.self.view_is) at) keep)

pub returns-in-Ok-clause-kept_written : goal.returns-in-Ok-clause-kept_written
returns-in-Ok-clause-kept_written g c = λ v at none.
    seen_writes g.G.Ground.state (λ (k : Known). most_of_change v.items c.args.change.now) (g.G.Ground.state c.accept_with_room.new.ground) c.self.view_is (c.in-Ok.ensures.kept_written v (seen_at g.G.Ground.state v (sym c.self.view_is) at) none)

pub returns-in-Err-clause-kept_written : goal.returns-in-Err-clause-kept_written
returns-in-Err-clause-kept_written g c = λ v at none.
    seen_writes g.G.Ground.state (λ (k : Known). most_of_change v.items c.args.change.now) (g.G.Ground.state c.accept_with_room.new.ground) c.self.view_is (c.in-Err.ensures.kept_written v (seen_at g.G.Ground.state v (sym c.self.view_is) at) none)

pub returns-in-Ok-clause-ok : goal.returns-in-Ok-clause-ok
returns-in-Ok-clause-ok g c = λ v at book keep. c.in-Ok.ensures.done v (seen_at g.G.Ground.state v (sym c.self.view_is) at) book keep

pub returns-in-Ok-clause-why : goal.returns-in-Ok-clause-why
returns-in-Ok-clause-why g c = λ v at keep usable. c.in-Ok.ensures.why v (seen_at g.G.Ground.state v (sym c.self.view_is) at) keep
