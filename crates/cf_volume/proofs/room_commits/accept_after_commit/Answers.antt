use Rattle.std.proofs.Common.{◌+◌, inr, sym, ◌∙◌, ap, arith}
use Rattle.cf_disk.specs.Leaving.{leaves_then}
use Rattle.cf_model.specs.Points.{with_room_point}
use Rattle.cf_volume_points.specs.At.{StandsEither, StandsLast}
use Rattle.cf_volume.proofs.Stopped.{handed_on, on_err}
use Rattle.cf_volume.proofs.WithRoom.{done_some, judged_none, judged_stop, kept_none, none_waits, room_now}
use Rattle.cf_volume_changes.specs.Calls.{StopsOnly}
use Rattle.cf_volume_changes.specs.Steady.{known_of}
use Rattle.cf_model.specs.Costs.{most_of_change}
use Rattle.cf_volume.proofs.WrittenBytes.{notes_after, writes_more, writes_then}
use Rattle.cf_volume.specs.Written.{commit_bytes, contents_in}
use Rattle.cf_table.specs.Changing.{item_of_change}
use Rattle.cf_volume.proofs.room_commits.accept_after_commit.Goals as goal

pub returns-in_err-accept-clause-only : goal.returns-in_err-accept-clause-only
returns-in_err-accept-clause-only g c = λ v at keep fits.
    handed_on StopsOnly c.from_residual-in_err-accept.result c.in_err-accept.field-0.0 c.from_residual-in_err-accept.ensures.1
    (judged_stop c.args.change.now (with_room_point v) c.in_err-accept.field-0.0 fits (c.in_err-accept.ensures.judged (with_room_point v) (c.in_ok-commit_parts.ensures.room v at keep)))

pub returns-in_err-accept-clause-crash : goal.returns-in_err-accept-clause-crash
returns-in_err-accept-clause-crash g c = λ v at keep.
    leaves_then (g.G.Ground.state c.args.ground.now) (g.G.Ground.state c.commit_parts.new.ground) (g.G.Ground.state c.accept.new.ground) (StandsEither v) (StandsLast (with_room_point v))
    (c.in_ok-commit_parts.ensures.crash v at keep) (c.in_err-accept.ensures.crash (with_room_point v) (c.in_ok-commit_parts.ensures.room v at keep)) (λ d h. inr (room_now v d h))

pub returns-then-is_some-clause-done : goal.returns-then-is_some-clause-done
returns-then-is_some-clause-done g c = λ v at keep book.
    done_some c.args.change.now (with_room_point v) (g.G.Ground.state c.accept.new.ground) (known_of c.accept.new.parts) c.in_ok-accept.field-0 (sym c.is_some.ensures ∙ c.if-is_some.true)
    (c.in_ok-accept.ensures.done (with_room_point v) (c.in_ok-commit_parts.ensures.room v at keep) book)

pub returns-then-is_some-clause-crash : goal.returns-then-is_some-clause-crash
returns-then-is_some-clause-crash g c = λ v at keep.
    leaves_then (g.G.Ground.state c.args.ground.now) (g.G.Ground.state c.commit_parts.new.ground) (g.G.Ground.state c.accept.new.ground) (StandsEither v) (StandsLast (with_room_point v))
    (c.in_ok-commit_parts.ensures.crash v at keep) (c.in_ok-accept.ensures.crash (with_room_point v) (c.in_ok-commit_parts.ensures.room v at keep)) (λ d h. inr (room_now v d h))

pub returns-clause-only : goal.returns-clause-only
returns-clause-only g c = λ v at keep fits.
    absurd (none_waits c.args.change.now v fits (judged_none c.args.change.now (with_room_point v) c.in_ok-accept.field-0 (sym c.is_some.ensures ∙ c.if-is_some.false) (c.in_ok-accept.ensures.judged (with_room_point v) (c.in_ok-commit_parts.ensures.room v at keep))).1)

pub returns-clause-crash : goal.returns-clause-crash
returns-clause-crash g c = λ v at keep.
    leaves_then (g.G.Ground.state c.args.ground.now) (g.G.Ground.state c.commit_parts.new.ground) (g.G.Ground.state c.accept.new.ground) (StandsEither v) (StandsLast (with_room_point v))
    (c.in_ok-commit_parts.ensures.crash v at keep) (c.in_ok-accept.ensures.crash (with_room_point v) (c.in_ok-commit_parts.ensures.room v at keep)) (λ d h. inr (room_now v d h))

pub returns-in_err-commit_parts-clause-written : goal.returns-in_err-commit_parts-clause-written
returns-in_err-commit_parts-clause-written g c = λ v at keep.
    writes_more (commit_bytes (known_of c.args.parts.now)) (commit_bytes (known_of c.args.parts.now) + most_of_change v.items c.args.change.now) (g.G.Ground.state c.args.ground.now) (g.G.Ground.state c.commit_parts.new.ground) (omega arith) c.commit_parts.ensures.at_most

pub returns-in_err-accept-clause-written : goal.returns-in_err-accept-clause-written
returns-in_err-accept-clause-written g c = λ v at keep.
    writes_then (commit_bytes (known_of c.args.parts.now)) (most_of_change v.items c.args.change.now) (g.G.Ground.state c.args.ground.now) (g.G.Ground.state c.commit_parts.new.ground) (g.G.Ground.state c.accept.new.ground)
    c.commit_parts.ensures.at_most (c.in_err-accept.ensures.written (with_room_point v) (c.in_ok-commit_parts.ensures.room v at keep))

pub returns-then-is_some-clause-written : goal.returns-then-is_some-clause-written
returns-then-is_some-clause-written g c = λ v at keep.
    writes_then (commit_bytes (known_of c.args.parts.now)) (most_of_change v.items c.args.change.now) (g.G.Ground.state c.args.ground.now) (g.G.Ground.state c.commit_parts.new.ground) (g.G.Ground.state c.accept.new.ground)
    c.commit_parts.ensures.at_most (c.in_ok-accept.ensures.written (with_room_point v) (c.in_ok-commit_parts.ensures.room v at keep))

pub returns-clause-written : goal.returns-clause-written
returns-clause-written g c = λ v at keep.
    writes_then (commit_bytes (known_of c.args.parts.now)) (most_of_change v.items c.args.change.now) (g.G.Ground.state c.args.ground.now) (g.G.Ground.state c.commit_parts.new.ground) (g.G.Ground.state c.accept.new.ground)
    c.commit_parts.ensures.at_most (c.in_ok-accept.ensures.written (with_room_point v) (c.in_ok-commit_parts.ensures.room v at keep))

pub returns-then-is_some-clause-noted : goal.returns-then-is_some-clause-noted
returns-then-is_some-clause-noted g c = notes_after (item_of_change c.args.change.now) (known_of c.args.parts.now) (known_of c.commit_parts.new.parts) (known_of c.accept.new.parts) c.in_ok-commit_parts.ensures.noted c.in_ok-accept.ensures.noted

pub returns-in_err-commit_parts-clause-stays : goal.returns-in_err-commit_parts-clause-stays
returns-in_err-commit_parts-clause-stays g c = on_err c.from_residual.result c.in_err-commit_parts.ensures.contents

pub returns-in_err-accept-clause-stays : goal.returns-in_err-accept-clause-stays
returns-in_err-accept-clause-stays g c = on_err c.from_residual-in_err-accept.result (c.in_err-accept.ensures.stays ∙ c.in_ok-commit_parts.ensures.contents)

pub returns-clause-stays : goal.returns-clause-stays
returns-clause-stays g c =
    let same = kept_none c.commit_parts.new.ground c.accept.new.ground (known_of c.commit_parts.new.parts) (known_of c.accept.new.parts) c.in_ok-accept.field-0 (sym c.is_some.ensures ∙ c.if-is_some.false) c.in_ok-accept.ensures.kept in
    ap contents_in same.1 ∙ c.in_ok-commit_parts.ensures.contents
