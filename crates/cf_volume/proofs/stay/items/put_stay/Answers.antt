use Rattle.std.proofs.Common.{◌≡◌, ◌∙◌, inr, length, subst, arith}
use Rattle.cf_model.specs.Numbers.{usn_after}
use Rattle.cf_table.specs.Changing.{item_of_change, pin_for}
use Rattle.cf_table.specs.Tables.{row_of}
use Rattle.cf_volume_changes.proofs.Judged.{needs_room, plan_puts, put_wanted}
use Rattle.cf_volume_changes.proofs.Planning.{fits_end}
use Rattle.cf_volume_changes.proofs.Puts.{found_fits, some_row}
use Rattle.cf_volume.proofs.Stopped.{not_device}
use Rattle.cf_volume_changes.specs.Steady.{known_of}
use Rattle.cf_volume_changes.specs.Waits.{MayWait}
use Rattle.cf_volume.proofs.WrittenBytes.{plan_writes}
use Rattle.cf_volume_changes.proofs.Resting.{now_is}
use Rattle.cf_volume.proofs.stay.items.put_stay.Goals as goal

pub returns-in-Some-clause-cause : goal.returns-in-Some-clause-cause
returns-in-Some-clause-cause g c = λ is. absurd (not_device c.in-Some.code c.in-Some.ensures.only is)

pub returns-in-Some-clause-put : goal.returns-in-Some-clause-put
returns-in-Some-clause-put g c = λ v at. inr (c.in-Some.ensures.why (g.G.Ground.state c.args.ground.now).seen v (now_is (g.G.Ground.state c.args.ground.now) (known_of c.args.parts.now) v at.now))

pub put_planned-requires-clause-end : goal.put_planned-requires-clause-end
put_planned-requires-clause-end g c =
    let row = some_row (row_of c.args.parts.now.contents.rows.rows (item_of_change c.args.change.now)) c.requires.there in
    fits_end c.args.change.now row.0 (found_fits c.args.change.now c.args.parts.now.contents.rows.rows row.0 c.requires.kind c.requires.fits row.1)

pub returns-then-waits-clause-put : goal.returns-then-waits-clause-put
returns-then-waits-clause-put g c = λ v at.
    let row = some_row (row_of c.args.parts.now.contents.rows.rows (item_of_change c.args.change.now)) c.requires.there in (
      c.in_default.ensures.why (g.G.Ground.state c.args.ground.now).seen v (now_is (g.G.Ground.state c.args.ground.now) (known_of c.args.parts.now) v at.now),
      needs_room (g.G.Ground.state c.args.ground.now) (known_of c.args.parts.now) v c.args.change.now row.0 c.in_ok-planned.planned.row c.in_ok-planned.planned.blocks.items at.now c.requires.kind row.1 (c.in_ok-planned.ensures row.0 row.1)
          (subst (MayWait (known_of c.args.parts.now)) (let e : c.len.result ≡ length c.in_ok-planned.planned.blocks.items = omega (arith, c.len.ensures, c.in_ok-planned.planned.blocks.ok) in e) (c.in-Ok.ensures.waits c.if-waits.true)),
    )

pub returns-in-Ok-put_planned-clause-put : goal.returns-in-Ok-put_planned-clause-put
returns-in-Ok-put_planned-clause-put g c = λ v at. (
  (λ i. usn_after (at.now.epoch i) (at.now.place i)),
  c.in_default.ensures.why (g.G.Ground.state c.args.ground.now).seen v (now_is (g.G.Ground.state c.args.ground.now) (known_of c.args.parts.now) v at.now),
  c.in-Ok-put_planned.ensures.at v at (c.in_default.ensures.fits (g.G.Ground.state c.args.ground.now).seen v (now_is (g.G.Ground.state c.args.ground.now) (known_of c.args.parts.now) v at.now)),
)

pub returns-in-Ok-put_planned-clause-written : goal.returns-in-Ok-put_planned-clause-written
returns-in-Ok-put_planned-clause-written g c = λ v at.
    let row = some_row (row_of c.args.parts.now.contents.rows.rows (item_of_change c.args.change.now)) c.requires.there in
    plan_writes (g.G.Ground.state c.args.ground.now) (g.G.Ground.state c.put_planned.new.ground) (known_of c.args.parts.now) v c.args.change.now _ _ row.0 c.in_ok-planned.planned.row c.in_ok-planned.planned.blocks.items at c.requires.kind row.1 (c.in_ok-planned.ensures row.0 row.1) c.in-Ok-put_planned.ensures.ran

pub returns-in-Err-put_planned-clause-written : goal.returns-in-Err-put_planned-clause-written
returns-in-Err-put_planned-clause-written g c = λ v at.
    let row = some_row (row_of c.args.parts.now.contents.rows.rows (item_of_change c.args.change.now)) c.requires.there in
    plan_writes (g.G.Ground.state c.args.ground.now) (g.G.Ground.state c.put_planned.new.ground) (known_of c.args.parts.now) v c.args.change.now _ _ row.0 c.in_ok-planned.planned.row c.in_ok-planned.planned.blocks.items at c.requires.kind row.1 (c.in_ok-planned.ensures row.0 row.1) c.in-Err-put_planned.ensures.ran

pub returns-then-waits-clause-aimed : goal.returns-then-waits-clause-aimed
returns-then-waits-clause-aimed g c = λ v at. λ n wanted. c.in-Ok.ensures.wanted c.if-waits.true n wanted ∙ at.now.count

pub returns-in-Ok-put_planned-clause-aimed : goal.returns-in-Ok-put_planned-clause-aimed
returns-in-Ok-put_planned-clause-aimed g c = λ v at.
    let row = some_row (row_of c.args.parts.now.contents.rows.rows (item_of_change c.args.change.now)) c.requires.there in
    let puts = plan_puts (g.G.Ground.state c.args.ground.now) (known_of c.args.parts.now) v c.args.change.now (pin_for c.args.change.now c.args.parts.now.contents.rows.rows) (usn_after c.args.parts.now.contents.last.epoch c.args.parts.now.contents.last.place)
    row.0 c.in_ok-planned.planned.row c.in_ok-planned.planned.blocks.items at.now c.requires.kind row.1 (c.in_ok-planned.ensures row.0 row.1) in
    put_wanted (g.G.Ground.state c.args.ground.now) (known_of c.args.parts.now) v c.args.change.now c.len.result at.now (omega (arith, puts, c.len.ensures, c.in_ok-planned.planned.blocks.ok))
    (g.G.Ground.state c.args.ground.now).settings.aim (c.in-Ok.ensures.light c.if-waits.false)
