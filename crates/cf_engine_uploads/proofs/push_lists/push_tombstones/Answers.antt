use Rattle.cf_engine_steps.proofs.Loops.{each_ends, each_exits, each_more}
use Rattle.cf_engine_steps.specs.States.{whole}
use Rattle.cf_engine_uploads.proofs.Listed.{there}
use Rattle.cf_engine_uploads.specs.Turns.{push_one}
use Rattle.cf_model.specs.Numbers.{no_rid, no_usn, no_version}
use Rattle.std.proofs.Common.{get_or}
use Rattle.cf_engine_uploads.proofs.push_lists.push_tombstones.Goals as goal

pub returns-in_err-push_tombstone : goal.returns-in_err-push_tombstone
returns-in_err-push_tombstone g c = each_exits (whole g.S.Steps.sense g.R.Remote.told) push_one c.args.tombstones.now c.args.tombstones.now c.loop-one.one-index (get_or c.args.tombstones.now c.loop-one.one-index (record { number = no_usn; rid = no_rid; version = no_version })) (c.args.s.now, c.args.e.now) (c.loop-one.s, c.loop-one.e) c.in_err-push_tombstone.field-0.0 c.from_residual.result (c.push_tombstone.new.s, c.push_tombstone.new.e)
    c.loop-one.invariant c.loop-one-test.true (there c.args.tombstones.now c.loop-one.one-index (record { number = no_usn; rid = no_rid; version = no_version }) (get_or c.args.tombstones.now c.loop-one.one-index (record { number = no_usn; rid = no_rid; version = no_version })) c.loop-one-test.true) c.in_err-push_tombstone.ensures c.from_residual.ensures.1

pub loop-one-preserved : goal.loop-one-preserved
loop-one-preserved g c = λ r u d. c.loop-one.invariant r u (each_more (whole g.S.Steps.sense g.R.Remote.told) push_one c.args.tombstones.now c.loop-one.one-index (get_or c.args.tombstones.now c.loop-one.one-index (record { number = no_usn; rid = no_rid; version = no_version })) (c.loop-one.s, c.loop-one.e) (c.push_tombstone.new.s, c.push_tombstone.new.e) c.in_ok-push_tombstone.field-0 r u c.loop-one-test.true (there c.args.tombstones.now c.loop-one.one-index (record { number = no_usn; rid = no_rid; version = no_version }) (get_or c.args.tombstones.now c.loop-one.one-index (record { number = no_usn; rid = no_rid; version = no_version })) c.loop-one-test.true) c.in_ok-push_tombstone.ensures d)

pub returns : goal.returns
returns g c = each_ends (whole g.S.Steps.sense g.R.Remote.told) push_one c.args.tombstones.now c.args.tombstones.now c.loop-one.one-index (c.args.s.now, c.args.e.now) (c.loop-one.s, c.loop-one.e) c.loop-one.invariant c.loop-one-test.false
