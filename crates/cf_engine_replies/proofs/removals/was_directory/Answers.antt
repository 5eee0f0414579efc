use Rattle.std.proofs.Common.{refl}
use Rattle.std.specs.Prelude.{Some, None}
use Rattle.cf_engine_replies.proofs.Replied.{directory_by}
use Rattle.cf_engine_replies.proofs.removals.was_directory.Goals as goal

pub returns-in-Some : goal.returns-in-Some
returns-in-Some g c = directory_by g.S.Steps.sense c.args.number c.args.s.now c.in_ok-tombstone.field-0 (Some c.in-Some.tombstone) _ c.in_ok-tombstone.ensures c.in-Some.is refl

pub returns-in-None : goal.returns-in-None
returns-in-None g c = directory_by g.S.Steps.sense c.args.number c.args.s.now c.in_ok-tombstone.field-0 None _ c.in_ok-tombstone.ensures c.in-None.is refl
