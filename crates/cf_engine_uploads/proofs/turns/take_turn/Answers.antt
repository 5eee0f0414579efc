use Rattle.cf_engine_steps.specs.States.{whole}
use Rattle.cf_engine_uploads.proofs.Turned.{does_mark, does_move, does_new, does_nothing, does_upload}
use Rattle.std.proofs.Common.{refl}
use Rattle.cf_engine_uploads.proofs.turns.take_turn.Goals as goal

pub returns-in-Nothing : goal.returns-in-Nothing
returns-in-Nothing g c = does_nothing (whole g.S.Steps.sense g.R.Remote.told) c.args.id (c.args.s.now, c.args.e.now) c.args.course c.requires c.in-Nothing.is

pub returns-in-New : goal.returns-in-New
returns-in-New g c = does_new (whole g.S.Steps.sense g.R.Remote.told) c.args.id (c.args.s.now, c.args.e.now) c.args.course c.requires (c.upload_new.new.s, c.upload_new.new.e) c.upload_new.result c.in-New.is c.upload_new.ensures

pub returns-in-Moved : goal.returns-in-Moved
returns-in-Moved g c = does_move (whole g.S.Steps.sense g.R.Remote.told) c.args.id (c.args.s.now, c.args.e.now) c.args.course c.requires (c.push_place.new.s, c.push_place.new.e) c.push_place.result c.in-Moved.is (λ i. c.push_place.ensures i refl)

pub returns-in-Changed : goal.returns-in-Changed
returns-in-Changed g c = does_upload (whole g.S.Steps.sense g.R.Remote.told) c.args.id (c.args.s.now, c.args.e.now) c.args.course c.requires (c.upload.new.s, c.upload.new.e) c.upload.result c.in-Changed.is c.upload.ensures

pub returns-in-Settled : goal.returns-in-Settled
returns-in-Settled g c = does_mark (whole g.S.Steps.sense g.R.Remote.told) c.args.id (c.args.s.now, c.args.e.now) c.args.course c.requires (c.mark_item.new.s, c.mark_item.new.e) c.mark_item.result c.in-Settled.is c.mark_item.ensures
