use Rattle.cf_engine_uploads.proofs.Courses.{uploads_none, uploads_now}
use Rattle.cf_engine_uploads.proofs.items.upload_now.Goals as goal

pub returns-then-is_there : goal.returns-then-is_there
returns-then-is_there g c = uploads_now g.S.Steps.sense g.R.Remote.told c.args.id c.args.s.now c.args.e.now c.is_there.result c.is_there.ensures c.upload.new.s c.upload.new.e c.upload.result c.if-is_there.true c.upload.ensures

pub returns-else-is_there : goal.returns-else-is_there
returns-else-is_there g c = uploads_none g.S.Steps.sense g.R.Remote.told c.args.id c.args.s.now c.args.e.now c.is_there.result c.is_there.ensures c.if-is_there.false
