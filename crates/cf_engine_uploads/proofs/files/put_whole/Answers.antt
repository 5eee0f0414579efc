use Rattle.cf_engine_uploads.proofs.Put.{puts, puts_none}
use Rattle.cf_engine_uploads.proofs.files.put_whole.Goals as goal

pub returns-then-is_whole : goal.returns-then-is_whole
returns-then-is_whole g c = puts g.S.Steps.sense g.R.Remote.told c.args.id c.args.s.now c.args.e.now c.is_whole.result c.is_whole.ensures c.push_file.new.s c.push_file.new.e c.push_file.result c.if-is_whole.true c.push_file.ensures

pub returns-else-is_whole : goal.returns-else-is_whole
returns-else-is_whole g c = puts_none g.S.Steps.sense g.R.Remote.told c.args.id c.args.s.now c.args.e.now c.is_whole.result c.is_whole.ensures c.if-is_whole.false
