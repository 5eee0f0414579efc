use Rattle.cf_engine_uploads.proofs.Courses.{uploads_directory, uploads_file}
use Rattle.std.proofs.Common.{refl}
use Rattle.cf_engine_uploads.proofs.items.upload.Goals as goal

pub returns-then-is_directory : goal.returns-then-is_directory
returns-then-is_directory g c = λ i. uploads_directory g.S.Steps.sense g.R.Remote.told c.args.id i c.args.s.now c.args.e.now c.is_directory.result c.is_directory.ensures c.push_place.new.s c.push_place.new.e c.push_place.result c.if-is_directory.true (c.push_place.ensures i refl)

pub returns-else-is_directory : goal.returns-else-is_directory
returns-else-is_directory g c = λ i. uploads_file g.S.Steps.sense g.R.Remote.told c.args.id i c.args.s.now c.args.e.now c.is_directory.result c.is_directory.ensures c.put_file.new.s c.put_file.new.e c.put_file.result c.if-is_directory.false (c.put_file.ensures i)
