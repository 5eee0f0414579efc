use Rattle.cf_engine_uploads.proofs.ReadItems.{version_of}
use Rattle.cf_engine_uploads.proofs.item_reads.base_version.Goals as goal

pub returns-in-Some : goal.returns-in-Some
returns-in-Some c = version_of c.args.row.now c.in-Some.numbers c.in-Some.ensures
