use Rattle.std.proofs.Common.{◌∙◌}
use Rattle.cf_engine_queue.proofs.UploadRecords.{no_uploads, some_uploads}
use Rattle.cf_engine_queue.proofs.pending_uploads.has_uploads.Goals as goal

pub returns-in-Some : goal.returns-in-Some
returns-in-Some c = λ b same. c.is_kind_below.ensures ∙ some_uploads b c.args.records.now c.from.result c.next.new.self c.in-Some.first.now same c.from.ensures.value c.in-Some.ensures

pub returns-in-None : goal.returns-in-None
returns-in-None c = λ b same. no_uploads b c.args.records.now c.from.result same c.from.ensures.value c.in-None.ensures
