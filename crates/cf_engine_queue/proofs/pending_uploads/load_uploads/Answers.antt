use Rattle.cf_engine_queue.proofs.UploadRecords.{entries_are, uploads_loaded}
use Rattle.cf_engine_queue.proofs.pending_uploads.load_uploads.Goals as goal

pub returns : goal.returns
returns c = λ b k same. uploads_loaded b _ c.in-Ok.queue k (entries_are b c.args.records.now same) c.in-Ok.ensures.kept
