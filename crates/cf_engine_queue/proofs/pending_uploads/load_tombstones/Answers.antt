use Rattle.cf_engine_queue.proofs.UploadRecords.{removals_loaded, tombstones_are}
use Rattle.cf_engine_queue.proofs.pending_uploads.load_tombstones.Goals as goal

pub returns : goal.returns
returns c = λ b k same. removals_loaded b _ c.in-Ok.queue k (tombstones_are b c.args.records.now same) c.in-Ok.ensures.kept
