use Rattle.cf_engine_queue.proofs.UploadRecords.{both_loaded}
use Rattle.cf_engine_queue.proofs.pending_uploads.load_pending.Goals as goal

pub returns : goal.returns
returns c = λ b k same. both_loaded b c.in_ok-uploads.uploads c.in-Ok.removals c.with_tombstones_of.result (c.in_ok-uploads.ensures b k same) (c.in-Ok.ensures b k same) c.with_tombstones_of.ensures
