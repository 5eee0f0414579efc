use Rattle.cf_model.specs.PushReplies.{is_new_entry}
use Rattle.cf_engine_queue.proofs.UploadRecords.{any_of_uploads}
use Rattle.cf_engine_queue.proofs.pending_uploads.sends_new.Goals as goal

pub returns : goal.returns
returns c = λ b k same. any_of_uploads is_new_entry c.entries.result.now c.in_ok-queue.queue b c.any_new.result c.any_new.ensures c.entries.ensures (c.in_ok-queue.ensures b k same)
