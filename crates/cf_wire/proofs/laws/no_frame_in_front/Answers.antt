use Rattle.cf_wire.proofs.FrameLaws.{no_reply_in_front, no_request_in_front}
use Rattle.cf_wire.proofs.laws.no_frame_in_front.Goals as goal

pub returns : goal.returns
returns c = record { requests = no_request_in_front; replies = no_reply_in_front }
