use Rattle.cf_wire.proofs.FrameLaws.{one_reply, one_request}
use Rattle.cf_wire.proofs.laws.one_value_a_frame.Goals as goal

pub returns : goal.returns
returns c = record { requests = one_request; replies = one_reply }
