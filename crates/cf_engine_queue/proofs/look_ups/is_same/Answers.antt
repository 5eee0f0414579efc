use Rattle.std.proofs.Common.{◌∙◌}
use Rattle.cf_engine_queue.proofs.ByKey.{same_bytes}
use Rattle.cf_engine_queue.proofs.look_ups.is_same.Goals as goal

pub returns : goal.returns
returns c = c.eq.ensures ∙ same_bytes c.args.bytes.now c.args.other.now
