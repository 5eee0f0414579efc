use Rattle.std.proofs.Common.{◌∙◌, sym}
use Rattle.cf_engine_queue.proofs.Numbered.{of_read}
use Rattle.cf_engine_queue.proofs.identities.numbers_of.Goals as goal

pub returns : goal.returns
returns c = of_read c.as_slice-bytes.result.now c.args.identity.now c.read.result c.as_slice-bytes.ensures (sym c.is_empty.ensures ∙ c.if-is_empty.false) c.read.ensures
