use Rattle.cf_script_words.specs.Operations.{IsAck}
use Rattle.cf_script_words.proofs.Shapes.{of_three}
use Rattle.cf_script_words.proofs.operations.ack_line.Goals as goal

pub returns-in-len3 : goal.returns-in-len3
returns-in-len3 c = of_three (IsAck c.args.key) c.args.words.now c.ack.result c.in-len3.len_at_least c.in-len3.len_below c.ack.ensures
