use Rattle.cf_script_words.specs.Operations.{IsAckDehydrate}
use Rattle.cf_script_words.proofs.Shapes.{of_one}
use Rattle.cf_script_words.proofs.operations.ack_dehydrate_line.Goals as goal

pub returns-in-len1 : goal.returns-in-len1
returns-in-len1 c = of_one (IsAckDehydrate c.args.key) c.args.words.now c.ack_dehydrate.result c.in-len1.len_at_least c.in-len1.len_below c.ack_dehydrate.ensures
