use Rattle.cf_script_words.specs.Operations.{IsRetrieve}
use Rattle.cf_script_words.proofs.Shapes.{of_two}
use Rattle.cf_script_words.proofs.operations.retrieve_line.Goals as goal

pub returns-in-len2 : goal.returns-in-len2
returns-in-len2 c = of_two (IsRetrieve c.args.key) c.args.words.now c.retrieve.result c.in-len2.len_at_least c.in-len2.len_below c.retrieve.ensures
