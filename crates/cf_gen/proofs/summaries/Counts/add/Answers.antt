use Rattle.std.proofs.Common.{rules}
use Rattle.cf_gen.proofs.Counted.{counted}
use Rattle.cf_gen.proofs.summaries.Counts.add.Goals as goal

pub returns : goal.returns
returns c = λ answers is. counted answers c.args.answer.now c.args.self.now _ _ _ _ is (search rules) (search rules) (search rules) (search rules)
