use Rattle.std.proofs.Common.{arith}
use Rattle.std.proofs.lemmas.Bool.Decides.{nat_tests}
use Rattle.cf_engine_feed.proofs.IndexFinds.{one_item}
use Rattle.cf_engine_feed.proofs.targets.item_by.Goals as goal

pub returns : goal.returns
returns c = λ items m r some s. one_item items c.args.rid r c.args.id some (s (let t = c.if-id-eq-SEVERAL.false in grind (arith, nat_tests, t)))
