use Rattle.std.proofs.Common.{arith}
use Rattle.cf_ask_rule.proofs.Wanted.{next_wanted, none_wanted}
use Rattle.cf_ask_rule.proofs.asks.is_run_wanted.Goals as goal

pub returns-in-Some : goal.returns-in-Some
returns-in-Some c = λ w h. next_wanted c.args.v.now c.args.needs.now w c.args.run.start c.args.run.len c.min-start.result c.in-Some.at h (omega (arith, c.min-start.ensures, c.size.ensures.value)) c.in-Some.ensures.next

pub returns-in-None : goal.returns-in-None
returns-in-None c = λ w h. none_wanted c.args.v.now c.args.needs.now w c.args.run.start c.args.run.len c.min-start.result h (omega (arith, c.min-start.ensures, c.size.ensures.value)) c.in-None.ensures.next
