use Rattle.std.proofs.Common.{arith}
use Rattle.std.proofs.lemmas.Bool.Decides.{nat_tests}
use Rattle.cf_engine_steps.proofs.Removed.{goes_by}
use Rattle.cf_engine_steps.proofs.removals.may_go.Goals as goal

pub returns : goal.returns
returns g c = goes_by g.S.Steps.sense c.args.item c.args.s.now c.is_here.result c.is_used.result c.in_ok-full.full (let h = c.if-item.false in grind (arith, nat_tests, h)) c.if-not-is_here.false c.is_here.ensures c.if-is_used.false c.is_used.ensures c.in_ok-full.ensures
