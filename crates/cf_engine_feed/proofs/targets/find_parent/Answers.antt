use Rattle.std.proofs.Common.{arith, sym, ◌∙◌}
use Rattle.std.proofs.lemmas.Bool.Decides.{nat_tests}
use Rattle.std.specs.Prelude.{Some, None}
use Rattle.cf_engine_feed.specs.Indexes.{target_at}
use Rattle.cf_engine_feed.proofs.IndexFinds.{no_parent, said, zero_parent}
use Rattle.cf_engine_feed.proofs.targets.find_parent.Goals as goal

pub returns-then-rid-eq0 : goal.returns-then-rid-eq0
returns-then-rid-eq0 c = λ items m r h. zero_parent items c.args.rid r (let t = c.if-rid-eq0.true in grind (arith, nat_tests, t))

pub returns-in-None : goal.returns-in-None
returns-in-None c = λ items m r h. no_parent items c.args.rid r (said c.args.targets.now (target_at items) c.args.rid.0 None (let t = c.if-rid-eq0.false in grind (arith, nat_tests, t)) (sym c.get.ensures ∙ c.in-None.is) h)

pub returns-in_ok-item-in-Some : goal.returns-in_ok-item-in-Some
returns-in_ok-item-in-Some c = λ items m r h. c.in_ok-item-in-Some.ensures items m r (let t = c.if-rid-eq0.false in grind (arith, nat_tests, t)) (said c.args.targets.now (target_at items) c.args.rid.0 (Some c.in-Some.id) (let t = c.if-rid-eq0.false in grind (arith, nat_tests, t)) (sym c.get.ensures ∙ c.in-Some.is) h)
