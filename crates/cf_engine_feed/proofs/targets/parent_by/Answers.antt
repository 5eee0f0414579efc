use Rattle.std.proofs.Common.{arith, ap, ◌∙◌}
use Rattle.std.proofs.lemmas.Bool.Decides.{nat_tests}
use Rattle.std.specs.Prelude.{None}
use Rattle.cf_engine_feed.specs.Targets.{open_id}
use Rattle.cf_engine_feed.proofs.IndexFinds.{one_parent}
use Rattle.cf_model.specs.Words.{part}
use Rattle.cf_engine_feed.proofs.targets.parent_by.Goals as goal

pub returns : goal.returns
returns c = λ items m r some s. c.if_open.ensures ∙ ap (part open_id None) c.get.ensures ∙ one_parent items c.args.rid r c.args.id some (s (let t = c.if-id-eq-SEVERAL.false in grind (arith, nat_tests, t))) c.args.rows.now.rows m
