use Rattle.std.proofs.Common.{sym}
use Rattle.cf_ask_rule.proofs.Cuts.{cut_is, in_hull, less_in}
use Rattle.cf_ask_rule.proofs.changes.change_of.Goals as goal

pub returns-then-are_in : goal.returns-then-are_in
returns-then-are_in c =
    cut_is c.args.old.now c.args.new.now c.without_front-old_rest.result.now c.without_front-new_rest.result.now c.without_back-before.result.now c.without_back-after.result.now c.equal_front-front.result c.equal_back-back.result c.trimmed.result.start c.trimmed.result.end
    c.without_front-old_rest.ensures c.without_front-new_rest.ensures c.without_back-before.ensures c.without_back-after.ensures c.equal_front-front.ensures.same c.equal_back-back.ensures.same
    (λ p k. less_in c.without_back-before.result.now c.without_back-after.result.now p (sym c.if-are_in.ensures) k)
    (λ p s e k. c.trimmed.ensures p (in_hull c.hull.result.start c.hull.result.end c.without_back-before.result.now p c.hull.ensures.start c.hull.ensures.end s k) e)
