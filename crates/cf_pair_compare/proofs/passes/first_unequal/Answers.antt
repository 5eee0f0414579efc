use Rattle.std.proofs.lemmas.Bool.{MatchBool-at_false, MatchBool-at_true}
use Rattle.cf_pair_compare.specs.First.{AreAlike}
use Rattle.cf_pair_compare.proofs.Reaching.{reach_differing, reach_end, reach_none, reach_on, reach_theirs}
use Rattle.cf_pair_compare.proofs.passes.first_unequal.Goals as goal

pub returns-in_default-theirs : goal.returns-in_default-theirs
returns-in_default-theirs c = λ r s.
    reach_end c.args.first.now c.args.second.now c.loop-ours.ours.now c.loop-ours.theirs.now (c.loop-ours.invariant r s) c.a-item.result c.in-len1-up.len_at_least c.a-item.is c.in_default-theirs.len_below

pub returns-then-not-are_alike : goal.returns-then-not-are_alike
returns-then-not-are_alike c = λ r s.
    reach_differing c.args.first.now c.args.second.now c.loop-ours.ours.now c.loop-ours.theirs.now (c.loop-ours.invariant r s) c.a-item.result c.in-len1-up.len_at_least c.a-item.is
    c.b-item.result c.in-len1-up-theirs.len_at_least c.b-item.is
    (MatchBool-at_false (AreAlike c.a-item.result c.b-item.result) (AreAlike c.a-item.result c.b-item.result → ⊥) c.if-not-are_alike.true c.are_alike.ensures) c.earlier.result.now c.earlier.ensures

pub loop-ours-preserved : goal.loop-ours-preserved
loop-ours-preserved c = λ r s.
    reach_on c.args.first.now c.args.second.now c.loop-ours.ours.now c.loop-ours.theirs.now (c.loop-ours.invariant r s) c.a-item.result c.in-len1-up.len_at_least c.a-item.is
    c.b-item.result c.in-len1-up-theirs.len_at_least c.b-item.is
    (MatchBool-at_true (AreAlike c.a-item.result c.b-item.result) (AreAlike c.a-item.result c.b-item.result → ⊥) c.if-not-are_alike.false c.are_alike.ensures)

pub returns-in-empty : goal.returns-in-empty
returns-in-empty c = λ r s. reach_none c.args.first.now c.args.second.now c.loop-ours.ours.now c.loop-ours.theirs.now (c.loop-ours.invariant r s) c.in_default.len_below c.in-empty.len_below

pub returns-in-len1-up-theirs-2 : goal.returns-in-len1-up-theirs-2
returns-in-len1-up-theirs-2 c = λ r s.
    reach_theirs c.args.first.now c.args.second.now c.loop-ours.ours.now c.loop-ours.theirs.now (c.loop-ours.invariant r s) c.in_default.len_below c.b-item-2.result c.in-len1-up-theirs-2.len_at_least c.b-item-2.is

pub loop-ours-init : goal.loop-ours-init
loop-ours-init c = λ r s. (r, s, λ told k. k)
