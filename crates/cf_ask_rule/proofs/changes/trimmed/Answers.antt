use Rattle.std.proofs.Common.{◌<◌, ◌-◌, arith, length}
use Rattle.cf_ask_rule.proofs.Cuts.{contains_at, cut_both, positive}
use Rattle.cf_ask_rule.proofs.changes.trimmed.Goals as goal
use Rattle.cf_ranges.specs.Positions.{contains, within}

pub returns : goal.returns
returns c = λ p h out.
    let some : 0 < length c.args.after.now = positive (length c.args.after.now) c.if-count-eq0.false in
    cut_both (within c.args.hull.start c.args.hull.end p) (within c.cut_first.result.start c.cut_first.result.end p) (within c.cut_last.result.start c.cut_last.result.end p) (contains c.args.after.now p) h
    (λ a b. contains_at c.args.after.now 0 p _ some (c.cut_first.ensures p a b)) (λ a b. contains_at c.args.after.now (length c.args.after.now - 1) p _ (omega arith) (c.cut_last.ensures p a b)) out
