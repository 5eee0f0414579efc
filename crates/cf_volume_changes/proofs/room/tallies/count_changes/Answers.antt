use Rattle.std.proofs.Common.{◌+◌, ◌∙◌, sym, subst, drop, List}
use Rattle.std.proofs.lemmas.Bool.{true≢false}
use Rattle.cf_base.specs.declared.changes.Change.{Change}
use Rattle.cf_volume_changes.proofs.DraftFlags.{next_of_list}
use Rattle.cf_volume_changes.specs.Tallies.{Counts}
use Rattle.cf_volume_changes.proofs.room.tallies.count_changes.Goals as goal

pub returns-then-not-branch : goal.returns-then-not-branch
returns-then-not-branch c = λ v first.
    let here = subst (λ (l : List Change). Counts c.args.contents.now c.args.limit c.loop-change.so_far l c.args.list.now v)
    (next_of_list c.args.list.now c.loop-change.change-index c.change-item.result c.loop-change-test.true c.change-item.is) (c.loop-change.invariant v first) in
    absurd (true≢false (sym (c.in_ok-count_change.ensures v (drop (c.loop-change.change-index + 1) c.args.list.now) c.args.list.now here).0 ∙ c.if-not-branch.true))

pub loop-change-preserved : goal.loop-change-preserved
loop-change-preserved c = λ v first.
    let here = subst (λ (l : List Change). Counts c.args.contents.now c.args.limit c.loop-change.so_far l c.args.list.now v)
    (next_of_list c.args.list.now c.loop-change.change-index c.change-item.result c.loop-change-test.true c.change-item.is) (c.loop-change.invariant v first) in
    (c.in_ok-count_change.ensures v (drop (c.loop-change.change-index + 1) c.args.list.now) c.args.list.now here).1
