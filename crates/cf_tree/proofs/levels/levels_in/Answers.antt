use Rattle.std.proofs.Common.{◌++◌, ◌-◌, ◌+◌, ◌∙◌, ◌≡◌, ap, arith, sym}
use Rattle.cf_tree.specs.Levels.{level_below, levels_in}
use Rattle.cf_tree.proofs.LevelSteps.{no_more, one_more}
use Rattle.cf_tree.proofs.levels.levels_in.Goals as goal

pub loop-preserved : goal.loop-preserved
loop-preserved c =
    let less : c.args.count - (c.loop.counter + 1) ≡ c.args.count - c.loop.counter - 1 = omega arith in
    let more : c.extend_from_slice.new.self.items ≡ c.loop.all.items ++ c.loop.level.items = c.in_ok-extend_from_slice.ensures.items ∙ ap (λ l. c.loop.all.items ++ l) c.as_slice.ensures.value in
    (λ k. more k ++ levels_in (less k) c.args.rows.now.rows c.in_ok-level-2.level.items)
    ∙ one_more (c.args.count - c.loop.counter) c.args.rows.now.rows c.loop.all.items c.loop.level.items c.in_ok-level-2.level.items (omega (arith, c.loop-test.true)) (c.in_ok-level-2.ensures ∙ ap (level_below c.args.rows.now.rows) c.as_slice-in-loop.ensures.value)
    ∙ c.loop.invariant

pub returns : goal.returns
returns c =
    let none : c.args.count - c.loop.counter ≡ 0 = omega (arith, c.loop-test.false) in
    sym (no_more c.args.rows.now.rows c.loop.all.items c.loop.level.items) ∙ ap (λ n. c.loop.all.items ++ levels_in n c.args.rows.now.rows c.loop.level.items) (sym none) ∙ c.loop.invariant
