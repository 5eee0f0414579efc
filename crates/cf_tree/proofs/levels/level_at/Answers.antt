use Rattle.std.proofs.Common.{◌-◌, ◌+◌, ◌∙◌, ◌≡◌, ap, arith, sym}
use Rattle.cf_tree.specs.Levels.{level_at, level_below}
use Rattle.cf_tree.proofs.LevelSteps.{none_down, one_down}
use Rattle.cf_tree.proofs.levels.level_at.Goals as goal

pub loop-preserved : goal.loop-preserved
loop-preserved c =
    let less : c.args.names - (c.loop.counter + 1) ≡ c.args.names - c.loop.counter - 1 = omega arith in
    ap (λ n. level_at n c.args.rows.now.rows c.in_ok-level-2.level.items) less
    ∙ one_down (c.args.names - c.loop.counter) c.args.rows.now.rows c.loop.level.items c.in_ok-level-2.level.items (omega (arith, c.loop-test.true)) (c.in_ok-level-2.ensures ∙ ap (level_below c.args.rows.now.rows) c.as_slice.ensures.value) ∙ c.loop.invariant

pub returns : goal.returns
returns c =
    let none : c.args.names - c.loop.counter ≡ 0 = omega (arith, c.loop-test.false) in
    sym (none_down c.args.rows.now.rows c.loop.level.items) ∙ ap (λ n. level_at n c.args.rows.now.rows c.loop.level.items) (sym none) ∙ c.loop.invariant
