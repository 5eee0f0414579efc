use Rattle.std.proofs.Common.{◌+◌, Some, set, ap, ◌∙◌, arith}
use Rattle.cf_model.specs.Store.{Stored, trimmed}
use Rattle.cf_remote.specs.Held.{held_len}
use Rattle.cf_remote.proofs.Trimming.{set_more, sum_set, trimmed_held}
use Rattle.cf_remote.proofs.changes.trim_all.Goals as goal

pub loop-place-preserved : goal.loop-place-preserved
loop-place-preserved c =
    let place = c.loop-place.place in
    let items = c.loop-place.items.items in
    let old = c.index_mut-item.result.now in
    let sum = sum_set held_len items place old c.trim-left.new.self (omega (arith, c.loop-place-test.true, c.len.ensures, c.loop-place.items.ok)) in
    let same = ap held_len c.index_mut-item.ensures.value in
    record {
      within = omega (arith, c.loop-place-test.true, c.len.ensures);
      count = c.loop-place.invariant.count;
      items = ap (λ (s : Stored). set items place s) (c.trim-left.ensures.trims ∙ ap (trimmed (Some c.args.count)) c.index_mut-item.ensures.value)
          ∙ set_more (trimmed (Some c.args.count)) c.args.items.now.items items place (place + 1) old (omega arith)
          (omega (arith, c.loop-place-test.true, c.len.ensures, c.loop-place.invariant.count, c.args.items.now.ok)) c.loop-place.invariant.items;
      held = omega (arith, c.trim-left.ensures.held, c.loop-place.invariant.held, sum, same);
      less = omega (arith, c.trim-left.ensures.held, c.loop-place.invariant.less, trimmed_held c.args.count old, ap held_len c.trim-left.ensures.trims);
    }
