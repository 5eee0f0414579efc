use Rattle.std.proofs.Common.{◌-◌, ◌∙◌, ap, arith, get_or, sym}
use Rattle.cf_waits.specs.Books.{brought_forward}
use Rattle.cf_waits.proofs.Ages.{map_front, map_rest}
use Rattle.cf_waits.proofs.ask_ages.bring_all_forward.Goals as goal

pub loop-a-preserved : goal.loop-a-preserved
loop-a-preserved c = record {
  front = map_front (brought_forward c.args.base) c.loop-a.a-index c.loop-a.a-items c.deref_mut-a-items.result.now c.a-item.result c.set_ticks.new.self (omega arith) c.loop-a.invariant.front c.loop-a.invariant.rest c.a-item.is
      (c.set_ticks.ensures ∙ ap (λ n. record (get_or c.loop-a.a-items c.loop-a.a-index c.a-item.result) { ticks = n }) (c.saturating_sub-ticks.ensures ∙ ap (λ n. n - c.args.base) c.ticks.ensures) ∙ sym (ap (brought_forward c.args.base) c.a-item.is));
  rest = map_rest c.loop-a.a-index c.loop-a.a-items c.deref_mut-a-items.result.now c.set_ticks.new.self (omega arith) c.loop-a.invariant.rest;
}
