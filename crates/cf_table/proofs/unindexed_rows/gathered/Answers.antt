use Rattle.std.proofs.Common.{ap, arith, length, sym, ◌≡◌, ◌∙◌, ◌∷◌}
use Rattle.std.specs.Vec.Iter.{into_iter_items}
use Rattle.std.proofs.lemmas.List.{nil_from_length}
use Rattle.cf_table.proofs.RowSlots.{all_gathered, gathered_first, next_above, next_spellable, one_gathered}
use Rattle.cf_table.proofs.unindexed_rows.gathered.Goals as goal

pub loop-slot-init : goal.loop-slot-init
loop-slot-init c =
    let all = c.into_iter-slot-iterator.ensures.into_iter_gives in
    record {
      gathered = gathered_first c.in_ok-rows.rows c.args.slots.items (into_iter_items c.into_iter-slot-iterator.result) c.in_ok-rows.ensures (sym all.0) c.requires;
      count = omega (arith, all.1, c.args.slots.ok, ap length all.0);
    }

pub push_slot-requires-clause-above : goal.push_slot-requires-clause-above
push_slot-requires-clause-above c = next_above c.loop-slot.rows _ _ c.args.slots.items c.in-Some.slot c.in-Some.ensures.steps.0 c.loop-slot.invariant.gathered

pub push_slot-requires-clause-spellable : goal.push_slot-requires-clause-spellable
push_slot-requires-clause-spellable c = next_spellable c.loop-slot.rows _ _ c.args.slots.items c.in-Some.slot c.in-Some.ensures.steps.0 c.loop-slot.invariant.gathered

pub loop-slot-preserved : goal.loop-slot-preserved
loop-slot-preserved c =
    let steps : into_iter_items c.loop-slot.slot-iterator ≡ c.in-Some.slot ∷ into_iter_items c.next.new.self = c.in-Some.ensures.steps.0 in
    record {
      gathered = one_gathered c.loop-slot.rows c.push_slot.new.rows _ _ c.args.slots.items c.in-Some.slot steps c.in_ok-push_slot.ensures c.loop-slot.invariant.gathered;
      count = omega (arith, c.loop-slot.invariant.count, c.in-Some.ensures.steps.1, ap length steps);
    }

pub returns : goal.returns
returns c = all_gathered c.loop-slot.rows (into_iter_items c.loop-slot.slot-iterator) c.args.slots.items (nil_from_length (into_iter_items c.loop-slot.slot-iterator) (sym c.loop-slot.invariant.count ∙ c.in-None.ensures.steps.0)) c.loop-slot.invariant.gathered
