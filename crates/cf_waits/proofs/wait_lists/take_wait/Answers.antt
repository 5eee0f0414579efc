use Rattle.std.proofs.Common.{◌∙◌, Some, ap, arith, length, sym}
use Rattle.std.proofs.lemmas.List.{get_or_default}
use Rattle.cf_model.specs.Missing.{Wait}
use Rattle.cf_waits.specs.Rising.{wait_key}
use Rattle.cf_waits.proofs.ByNumber.{differs_there, goes, is_there, missing, place_moved, same_found, stays}
use Rattle.cf_waits.proofs.Rises.{tested}
use Rattle.cf_waits.proofs.wait_lists.take_wait.Goals as goal

pub returns-then-place-len-clause-found : goal.returns-then-place-len-clause-found
returns-then-place-len-clause-found c =
    sym (missing wait_key c.args.id.0 c.place_of-place.result c.args.waits.now.items c.requires (place_moved wait_key _ _ _ _ _ c.deref.ensures.value c.number.ensures c.place_of-place.ensures) (λ d lt. absurd (omega (arith, c.if-place-len.true, c.len.ensures))))

pub returns-then-place-len-clause-left : goal.returns-then-place-len-clause-left
returns-then-place-len-clause-left c =
    sym (stays wait_key c.args.id.0 c.place_of-place.result c.args.waits.now.items c.requires (place_moved wait_key _ _ _ _ _ c.deref.ensures.value c.number.ensures c.place_of-place.ensures) (λ d lt. absurd (omega (arith, c.if-place-len.true, c.len.ensures))))

pub returns-then-not-is-clause-found : goal.returns-then-not-is-clause-found
returns-then-not-is-clause-found c =
    sym (missing wait_key c.args.id.0 c.place_of-place.result c.args.waits.now.items c.requires (place_moved wait_key _ _ _ _ _ c.deref.ensures.value c.number.ensures c.place_of-place.ensures)
    (differs_there wait_key c.args.id.0 c.place_of-place.result c.args.waits.now.items c.index.result.now c.index.ensures (tested c.args.id.0 c.id.result.0 c.index.result.now.id.0 c.is.result _ (ap (λ i. i.0) c.id.ensures) c.is.ensures c.if-not-is.true)))

pub returns-then-not-is-clause-left : goal.returns-then-not-is-clause-left
returns-then-not-is-clause-left c =
    sym (stays wait_key c.args.id.0 c.place_of-place.result c.args.waits.now.items c.requires (place_moved wait_key _ _ _ _ _ c.deref.ensures.value c.number.ensures c.place_of-place.ensures)
    (differs_there wait_key c.args.id.0 c.place_of-place.result c.args.waits.now.items c.index.result.now c.index.ensures (tested c.args.id.0 c.id.result.0 c.index.result.now.id.0 c.is.result _ (ap (λ i. i.0) c.id.ensures) c.is.ensures c.if-not-is.true)))

pub returns-clause-found : goal.returns-clause-found
returns-clause-found c =
    ap (λ (w : Wait). Some w) (c.remove.ensures.value ∙ get_or_default c.args.waits.now.items c.place_of-place.result c.remove.result c.index.result.now (omega (arith, c.if-place-len.false, c.len.ensures, c.place_of-place.ensures.in_range, ap length c.deref.ensures.value)))
    ∙ sym (same_found wait_key c.args.id.0 c.place_of-place.result c.args.waits.now.items c.index.result.now (place_moved wait_key _ _ _ _ _ c.deref.ensures.value c.number.ensures c.place_of-place.ensures)
    (omega (arith, c.if-place-len.false, c.len.ensures, c.place_of-place.ensures.in_range, ap length c.deref.ensures.value))
    (is_there wait_key c.args.id.0 c.place_of-place.result c.args.waits.now.items c.index.result.now c.index.ensures (tested c.args.id.0 c.id.result.0 c.index.result.now.id.0 c.is.result _ (ap (λ i. i.0) c.id.ensures) c.is.ensures c.if-not-is.false)))

pub returns-clause-left : goal.returns-clause-left
returns-clause-left c =
    c.remove.ensures.items
    ∙ goes wait_key c.args.id.0 c.place_of-place.result c.args.waits.now.items c.index.result.now c.requires (place_moved wait_key _ _ _ _ _ c.deref.ensures.value c.number.ensures c.place_of-place.ensures) (omega (arith, c.if-place-len.false, c.len.ensures, c.place_of-place.ensures.in_range, ap length c.deref.ensures.value))
    (is_there wait_key c.args.id.0 c.place_of-place.result c.args.waits.now.items c.index.result.now c.index.ensures (tested c.args.id.0 c.id.result.0 c.index.result.now.id.0 c.is.result _ (ap (λ i. i.0) c.id.ensures) c.is.ensures c.if-not-is.false))
