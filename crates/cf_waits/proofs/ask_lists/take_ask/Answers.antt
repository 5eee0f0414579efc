use Rattle.std.proofs.Common.{◌∙◌, Some, ap, arith, length, refl, sym}
use Rattle.std.proofs.lemmas.List.{get_or_default}
use Rattle.cf_base.specs.declared.waits.Ask.{Ask}
use Rattle.cf_model.specs.Requests.{Live}
use Rattle.cf_waits.specs.Rising.{ask_key}
use Rattle.cf_waits.proofs.ByNumber.{differs_there, goes, is_there, missing, place_moved, same_found, stays}
use Rattle.cf_waits.proofs.Rises.{tested}
use Rattle.cf_waits.proofs.ask_lists.take_ask.Goals as goal

pub returns-then-place-len-clause-found : goal.returns-then-place-len-clause-found
returns-then-place-len-clause-found c =
    sym (missing ask_key c.args.key c.place_of-place.result c.args.asks.now.items c.requires (place_moved ask_key _ _ _ _ _ c.deref.ensures.value refl c.place_of-place.ensures) (λ d lt. absurd (omega (arith, c.if-place-len.true, c.len.ensures))))

pub returns-then-place-len-clause-left : goal.returns-then-place-len-clause-left
returns-then-place-len-clause-left c =
    sym (stays ask_key c.args.key c.place_of-place.result c.args.asks.now.items c.requires (place_moved ask_key _ _ _ _ _ c.deref.ensures.value refl c.place_of-place.ensures) (λ d lt. absurd (omega (arith, c.if-place-len.true, c.len.ensures))))

pub returns-then-not-is_same_key-clause-found : goal.returns-then-not-is_same_key-clause-found
returns-then-not-is_same_key-clause-found c =
    sym (missing ask_key c.args.key c.place_of-place.result c.args.asks.now.items c.requires (place_moved ask_key _ _ _ _ _ c.deref.ensures.value refl c.place_of-place.ensures)
    (differs_there ask_key c.args.key c.place_of-place.result c.args.asks.now.items c.index.result.now c.index.ensures (tested c.args.key _ c.index.result.now.ask.key c.is_same_key.result _ (ap (λ (a : Ask). a.key) c.ask.ensures) c.is_same_key.ensures c.if-not-is_same_key.true)))

pub returns-then-not-is_same_key-clause-left : goal.returns-then-not-is_same_key-clause-left
returns-then-not-is_same_key-clause-left c =
    sym (stays ask_key c.args.key c.place_of-place.result c.args.asks.now.items c.requires (place_moved ask_key _ _ _ _ _ c.deref.ensures.value refl c.place_of-place.ensures)
    (differs_there ask_key c.args.key c.place_of-place.result c.args.asks.now.items c.index.result.now c.index.ensures (tested c.args.key _ c.index.result.now.ask.key c.is_same_key.result _ (ap (λ (a : Ask). a.key) c.ask.ensures) c.is_same_key.ensures c.if-not-is_same_key.true)))

pub returns-clause-found : goal.returns-clause-found
returns-clause-found c =
    ap (λ (a : Live). Some a) (c.remove.ensures.value ∙ get_or_default c.args.asks.now.items c.place_of-place.result c.remove.result c.index.result.now (omega (arith, c.if-place-len.false, c.len.ensures, c.place_of-place.ensures.in_range, ap length c.deref.ensures.value)))
    ∙ sym (same_found ask_key c.args.key c.place_of-place.result c.args.asks.now.items c.index.result.now (place_moved ask_key _ _ _ _ _ c.deref.ensures.value refl c.place_of-place.ensures)
    (omega (arith, c.if-place-len.false, c.len.ensures, c.place_of-place.ensures.in_range, ap length c.deref.ensures.value))
    (is_there ask_key c.args.key c.place_of-place.result c.args.asks.now.items c.index.result.now c.index.ensures (tested c.args.key _ c.index.result.now.ask.key c.is_same_key.result _ (ap (λ (a : Ask). a.key) c.ask.ensures) c.is_same_key.ensures c.if-not-is_same_key.false)))

pub returns-clause-left : goal.returns-clause-left
returns-clause-left c =
    c.remove.ensures.items
    ∙ goes ask_key c.args.key c.place_of-place.result c.args.asks.now.items c.index.result.now c.requires (place_moved ask_key _ _ _ _ _ c.deref.ensures.value refl c.place_of-place.ensures) (omega (arith, c.if-place-len.false, c.len.ensures, c.place_of-place.ensures.in_range, ap length c.deref.ensures.value))
    (is_there ask_key c.args.key c.place_of-place.result c.args.asks.now.items c.index.result.now c.index.ensures (tested c.args.key _ c.index.result.now.ask.key c.is_same_key.result _ (ap (λ (a : Ask). a.key) c.ask.ensures) c.is_same_key.ensures c.if-not-is_same_key.false))
