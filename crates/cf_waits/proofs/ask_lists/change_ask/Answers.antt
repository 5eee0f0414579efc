use Rattle.std.proofs.Common.{◌≡◌, ◌<◌, ◌∙◌, ap, arith, length, sym, true}
use Rattle.std.proofs.lemmas.List.{get_or_default}
use Rattle.cf_base.specs.declared.ids.Key.{Key}
use Rattle.cf_base.specs.declared.waits.Ask.{Ask}
use Rattle.cf_model.specs.Numbers.{same_key}
use Rattle.cf_model.specs.Requests.{Live}
use Rattle.cf_waits.specs.Rising.{ask_key}
use Rattle.cf_waits.proofs.ByNumber.{changes, differs_there, place_moved, unchanged}
use Rattle.cf_waits.proofs.Rises.{tested}
use Rattle.cf_waits.proofs.ask_lists.change_ask.Goals as goal

pub returns-then-place-len-clause-items : goal.returns-then-place-len-clause-items
returns-then-place-len-clause-items c =
    sym (unchanged ask_key (λ a. record a { owned = c.args.from.owned; ticks = c.args.ticks }) c.args.from.ask.key c.place_of-place.result c.args.asks.now.items c.requires
    (place_moved ask_key _ _ _ _ _ c.deref.ensures.value (ap (λ (a : Ask). a.key.number) c.ask.ensures) c.place_of-place.ensures) (λ d lt. absurd (omega (arith, c.if-place-len.true, c.len.ensures))))

pub returns-then-is_same_key-clause-items : goal.returns-then-is_same_key-clause-items
returns-then-is_same_key-clause-items c =
    let lt : c.place_of-place.result < length c.args.asks.now.items = omega (arith, c.if-place-len.false, c.len.ensures, c.place_of-place.ensures.in_range, ap length c.deref.ensures.value) in
    let x : Live = c.change_at.ensures.items.0 in
    let same : same_key c.args.from.ask.key c.index.result.now.ask.key ≡ true =
    ap (λ (k : Key). same_key k c.index.result.now.ask.key) (sym (ap (λ (a : Ask). a.key) c.ask.ensures)) ∙ tested c.ask.result.key _ c.index.result.now.ask.key c.is_same_key.result _ (ap (λ (a : Ask). a.key) c.ask-2.ensures) c.is_same_key.ensures c.if-is_same_key.true in
    c.change_at.ensures.items.2
    ∙ changes ask_key (λ a. record a { owned = c.args.from.owned; ticks = c.args.ticks }) c.args.from.ask.key c.place_of-place.result c.args.asks.now.items x c.requires
    (place_moved ask_key _ _ _ _ _ c.deref.ensures.value (ap (λ (a : Ask). a.key.number) c.ask.ensures) c.place_of-place.ensures) lt c.change_at.ensures.items.1
    (ap (λ (a : Live). same_key c.args.from.ask.key a.ask.key) (c.change_at.ensures.items.1 ∙ get_or_default c.args.asks.now.items c.place_of-place.result x c.index.result.now lt ∙ sym c.index.ensures) ∙ same)

pub returns-else-is_same_key-clause-items : goal.returns-else-is_same_key-clause-items
returns-else-is_same_key-clause-items c =
    sym (unchanged ask_key (λ a. record a { owned = c.args.from.owned; ticks = c.args.ticks }) c.args.from.ask.key c.place_of-place.result c.args.asks.now.items c.requires
    (place_moved ask_key _ _ _ _ _ c.deref.ensures.value (ap (λ (a : Ask). a.key.number) c.ask.ensures) c.place_of-place.ensures)
    (differs_there ask_key c.args.from.ask.key c.place_of-place.result c.args.asks.now.items c.index.result.now c.index.ensures
    (ap (λ (k : Key). same_key k c.index.result.now.ask.key) (sym (ap (λ (a : Ask). a.key) c.ask.ensures)) ∙ tested c.ask.result.key _ c.index.result.now.ask.key c.is_same_key.result _ (ap (λ (a : Ask). a.key) c.ask-2.ensures) c.is_same_key.ensures c.if-is_same_key.false)))
