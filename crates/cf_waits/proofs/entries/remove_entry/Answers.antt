use Rattle.std.proofs.Common.{◌∙◌, List, ap, arith, length, subst, sym}
use Rattle.std.specs.Ordering.{is_eq}
use Rattle.cf_waits.specs.Books.{IsPlaceOf, compared}
use Rattle.cf_waits.specs.declared.entries.Entry.{Entry}
use Rattle.cf_waits.proofs.InIndex.{none_removed, entry_removed}
use Rattle.cf_waits.proofs.entries.remove_entry.Goals as goal

pub returns-then-place-len-clause-items : goal.returns-then-place-len-clause-items
returns-then-place-len-clause-items c =
    sym (none_removed c.args.entry c.args.entries.now.items c.place_of-place.result c.args.entry c.requires
    (subst (λ (l : List Entry). IsPlaceOf c.args.entry l c.place_of-place.result) c.deref.ensures.value c.place_of-place.ensures)
    (λ lt. absurd (omega (arith, ap length c.deref.ensures.value))))

pub returns-then-is_eq-clause-items : goal.returns-then-is_eq-clause-items
returns-then-is_eq-clause-items c =
    c.remove.ensures.items
    ∙ entry_removed c.args.entry c.args.entries.now.items c.place_of-place.result c.index.result.now c.requires
    (subst (λ (l : List Entry). IsPlaceOf c.args.entry l c.place_of-place.result) c.deref.ensures.value c.place_of-place.ensures) (omega (arith, ap length c.deref.ensures.value))
    (ap (λ (e : Entry). is_eq (compared e c.args.entry)) (sym c.index.ensures) ∙ ap is_eq (sym c.order.ensures) ∙ sym c.is_eq.ensures ∙ c.if-is_eq.true)

pub returns-else-is_eq-clause-items : goal.returns-else-is_eq-clause-items
returns-else-is_eq-clause-items c =
    sym (none_removed c.args.entry c.args.entries.now.items c.place_of-place.result c.index.result.now c.requires
    (subst (λ (l : List Entry). IsPlaceOf c.args.entry l c.place_of-place.result) c.deref.ensures.value c.place_of-place.ensures)
    (λ lt. ap (λ (e : Entry). is_eq (compared e c.args.entry)) (sym c.index.ensures) ∙ ap is_eq (sym c.order.ensures) ∙ sym c.is_eq.ensures ∙ c.if-is_eq.false))
