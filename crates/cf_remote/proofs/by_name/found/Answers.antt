use Rattle.std.proofs.Common.{◌∙◌, ap, false, subst, sym}
use Rattle.std.specs.Ordering.{is_eq}
use Rattle.cf_collections.specs.Split.{IsSplit, behind}
use Rattle.cf_remote.specs.Order.{PlaceIn, is_before}
use Rattle.cf_remote.proofs.Places.{first_none, first_some, first_there, part_of, split}
use Rattle.cf_remote.proofs.by_name.found.Goals as goal

pub from-requires : goal.from-requires
from-requires c = subst (λ (p : PlaceIn). IsSplit (is_before p) c.args.by_name.now) (sym c.of.ensures)
    (split c.args.items.now c.args.by_name.now c.requires.ordered (part_of c.args.items.now c.args.by_name.now c.requires.ordered c.requires.is) c.args.parent c.args.name.now false)

pub returns-in_err-rid : goal.returns-in_err-rid
returns-in_err-rid c ordered is = rw c.from_residual.ensures (first_none c.args.items.now c.args.by_name.now ordered (part_of c.args.items.now c.args.by_name.now ordered is) c.args.parent c.args.name.now false
    (sym (c.from.ensures ∙ ap (λ (p : PlaceIn). behind (is_before p) c.args.by_name.now) c.of.ensures) ∙ c.in_err-rid.ensures))

pub returns-in_err-item : goal.returns-in_err-item
returns-in_err-item c ordered is = absurd (first_there c.args.items.now c.args.by_name.now ordered (part_of c.args.items.now c.args.by_name.now ordered is) c.args.parent c.args.name.now false
    c.in_ok-rid.rid.now c.next.new.self (sym (c.from.ensures ∙ ap (λ (p : PlaceIn). behind (is_before p) c.args.by_name.now) c.of.ensures) ∙ c.in_ok-rid.ensures) c.in_err-item.ensures.there)

pub returns-then-is_eq : goal.returns-then-is_eq
returns-then-is_eq c ordered is = (first_some c.args.items.now c.args.by_name.now ordered (part_of c.args.items.now c.args.by_name.now ordered is) c.args.parent c.args.name.now false
    c.in_ok-rid.rid.now c.next.new.self c.in_ok-item.item.now (sym (c.from.ensures ∙ ap (λ (p : PlaceIn). behind (is_before p) c.args.by_name.now) c.of.ensures) ∙ c.in_ok-rid.ensures) c.in_ok-item.ensures.there).0
    (sym (c.is_eq.ensures ∙ ap is_eq c.compared.ensures) ∙ c.if-is_eq.true)

pub returns-else-is_eq : goal.returns-else-is_eq
returns-else-is_eq c ordered is = (first_some c.args.items.now c.args.by_name.now ordered (part_of c.args.items.now c.args.by_name.now ordered is) c.args.parent c.args.name.now false
    c.in_ok-rid.rid.now c.next.new.self c.in_ok-item.item.now (sym (c.from.ensures ∙ ap (λ (p : PlaceIn). behind (is_before p) c.args.by_name.now) c.of.ensures) ∙ c.in_ok-rid.ensures) c.in_ok-item.ensures.there).1
    (sym (c.is_eq.ensures ∙ ap is_eq c.compared.ensures) ∙ c.if-is_eq.false)
