use Rattle.std.proofs.Common.{◌∙◌, [], ap, false, subst, sym}
use Rattle.cf_collections.specs.Split.{IsSplit, behind}
use Rattle.cf_remote.specs.Order.{PlaceIn, is_before}
use Rattle.cf_remote.proofs.Insides.{none_child, some_child}
use Rattle.cf_remote.proofs.Places.{part_of, split}
use Rattle.cf_remote.proofs.by_name.has_child.Goals as goal

pub from-requires : goal.from-requires
from-requires c = subst (λ (p : PlaceIn). IsSplit (is_before p) c.args.by_name.now) (sym c.of.ensures)
    (split c.args.items.now c.args.by_name.now c.requires.ordered (part_of c.args.items.now c.args.by_name.now c.requires.ordered c.requires.is) c.args.directory [] false)

pub returns-in-Some : goal.returns-in-Some
returns-in-Some c = c.is_inside.ensures ∙ some_child c.args.items.now c.args.by_name.now c.requires.ordered c.requires.is c.args.directory c.in-Some.rid.now c.next.new.self
    (sym (c.from.ensures ∙ ap (λ (p : PlaceIn). behind (is_before p) c.args.by_name.now) c.of.ensures) ∙ c.in-Some.ensures)

pub returns-in-None : goal.returns-in-None
returns-in-None c = none_child c.args.items.now c.args.by_name.now c.requires.ordered c.requires.is c.args.directory
    (sym (c.from.ensures ∙ ap (λ (p : PlaceIn). behind (is_before p) c.args.by_name.now) c.of.ensures) ∙ c.in-None.ensures)
