use Rattle.std.proofs.Common.{◌∙◌, ap, false, subst, sym}
use Rattle.cf_collections.specs.Split.{IsSplit}
use Rattle.cf_remote.specs.Order.{PlaceIn, gone_at, is_before}
use Rattle.cf_remote.proofs.Entering.{left_is}
use Rattle.cf_remote.proofs.Places.{part_of, split}
use Rattle.cf_remote.proofs.changes.leave.Goals as goal

pub remove-requires : goal.remove-requires
remove-requires c = subst (λ (p : PlaceIn). IsSplit (is_before p) c.args.by_name.now) (sym c.of.ensures)
    (split c.args.items.now c.args.by_name.now c.requires.index.ordered (part_of c.args.items.now c.args.by_name.now c.requires.index.ordered c.requires.index.is) c.parent.result c.name.result.now false)

pub returns : goal.returns
returns c ordered is = c.remove.ensures ∙ ap (λ (p : PlaceIn). gone_at p c.args.by_name.now) c.of.ensures
    ∙ left_is c.args.items.now c.args.by_name.now ordered is c.args.rid c.in-Some.item.now c.parent.result c.name.result.now c.in-Some.ensures.there c.requires.live c.parent.ensures c.name.ensures
