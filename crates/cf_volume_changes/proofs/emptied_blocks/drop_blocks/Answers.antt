use Rattle.std.proofs.Common.{◌≡◌, ℕ, ◌+◌, suc, arith, ap, subst, ◌∙◌, sym, List, [], ◌∷◌, ◌++◌, take, get_or}
use Rattle.std.proofs.lemmas.List.{take_all}
use Rattle.cf_volume_points.proofs.Droppings.{drops_inside, drops_more, drops_none}
use Rattle.cf_volume_points.specs.Staging.{Drops}
use Rattle.cf_volume_changes.proofs.Removed.{take_next}
use Rattle.cf_volume_changes.proofs.emptied_blocks.drop_blocks.Goals as goal

pub loop-number-init : goal.loop-number-init
loop-number-init c = drops_none c.args.held.now c.args.extents.now c.pairs.ensures.rising

pub loop-number-preserved : goal.loop-number-preserved
loop-number-preserved c =
    let next : c.loop-number.number-index + 1 ≡ suc c.loop-number.number-index = omega arith in
    let shape : take (c.loop-number.number-index + 1) c.args.blocks.now ≡ take c.loop-number.number-index c.args.blocks.now ++ get_or c.args.blocks.now c.loop-number.number-index 0 ∷ []
    = ap (λ (n : ℕ). take n c.args.blocks.now) next ∙ take_next c.args.blocks.now c.loop-number.number-index 0 c.loop-number-test.true in
    subst (λ (l : List ℕ). Drops l c.args.held.now c.drop_extent.new.held c.args.extents.now c.drop_extent.new.extents) (sym shape)
    (drops_more (take c.loop-number.number-index c.args.blocks.now) _ c.args.held.now c.loop-number.held c.drop_extent.new.held c.args.extents.now c.loop-number.extents c.drop_extent.new.extents
    (drops_inside (take c.loop-number.number-index c.args.blocks.now) c.args.held.now c.loop-number.held c.args.extents.now c.loop-number.extents c.requires c.loop-number.invariant) c.loop-number.invariant c.drop_extent.ensures)

pub returns : goal.returns
returns c = subst (λ (l : List ℕ). Drops l c.args.held.now c.loop-number.held c.args.extents.now c.loop-number.extents) (take_all c.loop-number.number-index c.args.blocks.now c.loop-number-test.false) c.loop-number.invariant

pub drop_extent-requires : goal.drop_extent-requires
drop_extent-requires c = drops_inside (take c.loop-number.number-index c.args.blocks.now) c.args.held.now c.loop-number.held c.args.extents.now c.loop-number.extents c.requires c.loop-number.invariant
