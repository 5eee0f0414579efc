use Rattle.std.proofs.Common.{◌<◌, ◌+◌, ℕ, List, length, drop, get_or, sym, subst}
use Rattle.std.proofs.lemmas.List.{drop_more}
use Rattle.cf_volume_points.proofs.Droppings.{DropsFront, front_all, front_more, front_none}
use Rattle.cf_volume_points.specs.Staging.{names}
use Rattle.cf_volume_changes.proofs.Removed.{drop_all, named_at}
use Rattle.cf_volume_changes.proofs.removed_rows.drop_clusters.Goals as goal

pub loop-pair-init : goal.loop-pair-init
loop-pair-init c = front_none (names c.args.pairs.now) c.args.held.now

pub loop-pair-preserved : goal.loop-pair-preserved
loop-pair-preserved c =
    front_more (names c.args.pairs.now) (names (drop (c.loop-pair.pair-index + 1) c.args.pairs.now)) (get_or c.args.pairs.now c.loop-pair.pair-index (0, 0)).1 c.args.held.now c.loop-pair.held c.drop_block.new.self
    (subst (λ (n : ℕ). (get_or c.args.pairs.now c.loop-pair.pair-index (0, 0)).1 < n) (sym c.loop-pair.invariant.long) (named_at (length c.args.held.now) c.args.pairs.now c.loop-pair.pair-index (0, 0) c.loop-pair-test.true c.requires))
    c.drop_block.ensures
    (subst (λ (l : List (ℕ × ℕ)). DropsFront (names c.args.pairs.now) (names l) c.args.held.now c.loop-pair.held) (drop_more c.args.pairs.now c.loop-pair.pair-index (0, 0) c.loop-pair-test.true) c.loop-pair.invariant)

pub returns : goal.returns
returns c = front_all (names c.args.pairs.now) c.args.held.now c.loop-pair.held
    (subst (λ (l : List (ℕ × ℕ)). DropsFront (names c.args.pairs.now) (names l) c.args.held.now c.loop-pair.held) (drop_all c.loop-pair.pair-index c.args.pairs.now c.loop-pair-test.false) c.loop-pair.invariant)

pub drop_block-requires : goal.drop_block-requires
drop_block-requires c = subst (λ (n : ℕ). (get_or c.args.pairs.now c.loop-pair.pair-index (0, 0)).1 < n) (sym c.loop-pair.invariant.long) (named_at (length c.args.held.now) c.args.pairs.now c.loop-pair.pair-index (0, 0) c.loop-pair-test.true c.requires)
