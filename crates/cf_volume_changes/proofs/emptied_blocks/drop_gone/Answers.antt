use Rattle.std.proofs.Common.{ℕ, List, filter, not, ap, subst, ◌∙◌}
use Rattle.cf_volume_points.specs.Staging.{Drops}
use Rattle.cf_ranges.specs.Positions.{touches}
use Rattle.cf_volume_changes.specs.Laid.{may_be_gone}
use Rattle.cf_volume_changes.proofs.emptied_blocks.drop_gone.Goals as goal

pub returns : goal.returns
returns c = subst (λ (l : List ℕ). Drops l c.args.held.now c.drop_blocks.new.held c.args.extents.now c.drop_blocks.new.extents)
    (c.deref.ensures.value ∙ c.in_ok-gone.ensures ∙ ap (λ (l : List (ℕ × ℕ)). filter (λ b. not (touches c.args.here.now b)) (may_be_gone c.args.change.now c.args.blocks.now l)) c.pairs.ensures.value) c.drop_blocks.ensures
