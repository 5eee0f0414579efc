use Rattle.std.proofs.Common.{◌≡◌, ◌<◌, ◌+◌, ℕ, List, filter, sym, ◌∙◌, ap, subst}
use Rattle.cf_volume_blocks.proofs.Puts.{if_ok_map, touched_lack}
use Rattle.cf_model.specs.Blocks.{blocks_of}
use Rattle.cf_ranges.specs.Positions.{IsMissing, IsRuns, touches}
use Rattle.cf_volume_blocks.proofs.blocks.lacking.Goals as goal

pub returns : goal.returns
returns c = if_ok_map c.touched.result (λ v is held size same.
    let gaps_are : c.in-Some.gaps ≡ c.in_ok-gaps.gaps.items = c.in-Some.ensures.some in
    is ∙ ap (λ (l : List ℕ). filter (touches c.in-Some.gaps) l) (c.deref.ensures.value ∙ c.in_ok-blocks.ensures)
    ∙ touched_lack c.args.row.now.here c.in-Some.gaps c.part_below.result c.args.start (c.args.start + c.args.len) held same
    (subst IsRuns (sym gaps_are) c.in_ok-gaps.ensures.maximal) (subst (IsMissing c.args.row.now.here c.part_below.result) (sym gaps_are) c.in_ok-gaps.ensures.missing)
    (λ p e. let h = c.part_below.ensures.inside p e in (h.0, h.1, subst (λ (n : ℕ). p < n) size h.2))
    (λ p a b l. c.part_below.ensures.covers p a b (subst (λ (n : ℕ). p < n) (sym size) l)) (blocks_of c.args.start c.args.len)) c.touched.ensures
