use Rattle.std.proofs.Common.{◌≤◌, ◌+◌, List, length, subst, sym}
use Rattle.std.specs.Prelude.{All}
use Rattle.cf_base.specs.declared.spans.Span.{Span}
use Rattle.cf_volume_blocks.proofs.Laid.{filled_block, gaps_inside}
use Rattle.cf_volume_blocks.specs.Bytes.{LaysIn}
use Rattle.cf_volume_blocks.proofs.overlays.lay_filled.Goals as goal

pub lay_gaps-requires-clause-inside : goal.lay_gaps-requires-clause-inside
lay_gaps-requires-clause-inside c = subst (λ (l : List Span). All (λ (g : Span). (c.args.start ≤ g.start) × (g.start + g.len ≤ c.args.start + length c.args.bytes.now)) l) (sym c.deref.ensures.value)
    (gaps_inside c.args.start (c.args.start + length c.args.bytes.now) c.args.here.now c.in_ok-gaps.gaps.items c.part_in.result c.in_ok-gaps.ensures.maximal c.in_ok-gaps.ensures.missing c.part_in.ensures.inside)

pub returns-clause-holds : goal.returns-clause-holds
returns-clause-holds c = λ held same before. filled_block c.args.number c.args.start c.args.bytes.now c.args.block.now c.lay_gaps.new.block c.args.here.now c.in_ok-gaps.gaps.items c.part_in.result held same c.part_in.ensures.covers c.in_ok-gaps.ensures.missing
    (subst (λ (l : List Span). LaysIn l c.args.number c.args.start c.args.bytes.now c.args.block.now c.lay_gaps.new.block) c.deref.ensures.value c.lay_gaps.ensures) before
