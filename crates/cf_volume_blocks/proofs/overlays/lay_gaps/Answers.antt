use Rattle.std.proofs.Common.{◌≡◌, ◌≤◌, ℕ, suc, ◌+◌, ◌-◌, refl, ap, arith, take, drop, length, get_or}
use Rattle.std.proofs.lemmas.List.Elements.{All-get_or}
use Rattle.cf_base.specs.declared.spans.Span.{Span}
use Rattle.cf_volume_blocks.proofs.Laid.{gap_more}
use Rattle.cf_volume_blocks.proofs.overlays.lay_gaps.Goals as goal

pub loop-gap-preserved : goal.loop-gap-preserved
loop-gap-preserved c =
    let none : Span = record { start = 0; len = 0 } in
    let g : Span = get_or c.args.gaps.now c.loop-gap.gap-index none in
    let from : ℕ = g.start - c.args.start in
    let same : from + g.len - from ≡ g.len = omega arith in
    let next : c.loop-gap.gap-index + 1 ≡ suc c.loop-gap.gap-index = omega arith in
    gap_more c.args.gaps.now c.loop-gap.gap-index (c.loop-gap.gap-index + 1) g none c.args.number c.args.start c.args.bytes.now (take (from + g.len - from) (drop from c.args.bytes.now)) c.args.block.now c.loop-gap.block c.lay.new.block
    next c.loop-gap-test.true refl (All-get_or (λ (s : Span). (c.args.start ≤ s.start) × (s.start + s.len ≤ c.args.start + length c.args.bytes.now)) c.args.gaps.now c.loop-gap.gap-index none c.loop-gap-test.true c.requires.inside)
    (ap (λ (n : ℕ). take n (drop from c.args.bytes.now)) same) c.loop-gap.invariant c.lay.ensures
