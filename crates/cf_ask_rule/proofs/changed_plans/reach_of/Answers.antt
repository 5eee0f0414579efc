use Rattle.std.proofs.Common.{ap, arith}
use Rattle.cf_base.specs.declared.spans.Span.{Span}
use Rattle.cf_ask_rule.proofs.Narrow.{more_within}
use Rattle.cf_ask_rule.proofs.changed_plans.reach_of.Goals as goal

pub loop-e-preserved : goal.loop-e-preserved
loop-e-preserved c = record {
  start = omega (arith, c.min-start.ensures, c.loop-e.invariant.start);
  end = omega (arith, c.max-end.ensures, c.loop-e.invariant.end);
  within = more_within c.args.v.now c.loop-e.start c.loop-e.end c.min-start.result c.max-end.result c.loop-e.e-index c.args.ended.now c.e-item.result (omega (arith, c.min-start.ensures)) (omega (arith, c.max-end.ensures)) c.loop-e-test.true c.e-item.is (omega (arith, c.min-start.ensures, ap (λ (s : Span). s.start) c.needed-span.ensures), omega (arith, c.max-end.ensures, c.min.ensures, c.saturating_add.ensures, ap (λ (s : Span). s.start) c.needed-span.ensures, ap (λ (s : Span). s.len) c.needed-span.ensures)) c.loop-e.invariant.within;
}
