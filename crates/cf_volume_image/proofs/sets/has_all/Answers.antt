use Rattle.std.proofs.Common.{◌≡◌, List, arith, false, get_or, refl, subst, sym, true}
use Rattle.cf_base.specs.declared.spans.Span.{Span}
use Rattle.cf_volume_image.specs.Sets.{HasAll}
use Rattle.cf_volume_image.proofs.Loops.{drop_end, drop_get}
use Rattle.cf_volume_image.proofs.SetTests.{all_cons, all_first, all_rest, none_inside}
use Rattle.cf_volume_image.proofs.sets.has_all.Goals as goal

pub returns-then-not-has_span : goal.returns-then-not-has_span
returns-then-not-has_span c = (
  λ z. let w : false ≡ true = z in absurd cc,
  λ all. c.if-not-has_span.ensures.1 (all_first c.args.outer.now _ (get_or c.args.inner.now c.loop-run.run-index (record { start = 0; len = 0 }))
      (subst (λ (l : List Span). HasAll c.args.outer.now l) (drop_get c.args.inner.now c.loop-run.run-index (record { start = 0; len = 0 }) c.loop-run-test.true) (c.loop-run.invariant.from all))),
)

pub loop-run-preserved : goal.loop-run-preserved
loop-run-preserved c =
    let is = drop_get c.args.inner.now c.loop-run.run-index (record { start = 0; len = 0 }) c.loop-run-test.true in
    record {
      to = λ rest. c.loop-run.invariant.to (subst (λ (l : List Span). HasAll c.args.outer.now l) (sym is)
          (all_cons c.args.outer.now _ (get_or c.args.inner.now c.loop-run.run-index (record { start = 0; len = 0 })) (c.has_span.ensures.0 c.if-not-has_span.false) rest));
      from = λ all. all_rest c.args.outer.now _ (get_or c.args.inner.now c.loop-run.run-index (record { start = 0; len = 0 }))
          (subst (λ (l : List Span). HasAll c.args.outer.now l) is (c.loop-run.invariant.from all));
    }

pub returns : goal.returns
returns c = (λ yes. c.loop-run.invariant.to (none_inside c.args.outer.now _ (drop_end c.args.inner.now c.loop-run.run-index (omega arith))), λ all. refl)
