use Rattle.std.proofs.Common.{◌∙◌, List, ap, subst, sym}
use Rattle.std.specs.Prelude.{All}
use Rattle.cf_base.specs.declared.spans.Span.{Span}
use Rattle.cf_base.specs.declared.waits.Ask.{Ask}
use Rattle.cf_ask_rule.proofs.Joined.{drop_at, more_small, owned_more, owned_skipped}
use Rattle.cf_ask_rule.proofs.asks.spans_owned.Goals as goal
use Rattle.cf_ask_rule.proofs.asks.spans_owned.Goals.{then-ask-item+in_ok-extend_from_slice, else-ask-item}
use Rattle.cf_ask_rule.specs.Unions.{IsSmall}

pub loop-a-preserved : goal.loop-a-preserved
loop-a-preserved c =
    let rest = drop_at c.args.asks.now c.loop-a.a-index c.a-item.result c.loop-a-test.true c.a-item.is in
    elim c.if-ask-item.branch [
      | then-ask-item+in_ok-extend_from_slice w ↦
          let more = ap (λ v. v.items) w.spans-is ∙ w.in_ok-extend_from_slice.ensures.items in
          record {
            owned = owned_more c.args.item c.a-item.result c.args.asks.now c.loop-a.a-index c.loop-a.spans.items w.runs.result.now c.if-ask-item.spans.items more rest (ap (λ (a : Ask). a.item.0) (sym c.ask.ensures) ∙ w.if-ask-item.true) w.runs.ensures.blocks c.loop-a.invariant.owned;
            small = subst (λ (v : List Span). All IsSmall v) (sym more) (more_small c.loop-a.spans.items w.runs.result.now c.loop-a.invariant.small w.runs.ensures.maximal);
          }
      | else-ask-item w ↦
          let same = ap (λ v. v.items) w.spans-is in
          record {
            owned = owned_skipped c.args.item c.a-item.result c.args.asks.now c.loop-a.a-index c.loop-a.spans.items c.if-ask-item.spans.items same rest (λ e. w.if-ask-item.false (ap (λ (a : Ask). a.item.0) c.ask.ensures ∙ e)) c.loop-a.invariant.owned;
            small = subst (λ (v : List Span). All IsSmall v) (sym same) c.loop-a.invariant.small;
          }
    ]
