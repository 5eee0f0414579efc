use Rattle.std.proofs.Common.{◌+◌, ◌-◌, length, arith, sym, ap, ◌∙◌}
use Rattle.cf_base.specs.declared.ids.Rid.{Rid}
use Rattle.cf_model.specs.Store.{stored_at}
use Rattle.cf_remote.proofs.Lines.{under_more}
use Rattle.cf_remote.proofs.depths.is_under.Goals as goal

pub loop-steps-preserved : goal.loop-steps-preserved
loop-steps-preserved c = record {
  within = omega arith;
  rest = rw c.parent-at.ensures (under_more (length c.args.items.now - c.loop-steps.steps) (length c.args.items.now - (c.loop-steps.steps + 1))
      c.args.items.now (stored_at c.args.items.now c.loop-steps.at) c.in-Some.item.now c.args.top.0 (sym c.in-Some.ensures.there)
      (λ e. c.if-rid-eq1.false (ap (λ (r : Rid). r.0) c.rid.ensures ∙ e)) (omega arith) (λ e. c.if-rid-top.false (ap (λ (r : Rid). r.0) c.rid-in-loop-steps.ensures ∙ e))
      ∙ c.loop-steps.invariant.rest);
}
