use Rattle.std.proofs.Common.{◌+◌, ◌-◌, length, arith, sym, ap, ◌∙◌}
use Rattle.cf_base.specs.declared.ids.Rid.{Rid}
use Rattle.cf_model.specs.Store.{stored_at}
use Rattle.cf_remote.specs.Depths.{depth_in}
use Rattle.cf_remote.proofs.Lines.{depth_more}
use Rattle.cf_remote.proofs.depths.depth_of.Goals as goal

pub loop-depth-preserved : goal.loop-depth-preserved
loop-depth-preserved c = record {
  within = omega arith;
  rest = rw c.parent-at.ensures (depth_more (length c.args.items.now - c.loop-depth.depth) (length c.args.items.now - (c.loop-depth.depth + 1)) c.loop-depth.depth (depth_in c.args.items.now c.args.rid)
      c.args.items.now (stored_at c.args.items.now c.loop-depth.at) c.in-Some.item.now c.loop-depth.invariant.rest (sym c.in-Some.ensures.there)
      (λ e. c.if-rid-eq1.false (ap (λ (r : Rid). r.0) c.rid.ensures ∙ e)) (omega arith));
}
