use Rattle.std.proofs.Common.{◌+◌, ◌-◌, ◌++◌, ◌∷◌, [], ◌∙◌, ap, sym, append_assoc, arith}
use Rattle.cf_ranges.proofs.OwnedSets.{counting_push}
use Rattle.cf_ranges.proofs.claims.push_blocks.Goals as goal

pub loop-block-preserved : goal.loop-block-preserved
loop-block-preserved c = record {
  pushed = c.in-Ok.ensures.items ∙ ap (λ v. v ++ c.loop-block.block ∷ []) c.loop-block.invariant.pushed ∙ append_assoc c.args.owned.now.items _ _
      ∙ ap (λ v. c.args.owned.now.items ++ v) (sym (counting_push c.args.blocks.start (c.loop-block.block - c.args.blocks.start) (c.loop-block.block + 1 - c.args.blocks.start) c.loop-block.block (omega arith) (omega arith)));
  len = c.loop-block.invariant.len;
}
