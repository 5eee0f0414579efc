use Rattle.std.proofs.Common.{drop}
use Rattle.cf_volume_image.specs.Sets.{HaveBytes}
use Rattle.cf_volume_image.proofs.blocks.have_bytes.Given as goal

abbrev pub invariant-loop-pair : goal.invariant-loop-pair
invariant-loop-pair l = record {
  to : HaveBytes (drop l.pair-index l.pairs) l.here → HaveBytes l.pairs l.here;
  from : HaveBytes l.pairs l.here → HaveBytes (drop l.pair-index l.pairs) l.here;
}
