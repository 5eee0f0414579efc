use Rattle.std.proofs.Common.{◌∙◌, ap, arith, length}
use Rattle.cf_tree.proofs.WayUp.{line_is}
use Rattle.cf_tree.proofs.lines.depth_of.Goals as goal

pub returns : goal.returns
returns c = record {
  depth = λ items m t. c.line_of.ensures.depth ∙ ap length (line_is 32 c.args.rows.now.rows items c.args.id m t (omega arith));
  small = c.line_of.ensures.small;
}
