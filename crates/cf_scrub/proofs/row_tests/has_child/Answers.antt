use Rattle.std.proofs.Common.{arith}
use Rattle.cf_scrub.proofs.Children.{children_are}
use Rattle.cf_scrub.proofs.row_tests.has_child.Goals as goal

pub returns : goal.returns
returns c =
    children_are c.args.rows.now.rows c.args.id c.in_ok-children.children.items _ c.is_empty.result c.in_ok-children.ensures (omega (arith, c.in_ok-children.children.ok)) c.is_empty.ensures
