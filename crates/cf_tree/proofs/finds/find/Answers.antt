use Rattle.std.proofs.Common.{◌∙◌}
use Rattle.cf_tree.proofs.Walks.{find_is}
use Rattle.cf_tree.proofs.finds.find.Goals as goal

pub returns : goal.returns
returns c = λ items m t. c.look_up.ensures ∙ find_is c.args.rows.now.rows items c.args.path.now m t
