use Rattle.std.proofs.Common.{◌∙◌, ap, sym}
use Rattle.cf_model.specs.Words.{is_empty}
use Rattle.cf_tree.proofs.Walks.{below_is, root_is_bad}
use Rattle.cf_tree.proofs.finds.find_below.Goals as goal

pub returns-then-is_empty : goal.returns-then-is_empty
returns-then-is_empty c = λ items m t. root_is_bad items c.args.path.now (ap is_empty (sym c.of.ensures) ∙ sym c.is_empty.ensures ∙ c.if-is_empty.true)

pub returns : goal.returns
returns c = λ items m t. c.look_up.ensures ∙ below_is c.args.rows.now.rows items c.args.path.now (ap is_empty (sym c.of.ensures) ∙ sym c.is_empty.ensures ∙ c.if-is_empty.false) m t
