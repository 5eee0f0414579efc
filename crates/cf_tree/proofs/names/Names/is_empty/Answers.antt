use Rattle.std.proofs.Common.{◌∙◌, ap}
use Rattle.cf_model.specs.Words.{is_empty}
use Rattle.cf_tree.proofs.Cuts.{is_none_left}
use Rattle.cf_tree.proofs.names.Names.is_empty.Goals as goal

pub returns : goal.returns
returns c = is_none_left c.self.inside.left c.is_none.result c.is_none.ensures ∙ ap is_empty c.self.view_is
