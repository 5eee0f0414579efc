use Rattle.std.proofs.Common.{◌∙◌}
use Rattle.cf_model.proofs.NameLaws.{name_is}
use Rattle.cf_tree.proofs.NumberedNames.{parts_of}
use Rattle.cf_tree.proofs.paths.push_name.Goals as goal

pub returns-in-Err : goal.returns-in-Err
returns-in-Err c = λ named. absurd (c.in-Err.ensures.cases.0 (parts_of c.args.name.now (name_is c.args.name.now ∙ named)).utf8)
