use Rattle.std.proofs.Common.{◌∙◌, ap, sym}
use Rattle.cf_model.specs.LookUp.{find_path}
use Rattle.cf_tree.proofs.PathsBack.{leads_back}
use Rattle.cf_tree.proofs.paths.path_of.Goals as goal

pub returns : goal.returns
returns c = λ items i names m t opened e.
    ap (find_path items) (c.in_ok-from_str-2.ensures ∙ c.as_str.ensures.value ∙ c.in_ok-path.ensures names) ∙ leads_back c.args.rows.now.rows items c.args.id i m t opened names e (sym c.eq.ensures ∙ c.if-eq.false)
