use Rattle.std.proofs.Common.{◌∙◌, ap}
use Rattle.cf_tree.specs.Parts.{is_name_of_text}
use Rattle.cf_tree.proofs.Cuts.{text_name}
use Rattle.cf_tree.proofs.names.is_name.Goals as goal

pub returns : goal.returns
returns c = c.is_name_of_text.ensures ∙ ap is_name_of_text c.as_bytes.ensures.value ∙ text_name c.args.text.now c.utf8.text
