use Rattle.std.proofs.Common.{◌∙◌, cond, not, sym}
use Rattle.cf_engine_provider.proofs.KnownTargets.{kind_of_targets}
use Rattle.cf_engine_provider.proofs.locals.is_of_kind_by.Goals as goal

pub returns : goal.returns
returns c = c.choose.ensures ∙ (λ j. cond c.args.entry.now.dir (not (c.holds-file.ensures j)) (not (c.holds-folder.ensures j))) ∙ sym (kind_of_targets c.args.files.now c.args.directories.now c.args.entry.now)
