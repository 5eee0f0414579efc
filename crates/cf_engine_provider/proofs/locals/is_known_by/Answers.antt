use Rattle.std.proofs.Common.{◌∙◌, ◌||◌, sym}
use Rattle.cf_engine_provider.proofs.KnownTargets.{known_of_targets}
use Rattle.cf_engine_provider.proofs.locals.is_known_by.Goals as goal

pub returns : goal.returns
returns c = c.either.ensures ∙ (λ j. c.holds-file.ensures j || c.holds-folder.ensures j) ∙ sym (known_of_targets c.args.files.now c.args.directories.now c.args.rid)
