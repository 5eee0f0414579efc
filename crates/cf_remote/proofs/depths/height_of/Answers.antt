use Rattle.std.proofs.Common.{sym, ◌∙◌}
use Rattle.cf_remote.proofs.Directories.{no_height}
use Rattle.cf_remote.proofs.depths.height_of.Goals as goal

pub returns-then-not-is_directory-clause-height : goal.returns-then-not-is_directory-clause-height
returns-then-not-is_directory-clause-height c =
    no_height c.args.items.now c.requires.counted c.requires.directories c.args.rid (sym c.is_directory.ensures ∙ c.if-not-is_directory.true)
