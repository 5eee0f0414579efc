use Rattle.std.proofs.Common.{lit<}
use Rattle.std.proofs.lemmas.Str.Pattern.{strip_prefix_char}
use Rattle.cf_tree.proofs.Cuts.{no_slash}
use Rattle.cf_tree.proofs.names.Names.of.Goals as goal

pub returns-in-None : goal.returns-in-None
returns-in-None c =
    let stripped = strip_prefix_char 47 c.args.path.now c.strip_prefix.result c.strip_prefix.ensures.cases (lit< tt) in
    no_slash c.args.path.now (rw c.in-None.is at stripped)
