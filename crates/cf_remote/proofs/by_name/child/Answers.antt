use Rattle.std.specs.Prelude.{option_copied}
use Rattle.cf_remote.proofs.Children.{child_found}
use Rattle.cf_remote.proofs.by_name.child.Goals as goal

pub returns : goal.returns
returns c = child_found c.args.items.now c.args.by_name.now c.requires.ordered c.requires.is c.args.parent c.args.name.now (option_copied c.found.result) (c.found.ensures c.requires.ordered c.requires.is)
