use Rattle.cf_remote.proofs.Children.{children_apart}
use Rattle.cf_remote.proofs.shelves.Shelf.child.Goals as goal

pub returns-clause-apart : goal.returns-clause-apart
returns-clause-apart c = rw (← c.self.view_is) (children_apart c.self.inside.items.items c.self.inside.by_name c.self.invariant.indexed.ordered c.self.invariant.indexed.is c.args.rid)
