use Rattle.std.proofs.Common.{arith}
use Rattle.cf_remote.proofs.ShelfChanges.{less_live, shelf_ended}
use Rattle.cf_remote.proofs.shelves.Shelf.end.Goals as goal

pub overflow_sub-self : goal.overflow_sub-self
overflow_sub-self c = omega (arith, c.self.invariant.lives, less_live c.self.inside.items.items c.args.rid c.args.changed c.self.invariant.indexed.is.counted (rw (← c.self.view_is) at c.requires))

pub invariant_of-self : goal.invariant_of-self
invariant_of-self c = shelf_ended c.self.inside.items.items c.self.inside.by_name c.self.inside.live c.self.inside.held c.self.invariant c.args.rid c.end_item.new.items.items c.end_item.new.by_name c.args.changed
    (rw (← c.self.view_is) at c.requires) c.end_item.ensures.ends c.end_item.ensures.index
