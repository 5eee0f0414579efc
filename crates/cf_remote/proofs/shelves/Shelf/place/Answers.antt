use Rattle.cf_remote.proofs.ShelfChanges.{shelf_moved}
use Rattle.cf_remote.proofs.shelves.Shelf.place.Goals as goal

pub invariant_of-self : goal.invariant_of-self
invariant_of-self c = shelf_moved c.self.inside.items.items c.self.inside.by_name c.self.inside.live c.self.inside.held c.self.invariant c.args.rid c.move_item.new.items.items c.move_item.result c.move_item.new.by_name
    c.args.parent c.args.name c.args.changed c.move_item.ensures.ok c.move_item.ensures.err c.move_item.ensures.index (rw (← c.self.view_is) at c.requires.inside)
