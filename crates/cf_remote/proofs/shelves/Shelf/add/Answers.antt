use Rattle.cf_remote.proofs.ShelfChanges.{shelf_more}
use Rattle.cf_remote.proofs.shelves.Shelf.add.Goals as goal

pub invariant_of-self-2 : goal.invariant_of-self-2
invariant_of-self-2 c =
    shelf_more c.self.inside.items.items c.self.inside.by_name c.self.inside.live c.self.inside.held c.self.invariant c.args.item c.add_item.new.items.items c.add_item.new.by_name c.held_len.result
    c.requires.live c.held_len.ensures (rw (← c.self.view_is) at c.requires.fits) (rw (← c.self.view_is) at c.requires.inside) c.in_ok-add_item.ensures.ok c.add_item.ensures.index
