use Rattle.cf_remote.proofs.ShelfChanges.{shelf_trimmed}
use Rattle.cf_remote.proofs.shelves.Shelf.trim.Goals as goal

pub invariant_of-self : goal.invariant_of-self
invariant_of-self c = shelf_trimmed c.self.inside.items.items c.self.inside.by_name c.self.inside.live c.self.inside.held c.self.invariant c.trim_all-self-inside.new.items.items c.args.count c.trim_all-self-inside.result
    c.trim_all-self-inside.ensures.trims c.trim_all-self-inside.ensures.held c.trim_all-self-inside.ensures.within
