use Rattle.std.proofs.Common.{◌∙◌, List, ap, drop}
use Rattle.cf_collections.proofs.Spares.{drop_remove}
use Rattle.cf_collections.proofs.spare_lists.SpareList.remove_behind.Goals as goal

pub returns-clause-items : goal.returns-clause-items
returns-clause-items g c = rw (← c.self.view_is) (
    ap (λ (l : List _). drop c.self.inside.spare l) c.remove.ensures.items ∙ drop_remove c.self.inside.places.items c.self.inside.spare c.args.place c.self.invariant)
