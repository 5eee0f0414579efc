use Rattle.std.proofs.Common.{◌∙◌, List, ap, drop}
use Rattle.cf_collections.proofs.Spares.{drop_insert}
use Rattle.cf_collections.proofs.spare_lists.SpareList.insert.Goals as goal

pub returns-clause-ok : goal.returns-clause-ok
returns-clause-ok g c = rw (← c.self.view_is) (
    ap (λ (l : List _). drop c.self.inside.spare l) c.in_ok-insert.ensures.items ∙ drop_insert c.self.inside.places.items c.self.inside.spare c.args.place c.args.item c.self.invariant)
