use Rattle.std.proofs.Common.{◌+◌, ◌∙◌, ap, drop, set}
use Rattle.std.proofs.lemmas.List.{drop-set-add}
use Rattle.cf_collections.proofs.spare_lists.SpareList.replace.Goals as goal

pub returns-clause-items : goal.returns-clause-items
returns-clause-items g c = rw (← c.self.view_is) (
    ap (λ (a : _). drop c.self.inside.spare (set c.self.inside.places.items (c.self.inside.spare + c.args.place) a)) c.replace.ensures.after
    ∙ drop-set-add c.self.inside.spare c.self.inside.places.items c.args.place c.args.item)
