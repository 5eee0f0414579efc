use Rattle.std.proofs.Common.{◌<◌, ◌^◌, ◌≡◌, ◌∙◌, List, ap, arith, get_or, length, length-drop, refl, set, sym}
use Rattle.std.proofs.lemmas.List.{drop-set-add, get_or-drop}
use Rattle.cf_collections.proofs.spare_lists.SpareList.item_mut.Goals as goal

pub returns : goal.returns
returns g c =
    let few : length c.args.self.now < 2 ^ 63 =
    omega (arith, c.self.inside.places.ok, ap (λ (l : List _). length l) c.self.view_is, length-drop c.self.inside.spare c.self.inside.places.items) in
    let value : c.index_mut.result.now ≡ get_or c.args.self.now c.args.place c.index_mut.result.now =
    c.index_mut.ensures.value ∙ sym (get_or-drop c.self.inside.spare c.self.inside.places.items c.args.place c.index_mut.result.now)
    ∙ ap (λ (l : List _). get_or l c.args.place c.index_mut.result.now) c.self.view_is in
    ((refl, λ w. drop-set-add c.self.inside.spare c.self.inside.places.items c.args.place w ∙ ap (λ (l : List _). set l c.args.place w) c.self.view_is), record { lends = tt; value = value; few = few })
