use Rattle.std.proofs.Common.{◌≡◌, ◌∙◌, List, Result, Ok, Err, is_ok, cond, false, subst, true}
use Rattle.std.specs.Result.{IsOk}
use Rattle.cf_waits.specs.Books.{IsPlaceOf}
use Rattle.cf_waits.specs.declared.entries.Entry.{Entry}
use Rattle.cf_waits.proofs.InIndex.{insert_is_put}
use Rattle.cf_waits.proofs.entries.add_entry.Goals as goal

pub returns-clause-items : goal.returns-clause-items
returns-clause-items c =
    inserted c.insert.result _ _ _ (c.insert.ensures.succeeds c.requires.room) c.insert.ensures.items
    ∙ insert_is_put c.args.entry c.args.entries.now.items c.place_of-place.result
    (subst (λ (l : List Entry). IsPlaceOf c.args.entry l c.place_of-place.result) c.deref.ensures.value c.place_of-place.ensures) where
      inserted : {E : Type 0} (r : Result (Unit {0}) E) (xs ys zs : List Entry) → IsOk r → xs ≡ cond (is_ok r) ys zs → xs ≡ ys
      inserted (Ok x) xs ys zs h e = e
      inserted (Err x) xs ys zs h e = let z : false ≡ true = h in cc
