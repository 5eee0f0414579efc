use Rattle.std.proofs.Common.{◌∙◌, List, Ok, ap, sym, ℕ}
use Rattle.cf_base.specs.Names as names
use Rattle.cf_model.specs.LookUp.{names_of}
use Rattle.cf_model.proofs.NameLaws.{name_is}
use Rattle.cf_tree.specs.Steps.{told}
use Rattle.cf_tree.proofs.Walks.{place_is_named, place_of_is}
use Rattle.cf_tree.proofs.finds.find_parent.Goals as goal

pub name_of-requires : goal.name_of-requires
name_of-requires c = ap names.is_name c.as_bytes.ensures.value ∙ sym (name_is c.in-Ok.name.now) ∙ place_is_named c.args.rows.now.rows (names_of c.args.path.now) (c.in-Ok.parent, c.in-Ok.name.now) (sym c.place.ensures ∙ ap told c.in-Ok.is)

pub returns-in_ok-name-in-Ok-clause-place : goal.returns-in_ok-name-in-Ok-clause-place
returns-in_ok-name-in-Ok-clause-place c = λ items m t.
    sym (place_of_is c.args.rows.now.rows items c.args.path.now m t) ∙ sym c.place.ensures ∙ ap told c.in-Ok.is ∙ ap (λ (v : List ℕ). Ok (c.in-Ok.parent, v)) (sym (c.in_ok-name-in-Ok.ensures ∙ c.as_bytes.ensures.value))

pub returns-in-Err-clause-place : goal.returns-in-Err-clause-place
returns-in-Err-clause-place c = λ items m t. sym (place_of_is c.args.rows.now.rows items c.args.path.now m t) ∙ sym c.place.ensures ∙ ap told c.in-Err.is

pub returns-in_ok-name-in-Ok-clause-named : goal.returns-in_ok-name-in-Ok-clause-named
returns-in_ok-name-in-Ok-clause-named c =
    ap names.is_name (c.in_ok-name-in-Ok.ensures ∙ c.as_bytes.ensures.value) ∙ sym (name_is c.in-Ok.name.now)
    ∙ place_is_named c.args.rows.now.rows (names_of c.args.path.now) (c.in-Ok.parent, c.in-Ok.name.now) (sym c.place.ensures ∙ ap told c.in-Ok.is)
