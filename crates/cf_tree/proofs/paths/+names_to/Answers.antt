use Rattle.std.proofs.Common.{◌≡◌, ◌-◌, ◌++◌, ◌∷◌, ◌∙◌, None, Option, Some, ap, arith, eqb, suc, sym, true, ℕ}
use denote.Ref.{Bor}
use Rattle.std.specs.Prelude.{option_copied}
use Rattle.std.proofs.lemmas.Bool.{cond-false, cond-true}
use Rattle.cf_base.specs.Names.{is_name}
use Rattle.cf_table.specs.Tables.{row_of}
use Rattle.cf_table.specs.declared.rows.Row.{Row}
use Rattle.cf_tree.specs.Lines.{name_in, parent_in, path_in}
use Rattle.cf_tree.proofs.PathsBack.{ends_at_root, goes_down, no_names}
use Rattle.cf_tree.proofs.paths.+names_to.Goals as goal

pub returns-then-most-eq0 : goal.returns-then-most-eq0
returns-then-most-eq0 t c = λ names. c.new.ensures.bytes ∙ sym (ap (λ (n : ℕ). path_in n c.args.rows.now.rows c.args.id) c.if-most-eq0.true ∙ no_names c.args.rows.now.rows c.args.id)

pub returns-in_default : goal.returns-in_default
returns-in_default t c = λ names.
    let none : parent_in (row_of c.args.rows.now.rows c.args.id) ≡ None = ap parent_in (sym c.get.ensures ∙ ap (λ (o : Option (Bor Row)). option_copied o) c.in_default.is) in
    c.new-in_default.ensures.bytes ∙ sym (ends_at_root c.args.most c.args.rows.now.rows c.args.id none)

pub returns-then-eq : goal.returns-then-eq
returns-then-eq t c = λ names.
    let here : row_of c.args.rows.now.rows c.args.id ≡ Some c.in-Some.row.now = sym c.get.ensures ∙ ap (λ (o : Option (Bor Row)). option_copied o) c.in-Some.is in
    let none : parent_in (row_of c.args.rows.now.rows c.args.id) ≡ None = ap parent_in here ∙ cond-true (eqb c.in-Some.row.now.id.0 1) _ _ (sym c.eq.ensures ∙ c.if-eq.true) in
    c.new-then-eq.ensures.bytes ∙ sym (ends_at_root c.args.most c.args.rows.now.rows c.args.id none)

pub returns : goal.returns
returns t c = λ names.
    let here : row_of c.args.rows.now.rows c.args.id ≡ Some c.in-Some.row.now = sym c.get.ensures ∙ ap (λ (o : Option (Bor Row)). option_copied o) c.in-Some.is in
    let up : parent_in (row_of c.args.rows.now.rows c.args.id) ≡ Some c.in-Some.row.now.parent = ap parent_in here ∙ cond-false (eqb c.in-Some.row.now.id.0 1) _ _ (sym c.eq.ensures ∙ c.if-eq.false) in
    let more : suc (c.args.most - 1) ≡ c.args.most = omega arith in
    let down = goes_down (c.args.most - 1) c.args.rows.now.rows c.args.id c.in-Some.row.now.parent up in
    let name : c.as_slice.result.now ≡ name_in (row_of c.args.rows.now.rows c.args.id) = c.as_slice.ensures ∙ ap name_in (sym here) in
    let named : is_name c.as_slice.result.now ≡ true = ap is_name c.as_slice.ensures ∙ names c.args.id c.in-Some.row.now here (sym c.eq.ensures ∙ c.if-eq.false) in
    c.in_ok-push_name.ensures named ∙ (λ k. c.in_ok-path.ensures names k ++ 47 ∷ name k) ∙ sym down ∙ ap (λ (n : ℕ). path_in n c.args.rows.now.rows c.args.id) more
