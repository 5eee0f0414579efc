use Rattle.std.proofs.Common.{◌≡◌, ◌∙◌, List, ap, arith, false, inl, inr, sym, true, ℕ}
use Rattle.std.specs.Prelude.{find, is_some}
use Rattle.std.proofs.lemmas.Bool.{cases_lt}
use Rattle.cf_model.specs.ConflictNames.{with_number}
use Rattle.cf_table.specs.Tables.{is_child_row}
use Rattle.cf_tree.proofs.FreeNames.{conflict_is, some_id}
use Rattle.cf_tree.proofs.conflicts.conflict_name.Goals as goal

pub returns-then-is_none : goal.returns-then-is_none
returns-then-is_none c = λ items m.
    let is : c.in_ok-candidate.candidate ≡ with_number c.args.name.now c.loop-number.number = c.in_ok-candidate.ensures ∙ ap (λ (v : List ℕ). with_number v c.loop-number.number) c.as_slice.ensures in
    let free : is_some (find (is_child_row c.args.parent (with_number c.args.name.now c.loop-number.number)) c.args.rows.now.rows) ≡ false =
    sym (ap (λ (v : List ℕ). is_some (find (is_child_row c.args.parent v) c.args.rows.now.rows)) (c.as_slice-in-loop-number.ensures ∙ is)) ∙ sym (some_id _) ∙ ap is_some (sym c.child.ensures) ∙ c.if-is_none.ensures in
    is ∙ conflict_is c.args.rows.now.rows items c.args.parent c.args.name.now c.loop-number.number m (omega arith) (omega arith) c.loop-number.invariant free

pub loop-number-preserved : goal.loop-number-preserved
loop-number-preserved c = λ k a b.
    let is : c.in_ok-candidate.candidate ≡ with_number c.args.name.now c.loop-number.number = c.in_ok-candidate.ensures ∙ ap (λ (v : List ℕ). with_number v c.loop-number.number) c.as_slice.ensures in
    let taken : is_some (find (is_child_row c.args.parent (with_number c.args.name.now c.loop-number.number)) c.args.rows.now.rows) ≡ true =
    sym (ap (λ (v : List ℕ). is_some (find (is_child_row c.args.parent v) c.args.rows.now.rows)) (c.as_slice-in-loop-number.ensures ∙ is)) ∙ sym (some_id _) ∙ ap is_some (sym c.child.ensures) ∙ c.if-is_none.ensures in
    elim (cases_lt k c.loop-number.number) [
      | inl lt ↦ c.loop-number.invariant k a lt
      | inr le ↦ let e : k ≡ c.loop-number.number = omega arith in ap (λ (n : ℕ). is_some (find (is_child_row c.args.parent (with_number c.args.name.now n)) c.args.rows.now.rows)) e ∙ taken
    ]
