use Rattle.std.proofs.Common.{◌≡◌, ◌||◌, ◌∙◌, ℕ, Option, Some, ap, cond, refl, subst, sym, true}
use Rattle.cf_table.proofs.Told.{Told, means, told, told_by_row}
use Rattle.cf_table.proofs.MarkMeans.{length_stays, rebased_none}
use Rattle.std.specs.Prelude.{OnOk}
use Rattle.cf_base.specs.declared.ids.Usn.{Usn}
use Rattle.cf_model.specs.Effects.{rebased}
use Rattle.cf_model.specs.Items.{Item}
use Rattle.cf_model.specs.Numbers.{no_usn, same_usn}
use Rattle.cf_table.specs.Means.{Means}
use Rattle.cf_table.proofs.Above.{one_left, same_is}
use Rattle.cf_table.proofs.rows.Row.rebase.Goals as goal

pub returns-then-eq-clause-ok : goal.returns-then-eq-clause-ok
returns-then-eq-clause-ok c = λ i m.
    subst (λ (a : Usn). Means (record c.args.self.now { identity = c.args.identity }) (rebased c.args.identity c.args.len a i)) (sym (same_is c.args.at no_usn (sym c.eq.ensures ∙ c.if-eq.true)))
    (means _ _ (ap (λ (b : Option ℕ). record (told_by_row c.args.self.now) { base = b; identity = c.args.identity }) (length_stays c.args.self.now.dir c.args.self.now.base c.args.len)
    ∙ ap (λ (x : Told). record x { base = cond (x.directory || true) x.base (Some c.args.len); identity = c.args.identity }) (told c.args.self.now i m))
    (rebased_none c.args.self.now _ c.args.identity c.args.len i refl refl refl refl refl refl refl refl m.bytes))

pub returns-then-eq-2-clause-ok : goal.returns-then-eq-2-clause-ok
returns-then-eq-2-clause-ok c = λ i m.
    subst (λ (a : Usn). Means c.rebase_at_number.new.self (rebased c.args.identity c.args.len a i)) (sym (same_is c.args.at c.args.self.now.number (sym c.eq-else-eq.ensures ∙ c.if-eq-2.true)))
    (c.rebase_at_number.ensures.means i m)

pub returns-else-eq-2-clause-ok : goal.returns-else-eq-2-clause-ok
returns-else-eq-2-clause-ok c =
    let left : same_usn c.args.at c.args.self.now.anchor ≡ true = one_left (same_usn c.args.at no_usn) (same_usn c.args.at c.args.self.now.anchor) (same_usn c.args.at c.args.self.now.number) c.requires
    (sym c.eq.ensures ∙ c.if-eq.false) (sym c.eq-else-eq.ensures ∙ c.if-eq-2.false) in
    subst (λ (a : Usn). OnOk c.rebase_at_anchor.result ((i : Item) → Means c.args.self.now i → Means c.rebase_at_anchor.new.self (rebased c.args.identity c.args.len a i)))
    (sym (same_is c.args.at c.args.self.now.anchor left)) c.rebase_at_anchor.ensures.ok
