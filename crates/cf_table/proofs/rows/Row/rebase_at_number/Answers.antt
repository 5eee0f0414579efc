use Rattle.cf_model.specs.Numbers.{is_no_usn}
use Rattle.std.proofs.Common.{◌||◌, ◌∙◌, ℕ, Option, Some, ap, cond, refl, subst, sym}
use Rattle.cf_table.proofs.Told.{Told, means, told, told_by_row}
use Rattle.cf_table.proofs.MarkMeans.{length_taken, rebased_number}
use Rattle.cf_table.specs.Means.{Means}
use Rattle.cf_table.specs.declared.rows.Row.{Row}
use Rattle.cf_model.specs.Effects.{rebased}
use Rattle.cf_table.proofs.rows.Row.rebase_at_number.Goals as goal

pub returns-clause-means : goal.returns-clause-means
returns-clause-means c = λ i m.
    subst (λ (r : Row). Means r (rebased c.args.identity c.args.len c.args.self.now.number i)) (sym c.take_in_all.ensures)
    (means _ _ (ap (λ (b : Option ℕ). record (told_by_row c.args.self.now) { base = b; identity = c.args.identity })
    (c.base_length-self.ensures ∙ length_taken c.args.self.now.dir (is_no_usn c.args.self.now.number) c.args.self.now.base c.args.len c.requires)
    ∙ ap (λ (x : Told). record x { base = cond (x.directory || is_no_usn c.args.self.now.number) x.base (Some c.args.len); identity = c.args.identity }) (told c.args.self.now i m))
    (rebased_number c.args.self.now _ c.args.identity c.args.len i m.number refl refl refl refl refl refl refl m.bytes))
