use Rattle.cf_model.specs.Numbers.{is_no_usn}
use Rattle.std.proofs.Common.{◌||◌, ◌∙◌, ℕ, Option, Some, ap, cond, refl}
use Rattle.cf_table.proofs.Told.{Told, means, told, told_by_row}
use Rattle.cf_table.proofs.MarkMeans.{length_taken, rebased_anchor}
use Rattle.cf_table.proofs.rows.Row.rebase_at_anchor.Goals as goal

pub returns-clause-ok : goal.returns-clause-ok
returns-clause-ok c = λ i m.
    means _ _ (ap (λ (b : Option ℕ). record (told_by_row c.args.self.now) { base = b; identity = c.args.identity })
    (c.base_length-self.ensures ∙ length_taken c.args.self.now.dir (is_no_usn c.args.self.now.anchor) c.args.self.now.base c.args.len c.requires)
    ∙ ap (λ (x : Told). record x { base = cond (x.directory || is_no_usn c.args.self.now.anchor) x.base (Some c.args.len); identity = c.args.identity }) (told c.args.self.now i m))
    (rebased_anchor c.args.self.now _ c.args.identity c.args.len i refl refl refl refl refl refl c.in_ok-modified.ensures refl m.bytes)
