use Rattle.std.proofs.Common.{◌&&◌, ◌∙◌, Bool, ℕ, List, ap, sym}
use Rattle.std.specs.Prelude.{bytes_eq}
use Rattle.cf_model.specs.Words.{same}
use Rattle.cf_table.proofs.Finds.{same_bytes}
use Rattle.cf_table.proofs.entries.stands_at.Goals as goal

pub returns-then-eq : goal.returns-then-eq
returns-then-eq c =
    c.eq-then-eq.ensures ∙ ap (λ (l : List ℕ). bytes_eq l c.args.name.now) c.as_slice.ensures ∙ same_bytes c.args.row.now.name c.args.name.now
    ∙ ap (λ (b : Bool). b && same c.args.row.now.name c.args.name.now) (sym c.if-eq.true ∙ c.eq.ensures)
