use Rattle.std.proofs.Common.{◌∙◌, ℕ, List, [], None, ap, false, refl}
use Rattle.cf_table.proofs.Told.{Told, means, told, told_by_row}
use Rattle.cf_table.proofs.MarkMeans.{reverted_bytes}
use Rattle.cf_ranges.specs.Positions.{contains}
use Rattle.cf_table.proofs.rows.Row.revert.Goals as goal

pub returns-clause-ok : goal.returns-clause-ok
returns-clause-ok c = λ i m.
    means _ _ (ap (λ (d : List ℕ). record (told_by_row c.args.self.now) { placeholder = false; identity = d; base = None; keep = false; in_sync = false; number = c.args.number }) c.in_ok-identity.ensures
    ∙ ap (λ (x : Told). record x { placeholder = false; identity = []; base = None; keep = false; in_sync = false; number = c.args.number }) (told c.args.self.now i m))
    (reverted_bytes c.args.self.now _ c.args.number i m.directory c.requires refl refl refl refl refl refl
    c.in_ok-modified.ensures (λ p. ap (λ r. contains r p) c.in_ok-modified_since.ensures ∙ c.in_ok-modified.ensures p) m.bytes)
