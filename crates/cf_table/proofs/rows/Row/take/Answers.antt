use Rattle.std.proofs.Common.{Some, ap, false, refl, subst, sym}
use Rattle.cf_table.proofs.Told.{Told, means, told}
use Rattle.cf_table.proofs.MarkMeans.{took_bytes}
use Rattle.cf_table.specs.Means.{Means}
use Rattle.cf_table.specs.declared.rows.Row.{Row}
use Rattle.cf_model.specs.Effects.{took}
use Rattle.cf_table.proofs.rows.Row.take.Goals as goal

pub returns-clause-means : goal.returns-clause-means
returns-clause-means c = λ i m.
    subst (λ (r : Row). Means r (took c.args.identity c.args.size c.args.number i)) (sym c.take_in_all.ensures)
    (means _ _ (ap (λ (x : Told). record x { identity = c.args.identity; base = Some c.args.size; in_sync = false; number = c.args.number }) (told c.args.self.now i m))
    (took_bytes _ c.args.identity c.args.size c.args.number i refl refl refl c.new.ensures c.new-2.ensures refl refl))
