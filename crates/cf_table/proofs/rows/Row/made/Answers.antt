use Rattle.std.proofs.Common.{refl, subst, sym}
use Rattle.cf_table.proofs.Told.{means}
use Rattle.cf_model.specs.Effects.{made}
use Rattle.cf_table.specs.Means.{Means}
use Rattle.cf_table.specs.declared.rows.Row.{Row}
use Rattle.cf_table.proofs.NewMeans.{made_bytes}
use Rattle.cf_table.proofs.rows.Row.made.Goals as goal

pub returns-clause-means : goal.returns-clause-means
returns-clause-means c =
    subst (λ (r : Row). Means r (made c.args.place.id c.args.place.parent c.args.place.name c.args.kind c.args.size c.args.identity c.args.place.pin c.args.place.number)) (sym c.without_bytes.ensures)
    (means _ _ refl (made_bytes _ c.args.place.id c.args.place.parent c.args.place.name c.args.kind c.args.size c.args.identity c.args.place.pin c.args.place.number c.requires
    refl refl refl refl refl refl refl refl))
