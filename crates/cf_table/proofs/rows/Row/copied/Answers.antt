use Rattle.std.proofs.Common.{◌∙◌, ℕ, List, ap, false, refl, true}
use Rattle.cf_table.proofs.Told.{Told, means, told, told_by_row}
use Rattle.cf_model.specs.Effects.{untargeted}
use Rattle.cf_table.proofs.NewMeans.{copied_bytes}
use Rattle.cf_table.proofs.rows.Row.copied.Goals as goal

pub returns-clause-means : goal.returns-clause-means
returns-clause-means c = λ i m.
    means _ _ (ap (λ (d : List ℕ). record (told_by_row c.args.self.now) { id = c.args.place.id; parent = c.args.place.parent; name = c.args.place.name; placeholder = true; identity = d; pin = c.args.place.pin; in_sync = false; number = c.args.place.number; keep = false })
    (c.in_ok-identity.ensures ∙ ap untargeted c.as_slice.ensures)
    ∙ ap (λ (x : Told). record x { id = c.args.place.id; parent = c.args.place.parent; name = c.args.place.name; placeholder = true; identity = untargeted x.identity; pin = c.args.place.pin; in_sync = false; number = c.args.place.number; keep = false }) (told c.args.self.now i m))
    (copied_bytes c.args.self.now _ c.args.place.id c.args.place.parent c.args.place.name c.args.place.pin c.args.place.number i m.number c.requires.later
    refl refl refl refl c.in_ok-sets.ensures.here c.in_ok-sets.ensures.valid c.in_ok-sets.ensures.modified.0 c.in_ok-sets.ensures.modified.1 m.bytes)
