use Rattle.std.proofs.Common.{◌+◌, ap, ◌∙◌}
use Rattle.cf_table.specs.Tables.{Table}
use Rattle.cf_volume.proofs.AddedPut.{made_put, made_steady}
use Rattle.cf_volume_changes.specs.Steady.{known_of}
use Rattle.cf_volume.proofs.make.rows.put_made.Goals as goal

pub returns-clause-at : goal.returns-clause-at
returns-clause-at g c = λ v change i n at made fits.
    made_put (g.G.Ground.state c.args.ground.now) (known_of c.args.parts.now) c.args.row c.set_next.new.self c.requires.steady c.image_len.ensures.rises c.requires.new c.requires.next c.requires.fresh
    (c.set_next.ensures ∙ ap (λ (t : Table). record t { next = record { 0 = c.args.row.id.0 + 1 } }) c.in_ok-put_row.ensures.ok) v change i n (record { same_size = g.met.G.Ground.same_size c.args.ground.now }) at made fits

pub returns-clause-steady : goal.returns-clause-steady
returns-clause-steady g c =
    made_steady (g.G.Ground.state c.args.ground.now) (known_of c.args.parts.now) c.args.row c.set_next.new.self c.requires.steady c.image_len.ensures.rises c.requires.new c.requires.next c.requires.fresh
    (c.set_next.ensures ∙ ap (λ (t : Table). record t { next = record { 0 = c.args.row.id.0 + 1 } }) c.in_ok-put_row.ensures.ok) c.in_ok-put_row.ensures.room c.requires.number
