use Rattle.std.proofs.Common.{◌<◌, length, ℕ}
use Rattle.cf_volume.proofs.Counting.{counted}
use Rattle.cf_volume.proofs.CopyPut.{copied_put, copied_steady}
use Rattle.cf_volume_changes.proofs.Puts.{found_inside}
use Rattle.cf_volume_changes.specs.Steady.{known_of}
use Rattle.cf_volume.proofs.copy.files.put_copied.Goals as goal

pub copy_item-requires-clause-inside : goal.copy_item-requires-clause-inside
copy_item-requires-clause-inside g c = λ r found. found_inside (λ (k : ℕ). k < length c.args.parts.now.held) c.args.parts.now.contents.rows.rows c.args.from r c.requires.steady.inside found

pub returns-clause-at : goal.returns-clause-at
returns-clause-at g c = λ v change i at copy fits.
    copied_put (g.G.Ground.state c.args.ground.now) (g.G.Ground.state c.copy_item.new.ground) (known_of c.args.parts.now) c.args.row c.args.from c.copy_item.new.held c.copy_item.new.rows c.set_next.new.self
    c.requires.steady c.image_len.ensures.rises c.image_len.ensures.kept c.requires.new c.requires.next c.requires.fresh c.in_ok-copy_item.ensures.copied c.set_next.ensures c.saturating_add-parts.result v change i at copy
    (record { same_size = g.met.G.Ground.same_size c.args.ground.now }) fits
    (counted c.args.parts.now.put_since c.args.blocks (length c.in_ok-copy_item.ensures.copied.source.extents) c.saturating_add-parts.result (c.requires.blocks c.in_ok-copy_item.ensures.copied.source c.in_ok-copy_item.ensures.copied.found) c.saturating_add-parts.ensures)

pub returns-clause-steady : goal.returns-clause-steady
returns-clause-steady g c =
    copied_steady (g.G.Ground.state c.args.ground.now) (g.G.Ground.state c.copy_item.new.ground) (known_of c.args.parts.now) c.args.row c.args.from c.copy_item.new.held c.copy_item.new.rows c.set_next.new.self
    c.requires.steady c.image_len.ensures.rises c.image_len.ensures.kept c.requires.new c.requires.next c.requires.fresh c.in_ok-copy_item.ensures.copied c.set_next.ensures c.saturating_add-parts.result c.requires.number
