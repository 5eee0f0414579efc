-- The book that is told of what a program knows of a volume.
use Rattle.std.specs.Prelude.{List, [], ◌∷◌, cond, ◌==◌}
use Rattle.cf_base.specs.declared.answers.Access.{Access}
use Rattle.cf_base.specs.declared.answers.Anchor.{Anchor}
use Rattle.cf_base.specs.declared.answers.OpenedBook.{OpenedBook}
use Rattle.cf_model.specs.Numbers.{is_no_usn}
use Rattle.cf_volume_points.specs.Known.{Known}
use Rattle.cf_table.specs.declared.rows.Row.{Row}

-- the anchors of the rows that have one
abbrev pub anchors_in : List Row → List Anchor
anchors_in [] = []
anchors_in (r ∷ rs) = cond (is_no_usn r.anchor) (anchors_in rs) (record { item = r.id; number = r.anchor } ∷ anchors_in rs)

-- the last accesses of those that were accessed
abbrev pub accesses_in : List Row → List Access
accesses_in [] = []
accesses_in (r ∷ rs) = cond (r.last == 0) (accesses_in rs) (record { item = r.id; clock = r.last } ∷ accesses_in rs)

abbrev pub told_of : Known → OpenedBook
told_of k = record { records = k.records; anchors = anchors_in k.table.rows; clock = k.clock; accesses = accesses_in k.table.rows }
