-- Tombstones that end, which mirror the code: no definitions to believe.
use Rattle.std.specs.Prelude.{Bool, ◌==◌}
use Rattle.cf_base.specs.declared.ids.Usn.{Usn}
use Rattle.cf_model.specs.Arrows.{Arrow, reading}
use Rattle.cf_model.specs.Books.{QueueEntry, tombstone_of}
use Rattle.cf_model.specs.PushReplies.{end_tombstone, was_directory}
use Rattle.cf_model.specs.State.{Filter, State}
use Rattle.cf_model.specs.Words.{says}

-- the tombstone with this number is a directory's
abbrev pub was_directory_at : Usn → Filter → Bool
was_directory_at number s = says (λ t. t.version.0 == 0) (tombstone_of s.volume.book number)

abbrev pub removal_ended : QueueEntry → Arrow State (Unit {0})
removal_ended e = reading (was_directory e) (end_tombstone e)
