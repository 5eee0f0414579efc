use Rattle.std.proofs.Common.{take}
use Rattle.std.specs.Prelude.{All}
use Rattle.cf_volume_image.specs.RecordLists.{IsShort}
use Rattle.cf_volume_changes.proofs.room.records.are_short.Given as goal

abbrev pub invariant-loop-aux : goal.invariant-loop-aux
invariant-loop-aux l = All IsShort (take l.aux-index l.records)
