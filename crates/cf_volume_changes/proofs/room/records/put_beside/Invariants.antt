use Rattle.std.proofs.Common.{drop}
use Rattle.cf_volume_changes.specs.Besides.{Besides}
use Rattle.cf_volume_changes.proofs.room.records.put_beside.Given as goal

abbrev pub invariant-loop-aux : goal.invariant-loop-aux
invariant-loop-aux l = Besides l.gone l.records l.so_far (drop l.aux-index l.list) l.list
