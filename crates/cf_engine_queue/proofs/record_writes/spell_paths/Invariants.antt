use Rattle.std.specs.Prelude.{drop}
use Rattle.cf_engine_queue.specs.Records.{AreSeenBut}
use Rattle.cf_engine_queue.proofs.record_writes.spell_paths.Given as goal

abbrev pub invariant-loop-path : goal.invariant-loop-path
invariant-loop-path l = AreSeenBut (drop l.path-index l.paths) l.paths l.records
