use Rattle.std.proofs.Common.{◌≤◌}
use Rattle.std.specs.Prelude.{drop}
use Rattle.cf_model.specs.Words.{number_from, number_of}
use Rattle.cf_engine_feed_plan.proofs.Capped.{Alike}
use Rattle.cf_engine_feed_plan.proofs.identities.number_of.Given as goal

abbrev pub invariant-loop-byte : goal.invariant-loop-byte
invariant-loop-byte l = (l.number ≤ 18446744073709551615) × Alike (number_from l.number (drop l.byte-index l.bytes)) (number_of l.bytes)
