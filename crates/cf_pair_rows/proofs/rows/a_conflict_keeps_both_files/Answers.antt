use Rattle.std.proofs.Common.{refl}
use Rattle.cf_pair_rows.proofs.rows.a_conflict_keeps_both_files.Goals as goal

pub returns-clause-first : goal.returns-clause-first
returns-clause-first c = refl

pub returns-clause-second : goal.returns-clause-second
returns-clause-second c = refl
