use Rattle.std.proofs.Common.{refl}
use Rattle.cf_pair_settled.proofs.rows.both_are_settled_after_a_conflict.Goals as goal

pub returns-clause-first : goal.returns-clause-first
returns-clause-first c = refl

pub returns-clause-second : goal.returns-clause-second
returns-clause-second c = refl
