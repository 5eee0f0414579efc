use Rattle.std.proofs.Common.{refl}
use Rattle.cf_pair_rows.proofs.rows.a_new_directory_is_missing_until_both_have_synced.Goals as goal

pub returns-clause-first : goal.returns-clause-first
returns-clause-first c = refl

pub returns-clause-second : goal.returns-clause-second
returns-clause-second c = refl
