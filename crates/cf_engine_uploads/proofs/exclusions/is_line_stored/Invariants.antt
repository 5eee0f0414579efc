use Rattle.cf_engine_uploads.proofs.StoredPins.{IsUp}
use Rattle.cf_engine_uploads.proofs.exclusions.is_line_stored.Given as goal

abbrev pub invariant-loop-depth : goal.invariant-loop-depth
invariant-loop-depth l = IsUp l.rows.rows l.fn.id l._depth l.at
