use Rattle.std.proofs.Common.{◌≡◌, ◌++◌, take, map}
use Rattle.serde_json.specs.View.{view}
use Rattle.cf_state_rows.specs.Rows.{row_facts}
use Rattle.cf_state_rows.specs.Values.{facts_value}
use Rattle.cf_state_rows.proofs.documents.push_rows.Given as goal

abbrev pub invariant-loop-row : goal.invariant-loop-row
invariant-loop-row l = map view l.list.items ≡ map view l.fn.list.items ++ map facts_value (map row_facts (take l.row-index l.rows))
