use Rattle.std.proofs.Common.{◌≡◌, ◌++◌, take, map}
use Rattle.serde_json.specs.View.{view}
use Rattle.cf_state_rows.specs.Values.{run_value}
use Rattle.cf_state_rows.proofs.members.push_runs.Given as goal

abbrev pub invariant-loop-run : goal.invariant-loop-run
invariant-loop-run l = map view l.list.items ≡ map view l.fn.list.items ++ map run_value (take l.run-index l.runs)
