use Rattle.cf_engine_steps.specs.Occupants.{HasConflictName}
use Rattle.cf_filter_steps.proofs.Laws.{ok_map}
use Rattle.cf_engine_steps.proofs.Occupants.{conflict_named}
use Rattle.cf_engine_steps.proofs.names.conflict_name_of.Goals as goal

pub returns : goal.returns
returns g c = ok_map c.conflict_name.result _ (HasConflictName g.S.Steps.sense c.args.row.now c.args.s.now) (λ n h. conflict_named g.S.Steps.sense c.args.s.now c.rows.result.now c.args.row.now c.in_ok-name.name n c.rows.ensures.means c.in_ok-name.ensures.0 h) c.conflict_name.ensures
