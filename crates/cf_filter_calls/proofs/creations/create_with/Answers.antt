use Rattle.std.proofs.Common.{ap, sym, ◌∙◌}
use Rattle.cf_item_rules.specs.PlaceholderPlans.{meant}
use Rattle.cf_table.specs.Tables.{Table}
use Rattle.cf_filter_calls.proofs.NewItems.{created, created_refused}
use Rattle.cf_filter_calls.proofs.creations.create_with.Goals as goal

pub returns-in-Ok : goal.returns-in-Ok
returns-in-Ok g c = created g.S.Steps.sense c.args.s.now c.make_item.new.s c.rows-2.result.now c.policy-policy.result c.args.next c.args.parent c.args.name.now (meant c.args.what.now) c.in-Ok.changes c.as_slice.result.now c.next-item.result c.make_item.result
    c.rows-2.ensures.means c.policy-policy.ensures (c.next-item.ensures ∙ ap (λ (t : Table). t.next) (c.rows.ensures.value ∙ sym c.rows-2.ensures.value)) c.in-Ok.ensures c.as_slice.ensures c.make_item.ensures

pub returns-in-Err : goal.returns-in-Err
returns-in-Err g c = created_refused g.S.Steps.sense c.args.s.now c.rows-2.result.now c.policy-policy.result c.args.next c.args.parent c.args.name.now (meant c.args.what.now) c.in-Err.fail c.refused_by.result
    c.rows-2.ensures.means c.policy-policy.ensures c.in-Err.ensures c.refused_by.ensures
