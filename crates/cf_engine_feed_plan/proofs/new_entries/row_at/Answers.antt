use Rattle.std.proofs.Common.{Option, subst, sym, ◌∙◌}
use Rattle.cf_model.specs.LookUp.{child_of}
use Rattle.cf_table.specs.declared.rows.Row.{Row}
use Rattle.cf_engine_feed_plan.specs.Premises.{FoundAs}
use Rattle.cf_engine_feed_plan.proofs.NamedRows.{child_none, child_some}
use Rattle.cf_engine_feed_plan.proofs.new_entries.row_at.Goals as goal

pub returns-in-None : goal.returns-in-None
returns-in-None c = λ items m t. child_none c.args.rows.now.rows items c.args.parent c.args.name.now m (sym c.child.ensures ∙ c.in-None.is)

pub returns-in-Some : goal.returns-in-Some
returns-in-Some c = λ items m t.
    subst (λ (q : Option Row). FoundAs q (child_of items c.args.parent c.args.name.now)) (sym c.get.ensures) (child_some c.args.rows.now.rows items c.args.parent c.args.name.now c.in-Some.id m t (sym c.child.ensures ∙ c.in-Some.is))
