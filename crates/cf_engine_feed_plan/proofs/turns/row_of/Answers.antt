use Rattle.std.proofs.Common.{Option, subst, sym}
use Rattle.cf_base.specs.declared.ids.ItemId.{ItemId}
use Rattle.cf_table.specs.declared.rows.Row.{Row}
use Rattle.cf_engine_feed_plan.specs.Premises.{FoundAs, IsHere}
use Rattle.cf_engine_feed_plan.proofs.FoundRows.{here_none, here_some}
use Rattle.cf_engine_feed_plan.proofs.turns.row_of.Goals as goal

pub returns-in-None : goal.returns-in-None
returns-in-None c = λ items o m h. here_none items o (subst (λ (v : Option ItemId). IsHere items v o) c.in-None.is h)

pub returns-in-Some : goal.returns-in-Some
returns-in-Some c = λ items o m h.
    subst (λ (q : Option Row). FoundAs q o) (sym c.get.ensures) (here_some c.args.rows.now.rows items c.in-Some.id o m (subst (λ (v : Option ItemId). IsHere items v o) c.in-Some.is h))
