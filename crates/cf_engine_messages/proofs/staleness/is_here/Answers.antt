use Rattle.std.proofs.Common.{List, subst}
use Rattle.cf_engine_feed.specs.Targets.{IsFirst}
use Rattle.cf_engine_messages.proofs.StaleReplies.{here_above, here_some}
use Rattle.cf_model.specs.Identities.{has_target}
use Rattle.cf_model.specs.Items.{Item}
use Rattle.cf_table.specs.declared.rows.Row.{Row}
use Rattle.cf_engine_messages.proofs.staleness.is_here.Goals as goal

pub returns : goal.returns
returns g c = here_some g.S.Steps.sense c.args.s.now c.rows-2.result.now c.args.made c.in-Some.rid c.in_ok-found.found c.is_some.result c.rows-2.ensures.means
    (subst (λ (l : List Row). IsFirst (λ (i : Item). has_target i c.in-Some.rid) l c.in_ok-found.found) c.as_slice.ensures.value c.in_ok-found.ensures) c.is_some.ensures c.in-Some.is

pub returns-then-is_above_targets : goal.returns-then-is_above_targets
returns-then-is_above_targets g c =
    here_above g.S.Steps.sense c.args.s.now c.rows.result.now c.args.made c.in-Some.rid c.rows.ensures.means (c.is_above_targets.ensures c.if-is_above_targets.true) c.in-Some.is
