use Rattle.std.proofs.Common.{sym, ap, ◌∙◌}
use Rattle.std.specs.Prelude.{option_copied}
use Rattle.cf_engine_steps.specs.Marks.{IsParentTarget, IsTarget}
use Rattle.cf_filter_steps.proofs.Laws.{ok_map}
use Rattle.cf_engine_steps.proofs.Marked.{none_above, target_above}
use Rattle.cf_engine_steps.proofs.targets.parent_target.Goals as goal

pub returns-in-Some : goal.returns-in-Some
returns-in-Some g c = ok_map c.target_of.result (IsTarget c.in-Some.parent.now) (IsParentTarget g.S.Steps.sense c.args.row.now c.args.s.now)
    (λ target is. target_above g.S.Steps.sense c.args.s.now c.rows.result.now c.args.row.now c.rows.ensures.means c.in-Some.parent.now target (sym c.get.ensures ∙ ap option_copied c.in-Some.is) is) c.target_of.ensures

pub returns-in-None : goal.returns-in-None
returns-in-None g c = none_above g.S.Steps.sense c.args.s.now c.rows.result.now c.args.row.now c.rows.ensures.means (sym c.get.ensures ∙ ap option_copied c.in-None.is)
