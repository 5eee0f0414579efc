use Rattle.cf_engine_uploads.proofs.Turned.{turn_case, turn_gone, turn_left_out, turn_nothing}
use Rattle.std.proofs.Common.{ap, sym, ◌∙◌}
use Rattle.std.specs.Prelude.{option_copied}
use Rattle.cf_engine_uploads.proofs.turns.course_of.Goals as goal

pub returns-in_default-clause-plans : goal.returns-in_default-clause-plans
returns-in_default-clause-plans g c = turn_gone g.S.Steps.sense g.R.Remote.told c.args.s.now c.args.e.now c.rows.result.now c.args.id c.rows.ensures.means (sym c.get.ensures ∙ ap option_copied c.in_default.is)

pub returns-then-is_nothing-clause-plans : goal.returns-then-is_nothing-clause-plans
returns-then-is_nothing-clause-plans g c = turn_nothing g.S.Steps.sense g.R.Remote.told c.args.s.now c.args.e.now c.rows.result.now c.args.id c.rows.ensures.means c.in-Some.row.now c.in_ok-course.course (sym c.get.ensures ∙ ap option_copied c.in-Some.is) c.in_ok-course.ensures.case (sym c.is_nothing.ensures ∙ c.if-is_nothing.true)

pub returns-then-branch-clause-plans : goal.returns-then-branch-clause-plans
returns-then-branch-clause-plans g c = turn_left_out g.S.Steps.sense g.R.Remote.told c.args.s.now c.args.e.now c.rows.result.now c.args.id c.rows.ensures.means c.in-Some.row.now (sym c.get.ensures ∙ ap option_copied c.in-Some.is) c.in_ok-is_left_out.field-0 c.in_ok-is_left_out.ensures c.if-branch.true

pub returns-clause-plans : goal.returns-clause-plans
returns-clause-plans g c = turn_case g.S.Steps.sense g.R.Remote.told c.args.s.now c.args.e.now c.rows.result.now c.args.id c.rows.ensures.means c.in-Some.row.now (sym c.get.ensures ∙ ap option_copied c.in-Some.is) c.in_ok-is_left_out.field-0 c.in_ok-is_left_out.ensures c.in_ok-course.course c.if-branch.false c.in_ok-course.ensures.case
