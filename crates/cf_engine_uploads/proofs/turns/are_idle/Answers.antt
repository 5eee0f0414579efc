use Rattle.std.proofs.Common.{sym, ◌∙◌}
use Rattle.cf_engine_uploads.proofs.turns.are_idle.Goals as goal

pub returns-then-not-is_nothing : goal.returns-then-not-is_nothing
returns-then-not-is_nothing g c = (c.row-item.result.id, (c.in_ok-course.course, sym c.is_nothing.ensures ∙ c.if-not-is_nothing.true, c.in_ok-course.ensures.plans))
