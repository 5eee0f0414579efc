use Rattle.std.proofs.Common.{sym, ap, ◌∙◌}
use Rattle.std.specs.Prelude.{option_copied}
use Rattle.std.proofs.lemmas.Bool.{eq-eqb, ne_eqb}
use Rattle.cf_engine_steps.specs.Marks.{StandsIf, is_markable_at}
use Rattle.cf_filter_steps.proofs.Laws.{ok_map}
use Rattle.cf_filter_steps.specs.Answering.{Any, Reads}
use Rattle.cf_engine_steps.proofs.Marked.{markable_by, markable_none, markable_not, markable_untargeted}
use Rattle.cf_engine_steps.proofs.marks.is_markable.Goals as goal

pub returns-in_default : goal.returns-in_default
returns-in_default g c = markable_none g.S.Steps.sense c.args.s.now c.rows.result.now c.args.item c.args.number c.rows.ensures.means (sym c.get.ensures ∙ ap option_copied c.in_default.is)

pub returns-then-not-is_settled : goal.returns-then-not-is_settled
returns-then-not-is_settled g c = markable_not g.S.Steps.sense c.args.s.now c.rows.result.now c.args.item c.args.number c.rows.ensures.means c.in-Some.row.now (sym c.get.ensures ∙ ap option_copied c.in-Some.is) c.is_settled.result c.is_settled.ensures c.if-not-is_settled.true

pub returns-then-target : goal.returns-then-target
returns-then-target g c = markable_untargeted g.S.Steps.sense c.args.s.now c.rows.result.now c.args.item c.args.number c.rows.ensures.means c.in-Some.row.now (sym c.get.ensures ∙ ap option_copied c.in-Some.is) c.is_settled.result c.is_settled.ensures
    c.in_ok-target.target c.if-not-is_settled.false c.in_ok-target.ensures (eq-eqb c.in_ok-target.target.0 0 c.if-target.true)

pub returns : goal.returns
returns g c = ok_map c.stands_at_seen.result (StandsIf g.S.Steps.sense c.in-Some.row.now c.args.s.now) (Reads g.S.Steps.sense Any (is_markable_at c.args.item c.args.number) c.args.s.now)
    (λ d stands. markable_by g.S.Steps.sense c.args.s.now c.rows.result.now c.args.item c.args.number c.rows.ensures.means c.in-Some.row.now (sym c.get.ensures ∙ ap option_copied c.in-Some.is) c.is_settled.result c.is_settled.ensures
    c.in_ok-target.target d c.if-not-is_settled.false c.in_ok-target.ensures (ne_eqb c.in_ok-target.target.0 0 c.if-target.false) stands) c.stands_at_seen.ensures
