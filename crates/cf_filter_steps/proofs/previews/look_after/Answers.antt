use Rattle.std.proofs.Common.{sym, ap, ◌∙◌, subst}
use Rattle.std.specs.Prelude.{option_copied}
use Rattle.cf_ask_rule.specs.Deeds.{deed_of}
use Rattle.cf_model.specs.Items.{Item}
use Rattle.cf_filter_steps.specs.Looking.{FitsSpans, effect_on}
use Rattle.cf_table.specs.Means.{Means}
use Rattle.cf_table.specs.declared.rows.Row.{Row}
use Rattle.cf_filter_steps.proofs.SeenAfter.{gone_after, looks_after}
use Rattle.cf_filter_steps.proofs.Laws.{ok_map}
use Rattle.cf_filter_steps.proofs.previews.look_after.Goals as goal

pub returns-in_ok-change_row-in-Some-clause-looks : goal.returns-in_ok-change_row-in-Some-clause-looks
returns-in_ok-change_row-in-Some-clause-looks g c = ok_map c.look_at.result _ _
    (λ p h. looks_after g.S.Steps.sense c.args.s.now c.rows.result.now c.args.item c.args.change.now c.in-Some.row.now c.change_row.new.row (deed_of c.args.act) p c.rows.ensures.means (sym c.get.ensures ∙ ap option_copied c.in-Some.is)
    (subst (λ (r : Row). (i : Item) → FitsSpans c.args.change.now → Means r i → Means c.change_row.new.row (effect_on c.args.change.now i)) c.in_ok-after-in-Some.ensures c.in_ok-change_row-in-Some.ensures) h) c.look_at.ensures.looks

pub returns-in-None-clause-looks : goal.returns-in-None-clause-looks
returns-in-None-clause-looks g c = ok_map c.look_gone.result _ _
    (λ p h. gone_after g.S.Steps.sense c.args.s.now c.rows.result.now c.args.item c.args.change.now (deed_of c.args.act) p c.rows.ensures.means (sym c.get.ensures ∙ ap option_copied c.in-None.is) h) c.look_gone.ensures.looks
