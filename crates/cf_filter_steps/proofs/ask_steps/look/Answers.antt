use Rattle.std.proofs.Common.{sym, ap, ◌∙◌}
use Rattle.std.specs.Prelude.{option_copied}
use Rattle.cf_ask_rule.specs.Deeds.{deed_of}
use Rattle.cf_filter_steps.proofs.AskRule.{gone_now, looks_now}
use Rattle.cf_filter_steps.proofs.Laws.{ok_map}
use Rattle.cf_filter_steps.proofs.ask_steps.look.Goals as goal

pub returns-in-Some-clause-looks : goal.returns-in-Some-clause-looks
returns-in-Some-clause-looks g c = ok_map c.look_at.result _ _
    (λ p h. looks_now g.S.Steps.sense c.args.s.now c.rows.result.now c.args.item c.in-Some.row.now (deed_of c.args.act) p c.rows.ensures.means (sym c.get.ensures ∙ ap option_copied c.in-Some.is) h) c.look_at.ensures.looks

pub returns-in-None-clause-looks : goal.returns-in-None-clause-looks
returns-in-None-clause-looks g c = ok_map c.look_gone.result _ _
    (λ p h. gone_now g.S.Steps.sense c.args.s.now c.rows.result.now c.args.item (deed_of c.args.act) p c.rows.ensures.means (sym c.get.ensures ∙ ap option_copied c.in-None.is) h) c.look_gone.ensures.looks
