use Rattle.std.proofs.Common.{◌∙◌, ap, sym}
use Rattle.std.specs.Prelude.{option_copied}
use Rattle.cf_filter_machine.proofs.DeskSteps.{seen_desk}
use Rattle.cf_filter_machine.proofs.Seen.{met_gone, met_there}
use Rattle.cf_filter_desk.specs.Desks.{Desk}
use Rattle.cf_filter_machine.specs.Held.{Held}
use Rattle.cf_filter_steps.proofs.Laws.{ok_map}
use Rattle.cf_filter_steps.specs.Needing.{meant}
use Rattle.cf_table.specs.Tables.{row_of}
use Rattle.cf_filter_machine.proofs.filter_steps.MachineOnSteps.is_met.Goals as goal

pub returns-in-Some : goal.returns-in-Some
returns-in-Some g c = ok_map c.is_met_on.result _ _
    (λ met e. met_there g.G.Ground.state c.args.self.now (meant c.args.need.now) c.in-Some.row.now c.requests.result.now c.policy.result met
    (sym (c.row.ensures ∙ ap (λ (x : Held _). row_of x.known.table.rows c.args.need.now.item) c.self.view_is) ∙ ap option_copied c.in-Some.is)
    (c.requests.ensures ∙ ap (λ (d : Desk). d.waiting) (seen_desk c.self.view_is)) (c.policy.ensures ∙ ap (λ (d : Desk). d.policy) (seen_desk c.self.view_is)) e) c.is_met_on.ensures

pub returns-in-None : goal.returns-in-None
returns-in-None g c = ok_map c.is_met_gone.result _ _
    (λ met e. met_gone g.G.Ground.state c.args.self.now (meant c.args.need.now) c.requests-in-None.result.now met
    (sym (c.row.ensures ∙ ap (λ (x : Held _). row_of x.known.table.rows c.args.need.now.item) c.self.view_is) ∙ ap option_copied c.in-None.is)
    (c.requests-in-None.ensures ∙ ap (λ (d : Desk). d.waiting) (seen_desk c.self.view_is)) e) c.is_met_gone.ensures
