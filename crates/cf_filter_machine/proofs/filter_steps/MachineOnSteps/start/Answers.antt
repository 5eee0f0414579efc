use Rattle.std.proofs.Common.{◌∙◌, ap, sym, subst}
use Rattle.std.specs.Prelude.{option_copied}
use Rattle.cf_filter_machine.proofs.Beginnings.{started}
use Rattle.cf_filter_machine.proofs.DeskSteps.{err_is, seen_desk, with_desk}
use Rattle.cf_filter_machine.proofs.Seen.{view_gone, view_there}
use Rattle.cf_filter_desk.specs.Desks.{BeginsBy, Desk, IfRefused}
use Rattle.cf_filter_machine.specs.Held.{Held}
use Rattle.cf_model.specs.Missing.{View, view_of}
use Rattle.cf_model.specs.Settling.{no_view}
use Rattle.cf_filter_steps.specs.Needing.{meant}
use Rattle.cf_table.specs.Tables.{row_of}
use Rattle.cf_filter_machine.proofs.filter_steps.MachineOnSteps.start.Goals as goal

pub returns-in-None : goal.returns-in-None
returns-in-None g c =
    started g.G.Ground.state (meant c.args.need.now) c.args.self.now _ c.start_gone.new.self (with_desk c.start_gone.new.self c.self.view_is) c.start_gone.result
    (λ s h. subst (λ (v : View). BeginsBy (meant c.args.need.now) v c.args.self.now.desk c.start_gone.result c.start_gone.new.self)
    (view_gone g.G.Ground.state c.args.self.now s h c.args.need.now.item (sym (c.row.ensures ∙ ap (λ (x : Held _). row_of x.known.table.rows c.args.need.now.item) c.self.view_is) ∙ ap option_copied c.in-None.is))
    (subst (λ (d : Desk). BeginsBy (meant c.args.need.now) no_view d c.start_gone.result c.start_gone.new.self) (seen_desk c.self.view_is) c.start_gone.ensures.begins))
    (λ f is. subst (λ (d : Desk). IfRefused f d c.start_gone.new.self) (seen_desk c.self.view_is) (err_is c.start_gone.result (λ e. IfRefused e c.self.inside.desk c.start_gone.new.self) f c.start_gone.ensures.refused is))

pub returns : goal.returns
returns g c =
    started g.G.Ground.state (meant c.args.need.now) c.args.self.now _ c.start_on.new.self (with_desk c.start_on.new.self c.self.view_is) c.start_on.result
    (λ s h.
    let v = view_there g.G.Ground.state c.args.self.now s h c.args.need.now.item c.in-Some.row.now (sym (c.row.ensures ∙ ap (λ (x : Held _). row_of x.known.table.rows c.args.need.now.item) c.self.view_is) ∙ ap option_copied c.in-Some.is) in
    subst (λ (w : View). BeginsBy (meant c.args.need.now) w c.args.self.now.desk c.start_on.result c.start_on.new.self) v.3
    (subst (λ (d : Desk). BeginsBy (meant c.args.need.now) (view_of d.policy v.0) d c.start_on.result c.start_on.new.self) (seen_desk c.self.view_is) (c.start_on.ensures.begins v.0 v.1 v.2)))
    (λ f is. subst (λ (d : Desk). IfRefused f d c.start_on.new.self) (seen_desk c.self.view_is) (err_is c.start_on.result (λ e. IfRefused e c.self.inside.desk c.start_on.new.self) f c.start_on.ensures.refused is))
