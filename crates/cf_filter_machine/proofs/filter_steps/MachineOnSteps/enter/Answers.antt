use Rattle.std.proofs.Common.{◌∙◌, ap, subst}
use Rattle.cf_filter_machine.proofs.AnswerSteps.{on_ok}
use Rattle.cf_filter_machine.proofs.DeskSteps.{seen_desk}
use Rattle.cf_filter_machine.proofs.Listings.{entered}
use Rattle.cf_filter_machine.specs.Entering.{Enters, MayEnter, held}
use Rattle.cf_filter_desk.specs.Desks.{Desk}
use Rattle.cf_filter_machine.specs.Held.{Held}
use Rattle.cf_filter_machine.specs.Sensing.{Stands}
use Rattle.cf_model.specs.Operations.{changes_with}
use Rattle.cf_filter_machine.proofs.filter_steps.MachineOnSteps.enter.Goals as goal

pub returns-clause-does : goal.returns-clause-does
returns-clause-does g c = λ f.
    entered g.G.Ground.state f c.args.dir c.args.changes.now c.args.records.now c.args.self.now (held c.enter_all.new.volume c.enter_all.new.desk) c.enter_all.result
    (subst (λ (x : Held _). Enters g.G.Ground.state c.args.dir (Stands g.G.Ground.state) (MayEnter f c.args.dir c.args.changes.now c.args.records.now) (changes_with f c.args.changes.now) x c.enter_all.result (held c.enter_all.new.volume c.enter_all.new.desk))
    c.self.view_is (c.enter_all.ensures.does c.args.dir f))

pub returns-clause-same : goal.returns-clause-same
returns-clause-same g c = on_ok c.enter_all.result (c.enter_all.ensures.same ∙ ap (λ (d : Desk). d.waiting) (seen_desk c.self.view_is))
