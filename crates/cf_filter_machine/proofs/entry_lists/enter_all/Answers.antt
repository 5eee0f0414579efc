use Rattle.std.proofs.Common.{◌∙◌, List, subst, sym}
use Rattle.std.specs.Prelude.{Err}
use Rattle.cf_base.specs.declared.changes.Change.{Change}
use Rattle.cf_filter_machine.proofs.EnterSteps.{enters_err, enters_lost}
use Rattle.cf_filter_machine.specs.Entering.{Enters, MayEnter, held}
use Rattle.cf_filter_machine.specs.Sensing.{Stands}
use Rattle.cf_model.specs.Operations.{changes_with}
use Rattle.cf_filter_machine.proofs.entry_lists.enter_all.Goals as goal

pub returns-then-not-are_short-clause-does : goal.returns-then-not-are_short-clause-does
returns-then-not-are_short-clause-does g c = λ dir f.
    enters_lost g.G.Ground.state dir (Stands g.G.Ground.state) (MayEnter f dir c.args.changes.now c.args.records.now) (changes_with f c.args.changes.now) (held c.args.volume.now c.args.desk.now)

pub returns-in_default-clause-does : goal.returns-in_default-clause-does
returns-in_default-clause-does g c = λ dir f.
    enters_lost g.G.Ground.state dir (Stands g.G.Ground.state) (MayEnter f dir c.args.changes.now c.args.records.now) (changes_with f c.args.changes.now) (held c.args.volume.now c.args.desk.now)

pub returns-in_err-enter_before-clause-does : goal.returns-in_err-enter_before-clause-does
returns-in_err-enter_before-clause-does g c = λ dir f.
    enters_err g.G.Ground.state dir (Stands g.G.Ground.state) (MayEnter f dir c.args.changes.now c.args.records.now) (changes_with f c.args.changes.now) (held c.args.volume.now c.args.desk.now) (held c.enter_before.new.volume c.enter_before.new.desk)
    c.in_err-enter_before.field-0.0 c.from_residual.result c.from_residual.ensures.1
    (subst (λ (l : List Change). Enters g.G.Ground.state dir (Stands g.G.Ground.state) (MayEnter f dir l c.args.records.now) (changes_with f l) (held c.args.volume.now c.args.desk.now) (Err c.in_err-enter_before.field-0.0) (held c.enter_before.new.volume c.enter_before.new.desk))
    (sym c.in-Some.ensures.cases.0) (c.in_err-enter_before.ensures.does dir f c.in-Some.last.now c.args.records.now))

pub enter_last-requires : goal.enter_last-requires
enter_last-requires g c = c.are_short.ensures.yes c.if-not-are_short.false

pub returns-clause-does : goal.returns-clause-does
returns-clause-does g c = λ dir f.
    subst (λ (l : List Change). Enters g.G.Ground.state dir (Stands g.G.Ground.state) (MayEnter f dir l c.args.records.now) (changes_with f l) (held c.args.volume.now c.args.desk.now) c.enter_last.result (held c.enter_last.new.volume c.enter_last.new.desk))
    (sym c.in-Some.ensures.cases.0)
    (c.in_ok-enter_before.ensures.does dir f c.in-Some.last.now c.args.records.now c.enter_last.result (held c.enter_last.new.volume c.enter_last.new.desk) (c.enter_last.ensures.does dir f))

pub returns-clause-same : goal.returns-clause-same
returns-clause-same g c = c.enter_last.ensures.same ∙ c.in_ok-enter_before.ensures.same
