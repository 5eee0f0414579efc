use Rattle.std.proofs.Common.{◌++◌, ◌+◌, ◌∷◌, [], ◌∙◌, List, drop, refl, subst, sym}
use Rattle.std.proofs.Math.ListN.{drop_of_length-le}
use Rattle.std.specs.Prelude.{Err}
use Rattle.cf_base.specs.declared.changes.Change.{Change}
use Rattle.cf_filter_machine.proofs.EnterSteps.{enters_more, enters_stops, goes_err}
use Rattle.cf_filter_machine.specs.Entering.{Enters, MayEnter, held}
use Rattle.cf_filter_machine.specs.Sensing.{Stands}
use Rattle.cf_model.specs.Operations.{changes_with}
use Rattle.cf_filter_steps.proofs.Laws.{drop_at}
use Rattle.cf_filter_machine.proofs.entry_lists.enter_before.Goals as goal

pub loop-change-init : goal.loop-change-init
loop-change-init g c = (λ dir f last records r y h. h, refl)

pub loop-change-preserved : goal.loop-change-preserved
loop-change-preserved g c = (
  λ dir f last records r y rest. c.loop-change.invariant.0 dir f last records r y
      (subst (λ (l : List Change). Enters g.G.Ground.state dir (Stands g.G.Ground.state) (MayEnter f dir (l ++ last ∷ []) records) (changes_with f (l ++ last ∷ [])) (held c.loop-change.volume c.loop-change.desk) r y)
      (sym (drop_at c.args.before.now c.loop-change.change-index c.change-item.result c.loop-change-test.true c.change-item.is))
      (enters_more g.G.Ground.state dir (Stands g.G.Ground.state) f c.change-item.result last (drop (c.loop-change.change-index + 1) c.args.before.now) records (held c.loop-change.volume c.loop-change.desk) (held c.enter_one.new.volume c.enter_one.new.desk) y r
      (c.in_ok-enter_one.ensures.does dir) rest)),
  c.in_ok-enter_one.ensures.same ∙ c.loop-change.invariant.1,
)

pub returns-in_err-enter_one-clause-does : goal.returns-in_err-enter_one-clause-does
returns-in_err-enter_one-clause-does g c = λ dir f last records.
    goes_err g.G.Ground.state dir f last records c.args.before.now (held c.args.volume.now c.args.desk.now) (held c.enter_one.new.volume c.enter_one.new.desk) c.in_err-enter_one.field-0.0 c.from_residual.result c.from_residual.ensures.1
    (c.loop-change.invariant.0 dir f last records (Err c.in_err-enter_one.field-0.0) (held c.enter_one.new.volume c.enter_one.new.desk)
    (subst (λ (l : List Change). Enters g.G.Ground.state dir (Stands g.G.Ground.state) (MayEnter f dir (l ++ last ∷ []) records) (changes_with f (l ++ last ∷ [])) (held c.loop-change.volume c.loop-change.desk) (Err c.in_err-enter_one.field-0.0) (held c.enter_one.new.volume c.enter_one.new.desk))
    (sym (drop_at c.args.before.now c.loop-change.change-index c.change-item.result c.loop-change-test.true c.change-item.is))
    (enters_stops g.G.Ground.state dir (Stands g.G.Ground.state) f c.change-item.result last (drop (c.loop-change.change-index + 1) c.args.before.now) records (held c.loop-change.volume c.loop-change.desk) (held c.enter_one.new.volume c.enter_one.new.desk) c.in_err-enter_one.field-0.0
    (c.in_err-enter_one.ensures.does dir))))

pub returns-in_err-enter_one-clause-same : goal.returns-in_err-enter_one-clause-same
returns-in_err-enter_one-clause-same g c = c.enter_one.ensures.same ∙ c.loop-change.invariant.1

pub returns-clause-does : goal.returns-clause-does
returns-clause-does g c = λ dir f last records r y rest.
    c.loop-change.invariant.0 dir f last records r y
    (subst (λ (l : List Change). Enters g.G.Ground.state dir (Stands g.G.Ground.state) (MayEnter f dir (l ++ last ∷ []) records) (changes_with f (l ++ last ∷ [])) (held c.loop-change.volume c.loop-change.desk) r y)
    (sym (drop_of_length-le c.args.before.now c.loop-change-test.false)) rest)

pub returns-clause-same : goal.returns-clause-same
returns-clause-same g c = c.loop-change.invariant.1
