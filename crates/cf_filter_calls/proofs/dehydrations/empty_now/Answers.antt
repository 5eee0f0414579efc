use Rattle.std.proofs.Common.{refl}
use Rattle.cf_base.specs.declared.changes.Change.TheVariants as change
use Rattle.cf_model.specs.Dehydration.{empty_now}
use Rattle.cf_filter_calls.specs.Emptying.{MayEmpty}
use Rattle.cf_filter_steps.proofs.Laws.{with_err}
use Rattle.cf_filter_calls.proofs.Dehydrated.{emptied_not, emptied_on, none_left}
use Rattle.cf_filter_calls.proofs.dehydrations.empty_now.Goals as goal

pub returns-then-lacks_place : goal.returns-then-lacks_place
returns-then-lacks_place g c = none_left g.S.Steps.sense c.args.id c.args.start c.args.len c.lacks_place.result c.args.s.now c.lacks_place.ensures c.if-lacks_place.true

pub returns-in_err-change : goal.returns-in_err-change
returns-in_err-change g c = λ i. with_err g.S.Steps.sense (MayEmpty c.args.id c.args.start c.args.len i) (empty_now i c.args.start c.args.len) c.args.s.now c.change.new.self c.in_err-change.field-0.0 c.from_residual.result c.from_residual.ensures.1
    (emptied_not g.S.Steps.sense c.args.id c.args.start c.args.len c.lacks_place.result c.in_err-change.field-0.0 (change.Emptied c.args.id c.args.start c.args.len) c.args.s.now c.change.new.self c.lacks_place.ensures c.if-lacks_place.false refl c.in_err-change.ensures.does i)

pub returns : goal.returns
returns g c = emptied_on g.S.Steps.sense c.args.id c.args.start c.args.len c.lacks_place.result c.in_ok-change.field-0 (change.Emptied c.args.id c.args.start c.args.len) c.args.s.now c.change.new.self c.lacks_place.ensures c.if-lacks_place.false refl c.in_ok-change.ensures.does
