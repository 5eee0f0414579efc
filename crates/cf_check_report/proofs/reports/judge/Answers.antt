use Rattle.std.proofs.Common.{◌+◌, ◌≡◌, ◌≤◌, arith, length, refl, subst, sym, ℕ, List}
use Rattle.std.specs.Prelude.{Option}
use Rattle.std.proofs.lemmas.List.{drop_all}
use Rattle.cf_base.specs.declared.events.Event.{Event}
use Rattle.cf_base.specs.declared.policies.Mode.TheVariants as mode
use Rattle.cf_check_report.proofs.Judging.{ended, followed, judged_on, judged_open, judged_wrong, left_is}
use Rattle.cf_check_report.specs.Following.{Follows}
use Rattle.cf_check_judge.specs.Judge.{at_end}
use Rattle.cf_check_model.specs.Judging.{IsVerdict}
use Rattle.cf_model.specs.State.{start}
use Rattle.cf_model.specs.Store.{empty_remote}
use Rattle.cf_model.specs.Words.{is_empty}
use Rattle.cf_check_report.proofs.reports.judge.Goals as goal

pub loop-index-init : goal.loop-index-init
loop-index-init g c = (
  followed g.D.Device.stands c.args.events.now c.args.report.now c.args.clusters _ c.requires.report
      (subst (λ (o : Option ℕ). g.D.Device.stands c.in_ok-device.device o (start mode.Replay empty_remote c.args.clusters)) c.next_count.ensures c.in_ok-device.ensures),
  refl,
)

pub returns-in-Ok-Wrong : goal.returns-in-Ok-Wrong
returns-in-Ok-Wrong g c =
    let i = c.loop-index.index in
    let all = c.args.events.now in
    let at = subst (λ (es : List Event). Follows g.D.Device.stands all c.args.report.now c.args.clusters i es c.loop-index.rest.now c.loop-index.judge)
    (left_is all i c.index-events-index.result c.behind.result.now c.index-events-index.is c.loop-index-test.true c.behind.ensures) c.loop-index.invariant.0 in
    rw c.unlawful.ensures (
    judged_wrong g.D.Device.stands all c.args.report.now c.args.clusters i c.loop-index.done c.behind.result.now c.loop-index.rest.now c.judge-next.result.0 c.judge-next.result.1 c.in-Ok-Wrong.field-0 c.in-Ok-Wrong.is (rw c.in-Ok-Wrong.is at c.in-Ok-Wrong.field-0-is) c.loop-index.invariant.1
    (c.judge-next.ensures all c.args.report.now c.args.clusters i c.requires.report at)
    )

pub returns-in-Ok-Open : goal.returns-in-Ok-Open
returns-in-Ok-Open g c =
    let i = c.loop-index.index in
    let all = c.args.events.now in
    let at = subst (λ (es : List Event). Follows g.D.Device.stands all c.args.report.now c.args.clusters i es c.loop-index.rest.now c.loop-index.judge)
    (left_is all i c.index-events-index.result c.behind.result.now c.index-events-index.is c.loop-index-test.true c.behind.ensures) c.loop-index.invariant.0 in
    rw c.plain.ensures (
    judged_open g.D.Device.stands all c.args.report.now c.args.clusters i c.loop-index.done c.behind.result.now c.loop-index.rest.now c.judge-next.result.0 c.judge-next.result.1 c.in-Ok-Open.field-0 c.in-Ok-Open.is (rw c.in-Ok-Open.is at c.in-Ok-Open.field-0-is) c.loop-index.invariant.1
    (c.judge-next.ensures all c.args.report.now c.args.clusters i c.requires.report at)
    )

pub loop-index-preserved : goal.loop-index-preserved
loop-index-preserved g c =
    let i = c.loop-index.index in
    let all = c.args.events.now in
    let at = subst (λ (es : List Event). Follows g.D.Device.stands all c.args.report.now c.args.clusters i es c.loop-index.rest.now c.loop-index.judge)
    (left_is all i c.index-events-index.result c.behind.result.now c.index-events-index.is c.loop-index-test.true c.behind.ensures) c.loop-index.invariant.0 in
    let on = judged_on g.D.Device.stands all c.args.report.now c.args.clusters i c.in-Ok-GoesOn.len c.behind.result.now c.loop-index.rest.now c.after-rest.result.now c.judge-next.result.0 c.judge-next.result.1 c.in-Ok-GoesOn.field-0 c.in-Ok-GoesOn.is (rw c.in-Ok-GoesOn.is at c.in-Ok-GoesOn.field-0-is) c.after-rest.ensures
    (c.judge-next.ensures all c.args.report.now c.args.clusters i c.requires.report at) in
    let done : c.loop-index.done + 1 ≡ i + 1 = omega (arith, c.loop-index.invariant.1) in
    (subst (λ (es : List Event). Follows g.D.Device.stands all c.args.report.now c.args.clusters (i + 1) es c.after-rest.result.now c.judge-next.result.0) c.behind.ensures on, done)

pub returns : goal.returns
returns g c =
    let i = c.loop-index.index in
    let all = c.args.events.now in
    let last : length all ≤ i = omega (arith, c.loop-index-test.false) in
    let at = subst (λ (es : List Event). Follows g.D.Device.stands all c.args.report.now c.args.clusters i es c.loop-index.rest.now c.loop-index.judge) (drop_all i all last) c.loop-index.invariant.0 in
    rw c.at_end.ensures (subst (λ (k : ℕ). IsVerdict all c.args.report.now c.args.clusters (at_end (is_empty c.loop-index.rest.now) k)) (sym c.loop-index.invariant.1) (ended g.D.Device.stands all c.args.report.now c.args.clusters i c.loop-index.rest.now c.loop-index.judge c.requires.report at))
