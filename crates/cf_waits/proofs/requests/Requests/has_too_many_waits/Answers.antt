use Rattle.std.proofs.Common.{◌&&◌, ◌∙◌, List, ap, arith, length, not}
use Rattle.std.specs.Prelude.{count_by, filter}
use Rattle.cf_ask_rule.specs.Plans.{Planned}
use Rattle.cf_base.specs.declared.waits.Cause.{Cause}
use Rattle.cf_model.specs.Missing.{Wait}
use Rattle.cf_model.specs.Requests.{Waiting}
use Rattle.cf_waits.proofs.Counts.{waits_few, waits_first, waits_rest}
use Rattle.cf_waits.specs.Books.{is_plain_wait}
use Rattle.cf_waits.specs.Steps.{is_ended}
use Rattle.cf_waits.proofs.requests.Requests.has_too_many_waits.Goals as goal

pub returns-then-saturating_add-le-MOST_WAITS : goal.returns-then-saturating_add-le-MOST_WAITS
returns-then-saturating_add-le-MOST_WAITS c =
    waits_few c.plain.result c.args.step.now.ended c.args.self.now.waits c.args.begun.now (c.plain.ensures ∙ ap (λ (s : Waiting). length (filter is_plain_wait s.waits)) c.self.view_is)
    (omega (arith, c.if-saturating_add-le-MOST_WAITS.true, c.saturating_add.ensures))

pub returns-then-live-gt-MOST_WAITS : goal.returns-then-live-gt-MOST_WAITS
returns-then-live-gt-MOST_WAITS c =
    waits_first c.plain_left-live.result c.args.step.now.ended c.args.self.now.waits c.args.begun.now
    (c.plain_left-live.ensures ∙ ap (λ (es : List (Wait × Cause)). count_by (λ w. not (is_ended es w) && is_plain_wait w) c.waits.result.now) (c.deref.ensures.value ∙ ap (λ (p : Planned). p.ended) c.step.view_is)
    ∙ ap (λ (ws : List Wait). count_by (λ w. not (is_ended c.args.step.now.ended w) && is_plain_wait w) ws) (c.waits.ensures ∙ ap (λ (s : Waiting). s.waits) c.self.view_is))
    c.if-live-gt-MOST_WAITS.true

pub returns-else-live-gt-MOST_WAITS : goal.returns-else-live-gt-MOST_WAITS
returns-else-live-gt-MOST_WAITS c =
    waits_rest c.plain_left-live.result c.plain_left.result c.args.step.now.ended c.args.self.now.waits c.args.begun.now
    (c.plain_left-live.ensures ∙ ap (λ (es : List (Wait × Cause)). count_by (λ w. not (is_ended es w) && is_plain_wait w) c.waits.result.now) (c.deref.ensures.value ∙ ap (λ (p : Planned). p.ended) c.step.view_is)
    ∙ ap (λ (ws : List Wait). count_by (λ w. not (is_ended c.args.step.now.ended w) && is_plain_wait w) ws) (c.waits.ensures ∙ ap (λ (s : Waiting). s.waits) c.self.view_is))
    (c.plain_left.ensures ∙ ap (λ (es : List (Wait × Cause)). count_by (λ w. not (is_ended es w) && is_plain_wait w) c.args.begun.now) (c.deref-else-live-gt-MOST_WAITS.ensures.value ∙ ap (λ (p : Planned). p.ended) c.step.view_is))
    (omega (arith, c.if-live-gt-MOST_WAITS.false))
