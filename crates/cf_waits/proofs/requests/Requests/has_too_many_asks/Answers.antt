use Rattle.std.proofs.Common.{◌&&◌, ◌∙◌, List, ap, arith, length, not}
use Rattle.std.specs.Prelude.{count_by, filter}
use Rattle.cf_ask_rule.specs.Plans.{Planned}
use Rattle.cf_base.specs.declared.ids.Key.{Key}
use Rattle.cf_model.specs.Requests.{Live, Waiting}
use Rattle.cf_waits.proofs.Counts.{asks_few, asks_first, asks_rest}
use Rattle.cf_waits.specs.Books.{is_plain_ask}
use Rattle.cf_waits.specs.Steps.{is_gone}
use Rattle.cf_waits.proofs.requests.Requests.has_too_many_asks.Goals as goal

pub returns-then-saturating_add-le-MOST_ASKS : goal.returns-then-saturating_add-le-MOST_ASKS
returns-then-saturating_add-le-MOST_ASKS c =
    asks_few c.plain.result c.args.step.now.cancelled c.args.step.now.dropped c.args.step.now.changed c.args.self.now.epoch c.args.self.now.key_count c.args.self.now.asks c.args.step.now.made
    (c.plain.ensures ∙ ap (λ (s : Waiting). length (filter is_plain_ask s.asks)) c.self.view_is)
    (omega (arith, c.if-saturating_add-le-MOST_ASKS.true, c.saturating_add.ensures, c.len.ensures, c.step.inside.made.ok, ap (λ (p : Planned). length p.made) c.step.view_is))

pub returns-then-live-gt-MOST_ASKS : goal.returns-then-live-gt-MOST_ASKS
returns-then-live-gt-MOST_ASKS c =
    asks_first c.plain_but-live.result c.args.step.now.cancelled c.args.step.now.dropped c.args.step.now.changed c.args.self.now.epoch c.args.self.now.key_count c.args.self.now.asks c.args.step.now.made
    (c.plain_but-live.ensures ∙ ap (λ (ks : List Key). count_by (λ a. not (is_gone ks c.step.inside.dropped a) && is_plain_ask a) c.self.inside.asks.asks) c.deref.ensures.value
    ∙ ap (λ (p : Planned). count_by (λ a. not (is_gone p.cancelled p.dropped a) && is_plain_ask a) c.self.inside.asks.asks) c.step.view_is
    ∙ ap (λ (s : Waiting). count_by (λ a. not (is_gone c.args.step.now.cancelled c.args.step.now.dropped a) && is_plain_ask a) s.asks) c.self.view_is)
    c.if-live-gt-MOST_ASKS.true

pub returns-else-live-gt-MOST_ASKS : goal.returns-else-live-gt-MOST_ASKS
returns-else-live-gt-MOST_ASKS c =
    asks_rest c.plain_but-live.result c.plain_asks.result c.args.step.now.cancelled c.args.step.now.dropped c.args.step.now.changed c.args.self.now.epoch c.args.self.now.key_count c.args.self.now.asks c.args.step.now.made
    (c.plain_but-live.ensures ∙ ap (λ (ks : List Key). count_by (λ a. not (is_gone ks c.step.inside.dropped a) && is_plain_ask a) c.self.inside.asks.asks) c.deref.ensures.value
    ∙ ap (λ (p : Planned). count_by (λ a. not (is_gone p.cancelled p.dropped a) && is_plain_ask a) c.self.inside.asks.asks) c.step.view_is
    ∙ ap (λ (s : Waiting). count_by (λ a. not (is_gone c.args.step.now.cancelled c.args.step.now.dropped a) && is_plain_ask a) s.asks) c.self.view_is)
    (c.plain_asks.ensures ∙ ap (λ (as' : List Live). count_by is_plain_ask as') (c.deref-else-live-gt-MOST_ASKS.ensures.value ∙ ap (λ (p : Planned). p.made) c.step.view_is))
    (omega (arith, c.if-live-gt-MOST_ASKS.false))
