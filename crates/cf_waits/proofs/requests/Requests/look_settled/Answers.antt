use Rattle.std.proofs.Common.{◌≡◌, ◌∙◌, List, None, [], ap, subst, sym}
use Rattle.std.specs.List.{AllByRecursion}
use Rattle.cf_base.specs.declared.ids.Key.{Key}
use Rattle.cf_model.specs.Asks.{left_of, new_asks, why}
use Rattle.cf_model.specs.Requests.{Live, Nothing, Waiting, with_waits}
use Rattle.cf_waits.proofs.Beside.{beside, needs_left}
use Rattle.cf_waits.proofs.Soundness.{new_fresh}
use Rattle.cf_waits.specs.Sound.{IsSound}
use Rattle.cf_waits.specs.Steps.{carried}
use Rattle.cf_waits.proofs.requests.Requests.look_settled.Goals as goal

pub invariant_of-result : goal.invariant_of-result
invariant_of-result c = subst (λ (l : List Live). AllByRecursion (λ a. a.ticks ≡ 0) l) (sym c.in_ok-ended.ensures.made)
    (new_fresh c.args.item c.args.sight (left_of (why c.args.item c.args.sight Nothing []) c.args.begun.now) c.behind-asks.result.now)

pub returns-clause-planned : goal.returns-clause-planned
returns-clause-planned c = ap (λ (k : List Key). carried (record { ended = c.in_ok-ended.ended.items; cancelled = k; dropped = None; changed = None; made = c.in_ok-ended.made.items; item = c.args.item; view = c.args.sight }) (with_waits c.args.begun.now c.args.self.now)) c.new.ensures.items
    ∙ beside c.args.item c.args.sight _ _ c.args.self.now c.args.begun.now c.requires.settled (subst (λ (s : Waiting). IsSound s) c.self.view_is c.self.invariant.2) c.requires.next c.in_ok-ended.ensures.ended
    (c.in_ok-ended.ensures.made ∙ c.behind-asks.ensures c.args.item c.args.sight (left_of (why c.args.item c.args.sight Nothing []) c.args.begun.now) c.size-size.ensures.small
    (needs_left c.args.sight c.first_block.result (why c.args.item c.args.sight Nothing []) c.args.begun.now c.first_block.ensures) ∙ ap (λ (s : Waiting). new_asks c.args.item c.args.sight (left_of (why c.args.item c.args.sight Nothing []) c.args.begun.now) s.asks) c.self.view_is)
