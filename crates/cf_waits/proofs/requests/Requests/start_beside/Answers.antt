use Rattle.std.proofs.Common.{◌≡◌, ◌+◌, ◌≤◌, ◌∙◌, List, None, Some, ap, arith, cond, length, refl, sym}
use Rattle.cf_ask_rule.specs.Sights.{shown}
use Rattle.cf_model.specs.Asks.{step_of}
use Rattle.cf_model.specs.Missing.{View, Wait}
use Rattle.cf_model.specs.Requests.{Nothing, Told, Waiting, with_waits}
use Rattle.cf_waits.proofs.Counts.{numbers_suffice, waits_suffice}
use Rattle.cf_waits.proofs.Planning.{first_count, first_next, first_on}
use Rattle.cf_waits.specs.Steps.{begun_id, carried, limit_of, moved_of, tried}
use Rattle.cf_waits.specs.declared.limits.Limits.{Limits}
use Rattle.cf_waits.proofs.requests.Requests.start_beside.Goals as goal

pub look_begun-requires-clause-next : goal.look_begun-requires-clause-next
look_begun-requires-clause-next c = first_next c.args.kind c.args.item c.args.handle c.args.span c.args.beside c.args.self.now c.as_slice-waits.result.now (c.as_slice-waits.ensures.value ∙ c.in_ok-begun.ensures)

pub look_begun-requires-clause-on : goal.look_begun-requires-clause-on
look_begun-requires-clause-on c = first_on c.args.kind c.args.item c.args.handle c.args.span c.args.beside c.args.self.now c.as_slice-waits.result.now (c.as_slice-waits.ensures.value ∙ c.in_ok-begun.ensures)

pub take_begun-requires-clause-planned : goal.take_begun-requires-clause-planned
take_begun-requires-clause-planned c = (c.args.item, c.in_ok-sight.sight, Nothing, c.in_ok-step.ensures.planned, c.in_ok-step.ensures.seen.0, c.in_ok-step.ensures.seen.1)

pub take_begun-requires-clause-next : goal.take_begun-requires-clause-next
take_begun-requires-clause-next c = first_next c.args.kind c.args.item c.args.handle c.args.span c.args.beside c.args.self.now c.as_slice-waits.result.now (c.as_slice-waits.ensures.value ∙ c.in_ok-begun.ensures)

pub take_begun-requires-clause-numbers : goal.take_begun-requires-clause-numbers
take_begun-requires-clause-numbers c =
    let after : Waiting = (carried c.in_ok-step.step (with_waits c.as_slice-waits.result.now c.args.self.now)).1 in
    numbers_suffice c.args.kind after (ap (λ (l : Limits). limit_of l after) (sym c.limits_of.ensures) ∙ sym c.limit_with.ensures ∙ c.in_default.is)

pub take_begun-requires-clause-count : goal.take_begun-requires-clause-count
take_begun-requires-clause-count c =
    let after : Waiting = (carried c.in_ok-step.step (with_waits c.as_slice-waits.result.now c.args.self.now)).1 in
    let fits : c.args.self.now.wait_count + length c.as_slice-waits.result.now ≤ 4294967295 =
    waits_suffice c.in_ok-step.step (with_waits c.as_slice-waits.result.now c.args.self.now) (numbers_suffice c.args.kind after (ap (λ (l : Limits). limit_of l after) (sym c.limits_of.ensures) ∙ sym c.limit_with.ensures ∙ c.in_default.is)) in
    let count : length c.as_slice-waits.result.now ≡ 1 + cond c.args.beside 1 0 =
    first_count c.args.kind c.args.item c.args.handle c.args.span c.args.beside c.args.self.now c.as_slice-waits.result.now (c.as_slice-waits.ensures.value ∙ c.in_ok-begun.ensures) in
    omega arith

pub returns-in-Some : goal.returns-in-Some
returns-in-Some c =
    let after : Told × Waiting = step_of c.args.item (shown c.args.v.now) Nothing (tried c.args.kind c.args.item c.args.handle c.args.span c.args.beside c.args.self.now) in
    let planned : carried c.in_ok-step.step (with_waits c.as_slice-waits.result.now c.args.self.now) ≡ after =
    c.in_ok-step.ensures.planned ∙ ap (λ (v : View). step_of c.args.item v Nothing (with_waits c.as_slice-waits.result.now c.args.self.now)) c.in_ok-sight.ensures
    ∙ ap (λ (ws : List Wait). step_of c.args.item (shown c.args.v.now) Nothing (with_waits ws c.args.self.now)) (c.as_slice-waits.ensures.value ∙ c.in_ok-begun.ensures) in
    (ap (λ (l : Limits). limit_of l after.1) (sym c.limits_of.ensures) ∙ ap (λ (x : Told × Waiting). limit_of c.limits_of.result x.1) (sym planned) ∙ sym c.limit_with.ensures ∙ c.in-Some.is, refl)

pub returns : goal.returns
returns c =
    let after : Told × Waiting = step_of c.args.item (shown c.args.v.now) Nothing (tried c.args.kind c.args.item c.args.handle c.args.span c.args.beside c.args.self.now) in
    let planned : carried c.in_ok-step.step (with_waits c.as_slice-waits.result.now c.args.self.now) ≡ after =
    c.in_ok-step.ensures.planned ∙ ap (λ (v : View). step_of c.args.item v Nothing (with_waits c.as_slice-waits.result.now c.args.self.now)) c.in_ok-sight.ensures
    ∙ ap (λ (ws : List Wait). step_of c.args.item (shown c.args.v.now) Nothing (with_waits ws c.args.self.now)) (c.as_slice-waits.ensures.value ∙ c.in_ok-begun.ensures) in (
      ap (λ (l : Limits). limit_of l after.1) (sym c.limits_of.ensures) ∙ ap (λ (x : Told × Waiting). limit_of c.limits_of.result x.1) (sym planned) ∙ sym c.limit_with.ensures ∙ c.in_default.is,
      c.in_ok-began.ensures.id,
      c.in_ok-began.ensures.moves ∙ ap (λ (x : Told × Waiting). moved_of (cond c.args.beside (Some (begun_id 1 c.args.self.now)) None) x.0) planned,
      c.in_ok-began.ensures.ok ∙ ap (λ (x : Told × Waiting). x.1) planned,
    )
