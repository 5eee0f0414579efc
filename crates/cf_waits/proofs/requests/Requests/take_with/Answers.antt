use Rattle.std.proofs.Common.{◌≡◌, ◌+◌, ◌≤◌, ◌∙◌, List, ap, arith, length, subst, sym}
use Rattle.std.specs.List.{AllByRecursion}
use Rattle.cf_ask_rule.specs.Plans.{Planned}
use Rattle.cf_model.specs.Asks.{step_of, with_keys}
use Rattle.cf_model.specs.Requests.{Live, Waiting, with_waits}
use Rattle.cf_waits.proofs.Counts.{keys_suffice, length_keyed, waits_suffice}
use Rattle.cf_waits.proofs.Turned.{carried_is, keyed_fresh, planned_sound}
use Rattle.cf_ask_rule.proofs.Settling.{settles}
use Rattle.cf_ask_rule.specs.Settled.{IsSettled}
use Rattle.cf_base.specs.declared.ids.ItemId.{ItemId}
use Rattle.cf_model.specs.Missing.{View}
use Rattle.cf_model.specs.Requests.{Told}
use Rattle.cf_waits.specs.Sound.{IsSound}
use Rattle.cf_waits.specs.Steps.{IsPlanned, carried}
use Rattle.cf_waits.proofs.requests.Requests.take_with.Goals as goal

pub with_keys-requires : goal.with_keys-requires
with_keys-requires c =
    let fits : c.args.self.now.key_count + length c.args.step.made ≤ 4294967295 = keys_suffice c.args.step (with_waits c.args.begun.now c.args.self.now) c.requires.numbers in
    let made : length c.deref.result.now ≡ length c.args.step.made = ap (λ (v : List Live). length v) c.deref.ensures.value ∙ ap (λ (p : Planned). length p.made) c.step.view_is in
    let count : c.self.inside.key_count ≡ c.args.self.now.key_count = ap (λ (s : Waiting). s.key_count) c.self.view_is in
    omega arith

pub turn-requires-clause-begins : goal.turn-requires-clause-begins
turn-requires-clause-begins c =
    keyed_fresh _ _ c.deref.result.now c.in_ok-keyed.keyed.items (subst (λ (l : List Live). AllByRecursion (λ a. a.ticks ≡ 0) l) (sym c.deref.ensures.value) c.step.invariant) c.in_ok-keyed.ensures

pub turn-requires-clause-sound : goal.turn-requires-clause-sound
turn-requires-clause-sound c =
    let keyed : c.in_ok-keyed.keyed.items ≡ with_keys c.args.self.now.epoch c.args.self.now.key_count c.args.step.made =
    c.in_ok-keyed.ensures ∙ ap (λ (s : Waiting). with_keys s.epoch s.key_count c.deref.result.now) c.self.view_is ∙ ap (λ (l : List Live). with_keys c.args.self.now.epoch c.args.self.now.key_count l) (c.deref.ensures.value ∙ ap (λ (p : Planned). p.made) c.step.view_is) in
    subst (λ (s : Waiting). IsSound s)
    (sym (carried_is c.args.begun.now _ _ _ _ c.in_ok-keyed.keyed.items c.args.step c.args.self.now (c.deref-4.ensures.value ∙ ap (λ (p : Planned). p.ended) c.step.view_is) (c.deref-5.ensures.value ∙ ap (λ (p : Planned). p.cancelled) c.step.view_is)
    (ap (λ (p : Planned). p.dropped) c.step.view_is) (ap (λ (p : Planned). p.changed) c.step.view_is) keyed))
    (planned_sound c.args.step c.args.self.now _ c.args.begun.now c.self.view_is c.self.invariant.2 c.requires.next c.requires.planned)

pub turn-requires-clause-waits : goal.turn-requires-clause-waits
turn-requires-clause-waits c = waits_suffice c.args.step (with_waits c.args.begun.now c.args.self.now) c.requires.numbers

pub turn-requires-clause-keys : goal.turn-requires-clause-keys
turn-requires-clause-keys c =
    let fits : c.args.self.now.key_count + length c.args.step.made ≤ 4294967295 = keys_suffice c.args.step (with_waits c.args.begun.now c.args.self.now) c.requires.numbers in
    let keyed : length c.in_ok-keyed.keyed.items ≡ length c.args.step.made =
    ap (λ (v : List Live). length v) c.in_ok-keyed.ensures ∙ length_keyed c.self.inside.epoch c.self.inside.key_count c.deref.result.now ∙ ap (λ (v : List Live). length v) c.deref.ensures.value ∙ ap (λ (p : Planned). length p.made) c.step.view_is in
    omega arith

pub remember-requires : goal.remember-requires
remember-requires c =
    let p : IsPlanned c.args.step (with_waits c.args.begun.now c.args.self.now) = c.requires.planned in
    let keyed : c.in_ok-keyed.keyed.items ≡ with_keys c.args.self.now.epoch c.args.self.now.key_count c.args.step.made =
    c.in_ok-keyed.ensures ∙ ap (λ (s : Waiting). with_keys s.epoch s.key_count c.deref.result.now) c.self.view_is ∙ ap (λ (l : List Live). with_keys c.args.self.now.epoch c.args.self.now.key_count l) (c.deref.ensures.value ∙ ap (λ (p : Planned). p.made) c.step.view_is) in
    let turned : c.turn.new.self ≡ (carried c.args.step (with_waits c.args.begun.now c.args.self.now)).1 =
    c.in_ok-turn.ensures.ok
    ∙ carried_is c.args.begun.now _ _ _ _ c.in_ok-keyed.keyed.items c.args.step c.args.self.now (c.deref-4.ensures.value ∙ ap (λ (p : Planned). p.ended) c.step.view_is) (c.deref-5.ensures.value ∙ ap (λ (p : Planned). p.cancelled) c.step.view_is)
    (ap (λ (p : Planned). p.dropped) c.step.view_is) (ap (λ (p : Planned). p.changed) c.step.view_is) keyed in
    subst (λ (s : Waiting). IsSettled c.step.inside.item c.step.inside.sight s.waits s.asks) (sym (turned ∙ ap (λ (x : Told × Waiting). x.1) p.3))
    (subst (λ (i : ItemId). IsSettled i c.step.inside.sight (step_of p.0 p.1 p.2 (with_waits c.args.begun.now c.args.self.now)).1.waits (step_of p.0 p.1 p.2 (with_waits c.args.begun.now c.args.self.now)).1.asks) (sym (ap (λ (p : Planned). p.item) c.step.view_is ∙ p.4))
    (subst (λ (v : View). IsSettled p.0 v (step_of p.0 p.1 p.2 (with_waits c.args.begun.now c.args.self.now)).1.waits (step_of p.0 p.1 p.2 (with_waits c.args.begun.now c.args.self.now)).1.asks) (sym (ap (λ (p : Planned). p.view) c.step.view_is ∙ p.5))
    (settles p.0 p.1 p.2 (with_waits c.args.begun.now c.args.self.now))))

pub returns-clause-ok : goal.returns-clause-ok
returns-clause-ok c =
    let keyed : c.in_ok-keyed.keyed.items ≡ with_keys c.args.self.now.epoch c.args.self.now.key_count c.args.step.made =
    c.in_ok-keyed.ensures ∙ ap (λ (s : Waiting). with_keys s.epoch s.key_count c.deref.result.now) c.self.view_is ∙ ap (λ (l : List Live). with_keys c.args.self.now.epoch c.args.self.now.key_count l) (c.deref.ensures.value ∙ ap (λ (p : Planned). p.made) c.step.view_is) in
    c.remember.ensures ∙ c.in_ok-turn.ensures.ok
    ∙ carried_is c.args.begun.now _ _ _ _ c.in_ok-keyed.keyed.items c.args.step c.args.self.now (c.deref-4.ensures.value ∙ ap (λ (p : Planned). p.ended) c.step.view_is) (c.deref-5.ensures.value ∙ ap (λ (p : Planned). p.cancelled) c.step.view_is)
    (ap (λ (p : Planned). p.dropped) c.step.view_is) (ap (λ (p : Planned). p.changed) c.step.view_is) keyed
