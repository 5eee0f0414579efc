use Rattle.std.proofs.Common.{◌+◌, ◌++◌, ◌∙◌, List, ap, arith, not, refl, subst, sym}
use Rattle.std.specs.Prelude.{filter, map}
use Rattle.cf_model.specs.Requests.{Live, Waiting}
use Rattle.cf_waits.proofs.Turned.{asks_rise, kept_is, on_err, turned_is, waits_rise}
use Rattle.cf_waits.specs.Sound.{IsSound}
use Rattle.cf_waits.specs.Steps.{changed_by, is_gone, turned}
use Rattle.cf_waits.proofs.requests.Requests.turn.Goals as goal

pub turn_waits-requires-clause-rising : goal.turn_waits-requires-clause-rising
turn_waits-requires-clause-rising c = waits_rise c.args.self.now _ c.args.begun.now c.make_room.new.waits.waits c.self.view_is c.self.invariant.2 c.requires.next c.make_room.ensures.waits

pub turn_asks-requires-clause-rising : goal.turn_asks-requires-clause-rising
turn_asks-requires-clause-rising c =
    asks_rise (turned c.args.begun.now c.args.ended.now c.args.cancelled.now c.args.dropped c.args.changed c.args.made.items c.args.self.now) _ c.requires.sound
    (ap (λ (l : List Live). map (changed_by c.args.changed) (filter (λ a. not (is_gone c.args.cancelled.now c.args.dropped a)) l) ++ c.args.made.items) (c.make_room.ensures.asks ∙ ap (λ (s : Waiting). s.asks) c.self.view_is))

pub turn_asks-requires-clause-room : goal.turn_asks-requires-clause-room
turn_asks-requires-clause-room c = omega (arith, c.in_ok-make_room.ensures.room_asks, c.len-asks.ensures, c.args.made.ok)

pub turn_waits-requires-clause-room : goal.turn_waits-requires-clause-room
turn_waits-requires-clause-room c = c.in_ok-make_room.ensures.room_waits

pub invariant_of-self : goal.invariant_of-self
invariant_of-self c = (c.self.invariant.0, c.self.invariant.1, subst (λ (s : Waiting). IsSound s) (c.self.view_is ∙ sym (kept_is c.args.self.now _ c.make_room.new.waits.waits c.make_room.new.asks.asks c.self.view_is c.make_room.ensures.waits c.make_room.ensures.asks)) c.self.invariant.2, tt)

pub returns-in_err-make_room-clause-err : goal.returns-in_err-make_room-clause-err
returns-in_err-make_room-clause-err c = on_err c.from_residual.result _ (kept_is c.args.self.now _ c.make_room.new.waits.waits c.make_room.new.asks.asks c.self.view_is c.make_room.ensures.waits c.make_room.ensures.asks)

pub invariant_of-self-2 : goal.invariant_of-self-2
invariant_of-self-2 c = (
  omega (arith, c.requires.waits, ap (λ (s : Waiting). s.wait_count) c.self.view_is),
  omega (arith, c.requires.keys, c.len-asks.ensures, c.args.made.ok, ap (λ (s : Waiting). s.key_count) c.self.view_is),
  subst (λ (s : Waiting). IsSound s)
      (sym (turned_is c.args.begun.now c.args.ended.now c.args.cancelled.now c.args.dropped c.args.changed c.args.made.items c.args.self.now _ c.turn_waits.new.book.waits c.make_room.new.waits.waits c.turn_asks.new.book.asks c.make_room.new.asks.asks _ _
      c.self.view_is c.make_room.ensures.waits c.make_room.ensures.asks c.turn_waits.ensures c.turn_asks.ensures
      refl (omega (arith, c.len-asks.ensures, c.args.made.ok))))
      c.requires.sound,
  tt,
)

pub returns-clause-ok : goal.returns-clause-ok
returns-clause-ok c =
    turned_is c.args.begun.now c.args.ended.now c.args.cancelled.now c.args.dropped c.args.changed c.args.made.items c.args.self.now _ c.turn_waits.new.book.waits c.make_room.new.waits.waits c.turn_asks.new.book.asks c.make_room.new.asks.asks _ _
    c.self.view_is c.make_room.ensures.waits c.make_room.ensures.asks c.turn_waits.ensures c.turn_asks.ensures
    refl (omega (arith, c.len-asks.ensures, c.args.made.ok))
