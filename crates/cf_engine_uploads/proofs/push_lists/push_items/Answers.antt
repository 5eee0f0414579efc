use Rattle.cf_engine_steps.proofs.Loops.{each_ends, each_exits, each_more}
use Rattle.cf_engine_steps.specs.States.{whole}
use Rattle.cf_engine_uploads.proofs.Listed.{there}
use Rattle.cf_engine_uploads.proofs.NextTurns.{answers_on}
use Rattle.cf_engine_uploads.specs.Turns.{IsNext}
use Rattle.cf_model.specs.Pushes.{push_turn}
use Rattle.std.proofs.Common.{Some, None, get_or, length, subst, arith}
use Rattle.cf_engine_uploads.proofs.push_lists.push_items.Goals as goal

pub returns-in_err-take_turn : goal.returns-in_err-take_turn
returns-in_err-take_turn g c =
    let turn = c.in-Some.turn in
    let next : IsNext (whole g.S.Steps.sense g.R.Remote.told) c.args.ids.now c.loop-turn.from (c.loop-turn.s, c.loop-turn.e) (Some c.in-Some.turn) =
    subst (IsNext (whole g.S.Steps.sense g.R.Remote.told) c.args.ids.now c.loop-turn.from (c.loop-turn.s, c.loop-turn.e)) c.in-Some.is c.in_ok-turn.ensures in
    each_exits (whole g.S.Steps.sense g.R.Remote.told) push_turn c.args.ids.now c.args.ids.now turn.place (get_or c.args.ids.now turn.place (record { 0 = 0 })) (c.args.s.now, c.args.e.now) (c.loop-turn.s, c.loop-turn.e)
    c.in_err-take_turn.field-0.0 c.from_residual-in_err-take_turn.result (c.take_turn.new.s, c.take_turn.new.e)
    (λ q v a. c.loop-turn.invariant.left q v (answers_on (whole g.S.Steps.sense g.R.Remote.told) c.args.ids.now (c.loop-turn.s, c.loop-turn.e) c.loop-turn.from turn.place q v next.2 a))
    next.1 (there c.args.ids.now turn.place (record { 0 = 0 }) (get_or c.args.ids.now turn.place (record { 0 = 0 })) next.1) c.in_err-take_turn.ensures c.from_residual-in_err-take_turn.ensures.1

pub loop-turn-preserved : goal.loop-turn-preserved
loop-turn-preserved g c =
    let turn = c.in-Some.turn in
    let next : IsNext (whole g.S.Steps.sense g.R.Remote.told) c.args.ids.now c.loop-turn.from (c.loop-turn.s, c.loop-turn.e) (Some c.in-Some.turn) =
    subst (IsNext (whole g.S.Steps.sense g.R.Remote.told) c.args.ids.now c.loop-turn.from (c.loop-turn.s, c.loop-turn.e)) c.in-Some.is c.in_ok-turn.ensures in
    record {
      left = λ r u d. c.loop-turn.invariant.left r u (answers_on (whole g.S.Steps.sense g.R.Remote.told) c.args.ids.now (c.loop-turn.s, c.loop-turn.e) c.loop-turn.from turn.place r u next.2
          (each_more (whole g.S.Steps.sense g.R.Remote.told) push_turn c.args.ids.now turn.place (get_or c.args.ids.now turn.place (record { 0 = 0 })) (c.loop-turn.s, c.loop-turn.e) (c.take_turn.new.s, c.take_turn.new.e)
          c.in_ok-take_turn.field-0 r u next.1 (there c.args.ids.now turn.place (record { 0 = 0 }) (get_or c.args.ids.now turn.place (record { 0 = 0 })) next.1) c.in_ok-take_turn.ensures d));
      within = omega (arith, next.1);
    }

pub returns : goal.returns
returns g c =
    let none : IsNext (whole g.S.Steps.sense g.R.Remote.told) c.args.ids.now c.loop-turn.from (c.loop-turn.s, c.loop-turn.e) None =
    subst (IsNext (whole g.S.Steps.sense g.R.Remote.told) c.args.ids.now c.loop-turn.from (c.loop-turn.s, c.loop-turn.e)) c.in_default.is c.in_ok-turn.ensures in
    each_ends (whole g.S.Steps.sense g.R.Remote.told) push_turn c.args.ids.now c.args.ids.now (length c.args.ids.now) (c.args.s.now, c.args.e.now) (c.loop-turn.s, c.loop-turn.e)
    (λ q v a. c.loop-turn.invariant.left q v (answers_on (whole g.S.Steps.sense g.R.Remote.told) c.args.ids.now (c.loop-turn.s, c.loop-turn.e) c.loop-turn.from (length c.args.ids.now) q v none a)) (omega arith)
