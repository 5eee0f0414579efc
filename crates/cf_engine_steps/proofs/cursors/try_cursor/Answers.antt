use Rattle.std.proofs.lemmas.Bool.{eq-eqb, ne_eqb}
use Rattle.cf_engine_steps.proofs.CursorKept.{cursor_other, cursor_same}
use Rattle.cf_engine_steps.proofs.cursors.try_cursor.Goals as goal

pub returns-then-now-clock : goal.returns-then-now-clock
returns-then-now-clock g c = cursor_same g.S.Steps.sense g.R.Remote.told c.args.clock c.in_ok-now.now c.args.s.now c.args.e.now c.in_ok-now.ensures (eq-eqb c.in_ok-now.now c.args.clock c.if-now-clock.true)

pub returns : goal.returns
returns g c = cursor_other g.S.Steps.sense g.R.Remote.told c.args.clock c.in_ok-now.now c.args.s.now c.args.e.now c.in_ok-now.ensures c.put.new.s c.put.new.e c.put.result (ne_eqb c.in_ok-now.now c.args.clock c.if-now-clock.false) c.put.ensures
