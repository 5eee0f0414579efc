use Rattle.std.proofs.lemmas.Bool.{eq-eqb, ne_eqb}
use Rattle.cf_engine_steps.proofs.Occupants.{nobody, only_it, somebody}
use Rattle.cf_engine_steps.proofs.names.occupant.Goals as goal

pub returns-in_default : goal.returns-in_default
returns-in_default g c = nobody g.S.Steps.sense c.args.s.now c.rows.result.now c.args.parent c.args.name.now c.as_slice.result.now c.args.but c.child.result c.rows.ensures.means c.as_slice.ensures c.child.ensures c.in_default.is

pub returns-then-found-but : goal.returns-then-found-but
returns-then-found-but g c = only_it g.S.Steps.sense c.args.s.now c.rows.result.now c.args.parent c.args.name.now c.as_slice.result.now c.args.but c.child.result c.rows.ensures.means c.as_slice.ensures c.child.ensures c.in-Some.found c.in-Some.is
    (eq-eqb c.in-Some.found.0 c.args.but.0 c.if-found-but.true)

pub returns : goal.returns
returns g c = somebody g.S.Steps.sense c.args.s.now c.rows.result.now c.args.parent c.args.name.now c.as_slice.result.now c.args.but c.child.result c.rows.ensures.means c.as_slice.ensures c.child.ensures c.in-Some.found c.in-Some.is
    (ne_eqb c.in-Some.found.0 c.args.but.0 c.if-found-but.false)
