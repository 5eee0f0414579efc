use Rattle.cf_engine_uploads.proofs.Turned.{changed_case, moved_case, new_case, resting_case, settled_case}
use Rattle.std.proofs.lemmas.Bool.{eq-eqb, ne_eqb}
use Rattle.cf_engine_uploads.proofs.turns.case_of.Goals as goal

pub returns-then-target-clause-case : goal.returns-then-target-clause-case
returns-then-target-clause-case g c = new_case g.S.Steps.sense c.args.s.now c.args.row.now c.in_ok-target.target c.in_ok-target.ensures (eq-eqb c.in_ok-target.target.0 0 c.if-target.true)

pub returns-then-not-branch-clause-case : goal.returns-then-not-branch-clause-case
returns-then-not-branch-clause-case g c = moved_case g.S.Steps.sense c.args.s.now c.args.row.now c.in_ok-target.target c.in_ok-target.ensures (ne_eqb c.in_ok-target.target.0 0 c.if-target.false) c.in_ok-stands_at_seen.field-0 c.in_ok-stands_at_seen.ensures.stands c.if-not-branch.true

pub returns-then-row-clause-case : goal.returns-then-row-clause-case
returns-then-row-clause-case g c = changed_case g.S.Steps.sense c.args.s.now c.args.row.now c.in_ok-target.target c.in_ok-target.ensures (ne_eqb c.in_ok-target.target.0 0 c.if-target.false) c.in_ok-stands_at_seen.field-0 c.in_ok-stands_at_seen.ensures.stands c.if-not-branch.false c.if-row.true

pub returns-then-row-2-clause-case : goal.returns-then-row-2-clause-case
returns-then-row-2-clause-case g c = resting_case g.S.Steps.sense c.args.s.now c.args.row.now c.in_ok-target.target c.in_ok-target.ensures (ne_eqb c.in_ok-target.target.0 0 c.if-target.false) c.in_ok-stands_at_seen.field-0 c.in_ok-stands_at_seen.ensures.stands c.if-not-branch.false c.if-row.false c.if-row-2.true

pub returns-clause-case : goal.returns-clause-case
returns-clause-case g c = settled_case g.S.Steps.sense c.args.s.now c.args.row.now c.in_ok-target.target c.in_ok-target.ensures (ne_eqb c.in_ok-target.target.0 0 c.if-target.false) c.in_ok-stands_at_seen.field-0 c.in_ok-stands_at_seen.ensures.stands c.if-not-branch.false c.if-row.false
