use Rattle.cf_filter_calls.proofs.Asked.{looks_none, looks_some}
use Rattle.cf_filter_steps.proofs.Laws.{ok_map}
use Rattle.cf_filter_calls.proofs.marks.look_with.Goals as goal

pub returns-in-Some-clause-looks : goal.returns-in-Some-clause-looks
returns-in-Some-clause-looks g c = ok_map c.look_after.result _ _ (λ p h. looks_some g.S.Steps.sense c.args.s.now c.args.id c.args.changes.now c.in-Some.change.now p c.in-Some.ensures.value h) c.look_after.ensures.looks

pub returns-in-None-clause-looks : goal.returns-in-None-clause-looks
returns-in-None-clause-looks g c = ok_map c.look.result _ _ (λ p h. looks_none g.S.Steps.sense c.args.s.now c.args.id c.args.changes.now p c.in-None.ensures.value h) c.look.ensures.looks
