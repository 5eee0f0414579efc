use Rattle.cf_engine_replies.specs.Rebases.{RefusedIf}
use Rattle.cf_filter_steps.proofs.Laws.{ok_map}
use Rattle.cf_engine_replies.proofs.Rebased.{refused_deep, refused_room}
use Rattle.cf_engine_replies.proofs.rebase_room.refuse.Goals as goal

pub returns-in-Some : goal.returns-in-Some
returns-in-Some g c = refused_deep g.S.Steps.sense c.args.change.now c.args.s.now c.in_ok-code.field-0 c.in-Some.code c.in-Some.is c.in_ok-code.ensures

pub returns-in-None : goal.returns-in-None
returns-in-None g c = ok_map c.refuse_room.result _ (RefusedIf g.S.Steps.sense c.args.change.now c.args.s.now)
    (λ w h. refused_room g.S.Steps.sense c.args.change.now c.args.s.now c.in_ok-code.field-0 c.from_ref.result.now w c.from_ref.ensures.value c.in-None.is c.in_ok-code.ensures h) c.refuse_room.ensures
