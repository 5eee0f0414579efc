use Rattle.cf_engine_replies.specs.Rebases.{StandsIf}
use Rattle.cf_filter_steps.proofs.Laws.{ok_map}
use Rattle.cf_engine_replies.proofs.Rebased.{stands_by}
use Rattle.cf_engine_replies.proofs.rebase_room.record_of.Goals as goal

pub returns : goal.returns
returns g c = ok_map c.spell-record.result _ (λ r. StandsIf g.S.Steps.sense c.args.token r c.args.s.now)
    (λ r h. stands_by g.S.Steps.sense g.met.S.EngineHost.keepable c.args.token c.args.s.now c.in_ok-entry.field-0 c.in-Some.entry r c.in_ok-entry.ensures c.in-Some.is h) c.spell-record.ensures
