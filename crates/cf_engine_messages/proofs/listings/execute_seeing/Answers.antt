use Rattle.std.proofs.Common.{List, subst, sym}
use Rattle.cf_base.specs.declared.answers.AuxRecord.{AuxRecord}
use Rattle.cf_engine_queue.specs.Records.{AreSeen}
use Rattle.cf_filter_steps.proofs.RecordsBeside.{seen_beside}
use Rattle.cf_model.specs.Operations.{execute_with}
use Rattle.cf_model.specs.Ports.{seeing}
use Rattle.cf_engine_messages.proofs.listings.execute_seeing.Goals as goal

pub returns : goal.returns
returns g c = seen_beside g.S.Steps.sense g.met.S.EngineHost.keepable c.args.s.now c.execute_with-done.new.s c.args.seen.now c.as_slice.result.now (execute_with (seeing c.args.seen.now) c.args.op.now) c.execute_with-done.result
    (subst (λ (l : List AuxRecord). AreSeen c.args.seen.now l) (sym c.as_slice.ensures) c.in_ok-records.ensures) (c.execute_with-done.ensures (seeing c.args.seen.now))
