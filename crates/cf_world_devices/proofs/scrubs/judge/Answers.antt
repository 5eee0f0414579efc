use Rattle.std.proofs.Common.{◌≡◌, ap}
use Rattle.std.specs.Prelude.{Err}
use Rattle.cf_world_devices.proofs.Scrubbed.{judged_bytes, no_memory, not_read}
use Rattle.cf_world_devices.proofs.scrubs.judge.Goals as goal

pub returns-in-Ok-clause-bytes : goal.returns-in-Ok-clause-bytes
returns-in-Ok-clause-bytes g c =
    let same : c.deref.result.now ≡ c.in-Ok.bytes.items = c.deref.ensures.value in (
      c.deref.result.now,
      rw same c.in-Ok.ensures.ok,
      judged_bytes c.deref.result.now (g.K.Sink.held c.args.sink.now) (g.K.Sink.held c.judged-status.new.sink) _ _ _ _ c.judged-status.result c.judged-status.ensures.judges c.judged-status.ensures.sink_fault,
    )

pub returns-in-Err-Fault-clause-bytes : goal.returns-in-Err-Fault-clause-bytes
returns-in-Err-Fault-clause-bytes g c =
    not_read (g.S.Source.left c.args.source.now) (g.K.Sink.held c.args.sink.now) (g.S.Source.faults c.args.source.now) (g.S.Source.faults c.read_up_to.new.source) (g.K.Sink.faults c.args.sink.now) (c.in-Err-Fault.ensures.fault (ap (λ x. Err x) c.in-Err-Fault.field-0-is))

pub returns-in-Err-clause-bytes : goal.returns-in-Err-clause-bytes
returns-in-Err-clause-bytes g c =
    no_memory (g.S.Source.left c.args.source.now) (g.K.Sink.held c.args.sink.now) (g.S.Source.faults c.args.source.now) (g.S.Source.faults c.read_up_to.new.source) (g.K.Sink.faults c.args.sink.now)
