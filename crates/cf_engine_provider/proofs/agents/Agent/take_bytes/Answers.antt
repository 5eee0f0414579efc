use Rattle.std.proofs.Common.{[], subst}
use Rattle.std.specs.Prelude.{Ok, Result}
use Rattle.cf_base.specs.declared.memory.OutOfMemory.{OutOfMemory as NoMemory}
use Rattle.cf_base.specs.declared.operations.Operation.TheVariants as operation
use Rattle.cf_engine_provider.specs.Parts.{Tries}
use Rattle.cf_engine_provider.specs.declared.attempts.Told.{Told as Tried}
use Rattle.cf_engine_provider.specs.declared.attempts.Told.TheVariants as tried
use Rattle.cf_engine_provider.proofs.Performed.{cut_off, not_transferred, transferred, untried}
use Rattle.cf_engine_provider.proofs.agents.Agent.take_bytes.Goals as goal

pub returns-in-Ok-Refused : goal.returns-in-Ok-Refused
returns-in-Ok-Refused g c =
    not_transferred g.P.Port.goes g.R.Remote.told c.args.key c.args.start c.args.bytes g.met.P.Port.goes_on c.in-Ok-Refused.code c.as_slice.result.now c.args.self.now c.after_transfer.new.self c.args.port.now c.attempt-told.new.port c.after_transfer.new.port c.in-Ok-Refused.field-0 c.after_transfer.result
    (subst (λ (r : Result Tried NoMemory). Tries g.P.Port.goes [] (operation.Transfer c.args.key c.args.start c.args.bytes) c.args.port.now r c.attempt-told.new.port) c.in-Ok-Refused.is c.attempt-told.ensures) (rw c.in-Ok-Refused.is at c.in-Ok-Refused.field-0-is) c.as_slice.ensures c.after_transfer.ensures

pub returns-in-Ok-Done : goal.returns-in-Ok-Done
returns-in-Ok-Done g c = transferred g.P.Port.goes g.R.Remote.told c.args.key c.args.start c.args.bytes c.args.self.now c.args.port.now c.attempt-told.new.port c.in-Ok-Done.field-0 (Ok (record {}))
    (subst (λ (r : Result Tried NoMemory). Tries g.P.Port.goes [] (operation.Transfer c.args.key c.args.start c.args.bytes) c.args.port.now r c.attempt-told.new.port) c.in-Ok-Done.is c.attempt-told.ensures) (rw c.in-Ok-Done.is at c.in-Ok-Done.field-0-is)

pub returns-in-Ok-Device : goal.returns-in-Ok-Device
returns-in-Ok-Device g c = cut_off g.P.Port.goes g.R.Remote.told c.args.key c.args.start c.args.bytes c.args.self.now c.args.port.now c.attempt-told.new.port c.in-Ok-Device.field-0 (Ok (record {}))
    (subst (λ (r : Result Tried NoMemory). Tries g.P.Port.goes [] (operation.Transfer c.args.key c.args.start c.args.bytes) c.args.port.now r c.attempt-told.new.port) c.in-Ok-Device.is c.attempt-told.ensures) (rw c.in-Ok-Device.is at c.in-Ok-Device.field-0-is)

pub returns-in-Err : goal.returns-in-Err
returns-in-Err g c = untried g.P.Port.goes (Unit {0}) [] (operation.Transfer c.args.key c.args.start c.args.bytes) c.args.port.now c.attempt-told.new.port c.attempt-told.result c.in-Err.field-0 _ _ c.attempt-told.ensures c.in-Err.is
