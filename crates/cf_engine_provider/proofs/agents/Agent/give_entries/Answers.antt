use Rattle.std.proofs.Common.{true, subst}
use Rattle.std.specs.Prelude.{Ok, Result}
use Rattle.cf_base.specs.declared.memory.OutOfMemory.{OutOfMemory as NoMemory}
use Rattle.cf_base.specs.declared.operations.Operation.TheVariants as operation
use Rattle.cf_engine_provider.specs.Parts.{Tries}
use Rattle.cf_engine_provider.specs.declared.attempts.Told.{Told as Tried}
use Rattle.cf_engine_provider.proofs.Listed.{cut_off, given, not_given}
use Rattle.cf_engine_provider.proofs.Performed.{untried}
use Rattle.cf_engine_provider.proofs.agents.Agent.give_entries.Goals as goal

pub returns-in-Ok-Refused : goal.returns-in-Ok-Refused
returns-in-Ok-Refused g c =
    not_given g.P.Port.goes g.R.Remote.told g.met.P.Port.goes_on c.args.key c.args.list c.args.seen.now c.in-Ok-Refused.code c.args.self.now c.after_listing.new.self c.args.port.now c.attempt-told.new.port c.after_listing.new.port c.in-Ok-Refused.field-0 c.after_listing.result
    (subst (λ (r : Result Tried NoMemory). Tries g.P.Port.goes c.args.seen.now (operation.Entries c.args.key c.args.list true) c.args.port.now r c.attempt-told.new.port) c.in-Ok-Refused.is c.attempt-told.ensures) (rw c.in-Ok-Refused.is at c.in-Ok-Refused.field-0-is) c.after_listing.ensures

pub returns-in-Ok-Done : goal.returns-in-Ok-Done
returns-in-Ok-Done g c = given g.P.Port.goes g.R.Remote.told c.args.key c.args.list c.args.seen.now c.args.self.now c.args.port.now c.attempt-told.new.port c.in-Ok-Done.field-0 (Ok (record {}))
    (subst (λ (r : Result Tried NoMemory). Tries g.P.Port.goes c.args.seen.now (operation.Entries c.args.key c.args.list true) c.args.port.now r c.attempt-told.new.port) c.in-Ok-Done.is c.attempt-told.ensures) (rw c.in-Ok-Done.is at c.in-Ok-Done.field-0-is)

pub returns-in-Ok-Device : goal.returns-in-Ok-Device
returns-in-Ok-Device g c = cut_off g.P.Port.goes g.R.Remote.told c.args.key c.args.list c.args.seen.now c.args.self.now c.args.port.now c.attempt-told.new.port c.in-Ok-Device.field-0 (Ok (record {}))
    (subst (λ (r : Result Tried NoMemory). Tries g.P.Port.goes c.args.seen.now (operation.Entries c.args.key c.args.list true) c.args.port.now r c.attempt-told.new.port) c.in-Ok-Device.is c.attempt-told.ensures) (rw c.in-Ok-Device.is at c.in-Ok-Device.field-0-is)

pub returns-in-Err : goal.returns-in-Err
returns-in-Err g c = untried g.P.Port.goes (Unit {0}) c.args.seen.now (operation.Entries c.args.key c.args.list true) c.args.port.now c.attempt-told.new.port c.attempt-told.result c.in-Err.field-0 _ _ c.attempt-told.ensures c.in-Err.is
