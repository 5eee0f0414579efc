use Rattle.cf_filter_calls.proofs.Executed.{on_kind}
use Rattle.cf_filter_calls.proofs.operations.execute_on.Goals as goal

pub returns-in-Transfer : goal.returns-in-Transfer
returns-in-Transfer g c = on_kind g.S.Steps.sense c.args.s.now c.transfer.new.s c.args.op.now _ c.args.ask.now c.args.records.now c.transfer.result c.in-Transfer.is (λ f a. c.transfer.ensures c.in-Transfer.key f c.args.records.now a)

pub returns-in-Refuse : goal.returns-in-Refuse
returns-in-Refuse g c = on_kind g.S.Steps.sense c.args.s.now c.refuse.new.s c.args.op.now _ c.args.ask.now c.args.records.now c.refuse.result c.in-Refuse.is (λ f a. c.refuse.ensures c.in-Refuse.key f c.args.records.now a)

pub returns-in-Ack : goal.returns-in-Ack
returns-in-Ack g c = on_kind g.S.Steps.sense c.args.s.now c.ack.new.s c.args.op.now _ c.args.ask.now c.args.records.now c.ack.result c.in-Ack.is (λ f a. c.ack.ensures c.in-Ack.key f c.args.records.now a)
