use Rattle.std.proofs.Common.{refl, sym, ◌∙◌}
use Rattle.cf_filter_steps.proofs.RecordsBeside.{seen_beside}
use Rattle.cf_filter_machine.specs.Sensing.{sense}
use Rattle.cf_model.specs.Operations.{execute_with}
use Rattle.cf_filter.proofs.Ported.{did_as, failed_on, lost_by, refused_as, refused_on}
use Rattle.cf_model.specs.Ports.{seeing}
use Rattle.cf_filter.proofs.filters.FilterOn.execute_beside.Goals as goal

pub returns-then-is_broken : goal.returns-then-is_broken
returns-then-is_broken g c = λ seen are. refused_as g.G.Ground.state c.args.self.now c.args.self.now seen c.args.op.now (sym c.is_broken.ensures ∙ c.if-is_broken.true) refl

pub returns-then-is_device : goal.returns-then-is_device
returns-then-is_device g c = λ seen are. lost_by g.G.Ground.state c.args.self.now _ _ seen c.args.op.now _ (sym c.is_broken.ensures ∙ c.if-is_broken.false) (seen_beside (sense g.G.Ground.state) (λ x s i. i.kept.book.fits) c.args.self.now _ seen c.args.records.now (execute_with (seeing seen) c.args.op.now) _ are (c.operate-told.ensures (seeing seen))) c.lose.ensures

pub returns-in-Ok-Ok : goal.returns-in-Ok-Ok
returns-in-Ok-Ok g c = λ seen are.
    did_as g.G.Ground.state c.args.self.now _ seen c.args.op.now _ _ _ _ (sym c.is_broken.ensures ∙ c.if-is_broken.false) (seen_beside (sense g.G.Ground.state) (λ x s i. i.kept.book.fits) c.args.self.now _ seen c.args.records.now (execute_with (seeing seen) c.args.op.now) _ are (c.operate-told.ensures (seeing seen))) c.outcome.ensures c.in-Ok-Ok.is c.in-Ok-Ok.field-0-is

pub returns-else-is_device : goal.returns-else-is_device
returns-else-is_device g c = λ seen are.
    refused_on g.G.Ground.state c.args.self.now _ seen c.args.op.now _ _ _ _ (sym c.is_device.ensures ∙ c.if-is_device.false) (sym c.is_broken.ensures ∙ c.if-is_broken.false) (seen_beside (sense g.G.Ground.state) (λ x s i. i.kept.book.fits) c.args.self.now _ seen c.args.records.now (execute_with (seeing seen) c.args.op.now) _ are (c.operate-told.ensures (seeing seen))) c.outcome.ensures c.in-Ok-Err.is c.in-Ok-Err.field-0-is

pub returns-in-Err-No : goal.returns-in-Err-No
returns-in-Err-No g c = λ seen are.
    failed_on g.G.Ground.state c.args.self.now _ _ seen c.args.op.now _ _ _ _ (sym c.is_broken.ensures ∙ c.if-is_broken.false) (seen_beside (sense g.G.Ground.state) (λ x s i. i.kept.book.fits) c.args.self.now _ seen c.args.records.now (execute_with (seeing seen) c.args.op.now) _ are (c.operate-told.ensures (seeing seen))) c.outcome.ensures c.in-Err-No.is c.in-Err-No.field-0-is c.stop.ensures

pub returns-in-Err-OutOfMemory : goal.returns-in-Err-OutOfMemory
returns-in-Err-OutOfMemory g c = λ seen are. lost_by g.G.Ground.state c.args.self.now _ _ seen c.args.op.now _ (sym c.is_broken.ensures ∙ c.if-is_broken.false) (seen_beside (sense g.G.Ground.state) (λ x s i. i.kept.book.fits) c.args.self.now _ seen c.args.records.now (execute_with (seeing seen) c.args.op.now) _ are (c.operate-told.ensures (seeing seen))) c.lose-in-Err-OutOfMemory.ensures
