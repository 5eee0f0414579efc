use Rattle.cf_engine_uploads.proofs.Courses.{is_converted, stands}
use Rattle.std.specs.Prelude.{Ok, true}
use Rattle.cf_engine_uploads.proofs.items.try_convert.Goals as goal

pub returns-then-is_placeholder : goal.returns-then-is_placeholder
returns-then-is_placeholder g c = λ i. stands g.S.Steps.sense g.R.Remote.told c.args.id i c.args.s.now c.args.e.now c.is_placeholder.result c.is_placeholder.ensures c.args.s.now c.args.e.now (Ok true) c.if-is_placeholder.true

pub returns-else-is_placeholder : goal.returns-else-is_placeholder
returns-else-is_placeholder g c = λ i. is_converted g.S.Steps.sense g.R.Remote.told c.args.id i c.args.s.now c.args.e.now c.is_placeholder.result c.is_placeholder.ensures c.convert.new.s c.convert.new.e c.convert.result c.if-is_placeholder.false c.convert.ensures
