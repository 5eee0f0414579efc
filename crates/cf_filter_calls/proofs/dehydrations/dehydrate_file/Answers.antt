use Rattle.cf_base.specs.declared.answers.Shown.TheVariants as shown
use Rattle.cf_base.specs.declared.codes.Code.TheVariants as code
use Rattle.cf_filter_calls.specs.Planned.{has_entries}
use Rattle.cf_model.specs.Dehydration.{dehydrate_range}
use Rattle.cf_model.specs.Waits.{refused}
use Rattle.cf_filter_steps.specs.Answering.{Any}
use Rattle.cf_filter_steps.proofs.Laws.{returned}
use Rattle.cf_filter_calls.proofs.Begun.{but_off, but_on}
use Rattle.cf_filter_calls.proofs.dehydrations.dehydrate_file.Goals as goal

pub returns-then-is_directory : goal.returns-then-is_directory
returns-then-is_directory g c = but_on g.S.Steps.sense c.args.id has_entries (refused code.IsDirectory) (dehydrate_range c.args.range) c.is_directory.result c.args.s.now c.args.s.now _ c.is_directory.ensures c.if-is_directory.true (returned g.S.Steps.sense Any (shown.Refused code.IsDirectory) c.args.s.now)

pub returns-else-is_directory : goal.returns-else-is_directory
returns-else-is_directory g c = but_off g.S.Steps.sense c.args.id has_entries (refused code.IsDirectory) (dehydrate_range c.args.range) c.is_directory.result c.args.s.now c.dehydrate_range.new.s c.dehydrate_range.result c.is_directory.ensures c.if-is_directory.false c.dehydrate_range.ensures
