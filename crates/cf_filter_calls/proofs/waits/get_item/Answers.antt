use Rattle.cf_base.specs.declared.answers.Shown.TheVariants as shown
use Rattle.cf_base.specs.declared.codes.Code.TheVariants as code
use Rattle.cf_filter_steps.specs.Answering.{Any}
use Rattle.cf_filter_steps.proofs.Laws.{returned}
use Rattle.cf_base.specs.declared.ids.ItemId.{ItemId}
use Rattle.cf_base.specs.declared.waits.WaitKind.TheVariants as wait_kind
use Rattle.cf_filter_calls.specs.Planned.{has_entries}
use Rattle.cf_model.specs.Waits.{get_item, need, plain_need, refused}
use Rattle.cf_filter_calls.proofs.Begun.{but_on, file_on}
use Rattle.cf_filter_calls.proofs.waits.get_item.Goals as goal

pub returns-then-is_directory : goal.returns-then-is_directory
returns-then-is_directory g c = but_on g.S.Steps.sense c.args.id has_entries (refused code.IsDirectory) (get_item c.args.span) c.is_directory.result c.args.s.now c.args.s.now _ c.is_directory.ensures c.if-is_directory.true (returned g.S.Steps.sense Any (shown.Refused code.IsDirectory) c.args.s.now)

pub returns-else-is_directory : goal.returns-else-is_directory
returns-else-is_directory g c = file_on g.S.Steps.sense c.args.id (λ (k : ItemId). need (plain_need wait_kind.Read k c.args.span)) (refused code.IsDirectory) c.is_directory.result c.args.s.now c.meet_plain.new.s c.meet_plain.result c.is_directory.ensures c.if-is_directory.false c.meet_plain.ensures
