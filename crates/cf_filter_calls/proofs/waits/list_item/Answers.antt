use Rattle.cf_base.specs.declared.answers.Shown.TheVariants as shown
use Rattle.cf_base.specs.declared.codes.Code.TheVariants as code
use Rattle.cf_filter_steps.specs.Answering.{Any}
use Rattle.cf_filter_steps.proofs.Laws.{returned}
use Rattle.cf_base.specs.declared.ids.ItemId.{ItemId}
use Rattle.cf_base.specs.declared.waits.WaitKind.TheVariants as wait_kind
use Rattle.cf_filter_calls.specs.Planned.{has_entries}
use Rattle.cf_model.specs.Missing.{no_span}
use Rattle.cf_model.specs.Waits.{need, plain_need, refused}
use Rattle.cf_model.specs.Items.{Item}
use Rattle.cf_filter_calls.proofs.Begun.{chosen_off, chosen_on}
use Rattle.cf_filter_calls.proofs.waits.list_item.Goals as goal

pub returns-then-is_directory : goal.returns-then-is_directory
returns-then-is_directory g c = chosen_on g.S.Steps.sense c.args.id has_entries (λ (k : ItemId). need (plain_need wait_kind.List k no_span)) (refused code.NotDirectory) c.is_directory.result c.args.s.now c.meet_plain.new.s c.meet_plain.result c.is_directory.ensures c.if-is_directory.true c.meet_plain.ensures

pub returns-else-is_directory : goal.returns-else-is_directory
returns-else-is_directory g c = chosen_off g.S.Steps.sense c.args.id has_entries (λ (i : Item). need (plain_need wait_kind.List i.id no_span)) (refused code.NotDirectory) c.is_directory.result c.args.s.now c.args.s.now _ c.is_directory.ensures c.if-is_directory.false (returned g.S.Steps.sense Any (shown.Refused code.NotDirectory) c.args.s.now)
