use Rattle.cf_base.specs.declared.answers.Shown.TheVariants as shown
use Rattle.cf_base.specs.declared.codes.Code.TheVariants as code
use Rattle.cf_filter_steps.specs.Answering.{Any}
use Rattle.cf_filter_steps.proofs.Laws.{returned}
use Rattle.cf_filter_calls.specs.Planned.{stands_for}
use Rattle.cf_model.specs.Waits.{hydrate_file, refused}
use Rattle.cf_model.specs.Items.{Item}
use Rattle.cf_filter_calls.proofs.Begun.{chosen_off, chosen_on}
use Rattle.cf_filter_calls.proofs.waits.hydrate_file.Goals as goal

pub returns-then-is_placeholder : goal.returns-then-is_placeholder
returns-then-is_placeholder g c = chosen_on g.S.Steps.sense c.args.id stands_for hydrate_file (refused code.NotPlaceholder) c.is_placeholder.result c.args.s.now c.meet_plain.new.s c.meet_plain.result c.is_placeholder.ensures c.if-is_placeholder.true c.meet_plain.ensures

pub returns-else-is_placeholder : goal.returns-else-is_placeholder
returns-else-is_placeholder g c = chosen_off g.S.Steps.sense c.args.id stands_for (λ (i : Item). hydrate_file i.id) (refused code.NotPlaceholder) c.is_placeholder.result c.args.s.now c.args.s.now _ c.is_placeholder.ensures c.if-is_placeholder.false (returned g.S.Steps.sense Any (shown.Refused code.NotPlaceholder) c.args.s.now)
