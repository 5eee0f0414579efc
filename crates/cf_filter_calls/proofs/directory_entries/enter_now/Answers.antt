use Rattle.cf_base.specs.declared.waits.Cause.TheVariants as cause
use Rattle.cf_filter_calls.specs.Consenting.{finished_now}
use Rattle.cf_filter_calls.specs.Entering.{entered_by}
use Rattle.cf_model.specs.Operations.{changes_with}
use Rattle.cf_filter_steps.specs.Answering.{Any}
use Rattle.cf_filter_steps.specs.Listing.{ReadyListed}
use Rattle.cf_filter_steps.proofs.Laws.{stops_first, then_on, with_err}
use Rattle.cf_filter_calls.proofs.directory_entries.enter_now.Goals as goal

pub returns-in_err-enter : goal.returns-in_err-enter
returns-in_err-enter g c = λ f. with_err g.S.Steps.sense (ReadyListed f c.args.ask.now.item c.args.changes.now c.args.records.now) (entered_by f c.args.ask.now c.args.changes.now) c.args.s.now c.enter.new.self c.in_err-enter.field-0.0 c.from_residual.result c.from_residual.ensures.1
    (stops_first g.S.Steps.sense (ReadyListed f c.args.ask.now.item c.args.changes.now c.args.records.now) (changes_with f c.args.changes.now) (finished_now c.args.ask.now cause.Met) c.args.s.now c.enter.new.self c.in_err-enter.field-0.0 (c.in_err-enter.ensures.does f))

pub returns : goal.returns
returns g c = λ f. then_on g.S.Steps.sense (ReadyListed f c.args.ask.now.item c.args.changes.now c.args.records.now) Any (changes_with f c.args.changes.now) (finished_now c.args.ask.now cause.Met) c.args.s.now c.enter.new.self c.finish_now.new.s
    c.in_ok-enter.field-0 c.finish_now.result (λ s t p e. record {}) (c.in_ok-enter.ensures.does f) c.finish_now.ensures
