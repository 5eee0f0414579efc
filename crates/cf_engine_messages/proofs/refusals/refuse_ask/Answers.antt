use Rattle.std.proofs.Common.{ap}
use Rattle.std.specs.Prelude.{Ok}
use Rattle.cf_base.specs.declared.operations.Operation.TheVariants as operation
use Rattle.cf_base.specs.declared.waits.AskKind.{AskKind}
use Rattle.cf_engine_messages.proofs.Operated.{as_arrow}
use Rattle.cf_engine_provider.specs.Parts.{refuse_ask, refuse_by}
use Rattle.cf_engine_steps.specs.Answering.{Any}
use Rattle.cf_engine_steps.specs.States.{whole}
use Rattle.cf_engine_steps.proofs.Laws.{returned}
use Rattle.cf_model.specs.Arrows.{ret, unit}
use Rattle.cf_model.specs.Fetching.{do_op, no_entries}
use Rattle.cf_engine_messages.proofs.refusals.refuse_ask.Goals as goal

pub returns-in-Fetch : goal.returns-in-Fetch
returns-in-Fetch g c = as_arrow (whole g.S.Steps.sense g.R.Remote.told) (do_op (operation.Refuse c.args.ask.now.key c.args.ask.now.span c.args.status)) (refuse_ask c.args.status c.args.ask.now) (c.args.s.now, c.args.e.now) (c.do_op.new.s, c.do_op.new.e) c.do_op.result (ap (λ (k : AskKind). refuse_by k c.args.status c.args.ask.now) c.in-Fetch.is) c.do_op.ensures

pub returns-in-Validate : goal.returns-in-Validate
returns-in-Validate g c = as_arrow (whole g.S.Steps.sense g.R.Remote.told) (ret unit) (refuse_ask c.args.status c.args.ask.now) (c.args.s.now, c.args.e.now) (c.args.s.now, c.args.e.now) (Ok unit) (ap (λ (k : AskKind). refuse_by k c.args.status c.args.ask.now) c.in-Validate.is) (returned (whole g.S.Steps.sense g.R.Remote.told) Any unit (c.args.s.now, c.args.e.now))

pub returns-in-List : goal.returns-in-List
returns-in-List g c = as_arrow (whole g.S.Steps.sense g.R.Remote.told) (no_entries c.args.ask.now.key) (refuse_ask c.args.status c.args.ask.now) (c.args.s.now, c.args.e.now) (c.no_entries.new.s, c.no_entries.new.e) c.no_entries.result (ap (λ (k : AskKind). refuse_by k c.args.status c.args.ask.now) c.in-List.is) c.no_entries.ensures

pub returns-in-Dehydrate : goal.returns-in-Dehydrate
returns-in-Dehydrate g c = as_arrow (whole g.S.Steps.sense g.R.Remote.told) (ret unit) (refuse_ask c.args.status c.args.ask.now) (c.args.s.now, c.args.e.now) (c.args.s.now, c.args.e.now) (Ok unit) (ap (λ (k : AskKind). refuse_by k c.args.status c.args.ask.now) c.in-Dehydrate.is) (returned (whole g.S.Steps.sense g.R.Remote.told) Any unit (c.args.s.now, c.args.e.now))
