use Rattle.std.proofs.Common.{◌∙◌}
use Rattle.cf_base.specs.declared.codes.CallError.TheVariants.{OutOfMemory}
use Rattle.cf_engine_replies.specs.Rebases.{without}
use Rattle.cf_filter_steps.specs.Answering.{Any}
use Rattle.cf_filter_steps.proofs.Laws.{with_err}
use Rattle.cf_model.specs.Arrows.{noted}
use Rattle.cf_model.specs.Books.{without_entry}
use Rattle.cf_engine_replies.proofs.Rebased.{lost, taken_out}
use Rattle.cf_engine_replies.proofs.rebase_room.take_out.Goals as goal

pub returns-in_err-key : goal.returns-in_err-key
returns-in_err-key g c = with_err g.S.Steps.sense Any (noted (without c.args.token)) c.args.s.now c.args.s.now OutOfMemory c.from_residual.result c.from_residual.ensures.1 (lost g.S.Steps.sense Any (noted (without c.args.token)) c.args.s.now)

pub returns : goal.returns
returns g c = taken_out g.S.Steps.sense g.met.S.EngineHost.keepable c.args.token c.as_slice.result.now c.args.s.now c.drop_record.new.self c.drop_record.result c.entry_key.ensures.fits (c.as_slice.ensures ∙ c.in_ok-key.ensures.ok) (c.drop_record.ensures (without_entry c.args.token))
