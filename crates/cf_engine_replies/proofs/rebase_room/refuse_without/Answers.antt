use Rattle.cf_base.specs.declared.codes.CallError.TheVariants.{OutOfMemory}
use Rattle.cf_engine_replies.specs.Rebases.{refused_without}
use Rattle.cf_filter_steps.specs.Answering.{Any}
use Rattle.cf_filter_steps.proofs.Laws.{with_err}
use Rattle.cf_model.specs.Arrows.{reading, ret}
use Rattle.cf_engine_replies.proofs.Rebased.{lost, refused_by}
use Rattle.cf_engine_replies.proofs.rebase_room.refuse_without.Goals as goal

pub returns-in_err-record-clause-answers : goal.returns-in_err-record-clause-answers
returns-in_err-record-clause-answers g c = with_err g.S.Steps.sense Any (reading (refused_without c.args.token c.args.change.now) ret) c.args.s.now c.args.s.now OutOfMemory c.from_residual.result c.from_residual.ensures.1 (lost g.S.Steps.sense Any (reading (refused_without c.args.token c.args.change.now) ret) c.args.s.now)

pub returns-clause-answers : goal.returns-clause-answers
returns-clause-answers g c = refused_by g.S.Steps.sense c.args.token c.args.change.now c.in_ok-record.record c.args.s.now c.refuse_between-refused.new.s c.refuse_between-refused.result c.in_ok-record.ensures c.refuse_between-refused.ensures.answers

pub returns-clause-ready : goal.returns-clause-ready
returns-clause-ready g c = c.refuse_between-refused.ensures.ready
