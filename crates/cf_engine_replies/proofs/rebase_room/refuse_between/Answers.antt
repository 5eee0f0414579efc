use Rattle.cf_base.specs.declared.codes.CallError.TheVariants.{OutOfMemory}
use Rattle.cf_engine_replies.specs.Rebases.{PutsBack, refused_without}
use Rattle.cf_filter_steps.proofs.Laws.{with_err}
use Rattle.cf_model.specs.Arrows.{reading, ret}
use Rattle.cf_engine_replies.proofs.Rebased.{asks_fail, back_fails, out_fails, ready_by, refused_back}
use Rattle.cf_engine_replies.proofs.rebase_room.refuse_between.Goals as goal

pub returns-in_err-take_out-clause-answers : goal.returns-in_err-take_out-clause-answers
returns-in_err-take_out-clause-answers g c = with_err g.S.Steps.sense (PutsBack c.args.token c.args.record.now) (reading (refused_without c.args.token c.args.change.now) ret) c.args.s.now c.take_out.new.s c.in_err-take_out.field-0.0 c.from_residual.result c.from_residual.ensures.1
    (out_fails g.S.Steps.sense c.args.token c.args.change.now c.args.record.now c.args.s.now c.take_out.new.s c.in_err-take_out.field-0.0 c.in_err-take_out.ensures)

pub returns-in_err-refused-clause-answers : goal.returns-in_err-refused-clause-answers
returns-in_err-refused-clause-answers g c = with_err g.S.Steps.sense (PutsBack c.args.token c.args.record.now) (reading (refused_without c.args.token c.args.change.now) ret) c.args.s.now c.take_out.new.s OutOfMemory c.from_residual-in_err-refused.result c.from_residual-in_err-refused.ensures.1 (asks_fail g.S.Steps.sense c.args.token c.args.change.now c.args.record.now c.args.s.now c.take_out.new.s c.in_ok-take_out.field-0 c.in_ok-take_out.ensures)

pub returns-in_err-put_back-clause-answers : goal.returns-in_err-put_back-clause-answers
returns-in_err-put_back-clause-answers g c = with_err g.S.Steps.sense (PutsBack c.args.token c.args.record.now) (reading (refused_without c.args.token c.args.change.now) ret) c.args.s.now c.put_back.new.s c.in_err-put_back.field-0.0 c.from_residual-in_err-put_back.result c.from_residual-in_err-put_back.ensures.1
    (back_fails g.S.Steps.sense c.args.token c.args.change.now c.args.record.now c.args.s.now c.take_out.new.s c.in_ok-take_out.field-0 c.in_ok-take_out.ensures g.met.S.EngineHost.keepable c.put_back.new.s c.in_err-put_back.field-0.0 c.in_err-put_back.ensures)

pub returns-clause-answers : goal.returns-clause-answers
returns-clause-answers g c = refused_back g.S.Steps.sense c.args.token c.args.change.now c.args.record.now c.args.s.now c.take_out.new.s c.in_ok-take_out.field-0 c.in_ok-take_out.ensures g.met.S.EngineHost.keepable c.put_back.new.s c.in_ok-refused.refused c.in_ok-put_back.field-0 c.in_ok-refused.ensures c.in_ok-put_back.ensures

pub returns-clause-ready : goal.returns-clause-ready
returns-clause-ready g c = ready_by g.S.Steps.sense c.args.token c.args.change.now c.args.record.now c.args.s.now c.take_out.new.s c.in_ok-take_out.field-0 c.in_ok-take_out.ensures c.in_ok-refused.refused c.in_ok-refused.ensures
