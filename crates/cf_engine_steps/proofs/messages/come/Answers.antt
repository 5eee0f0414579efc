use Rattle.cf_model.specs.Messages.{come}
use Rattle.cf_engine_steps.proofs.Linking.{came, link_fails}
use Rattle.cf_engine_steps.proofs.messages.come.Goals as goal

pub returns-in-Ok : goal.returns-in-Ok
returns-in-Ok g c = came g.S.Steps.sense g.R.Remote.told c.args.number c.args.request.now c.args.s.now c.note_line.new.s c.args.e.now c.come.new.self c.in_ok-came.came.reply c.in_ok-came.came.line c.in-Ok.field-0
    c.in_ok-came.ensures.does c.come.ensures.rest c.in_ok-came.ensures.rises c.in-Ok.ensures

pub returns-in-Err : goal.returns-in-Err
returns-in-Err g c = link_fails g.S.Steps.sense g.R.Remote.told (come c.args.number c.args.request.now) c.args.s.now c.note_line.new.s c.args.e.now c.come.new.self.agent.link c.in_ok-came.came.reply c.in_ok-came.came.line c.come.new.self c.in-Err.error c.in-Err.ensures
