use Rattle.cf_base.specs.declared.notices.Frame.TheVariants as frame
use Rattle.cf_engine_steps.specs.Answering.{Any}
use Rattle.cf_engine_steps.specs.States.{whole}
use Rattle.cf_model.specs.Messages.{post}
use Rattle.cf_engine_steps.proofs.Laws.{with_err}
use Rattle.cf_engine_steps.proofs.Linking.{link_fails, posted}
use Rattle.cf_engine_steps.proofs.posts.post.Goals as goal

pub returns-in_err-note_line : goal.returns-in_err-note_line
returns-in_err-note_line g c = with_err (whole g.S.Steps.sense g.R.Remote.told) Any (post (frame.Request c.args.request)) (c.args.s.now, c.args.e.now) (c.note_line.new.s, c.post.new.self) c.in_err-note_line.field-0.0 c.from_residual-in_err-note_line.result c.from_residual-in_err-note_line.ensures.1
    (link_fails g.S.Steps.sense g.R.Remote.told (post (frame.Request c.args.request)) c.args.s.now c.note_line.new.s c.args.e.now c.post.new.self.agent.link c.in_ok-posted.posted.kept c.in_ok-posted.posted.line c.post.new.self c.in_err-note_line.field-0.0 c.in_err-note_line.ensures)

pub returns : goal.returns
returns g c = posted g.S.Steps.sense g.R.Remote.told (frame.Request c.args.request) c.args.s.now c.note_line.new.s c.args.e.now c.post.new.self c.in_ok-posted.posted c.in_ok-note_line.field-0 c.in_ok-posted.ensures.posts c.post.ensures.rest c.in_ok-posted.ensures.line c.post.ensures.remote c.in_ok-note_line.ensures
