use Rattle.std.proofs.Common.{subst}
use Rattle.std.specs.Prelude.{Ok}
use Rattle.cf_base.specs.declared.messages.Request.{Request}
use Rattle.cf_base.specs.declared.notices.Frame.TheVariants as frame
use Rattle.cf_engine_steps.specs.Answering.{Answers, Any}
use Rattle.cf_engine_steps.specs.Exchanges.{after_sent, exchange}
use Rattle.cf_engine_steps.specs.States.{whole}
use Rattle.cf_engine_steps.proofs.Exchanged.{sent_later, sent_lost, sent_now}
use Rattle.cf_engine_steps.proofs.Laws.{fails_first, with_err}
use Rattle.cf_engine_steps.proofs.Linking.{link_fails, posted}
use Rattle.cf_link.specs.Linked.{Posts}
use Rattle.cf_model.specs.Messages.{post}
use Rattle.cf_engine_steps.proofs.exchanges.exchange.Goals as goal

pub returns-in_err-note_line : goal.returns-in_err-note_line
returns-in_err-note_line g c = with_err (whole g.S.Steps.sense g.R.Remote.told) Any (exchange c.args.request.now) (c.args.s.now, c.args.e.now) (c.note_line.new.s, c.post.new.self) c.in_err-note_line.field-0.0 c.from_residual-in_err-note_line.result c.from_residual-in_err-note_line.ensures.1
    (fails_first (whole g.S.Steps.sense g.R.Remote.told) Any (post (frame.Request c.args.request.now)) (after_sent c.args.request.now) (c.args.s.now, c.args.e.now) (c.note_line.new.s, c.post.new.self) c.in_err-note_line.field-0.0
    (link_fails g.S.Steps.sense g.R.Remote.told (post (frame.Request c.args.request.now)) c.args.s.now c.note_line.new.s c.args.e.now c.post.new.self.agent.link c.in_ok-posted.posted.kept c.in_ok-posted.posted.line c.post.new.self c.in_err-note_line.field-0.0 c.in_err-note_line.ensures))

pub returns-then-not-kept : goal.returns-then-not-kept
returns-then-not-kept g c = sent_lost g.S.Steps.sense g.R.Remote.told c.args.request.now c.args.s.now c.note_line.new.s c.args.e.now c.post.new.self c.in_ok-posted.posted
    (subst (λ (q : Request). Answers (whole g.S.Steps.sense g.R.Remote.told) Any (post (frame.Request q)) (c.args.s.now, c.args.e.now) (Ok c.in_ok-posted.posted.kept) (c.note_line.new.s, c.post.new.self)) c.in_ok-copy.ensures
    (posted g.S.Steps.sense g.R.Remote.told (frame.Request c.in_ok-copy.field-0) c.args.s.now c.note_line.new.s c.args.e.now c.post.new.self c.in_ok-posted.posted c.in_ok-note_line.field-0 c.in_ok-posted.ensures.posts c.post.ensures.rest c.in_ok-posted.ensures.line c.post.ensures.remote c.in_ok-note_line.ensures))
    c.if-not-kept.true

pub returns-then-not-is_inline : goal.returns-then-not-is_inline
returns-then-not-is_inline g c = sent_later g.S.Steps.sense g.R.Remote.told c.args.request.now c.args.s.now c.note_line.new.s c.args.e.now c.post.new.self c.in_ok-posted.posted
    (subst (λ (q : Request). Answers (whole g.S.Steps.sense g.R.Remote.told) Any (post (frame.Request q)) (c.args.s.now, c.args.e.now) (Ok c.in_ok-posted.posted.kept) (c.note_line.new.s, c.post.new.self)) c.in_ok-copy.ensures
    (posted g.S.Steps.sense g.R.Remote.told (frame.Request c.in_ok-copy.field-0) c.args.s.now c.note_line.new.s c.args.e.now c.post.new.self c.in_ok-posted.posted c.in_ok-note_line.field-0 c.in_ok-posted.ensures.posts c.post.ensures.rest c.in_ok-posted.ensures.line c.post.ensures.remote c.in_ok-note_line.ensures))
    c.if-not-kept.false c.is_inline.result c.is_inline.ensures c.if-not-is_inline.true

pub returns : goal.returns
returns g c = sent_now g.S.Steps.sense g.R.Remote.told c.args.request.now c.args.s.now c.note_line.new.s c.args.e.now c.post.new.self c.in_ok-posted.posted
    (subst (λ (q : Request). Answers (whole g.S.Steps.sense g.R.Remote.told) Any (post (frame.Request q)) (c.args.s.now, c.args.e.now) (Ok c.in_ok-posted.posted.kept) (c.note_line.new.s, c.post.new.self)) c.in_ok-copy.ensures
    (posted g.S.Steps.sense g.R.Remote.told (frame.Request c.in_ok-copy.field-0) c.args.s.now c.note_line.new.s c.args.e.now c.post.new.self c.in_ok-posted.posted c.in_ok-note_line.field-0 c.in_ok-posted.ensures.posts c.post.ensures.rest c.in_ok-posted.ensures.line c.post.ensures.remote c.in_ok-note_line.ensures))
    c.come.new.s c.come.new.e c.come.result c.if-not-kept.false c.is_inline.result c.is_inline.ensures c.if-not-is_inline.false (subst (λ (q : Request). Posts g.R.Remote.told (frame.Request q) c.args.e.now.agent.link c.in_ok-posted.posted c.post.new.self.agent.link) c.in_ok-copy.ensures c.in_ok-posted.ensures.posts) c.come.ensures
