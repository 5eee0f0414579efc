use Rattle.cf_base.specs.declared.messages.Request.{Request}
use Rattle.cf_engine_queue.specs.Books.{entry_value}
use Rattle.cf_engine_steps.specs.Answering.{Answers, Any}
use Rattle.cf_engine_steps.specs.States.{whole}
use Rattle.cf_model.specs.Pushes.{push}
use Rattle.std.proofs.Common.{subst}
use Rattle.cf_engine_uploads.proofs.uploads.push_draft.Goals as goal

pub returns : goal.returns
returns g c = subst (λ (q : Request). Answers (whole g.S.Steps.sense g.R.Remote.told) Any (push (entry_value c.args.draft.now.entry) q) (c.args.s.now, c.args.e.now) c.push.result (c.push.new.s, c.push.new.e)) c.in_ok-request.ensures.0 c.push.ensures
