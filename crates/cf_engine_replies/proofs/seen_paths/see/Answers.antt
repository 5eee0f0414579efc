use Rattle.std.proofs.Common.{subst}
use Rattle.cf_engine_queue.specs.Books.{entry_value}
use Rattle.cf_base.specs.declared.codes.CallError.TheVariants.{OutOfMemory}
use Rattle.cf_base.specs.declared.items.SeenPath.{SeenPath}
use Rattle.cf_engine_steps.specs.Answering.{Answers, Any}
use Rattle.cf_engine_steps.specs.States.{whole}
use Rattle.cf_model.specs.PushReplies.{entry_seen}
use Rattle.cf_model.specs.Skips.{try_seen}
use Rattle.cf_engine_steps.proofs.Laws.{with_err}
use Rattle.cf_engine_steps.proofs.Noted.{no_memory}
use Rattle.cf_engine_replies.proofs.seen_paths.see.Goals as goal

pub returns-in_err-path : goal.returns-in_err-path
returns-in_err-path g c = with_err (whole g.S.Steps.sense g.R.Remote.told) Any (try_seen (entry_seen (entry_value c.args.entry.now))) (c.args.s.now, c.args.e.now) (c.args.s.now, c.args.e.now) OutOfMemory c.from_residual.result c.from_residual.ensures.1 (no_memory (whole g.S.Steps.sense g.R.Remote.told) Any (try_seen (entry_seen (entry_value c.args.entry.now))) (c.args.s.now, c.args.e.now))

pub returns : goal.returns
returns g c = subst (λ (p : SeenPath). Answers (whole g.S.Steps.sense g.R.Remote.told) Any (try_seen p) (c.args.s.now, c.args.e.now) c.try_seen-done.result (c.try_seen-done.new.s, c.try_seen-done.new.e)) c.in_ok-path.ensures c.try_seen-done.ensures
