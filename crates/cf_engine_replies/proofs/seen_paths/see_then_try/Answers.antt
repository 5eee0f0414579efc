use Rattle.std.proofs.Common.{false}
use Rattle.cf_engine_queue.specs.Books.{entry_value}
use Rattle.cf_engine_steps.specs.Answering.{Any}
use Rattle.cf_engine_steps.specs.States.{whole}
use Rattle.cf_model.specs.Arrows.{when_ok}
use Rattle.cf_model.specs.PushReplies.{entry_seen}
use Rattle.cf_model.specs.Skips.{try_mark, try_seen}
use Rattle.cf_engine_steps.proofs.Laws.{ok_both, ok_off}
use Rattle.cf_engine_replies.proofs.Parts.{fails_by}
use Rattle.cf_engine_replies.proofs.seen_paths.see_then_try.Goals as goal

pub returns-in_err-see : goal.returns-in_err-see
returns-in_err-see g c = fails_by _ (try_seen (entry_seen (entry_value c.args.entry.now))) (when_ok false (try_mark c.args.entry.now.item c.args.entry.now.number)) _ _ _ _ c.from_residual.ensures.1 c.in_err-see.ensures

pub returns-then-not-branch : goal.returns-then-not-branch
returns-then-not-branch g c = ok_off (whole g.S.Steps.sense g.R.Remote.told) Any (try_seen (entry_seen (entry_value c.args.entry.now))) false (try_mark c.args.entry.now.item c.args.entry.now.number) _ _ _ c.in_ok-see.ensures c.if-not-branch.true

pub returns : goal.returns
returns g c = ok_both _ (try_seen (entry_seen (entry_value c.args.entry.now))) false (try_mark c.args.entry.now.item c.args.entry.now.number) _ _ _ _ _ _ _ _ c.in_ok-see.ensures c.if-not-branch.false c.try_mark.ensures
