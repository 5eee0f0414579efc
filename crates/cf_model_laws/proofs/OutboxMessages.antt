-- What lines and messages keep of the power, of the callbacks that are still to be called, and of what waits and is asked.
use Rattle.std.proofs.Common.{ℕ, ◌+◌, Bool, true, false}
use Rattle.std.specs.Prelude.{Option, Some, None}
use Rattle.cf_base.specs.declared.codes.Code.{Code}
use Rattle.cf_base.specs.declared.messages.Reply.{Reply}
use Rattle.cf_base.specs.declared.messages.Request.{Request}
use Rattle.cf_base.specs.declared.notices.Frame.{Frame}
use Rattle.cf_base.specs.declared.notices.Frame.TheVariants as frame
use Rattle.cf_model.specs.Arrows.{Preserves}
use Rattle.cf_model.specs.Messages.{answered, ask, come, failed, fault_line, if_kept, no_bytes, no_number, post, post_by, post_unless, was_kept, with_lost, with_message}
use Rattle.cf_model.specs.Skips.{skip, skip_line, skipped}
use Rattle.cf_model.specs.State.{Power, State}
use Rattle.cf_model.proofs.ArrowLaws.{keeps_noted, keeps_one, keeps_reading, keeps_ret, keeps_seq}
use Rattle.cf_model.proofs.MessagesKeep.{asked_keeps}
use Rattle.cf_model_laws.proofs.OutboxFacts.{Fact}

module _ (G : Power → Fact) where
  abbrev In : State → Type 0
  In s = G s.power s.filter.outbox s.filter.waiting

  line_keeps : (shows : Bool) (c : Code) (s : State) → In s → In (skip_line shows c s)
  line_keeps true c s h = h
  line_keeps false c s h = h

  pub skip_keeps : (c : Code) → Preserves In (skip c)
  skip_keeps c = keeps_noted In (skipped c) (λ s h. line_keeps s.running.shows_skips c (record s { running = record s.running { skips = s.running.skips + 1 } }) h)

  post_by_keeps : (f : Frame) (full : Bool) → Preserves In (post_by f full)
  post_by_keeps f true = keeps_seq In _ (was_kept false) (keeps_one In (with_lost f) (λ s h. h)) (λ u. keeps_ret In false)
  post_by_keeps f false = keeps_seq In _ (was_kept true) (keeps_one In (with_message f) (λ s h. h)) (λ u. keeps_ret In true)

  post_unless_keeps : (f : Frame) (none : Bool) → Preserves In (post_unless f none)
  post_unless_keeps f true = keeps_ret In false
  post_unless_keeps f false = keeps_reading In (no_bytes f) (post_by f) (post_by_keeps f)

  pub post_keeps : (f : Frame) → Preserves In (post f)
  post_keeps f = keeps_reading In no_number (post_unless f) (post_unless_keeps f)

  if_kept_keeps : (r : Reply) (kept : Bool) → Preserves In (if_kept r kept)
  if_kept_keeps r true = keeps_ret In (Some r)
  if_kept_keeps r false = keeps_ret In None

  answered_keeps : (m : ℕ) (r : Option Reply) → Preserves In (answered m r)
  answered_keeps m None = keeps_seq In _ failed (keeps_one In (fault_line m) (λ s h. h)) (λ u. keeps_ret In None)
  answered_keeps m (Some r) = keeps_seq In (post (frame.Reply m r)) (if_kept r) (post_keeps (frame.Reply m r)) (if_kept_keeps r)

  pub asks_keep : (q : Request) → Preserves In (ask q)
  asks_keep q = asked_keeps In (λ s h. h) (λ held s h. h) (λ s h. h) q

  pub come_keeps : (m : ℕ) (q : Request) → Preserves In (come m q)
  come_keeps m q = keeps_seq In (ask q) (answered m) (asks_keep q) (answered_keeps m)
