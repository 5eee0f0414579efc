-- A reply that the remote's rules do not give: whatever becomes of it, the remote did not keep them.
use Rattle.std.proofs.Common.{◌≡◌, ℕ, Bool, true, false, refl, sym, ◌∙◌, inr, length}
use Rattle.std.specs.Prelude.{Some}
use Rattle.cf_base.specs.declared.messages.Reply.{Reply}
use Rattle.cf_base.specs.declared.messages.Request.{Request}
use Rattle.cf_base.specs.declared.notices.Frame.TheVariants as frame
use Rattle.cf_model.specs.Messages.{answered, counted, distrusted, if_kept, no_bytes, no_number, post_by, post_unless, take_if_any, with_message, with_remote}
use Rattle.cf_model.specs.State.{State, is_replay}
use Rattle.cf_model.specs.Store.{Held}
use Rattle.cf_model.specs.Trees.{Ends, Keeps, bind}
use Rattle.cf_model.proofs.TreeLaws.{kept_at_end}
use Rattle.cf_model_laws.specs.Premises.{IsFair}
use Rattle.cf_model_laws.proofs.Guarded.{Guarded}
use Rattle.cf_model_laws.proofs.MessagesGuarded.{last_message, take_reply_at}
use Rattle.cf_model_laws.proofs.RightItems.{no_way}
use Rattle.cf_model_convergence.specs.Telling.{IsTold, IsUnfair}
use Rattle.cf_model_convergence.proofs.SinceGuarded.{Follows, Since, since_follows, since_guarded, since_start}

module _ (P : State → Type 0) (closed : Guarded P) (n : ℕ) (q : Request) (other : Reply) (d : State) (unfair : IsUnfair d) (h : P d) where
  never : {A : Type 0} → IsFair d.link → A
  never fair = no_way (sym unfair ∙ fair.0)

  two : (b : Bool) → Keeps P (bind (bind (post_by (frame.Reply n other) b d) (if_kept other)) (take_if_any q))
  two true = (h, closed.loses (frame.Reply n other) d h)
  two false = (h, take_reply_at P closed n q other (with_message (frame.Reply n other) d) (λ fair. never fair) (length (with_message (frame.Reply n other) d).link.messages, last_message d.link.messages (frame.Reply n other)) (closed.posts (frame.Reply n other) d refl (λ fair. never fair) (λ fair. never fair) h))

  unfair_keeps : Keeps P (bind (answered n (Some other) d) (take_if_any q))
  unfair_keeps = by (no_number d) where
    by : (b : Bool) → Keeps P (bind (bind (post_unless (frame.Reply n other) b d) (if_kept other)) (take_if_any q))
    by true = h
    by false = two (no_bytes (frame.Reply n other) d)

pub unfair_told : (q : Request) (n : ℕ) (other : Reply) (held : Held) (s : State) (u : Unit {0}) (t : State) → is_replay s.mode ≡ true → Ends (bind (answered n (Some other) (distrusted (with_remote held (counted s)))) (take_if_any q)) u t → IsTold s t
unfair_told q n other held s u t replay ends = record { lines = k.adds.lines; noted = k.adds.noted; loud = inr (k.unfair refl) } where
  d : State
  d = distrusted (with_remote held (counted s))

  k : Follows d t
  k = since_follows d t (kept_at_end (Since d) (bind (answered n (Some other) d) (take_if_any q)) u t (unfair_keeps (Since d) (since_guarded d) n q other d refl (since_start d (replay, λ fair. no_way fair.0))) ends)
