-- Replies that are taken, and requests that are sent, as parts of the whole.
use Rattle.std.proofs.Common.{◌≡◌, Bool, true, false, refl, sym, ◌∙◌, ap, subst}
use Rattle.std.specs.Prelude.{Result, Ok, Err, Option}
use Rattle.cf_base.specs.declared.codes.CallError.{CallError}
use Rattle.cf_base.specs.declared.messages.Reply.{Reply}
use Rattle.cf_base.specs.declared.messages.Request.{Request}
use Rattle.cf_base.specs.declared.notices.Frame.TheVariants as frame
use Rattle.cf_engine_steps.specs.Answering.{Answers, Any, Reads, Whole}
use Rattle.cf_engine_steps.specs.Exchanges.{after_sent, come_last_if, exchange}
use Rattle.cf_engine_steps.specs.Quiet.{Quiet}
use Rattle.cf_engine_steps.specs.States.{Own, whole}
use Rattle.cf_engine_steps.proofs.Laws.{fails_first, goes_any, reads_on, returned, same_as, stops_first, then_any}
use Rattle.cf_engine_steps.proofs.Lifting.{lift_any}
use Rattle.cf_engine_steps.proofs.QuietParts.{quiet_filter}
use Rattle.cf_model.specs.Arrows.{choose, seq, then_do, unit}
use Rattle.cf_model.specs.Messages.{act_on, act_unless, after_post, come_if, is_inline, is_stale, is_upload, post, send, send_now, take_if_any, take_reply}
use Rattle.cf_model.specs.Points.{commit}
use Rattle.cf_model.specs.State.{State, in_filter, in_volume}
use Rattle.cf_model.specs.Trees.{Asked, Fork, Ret, Step, Tree, bind}
use Rattle.cf_remote.specs.Told.{Told}
use Rattle.cf_filter_steps.specs.Answering as steps

-- trees one after the other, in either grouping
bind_both : {S A B C : Type 0} (p : Tree S A) (f : A → S → Tree S B) (g : B → S → Tree S C) → bind (bind p f) g ≡ bind p (λ a s. bind (f a s) g)
bind_both (Ret a s) f g = refl
bind_both (Step s p) f g = ap (Step s) (bind_both p f g)
bind_both (Fork p q) f g = λ j. Fork (bind_both p f g j) (bind_both q f g j)
bind_both (Asked k) f g = λ j. Asked (λ x. bind_both (k x) f g j)

-- a request and then its reply

at_once : (q : Request) (b : Bool) (t : State) → bind (come_last_if q b t) (take_if_any q) ≡ come_if q b t
at_once q true t = refl
at_once q false t = refl

after_is : (q : Request) (b : Bool) (t : State) → bind (after_sent q b t) (take_if_any q) ≡ after_post q b t
after_is q true t = at_once q (is_inline t) t
after_is q false t = refl

send_is : (q : Request) (s : State) → seq (exchange q) (take_if_any q) s ≡ send_now q s
send_is q s = bind_both (post (frame.Request q) s) (after_sent q) (take_if_any q) ∙ (λ j. bind (post (frame.Request q) s) (λ b t. after_is q b t j))

module _ {X : Type 0} (W : Whole X) (q : Request) where
  pub taken_stale : (r : Reply) (x : X) (b : Bool) → Reads W Any (is_stale q r) x b → b ≡ true → Answers W Any (take_reply q r) x (Ok unit) x
  taken_stale r x b h is = reads_on W Any (is_stale q r) (act_unless r) x x true (Ok unit) (subst (λ (c : Bool). Reads W Any (is_stale q r) x c) is h) (returned W Any unit x)

  pub taken_now : (r : Reply) (x y : X) (b : Bool) (res : Result (Unit {0}) CallError) → Reads W Any (is_stale q r) x b → b ≡ false → Answers W Any (act_on r) x res y → Answers W Any (take_reply q r) x res y
  taken_now r x y b res h is k = reads_on W Any (is_stale q r) (act_unless r) x y false res (subst (λ (c : Bool). Reads W Any (is_stale q r) x c) is h) k

  pub sent_taken : (x y z : X) (o : Option Reply) (res : Result (Unit {0}) CallError) → Answers W Any (exchange q) x (Ok o) y → Answers W Any (take_if_any q o) y res z → Answers W Any (send_now q) x res z
  sent_taken x y z o res h k = same_as W Any (seq (exchange q) (take_if_any q)) (send_now q) x z res (send_is q) (goes_any W Any (exchange q) (take_if_any q) x y z o res h k)

  pub sent_fails : (x y : X) (c : CallError) → Answers W Any (exchange q) x (Err c) y → Answers W Any (send_now q) x (Err c) y
  sent_fails x y c h = same_as W Any (seq (exchange q) (take_if_any q)) (send_now q) x y (Err c) (send_is q) (fails_first W Any (exchange q) (take_if_any q) x y c h)

-- uploads

quiet_commit : Quiet (in_volume commit)
quiet_commit = record { keeps = λ n. (quiet_filter n).commits }

module _ {X R : Type 0} (S : steps.Sense X) (told : R → Told) (q : Request) (x : X) (e : Own R) where
  chosen : (b : Bool) (y : X) (f : Own R) (r : Result (Unit {0}) CallError) → b ≡ is_upload q → Answers (whole S told) Any (choose b (then_do (in_filter (in_volume commit)) (send_now q)) (send_now q)) (x, e) r (y, f) → Answers (whole S told) Any (send q) (x, e) r (y, f)
  chosen b y f r is h = subst (λ (c : Bool). Answers (whole S told) Any (choose c (then_do (in_filter (in_volume commit)) (send_now q)) (send_now q)) (x, e) r (y, f)) is h

  pub upload_sent : (b : Bool) (y z : X) (f : Own R) (u : Unit {0}) (r : Result (Unit {0}) CallError) → b ≡ is_upload q → b ≡ true → steps.Answers S steps.Any (in_volume commit) x (Ok u) y → Answers (whole S told) Any (send_now q) (y, e) r (z, f) → Answers (whole S told) Any (send q) (x, e) r (z, f)
  upload_sent b y z f u r is hit h k =
      chosen true z f r (sym hit ∙ is) (then_any (whole S told) Any (in_filter (in_volume commit)) (send_now q) (x, e) (y, e) (z, f) u r (lift_any S told (in_volume commit) x y e (Ok u) quiet_commit h) k)

  pub upload_fails : (b : Bool) (y : X) (c : CallError) → b ≡ is_upload q → b ≡ true → steps.Answers S steps.Any (in_volume commit) x (Err c) y → Answers (whole S told) Any (send q) (x, e) (Err c) (y, e)
  upload_fails b y c is hit h = chosen true y e (Err c) (sym hit ∙ is) (stops_first (whole S told) Any (in_filter (in_volume commit)) (send_now q) (x, e) (y, e) c (lift_any S told (in_volume commit) x y e (Err c) quiet_commit h))

  pub other_sent : (b : Bool) (y : X) (f : Own R) (r : Result (Unit {0}) CallError) → b ≡ is_upload q → b ≡ false → Answers (whole S told) Any (send_now q) (x, e) r (y, f) → Answers (whole S told) Any (send q) (x, e) r (y, f)
  other_sent b y f r is miss h = chosen false y f r (sym miss ∙ is) h
