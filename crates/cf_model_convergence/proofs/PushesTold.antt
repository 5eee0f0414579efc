-- An upload that a pass sends over a link that answers at once is reported: done, refused, or with trouble.
use Rattle.std.proofs.Common.{◌≡◌, ◌+◌, ℕ, Bool, true, false, List, [], ◌∷◌, ◌++◌, refl, sym, ◌∙◌, ap, subst, inl, inr, length, ◌⊎◌}
use Rattle.std.specs.Prelude.{Option, Some, None, ◌||◌, ◌==◌}
use Rattle.std.specs.List.{list_any}
use Rattle.std.proofs.lemmas.List.{append_assoc}
use Rattle.cf_base.specs.declared.codes.Code.{Code}
use Rattle.cf_base.specs.declared.ids.Token.{Token}
use Rattle.cf_base.specs.declared.ids.Version.{Version}
use Rattle.cf_base.specs.declared.messages.Reply.{Reply}
use Rattle.cf_base.specs.declared.messages.Reply.TheVariants as reply
use Rattle.cf_base.specs.declared.messages.Request.{Request}
use Rattle.cf_base.specs.declared.messages.Why.{Why}
use Rattle.cf_base.specs.declared.notices.Frame.TheVariants as frame
use Rattle.cf_base.specs.declared.notices.Notice.{Notice}
use Rattle.cf_base.specs.declared.notices.Notice.TheVariants as notice
use Rattle.cf_model.specs.Arrows.{choose, one, then_do, unless_done, when_ok}
use Rattle.cf_model.specs.Books.{Action, MakeDir, MoveItem, PutFile, QueueEntry, RemoveItem, with_entry}
use Rattle.cf_model.specs.Messages.{after_post, answered, come_if, counted, fault_line, if_kept, is_upload, next_message, no_bytes, no_number, post_by, post_unless, send_now, take_if_any, take_reply, with_lost, with_message, with_remote}
use Rattle.cf_model.specs.Points.{commit, with_sure_point}
use Rattle.cf_model.specs.Pushes.{anchored, push, request_by, send_if, with_token, why_no_token}
use Rattle.cf_model.specs.Skips.{in_book, left_out, skip_line, try_book, why_no_record, with_book, with_volatile}
use Rattle.cf_model.specs.State.{State, in_filter, in_volume, with_filter, with_volume}
use Rattle.cf_model.specs.Store.{Held, Mutation, Recorded, decide, make_dir, move_to, mutate, put_new, put_version, recorded_at, remote_step, remove_at}
use Rattle.cf_model.specs.Trees.{AsItKeeps, Faults, Keeps, bind, Ends, Tells}
use Rattle.cf_model_laws.specs.Invariant.{Invariant}
use Rattle.cf_model_laws.specs.Premises.{IsFair}
use Rattle.cf_model_laws.proofs.MessagesGuarded.{last_message, reply_posted, take_reply_at}
use Rattle.cf_model_laws.proofs.RemoteGrowth.{still_bytes}
use Rattle.cf_model_laws.proofs.RemoteSteps.{tells_bytes, tells_truth}
use Rattle.cf_model_laws.proofs.RightItems.{no_way}
use Rattle.cf_model_laws.proofs.SoundLinks.{message_longer}
use Rattle.cf_model_laws.proofs.SoundStates.{small_before, posted_sound}
use Rattle.cf_model_laws.proofs.UploadsGuarded.{upload_sends}
use Rattle.cf_model_convergence.specs.Telling.{IsListening, IsTold, IsUnfair, is_loud}
use Rattle.cf_model.proofs.StoreLaws.{step_extends}
use Rattle.cf_model.proofs.TreeLaws.{kept_at_end}
use Rattle.cf_model_convergence.proofs.SinceGuarded.{Follows, Since, since_follows, since_guarded, since_start}
use Rattle.cf_model_convergence.proofs.UnfairReplies.{unfair_told}
use Rattle.cf_model_laws.specs.Taken.{ToldAt}

-- lines

loud_left : (xs ys : List Notice) → list_any is_loud xs ≡ true → list_any is_loud (xs ++ ys) ≡ true
loud_left [] ys e = no_way e
loud_left (x ∷ xs) ys e = by (is_loud x) e (loud_left xs ys) where
  by : (b : Bool) → (b || list_any is_loud xs) ≡ true → (list_any is_loud xs ≡ true → list_any is_loud (xs ++ ys) ≡ true) → (b || list_any is_loud (xs ++ ys)) ≡ true
  by true z more = refl
  by false z more = more z

loud_right : (xs ys : List Notice) → list_any is_loud ys ≡ true → list_any is_loud (xs ++ ys) ≡ true
loud_right [] ys e = e
loud_right (x ∷ xs) ys e = by (is_loud x) (loud_right xs ys e) where
  by : (b : Bool) → list_any is_loud (xs ++ ys) ≡ true → (b || list_any is_loud (xs ++ ys)) ≡ true
  by true z = refl
  by false z = z

one_loud : (n : Notice) → is_loud n ≡ true → list_any is_loud (n ∷ []) ≡ true
one_loud n e = by (is_loud n) e where
  by : (b : Bool) → b ≡ true → (b || false) ≡ true
  by true z = refl
  by false z = no_way z

pub told_one : (s t : State) (n : Notice) → t.filter.notes ≡ s.filter.notes ++ n ∷ [] → is_loud n ≡ true → IsTold s t
told_one s t n e loud = record { lines = n ∷ []; noted = e; loud = inl (one_loud n loud) }

pub told_then : (s m t : State) → IsTold s m → Follows m t → IsTold s t
told_then s m t h k = record { lines = h.lines ++ k.adds.lines; noted = k.adds.noted ∙ ap (λ (ns : List Notice). ns ++ k.adds.lines) h.noted ∙ append_assoc s.filter.notes h.lines k.adds.lines; loud = by h.loud } where
  by : (list_any is_loud h.lines ≡ true) ⊎ IsUnfair m → (list_any is_loud (h.lines ++ k.adds.lines) ≡ true) ⊎ IsUnfair t
  by (inl e) = inl (loud_left h.lines k.adds.lines e)
  by (inr e) = inr (k.unfair e)

pub told_after : (s m t : State) (ns : List Notice) → m.filter.notes ≡ s.filter.notes ++ ns → IsTold m t → IsTold s t
told_after s m t ns e h = record { lines = ns ++ h.lines; noted = h.noted ∙ ap (λ (xs : List Notice). xs ++ h.lines) e ∙ append_assoc s.filter.notes ns h.lines; loud = by h.loud } where
  by : (list_any is_loud h.lines ≡ true) ⊎ IsUnfair t → (list_any is_loud (ns ++ h.lines) ≡ true) ⊎ IsUnfair t
  by (inl e) = inl (loud_right ns h.lines e)
  by (inr e) = inr e

pub skip_told : (b : Bool) (c : Code) (s u : State) → b ≡ true → u.filter.notes ≡ s.filter.notes → IsTold s (skip_line b c u)
skip_told true c s u shows same = told_one s (skip_line true c u) (notice.Skipped c) (ap (λ (ns : List Notice). ns ++ notice.Skipped c ∷ []) same) refl
skip_told false c s u shows same = no_way shows

-- replies

abbrev pub is_decided : Reply → Bool
is_decided (reply.Done token rid version) = true
is_decided (reply.Refused token w version) = true
is_decided _ = false

decided_loud : (n m : ℕ) (r : Reply) → is_decided r ≡ true → is_loud (notice.Message (record { message = n; frame = frame.Reply m r; lost = false })) ≡ true
decided_loud n m (reply.Done token rid version) e = refl
decided_loud n m (reply.Refused token w version) e = refl
decided_loud n m (reply.Feed round clock es) e = no_way e
decided_loud n m (reply.Listing key es) e = no_way e
decided_loud n m (reply.Bytes key start bytes) e = no_way e
decided_loud n m (reply.Missing key) e = no_way e
decided_loud n m (reply.Void token) e = no_way e
decided_loud n m (reply.Gone key) e = no_way e

mutated_decided : (held : Held) (token : Token) (m : Mutation) (o : Option Recorded) → o ≡ None → is_decided (mutate held token m o).0 ≡ true
mutated_decided held token m (Some r) e = let z : ◌≡◌ {A = Option Recorded} (Some r) None = e in absurd (none r z) where
  none : (r : Recorded) → ◌≡◌ {A = Option Recorded} (Some r) None → ⊥
  none r z = cc
mutated_decided held token m None e = by m.refusal where
  by : (w : Option Why) → is_decided (decide held token m w).0 ≡ true
  by (Some w) = refl
  by None = refl

step_decided : (a : Action) (held : Held) (e : QueueEntry) (expect : Version) (bytes : List ℕ) → recorded_at held.tokens e.token ≡ None → is_decided (remote_step held (request_by a e expect bytes)).0 ≡ true
step_decided PutFile held e expect bytes none =
    mutated_decided held e.token (elim (e.rid.0 == 0) as (λ _. Mutation) [ true ↦ put_new held e.parent e.name bytes | false ↦ put_version held e.rid expect bytes ]) (recorded_at held.tokens e.token) none
step_decided MakeDir held e expect bytes none = mutated_decided held e.token (make_dir held e.parent e.name) (recorded_at held.tokens e.token) none
step_decided MoveItem held e expect bytes none = mutated_decided held e.token (move_to held e.rid e.parent e.name) (recorded_at held.tokens e.token) none
step_decided RemoveItem held e expect bytes none = mutated_decided held e.token (remove_at held e.rid expect) (recorded_at held.tokens e.token) none

-- the request comes to the remote, and its reply is taken

abbrev pub HasNumbers : State → Type 0
HasNumbers t = no_number t ≡ false

pub numbers_used : {A : Type 0} (s t : State) → t ≡ s → no_number s ≡ true → HasNumbers t → A
numbers_used s t e used left = no_way (sym (subst (λ (x : State). no_number x ≡ false) e left) ∙ used)

-- a reply that decides was sent: it is reported, whatever becomes of it
pub reply_told : (m : ℕ) (q : Request) (r : Reply) (s : State) (u : Unit {0}) (t : State) → is_decided r ≡ true → (IsFair s.link → ToldAt s m q r) → Keeps Invariant (bind (answered m (Some r) s) (take_if_any q)) → Ends (bind (answered m (Some r) s) (take_if_any q)) u t → HasNumbers t → IsTold s t
reply_told m q r s u t decided told kept ends left = by (no_number s) refl kept ends where
  sent : State
  sent = with_message (frame.Reply m r) s

  two : (b : Bool) → Keeps Invariant (bind (bind (post_by (frame.Reply m r) b s) (if_kept r)) (take_if_any q)) → Ends (bind (bind (post_by (frame.Reply m r) b s) (if_kept r)) (take_if_any q)) u t → IsTold s t
  two true k e = subst (IsTold s) (sym e.1) (told_one s (with_lost (frame.Reply m r) s) (notice.Message (record { message = next_message s; frame = frame.Reply m r; lost = true })) refl refl)
  two false k e =
      told_then s sent t (told_one s sent (notice.Message (record { message = next_message s; frame = frame.Reply m r; lost = false })) refl (decided_loud (next_message s) m r decided))
      (since_follows sent t (kept_at_end (Since sent) (take_reply q r sent) u t
      (take_reply_at (Since sent) (since_guarded sent) m q r sent after (length sent.link.messages, last_message s.link.messages (frame.Reply m r)) (since_start sent (posted_sound (frame.Reply m r) s (λ fair. reply_posted m q r s (told fair)) k.0))) e)) where
        after : IsFair sent.link → ToldAt sent m q r
        after fair = (message_longer s.link.messages (Some (frame.Reply m r) ∷ []) m (frame.Request q) (told fair).0, (told fair).1, (told fair).2)

  by : (b : Bool) → no_number s ≡ b → Keeps Invariant (bind (bind (post_unless (frame.Reply m r) b s) (if_kept r)) (take_if_any q)) → Ends (bind (bind (post_unless (frame.Reply m r) b s) (if_kept r)) (take_if_any q)) u t → IsTold s t
  by true used k e = numbers_used s t e.1 used left
  by false used k e = two (no_bytes (frame.Reply m r) s) k e

-- the remote's answer is a reply to the request that was posted
pub told_at_once : (q : Request) (s : State) → Invariant s → IsFair (with_remote (remote_step s.link.remote q).1 (counted (with_message (frame.Request q) s))).link
    → ToldAt (with_remote (remote_step s.link.remote q).1 (counted (with_message (frame.Request q) s))) (length (with_message (frame.Request q) s).link.messages) q (remote_step s.link.remote q).0
told_at_once q s h fair = (
  last_message s.link.messages (frame.Request q),
  tells_truth s.link.remote q (h.1 (fair.0, small_before s.link.remote q fair.1)).counted,
  still_bytes s.link.remote (remote_step s.link.remote q).1 q (remote_step s.link.remote q).0 (step_extends s.link.remote q) (tells_bytes s.link.remote q),
)

-- the request is sent, under a token that has no record

module _ (a : Action) (e : QueueEntry) (expect : Version) (bytes : List ℕ) where
  abbrev asked : Request
  asked = request_by a e expect bytes

  abbrev posted : State → State
  posted s = with_message (frame.Request asked) s

  come_told : (s : State) (u : Unit {0}) (t : State) (b : Bool) → b ≡ true → Invariant s → recorded_at s.link.remote.tokens e.token ≡ None → Keeps Invariant (come_if asked b (posted s)) → Ends (come_if asked b (posted s)) u t → HasNumbers t → IsTold (posted s) t
  come_told s u t false inline h none kept ends left = no_way inline
  come_told s u t true inline h none kept (AsItKeeps, ends) left =
      let k : IsTold (with_remote (remote_step s.link.remote asked).1 (counted (posted s))) t =
      reply_told (length (posted s).link.messages) asked (remote_step s.link.remote asked).0 (with_remote (remote_step s.link.remote asked).1 (counted (posted s))) u t (step_decided a s.link.remote e expect bytes none) (told_at_once asked s h) (kept AsItKeeps) ends left in
      record { lines = k.lines; noted = k.noted; loud = k.loud }
  come_told s u t true inline h none kept (Tells other, ends) left = unfair_told asked (length (posted s).link.messages) other (remote_step s.link.remote asked).1 (posted s) u t h.0 ends
  come_told s u t true inline h none kept (Faults, ends) left = subst (IsTold (posted s)) (sym ends.1) (told_one (posted s) (fault_line (length (posted s).link.messages) (counted (posted s))) (notice.Fault (length (posted s).link.messages)) refl refl)

  send_told : (s : State) (u : Unit {0}) (t : State) → s.link.inline ≡ true → recorded_at s.link.remote.tokens e.token ≡ None → Keeps Invariant (send_now asked s) → Ends (send_now asked s) u t → HasNumbers t → IsTold s t
  send_told s u t inline none kept ends left = by (no_number s) refl kept ends where
    two : (b : Bool) → Keeps Invariant (bind (post_by (frame.Request asked) b s) (after_post asked)) → Ends (bind (post_by (frame.Request asked) b s) (after_post asked)) u t → IsTold s t
    two true k z = subst (IsTold s) (sym z.1) (told_one s (with_lost (frame.Request asked) s) (notice.Message (record { message = next_message s; frame = frame.Request asked; lost = true })) refl refl)
    two false k z = told_after s (posted s) t (notice.Message (record { message = next_message s; frame = frame.Request asked; lost = false }) ∷ []) refl (come_told s u t s.link.inline inline k.0 none k.1 z left)

    by : (b : Bool) → no_number s ≡ b → Keeps Invariant (bind (post_unless (frame.Request asked) b s) (after_post asked)) → Ends (bind (post_unless (frame.Request asked) b s) (after_post asked)) u t → IsTold s t
    by true used k z = numbers_used s t z.1 used left
    by false used k z = two (no_bytes (frame.Request asked) s) k z

  -- the entry is stored, and after a commit the request is sent
  stored_told : (s : State) (u : Unit {0}) (t : State) → s.link.inline ≡ true → recorded_at s.link.remote.tokens e.token ≡ None → Keeps Invariant (send_if e asked true s) → Ends (send_if e asked true s) u t → HasNumbers t → IsTold s t
  stored_told s u t inline none kept ends left = by (is_upload asked) (upload_sends a e expect bytes) kept.1 ends where
    s3 : State
    s3 = with_book (anchored e) s

    s4 : State
    s4 = with_filter (with_volume (with_sure_point s3.filter.volume) s3.filter) s3

    by : (b : Bool) → b ≡ true → Keeps Invariant (choose b (then_do (in_filter (in_volume commit)) (send_now asked)) (send_now asked) s3) → Ends (choose b (then_do (in_filter (in_volume commit)) (send_now asked)) (send_now asked) s3) u t → IsTold s t
    by true z k w = let j : IsTold s4 t = send_told s4 u t inline none k.1 w left in record { lines = j.lines; noted = j.noted; loud = j.loud }
    by false z k w = no_way z

  pub push_told : (s : State) (u : Unit {0}) (t : State) → IsListening s → recorded_at s.link.remote.tokens e.token ≡ None → Keeps Invariant (push e asked s) → Ends (push e asked s) u t → HasNumbers t → IsTold s t
  push_told s u t listening none kept ends left = by (why_no_token s) kept ends where
    s1 : State
    s1 = with_volatile with_token s

    two : (o : Option Code) → Keeps Invariant (bind (bind (unless_done (in_book (with_entry e)) o s1) left_out) (send_if e asked)) → Ends (bind (bind (unless_done (in_book (with_entry e)) o s1) left_out) (send_if e asked)) u t → IsTold s t
    two None k z = let j : IsTold (with_book (with_entry e) s1) t = stored_told (with_book (with_entry e) s1) u t listening.inline none k.1 z left in record { lines = j.lines; noted = j.noted; loud = j.loud }
    two (Some c) k z = subst (IsTold s) (sym z.1) (skip_told s.running.shows_skips c s (record s1 { running = record s1.running { skips = s1.running.skips + 1 } }) listening.shows refl)

    by : (o : Option Code) → Keeps Invariant (bind (bind (bind (unless_done (one (with_volatile with_token)) o s) left_out) (when_ok false (try_book (with_entry e)))) (send_if e asked))
        → Ends (bind (bind (bind (unless_done (one (with_volatile with_token)) o s) left_out) (when_ok false (try_book (with_entry e)))) (send_if e asked)) u t → IsTold s t
    by None k z = two (why_no_record (with_entry e) s1) k.1 z
    by (Some c) k z = subst (IsTold s) (sym z.1) (skip_told s.running.shows_skips c s (record s { running = record s.running { skips = s.running.skips + 1 } }) listening.shows refl)
