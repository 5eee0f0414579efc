-- What became of each upload is asked over a link that answers at once: it is reported as done, or the upload is gone.
use Rattle.std.proofs.Common.{◌≡◌, ◌⊎◌, ◌<◌, ℕ, Bool, true, false, List, [], ◌∷◌, refl, sym, ◌∙◌, ap, subst, inl, inr, length}
use Rattle.std.specs.Prelude.{Option, Some, None, cond, filter, find, is_some, not, ◌||◌}
use Rattle.cf_base.specs.declared.ids.Rid.{Rid}
use Rattle.cf_base.specs.declared.messages.Reply.{Reply}
use Rattle.cf_base.specs.declared.messages.Reply.TheVariants as reply
use Rattle.cf_base.specs.declared.messages.Request.{Request}
use Rattle.cf_base.specs.declared.messages.Request.TheVariants as request
use Rattle.cf_base.specs.declared.notices.Frame.TheVariants as frame
use Rattle.cf_base.specs.declared.notices.Notice.TheVariants as notice
use Rattle.cf_model.specs.Arrows.{each}
use Rattle.cf_model.specs.Books.{QueueEntry, entry_of, without_entry}
use Rattle.cf_model.specs.Messages.{act_on, act_unless, after_post, answered, come_if, counted, fault_line, if_kept, is_stale, next_message, no_bytes, no_number, post_by, post_unless, take_if_any, with_entry, with_lost, with_message, with_remote}
use Rattle.cf_model.specs.Changes.{next_number}
use Rattle.cf_model.specs.Numbers.{no_item, same_key}
use Rattle.cf_model.specs.Passes.{settle_all, settle_entry}
use Rattle.cf_model.specs.PushReplies.{take_void, taken_from_row}
use Rattle.cf_model.specs.Skips.{with_book, with_volatile}
use Rattle.cf_model.specs.State.{Filter, Running, State, book_now}
use Rattle.cf_model.specs.Store.{Held, Recorded, RecordedDone, RecordedVoid, Stored, recorded_at, settle, stored_at, version_bytes, remote_step}
use Rattle.cf_model.specs.Trees.{AsItKeeps, Keeps, bind, Ends, Faults, Tells}
use Rattle.cf_model.proofs.StoreLaws.{same_key-refl}
use Rattle.cf_model.proofs.TreeLaws.{kept_at_end}
use Rattle.cf_model_laws.specs.GivenOnce.{WasGiven}
use Rattle.cf_model_laws.specs.Invariant.{All, AreMadeApart, Invariant, IsEntryOf, Made}
use Rattle.cf_model_laws.specs.Premises.{IsFair}
use Rattle.cf_model_laws.proofs.ContentLaws.{sound_whole}
use Rattle.cf_model_laws.proofs.Gathered.{all_found, all_weaker}
use Rattle.cf_model_laws.proofs.MessagesGuarded.{send_now_at}
use Rattle.cf_model_laws.proofs.FramesGuarded.{guarded_framed}
use Rattle.cf_model_laws.proofs.PassesGuarded.{Entries, Whatever, settle_list, settle_posted}
use Rattle.cf_model_laws.proofs.RightItems.{no_way, no_way_back}
use Rattle.cf_model_laws.proofs.UploadsGuarded.{swapped}
use Rattle.cf_model_convergence.specs.Settles.{IsSettledTo}
use Rattle.cf_model_convergence.specs.Telling.{IsListening, IsTold}
use Rattle.cf_model_convergence.proofs.PushesTold.{numbers_used, reply_told, told_after, told_at_once, told_one, told_then}
use Rattle.cf_model_convergence.proofs.TurnsTold.{ends_bind}
use Rattle.cf_model_convergence.proofs.SinceGuarded.{Since, since_follows, since_guarded, since_start}
use Rattle.cf_model_convergence.proofs.UnfairReplies.{unfair_told}
use Rattle.cf_model_laws.specs.Taken.{ToldAt}

-- one upload

module _ (e : QueueEntry) (s : State) where
  abbrev asked : Request
  asked = request.Settle e.token

  abbrev posted : State
  posted = with_message (frame.Request asked) s

  abbrev number : ℕ
  number = length posted.link.messages

  -- the remote has answered
  abbrev came : Held → State
  came held = with_remote held (counted posted)

  abbrev sent : Held → State
  sent held = with_message (frame.Reply number (reply.Void e.token)) (came held)

  -- and the upload is gone
  abbrev freed : Held → State
  freed held = with_volatile (taken_from_row e) (with_book (without_entry e.token) (sent held))

  settled_to : (held : Held) → held ≡ record s.link.remote { tokens = held.tokens } → IsSettledTo (without_entry e.token (book_now s)).entries s (freed held)
  settled_to held remote = record { filter = refl; running = refl; inline = refl; honest = refl; remote = remote }

  not_old : (held : Held) → entry_of (book_now s) e.token ≡ Some e → is_stale asked (reply.Void e.token) (sent held) ≡ false
  not_old held live = by (same_key e.token.0 e.token.0) (entry_of (book_now s) e.token) (same_key-refl e.token.0) live where
    by : (a : Bool) (o : Option QueueEntry) → a ≡ true → o ≡ Some e → (not a || not (is_some o)) ≡ false
    by true (Some x) p q = refl
    by true None p q = let z : ◌≡◌ {A = Option QueueEntry} None (Some e) = q in absurd (none e z) where
      none : (x : QueueEntry) → ◌≡◌ {A = Option QueueEntry} None (Some x) → ⊥
      none x z = cc
    by false o p q = no_way p

  void_left : (held : Held) → held ≡ record s.link.remote { tokens = held.tokens } → entry_of (book_now s) e.token ≡ Some e → (u : Unit {0}) (t : State)
      → Ends (bind (answered number (Some (reply.Void e.token)) (came held)) (take_if_any asked)) u t → no_number t ≡ false → IsTold s t ⊎ IsSettledTo (without_entry e.token (book_now s)).entries s t
  void_left held remote live u t ends left = by (no_number (came held)) refl ends where
    acted : Ends (act_unless (reply.Void e.token) (is_stale asked (reply.Void e.token) (sent held)) (sent held)) u t → IsSettledTo (without_entry e.token (book_now s)).entries s t
    acted z =
        let k : Ends (act_on (reply.Void e.token) (sent held)) u t = subst (λ (b : Bool). Ends (act_unless (reply.Void e.token) b (sent held)) u t) (not_old held live) z in
        let w : Ends (take_void e (sent held)) u t = subst (λ (o : Option QueueEntry). Ends (with_entry take_void o (sent held)) u t) live k in
        subst (IsSettledTo (without_entry e.token (book_now s)).entries s) (sym w.1) (settled_to held remote)

    two : (b : Bool) → Ends (bind (bind (post_by (frame.Reply number (reply.Void e.token)) b (came held)) (if_kept (reply.Void e.token))) (take_if_any asked)) u t → IsTold s t ⊎ IsSettledTo (without_entry e.token (book_now s)).entries s t
    two true z =
        inl (subst (IsTold s) (sym z.1)
        (told_after s posted (with_lost (frame.Reply number (reply.Void e.token)) (came held)) (notice.Message (record { message = next_message s; frame = frame.Request asked; lost = false }) ∷ []) refl
        (told_one posted (with_lost (frame.Reply number (reply.Void e.token)) (came held)) (notice.Message (record { message = next_message (came held); frame = frame.Reply number (reply.Void e.token); lost = true })) refl refl)))
    two false z = inr (acted z)

    by : (b : Bool) → no_number (came held) ≡ b → Ends (bind (bind (post_unless (frame.Reply number (reply.Void e.token)) b (came held)) (if_kept (reply.Void e.token))) (take_if_any asked)) u t → IsTold s t ⊎ IsSettledTo (without_entry e.token (book_now s)).entries s t
    by true used z = numbers_used (came held) t z.1 used left
    by false used z = two (no_bytes (frame.Reply number (reply.Void e.token)) (came held)) z

  abbrev Answered : Option Recorded → Unit {0} → State → Type 0
  Answered o u t = Ends (bind (answered number (Some (settle s.link.remote e.token o).0) (came (settle s.link.remote e.token o).1)) (take_if_any asked)) u t

  abbrev Left : State → Type 0
  Left t = IsTold s t ⊎ IsSettledTo (without_entry e.token (book_now s)).entries s t

  -- what was done is reported as done
  answer_left : (o : Option Recorded) → recorded_at s.link.remote.tokens e.token ≡ o → Invariant s → entry_of (book_now s) e.token ≡ Some e → (u : Unit {0}) (t : State)
      → Keeps Invariant (bind (answered number (Some (settle s.link.remote e.token o).0) (came (settle s.link.remote e.token o).1)) (take_if_any asked)) → Answered o u t → no_number t ≡ false → Left t
  answer_left None f h live u t kept ends left = void_left (settle s.link.remote e.token None).1 refl live u t ends left
  answer_left (Some RecordedVoid) f h live u t kept ends left = void_left s.link.remote refl live u t ends left
  answer_left (Some (RecordedDone rid version)) f h live u t kept ends left =
      inl (told_after s posted t (notice.Message (record { message = next_message s; frame = frame.Request asked; lost = false }) ∷ []) refl (again told)) where
        same : (settle s.link.remote e.token (recorded_at s.link.remote.tokens e.token)) ≡ (reply.Done e.token rid version, s.link.remote)
        same = ap (λ (o : Option Recorded). settle s.link.remote e.token o) f

        now : IsFair (came s.link.remote).link → ToldAt (came s.link.remote) number asked (reply.Done e.token rid version)
        now fair = subst (λ (x : Reply × Held). ToldAt (came x.1) number asked x.0) same (told_at_once asked s h (subst (λ (x : Reply × Held). IsFair (came x.1).link) (sym same) fair))

        told : IsTold (came s.link.remote) t
        told = reply_told number asked (reply.Done e.token rid version) (came s.link.remote) u t refl now kept ends left

        again : IsTold (came s.link.remote) t → IsTold posted t
        again k = record { lines = k.lines; noted = k.noted; loud = k.loud }

  come_left : (b : Bool) → b ≡ true → Invariant s → entry_of (book_now s) e.token ≡ Some e → (u : Unit {0}) (t : State) → Keeps Invariant (come_if asked b posted) → Ends (come_if asked b posted) u t → no_number t ≡ false → Left t
  come_left false inline h live u t kept ends left = no_way inline
  come_left true inline h live u t kept (AsItKeeps, ends) left = answer_left (recorded_at s.link.remote.tokens e.token) refl h live u t (kept AsItKeeps) ends left
  come_left true inline h live u t kept (Tells other, ends) left =
      inl (told_after s posted t (notice.Message (record { message = next_message s; frame = frame.Request asked; lost = false }) ∷ []) refl (unfair_told asked number other (remote_step s.link.remote asked).1 posted u t h.0 ends))
  come_left true inline h live u t kept (Faults, ends) left =
      inl (told_after s posted t (notice.Message (record { message = next_message s; frame = frame.Request asked; lost = false }) ∷ []) refl
      (subst (IsTold posted) (sym ends.1) (told_one posted (fault_line number (counted posted)) (notice.Fault number) refl refl)))

  given_of : Invariant s → entry_of (book_now s) e.token ≡ Some e → Keeps Invariant (settle_entry e s)
  given_of h live =
      send_now_at Invariant sound_whole.closed asked s refl
      (λ fair. settle_posted s e.token (all_found (IsEntryOf (next_number s.filter.volume) s.filter.volume.next_item.0 s.filter.volume.epoch s.volatile.tokens) (λ f. same_key f.token.0 e.token.0) (book_now s).entries e live (h.1 fair).now.given).0.token) (λ fair. tt) h

  entry_left : Invariant s → IsListening s → entry_of (book_now s) e.token ≡ Some e → (u : Unit {0}) (t : State) → Ends (settle_entry e s) u t → no_number t ≡ false → Left t
  entry_left h listening live u t ends left = by (no_number s) refl (given_of h live) ends where
    two : (b : Bool) → Keeps Invariant (bind (post_by (frame.Request asked) b s) (after_post asked)) → Ends (bind (post_by (frame.Request asked) b s) (after_post asked)) u t → Left t
    two true k z = inl (subst (IsTold s) (sym z.1) (told_one s (with_lost (frame.Request asked) s) (notice.Message (record { message = next_message s; frame = frame.Request asked; lost = true })) refl refl))
    two false k z = come_left s.link.inline listening.inline h live u t k.1 z left

    by : (b : Bool) → no_number s ≡ b → Keeps Invariant (bind (post_unless (frame.Request asked) b s) (after_post asked)) → Ends (bind (post_unless (frame.Request asked) b s) (after_post asked)) u t → Left t
    by true used k z = numbers_used s t z.1 used left
    by false used k z = two (no_bytes (frame.Request asked) s) k z

-- all uploads

-- without the first, whose token no other has
rest_left : (r : Held) (e : QueueEntry) (es : List QueueEntry) → AreMadeApart r (e ∷ es) → filter (λ f. not (same_key f.token.0 e.token.0)) (e ∷ es) ≡ es
rest_left r e es h = by (same_key e.token.0 e.token.0) (same_key-refl e.token.0) where
  others : (fs : List QueueEntry) → All (λ f. (same_key e.token.0 f.token.0 ≡ false) × ((rid : Rid) → Made r e rid → Made r f rid → ⊥)) fs → filter (λ f. not (same_key f.token.0 e.token.0)) fs ≡ fs
  others [] k = refl
  others (f ∷ fs) k = one (same_key f.token.0 e.token.0) (swapped f.token.0 e.token.0 ∙ k.0.0) (others fs k.1) where
    one : (b : Bool) → b ≡ false → filter (λ g. not (same_key g.token.0 e.token.0)) fs ≡ fs → cond (not b) (f ∷ filter (λ g. not (same_key g.token.0 e.token.0)) fs) (filter (λ g. not (same_key g.token.0 e.token.0)) fs) ≡ f ∷ fs
    one true q z = no_way_back q
    one false q z = ap (λ (gs : List QueueEntry). f ∷ gs) z

  by : (b : Bool) → b ≡ true → cond (not b) (e ∷ filter (λ f. not (same_key f.token.0 e.token.0)) es) (filter (λ f. not (same_key f.token.0 e.token.0)) es) ≡ es
  by true q = others es h.0
  by false q = no_way q

settled_then : (es fs : List QueueEntry) (s m t : State) → IsSettledTo es s m → IsSettledTo fs m t → IsSettledTo fs s t
settled_then es fs s m t h k = record {
  filter = k.filter ∙ ap (λ (x : Filter). record x { volume = record x.volume { book = record x.volume.book { entries = fs } }; notes = t.filter.notes }) h.filter;
  running = k.running ∙ h.running;
  inline = k.inline ∙ h.inline;
  honest = k.honest ∙ h.honest;
  remote = k.remote ∙ ap (λ (r : Held). record r { tokens = t.link.remote.tokens }) h.remote;
}

none_settled : (s : State) → (book_now s).entries ≡ [] → IsSettledTo [] s s
none_settled s none = record {
  filter = subst (λ (es : List QueueEntry). s.filter ≡ record s.filter { volume = record s.filter.volume { book = record s.filter.volume.book { entries = es } }; notes = s.filter.notes }) none refl;
  running = refl;
  inline = refl;
  honest = refl;
  remote = refl;
}

-- the remote stays fair
pub fair_still : (es : List QueueEntry) (s m : State) → IsSettledTo es s m → IsFair s.link → IsFair m.link
fair_still es s m h fair = (
  h.honest ∙ fair.0,
  (
    subst (λ (items : List Stored). length items < 18446744073709551616) (sym (ap (λ (r : Held). r.items) h.remote)) fair.1.0,
    λ rid version bytes z. fair.1.1 rid version bytes (subst (λ (items : List Stored). version_bytes (stored_at items rid) version.0 ≡ Some bytes) (ap (λ (r : Held). r.items) h.remote) z),
  ),
)

-- where no number is left nothing is asked
numbers_last : (es : List QueueEntry) (m : State) (u : Unit {0}) (t : State) → no_number m ≡ true → Ends (each settle_entry es m) u t → t ≡ m
numbers_last [] m u t used ends = ends.1
numbers_last (e ∷ es) m u t used ends =
    let k = ends_bind (settle_entry e m) (λ _ x. each settle_entry es x) u t ends in
    let same : k.1 ≡ m = (subst (λ (b : Bool). Ends (bind (post_unless (frame.Request (request.Settle e.token)) b m) (after_post (request.Settle e.token))) k.0 k.1) used k.2).1 in
    numbers_last es m u t used (subst (λ (x : State). Ends (each settle_entry es x) u t) same k.3)

abbrev With : State → List QueueEntry → State → Type 0
With w es x = Since w x × Entries es x

-- an upload is settled with its lines behind those of before
settle_keeps : (w : State) (e : QueueEntry) (es : List QueueEntry) (s : State) → With w (e ∷ es) s → Keeps (With w (e ∷ es)) (settle_entry e s)
settle_keeps w e es s h =
    send_now_at (With w (e ∷ es)) (guarded_framed ⊥ no_item Whatever (λ d p k. tt) (e ∷ es) (Since w) (since_guarded w)) (request.Settle e.token) s refl
    (λ fair. settle_posted s e.token (h.1.1 fair).0) (λ fair. tt) h

each_left : (es : List QueueEntry) (s : State) (u : Unit {0}) (t : State) → (book_now s).entries ≡ es → Invariant s → IsFair s.link → IsListening s → Entries es s → Ends (each settle_entry es s) u t → no_number t ≡ false → IsTold s t ⊎ IsSettledTo [] s t
each_left [] s u t is h fair listening given ends left = inr (subst (IsSettledTo [] s) (sym ends.1) (none_settled s is))
each_left (e ∷ es) s u t is h fair listening given ends left =
    let k = ends_bind (settle_entry e s) (λ _ m. each settle_entry es m) u t ends in
    let kept : With s (e ∷ es) k.1 = kept_at_end (With s (e ∷ es)) (settle_entry e s) k.0 k.1 (settle_keeps s e es s (since_start s h, given)) k.2 in
    by k.1 kept k.3 (entry_left e s h listening live k.0 k.1 k.2 (numbers k.1 k.3)) (λ entries fair2 listening2. each_left es k.1 u t entries kept.0.0.0 fair2 listening2 (kept.1.0, λ f. (kept.1.1 f).1) k.3 left) where
      live : entry_of (book_now s) e.token ≡ Some e
      live = subst (λ (qs : List QueueEntry). find (λ f. same_key f.token.0 e.token.0) qs ≡ Some e) (sym is) (rw (same_key-refl e.token.0) refl)

      rest : (without_entry e.token (book_now s)).entries ≡ es
      rest = ap (λ (qs : List QueueEntry). filter (λ f. not (same_key f.token.0 e.token.0)) qs) is ∙ rest_left s.link.remote e es (subst (AreMadeApart s.link.remote) is (h.1 fair).now.made.apart)

      numbers : (m : State) → Ends (each settle_entry es m) u t → no_number m ≡ false
      numbers m z = two (no_number m) refl where
        two : (b : Bool) → no_number m ≡ b → b ≡ false
        two true q = numbers_used m t (numbers_last es m u t q z) q left
        two false q = refl

      by : (m : State) → With s (e ∷ es) m → Ends (each settle_entry es m) u t → IsTold s m ⊎ IsSettledTo (without_entry e.token (book_now s)).entries s m
          → ((book_now m).entries ≡ es → IsFair m.link → IsListening m → IsTold m t ⊎ IsSettledTo [] m t) → IsTold s t ⊎ IsSettledTo [] s t
      by m kept z (inl told) more =
          inl (told_then s m t told (since_follows m t (kept_at_end (Since m) (each settle_entry es m) u t (settle_list (Since m) (since_guarded m) es m (since_start m kept.0.0.0, (kept.1.0, λ f. (kept.1.1 f).1))) z)))
      by m kept z (inr settled) more =
          joined (more (ap (λ (x : Filter). x.volume.book.entries) settled.filter ∙ rest) (fair_still (without_entry e.token (book_now s)).entries s m settled fair)
          (record { inline = settled.inline ∙ listening.inline; shows = ap (λ (x : Running). x.shows_skips) settled.running ∙ listening.shows })) where
            joined : IsTold m t ⊎ IsSettledTo [] m t → IsTold s t ⊎ IsSettledTo [] s t
            joined (inl w) = inl (told_after s m t kept.0.0.1.lines kept.0.0.1.noted w)
            joined (inr w) = inr (settled_then (without_entry e.token (book_now s)).entries [] s m t settled w)

pub settles_told : (s : State) (u : Unit {0}) (t : State) → Invariant s → IsFair s.link → IsListening s → Ends (settle_all s) u t → no_number t ≡ false → IsTold s t ⊎ IsSettledTo [] s t
settles_told s u t h fair listening ends left =
    each_left (book_now s).entries s u t refl h fair listening
    (λ v. absurd v, λ f. all_weaker (IsEntryOf (next_number s.filter.volume) s.filter.volume.next_item.0 s.filter.volume.epoch s.volatile.tokens) (λ e. WasGiven s.filter.volume.epoch s.volatile.tokens e.token.0) (λ e k. k.token) (book_now s).entries (h.1 f).now.given)
    ends left
