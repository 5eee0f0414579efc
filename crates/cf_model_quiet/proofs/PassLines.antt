-- The lines of a pass: what it asks of uploads, then its feed, and the rest.
use Rattle.std.proofs.Common.{◌≡◌, ◌⊎◌, ◌+◌, Bool, true, false, List, [], ◌∷◌, ◌++◌, refl, sym, ◌∙◌, ap, subst, inl, inr}
use Rattle.std.specs.Prelude.{Option, Some, None}
use Rattle.std.specs.List.{list_any}
use Rattle.std.proofs.lemmas.List.{append-nil, append_assoc}
use Rattle.cf_base.specs.declared.codes.Code.{Code}
use Rattle.cf_base.specs.declared.messages.Request.{Request}
use Rattle.cf_base.specs.declared.messages.Request.TheVariants as request
use Rattle.cf_base.specs.declared.notices.Frame.TheVariants as frame
use Rattle.cf_base.specs.declared.notices.Notice.{Notice}
use Rattle.cf_base.specs.declared.notices.Notice.TheVariants as notice
use Rattle.cf_model.specs.Arrows.{each, one, then_do, unless_done}
use Rattle.cf_model.specs.Books.{QueueEntry}
use Rattle.cf_model.specs.Callbacks.{drain}
use Rattle.cf_model.specs.Changes.{next_number}
use Rattle.cf_model.specs.Messages.{after_post, come_if, next_message, no_bytes, no_number, post_by, post_unless, with_lost, with_message}
use Rattle.cf_model.specs.Numbers.{no_item}
use Rattle.cf_model.specs.Passes.{ask_feed, feed_if, feed_of, pass, settle_all, settle_entry, why_no_round, with_round}
use Rattle.cf_model.specs.Pushes.{push_all}
use Rattle.cf_model.specs.Skips.{left_out, skip_line, with_volatile}
use Rattle.cf_model.specs.State.{State, book_now}
use Rattle.cf_model.specs.Trees.{Ends, Keeps, bind}
use Rattle.cf_model.proofs.TreeLaws.{kept_at_end}
use Rattle.cf_model_laws.specs.GivenOnce.{WasGiven}
use Rattle.cf_model_laws.specs.Invariant.{Invariant, IsEntryOf}
use Rattle.cf_model_laws.proofs.CallbacksGuarded.{drain_keeps}
use Rattle.cf_model_laws.proofs.ContentLaws.{sound_whole}
use Rattle.cf_model_laws.proofs.FramesGuarded.{guarded_framed}
use Rattle.cf_model_laws.proofs.Gathered.{all_weaker}
use Rattle.cf_model_laws.proofs.Guarded.{Guarded}
use Rattle.cf_model_laws.proofs.MessagesGuarded.{come_now_at, last_message}
use Rattle.cf_model_laws.proofs.PassesGuarded.{Entries, Whatever, ask_feed_keeps, feed_posted, settle_all_keeps, settle_list, settle_posted}
use Rattle.cf_model_laws.proofs.PushesGuarded.{push_all_keeps}
use Rattle.cf_model_laws.proofs.RightItems.{no_way}
use Rattle.cf_model_laws.proofs.SoundSettles.{or_right}
use Rattle.cf_model_laws.proofs.SoundStates.{posted_sound}
use Rattle.cf_model_convergence.specs.Hearing.{is_heard}
use Rattle.cf_model_convergence.proofs.PushesIdle.{numbers_left}
use Rattle.cf_model_convergence.proofs.TurnsTold.{ends_bind}
use Rattle.cf_model_quiet.specs.LastPass.{asks_round, asks_settle, ends_silent}
use Rattle.cf_model_quiet.proofs.SilentEnds.{StartsSettling, fed_silent, unfed_loud}
use Rattle.cf_model_quiet.proofs.UnfedGuarded.{AreUnfed, Both, guarded_unfed, none_yet, unfed_append, uploading_unfed}

-- beside the invariant, lines since these notes
abbrev Since : List Notice → State → Type 0
Since w s = Both w Invariant s

since_guarded : (w : List Notice) → Guarded (Since w)
since_guarded w = guarded_unfed w Invariant sound_whole.closed

since_now : (s : State) → Invariant s → Since s.filter.notes s
since_now s h = (h, none_yet s.filter.notes)

-- a request that comes to the remote, behind its line
come_unfed : (q : Request) (s : State) → Invariant (with_message (frame.Request q) s) → (b : Bool) → Keeps (Since (with_message (frame.Request q) s).filter.notes) (come_if q b (with_message (frame.Request q) s))
come_unfed q s h true = come_now_at (Since (with_message (frame.Request q) s).filter.notes) (since_guarded (with_message (frame.Request q) s).filter.notes) q (with_message (frame.Request q) s) (last_message s.link.messages (frame.Request q)) (since_now (with_message (frame.Request q) s) h)
come_unfed q s h false = since_now (with_message (frame.Request q) s) h

-- what is asked of uploads

abbrev IsSettlingTo : State → State → Type 0
IsSettlingTo m x = (ls : List Notice) × (x.filter.notes ≡ m.filter.notes ++ ls) × AreUnfed ls × StartsSettling ls

-- behind the first line
settled_on : (m p x : State) (n : Notice) → p.filter.notes ≡ m.filter.notes ++ n ∷ [] → asks_settle n ≡ true → asks_round n ≡ false → Since p.filter.notes x → IsSettlingTo m x
settled_on m p x n first settle plain k = (
  n ∷ k.1.0,
  k.1.1 ∙ ap (λ (xs : List Notice). xs ++ k.1.0) first ∙ append_assoc m.filter.notes (n ∷ []) k.1.0,
  unfed_append (n ∷ []) k.1.0 (rw plain refl) k.1.2,
  inr (n, k.1.0, refl, settle),
)

module _ (m : State) (h : Invariant m) (free : no_number m ≡ false) where
  module _ (e : QueueEntry) (es : List QueueEntry) (given : Entries (e ∷ es) m) where
    abbrev asked : Request
    asked = request.Settle e.token

    abbrev With : List Notice → State → Type 0
    With w t = Since w t × Entries (e ∷ es) t

    with_guarded : (w : List Notice) → Guarded (With w)
    with_guarded w = guarded_framed ⊥ no_item Whatever (λ d p k. tt) (e ∷ es) (Since w) (since_guarded w)

    posted_kept : Invariant (with_message (frame.Request asked) m)
    posted_kept = posted_sound (frame.Request asked) m (λ fair. settle_posted m e.token (given.1 fair).0) h

    come_kept : (b : Bool) → Keeps (With (with_message (frame.Request asked) m).filter.notes) (come_if asked b (with_message (frame.Request asked) m))
    come_kept true = come_now_at (With (with_message (frame.Request asked) m).filter.notes) (with_guarded (with_message (frame.Request asked) m).filter.notes) asked (with_message (frame.Request asked) m) (last_message m.link.messages (frame.Request asked)) (since_now (with_message (frame.Request asked) m) posted_kept, given)
    come_kept false = (since_now (with_message (frame.Request asked) m) posted_kept, given)

    rest_on : (p y x : State) (n : Notice) (u : Unit {0}) → p.filter.notes ≡ m.filter.notes ++ n ∷ [] → asks_settle n ≡ true → asks_round n ≡ false → With p.filter.notes y → Ends (each settle_entry es y) u x → IsSettlingTo m x
    rest_on p y x n u first settle plain k ends =
        settled_on m p x n first settle plain
        (kept_at_end (Since p.filter.notes) (each settle_entry es y) u x (settle_list (Since p.filter.notes) (since_guarded p.filter.notes) es y (k.0, (k.1.0, λ fair. (k.1.1 fair).1))) ends)

    entries_lines : (u : Unit {0}) (x : State) → Ends (each settle_entry (e ∷ es) m) u x → IsSettlingTo m x
    entries_lines u x ends = by (no_bytes (frame.Request asked) m) (subst (λ (b : Bool). Ends (bind (post_unless (frame.Request asked) b m) (after_post asked)) k.0 k.1) free k.2) where
      k : (v : Unit {0}) × (y : State) × Ends (settle_entry e m) v y × Ends (each settle_entry es y) u x
      k = ends_bind (settle_entry e m) (λ _ y. each settle_entry es y) u x ends

      by : (b : Bool) → Ends (bind (post_by (frame.Request asked) b m) (after_post asked)) k.0 k.1 → IsSettlingTo m x
      by true z =
          rest_on (with_lost (frame.Request asked) m) k.1 x (notice.Message (record { message = next_message m; frame = frame.Request asked; lost = true })) u refl refl refl
          (subst (With (with_lost (frame.Request asked) m).filter.notes) (sym z.1) (since_now (with_lost (frame.Request asked) m) (sound_whole.closed.loses (frame.Request asked) m h), given)) k.3
      by false z =
          rest_on (with_message (frame.Request asked) m) k.1 x (notice.Message (record { message = next_message m; frame = frame.Request asked; lost = false })) u refl refl refl
          (kept_at_end (With (with_message (frame.Request asked) m).filter.notes) (come_if asked m.link.inline (with_message (frame.Request asked) m)) k.0 k.1 (come_kept m.link.inline) z) k.3

  pub settles_lines : (u : Unit {0}) (x : State) → Ends (settle_all m) u x → IsSettlingTo m x
  settles_lines u x ends = by (book_now m).entries given ends where
    given : Entries (book_now m).entries m
    given = (λ v. absurd v, λ fair. all_weaker (IsEntryOf (next_number m.filter.volume) m.filter.volume.next_item.0 m.filter.volume.epoch m.volatile.tokens) (λ e. WasGiven m.filter.volume.epoch m.volatile.tokens e.token.0) (λ e k. k.token) (book_now m).entries (h.1 fair).now.given)

    by : (es : List QueueEntry) → Entries es m → Ends (each settle_entry es m) u x → IsSettlingTo m x
    by [] g z = ([], ap (λ (s : State). s.filter.notes) z.1 ∙ sym (append-nil m.filter.notes), refl, inl refl)
    by (e ∷ es) g z = entries_lines e es g u x z

-- what is asked of a feed

-- the feed is asked for, or its line is heard
abbrev IsFeedingTo : State → State → Type 0
IsFeedingTo x y = (n : Notice) × (ls : List Notice) × (y.filter.notes ≡ x.filter.notes ++ n ∷ ls) × AreUnfed ls × ((asks_round n ≡ true) ⊎ ((asks_round n ≡ false) × (is_heard n ≡ true)))

module _ (x : State) (h : Invariant x) (free : no_number x ≡ false) (shows : x.running.shows_skips ≡ true) where
  abbrev drawn : State
  drawn = with_volatile with_round x

  abbrev query : Request
  query = feed_of drawn

  drawn_kept : Invariant drawn
  drawn_kept = sound_whole.closed.keeps_volatile_with_round x h

  feed_kept : Invariant (with_message (frame.Request query) drawn)
  feed_kept = posted_sound (frame.Request query) drawn (λ fair. feed_posted drawn (record { 0 = record { epoch = drawn.filter.volume.epoch; number = drawn.volatile.rounds } }) (book_now drawn).cursor) drawn_kept

  pub feed_lines : (u : Unit {0}) (y : State) → Ends (ask_feed x) u y → IsFeedingTo x y
  feed_lines u y ends = by (why_no_round x) ends where
    two : (b : Bool) → Ends (bind (post_by (frame.Request query) b drawn) (after_post query)) u y → IsFeedingTo x y
    two true z = (notice.Message (record { message = next_message x; frame = frame.Request query; lost = true }), [], ap (λ (s : State). s.filter.notes) z.1, refl, inr (refl, refl))
    two false z =
        let k : Since (with_message (frame.Request query) drawn).filter.notes y = kept_at_end (Since (with_message (frame.Request query) drawn).filter.notes) (come_if query x.link.inline (with_message (frame.Request query) drawn)) u y (come_unfed query drawn feed_kept x.link.inline) z in (
          notice.Message (record { message = next_message x; frame = frame.Request query; lost = false }),
          k.1.0,
          k.1.1 ∙ append_assoc x.filter.notes (notice.Message (record { message = next_message x; frame = frame.Request query; lost = false }) ∷ []) k.1.0,
          k.1.2,
          inl refl,
        )

    skipped_lines : (b : Bool) (c : Code) (s t : State) → b ≡ true → s.filter.notes ≡ x.filter.notes → t ≡ skip_line b c s → IsFeedingTo x t
    skipped_lines true c s t q same e = (notice.Skipped c, [], ap (λ (v : State). v.filter.notes) e ∙ ap (λ (ns : List Notice). ns ++ notice.Skipped c ∷ []) same, refl, inr (refl, refl))
    skipped_lines false c s t q same e = no_way q

    by : (o : Option Code) → Ends (bind (bind (unless_done (one (with_volatile with_round)) o x) left_out) feed_if) u y → IsFeedingTo x y
    by None z = two (no_bytes (frame.Request query) drawn) (subst (λ (b : Bool). Ends (bind (post_unless (frame.Request query) b drawn) (after_post query)) u y) free z)
    by (Some c) z = skipped_lines x.running.shows_skips c (record x { running = record x.running { skips = x.running.skips + 1 } }) y shows refl z.1

-- the whole pass, and the callbacks after it

abbrev pub IsPassedTo : State → State → Type 0
IsPassedTo m t =
    (settles : List Notice) × (n : Notice) × (rest : List Notice) × (t.filter.notes ≡ (m.filter.notes ++ settles) ++ n ∷ rest) × AreUnfed settles × StartsSettling settles × AreUnfed rest
    × ((asks_round n ≡ true) ⊎ ((asks_round n ≡ false) × (is_heard n ≡ true)))

module _ (m : State) (h : Invariant m) (shown_after : (x : State) (u : Unit {0}) → Ends (settle_all m) u x → x.running.shows_skips ≡ true) (u v : Unit {0}) (k t : State) (ends : Ends (pass m) u k) (drains : Ends (drain k) v t) (left : no_number t ≡ false) where
  a : (v : Unit {0}) × (x : State) × Ends (settle_all m) v x × Ends (then_do ask_feed push_all x) u k
  a = ends_bind (settle_all m) (λ _ x. then_do ask_feed push_all x) u k ends

  b : (v : Unit {0}) × (y : State) × Ends (ask_feed a.1) v y × Ends (push_all y) u k
  b = ends_bind (ask_feed a.1) (λ _ y. push_all y) u k a.3

  hx : Invariant a.1
  hx = kept_at_end Invariant (settle_all m) a.0 a.1 ((settle_all_keeps Invariant sound_whole.closed).keeps m h) a.2

  hy : Invariant b.1
  hy = kept_at_end Invariant (ask_feed a.1) b.0 b.1 ((ask_feed_keeps Invariant sound_whole.closed sound_whole.entering).keeps a.1 hx) b.2

  hk : Invariant k
  hk = kept_at_end Invariant (push_all b.1) u k ((push_all_keeps Invariant sound_whole.closed sound_whole.entering.uploads).keeps b.1 hy) b.3

  free_k : no_number k ≡ false
  free_k = numbers_left drain (λ P closed entering. drain_keeps P closed) k v t hk drains left

  free_y : no_number b.1 ≡ false
  free_y = numbers_left push_all (λ P closed entering. push_all_keeps P closed entering.uploads) b.1 u k hy b.3 free_k

  free_x : no_number a.1 ≡ false
  free_x = numbers_left ask_feed (λ P closed entering. ask_feed_keeps P closed entering) a.1 b.0 b.1 hx b.2 free_y

  free_m : no_number m ≡ false
  free_m = numbers_left settle_all (λ P closed entering. settle_all_keeps P closed) m a.0 a.1 h a.2 free_x

  first : IsSettlingTo m a.1
  first = settles_lines m h free_m a.0 a.1 a.2

  second : IsFeedingTo a.1 b.1
  second = feed_lines a.1 hx free_x (shown_after a.1 a.0 a.2) b.0 b.1 b.2

  third : Since b.1.filter.notes k
  third = kept_at_end (Since b.1.filter.notes) (push_all b.1) u k ((push_all_keeps (Since b.1.filter.notes) (since_guarded b.1.filter.notes) (uploading_unfed b.1.filter.notes Invariant sound_whole.entering.uploads)).keeps b.1 (since_now b.1 hy)) b.3

  fourth : Since k.filter.notes t
  fourth = kept_at_end (Since k.filter.notes) (drain k) v t ((drain_keeps (Since k.filter.notes) (since_guarded k.filter.notes)).keeps k (since_now k hk)) drains

  pub pass_lines : IsPassedTo m t
  pass_lines = (
    first.0,
    second.0,
    (second.1 ++ third.1.0) ++ fourth.1.0,
    fourth.1.1 ∙ ap (λ (ns : List Notice). ns ++ fourth.1.0) (third.1.1 ∙ ap (λ (ns : List Notice). ns ++ third.1.0) (second.2 ∙ ap (λ (ns : List Notice). ns ++ second.0 ∷ second.1) first.1))
        ∙ ap (λ (ns : List Notice). ns ++ fourth.1.0) (append_assoc (m.filter.notes ++ first.0) (second.0 ∷ second.1) third.1.0)
        ∙ append_assoc (m.filter.notes ++ first.0) (second.0 ∷ (second.1 ++ third.1.0)) fourth.1.0,
    first.2,
    first.3,
    unfed_append (second.1 ++ third.1.0) fourth.1.0 (unfed_append second.1 third.1.0 second.3 third.1.2) fourth.1.2,
    second.4,
  )

-- where such lines end silent, none of the pass is heard

cancelled : (xs ys zs : List Notice) → xs ++ ys ≡ xs ++ zs → ys ≡ zs
cancelled [] ys zs e = e
cancelled (x ∷ xs) ys zs e = cancelled xs ys zs (tail (xs ++ ys) (xs ++ zs) e) where
  tail : (us vs : List Notice) → ◌≡◌ {A = List Notice} (x ∷ us) (x ∷ vs) → us ≡ vs
  tail us vs z = cc

pub passed_silent : (m t : State) → IsPassedTo m t → ends_silent t.filter.notes ≡ true → (ls : List Notice) → t.filter.notes ≡ m.filter.notes ++ ls → list_any is_heard ls ≡ false
passed_silent m t (settles, n, rest, noted, unfed, starts, none, feed) silent ls is = subst (λ (ns : List Notice). list_any is_heard ns ≡ false) same (by feed) where
  all : List Notice
  all = settles ++ n ∷ rest

  same : all ≡ ls
  same = cancelled m.filter.notes all ls (sym (append_assoc m.filter.notes settles (n ∷ rest)) ∙ sym noted ∙ is)

  ends : ends_silent ((m.filter.notes ++ settles) ++ n ∷ rest) ≡ true
  ends = subst (λ (ns : List Notice). ends_silent ns ≡ true) noted silent

  loud_in : (zs : List Notice) → is_heard n ≡ true → list_any is_heard (zs ++ n ∷ rest) ≡ true
  loud_in [] q = rw q refl
  loud_in (z ∷ zs) q = or_right (is_heard z) (list_any is_heard (zs ++ n ∷ rest)) (loud_in zs q)

  by : (asks_round n ≡ true) ⊎ ((asks_round n ≡ false) × (is_heard n ≡ true)) → list_any is_heard all ≡ false
  by (inl asks) = fed_silent m.filter.notes settles rest n unfed starts asks none ends
  by (inr loud) = absurd (unfed_loud m.filter.notes all (unfed_append settles (n ∷ rest) unfed (unfed_append (n ∷ []) rest (rw loud.0 refl) none)) (loud_in settles loud.1) (subst (λ (ns : List Notice). ends_silent ns ≡ true) (append_assoc m.filter.notes settles (n ∷ rest)) ends))
