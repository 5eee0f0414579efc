-- A feed is asked for over a link that answers at once: it is reported, or it is taken in.
use Rattle.std.proofs.Common.{◌≡◌, ◌⊎◌, ◌≤◌, ◌+◌, ℕ, Bool, true, false, List, [], ◌∷◌, refl, sym, ◌∙◌, ap, subst, inl, inr, arith, length}
use Rattle.std.specs.Prelude.{Option, Some, None, cond, not, ◌&&◌, ◌==◌}
use Rattle.std.proofs.lemmas.Bool.{eqb-true}
use Rattle.std.proofs.lemmas.List.{append_assoc}
use Rattle.cf_base.specs.declared.codes.Code.{Code}
use Rattle.cf_base.specs.declared.items.SeenPath.{SeenPath}
use Rattle.cf_base.specs.declared.messages.Entry.{Entry}
use Rattle.cf_base.specs.declared.messages.Reply.{Reply}
use Rattle.cf_base.specs.declared.messages.Request.{Request}
use Rattle.cf_base.specs.declared.notices.Frame.TheVariants as frame
use Rattle.cf_base.specs.declared.notices.Notice.{Notice}
use Rattle.cf_base.specs.declared.notices.Notice.TheVariants as notice
use Rattle.cf_model.specs.Arrows.{one, only_if, unless_done}
use Rattle.cf_model.specs.Books.{seen_of, with_cursor}
use Rattle.cf_base.specs.declared.ids.ItemId.{ItemId}
use Rattle.cf_model.specs.Feeds.{Fed, all_released, all_turns, apply_entries, cursor_if, end_feed, is_listing, is_seen_so, is_whole, with_clock_seen}
use Rattle.cf_model.specs.Fits.{are_distinct}
use Rattle.cf_model.specs.Identities.{target_of}
use Rattle.cf_model.specs.Items.{Item}
use Rattle.cf_model.specs.Messages.{act_unless, after_post, answered, come_if, counted, fault_line, if_kept, is_stale, next_message, no_bytes, no_number, post_by, post_unless, send_now, take_if_any, with_lost, with_message, with_remote}
use Rattle.cf_model.specs.Numbers.{root_rid}
use Rattle.cf_model.specs.Passes.{ask_feed, feed_if, feed_of, why_no_round, with_round}
use Rattle.cf_model.specs.PushReplies.{round_closed, whatever}
use Rattle.cf_model.specs.Skips.{in_book, is_cursor, left_out, try_book, try_cursor, why_no_record, with_book, with_volatile}
use Rattle.cf_model.specs.State.{State, book_now, items_now}
use Rattle.cf_model.specs.Store as store
use Rattle.cf_model.specs.Store.{Held, Stored, remote_step, stored_at}
use Rattle.cf_model.specs.Trees.{bind, Ends, AsItKeeps, Faults, Tells}
use Rattle.cf_model.specs.Words.{says}
use Rattle.cf_model.specs.Changes.{next_number}
use Rattle.cf_model.proofs.TreeLaws.{keeps_bind, kept_at_end}
use Rattle.cf_model_laws.specs.Invariant.{All, Invariant, IsAimed, IsRight, target_in}
use Rattle.cf_model_laws.specs.Premises.{IsFair}
use Rattle.cf_model_laws.proofs.ContentLaws.{sound_whole}
use Rattle.cf_model_laws.proofs.Gathered.{all_weaker}
use Rattle.cf_model_laws.proofs.MessagesGuarded.{reply_posted}
use Rattle.cf_model_laws.proofs.PassesGuarded.{feed_posted}
use Rattle.cf_model_laws.proofs.RightItems.{no_way}
use Rattle.cf_model_laws.proofs.SoundSettles.{left_true, not_true, right_true}
use Rattle.cf_model_convergence.specs.Resting.{IsTargetOf}
use Rattle.cf_model_convergence.specs.Rounds.{AwaitsFeed}
use Rattle.cf_model_convergence.specs.Settles.{IsFed}
use Rattle.cf_model_convergence.specs.Telling.{IsListening, IsTold}
use Rattle.cf_model_convergence.specs.Tidy.{IsTidy}
use Rattle.cf_model_convergence.specs.Turns.{AreTurned, IsLeftBy, IsOfNone, with_paths}
use Rattle.cf_model_convergence.proofs.FeedsTold.{fits_known}
use Rattle.cf_model_convergence.proofs.FeedsTurned.{turns_told}
use Rattle.cf_model_convergence.proofs.Lines.{one_some}
use Rattle.cf_model_convergence.proofs.PushesTold.{numbers_used, skip_told, told_after, told_at_once, told_one, told_then}
use Rattle.cf_model_convergence.proofs.RoundsTaken.{reply_taken}
use Rattle.cf_model_convergence.proofs.TidyItems.{below_next}
use Rattle.cf_model_convergence.proofs.TurnsGrow.{Grows, book_grows, if_grows}
use Rattle.cf_model_convergence.proofs.TurnsTold.{ends_bind}
use Rattle.cf_model_convergence.proofs.SinceGuarded.{Follows, itself_follows}
use Rattle.cf_model_convergence.proofs.UnfairReplies.{unfair_told}
use Rattle.cf_model_laws.proofs.SoundStates.{posted_sound}

-- items are of the kinds of their targets

of_kind : (r : Held) → IsTidy r → (n : _) (i : Item) → IsRight r n i → (x : Stored) → stored_at r.items (target_of i) ≡ Some x → x.directory ≡ i.directory
of_kind r tidy n i right x found = by (i.id.0 == 1) refl found where
  dir : (o : Option Stored) → o ≡ Some x → says (λ y. y.live && y.directory) o ≡ true → x.directory ≡ true
  dir None e z = no_way z
  dir (Some y) e z = let same : y ≡ x = some y e in subst (λ (w : Stored). w.directory ≡ true) same (right_true y.live y.directory z) where
    some : (y : Stored) → ◌≡◌ {A = Option Stored} (Some y) (Some x) → y ≡ x
    some y e = cc

  never : (a : ℕ) → 1 ≤ a → a ≡ 0 → ⊥
  never a b c = omega (arith, b, c)

  aimed : IsAimed r i.directory i.identity → stored_at r.items (target_in i.identity) ≡ Some x → x.directory ≡ i.directory
  aimed (inl z) f = absurd (never (target_in i.identity).0 (below_next 1 r.items (target_in i.identity) x tidy.counted f).0 z)
  aimed (inr k) f = subst (λ (y : Stored). y.directory ≡ i.directory) (one_some (stored_at r.items (target_in i.identity)) k.0.0 x k.0.1 f) k.0.2

  by : (b : Bool) → (i.id.0 == 1) ≡ b → stored_at r.items (cond b root_rid (target_in i.identity)) ≡ Some x → x.directory ≡ i.directory
  by true q f = dir (stored_at r.items root_rid) f tidy.root ∙ sym (right.top (eqb-true i.id.0 1 q))
  by false q f = aimed right.aimed f

pub kinds_right : (s : State) → Invariant s → IsFair s.link → IsTidy s.link.remote → All (λ i. (x : Stored) → IsTargetOf s i x → x.directory ≡ i.directory) (items_now s)
kinds_right s h fair tidy = all_weaker (IsRight s.link.remote (next_number s.filter.volume)) (λ i. (x : Stored) → IsTargetOf s i x → x.directory ≡ i.directory) (λ i k. of_kind s.link.remote tidy (next_number s.filter.volume) i k) (items_now s) (h.1 fair).now.right

-- the end of a feed

cursor_grows : (clock : ℕ) (b : Bool) → Grows (cursor_if clock b)
cursor_grows clock false w = record { keeps = λ t j. j }
cursor_grows clock true w = record { keeps = λ t j. keeps_bind (Follows w) (try_cursor clock t) whatever ((if_grows (not (is_cursor clock t)) (try_book (with_cursor clock)) (book_grows (with_cursor clock)) w).keeps t j) (λ done x k. k) }

end_grows : (clock skips : ℕ) (f : Fed) → Grows (end_feed clock skips f)
end_grows clock skips f w = record { keeps = λ t j. (cursor_grows clock (is_whole skips f (with_clock_seen clock (with_volatile all_released t))) w).keeps (with_clock_seen clock (with_volatile all_released t)) (record { adds = j.adds; unfair = j.unfair }) }

-- the cursor stays, becomes the clock, or there is the line that it was left out
end_left : (clock : ℕ) (b : Bool) (m : State) (u : Unit {0}) (t : State) → IsListening m → Ends (cursor_if clock b m) u t → IsTold m t ⊎ (t ≡ m) ⊎ ((b ≡ true) × (t ≡ with_book (with_cursor clock) m))
end_left clock false m u t listening ends = inr (inl ends.1)
end_left clock true m u t listening ends =
    let k = ends_bind (try_cursor clock m) whatever u t ends in
    subst (λ (x : State). IsTold m x ⊎ (x ≡ m) ⊎ ((true ≡ true) × (x ≡ with_book (with_cursor clock) m))) (sym k.3.1) (by (not (is_cursor clock m)) k.0 k.1 k.2) where
      stored : (o : Option Code) (d : Bool) (x : State) → Ends (bind (unless_done (in_book (with_cursor clock)) o m) left_out) d x → IsTold m x ⊎ (x ≡ m) ⊎ ((true ≡ true) × (x ≡ with_book (with_cursor clock) m))
      stored None d x z = inr (inr (refl, z.1))
      stored (Some c) d x z = inl (subst (IsTold m) (sym z.1) (skip_told m.running.shows_skips c m (record m { running = record m.running { skips = m.running.skips + 1 } }) listening.shows refl))

      by : (b : Bool) (d : Bool) (x : State) → Ends (only_if b (try_book (with_cursor clock)) m) d x → IsTold m x ⊎ (x ≡ m) ⊎ ((true ≡ true) × (x ≡ with_book (with_cursor clock) m))
      by true d x z = stored (why_no_record (with_cursor clock) m) d x z
      by false d x z = inr (inl z.1)

-- the feed

module _ (s : State) (h : Invariant s) (fair : IsFair s.link) (listening : IsListening s) (tidy : IsTidy s.link.remote) (none : (book_now s).entries ≡ []) (early : (book_now s).cursor ≤ s.link.remote.clock) where
  abbrev drawn : State
  drawn = with_volatile with_round s

  abbrev query : Request
  query = feed_of drawn

  abbrev clock : ℕ
  clock = s.link.remote.clock

  abbrev listed : List Entry
  listed = store.feed_of s.link.remote (book_now s).cursor

  abbrev posted : State
  posted = with_message (frame.Request query) drawn

  abbrev number : ℕ
  number = length posted.link.messages

  abbrev came : State
  came = with_remote s.link.remote (counted posted)

  abbrev answer : Reply
  answer = (remote_step s.link.remote query).0

  abbrev sent : State
  sent = with_message (frame.Reply number answer) came

  abbrev taken : State
  taken = with_volatile round_closed sent

  abbrev ended : List SeenPath → State
  ended ps = with_clock_seen clock (with_volatile all_released (with_paths ps taken))

  abbrev lines : List Notice
  lines = notice.Message (record { message = next_message s; frame = frame.Request query; lost = false }) ∷ []

  abbrev both_lines : List Notice
  both_lines = notice.Message (record { message = next_message s; frame = frame.Request query; lost = false }) ∷ notice.Message (record { message = next_message came; frame = frame.Reply number answer; lost = false }) ∷ []

  awaits : AwaitsFeed sent
  awaits = record { tidy = tidy; kinds = kinds_right s h fair tidy; cursor = early; awaited = refl; none = none }

  distinct : are_distinct listed ≡ true
  distinct = right_true _ (are_distinct listed) (fits_known s.link.remote (book_now s).cursor [] tidy tt)

  abbrev Turned : Bool → List SeenPath → Type 0
  Turned b ps =
      All (λ e. IsLeftBy b e taken (with_paths ps taken)) listed × ((id : ItemId) → IsOfNone listed (items_now s) id → seen_of (book_now (with_paths ps taken)) id ≡ seen_of (book_now s) id)

  left_so : (b : Bool) (ps : List SeenPath) (t : State) → items_now t ≡ items_now s → ((e : Entry) (i : Item) → is_seen_so (with_paths ps taken) i e ≡ true → is_seen_so t i e ≡ true) → (e : Entry) → IsLeftBy b e taken (with_paths ps taken) → IsLeftBy b e s t
  left_so b ps t items seen e (inl k) = inl k
  left_so b ps t items seen e (inr (inl k)) = inr (inl k)
  left_so b ps t items seen e (inr (inr k)) = inr (inr (k.0, k.1, k.2, record { items = items; seen = seen e k.1 k.3.seen; version = k.3.version }))

  stays_fed : (b : Bool) (ps : List SeenPath) → Turned b ps → IsFed s (ended ps)
  stays_fed b ps k = record {
    paths = ps;
    filter = refl;
    postponed = b;
    cursor = inl refl;
    remote = refl;
    inline = refl;
    honest = refl;
    shows = refl;
    items_free = refl;
    tombstones_free = refl;
    entries = all_weaker (λ e. IsLeftBy b e taken (with_paths ps taken)) (λ e. IsLeftBy b e s (ended ps)) (left_so b ps (ended ps) refl (λ e i z. z)) listed k.0;
    others = k.1;
  }

  moves_fed : (b : Bool) (ps : List SeenPath) → b ≡ false → Turned b ps → IsFed s (with_book (with_cursor clock) (ended ps))
  moves_fed b ps none k = record {
    paths = ps;
    filter = refl;
    postponed = b;
    cursor = inr (none, refl);
    remote = refl;
    inline = refl;
    honest = refl;
    shows = refl;
    items_free = refl;
    tombstones_free = refl;
    entries = all_weaker (λ e. IsLeftBy b e taken (with_paths ps taken)) (λ e. IsLeftBy b e s (with_book (with_cursor clock) (ended ps))) (left_so b ps (with_book (with_cursor clock) (ended ps)) refl (λ e i z. z)) listed k.0;
    others = k.1;
  }

  whole_none : (f : Fed) (x : State) → is_whole taken.running.skips f x ≡ true → f.postponed ≡ false
  whole_none f x z = not_true f.postponed (left_true (not f.postponed) (x.running.skips == taken.running.skips) (left_true (not f.postponed && (x.running.skips == taken.running.skips)) (not (is_listing x)) z))

  finished : (f : Fed) (ps : List SeenPath) (u : Unit {0}) (t : State) → Turned f.postponed ps → Ends (end_feed clock taken.running.skips f (with_paths ps taken)) u t → IsTold s t ⊎ IsFed s t
  finished f ps u t k ends = by (end_left clock (is_whole taken.running.skips f (ended ps)) (ended ps) u t (record { inline = listening.inline; shows = listening.shows }) ends) where
    by : IsTold (ended ps) t ⊎ (t ≡ ended ps) ⊎ ((is_whole taken.running.skips f (ended ps) ≡ true) × (t ≡ with_book (with_cursor clock) (ended ps))) → IsTold s t ⊎ IsFed s t
    by (inl z) = inl (told_after s (ended ps) t both_lines (append_assoc s.filter.notes lines (notice.Message (record { message = next_message came; frame = frame.Reply number answer; lost = false }) ∷ [])) z)
    by (inr (inl z)) = inr (subst (IsFed s) (sym z) (stays_fed f.postponed ps k))
    by (inr (inr z)) = inr (subst (IsFed s) (sym z.1) (moves_fed f.postponed ps (whole_none f (ended ps) z.0) k))

  told_all : (t : State) → IsTold taken t → IsTold s t
  told_all t z = told_after s taken t both_lines (append_assoc s.filter.notes lines (notice.Message (record { message = next_message came; frame = frame.Reply number answer; lost = false }) ∷ [])) z

  -- the reply is taken
  applied : Invariant taken → (u : Unit {0}) (t : State) → Ends (apply_entries clock listed taken) u t → IsTold s t ⊎ IsFed s t
  applied kept u t ends = by x.0 x.1 (turns_told listed taken x.0 x.1 kept fair (record { inline = listening.inline; shows = listening.shows }) distinct x.2) x.3 where
    x : (f : Fed) × (m : State) × Ends (all_turns listed taken) f m × Ends (end_feed clock taken.running.skips f m) u t
    x = ends_bind (all_turns listed taken) (end_feed clock taken.running.skips) u t ends

    by : (f : Fed) (m : State) → IsTold taken m ⊎ AreTurned listed f.postponed taken m → Ends (end_feed clock taken.running.skips f m) u t → IsTold s t ⊎ IsFed s t
    by f m (inl z) e = inl (told_all t (told_then taken m t z (kept_at_end (Follows m) (end_feed clock taken.running.skips f m) u t ((end_grows clock taken.running.skips f m).keeps m (itself_follows m)) e)))
    by f m (inr z) e =
        finished f z.paths u t (subst (λ (y : State). All (λ d. IsLeftBy f.postponed d taken y) listed) z.same z.entries, λ id no. ap (λ (y : State). seen_of (book_now y) id) (sym z.same) ∙ z.others id no)
        (subst (λ (y : State). Ends (end_feed clock taken.running.skips f y) u t) z.same e)

  answer_taken : Invariant came → (u : Unit {0}) (t : State) → Ends (bind (answered number (Some answer) came) (take_if_any query)) u t → no_number t ≡ false → IsTold s t ⊎ IsFed s t
  answer_taken kept u t ends left = by (no_number came) refl ends where
    closed : Invariant taken
    closed = sound_whole.closed.keeps_volatile_round_closed sent (posted_sound (frame.Reply number answer) came (λ f. reply_posted number query answer came (told_at_once query drawn (sound_whole.closed.keeps_volatile_with_round s h) f)) kept)

    acted : Ends (act_unless answer (is_stale query answer sent) sent) u t → IsTold s t ⊎ IsFed s t
    acted z = applied closed u t (subst (λ (b : Bool). Ends (act_unless answer b sent) u t) (reply_taken sent awaits) z)

    two : (b : Bool) → Ends (bind (bind (post_by (frame.Reply number answer) b came) (if_kept answer)) (take_if_any query)) u t → IsTold s t ⊎ IsFed s t
    two true z =
        inl (subst (IsTold s) (sym z.1)
        (told_after s posted (with_lost (frame.Reply number answer) came) lines refl
        (told_one posted (with_lost (frame.Reply number answer) came) (notice.Message (record { message = next_message came; frame = frame.Reply number answer; lost = true })) refl refl)))
    two false z = acted z

    by : (b : Bool) → no_number came ≡ b → Ends (bind (bind (post_unless (frame.Reply number answer) b came) (if_kept answer)) (take_if_any query)) u t → IsTold s t ⊎ IsFed s t
    by true used z = numbers_used came t z.1 used left
    by false used z = two (no_bytes (frame.Reply number answer) came) z

  come_taken : (b : Bool) → b ≡ true → (u : Unit {0}) (t : State) → Invariant came → Ends (come_if query b posted) u t → no_number t ≡ false → IsTold s t ⊎ IsFed s t
  come_taken false inline u t kept ends left = no_way inline
  come_taken true inline u t kept (AsItKeeps, ends) left = answer_taken kept u t ends left
  come_taken true inline u t kept (Tells other, ends) left = inl (told_after s posted t lines refl (unfair_told query number other s.link.remote posted u t h.0 ends))
  come_taken true inline u t kept (Faults, ends) left =
      inl (told_after s posted t lines refl (subst (IsTold posted) (sym ends.1) (told_one posted (fault_line number (counted posted)) (notice.Fault number) refl refl)))

  sent_taken : (u : Unit {0}) (t : State) → Invariant came → Ends (send_now query drawn) u t → no_number t ≡ false → IsTold s t ⊎ IsFed s t
  sent_taken u t kept ends left = by (no_number drawn) refl ends where
    two : (b : Bool) → Ends (bind (post_by (frame.Request query) b drawn) (after_post query)) u t → IsTold s t ⊎ IsFed s t
    two true z = inl (subst (IsTold s) (sym z.1) (told_one s (with_lost (frame.Request query) drawn) (notice.Message (record { message = next_message s; frame = frame.Request query; lost = true })) refl refl))
    two false z = come_taken s.link.inline listening.inline u t kept z left

    by : (b : Bool) → no_number drawn ≡ b → Ends (bind (post_unless (frame.Request query) b drawn) (after_post query)) u t → IsTold s t ⊎ IsFed s t
    by true used z = numbers_used drawn t z.1 used left
    by false used z = two (no_bytes (frame.Request query) drawn) z

  -- the remote stays as it is
  came_kept : Invariant came
  came_kept = sound_whole.closed.keeps_counted posted (posted_sound (frame.Request query) drawn (λ f. feed_posted drawn (record { 0 = record { epoch = drawn.filter.volume.epoch; number = drawn.volatile.rounds } }) (book_now drawn).cursor) (sound_whole.closed.keeps_volatile_with_round s h))

  asked : (u : Unit {0}) (t : State) → Ends (ask_feed s) u t → no_number t ≡ false → IsTold s t ⊎ IsFed s t
  asked u t ends left = by (why_no_round s) ends where
    by : (o : Option Code) → Ends (bind (bind (unless_done (one (with_volatile with_round)) o s) left_out) feed_if) u t → IsTold s t ⊎ IsFed s t
    by None z = sent_taken u t came_kept z left
    by (Some c) z = inl (subst (IsTold s) (sym z.1) (skip_told s.running.shows_skips c s (record s { running = record s.running { skips = s.running.skips + 1 } }) listening.shows refl))

pub feed_told : (s : State) (u : Unit {0}) (t : State) → Invariant s → IsFair s.link → IsListening s → IsTidy s.link.remote → (book_now s).entries ≡ [] → (book_now s).cursor ≤ s.link.remote.clock → Ends (ask_feed s) u t → no_number t ≡ false → IsTold s t ⊎ IsFed s t
feed_told s u t h fair listening tidy none early ends left = asked s h fair listening tidy none early u t ends left
