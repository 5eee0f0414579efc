-- Bytes that are asked for over a link that answers at once: a line reports a change, a step that was left out, trouble or that there are none; or nothing
-- but messages comes.
use Rattle.std.specs.List.{list_any}
use Rattle.std.proofs.Common.{◌≡◌, ◌⊎◌, ℕ, zero, suc, Bool, true, false, List, [], ◌∷◌, ◌++◌, refl, sym, ◌∙◌, ap, subst, inl, inr, length}
use Rattle.std.specs.Prelude.{Option, Some, None, nat_le, slice_range, ◌+◌, if◌then◌else◌}
use Rattle.std.proofs.lemmas.List.{append_assoc}
use Rattle.cf_base.specs.declared.answers.Shown.{Shown}
use Rattle.cf_base.specs.declared.answers.Shown.TheVariants as shown
use Rattle.cf_base.specs.declared.changes.Change.{Change}
use Rattle.cf_base.specs.declared.changes.Change.TheVariants as change
use Rattle.cf_base.specs.declared.codes.Code.{Code}
use Rattle.cf_base.specs.declared.codes.Code.TheVariants as code
use Rattle.cf_base.specs.declared.ids.Key.{Key}
use Rattle.cf_base.specs.declared.messages.Reply.{Reply}
use Rattle.cf_base.specs.declared.messages.Reply.TheVariants as reply
use Rattle.cf_base.specs.declared.messages.Request.{Request}
use Rattle.cf_base.specs.declared.notices.Frame.TheVariants as frame
use Rattle.cf_base.specs.declared.notices.Notice.{Notice}
use Rattle.cf_base.specs.declared.notices.Notice.TheVariants as notice
use Rattle.cf_base.specs.declared.operations.Operation.TheVariants as operation
use Rattle.cf_base.specs.declared.spans.Span.{Span}
use Rattle.cf_base.specs.declared.waits.Ask.{Ask}
use Rattle.cf_base.specs.declared.ids.Rid.{Rid}
use Rattle.cf_base.specs.declared.ids.Version.{Version}
use Rattle.cf_base.specs.declared.policies.Mode.{Mode}
use Rattle.cf_base.specs.declared.policies.Mode.TheVariants as mode
use Rattle.cf_base.specs.declared.waits.AskKind.{AskKind}
use Rattle.cf_base.specs.declared.waits.AskKind.TheVariants as ask_kind
use Rattle.cf_model.specs.Agents.{agent_on, fetch_of}
use Rattle.cf_model.specs.Callbacks.{call_back, drained, provider, with_outbox}
use Rattle.cf_model.specs.Requests.{is_dehydrate, is_list}
use Rattle.cf_model_laws.specs.Invariant.{All}
use Rattle.cf_model_laws.specs.Premises.{IsSmall}
use Rattle.cf_model.specs.State.{Running, is_replay}
use Rattle.cf_model.specs.Identities.{base_rid, base_version}
use Rattle.cf_model.specs.Arrows.{then_do, unless}
use Rattle.cf_model.specs.Blocks.{blocks_of}
use Rattle.cf_model.specs.Changes.{change as put, next_number, same_book}
use Rattle.cf_model.specs.Fetching.{after_transfer, do_op, refuse_for, span_at, take_bytes}
use Rattle.cf_model.specs.Items.{Item, item_of}
use Rattle.cf_model.specs.Messages.{act_unless, after_post, answered, come_if, counted, fault_line, if_kept, is_stale, next_message, no_bytes, no_number, post_by, post_unless, send, take_if_any, take_reply, with_message, with_remote}
use Rattle.cf_model.specs.Operations.{done, execute, on_live, transfer_by, transfer_tests}
use Rattle.cf_model.specs.Requests.{Leaves, Live, live_of}
use Rattle.cf_model.specs.Settling.{settle, told_at}
use Rattle.cf_model.specs.Skips.{skip, skipped}
use Rattle.cf_model.specs.State.{Filter, State, in_filter, items_now, with_filter}
use Rattle.cf_model.specs.Store.{Held, bytes_of, bytes_told, is_held, remote_step}
use Rattle.cf_model.specs.Trees.{AsItKeeps, Keeps, Ret, Tree, bind, Ends, Faults, Tells}
use Rattle.cf_model.specs.Words.{first_of}
use Rattle.cf_model.proofs.TreeLaws.{kept_at_end}
use Rattle.cf_model_laws.specs.Invariant.{Invariant}
use Rattle.cf_model_laws.specs.Premises.{IsFair}
use Rattle.cf_model_laws.proofs.CallbacksGuarded.{call_back_at, drained_keeps, was_boxed}
use Rattle.cf_model_laws.proofs.ContentLaws.{sound_whole}
use Rattle.cf_model_laws.proofs.MessagesGuarded.{last_message, reply_posted, take_reply_at}
use Rattle.cf_model_laws.proofs.RightItems.{no_way}
use Rattle.cf_model_laws.proofs.SkipsGuarded.{Any}
use Rattle.cf_model_laws.proofs.SoundFilters.{change_leads}
use Rattle.cf_model_laws.proofs.SoundLinks.{message_longer}
use Rattle.cf_model_convergence.specs.Hearing.{IsHeard, IsPlainAsk, is_heard}
use Rattle.cf_model_convergence.specs.Telling.{IsListening, IsTold, IsUnfair, is_loud}
use Rattle.cf_model_convergence.proofs.PushesIdle.{adds_later}
use Rattle.cf_model_convergence.proofs.PushesTold.{skip_told, told_at_once, told_one, told_then}
use Rattle.cf_model_laws.proofs.FetchingGuarded.{refuse_op_keeps}
use Rattle.cf_base.specs.Codes.{number_of}
use Rattle.cf_model_convergence.proofs.TurnsTold.{ends_bind, leads_ends}
use Rattle.cf_model_convergence.proofs.HeardLines.{GoesOn, any_left, ends_mapped, heard_after, heard_of, heard_then, one_heard, tell_goes}
use Rattle.cf_model_convergence.proofs.SinceGuarded.{Follows, Since, since_follows, since_guarded, since_start}
use Rattle.cf_model_convergence.proofs.UnfairReplies.{unfair_told}
use Rattle.cf_model_laws.proofs.SoundStates.{posted_sound}
use Rattle.cf_model_laws.specs.Taken.{ToldAt}

-- what is heard of bytes that come

module _ (s : State) where
  abbrev Calmly : State → Type 0
  Calmly t = IsTold s t ⊎ (t ≡ s)

  skip_calm : (c : Code) (u : Unit {0}) (t : State) → IsListening s → Ends (skip c s) u t → Calmly t
  skip_calm c u t listening e = inl (subst (IsTold s) (sym e.1) (skip_told s.running.shows_skips c s (record s { running = record s.running { skips = s.running.skips + 1 } }) listening.shows refl))

  -- the bytes come: there is the line of a change
  transfer_told : (a : Live) (c : Change) (blocks : List ℕ) (r : Shown) (y : Filter) → Ends (transfer_by a c blocks s.filter) r y → (r ≡ shown.Done) × IsTold s (with_filter y s)
  transfer_told a c blocks r y e =
      let k = ends_bind (put c s.filter) (λ _ z. then_do (settle a.ask.item (Leaves a.ask.key blocks)) done z) r y e in
      let j = ends_bind (settle a.ask.item (Leaves a.ask.key blocks) k.1) (λ _ z. done z) r y k.3 in
      (j.3.0, subst (λ (z : Filter). IsTold s (with_filter z s)) (sym j.3.1) (more k.1 j.1 (changed k.0 k.1 k.2) (tell_goes (told_at a.ask.item (Leaves a.ask.key blocks) k.1) k.1 j.0 j.1 j.2))) where
        changed : (u : Unit {0}) (z : Filter) → Ends (put c s.filter) u z → IsTold s (with_filter z s)
        changed u z f =
            leads_ends Any (λ v w. IsTold s (with_filter w s)) (put c s.filter) u z
            (change_leads Any (λ w. IsTold s (with_filter w s)) same_book c s.filter tt tt tt (λ v is. record { lines = notice.Change (next_number v) c ∷ []; noted = refl; loud = inl refl })) f

        more : (x z : Filter) → IsTold s (with_filter x s) → GoesOn x z → IsTold s (with_filter z s)
        more x z h g = record { lines = h.lines ++ g.0; noted = g.1 ∙ ap (λ (ns : List Notice). ns ++ g.0) h.noted ∙ append_assoc s.filter.notes h.lines g.0; loud = by h.loud } where
          by : (list_any is_loud h.lines ≡ true) ⊎ IsUnfair s → (list_any is_loud (h.lines ++ g.0) ≡ true) ⊎ IsUnfair s
          by (inl q) = inl (any_left is_loud h.lines g.0 q)
          by (inr q) = inr q

  -- or not
  refuse_told : (key : Key) (span : Span) (c : Code) (u : Unit {0}) (t : State) → Invariant s → IsListening s → Ends (refuse_for key span c s) u t → Calmly t
  refuse_told key span c u t h listening e =
      let m : State = skipped c s in
      inl (told_then s m t (skip_told s.running.shows_skips c s (record s { running = record s.running { skips = s.running.skips + 1 } }) listening.shows refl)
      (since_follows m t (kept_at_end (Since m) (do_op (operation.Refuse key span (number_of c)) m) u t
      ((refuse_op_keeps (Since m) (since_guarded m) key span (number_of c)).keeps m (since_start m (sound_whole.closed.keeps_skipped c s h))) e)))

  refused_calm : (key : Key) (span : Span) (c : Code) (u : Unit {0}) (t : State) → Invariant s → IsListening s → Ends (after_transfer key span (shown.Refused c) s) u t → Calmly t
  refused_calm key span code.Full u t h listening e = refuse_told key span code.Full u t h listening e
  refused_calm key span code.TableFull u t h listening e = refuse_told key span code.TableFull u t h listening e
  refused_calm key span code.TooManyAsks u t h listening e = skip_calm code.TooManyAsks u t listening e
  refused_calm key span code.Exhausted u t h listening e = skip_calm code.Exhausted u t listening e
  refused_calm key span _ u t h listening e = inr e.1

  bytes_calm : (key : Key) (start : ℕ) (bytes : List ℕ) (u : Unit {0}) (t : State) → Invariant s → IsListening s → Ends (take_bytes key start bytes s) u t → Calmly t
  bytes_calm key start bytes u t h listening e =
      let k = ends_bind (in_filter (execute (operation.Transfer key start bytes)) s) (after_transfer key (span_at start (length bytes))) u t e in
      let j = ends_mapped (λ x. with_filter x s) (execute (operation.Transfer key start bytes) s.filter) k.0 k.1 k.2 in
      live (live_of s.filter.waiting.asks key) k.0 j.0 j.1 (subst (λ (m : State). Ends (after_transfer key (span_at start (length bytes)) k.0 m) u t) j.2 k.3) where
        refused : (c : Code) (r : Shown) (y : Filter) → (r ≡ shown.Refused c) × (y ≡ s.filter) → Ends (after_transfer key (span_at start (length bytes)) r (with_filter y s)) u t → Calmly t
        refused c r y is z =
            refused_calm key (span_at start (length bytes)) c u t h listening
            (subst (λ (a : Shown). Ends (after_transfer key (span_at start (length bytes)) a s) u t) is.0 (subst (λ (x : Filter). Ends (after_transfer key (span_at start (length bytes)) r (with_filter x s)) u t) is.1 z))

        tested : (a : Live) (o : Option Code) (r : Shown) (y : Filter) → Ends (unless shown.Refused o (transfer_by a (change.Filled a.ask.item start bytes) (blocks_of start (length bytes))) s.filter) r y
            → Ends (after_transfer key (span_at start (length bytes)) r (with_filter y s)) u t → Calmly t
        tested a (Some c) r y f z = refused c r y f z
        tested a None r y f z =
            let w = transfer_told a (change.Filled a.ask.item start bytes) (blocks_of start (length bytes)) r y f in
            inl (subst (IsTold s) (sym (subst (λ (x : Shown). Ends (after_transfer key (span_at start (length bytes)) x (with_filter y s)) u t) w.0 z).1) w.1)

        live : (o : Option Live) (r : Shown) (y : Filter) → Ends (on_live same_book (operation.Transfer key start bytes) o s.filter) r y → Ends (after_transfer key (span_at start (length bytes)) r (with_filter y s)) u t → Calmly t
        live None r y f z = refused code.StaleKey r y f z
        live (Some a) r y f z = tested a (first_of (transfer_tests a (change.Filled a.ask.item start bytes) start (length bytes) s.filter)) r y f z

-- bytes are asked for

-- what a Fetch is answered
abbrev is_of_fetch : Reply → Bool
is_of_fetch (reply.Bytes key start bytes) = true
is_of_fetch (reply.Missing key) = true
is_of_fetch (reply.Gone key) = true
is_of_fetch _ = false

told_of_fetch : (r : Held) (key : Key) (start len : ℕ) (rid : Rid) (version : Version) → is_of_fetch (bytes_told key start len (is_held r rid version) (bytes_of r rid version)) ≡ true
told_of_fetch r key start len rid version = by (is_held r rid version) (bytes_of r rid version) where
  some : (b : Bool) (bytes : List ℕ) → is_of_fetch (if b then reply.Bytes key start (slice_range bytes start (start + len)) else reply.Missing key) ≡ true
  some true bytes = refl
  some false bytes = refl

  by : (b : Bool) (o : Option (List ℕ)) → is_of_fetch (bytes_told key start len b o) ≡ true
  by b None = refl
  by false (Some bytes) = refl
  by true (Some bytes) = some (nat_le (start + len) (length bytes)) bytes

-- Nothing but messages and their lines came.
pub record IsSteady (s t : State) : Type 0 where
  pub filter : t.filter ≡ record s.filter { notes = t.filter.notes }
  pub running : t.running ≡ s.running
  pub volatile : t.volatile ≡ s.volatile
  pub inline : t.link.inline ≡ s.link.inline
  pub honest : t.link.honest ≡ s.link.honest
  pub remote : t.link.remote ≡ s.link.remote

module _ (a : Ask) (i : Item) (s : State) (h : Invariant s) (fair : IsFair s.link) (listening : IsListening s) (u : Unit {0}) (t : State) where
  abbrev query : Request
  query = fetch_of a i

  abbrev posted : State
  posted = with_message (frame.Request query) s

  abbrev number : ℕ
  number = length posted.link.messages

  abbrev came : State
  came = with_remote s.link.remote (counted posted)

  abbrev sent : Reply → State
  sent r = with_message (frame.Reply number r) came

  steady : (r : Reply) → IsSteady s (sent r)
  steady r = record { filter = refl; running = refl; volatile = refl; inline = refl; honest = refl; remote = refl }

  abbrev first_lines : List Notice
  first_lines = notice.Message (record { message = next_message s; frame = frame.Request query; lost = false }) ∷ []

  abbrev lines : Reply → List Notice
  lines r = first_lines ++ notice.Message (record { message = next_message came; frame = frame.Reply number r; lost = false }) ∷ []

  noted : (r : Reply) → (sent r).filter.notes ≡ s.filter.notes ++ lines r
  noted r = append_assoc s.filter.notes first_lines (notice.Message (record { message = next_message came; frame = frame.Reply number r; lost = false }) ∷ [])

  -- a reply whose line is heard
  line_heard : (r : Reply) → (r ≡ (remote_step s.link.remote query).0) → is_heard (notice.Message (record { message = next_message came; frame = frame.Reply number r; lost = false })) ≡ true → Invariant came → Ends (take_reply query r (sent r)) u t → IsHeard s t
  line_heard r is loud hc e =
      heard_after s came t first_lines refl
      (heard_then came (sent r) t (one_heard came (sent r) (notice.Message (record { message = next_message came; frame = frame.Reply number r; lost = false })) refl loud)
      (since_follows (sent r) t (kept_at_end (Since (sent r)) (take_reply query r (sent r)) u t
      (take_reply_at (Since (sent r)) (since_guarded (sent r)) number query r (sent r) told (length (sent r).link.messages, last_message came.link.messages (frame.Reply number r)) (since_start (sent r) (posted_sound (frame.Reply number r) came (λ f. reply_posted number query r came (at_once f)) hc))) e))) where
        at_once : IsFair came.link → ToldAt came number query r
        at_once f = subst (ToldAt came number query) (sym is) (told_at_once query s h f)

        told : IsFair (sent r).link → ToldAt (sent r) number query r
        told f = (message_longer came.link.messages (Some (frame.Reply number r) ∷ []) number (frame.Request query) (at_once f).0, (at_once f).1, (at_once f).2)

  bytes_heard : (key : Key) (start : ℕ) (bytes : List ℕ) → Invariant (sent (reply.Bytes key start bytes)) → Ends (take_reply query (reply.Bytes key start bytes) (sent (reply.Bytes key start bytes))) u t → IsHeard s t ⊎ IsSteady s t
  bytes_heard key start bytes hs e = by (is_stale query (reply.Bytes key start bytes) (sent (reply.Bytes key start bytes))) e where
    calm : Calmly (sent (reply.Bytes key start bytes)) t → IsHeard s t ⊎ IsSteady s t
    calm (inl k) = inl (heard_after s (sent (reply.Bytes key start bytes)) t (lines (reply.Bytes key start bytes)) (noted (reply.Bytes key start bytes)) (heard_of (sent (reply.Bytes key start bytes)) t k))
    calm (inr k) = inr (subst (IsSteady s) (sym k) (steady (reply.Bytes key start bytes)))

    by : (b : Bool) → Ends (act_unless (reply.Bytes key start bytes) b (sent (reply.Bytes key start bytes))) u t → IsHeard s t ⊎ IsSteady s t
    by true z = calm (inr z.1)
    by false z = calm (bytes_calm (sent (reply.Bytes key start bytes)) key start bytes u t hs (record { inline = listening.inline; shows = listening.shows }) z)

  -- the reply, as the remote's rules give it
  reply_calm : (r : Reply) → r ≡ (remote_step s.link.remote query).0 → Invariant came → Invariant (sent r) → Ends (take_reply query r (sent r)) u t → IsHeard s t ⊎ IsSteady s t
  reply_calm (reply.Bytes key start bytes) is hc hs e = bytes_heard key start bytes hs e
  reply_calm (reply.Missing key) is hc hs e = inl (line_heard (reply.Missing key) is refl hc e)
  reply_calm (reply.Gone key) is hc hs e = inl (line_heard (reply.Gone key) is refl hc e)
  reply_calm (reply.Done token rid version) is hc hs e = inl (line_heard (reply.Done token rid version) is refl hc e)
  reply_calm (reply.Refused token w version) is hc hs e = inl (line_heard (reply.Refused token w version) is refl hc e)
  reply_calm (reply.Feed round clock es) is hc hs e = no_way (ap is_of_fetch is ∙ told_of_fetch s.link.remote a.key a.span.start a.span.len (base_rid i) (base_version i))
  reply_calm (reply.Listing key es) is hc hs e = no_way (ap is_of_fetch is ∙ told_of_fetch s.link.remote a.key a.span.start a.span.len (base_rid i) (base_version i))
  reply_calm (reply.Void token) is hc hs e = no_way (ap is_of_fetch is ∙ told_of_fetch s.link.remote a.key a.span.start a.span.len (base_rid i) (base_version i))

  abbrev answer : Reply
  answer = (remote_step s.link.remote query).0

  answered_calm : (Keeps Invariant (bind (answered number (Some answer) came) (take_if_any query))) → Ends (bind (answered number (Some answer) came) (take_if_any query)) u t → IsHeard s t ⊎ IsSteady s t
  answered_calm kept ends = by (no_number came) refl kept ends where
    two : (b : Bool) → Keeps Invariant (bind (bind (post_by (frame.Reply number answer) b came) (if_kept answer)) (take_if_any query)) → Ends (bind (bind (post_by (frame.Reply number answer) b came) (if_kept answer)) (take_if_any query)) u t
        → IsHeard s t ⊎ IsSteady s t
    two true k e = inl (heard_after s came t first_lines refl (one_heard came t (notice.Message (record { message = next_message came; frame = frame.Reply number answer; lost = true })) (ap (λ (x : State). x.filter.notes) e.1) refl))
    two false k e = reply_calm answer refl k.0 (posted_sound (frame.Reply number answer) came (λ f. reply_posted number query answer came (told_at_once query s h f)) k.0) e

    by : (b : Bool) → no_number came ≡ b → Keeps Invariant (bind (bind (post_unless (frame.Reply number answer) b came) (if_kept answer)) (take_if_any query)) → Ends (bind (bind (post_unless (frame.Reply number answer) b came) (if_kept answer)) (take_if_any query)) u t
        → IsHeard s t ⊎ IsSteady s t
    by true used k e = inr (subst (IsSteady s) (sym e.1) (record { filter = refl; running = refl; volatile = refl; inline = refl; honest = refl; remote = refl }))
    by false used k e = two (no_bytes (frame.Reply number answer) came) k e

  come_calm : (b : Bool) → b ≡ true → Keeps Invariant (come_if query b posted) → Ends (come_if query b posted) u t → IsHeard s t ⊎ IsSteady s t
  come_calm false inline kept ends = no_way inline
  come_calm true inline kept (AsItKeeps, ends) = answered_calm (kept AsItKeeps) ends
  come_calm true inline kept (Tells other, ends) = inl (heard_after s posted t first_lines refl (heard_of posted t (unfair_told query number other s.link.remote posted u t h.0 ends)))
  come_calm true inline kept (Faults, ends) =
      inl (heard_after s posted t first_lines refl (heard_of posted t (subst (IsTold posted) (sym ends.1) (told_one posted (fault_line (length posted.link.messages) (counted posted)) (notice.Fault (length posted.link.messages)) refl refl))))

  pub fetch_calm : Keeps Invariant (send query s) → Ends (send query s) u t → IsHeard s t ⊎ IsSteady s t
  fetch_calm kept ends = by (no_number s) refl kept ends where
    two : (b : Bool) → Keeps Invariant (bind (post_by (frame.Request query) b s) (after_post query)) → Ends (bind (post_by (frame.Request query) b s) (after_post query)) u t → IsHeard s t ⊎ IsSteady s t
    two true k z = inl (one_heard s t (notice.Message (record { message = next_message s; frame = frame.Request query; lost = true })) (ap (λ (x : State). x.filter.notes) z.1) refl)
    two false k z = come_calm s.link.inline listening.inline k.1 z

    by : (b : Bool) → no_number s ≡ b → Keeps Invariant (bind (post_unless (frame.Request query) b s) (after_post query)) → Ends (bind (post_unless (frame.Request query) b s) (after_post query)) u t → IsHeard s t ⊎ IsSteady s t
    by true used k z = inr (subst (IsSteady s) (sym z.1) (record { filter = refl; running = refl; volatile = refl; inline = refl; honest = refl; remote = refl }))
    by false used k z = two (no_bytes (frame.Request query) s) k z

-- the callbacks of a call that waits for bytes

-- nothing but messages, their lines and the callbacks that were called
pub record IsDrained (s t : State) : Type 0 where
  pub filter : t.filter ≡ record s.filter { notes = t.filter.notes; outbox = t.filter.outbox }
  pub running : t.running ≡ s.running
  pub volatile : t.volatile ≡ s.volatile
  pub inline : t.link.inline ≡ s.link.inline
  pub honest : t.link.honest ≡ s.link.honest
  pub remote : t.link.remote ≡ s.link.remote
  pub boxed : All IsPlainAsk t.filter.outbox

callback_calm : (a : Ask) (s : State) (u : Unit {0}) (t : State) → Invariant s → IsFair s.link → IsListening s → IsPlainAsk a → Keeps Invariant (call_back a s) → Ends (call_back a s) u t → IsHeard s t ⊎ IsSteady s t
callback_calm a s u t h fair listening plain kept ends = by s.mode (h.0) kept ends where
  still : t ≡ s → IsHeard s t ⊎ IsSteady s t
  still e = inr (subst (IsSteady s) (sym e) (record { filter = refl; running = refl; volatile = refl; inline = refl; honest = refl; remote = refl }))

  kinds : (k : AskKind) (o : Option Item) → is_list k ≡ false → is_dehydrate k ≡ false → Keeps Invariant (agent_on k a o s) → Ends (agent_on k a o s) u t → IsHeard s t ⊎ IsSteady s t
  kinds ask_kind.Fetch (Some i) l d k e = fetch_calm a i s h fair listening u t k e
  kinds ask_kind.Fetch None l d k e = still e.1
  kinds ask_kind.Validate o l d k e = still e.1
  kinds ask_kind.List o l d k e = no_way (sym l)
  kinds ask_kind.Dehydrate o l d k e = no_way (sym d)

  by : (m : Mode) → is_replay m ≡ true → Keeps Invariant (provider m a s) → Ends (provider m a s) u t → IsHeard s t ⊎ IsSteady s t
  by mode.Replay r k e = kinds a.kind (item_of (items_now s) a.item) plain.0 plain.1 k e
  by mode.Filter r k e = no_way r

pub drained_calm : (n : ℕ) (s : State) (u : Unit {0}) (t : State) → Invariant s → IsFair s.link → IsListening s → All IsPlainAsk s.filter.outbox → Ends (drained n s) u t → IsHeard s t ⊎ IsDrained s t
drained_calm zero s u t h fair listening plain ends = inr (subst (IsDrained s) (sym ends.1) (record { filter = refl; running = refl; volatile = refl; inline = refl; honest = refl; remote = refl; boxed = plain }))
drained_calm (suc n) s u t h fair listening plain ends = by s.filter.outbox refl plain ends (λ m. drained_calm n m u t) where
  by : (asks : List Ask) → s.filter.outbox ≡ asks → All IsPlainAsk asks → Ends (elim asks as (λ _. Tree State (Unit {0})) [ [] ↦ Ret (record {}) s | a ∷ rest ↦ bind (call_back a (with_outbox rest s)) (λ _ m. drained n m) ]) u t
      → ((m : State) → Invariant m → IsFair m.link → IsListening m → All IsPlainAsk m.filter.outbox → Ends (drained n m) u t → IsHeard m t ⊎ IsDrained m t) → IsHeard s t ⊎ IsDrained s t
  by [] q p e more = inr (subst (IsDrained s) (sym e.1) (record { filter = refl; running = refl; volatile = refl; inline = refl; honest = refl; remote = refl; boxed = subst (All IsPlainAsk) (sym q) tt }))
  by (a ∷ rest) q p e more = next (callback_calm a w k.0 k.1 hw fair (record { inline = listening.inline; shows = listening.shows }) p.0 kept k.2) where
    w : State
    w = with_outbox rest s

    k : (v : Unit {0}) × (m : State) × Ends (call_back a w) v m × Ends (drained n m) u t
    k = ends_bind (call_back a w) (λ _ m. drained n m) u t e

    hw : Invariant w
    hw = sound_whole.closed.keeps_with_outbox a rest s q h

    kept : Keeps Invariant (call_back a w)
    kept = call_back_at Invariant sound_whole.closed a w (was_boxed Invariant sound_whole.closed a rest s q h) hw

    hm : Invariant k.1
    hm = kept_at_end Invariant (call_back a w) k.0 k.1 kept k.2

    adds : Follows k.1 t
    adds = adds_later (drained n) (λ P closed entering. drained_keeps P closed n) k.1 u t hm k.3

    last : IsSteady w k.1 → IsHeard k.1 t ⊎ IsDrained k.1 t → IsHeard s t ⊎ IsDrained s t
    last z (inl d) = inl (after_steady z d) where
      after_steady : IsSteady w k.1 → IsHeard k.1 t → IsHeard s t
      after_steady z d = let j : Follows w k.1 = adds_back in heard_after s k.1 t j.adds.lines j.adds.noted d where
        adds_back : Follows w k.1
        adds_back = since_follows w k.1 (kept_at_end (Since w) (call_back a w) k.0 k.1 (call_back_at (Since w) (since_guarded w) a w (was_boxed Invariant sound_whole.closed a rest s q h) (since_start w hw)) k.2)
    last z (inr d) = inr (record {
      filter = d.filter ∙ ap (λ (f : Filter). record f { notes = t.filter.notes; outbox = t.filter.outbox }) z.filter;
      running = d.running ∙ z.running;
      volatile = d.volatile ∙ z.volatile;
      inline = d.inline ∙ z.inline;
      honest = d.honest ∙ z.honest;
      remote = d.remote ∙ z.remote;
      boxed = d.boxed;
    })

    next : IsHeard w k.1 ⊎ IsSteady w k.1 → IsHeard s t ⊎ IsDrained s t
    next (inl z) = let j : IsHeard w t = heard_then w k.1 t z adds in inl (record { lines = j.lines; noted = j.noted; heard = j.heard })
    next (inr z) =
        last z (more k.1 hm (z.honest ∙ fair.0, subst IsSmall (sym z.remote) fair.1) (record { inline = z.inline ∙ listening.inline; shows = ap (λ (r : Running). r.shows_skips) z.running ∙ listening.shows })
        (subst (λ (f : Filter). All IsPlainAsk f.outbox) (sym z.filter) p.1) k.3)
