-- Messages, and what their replies do, in `replay`.
use Rattle.std.proofs.Common.{eq-eqb}
use Rattle.std.proofs.Common.{is_some, ◌≡◌, ◌+◌, ℕ, zero, suc, Bool, true, false, List, [], ◌∷◌, ◌++◌, refl, sym, ◌∙◌, ap, subst, arith, length, ◌⊎◌}
use Rattle.std.specs.Prelude.{Option, Some, None, cond, not, take, drop, unwrap_or, slice_get, nat_le, nat_lt, ◌&&◌, ◌||◌, ◌==◌, slice_range, if◌then◌else◌}
use Rattle.std.specs.List.{list_all, list_any}
use Rattle.std.proofs.lemmas.Bool.{eqb-true}
use Rattle.std.proofs.lemmas.List.{length-append}
use Rattle.cf_base.specs.declared.ids.ItemId.{ItemId}
use Rattle.cf_base.specs.declared.ids.Key.{Key}
use Rattle.cf_base.specs.declared.ids.Rid.{Rid}
use Rattle.cf_base.specs.declared.ids.Round.{Round}
use Rattle.cf_base.specs.declared.ids.Token.{Token}
use Rattle.cf_base.specs.declared.ids.Version.{Version}
use Rattle.cf_base.specs.declared.messages.Entry.{Entry}
use Rattle.cf_base.specs.declared.messages.Reply.{Reply}
use Rattle.cf_base.specs.declared.messages.Reply.TheVariants as reply
use Rattle.cf_base.specs.declared.messages.Request.{Request}
use Rattle.cf_base.specs.declared.messages.Request.TheVariants as request
use Rattle.cf_base.specs.declared.notices.Frame.{Frame}
use Rattle.cf_base.specs.declared.notices.Frame.TheVariants as frame
use Rattle.cf_model.specs.Arrows.{Preserves}
use Rattle.cf_model.specs.Books.{Action, MakeDir, MoveItem, PutFile, QueueEntry, RemoveItem, entry_of}
use Rattle.cf_model.specs.Fits.{Known, are_distinct, are_entries, fits, is_entry, is_of_kind, is_listing}
use Rattle.cf_model.specs.Identities.{base_bytes}
use Rattle.cf_model.specs.Items.{Item}
use Rattle.cf_model.specs.Logs.{items_of}
use Rattle.cf_model.specs.Messages.{act_on, act_unless, after_ask, after_post, answered, ask, come, come_if, come_now, counted, distrusted, entry_live, fault_line, if_kept, is_latest_round, is_old, is_stale, known_now, no_bytes, no_number, post_by, post_unless, send_now, settled_rid, take_if_any, take_reply, with_entry, with_lost, with_message, with_remote}
use Rattle.cf_model.specs.Numbers.{same_key}
use Rattle.cf_model.specs.PushReplies.{take_done, take_refused, take_void, is_new_entry}
use Rattle.cf_model.specs.Requests.{Live, is_fetch, live_of}
use Rattle.cf_model.specs.Soundness.{Each}
use Rattle.cf_model.specs.State.{Link, State, book_now, items_now}
use Rattle.cf_model.specs.Store.{Held, RecordedDone, bytes_of, recorded_at, remote_step, bytes_told, is_held}
use Rattle.cf_model.specs.Texts.{is_name}
use Rattle.cf_model.specs.Trees.{AsItKeeps, Faults, Keeps, Telling, Tells, bind}
use Rattle.cf_model.specs.Words.{is_empty, part}
use Rattle.cf_model.proofs.StoreLaws.{step_extends}
use Rattle.cf_model.specs.Fetching.{live_ask}
use Rattle.cf_model_laws.specs.GivenOnce.{WasGiven}
use Rattle.cf_model_laws.specs.Invariant.{All, Carries, HasEntry, Among, IsGivenIn, IsLiveRight, IsMessageRight, IsSound, Names, OfRequest, TellsTruth, message_in, put_bytes, Asks, IsAskedFor, IsWithToken}
use Rattle.cf_model_laws.specs.Premises.{IsFair}
use Rattle.cf_model_laws.proofs.TombstonesGuarded.{DoneIn}
use Rattle.cf_model_laws.proofs.OperationsGuarded.{keys_same}
use Rattle.cf_model_laws.proofs.FeedFrames.{IsTold}
use Rattle.cf_model_laws.proofs.FeedsGuarded.{apply_feed_at}
use Rattle.cf_model_laws.proofs.FetchingGuarded as fetching
use Rattle.cf_model_laws.proofs.FitAsks.{LiveAt}
use Rattle.cf_model_laws.proofs.Gathered.{all_any, all_found, all_in, all_weaker, each_weaker}
use Rattle.cf_model_laws.proofs.Guarded.{AskedIn, Guarded, PostedIn, PostedNow}
use Rattle.cf_model_laws.proofs.Leading.{Leads, kept_leads, leads_bind, leads_kept}
use Rattle.cf_model_laws.proofs.PushRepliesGuarded as replies
use Rattle.cf_model_laws.proofs.RemoteGrowth.{still_bytes}
use Rattle.cf_model_laws.proofs.RemoteSteps.{HasToken, same_token, tells_bytes, tells_truth}
use Rattle.cf_model_laws.proofs.RightItems.{no_way, no_way_back}
use Rattle.cf_model_laws.proofs.SoundLinks.{CarriesBy, FrameCarries, message_longer}
use Rattle.cf_model_laws.proofs.SoundSettles.{left_true, not_false, right_true}
use Rattle.cf_model_laws.proofs.SoundStates.{small_before}
use Rattle.cf_model_laws.proofs.EntriesAsked.{carries_asks}
use Rattle.std.proofs.lemmas.Bool.Decides.{nat_tests}
use Rattle.cf_model_laws.proofs.DoneNames.{done_low}
use Rattle.cf_model_laws.specs.Taken.{AnswersNow, Heard, IsPosted, ToldAt, HasNoEntries, is_feed}

-- what the remote is asked

pub ask_at : (P : State → Type 0) → Guarded P → (q : Request) (s : State) → (IsFair s.link → AskedIn s q) → P s → Keeps P (ask q s)
ask_at P closed q s well h = λ x. by x where
  by : (x : Telling) → Keeps P (after_ask (remote_step s.link.remote q) s x)
  by AsItKeeps = closed.asked q s well h
  by Faults = closed.keeps_counted s h
  by (Tells other) = closed.told (remote_step s.link.remote q).1 s h

-- one of the messages
pub all_message : (C : Request → Type 0) (ms : List (Option Frame)) (m : ℕ) (q : Request) → All (OfRequest C) ms → message_in ms m ≡ Some (frame.Request q) → C q
all_message C ms zero q h e = cc
all_message C ms (suc n) q h e = by ms n h e where
  here : (f : Option Frame) → OfRequest C f → f ≡ Some (frame.Request q) → C q
  here f k z = subst (λ (g : Option Frame). OfRequest C g) z k

  by : (ms : List (Option Frame)) (n : ℕ) → All (OfRequest C) ms → part (λ f. f) None (slice_get ms n) ≡ Some (frame.Request q) → C q
  by [] zero h e = cc
  by [] (suc n) h e = cc
  by (f ∷ ms) zero h e = here f h.0 e
  by (f ∷ ms) (suc n) h e = by ms n h.1 e

of_messages : (r : Held) (ms all : List (Option Frame)) (epoch keys tokens : ℕ) → All (IsMessageRight r all epoch keys tokens) ms → All (OfRequest (IsGivenIn epoch keys tokens)) ms
of_messages r ms all epoch keys tokens h = all_weaker (IsMessageRight r all epoch keys tokens) (OfRequest (IsGivenIn epoch keys tokens)) one ms h where
  one : (f : Option Frame) → IsMessageRight r all epoch keys tokens f → OfRequest (IsGivenIn epoch keys tokens) f
  one (Some (frame.Request q)) k = k
  one (Some (frame.Reply answers a)) k = tt
  one None k = tt

given_token : (epoch keys tokens : ℕ) (q : Request) → IsGivenIn epoch keys tokens q → HasToken (λ t. WasGiven epoch tokens t.0) q
given_token epoch keys tokens (request.Fetch key rid version start len) h = tt
given_token epoch keys tokens (request.Feed round after) h = tt
given_token epoch keys tokens (request.List key rid) h = tt
given_token epoch keys tokens (request.Put t rid expect parent name bytes) h = h
given_token epoch keys tokens (request.MakeDir t parent name) h = h
given_token epoch keys tokens (request.Move t rid parent name) h = h
given_token epoch keys tokens (request.Remove t rid expect) h = h
given_token epoch keys tokens (request.Settle t) h = h
given_token epoch keys tokens (request.Keep t count) h = h

sent_well : (P : State → Type 0) → Guarded P → (m : ℕ) (q : Request) (s : State) → message_in s.link.messages m ≡ Some (frame.Request q) → P s → IsFair s.link → AskedIn s q
sent_well P closed m q s at h fair =
    let sound : IsSound s.link s.volatile.tokens s.filter = (closed.on_filter s h).sound s.filter h fair in
    record {
      token = given_token s.filter.volume.epoch s.filter.waiting.key_count s.volatile.tokens q (all_message (IsGivenIn s.filter.volume.epoch s.filter.waiting.key_count s.volatile.tokens) s.link.messages m q
          (of_messages s.link.remote s.link.messages s.link.messages s.filter.volume.epoch s.filter.waiting.key_count s.volatile.tokens sound.messages) at);
      carries = λ token bytes own k. all_message (Carries token bytes) s.link.messages m q k at;
      asks = λ e own k. all_message (Asks e) s.link.messages m q k at;
    }

-- a reply comes

with_token_none : (token : Token) (a : Reply) → IsWithToken token a → HasNoEntries a
with_token_none token (reply.Feed round clock es) h = h
with_token_none token (reply.Listing key es) h = h
with_token_none token (reply.Bytes key start bytes) h = tt
with_token_none token (reply.Missing key) h = tt
with_token_none token (reply.Done other rid version) h = tt
with_token_none token (reply.Void other) h = tt
with_token_none token (reply.Refused other w version) h = tt
with_token_none token (reply.Gone key) h = tt

bytes_none : (key : Key) (start len : ℕ) (held : Bool) (o : Option (List ℕ)) → HasNoEntries (bytes_told key start len held o)
bytes_none key start len held None = tt
bytes_none key start len false (Some bytes) = tt
bytes_none key start len true (Some bytes) = by (nat_le (start + len) (length bytes)) where
  by : (b : Bool) → HasNoEntries (if b then reply.Bytes key start (slice_range bytes start (start + len)) else reply.Missing key)
  by true = tt
  by false = tt

answers_now : (r : Held) (q : Request) → AnswersNow (remote_step r q).1 q (remote_step r q).0
answers_now r (request.Feed round after) = refl
answers_now r (request.List key rid) = refl
answers_now r (request.Fetch key rid version start len) = bytes_none key start len (is_held r rid version) (bytes_of r rid version)
answers_now r (request.Put token rid expect parent name bytes) = with_token_none token (remote_step r (request.Put token rid expect parent name bytes)).0 (tells_bytes r (request.Put token rid expect parent name bytes))
answers_now r (request.MakeDir token parent name) = with_token_none token (remote_step r (request.MakeDir token parent name)).0 (tells_bytes r (request.MakeDir token parent name))
answers_now r (request.Move token rid parent name) = with_token_none token (remote_step r (request.Move token rid parent name)).0 (tells_bytes r (request.Move token rid parent name))
answers_now r (request.Remove token rid expect) = with_token_none token (remote_step r (request.Remove token rid expect)).0 (tells_bytes r (request.Remove token rid expect))
answers_now r (request.Settle token) = with_token_none token (remote_step r (request.Settle token)).0 (tells_bytes r (request.Settle token))
answers_now r (request.Keep token count) = with_token_none token (remote_step r (request.Keep token count)).0 (tells_bytes r (request.Keep token count))

last_get : (ms : List (Option Frame)) (f : Option Frame) → slice_get (ms ++ f ∷ []) (length ms) ≡ Some f
last_get [] f = refl
last_get (g ∷ ms) f = last_get ms f

pub last_message : (ms : List (Option Frame)) (f : Frame) → message_in (ms ++ Some f ∷ []) (length (ms ++ Some f ∷ [])) ≡ Some f
last_message ms f = ap (λ (n : ℕ). message_in (ms ++ Some f ∷ []) n) (length-append ms (Some f ∷ []) ∙ one (length ms)) ∙ ap (λ (o : Option (Option Frame)). part (λ g. g) None o) (last_get ms (Some f)) where
  one : (n : ℕ) → n + 1 ≡ suc n
  one n = omega arith

-- the reply as the remote gives it, and as it comes here
abbrev pub Given : (State → Type 0) → ℕ → Request → Option Reply → State → Type 0
Given P m q o t = P t × ((r : Reply) → o ≡ Some r → IsFair t.link → ToldAt t m q r × AnswersNow t.link.remote q r)

abbrev pub Come : (State → Type 0) → ℕ → Request → Option Reply → State → Type 0
Come P m q o t = P t × ((r : Reply) → o ≡ Some r → (IsFair t.link → ToldAt t m q r) × IsPosted t m r)

none_told : (r : Reply) → ◌≡◌ {A = Option Reply} None (Some r) → ⊥
none_told r e = cc

nothing_come : (P : State → Type 0) (m : ℕ) (q : Request) (t : State) → P t → Come P m q None t
nothing_come P m q t h = (h, λ r e. absurd (none_told r e))

pub anyhow : (id : ItemId) (C : Item → Type 0) → ((i : Item) → C i) → (items : List Item) → Each id C items
anyhow id C k [] = tt
anyhow id C k (i ∷ is) = (λ _. k i, anyhow id C k is)

-- a message that says nothing of uploads
pub quiet : (a : Action) (r : Held) (items : List Item) (f : Option Frame) (e : QueueEntry) → ((token : Token) (bytes : List ℕ) → OfRequest (Carries token bytes) f) → CarriesBy a r items f e
quiet PutFile r items f e k = anyhow e.item (λ i. OfRequest (Carries e.token (put_bytes (base_bytes r i) e.number i.writes)) f) (λ i. k e.token (put_bytes (base_bytes r i) e.number i.writes)) items
quiet MakeDir r items f e k = tt
quiet MoveItem r items f e k = tt
quiet RemoveItem r items f e k = tt

pub quiet_request : (r : Held) (items : List Item) (q : Request) (e : QueueEntry) → ((token : Token) (bytes : List ℕ) → Carries token bytes q) → FrameCarries r items (Some (frame.Request q)) e
quiet_request r items q e k = (quiet e.action r items (Some (frame.Request q)) e k, carries_asks e q (k e.token))

quiet_reply : (m : ℕ) (a : Reply) (r : Held) (items : List Item) (e : QueueEntry) → FrameCarries r items (Some (frame.Reply m a)) e
quiet_reply m a r items e = (quiet e.action r items (Some (frame.Reply m a)) e (λ t b. tt), tt)

same_reply : (a b : Reply) → ◌≡◌ {A = Option Reply} (Some a) (Some b) → a ≡ b
same_reply a b e = cc

pub reply_posted : (m : ℕ) (q : Request) (r : Reply) (t : State) → ToldAt t m q r → PostedIn t (Some (frame.Reply m r))
reply_posted m q r t told = record {
  right = (told.1, q, message_longer t.link.messages (Some (frame.Reply m r) ∷ []) m (frame.Request q) told.0, told.2);
  named = all_any (λ a. is_fetch a.ask.kind ≡ true → OfRequest (Names t.link.remote (items_now t) a.ask) (Some (frame.Reply m r))) (λ a e. tt) t.filter.waiting.asks;
  now = all_any (FrameCarries t.link.remote (items_now t) (Some (frame.Reply m r))) (λ e. quiet_reply m r t.link.remote (items_now t) e) (book_now t).entries;
  kept = all_any (λ p. All (FrameCarries t.link.remote (items_of (take p.count t.filter.volume.log)) (Some (frame.Reply m r))) p.book.entries)
      (λ p. all_any (FrameCarries t.link.remote (items_of (take p.count t.filter.volume.log)) (Some (frame.Reply m r))) (λ e. quiet_reply m r t.link.remote (items_of (take p.count t.filter.volume.log)) e) p.book.entries) t.filter.volume.points;
}

answered_led : (P : State → Type 0) → Guarded P → (m : ℕ) (q : Request) (o : Option Reply) (t : State) → Given P m q o t → Leads P (Come P m q) (answered m o t)
answered_led P closed m q None t h = (h.0, nothing_come P m q (fault_line m t) (closed.keeps_fault_line m t h.0))
answered_led P closed m q (Some r) t h = by (no_number t) where
  kept : Come P m q (Some r) (with_message (frame.Reply m r) t)
  kept = (
    closed.posts (frame.Reply m r) t refl (λ fair. reply_posted m q r t (h.1 r refl fair).0) (λ fair. (q, (h.1 r refl fair).0.0, (h.1 r refl fair).1)) h.0,
    λ r2 e. subst (λ (x : Reply). (IsFair t.link → ToldAt (with_message (frame.Reply m r) t) m q x) × IsPosted (with_message (frame.Reply m r) t) m x) (same_reply r r2 e) (
      λ fair. (message_longer t.link.messages (Some (frame.Reply m r) ∷ []) m (frame.Request q) (h.1 r refl fair).0.0, (h.1 r refl fair).0.1, (h.1 r refl fair).0.2),
      (length (with_message (frame.Reply m r) t).link.messages, last_message t.link.messages (frame.Reply m r)),
    ),
  )

  two : (b : Bool) → Leads P (Come P m q) (bind (post_by (frame.Reply m r) b t) (if_kept r))
  two true = (h.0, nothing_come P m q (with_lost (frame.Reply m r) t) (closed.loses (frame.Reply m r) t h.0))
  two false = (h.0, kept)

  by : (n : Bool) → Leads P (Come P m q) (bind (post_unless (frame.Reply m r) n t) (if_kept r))
  by true = nothing_come P m q t h.0
  by false = two (no_bytes (frame.Reply m r) t)

pub come_led : (P : State → Type 0) → Guarded P → (m : ℕ) (q : Request) (s : State) → message_in s.link.messages m ≡ Some (frame.Request q) → P s → Leads P (Come P m q) (come m q s)
come_led P closed m q s at h = λ x. by x where
  by : (x : Telling) → Leads P (Come P m q) (bind (after_ask (remote_step s.link.remote q) s x) (answered m))
  by AsItKeeps =
      answered_led P closed m q (Some (remote_step s.link.remote q).0) (with_remote (remote_step s.link.remote q).1 (counted s)) (
        closed.asked q s (sent_well P closed m q s at h) h,
        λ r e fair. subst (λ (x : Reply). ToldAt (with_remote (remote_step s.link.remote q).1 (counted s)) m q x × AnswersNow (remote_step s.link.remote q).1 q x) (same_reply (remote_step s.link.remote q).0 r e) (
          (
            at,
            tells_truth s.link.remote q ((closed.on_filter s h).sound s.filter h (fair.0, small_before s.link.remote q fair.1)).counted,
            still_bytes s.link.remote (remote_step s.link.remote q).1 q (remote_step s.link.remote q).0 (step_extends s.link.remote q) (tells_bytes s.link.remote q),
          ),
          answers_now s.link.remote q,
        ),
      )
  by Faults = answered_led P closed m q None (counted s) (closed.keeps_counted s h, λ r e fair. absurd (none_told r e))
  by (Tells other) =
      answered_led P closed m q (Some other) (distrusted (with_remote (remote_step s.link.remote q).1 (counted s)))
      (closed.told (remote_step s.link.remote q).1 s h, λ r e fair. no_way fair.0)

-- a reply is taken

entry_low : (ks : List Known) (x : Entry) → is_entry ks x ≡ true → x.rid.0 ≡ 1 → ⊥
entry_low ks x e z = by x.rid.0 z (left_true (nat_lt 1 x.rid.0) (not (x.rid.0 == x.parent.0)) (left_true (nat_lt 1 x.rid.0 && not (x.rid.0 == x.parent.0)) (is_name x.name) (left_true (nat_lt 1 x.rid.0 && not (x.rid.0 == x.parent.0) && is_name x.name) (is_of_kind ks x)
    (left_true (nat_lt 1 x.rid.0 && not (x.rid.0 == x.parent.0) && is_name x.name && is_of_kind ks x) (cond x.dir ((x.version.0 == 0) && (x.len == 0)) (nat_le 1 x.version.0 && nat_le x.len 16777216)) e)))) where
      by : (n : ℕ) → n ≡ 1 → nat_lt 1 n ≡ true → ⊥
      by n z e = grind (arith, nat_tests, z, e)

-- nor is it its own parent
entry_apart : (ks : List Known) (e : Entry) → is_entry ks e ≡ true → e.rid.0 ≡ e.parent.0 → ⊥
entry_apart ks e h z = no_way (sym (ap (λ (b : Bool). not b) (eq-eqb e.rid.0 e.parent.0 z)) ∙ apart) where
  rest : Bool
  rest = cond e.dir ((e.version.0 == 0) && (e.len == 0)) (nat_le 1 e.version.0 && nat_le e.len 16777216)

  apart : not (e.rid.0 == e.parent.0) ≡ true
  apart = right_true (nat_lt 1 e.rid.0) (not (e.rid.0 == e.parent.0)) (left_true (nat_lt 1 e.rid.0 && not (e.rid.0 == e.parent.0)) (is_name e.name) (left_true (nat_lt 1 e.rid.0 && not (e.rid.0 == e.parent.0) && is_name e.name) (is_of_kind ks e) (left_true (nat_lt 1 e.rid.0 && not (e.rid.0 == e.parent.0) && is_name e.name && is_of_kind ks e) rest h)))

lows : (ks : List Known) (es : List Entry) → list_all (is_entry ks) es ≡ true → All (λ e. e.rid.0 ≡ 1 → ⊥) es
lows ks [] e = tt
lows ks (x ∷ es) e = (entry_low ks x (left_true (is_entry ks x) (list_all (is_entry ks) es) e), lows ks es (right_true (is_entry ks x) (list_all (is_entry ks) es) e))

pub told_all : (On : Entry → Type 0) (l : Link) (ks : List Known) (es : List Entry) → All On es → (IsFair l → All (HasEntry l.remote) es) → list_all (is_entry ks) es ≡ true → All (IsTold On l) es
told_all On l ks [] on has e = tt
told_all On l ks (x ∷ es) on has e = (
  record { on = on.0; has = λ fair. (has fair).0; apart = entry_apart ks x (left_true (is_entry ks x) (list_all (is_entry ks) es) e); low = entry_low ks x (left_true (is_entry ks x) (list_all (is_entry ks) es) e); dir = λ d. version_zero x (right_true (nat_lt 1 x.rid.0 && not (x.rid.0 == x.parent.0) && is_name x.name && is_of_kind ks x) (cond x.dir ((x.version.0 == 0) && (x.len == 0)) (nat_le 1 x.version.0 && nat_le x.len 16777216)) (left_true (is_entry ks x) (list_all (is_entry ks) es) e)) d },
  told_all On l ks es on.1 (λ fair. (has fair).1) (right_true (is_entry ks x) (list_all (is_entry ks) es) e),
) where
  version_zero : (x : Entry) → cond x.dir ((x.version.0 == 0) && (x.len == 0)) (nat_le 1 x.version.0 && nat_le x.len 16777216) ≡ true → x.dir ≡ true → x.version.0 ≡ 0
  version_zero x k d = eqb-true x.version.0 0 (left_true (x.version.0 == 0) (x.len == 0) (subst (λ (b : Bool). cond b ((x.version.0 == 0) && (x.len == 0)) (nat_le 1 x.version.0 && nat_le x.len 16777216) ≡ true) d k))

-- which requests a reply can fit
pub feed_fits : (ks : List Known) (st : Rid) (q : Request) (round : Round) (clock : ℕ) (es : List Entry) → fits ks st q (reply.Feed round clock es) ≡ true → are_entries ks es ≡ true
feed_fits ks st (request.Feed round2 after) round clock es e = right_true (same_key round2.0 round.0) (are_entries ks es) e
feed_fits ks st (request.List key2 rid) round clock es e = no_way e
feed_fits ks st (request.Fetch key2 rid version start2 len) round clock es e = no_way e
feed_fits ks st (request.Put t rid expect parent name bs) round clock es e = no_way e
feed_fits ks st (request.MakeDir t parent name) round clock es e = no_way e
feed_fits ks st (request.Move t rid parent name) round clock es e = no_way e
feed_fits ks st (request.Remove t rid expect) round clock es e = no_way e
feed_fits ks st (request.Settle t) round clock es e = no_way e
feed_fits ks st (request.Keep t count) round clock es e = no_way e

listing_fits : (ks : List Known) (st : Rid) (q : Request) (key : Key) (es : List Entry) → fits ks st q (reply.Listing key es) ≡ true → are_entries ks es ≡ true
listing_fits ks st (request.List key2 rid) key es e = right_true (same_key key2 key) (are_entries ks es) (left_true (same_key key2 key && are_entries ks es) (is_listing rid es) e)
listing_fits ks st (request.Feed round2 after) key es e = no_way e
listing_fits ks st (request.Fetch key2 rid version start2 len) key es e = no_way e
listing_fits ks st (request.Put t rid expect parent name bs) key es e = no_way e
listing_fits ks st (request.MakeDir t parent name) key es e = no_way e
listing_fits ks st (request.Move t rid parent name) key es e = no_way e
listing_fits ks st (request.Remove t rid expect) key es e = no_way e
listing_fits ks st (request.Settle t) key es e = no_way e
listing_fits ks st (request.Keep t count) key es e = no_way e

pub is_nothing : (es : List QueueEntry) → is_empty es ≡ true → es ≡ []
is_nothing [] e = refl
is_nothing (q ∷ es) e = no_way e

old_false : (a b : Bool) → (a || b) ≡ false → b ≡ false
old_false true b e = no_way_back e
old_false false b e = e

pub or_false : (a b : Bool) → (not a || b) ≡ false → (a ≡ true) × (b ≡ false)
or_false true b e = (refl, e)
or_false false b e = no_way_back e

-- the bytes of a fetch are those of the base that the file has
bytes_fit : (P : State → Type 0) → Guarded P → (m : ℕ) (q : Request) (key : Key) (start : ℕ) (bytes : List ℕ) (s : State) → P s → fits (known_now s) (settled_rid s q) q (reply.Bytes key start bytes) ≡ true → (IsFair s.link → ToldAt s m q (reply.Bytes key start bytes))
    → (a : Live) → live_of s.filter.waiting.asks key ≡ Some a → IsFair s.link → is_fetch a.ask.kind ≡ true → Each a.ask.item (λ i. take (length bytes) (drop start (base_bytes s.link.remote i)) ≡ bytes) (items_now s)
bytes_fit P closed m (request.Fetch other rid version at len) key start bytes s h fit told a live fair fetch =
    let sound : IsSound s.link s.volatile.tokens s.filter = (closed.on_filter s h).sound s.filter h fair in
    let found : (is_fetch a.ask.kind ≡ true → IsLiveRight s.link.remote s.link.messages s.filter.waiting.key_count s.filter.volume.epoch s.filter.volume.next_item.0 (items_now s) s.filter.waiting.waits s.filter.outbox a.ask) × (same_key a.ask.key key ≡ true) = all_found (LiveAt s.link.remote s.link.messages s.filter.waiting.key_count s.filter.volume.epoch s.filter.volume.next_item.0 (items_now s) s.filter.waiting.waits s.filter.outbox) (λ b. same_key b.ask.key key) s.filter.waiting.asks a live sound.lives in
    let same : other ≡ key = keys_same other key (left_true (same_key other key) (start == at) (left_true (same_key other key && (start == at)) (length bytes == len) fit)) in
    let named : Names s.link.remote (items_now s) a.ask (request.Fetch other rid version at len) = all_message (Names s.link.remote (items_now s) a.ask) s.link.messages m (request.Fetch other rid version at len) (found.0 fetch).named (told fair).0 in
    let base = named (subst (λ (k : Key). same_key a.ask.key k ≡ true) (sym same) found.1) in
    let b = (told fair).2 in
    each_weaker a.ask.item (λ i. base_bytes s.link.remote i ≡ unwrap_or (bytes_of s.link.remote rid version) []) (λ i. take (length bytes) (drop start (base_bytes s.link.remote i)) ≡ bytes)
    (λ i e. ap (λ (x : List ℕ). take (length bytes) (drop start x)) (e ∙ ap (λ (o : Option (List ℕ)). unwrap_or o []) b.1) ∙ b.2) (items_now s) base.1
bytes_fit P closed m (request.Feed round2 after) key start bytes s h fit told a live fair fetch = no_way fit
bytes_fit P closed m (request.List key2 rid) key start bytes s h fit told a live fair fetch = no_way fit
bytes_fit P closed m (request.Put t rid expect parent name bs) key start bytes s h fit told a live fair fetch = no_way fit
bytes_fit P closed m (request.MakeDir t parent name) key start bytes s h fit told a live fair fetch = no_way fit
bytes_fit P closed m (request.Move t rid parent name) key start bytes s h fit told a live fair fetch = no_way fit
bytes_fit P closed m (request.Remove t rid expect) key start bytes s h fit told a live fair fetch = no_way fit
bytes_fit P closed m (request.Settle t) key start bytes s h fit told a live fair fetch = no_way fit
bytes_fit P closed m (request.Keep t count) key start bytes s h fit told a live fair fetch = no_way fit

done_in : (s : State) (token : Token) (rid : Rid) (version : Version) (e : QueueEntry) → entry_live s token ≡ Some e → TellsTruth s.link.remote (reply.Done token rid version) → ((e.action ≡ PutFile) ⊎ (e.action ≡ MakeDir) → rid.0 ≡ 1 → ⊥) → DoneIn s e rid version
done_in s token rid version e f told low =
    let same : e.token ≡ token = same_token e.token token (all_found (λ q. Unit {0}) (λ q. same_key q.token.0 token.0) (book_now s).entries e f (all_any (λ q. Unit {0}) (λ q. tt) (book_now s).entries)).1 in
    (subst (λ (t : Token). entry_of (book_now s) t ≡ Some e) (sym same) f, subst (λ (t : Token). recorded_at s.link.remote.tokens t ≡ Some (RecordedDone rid version)) (sym same) told, low)

act_on_at : (P : State → Type 0) → Guarded P → (m : ℕ) (q : Request) (r : Reply) (s : State) → is_stale q r s ≡ false → (IsFair s.link → ToldAt s m q r) → IsPosted s m r → P s → Keeps P (act_on r s)
act_on_at P closed m q (reply.Feed round clock es) s stale told posted h =
    let k = or_false (fits (known_now s) (settled_rid s q) q (reply.Feed round clock es)) (is_old s (reply.Feed round clock es)) stale in
    let live = not_false (is_latest_round s round.0 && s.volatile.round_open && nat_le (book_now s).cursor clock && is_empty (book_now s).entries) k.1 in
    apply_feed_at P closed m q round clock es s stale told posted (λ fair. is_nothing (book_now s).entries (right_true (is_latest_round s round.0 && s.volatile.round_open && nat_le (book_now s).cursor clock) (is_empty (book_now s).entries) live))
    (λ fair. (told fair).1.0)
    (told_all (Heard true s) s.link (known_now s) es (all_weaker (λ e. Among e es) (Heard true s) (λ e k. (m, q, reply.Feed round clock es, stale, told, posted, k)) es (all_in es)) (λ fair. (told fair).1.1) (left_true (list_all (is_entry (known_now s)) es) (are_distinct es) (feed_fits (known_now s) (settled_rid s q) q round clock es k.0))) h
act_on_at P closed m q (reply.Listing key es) s stale told posted h =
    fetching.take_listing_at P closed key es s (λ a live kind. all_weaker (λ e. Among e es) (Heard false s) (λ e k. (m, q, reply.Listing key es, stale, told, posted, (refl, (a, live, kind), k))) es (all_in es)) (λ fair. (told fair).1)
    (lows (known_now s) es (left_true (list_all (is_entry (known_now s)) es) (are_distinct es) (listing_fits (known_now s) (settled_rid s q) q key es (or_false (fits (known_now s) (settled_rid s q) q (reply.Listing key es)) (is_old s (reply.Listing key es)) stale).0)))
    (λ fair. old_false (not (is_some (live_ask s key))) (list_any is_new_entry (book_now s).entries) (or_false (fits (known_now s) (settled_rid s q) q (reply.Listing key es)) (is_old s (reply.Listing key es)) stale).1)
    (right_true (list_all (is_entry (known_now s)) es) (are_distinct es) (listing_fits (known_now s) (settled_rid s q) q key es (or_false (fits (known_now s) (settled_rid s q) q (reply.Listing key es)) (is_old s (reply.Listing key es)) stale).0)) h
act_on_at P closed m q (reply.Bytes key start bytes) s stale told posted h =
    let k = or_false (fits (known_now s) (settled_rid s q) q (reply.Bytes key start bytes)) (is_old s (reply.Bytes key start bytes)) stale in
    fetching.take_bytes_at P closed key start bytes s (bytes_fit P closed m q key start bytes s h k.0 told) h
act_on_at P closed m q (reply.Missing key) s stale told posted h = (fetching.take_missing_keeps P closed key).keeps s h
act_on_at P closed m q (reply.Done token rid version) s stale told posted h = by (entry_live s token) refl where
  by : (o : Option QueueEntry) → entry_live s token ≡ o → Keeps P (with_entry (λ e. take_done e rid version) o s)
  by None f = h
  by (Some e) f = replies.take_done_at P closed e rid version s (λ d same. (m, q, reply.Done token rid version, stale, told, posted, same))
      (λ fair. let asked : IsAskedFor s.link.remote s.link.messages e = (all_found (IsAskedFor s.link.remote s.link.messages) (λ x. same_key x.token.0 token.0) (book_now s).entries e f ((closed.on_filter s h).sound s.filter h fair).now.asked).0 in
      done_in s token rid version e f (told fair).1
      (done_low s q token rid version e (or_false (fits (known_now s) (settled_rid s q) q (reply.Done token rid version)) (is_old s (reply.Done token rid version)) stale).0 f (all_message (Asks e) s.link.messages m q asked.sent (told fair).0) asked)) h
act_on_at P closed m q (reply.Void token) s stale told posted h = by (entry_live s token) where
  by : (o : Option QueueEntry) → Keeps P (with_entry take_void o s)
  by None = h
  by (Some e) = (replies.take_void_keeps P closed e).keeps s h
act_on_at P closed m q (reply.Refused token w version) s stale told posted h = by (entry_live s token) where
  by : (o : Option QueueEntry) → Keeps P (with_entry (λ e. take_refused e w) o s)
  by None = h
  by (Some e) = (replies.take_refused_keeps P closed e w).keeps s h
act_on_at P closed m q (reply.Gone key) s stale told posted h = (fetching.take_gone_keeps P closed key).keeps s h

pub acts_at : (P : State → Type 0) → Guarded P → (m : ℕ) (q : Request) (r : Reply) (s : State) → is_stale q r s ≡ false → (IsFair s.link → ToldAt s m q r) → IsPosted s m r → P s → Keeps P (act_on r s)
acts_at P closed m q r s stale told posted h = act_on_at P closed m q r s stale told posted h

pub take_reply_at : (P : State → Type 0) → Guarded P → (m : ℕ) (q : Request) (r : Reply) (s : State) → (IsFair s.link → ToldAt s m q r) → IsPosted s m r → P s → Keeps P (take_reply q r s)
take_reply_at P closed m q r s told posted h = by (is_stale q r s) refl where
  by : (b : Bool) → is_stale q r s ≡ b → Keeps P (act_unless r b s)
  by true e = h
  by false e = act_on_at P closed m q r s e told posted h

-- requests

pub come_now_at : (P : State → Type 0) → Guarded P → (q : Request) (s : State) → message_in s.link.messages (length s.link.messages) ≡ Some (frame.Request q) → P s → Keeps P (come_now q s)
come_now_at P closed q s at h =
    kept_leads P (come_now q s)
    (leads_bind P (Come P (length s.link.messages) q) (λ u t. P t) (come (length s.link.messages) q s) (take_if_any q) (come_led P closed (length s.link.messages) q s at h) (λ o t k. leads_kept P (take_if_any q o t) (by o t k.0 k.1))) where
      by : (o : Option Reply) (t : State) → P t → ((r : Reply) → o ≡ Some r → (IsFair t.link → ToldAt t (length s.link.messages) q r) × IsPosted t (length s.link.messages) r) → Keeps P (take_if_any q o t)
      by None t j k = j
      by (Some r) t j k = take_reply_at P closed (length s.link.messages) q r t (k r refl).0 (k r refl).1 j

pub send_now_by : (P : State → Type 0) → Guarded P → (q : Request) (s : State) → P (with_message (frame.Request q) s) → P s → Keeps P (send_now q s)
send_now_by P closed q s sent h = by (no_number s) where
  three : (b : Bool) → Keeps P (come_if q b (with_message (frame.Request q) s))
  three true = come_now_at P closed q (with_message (frame.Request q) s) (last_message s.link.messages (frame.Request q)) sent
  three false = sent

  two : (b : Bool) → Keeps P (bind (post_by (frame.Request q) b s) (after_post q))
  two true = (h, closed.loses (frame.Request q) s h)
  two false = (h, three s.link.inline)

  by : (n : Bool) → Keeps P (bind (post_unless (frame.Request q) n s) (after_post q))
  by true = h
  by false = two (no_bytes (frame.Request q) s)

pub send_now_at : (P : State → Type 0) → Guarded P → (q : Request) (s : State) → is_feed (frame.Request q) ≡ false → (IsFair s.link → PostedIn s (Some (frame.Request q))) → (IsFair s.link → PostedNow s (Some (frame.Request q))) → P s → Keeps P (send_now q s)
send_now_at P closed q s other well now h = send_now_by P closed q s (closed.posts (frame.Request q) s other well now h) h

pub list_ask_keeps : (P : State → Type 0) → Guarded P → (key : Key) (rid : Rid) → Preserves P (ask (request.List key rid))
list_ask_keeps P closed key rid = record { keeps = λ s h. ask_at P closed (request.List key rid) s (λ fair. record { token = tt; carries = λ t b o k. tt; asks = λ e o k. tt }) h }
