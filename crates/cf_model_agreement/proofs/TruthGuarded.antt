-- The messages tell the truth in each state of a run in `replay`.
use Rattle.std.proofs.Common.{◌≡◌, ◌≤◌, ◌+◌, ℕ, Bool, true, false, List, [], ◌∷◌, ◌++◌, refl, sym, ◌∙◌, ap, subst, inl, inr, arith}
use Rattle.std.specs.Prelude.{Option, Some, None, cond, not, ◌&&◌, ◌==◌, if◌then◌else◌}
use Rattle.cf_base.specs.declared.changes.Change.TheVariants as change
use Rattle.cf_base.specs.declared.codes.Code.{Code}
use Rattle.cf_base.specs.declared.ids.Key.{Key}
use Rattle.cf_base.specs.declared.ids.Round.{Round}
use Rattle.cf_base.specs.declared.messages.Entry.{Entry}
use Rattle.cf_base.specs.declared.messages.Reply.TheVariants as reply
use Rattle.cf_base.specs.declared.messages.Request.{Request}
use Rattle.cf_base.specs.declared.messages.Request.TheVariants as request
use Rattle.cf_base.specs.declared.notices.Frame.{Frame}
use Rattle.cf_base.specs.declared.notices.Frame.TheVariants as frame
use Rattle.cf_model.specs.Books.{Book, QueueEntry, with_cursor}
use Rattle.cf_model.specs.Changes.{change_with}
use Rattle.cf_model.specs.Passes.{with_round}
use Rattle.cf_model.specs.PushReplies.{held_and_closed, held_back, not_in_row, round_closed, taken_from_row, without_item, without_number, is_removal}
use Rattle.cf_model.specs.Requests.{Waiting, is_list}
use Rattle.cf_model.specs.Skips.{skip_line, with_book, with_volatile}
use Rattle.cf_model.specs.State.{Filter, Link, State, Volatile, book_now, with_filter, Point}
use Rattle.cf_model.specs.Store.{Held, feed_of, listing_of, remote_step, is_live_dir}
use Rattle.cf_model_laws.specs.GivenOnce.{WasGiven}
use Rattle.cf_model_laws.specs.Invariant.{All, IsSound, message_in}
use Rattle.cf_model_laws.specs.Premises.{IsFair}
use Rattle.cf_model_laws.specs.Taken.{AnswersNow}
use Rattle.cf_model_laws.proofs.ContentLaws.{next_epoch}
use Rattle.cf_model_laws.proofs.Gathered.{all_append, all_found, all_weaker}
use Rattle.cf_model_laws.proofs.Guarded.{Guarded, IsRecordBy, PostedNow}
use Rattle.cf_model_laws.proofs.RemoteGrowth.{clock_rises}
use Rattle.cf_model_laws.proofs.RightItems.{no_way}
use Rattle.cf_model_laws.proofs.SinceKept.{moved_weaker, on_filter_weaker, record_weaker}
use Rattle.cf_model_laws.proofs.SkipsGuarded.{keeps_both}
use Rattle.cf_model_laws.proofs.SoundLinks.{message_longer}
use Rattle.cf_model_laws.proofs.SoundStates.{small_before}
use Rattle.cf_model_convergence.specs.Tidy.{IsTidy, IsTidyItem}
use Rattle.cf_model_convergence.proofs.TidyItems.{found_rid}
use Rattle.cf_model_convergence.proofs.TidyRemotes.{step_tidy}
use Rattle.cf_model_agreement.specs.Messages.{AreListsRight, AreMessagesTrue, IsFeedRight, IsListedRight, IsToldNow, IsTrue}
use Rattle.cf_model_agreement.proofs.FeedsRight.{feed_later, feed_now, listing_now, now_later, least}
use Rattle.cf_model_agreement.proofs.MessagesTrue.{IsAskedNow, given_more, lists_later, lists_none, true_later}
use Rattle.cf_base.specs.declared.ids.Rid.{Rid}
use Rattle.cf_model_laws.proofs.PassesGuarded.{one_message}
use Rattle.cf_model.specs.Feeds.{is_listing}
use Rattle.cf_model.specs.Growth.{IsCounted}
use Rattle.cf_model_laws.proofs.SoundSettles.{not_true, right_true}
use Rattle.cf_model.specs.Restarts.{epoch_after, with_opened}
use Rattle.cf_model_laws.proofs.OnceLaws.{later}
use Rattle.cf_model_laws.proofs.EventsGuarded.{Whole}
use Rattle.cf_model_agreement.proofs.FiltersTrue.{In, begin_true, change_true, filter_true}
use Rattle.cf_model.specs.Arrows.{reading}
use Rattle.cf_model.specs.Messages.{with_message}
use Rattle.cf_model.specs.Waits.{begin_now, begun as wait_begun}

-- the whole

abbrev pub TruthIn : State → Type 0
TruthIn s = In s.link s.volatile.rounds s.volatile.round_open s.filter

pub row_same : (e : QueueEntry) (v : Volatile) → ((not_in_row e v).rounds ≡ v.rounds) × ((not_in_row e v).round_open ≡ v.round_open)
row_same e v = by (is_removal e) where
  by : (b : Bool) → ((cond b (record v { not_empty = without_number e.number v.not_empty }) (record v { taken_names = without_item e.item v.taken_names })).rounds ≡ v.rounds)
      × ((cond b (record v { not_empty = without_number e.number v.not_empty }) (record v { taken_names = without_item e.item v.taken_names })).round_open ≡ v.round_open)
  by true = (refl, refl)
  by false = (refl, refl)

pub back_same : (e : QueueEntry) (v : Volatile) → ((held_back e v).rounds ≡ v.rounds) × ((held_back e v).round_open ≡ v.round_open)
back_same e v = by (is_removal e) where
  by : (b : Bool) → ((cond b (record v { held_tombstones = e.number ∷ v.held_tombstones }) (record v { held_items = e.item ∷ v.held_items })).rounds ≡ v.rounds)
      × ((cond b (record v { held_tombstones = e.number ∷ v.held_tombstones }) (record v { held_items = e.item ∷ v.held_items })).round_open ≡ v.round_open)
  by true = (refl, refl)
  by false = (refl, refl)

-- the same rounds, and none is opened
closing : (l : Link) (n m : ℕ) (awaited shut : Bool) (x : Filter) → m ≡ n → (shut ≡ true → awaited ≡ true) → In l n awaited x → In l m shut x
closing l n m awaited shut x same less h = subst (λ (k : ℕ). In l k shut x) (sym same) (λ fair. let k = (h fair).1 in (
  (h fair).0,
  record {
    same_epoch = k.same_epoch;
    messages = all_weaker (IsTrue l.remote l.messages x.volume.epoch n awaited x.volume.book.cursor x.waiting.key_count) (IsTrue l.remote l.messages x.volume.epoch n shut x.volume.book.cursor x.waiting.key_count)
        (true_later l.remote l.remote l.messages l.messages x.volume.epoch n awaited x.volume.book.cursor x.waiting.key_count x.volume.epoch n shut x.volume.book.cursor x.waiting.key_count
        (λ round after k. (k.0, k.1, λ e z. k.2 e (less z))) (λ key k. k) (λ number g k. k) (λ after clock es k. k)) l.messages k.messages;
    lists = k.lists;
  },
))

-- another cursor, while no round is awaited
at_cursor : (s : State) (d : ℕ) → s.volatile.round_open ≡ false → (IsFair s.link → IsTidy s.link.remote → AreListsRight s.link.remote s.link.messages d s.filter.waiting.asks) → TruthIn s → TruthIn (with_book (with_cursor d) s)
at_cursor s d shut lists h fair = let k = (h fair).1 in (
  (h fair).0,
  record {
    same_epoch = k.same_epoch;
    messages = all_weaker (IsTrue s.link.remote s.link.messages s.filter.volume.epoch s.volatile.rounds s.volatile.round_open (book_now s).cursor s.filter.waiting.key_count) (IsTrue s.link.remote s.link.messages s.filter.volume.epoch s.volatile.rounds s.volatile.round_open d s.filter.waiting.key_count)
        (true_later s.link.remote s.link.remote s.link.messages s.link.messages s.filter.volume.epoch s.volatile.rounds s.volatile.round_open (book_now s).cursor s.filter.waiting.key_count s.filter.volume.epoch s.volatile.rounds s.volatile.round_open d s.filter.waiting.key_count
        (λ round after k. (k.0, k.1, λ e z. no_way (sym shut ∙ z))) (λ key k. k) (λ number g k. k) (λ after clock es k. k)) s.link.messages k.messages;
    lists = lists fair (h fair).0;
  },
)

-- a book with this cursor
same_book_cursor : (s : State) (f : Book → Book) (d : ℕ) → (f (book_now s)).cursor ≡ d → TruthIn (with_book (with_cursor d) s) → TruthIn (with_book f s)
same_book_cursor s f d e h fair = let k = (h fair).1 in (
  (h fair).0,
  record {
    same_epoch = k.same_epoch;
    messages = subst (λ (c : ℕ). All (IsTrue s.link.remote s.link.messages s.filter.volume.epoch s.volatile.rounds s.volatile.round_open c s.filter.waiting.key_count) s.link.messages) (sym e) k.messages;
    lists = subst (λ (c : ℕ). AreListsRight s.link.remote s.link.messages c s.filter.waiting.asks) (sym e) k.lists;
  },
)

-- nothing is passed at cursor 0
none_passed : (r : Held) (ms : List (Option Frame)) (cursor : ℕ) → IsTidy r → (w : Waiting) → AreListsRight r ms cursor w.asks → AreListsRight r ms 0 w.asks
none_passed r ms cursor tidy w h = lists_later r r ms cursor 0 one w.asks h where
  never : (n : ℕ) → 1 ≤ n → n ≤ 0 → ⊥
  never n a c = omega (arith, a, c)

  one : (e : Entry) → IsToldNow r cursor e → IsToldNow r 0 e
  one e k lower x found passed =
      absurd (never x.changed (((all_found (IsTidyItem r) (λ s. s.rid.0 == e.rid.0) r.items x found tidy.items).0.placed (λ z. lower (sym (found_rid r.items e.rid x found) ∙ z))).late) passed)

books_true : (P : State → Type 0) (f : Book → Book) (s : State) → (IsFair s.link → IsRecordBy P f s) → TruthIn s → TruthIn (with_book f s)
books_true P f s known h fair = by (known fair) fair where
  by : IsRecordBy P f s → TruthIn (with_book f s)
  by (inl k) = same_book_cursor s f (book_now s).cursor (k.1 (book_now s)) h
  by (inr (inl k)) = same_book_cursor s f (book_now s).cursor (ap (λ (b : Book). b.cursor) (k.1 (book_now s))) h
  by (inr (inr (inl k))) =
      same_book_cursor s f 0 (ap (λ (b : Book). b.cursor) (k.0 (book_now s))) (at_cursor s 0 k.1 (λ fair tidy. none_passed s.link.remote s.link.messages (book_now s).cursor tidy s.filter.waiting (h fair).1.lists) h)
  by (inr (inr (inr k))) =
      same_book_cursor s f k.0 (ap (λ (b : Book). b.cursor) (k.1 (book_now s)))
      (at_cursor s k.0 k.2.closed (λ fair tidy. lists_none s.link.remote s.link.messages k.0 s.filter.waiting.asks (not_true (is_listing s) (right_true (not k.2.fed.postponed && (s.running.skips == k.2.first.running.skips)) (not (is_listing s)) k.2.whole))) h)

line_true : (b : Bool) (c : Code) (s : State) → TruthIn s → TruthIn (skip_line b c s)
line_true true c s h = h
line_true false c s h = h

-- the remote is asked
asked_true : (s : State) (q : Request) → (IsFair s.link → IsSound s.link s.volatile.tokens s.filter) → (IsFair s.link → (book_now s).cursor ≤ s.link.remote.clock) → TruthIn s → IsFair (record s.link { remote_asks = s.link.remote_asks + 1; remote = (remote_step s.link.remote q).1 })
    → IsTidy (remote_step s.link.remote q).1 × AreMessagesTrue (remote_step s.link.remote q).1 s.link.messages s.filter.volume.epoch s.volatile.rounds s.volatile.round_open (book_now s).cursor s.filter.waiting
asked_true s q sound early h fair =
    let before : IsFair s.link = (fair.0, small_before s.link.remote q fair.1) in
    let counted = (sound before).counted in
    let k = (h before).1 in (
      step_tidy s.link.remote q (h before).0,
      record {
        same_epoch = k.same_epoch;
        messages = all_weaker (IsTrue s.link.remote s.link.messages s.filter.volume.epoch s.volatile.rounds s.volatile.round_open (book_now s).cursor s.filter.waiting.key_count) (IsTrue (remote_step s.link.remote q).1 s.link.messages s.filter.volume.epoch s.volatile.rounds s.volatile.round_open (book_now s).cursor s.filter.waiting.key_count)
            (true_later s.link.remote (remote_step s.link.remote q).1 s.link.messages s.link.messages s.filter.volume.epoch s.volatile.rounds s.volatile.round_open (book_now s).cursor s.filter.waiting.key_count s.filter.volume.epoch s.volatile.rounds s.volatile.round_open (book_now s).cursor s.filter.waiting.key_count
            (λ round after k. (k.0, further after s.link.remote.clock (remote_step s.link.remote q).1.clock k.1 (clock_rises s.link.remote q), k.2)) (λ key k. k) (λ number g k. k) (λ after clock es k. feed_later s.link.remote q counted after clock es k)) s.link.messages k.messages;
        lists = lists_later s.link.remote (remote_step s.link.remote q).1 s.link.messages (book_now s).cursor (book_now s).cursor (λ e k. now_later s.link.remote q counted (book_now s).cursor (early before) e k) s.filter.waiting.asks k.lists;
      },
    ) where
      further : (a b c : ℕ) → a ≤ b → b ≤ c → a ≤ c
      further a b c h k = omega (arith, h, k)

-- one more message

same_feed : (a b : Round) (c d : ℕ) (es ds : List Entry) → reply.Feed a c es ≡ reply.Feed b d ds → (c ≡ d) × (es ≡ ds)
same_feed a b c d es ds e = (cc, cc)

same_listing : (a b : Key) (es ds : List Entry) → reply.Listing a es ≡ reply.Listing b ds → (a ≡ b) × (es ≡ ds)
same_listing a b es ds e = (cc, cc)

-- a reply to a List
of_list : (r : Held) (key : Key) (rid : Rid) (other : Key) (es : List Entry) → reply.Listing other es ≡ (remote_step r (request.List key rid)).0 → (other ≡ key) × (es ≡ listing_of r rid)
of_list r key rid other es e = by (is_live_dir r rid) e where
  by : (b : Bool) → reply.Listing other es ≡ (if b then reply.Listing key (listing_of r rid) else reply.Missing key) → (other ≡ key) × (es ≡ listing_of r rid)
  by true z = same_listing other key es (listing_of r rid) z
  by false z = (cc, cc)

no_feed : (r : Held) (key : Key) (rid : Rid) (round : Round) (clock : ℕ) (es : List Entry) → reply.Feed round clock es ≡ (remote_step r (request.List key rid)).0 → ⊥
no_feed r key rid round clock es e = by (is_live_dir r rid) e where
  by : (b : Bool) → reply.Feed round clock es ≡ (if b then reply.Listing key (listing_of r rid) else reply.Missing key) → ⊥
  by true z = cc
  by false z = cc

no_listing : (other : Key) (es : List Entry) (round : Round) (clock : ℕ) (ds : List Entry) → reply.Listing other es ≡ reply.Feed round clock ds → ⊥
no_listing other es round clock ds z = cc

module _ (s : State) (fair : IsFair s.link) (early : (book_now s).cursor ≤ s.link.remote.clock) (counted : IsCounted s.link.remote) (h : TruthIn s) where
  abbrev R : Held
  R = s.link.remote

  abbrev Ms : List (Option Frame)
  Ms = s.link.messages

  abbrev TrueNow : List (Option Frame) → Option Frame → Type 0
  TrueNow ms x = IsTrue R ms s.filter.volume.epoch s.volatile.rounds s.volatile.round_open (book_now s).cursor s.filter.waiting.key_count x

  told_feed : (f : Frame) (m : ℕ) (q : Request) (round : Round) (clock : ℕ) (es : List Entry) → message_in Ms m ≡ Some (frame.Request q) → AnswersNow R q (reply.Feed round clock es)
      → (asked : Round) × (after : ℕ) × (message_in (Ms ++ Some f ∷ []) m ≡ Some (frame.Request (request.Feed asked after))) × IsFeedRight R after clock es
  told_feed f m (request.Feed asked after) round clock es at e =
      let same = same_feed round asked clock R.clock es (feed_of R after) e in
      let start : IsAskedNow R s.filter.volume.epoch s.volatile.rounds s.volatile.round_open (book_now s).cursor asked after = one_message (TrueNow Ms) Ms m (frame.Request (request.Feed asked after)) (h fair).1.messages at in
      (asked, after, message_longer Ms (Some f ∷ []) m (frame.Request (request.Feed asked after)) at, subst (λ (n : ℕ). IsFeedRight R after n es) (sym same.0) (subst (IsFeedRight R after R.clock) (sym same.1) (feed_now R after (h fair).0 start.1)))
  told_feed f m (request.List key rid) round clock es at e = absurd (no_feed R key rid round clock es e)
  told_feed f m (request.Fetch key rid version start len) round clock es at e = absurd e
  told_feed f m (request.Put t rid expect parent name bytes) round clock es at e = absurd e
  told_feed f m (request.MakeDir t parent name) round clock es at e = absurd e
  told_feed f m (request.Move t rid parent name) round clock es at e = absurd e
  told_feed f m (request.Remove t rid expect) round clock es at e = absurd e
  told_feed f m (request.Settle t) round clock es at e = absurd e
  told_feed f m (request.Keep t count) round clock es at e = absurd e

  told_listing : (m : ℕ) (q : Request) (key : Key) (es : List Entry) → message_in Ms m ≡ Some (frame.Request q) → AnswersNow R q (reply.Listing key es) → WasGiven s.filter.volume.epoch s.filter.waiting.key_count key × All (λ e. (e.live ≡ true) × IsToldNow R (book_now s).cursor e) es
  told_listing m (request.List other rid) key es at e =
      let same = of_list R other rid key es e in
      let given : WasGiven s.filter.volume.epoch s.filter.waiting.key_count other = one_message (TrueNow Ms) Ms m (frame.Request (request.List other rid)) (h fair).1.messages at in
      (subst (λ (k : Key). WasGiven s.filter.volume.epoch s.filter.waiting.key_count k) (sym same.0) given, subst (All (λ e. (e.live ≡ true) × IsToldNow R (book_now s).cursor e)) (sym same.1) (listing_now R rid (book_now s).cursor counted))
  told_listing m (request.Feed asked after) key es at e = absurd (no_listing key es asked R.clock (feed_of R after) e)
  told_listing m (request.Fetch other rid version start len) key es at e = absurd e
  told_listing m (request.Put t rid expect parent name bytes) key es at e = absurd e
  told_listing m (request.MakeDir t parent name) key es at e = absurd e
  told_listing m (request.Move t rid parent name) key es at e = absurd e
  told_listing m (request.Remove t rid expect) key es at e = absurd e
  told_listing m (request.Settle t) key es at e = absurd e
  told_listing m (request.Keep t count) key es at e = absurd e

  given_round : (round : Round) → round.0 ≡ record { epoch = s.filter.volume.epoch; number = s.volatile.rounds } → WasGiven s.filter.volume.epoch s.volatile.rounds round.0
  given_round round e = subst (WasGiven s.filter.volume.epoch s.volatile.rounds) (sym e) (inr (refl, least s.volatile.rounds))

  new_true : (f : Frame) → PostedNow s (Some f) → TrueNow (Ms ++ Some f ∷ []) (Some f)
  new_true (frame.Request (request.Feed round after)) now = (given_round round now.0, subst (λ (n : ℕ). n ≤ R.clock) (sym now.1) early, λ e z. now.1)
  new_true (frame.Request (request.List key rid)) now = now
  new_true (frame.Request (request.Fetch key rid version start len)) now = tt
  new_true (frame.Request (request.Put t rid expect parent name bytes)) now = tt
  new_true (frame.Request (request.MakeDir t parent name)) now = tt
  new_true (frame.Request (request.Move t rid parent name)) now = tt
  new_true (frame.Request (request.Remove t rid expect)) now = tt
  new_true (frame.Request (request.Settle t)) now = tt
  new_true (frame.Request (request.Keep t count)) now = tt
  new_true (frame.Reply m (reply.Feed round clock es)) now = told_feed (frame.Reply m (reply.Feed round clock es)) m now.0 round clock es now.1 now.2
  new_true (frame.Reply m (reply.Listing key es)) now = (told_listing m now.0 key es now.1 now.2).0
  new_true (frame.Reply m (reply.Bytes key start bytes)) now = tt
  new_true (frame.Reply m (reply.Missing key)) now = tt
  new_true (frame.Reply m (reply.Done token rid version)) now = tt
  new_true (frame.Reply m (reply.Void token)) now = tt
  new_true (frame.Reply m (reply.Refused token w version)) now = tt
  new_true (frame.Reply m (reply.Gone key)) now = tt

  new_listing : (key : Key) (f : Frame) → PostedNow s (Some f) → IsListedRight R (book_now s).cursor key (Some f)
  new_listing key (frame.Request q) now = tt
  new_listing key (frame.Reply m (reply.Feed round clock es)) now = tt
  new_listing key (frame.Reply m (reply.Listing other es)) now = λ z. (told_listing m now.0 other es now.1 now.2).1
  new_listing key (frame.Reply m (reply.Bytes other start bytes)) now = tt
  new_listing key (frame.Reply m (reply.Missing other)) now = tt
  new_listing key (frame.Reply m (reply.Done token rid version)) now = tt
  new_listing key (frame.Reply m (reply.Void token)) now = tt
  new_listing key (frame.Reply m (reply.Refused token w version)) now = tt
  new_listing key (frame.Reply m (reply.Gone other)) now = tt

  more_true : (f : Option Frame) → TrueNow (Ms ++ f ∷ []) f → ((key : Key) → IsListedRight R (book_now s).cursor key f)
      → AreMessagesTrue R (Ms ++ f ∷ []) s.filter.volume.epoch s.volatile.rounds s.volatile.round_open (book_now s).cursor s.filter.waiting
  more_true f new listed = let k = (h fair).1 in record {
    same_epoch = k.same_epoch;
    messages = all_append (TrueNow (Ms ++ f ∷ [])) Ms (f ∷ []) (all_weaker (TrueNow Ms) (TrueNow (Ms ++ f ∷ []))
        (true_later R R Ms (Ms ++ f ∷ []) s.filter.volume.epoch s.volatile.rounds s.volatile.round_open (book_now s).cursor s.filter.waiting.key_count s.filter.volume.epoch s.volatile.rounds s.volatile.round_open (book_now s).cursor s.filter.waiting.key_count
        (λ round after k. k) (λ key k. k) (λ number g k. message_longer Ms (f ∷ []) number g k) (λ after clock es k. k)) Ms k.messages) (new, tt);
    lists = all_weaker (λ a. is_list a.ask.kind ≡ true → All (IsListedRight R (book_now s).cursor a.ask.key) Ms) (λ a. is_list a.ask.kind ≡ true → All (IsListedRight R (book_now s).cursor a.ask.key) (Ms ++ f ∷ []))
        (λ a k z. all_append (IsListedRight R (book_now s).cursor a.ask.key) Ms (f ∷ []) (k z) (listed a.ask.key, tt)) s.filter.waiting.asks k.lists;
  }

-- a round is drawn
drawn : (s : State) → TruthIn s → TruthIn (with_volatile with_round s)
drawn s h fair = let k = (h fair).1 in (
  (h fair).0,
  record {
    same_epoch = k.same_epoch;
    messages = all_weaker (IsTrue s.link.remote s.link.messages s.filter.volume.epoch s.volatile.rounds s.volatile.round_open (book_now s).cursor s.filter.waiting.key_count) (IsTrue s.link.remote s.link.messages s.filter.volume.epoch (s.volatile.rounds + 1) true (book_now s).cursor s.filter.waiting.key_count)
        (true_later s.link.remote s.link.remote s.link.messages s.link.messages s.filter.volume.epoch s.volatile.rounds s.volatile.round_open (book_now s).cursor s.filter.waiting.key_count s.filter.volume.epoch (s.volatile.rounds + 1) true (book_now s).cursor s.filter.waiting.key_count
        (λ round after k. (given_more s.filter.volume.epoch s.volatile.rounds 1 round.0 k.0, k.1, λ e z. absurd (past round k.0 e))) (λ key k. k) (λ number g k. k) (λ after clock es k. k)) s.link.messages k.messages;
    lists = k.lists;
  },
) where
  past : (round : Round) → WasGiven s.filter.volume.epoch s.volatile.rounds round.0 → round.0 ≡ record { epoch = s.filter.volume.epoch; number = s.volatile.rounds + 1 } → ⊥
  past round (inl k) e = let z : round.0.epoch ≡ s.filter.volume.epoch = ap (λ (x : Key). x.epoch) e in omega (arith, k, z)
  past round (inr k) e = let z : round.0.number ≡ s.volatile.rounds + 1 = ap (λ (x : Key). x.number) e in let y : round.0.number ≤ s.volatile.rounds = k.1 in omega (arith, z, y)

module _ (P : State → Type 0) (closed : Guarded P) (early : (s : State) → P s → IsFair s.link → (book_now s).cursor ≤ s.link.remote.clock) where
  sound_of : (s : State) → P s → IsFair s.link → IsSound s.link s.volatile.tokens s.filter
  sound_of s h fair = (closed.on_filter s h).sound s.filter h fair

  pub posted_true : (f : Frame) (s : State) → (IsFair s.link → PostedNow s (Some f)) → P s → TruthIn s → TruthIn (with_message f s)
  posted_true f s now h k fair = (
    (k fair).0,
    more_true s fair (early s h fair) (sound_of s h fair).counted k (Some f) (new_true s fair (early s h fair) (sound_of s h fair).counted k f (now fair)) (λ key. new_listing s fair (early s h fair) (sound_of s h fair).counted k key f (now fair)),
  )

  pub guarded_true : Guarded (λ s. P s × TruthIn s)
  guarded_true = record {
    replay = λ s h. closed.replay s h.0;
    on_filter = λ s h. filter_true s.link s.volatile.rounds s.volatile.round_open s.volatile.tokens (λ x. P (with_filter x s)) (on_filter_weaker P (λ t. P t × TruthIn t) (λ t k. k.0) s _ (closed.on_filter s h.0));
    keeps_counted = λ s h. (closed.keeps_counted s h.0, h.1);
    asked = λ q s well h. (closed.asked q s well h.0, asked_true s q (sound_of s h.0) (early s h.0) h.1);
    told = λ held s h. (closed.told held s h.0, λ fair. no_way fair.0);
    posts = λ f s other well now h. (closed.posts f s other well now h.0, posted_true f s now h.0 h.1);
    loses = λ f s h. (closed.loses f s h.0, λ fair. ((h.1 fair).0, more_true s fair (early s h.0 fair) (sound_of s h.0 fair).counted h.1 None tt (λ key. tt)));
    books = λ f s keeps placed known h. (closed.books f s keeps placed (λ fair. record_weaker P (λ t. P t × TruthIn t) (λ t k. k.0) f s (known fair)) h.0, books_true (λ t. P t × TruthIn t) f s known h.1);
    moved = λ e s is live known h. (
      closed.moved e s is live (λ fair. moved_weaker P (λ t. P t × TruthIn t) (λ t k. k.0) e s (known fair)) h.0,
      closing s.link s.volatile.rounds (taken_from_row e s.volatile).rounds s.volatile.round_open (taken_from_row e s.volatile).round_open s.filter (row_same e (round_closed s.volatile)).0 (λ z. no_way (sym (row_same e (round_closed s.volatile)).1 ∙ z)) h.1,
    );
    leaves = λ token s h. (closed.leaves token s h.0, h.1);
    keeps_fault_line = λ m s h. (closed.keeps_fault_line m s h.0, h.1);
    keeps_showing = λ s h. (closed.keeps_showing s h.0, h.1);
    keeps_skipped = λ c s h. (closed.keeps_skipped c s h.0, line_true s.running.shows_skips c (record s { running = record s.running { skips = s.running.skips + 1 } }) h.1);
    keeps_volatile_all_released = λ s h. (closed.keeps_volatile_all_released s h.0, h.1);
    keeps_volatile_held_and_closed = λ e s h. (
      closed.keeps_volatile_held_and_closed e s h.0,
      closing s.link s.volatile.rounds (held_and_closed e s.volatile).rounds s.volatile.round_open (held_and_closed e s.volatile).round_open s.filter (back_same e (round_closed s.volatile)).0 (λ z. no_way (sym (back_same e (round_closed s.volatile)).1 ∙ z)) h.1,
    );
    keeps_volatile_not_in_row = λ e s h. (
      closed.keeps_volatile_not_in_row e s h.0,
      closing s.link s.volatile.rounds (not_in_row e s.volatile).rounds s.volatile.round_open (not_in_row e s.volatile).round_open s.filter (row_same e s.volatile).0 (λ z. sym (row_same e s.volatile).1 ∙ z) h.1,
    );
    keeps_volatile_round_closed = λ s h. (closed.keeps_volatile_round_closed s h.0, closing s.link s.volatile.rounds s.volatile.rounds s.volatile.round_open false s.filter refl (λ z. no_way z) h.1);
    keeps_volatile_taken_from_row = λ e s h. (
      closed.keeps_volatile_taken_from_row e s h.0,
      closing s.link s.volatile.rounds (taken_from_row e s.volatile).rounds s.volatile.round_open (taken_from_row e s.volatile).round_open s.filter (row_same e (round_closed s.volatile)).0 (λ z. no_way (sym (row_same e (round_closed s.volatile)).1 ∙ z)) h.1,
    );
    keeps_volatile_with_not_empty = λ n s h. (closed.keeps_volatile_with_not_empty n s h.0, h.1);
    keeps_volatile_with_round = λ s h. (closed.keeps_volatile_with_round s h.0, drawn s h.1);
    keeps_volatile_with_taken_name = λ item s h. (closed.keeps_volatile_with_taken_name item s h.0, h.1);
    keeps_volatile_with_token = λ s h. (closed.keeps_volatile_with_token s h.0, h.1);
    keeps_with_clock_seen = λ clock s h. (closed.keeps_with_clock_seen clock s h.0, h.1);
    keeps_with_done = λ s h. (closed.keeps_with_done s h.0, h.1);
    keeps_with_outbox = λ a rest s e h. (closed.keeps_with_outbox a rest s e h.0, h.1);
    keeps_with_stray = λ r s h. (closed.keeps_with_stray r s h.0, h.1);
    keeps_with_token_used = λ s h. (closed.keeps_with_token_used s h.0, h.1);
    keeps_without_done = λ s h. (closed.keeps_without_done s h.0, h.1);
  }

opened_true : (p : Point) (skipped : ℕ) (s : State) → (IsFair s.link → IsSound s.link s.volatile.tokens s.filter) → TruthIn s → TruthIn (with_opened p (epoch_after skipped s) s)
opened_true p skipped s sound h fair = (
  (h fair).0,
  record {
    same_epoch = refl;
    messages = all_weaker (IsTrue s.link.remote s.link.messages s.filter.volume.epoch s.volatile.rounds s.volatile.round_open (book_now s).cursor s.filter.waiting.key_count) (IsTrue s.link.remote s.link.messages (epoch_after skipped s) 0 false p.book.cursor 0)
        (true_later s.link.remote s.link.remote s.link.messages s.link.messages s.filter.volume.epoch s.volatile.rounds s.volatile.round_open (book_now s).cursor s.filter.waiting.key_count (epoch_after skipped s) 0 false p.book.cursor 0
        (λ round after k. (older s.volatile.rounds round.0 k.0, k.1, λ e z. no_way z)) (λ key k. older s.filter.waiting.key_count key k) (λ number g k. k) (λ after clock es k. k)) s.link.messages (h fair).1.messages;
    lists = tt;
  },
) where
  older : (n : ℕ) (key : Key) → WasGiven s.filter.volume.epoch n key → WasGiven (epoch_after skipped s) 0 key
  older n key k = later s.filter.volume.epoch (epoch_after skipped s) n 0 key (inl (next_epoch s.filter.volume.epoch skipped)) k

pub whole_true : (P : State → Type 0) → Whole P → ((s : State) → P s → IsFair s.link → (book_now s).cursor ≤ s.link.remote.clock) → ((s : State) → P s → IsFair s.link → IsSound s.link s.volatile.tokens s.filter) → Whole (λ s. P s × TruthIn s)
whole_true P whole early sound = record {
  closed = guarded_true P whole.closed early;
  entering = record { uploads = record { enters = λ e s well h. (whole.entering.uploads.enters e s well h.0, h.1) }; feeds = λ f s well now h. (whole.entering.feeds f s well now h.0, posted_true P whole.closed early f s now h.0 h.1) };
  deleting = record {
    deletes = λ f item s keeps seen cursor idle leaf h. keeps_both (λ x. P (with_filter x s)) (In s.link s.volatile.rounds s.volatile.round_open) (change_with f (change.Remove item) s.filter) (whole.deleting.deletes f item s keeps seen cursor idle leaf h.0)
        (change_true s.link s.volatile.rounds s.volatile.round_open f (change.Remove item) s.filter (λ fair. cursor) h.1);
  };
  commanding = record {
    waits = λ s n x fit unmet h. keeps_both (λ y. P (with_filter y s)) (In s.link s.volatile.rounds s.volatile.round_open) (reading (wait_begun n) (begin_now n) x) (whole.commanding.waits s n x fit unmet h.0) (begin_true s.link s.volatile.rounds s.volatile.round_open n x h.1);
    disconnects = λ s h. (whole.commanding.disconnects s h.0, h.1);
    inlines = λ inline s h. (whole.commanding.inlines inline s h.0, h.1);
  };
  ruling = record { rules = λ p s v h. (whole.ruling.rules p s v h.0, h.1) };
  begins = λ s h. (whole.begins s h.0, h.1);
  breaks = λ s h. (whole.breaks s h.0, h.1);
  crashes = λ s h. (whole.crashes s h.0, λ fair. ((h.1 fair).0, record { same_epoch = (h.1 fair).1.same_epoch; messages = (h.1 fair).1.messages; lists = tt }));
  fails = λ s h. (whole.fails s h.0, h.1);
  opens = λ p skipped s is h. (whole.opens p skipped s is h.0, opened_true p skipped s (sound s h.0) h.1);
}
