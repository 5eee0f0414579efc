-- What the cursor has passed is here or was removed here, and feeds are seated: records, the remote and messages.
use Rattle.cf_model.specs.Growth.{IsCounted}
use Rattle.cf_model_arrivals.proofs.TurnKept.{find_some}
use Rattle.cf_model_arrivals.specs.Buried.{AreBuriedRight}
use Rattle.cf_base.specs.declared.ids.Version.{Version}
use Rattle.std.proofs.Common.{◌≡◌, ◌≤◌, ◌+◌, ℕ, Bool, true, false, List, [], ◌∷◌, refl, sym, ◌∙◌, ap, subst, inl, inr, arith, eq-eqb, take}
use Rattle.std.specs.Prelude.{if◌then◌else◌, Option, Some, None, ◌&&◌, ◌==◌}
use Rattle.std.proofs.lemmas.Bool.{eqb-true}
use Rattle.cf_base.specs.declared.ids.Key.{Key}
use Rattle.cf_base.specs.declared.ids.Rid.{Rid}
use Rattle.cf_base.specs.declared.ids.Round.{Round}
use Rattle.cf_base.specs.declared.ids.Usn.{Usn}
use Rattle.cf_base.specs.declared.messages.Entry.{Entry}
use Rattle.cf_base.specs.declared.messages.Reply.TheVariants as reply
use Rattle.cf_base.specs.declared.messages.Request.{Request}
use Rattle.cf_base.specs.declared.messages.Request.TheVariants as request
use Rattle.cf_base.specs.declared.notices.Frame.{Frame}
use Rattle.cf_base.specs.declared.notices.Frame.TheVariants as frame
use Rattle.cf_model.specs.Books.{Action, Book, QueueEntry, RemoveItem, Tombstone, tombstone_of, with_cursor, with_entry, with_seen, with_tombstone, without_entry, without_tombstone}
use Rattle.cf_model.specs.Logs.{items_of}
use Rattle.cf_model.specs.Numbers.{above, same_key, same_usn}
use Rattle.cf_model.specs.PushReplies.{entry_seen, tombstone_left, was_directory}
use Rattle.cf_model.specs.Restarts.{epoch_after}
use Rattle.cf_model.specs.State.{Link, State, book_now, items_now}
use Rattle.cf_model.specs.Store.{Held, Stored, feed_of, is_live_dir, listing_of, remote_step, stored_at, RecordedDone, recorded_at}
use Rattle.cf_model.specs.Words.{says}
use Rattle.cf_model_laws.specs.GivenOnce.{WasGiven}
use Rattle.cf_model_laws.specs.Invariant.{All, Among, DidBy, IsAskedFor, message_in}
use Rattle.cf_model_laws.specs.Premises.{IsFair}
use Rattle.cf_model_laws.specs.Taken.{AnswersNow}
use Rattle.cf_model_laws.proofs.ContentLaws.{next_epoch}
use Rattle.cf_model_laws.proofs.Gathered.{all_append, all_both, all_found, all_in, all_weaker}
use Rattle.cf_model_laws.proofs.Guarded.{IsDoneAt, IsFedTo, IsRecordBy, IsTakenBy, PostedNow, Unburies, KeepsCursor}
use Rattle.cf_model_laws.proofs.OnceLaws.{later}
use Rattle.cf_model_laws.proofs.PassesGuarded.{one_message}
use Rattle.cf_model_laws.proofs.RightItems.{no_way}
use Rattle.cf_model_laws.proofs.SoundSettles.{left_true, right_true}
use Rattle.cf_model_laws.proofs.SoundStates.{small_before}
use Rattle.cf_model_convergence.specs.Lasting.{AtPoint, IsCursorEarly, LastsIn}
use Rattle.cf_model_convergence.proofs.FeedsTold.{all_among}
use Rattle.cf_model_convergence.proofs.LastingGuarded.{begun_lasts, opened_lasts, point_lasts}
use Rattle.cf_model_convergence.proofs.Lines.{one_some, same_rid}
use Rattle.cf_model_agreement.specs.Messages.{IsTrue}
use Rattle.cf_model_agreement.proofs.CursorsRaised.{IsKnownIn, told}
use Rattle.cf_model_agreement.proofs.MessagesTrue.{given_more}
use Rattle.cf_model_agreement.proofs.RunsTrue.{early_of}
use Rattle.cf_model_populated.specs.Accounted.{AreAccountedFor, BuriesUnsaid, IsUnsaid, buries_directory}
use Rattle.cf_model_populated.proofs.AccountedSteps.{asked_accounted, put_none, raised_accounted, reset_accounted, unburied_accounted}
use Rattle.cf_model_arrivals.specs.Seated.{AreSeated, HasArrived, IsSeatedIn}
use Rattle.cf_model_arrivals.proofs.AccountedChanges.{account_book, account_more}
use Rattle.cf_model_arrivals.proofs.ArrivalsGuarded.{changed, removed, seat_frame, seats_same, seats_shut, sound_now, tidy_now}
use Rattle.cf_model_arrivals.proofs.FeedsArrive.{Standing, feed_arrives}
use Rattle.cf_model_arrivals.proofs.SeatsGiven.{seats_given}
use Rattle.cf_model_arrivals.proofs.VolumesGuarded.{InVolume, OverVolumes}

usn_same : (a b : Usn) → same_usn a b ≡ true → a ≡ b
usn_same a b e = λ k. record { epoch = eqb-true a.epoch b.epoch (left_true (a.epoch == b.epoch) (a.place == b.place) e) k; place = eqb-true a.place b.place (right_true (a.epoch == b.epoch) (a.place == b.place) e) k }

usn_is : (a b : Usn) → a ≡ b → same_usn a b ≡ true
usn_is a b e = subst (λ (c : Usn). same_usn a c ≡ true) e (both (a.epoch == a.epoch) (a.place == a.place) (eq-eqb a.epoch a.epoch refl) (eq-eqb a.place a.place refl)) where
  both : (x y : Bool) → x ≡ true → y ≡ true → (x && y) ≡ true
  both true y p q = q
  both false y p q = p

same_feed : (a b : Round) (c d : ℕ) (es ds : List Entry) → reply.Feed a c es ≡ reply.Feed b d ds → (a ≡ b) × (es ≡ ds)
same_feed a b c d es ds e = (cc, cc)

-- a reply to a List has no feed
no_feed : (r : Held) (key : Key) (rid : Rid) (round : Round) (clock : ℕ) (es : List Entry) → reply.Feed round clock es ≡ (remote_step r (request.List key rid)).0 → ⊥
no_feed r key rid round clock es e = by (is_live_dir r rid) e where
  by : (b : Bool) → reply.Feed round clock es ≡ (if b then reply.Listing key (listing_of r rid) else reply.Missing key) → ⊥
  by true z = cc
  by false z = cc

module _ (P : State → Type 0) (standing : Standing P) where
  abbrev Whole : State → Type 0
  Whole t = P t × InVolume HasArrived t

  -- a feed that was done, with less known
  abbrev fed_known : (clock : ℕ) (s : State) → IsFedTo Whole clock s → IsFedTo IsKnownIn clock s
  fed_known clock s k = record {
    first = k.first;
    kept = standing.known k.first k.kept.0;
    message = k.message;
    request = k.request;
    round = k.round;
    entries = k.entries;
    counts = k.counts;
    told = k.told;
    posted = k.posted;
    link = k.link;
    cursor = k.cursor;
    none = k.none;
    closed = k.closed;
    turned = k.turned;
    fed = k.fed;
    ends = k.ends;
    same = k.same;
    whole = k.whole;
  }

  -- a tombstone goes whose removal was done

  did_dead : (a : Action) (r : Held) (asked rid : Rid) → a ≡ RemoveItem → DidBy a r.items asked rid → (rid.0 ≡ asked.0) × (x : Stored) × (stored_at r.items rid ≡ Some x) × (x.live ≡ false)
  did_dead a r asked rid q did = let k = subst (λ (c : Action). DidBy c r.items asked rid) q did in (k.0, k.1.0, k.1.1, k.1.2)

  unburies : (s : State) (number : Usn) → IsFair s.link → (e : QueueEntry) → IsTakenBy Whole e s → e.action ≡ RemoveItem → e.number ≡ number → (rid : Rid) (version : Version) → IsDoneAt s e rid version → was_directory e s ≡ false → BuriesUnsaid s.link.remote (book_now s) number
  unburies s number fair e taken action same rid version done file = all_weaker (λ t. Among t (book_now s).tombstones) (λ t. same_usn t.number number ≡ true → ((t.version.0 == 0) ≡ false) × IsUnsaid s.link.remote (book_now s) t.rid) one (book_now s).tombstones (all_in (book_now s).tombstones) where
    T : State
    T = taken.0

    fair_t : IsFair T.link
    fair_t = subst IsFair taken.3 fair

    buried : AreBuriedRight T.link.remote (items_now T) (book_now T)
    buried = standing.buried T taken.1.0 fair_t

    of_t : (t : Tombstone) → Among t (book_now s).tombstones → Among t (book_now T).tombstones
    of_t t among = subst (λ (ts : List Tombstone). Among t ts) (ap (λ (b : Book). b.tombstones) taken.5) among

    recorded : recorded_at T.link.remote.tokens e.token ≡ Some (RecordedDone rid version)
    recorded = subst (λ (l : Link). recorded_at l.remote.tokens e.token ≡ Some (RecordedDone rid version)) taken.3 done

    dead : (rid.0 ≡ e.rid.0) × (x : Stored) × (stored_at T.link.remote.items rid ≡ Some x) × (x.live ≡ false)
    dead = did_dead e.action T.link.remote e.rid rid action ((all_found (IsAskedFor T.link.remote T.link.messages) (λ d. same_key d.token.0 e.token.0) (book_now T).entries e taken.2 (sound_now P standing T taken.1.0 fair_t).now.asked).0.did rid version recorded)

    one : (t : Tombstone) → Among t (book_now s).tombstones → same_usn t.number number ≡ true → ((t.version.0 == 0) ≡ false) × IsUnsaid s.link.remote (book_now s) t.rid
    one t among q = (unzero, subst (λ (l : Link). IsUnsaid l.remote (book_now s) t.rid) (sym taken.3) unsaid) where
      number_is : t.number ≡ e.number
      number_is = usn_same t.number number q ∙ sym same

      aim : t.rid.0 ≡ e.rid.0
      aim = all_among (λ u. u.number ≡ e.number → u.rid.0 ≡ e.rid.0) (book_now T).tombstones t (of_t t among) ((all_found (λ d. d.action ≡ RemoveItem → All (λ u. u.number ≡ d.number → u.rid.0 ≡ d.rid.0) (book_now T).tombstones) (λ d. same_key d.token.0 e.token.0) (book_now T).entries e taken.2 buried.removals).0 action) number_is

      unsaid : IsUnsaid T.link.remote (book_now s) t.rid
      unsaid x found live = no_way (sym dead.3 ∙ ap (λ (y : Stored). y.live) (one_some (stored_at T.link.remote.items rid) dead.1 x dead.2 (subst (λ (y : Rid). stored_at T.link.remote.items y ≡ Some x) (same_rid t.rid rid (aim ∙ sym dead.0)) found)) ∙ live)

      found : (y : Tombstone) × (tombstone_of (book_now s) e.number ≡ Some y)
      found = find_some (λ u. same_usn u.number e.number) (book_now s).tombstones t among (usn_is t.number e.number number_is)

      first : Among found.0 (book_now s).tombstones × (same_usn found.0.number e.number ≡ true)
      first = all_found (λ u. Among u (book_now s).tombstones) (λ u. same_usn u.number e.number) (book_now s).tombstones found.0 found.1 (all_in (book_now s).tombstones)

      alike : t ≡ found.0
      alike = all_among (λ u. t.number ≡ u.number → t ≡ u) (book_now T).tombstones found.0 (of_t found.0 first.0) (all_among (λ u. All (λ v. u.number ≡ v.number → u ≡ v) (book_now T).tombstones) (book_now T).tombstones t (of_t t among) buried.alone) (number_is ∙ sym (usn_same found.0.number e.number first.1))

      unzero : (t.version.0 == 0) ≡ false
      unzero = ap (λ (u : Tombstone). u.version.0 == 0) alike ∙ subst (λ (o : Option Tombstone). says (λ u. u.version.0 == 0) o ≡ false) found.1 file

  -- records

  recorded_account : (f : Book → Book) (s : State) → (IsFair s.link → IsRecordBy Whole f s) → P s → InVolume HasArrived s → (fair : IsFair s.link) → AreAccountedFor s.link.remote (items_now s) (f (book_now s))
  recorded_account f s known h k fair = by (known fair) where
    r : Held
    r = s.link.remote

    b : Book
    b = book_now s

    now : AreAccountedFor r (items_now s) b
    now = (k fair).0.0

    going : KeepsCursor f → Unburies Whole f s → AreAccountedFor r (items_now s) (f b)
    going cursor (number, is, shut, inl zero) =
        account_book r (items_now s) (with_cursor 0 (without_tombstone number b)) (f b) (cursor b ∙ zero) (ap (λ (d : Book). d.tombstones) (is b)) (reset_accounted r (without_tombstone number b) (items_now s) (tidy_now P standing s h fair))
    going cursor (number, is, shut, inr (e, taken, action, same, rid, version, done, file)) =
        account_book r (items_now s) (without_tombstone number b) (f b) (cursor b) (ap (λ (d : Book). d.tombstones) (is b))
        (unburied_accounted r b (items_now s) number (sound_now P standing s h fair).counted (unburies s number fair e taken action same rid version done file) now)

    by : IsRecordBy Whole f s → AreAccountedFor r (items_now s) (f b)
    by (inl (seen, cursor, inl same)) = account_book r (items_now s) b (f b) (cursor b) (same b) now
    by (inl (seen, cursor, inr (inl z))) = account_book r (items_now s) (with_tombstone (tombstone_left z.0 z.4 z.5) b) (f b) (cursor b) (ap (λ (d : Book). d.tombstones) (z.7 b)) (account_more r (items_now s) b (tombstone_left z.0 z.4 z.5) now)
    by (inl (seen, cursor, inr (inr z))) = going cursor z
    by (inr (inl z)) = account_book r (items_now s) b (f b) (ap (λ (d : Book). d.cursor) (z.1 b)) (ap (λ (d : Book). d.tombstones) (z.1 b)) now
    by (inr (inr (inl z))) = subst (AreAccountedFor r (items_now s)) (sym (z.0 b)) (reset_accounted r b (items_now s) (tidy_now P standing s h fair))
    by (inr (inr (inr (clock, is, fed)))) = λ none.
        subst (λ (d : Book). AreAccountedFor r (items_now s) d) (sym (is b))
        (raised_accounted r b (items_now s) clock fed.entries (told clock s (fed_known clock s fed) fair) (feed_arrives P standing clock s fed fair (ap (λ (d : Book). buries_directory d) (sym (is b)) ∙ none)) now) none

  recorded_seats : (f : Book → Book) (s : State) → (IsFair s.link → IsRecordBy Whole f s) → InVolume HasArrived s → (fair : IsFair s.link) → All (IsSeatedIn (items_now s) (f (book_now s)) s.filter.volume.epoch s.volatile.rounds s.volatile.round_open) s.link.messages
  recorded_seats f s known k fair = by (known fair) where
    b : Book
    b = book_now s

    with_same : (f b).tombstones ≡ b.tombstones → All (IsSeatedIn (items_now s) (f b) s.filter.volume.epoch s.volatile.rounds s.volatile.round_open) s.link.messages
    with_same same = seats_same (items_now s) b (f b) s.filter.volume.epoch s.volatile.rounds s.volatile.round_open s.link.messages same (k fair).1

    more : (t : Tombstone) → f b ≡ with_tombstone t b → All (IsSeatedIn (items_now s) (f b) s.filter.volume.epoch s.volatile.rounds s.volatile.round_open) s.link.messages
    more t is =
        all_weaker (IsSeatedIn (items_now s) b s.filter.volume.epoch s.volatile.rounds s.volatile.round_open) (IsSeatedIn (items_now s) (f b) s.filter.volume.epoch s.volatile.rounds s.volatile.round_open)
        (seat_frame (items_now s) (items_now s) b (f b) s.filter.volume.epoch s.filter.volume.epoch s.volatile.rounds s.volatile.rounds s.volatile.round_open s.volatile.round_open (λ q g. g)
        (λ q es g seats now wide none. seats now wide (put_none (λ x y. above y.number x.number) t (λ u. u.version.0 == 0) b.tombstones (ap (λ (d : Book). buries_directory d) (sym is) ∙ none)))) s.link.messages (k fair).1

    by : IsRecordBy Whole f s → All (IsSeatedIn (items_now s) (f b) s.filter.volume.epoch s.volatile.rounds s.volatile.round_open) s.link.messages
    by (inl (seen, cursor, inl same)) = with_same (same b)
    by (inl (seen, cursor, inr (inl z))) = more (tombstone_left z.0 z.4 z.5) (z.7 b)
    by (inl (seen, cursor, inr (inr z))) = seats_shut (items_now s) (items_now s) b (f b) s.filter.volume.epoch s.volatile.rounds s.volatile.round_open s.volatile.round_open s.link.messages z.2 (k fair).1
    by (inr (inl z)) = with_same (ap (λ (d : Book). d.tombstones) (z.1 b))
    by (inr (inr (inl z))) = with_same (ap (λ (d : Book). d.tombstones) (z.0 b))
    by (inr (inr (inr (clock, is, fed)))) = with_same (ap (λ (d : Book). d.tombstones) (is b))

  -- messages

  seat_new : (s : State) → P s → InVolume HasArrived s → (fair : IsFair s.link) (m : ℕ) (q : Request) (round : Round) (clock : ℕ) (es : List Entry) → message_in s.link.messages m ≡ Some (frame.Request q) → AnswersNow s.link.remote q (reply.Feed round clock es)
      → IsSeatedIn (items_now s) (book_now s) s.filter.volume.epoch s.volatile.rounds s.volatile.round_open (Some (frame.Reply m (reply.Feed round clock es)))
  seat_new s h k fair m (request.Feed asked after) round clock es at e = (subst (λ (x : Round). WasGiven s.filter.volume.epoch s.volatile.rounds x.0) (sym same.0) start.0, seated) where
    same : (round ≡ asked) × (es ≡ feed_of s.link.remote after)
    same = same_feed round asked clock s.link.remote.clock es (feed_of s.link.remote after) e

    start : WasGiven s.filter.volume.epoch s.volatile.rounds asked.0 × (after ≤ s.link.remote.clock) × (asked.0 ≡ record { epoch = s.filter.volume.epoch; number = s.volatile.rounds } → s.volatile.round_open ≡ true → after ≡ (book_now s).cursor)
    start = one_message (IsTrue s.link.remote s.link.messages s.filter.volume.epoch s.volatile.rounds s.volatile.round_open (book_now s).cursor s.filter.waiting.key_count) s.link.messages m (frame.Request (request.Feed asked after)) ((standing.known s h).0.0.1 fair).1.messages at

    seated : round.0 ≡ record { epoch = s.filter.volume.epoch; number = s.volatile.rounds } → s.volatile.round_open ≡ true → buries_directory (book_now s) ≡ false → AreSeated (items_now s) es
    seated now wide none =
        subst (AreSeated (items_now s)) (sym (same.1 ∙ ap (λ (n : ℕ). feed_of s.link.remote n) (start.2 (sym (ap (λ (x : Round). x.0) same.0) ∙ now) wide)))
        (seats_given s.link.remote (tidy_now P standing s h fair) _ (items_now s) (book_now s) (sound_now P standing s h fair).now.right (standing.root s h fair) (k fair).0.0 none (standing.buried s h fair))
  seat_new s h k fair m (request.List key rid) round clock es at e = absurd (no_feed s.link.remote key rid round clock es e)
  seat_new s h k fair m (request.Fetch key rid version start len) round clock es at e = absurd e
  seat_new s h k fair m (request.Put t rid expect parent name bytes) round clock es at e = absurd e
  seat_new s h k fair m (request.MakeDir t parent name) round clock es at e = absurd e
  seat_new s h k fair m (request.Move t rid parent name) round clock es at e = absurd e
  seat_new s h k fair m (request.Remove t rid expect) round clock es at e = absurd e
  seat_new s h k fair m (request.Settle t) round clock es at e = absurd e
  seat_new s h k fair m (request.Keep t count) round clock es at e = absurd e

  posted_seat : (f : Option Frame) (s : State) → P s → InVolume HasArrived s → (fair : IsFair s.link) → PostedNow s f → IsSeatedIn (items_now s) (book_now s) s.filter.volume.epoch s.volatile.rounds s.volatile.round_open f
  posted_seat None s h k fair now = tt
  posted_seat (Some (frame.Request q)) s h k fair now = tt
  posted_seat (Some (frame.Reply m (reply.Feed round clock es))) s h k fair now = seat_new s h k fair m now.0 round clock es now.1 now.2
  posted_seat (Some (frame.Reply m (reply.Listing key es))) s h k fair now = tt
  posted_seat (Some (frame.Reply m (reply.Bytes key start bytes))) s h k fair now = tt
  posted_seat (Some (frame.Reply m (reply.Missing key))) s h k fair now = tt
  posted_seat (Some (frame.Reply m (reply.Done token rid version))) s h k fair now = tt
  posted_seat (Some (frame.Reply m (reply.Void token))) s h k fair now = tt
  posted_seat (Some (frame.Reply m (reply.Refused token w version))) s h k fair now = tt
  posted_seat (Some (frame.Reply m (reply.Gone key))) s h k fair now = tt

  -- the remote is asked
  asked_account : (s : State) (q : Request) → P s → InVolume HasArrived s → (fair : IsFair s.link) → LastsIn AreAccountedFor (remote_step s.link.remote q).1 s.filter.volume
  asked_account s q h k fair = (
    asked_accounted s.link.remote q (items_now s) (book_now s) counted (early_of s (standing.known s h).0.0.0 fair) (k fair).0.0,
    all_both (AtPoint IsCursorEarly s.link.remote s.filter.volume.log) (AtPoint AreAccountedFor s.link.remote s.filter.volume.log) (AtPoint AreAccountedFor (remote_step s.link.remote q).1 s.filter.volume.log)
        (λ p early z. (z.0, asked_accounted s.link.remote q (items_of (take p.count s.filter.volume.log)) p.book counted early.1 z.1)) s.filter.volume.points ((standing.known s h).0.0.0.1 fair).1 (k fair).0.1,
  ) where
    counted : IsCounted s.link.remote
    counted = (sound_now P standing s h fair).counted

  -- a round is drawn, and a volume is opened

  past_round : (e n : ℕ) (k : Key) → WasGiven e n k → k ≡ record { epoch = e; number = n + 1 } → ⊥
  past_round e n k (inl g) q = let z : k.epoch ≡ e = ap (λ (x : Key). x.epoch) q in omega (arith, g, z)
  past_round e n k (inr g) q = let z : k.number ≡ n + 1 = ap (λ (x : Key). x.number) q in let y : k.number ≤ n = g.1 in omega (arith, z, y)

  pub arrivals : OverVolumes HasArrived P
  arrivals = record {
    changes = λ s f c x v is keeps seen fit known sound p h. changed P standing s f c x seen fit known sound h v is;
    begins = λ s x sound h fair. (begun_lasts AreAccountedFor s.link s.volatile.tokens x sound (λ z. (h z).0) fair, (h fair).1);
    sures = λ s x sound h fair. (((h fair).0.0, (point_lasts AreAccountedFor s.link.remote true x.volume (sound fair).of_log.0 (h fair).0.0, tt)), (h fair).1);
    rooms = λ s x sound h fair. (((h fair).0.0, (point_lasts AreAccountedFor s.link.remote false x.volume (sound fair).of_log.0 (h fair).0.0, (h fair).0.1)), (h fair).1);
    removes = λ s f item v is keeps seen cursor leaf p h. removed P standing s f item cursor leaf p h v is;
    alike = λ s v b same h fair. ((account_book s.link.remote v.items v.book b same.cursor same.tombstones (h fair).0.0, (h fair).0.1), seats_same v.items v.book b v.epoch s.volatile.rounds s.volatile.round_open s.link.messages same.tombstones (h fair).1);
    records = λ f s keeps known p h fair. ((recorded_account f s known p h fair, (h fair).0.1), recorded_seats f s known h fair);
    sees = λ e s is p h fair. ((account_book s.link.remote (items_now s) (book_now s) (with_seen (entry_seen e) (without_entry e.token (book_now s))) refl refl (h fair).0.0, (h fair).0.1), seats_shut (items_now s) (items_now s) (book_now s) (with_seen (entry_seen e) (without_entry e.token (book_now s))) s.filter.volume.epoch s.volatile.rounds s.volatile.round_open false s.link.messages refl (h fair).1);
    leaves = λ token s p h fair. ((account_book s.link.remote (items_now s) (book_now s) (without_entry token (book_now s)) refl refl (h fair).0.0, (h fair).0.1), seats_same (items_now s) (book_now s) (without_entry token (book_now s)) s.filter.volume.epoch s.volatile.rounds s.volatile.round_open s.link.messages refl (h fair).1);
    enters = λ e s well p h fair. ((account_book s.link.remote (items_now s) (book_now s) (with_entry e (book_now s)) refl refl (h fair).0.0, (h fair).0.1), seats_same (items_now s) (book_now s) (with_entry e (book_now s)) s.filter.volume.epoch s.volatile.rounds s.volatile.round_open s.link.messages refl (h fair).1);
    asked = λ s q well p h fair. let before : IsFair s.link = (fair.0, small_before s.link.remote q fair.1) in (asked_account s q p h before, (h before).1);
    told = λ l n o v never fair. absurd (never fair);
    posts = λ f s kept now p h fair. ((h fair).0, all_append (IsSeatedIn (items_now s) (book_now s) s.filter.volume.epoch s.volatile.rounds s.volatile.round_open) s.link.messages (f ∷ []) (h fair).1 (posted_seat f s p h fair (now fair), tt));
    counts = λ l n o v asks h. h;
    inlines = λ l n o v inline h. h;
    shuts = λ l n o v h fair. ((h fair).0, seats_shut v.items v.items v.book v.book v.epoch n o false l.messages refl (h fair).1);
    draws = λ s p h fair. (
      (h fair).0,
      all_weaker (IsSeatedIn (items_now s) (book_now s) s.filter.volume.epoch s.volatile.rounds s.volatile.round_open) (IsSeatedIn (items_now s) (book_now s) s.filter.volume.epoch (s.volatile.rounds + 1) true)
          (seat_frame (items_now s) (items_now s) (book_now s) (book_now s) s.filter.volume.epoch s.filter.volume.epoch s.volatile.rounds (s.volatile.rounds + 1) s.volatile.round_open true (λ q g. given_more s.filter.volume.epoch s.volatile.rounds 1 q g)
          (λ q es g seats now wide none. absurd (past_round s.filter.volume.epoch s.volatile.rounds q g now))) s.link.messages (h fair).1,
    );
    opens = λ p skipped s is kept h fair. (
      opened_lasts AreAccountedFor p skipped s is (λ z. (h z).0) fair,
      all_weaker (IsSeatedIn (items_now s) (book_now s) s.filter.volume.epoch s.volatile.rounds s.volatile.round_open) (IsSeatedIn (items_of (take p.count s.filter.volume.log)) p.book (epoch_after skipped s) 0 false)
          (seat_frame (items_now s) (items_of (take p.count s.filter.volume.log)) (book_now s) p.book s.filter.volume.epoch (epoch_after skipped s) s.volatile.rounds 0 s.volatile.round_open false
          (λ q g. later s.filter.volume.epoch (epoch_after skipped s) s.volatile.rounds 0 q (inl (next_epoch s.filter.volume.epoch skipped)) g) (λ q es g seats now wide none. no_way wide)) s.link.messages (h fair).1,
    );
  }
