-- What an entry tells that a reply tells which counts.
use Rattle.std.proofs.Common.{◌≡◌, ◌⊎◌, ◌<◌, ◌≤◌, ◌+◌, ℕ, Bool, true, false, List, refl, sym, ◌∙◌, ap, subst, inl, inr, arith, length}
use Rattle.std.specs.Prelude.{Option, Some, None, is_some, nat_le, not, ◌&&◌, ◌||◌, ◌==◌}
use Rattle.cf_base.specs.declared.ids.Key.{Key}
use Rattle.cf_base.specs.declared.ids.Rid.{Rid}
use Rattle.cf_base.specs.declared.ids.Round.{Round}
use Rattle.cf_base.specs.declared.ids.Token.{Token}
use Rattle.cf_base.specs.declared.ids.Version.{Version}
use Rattle.cf_base.specs.declared.messages.Entry.{Entry}
use Rattle.cf_base.specs.declared.messages.Reply.{Reply}
use Rattle.cf_base.specs.declared.messages.Reply.TheVariants as reply
use Rattle.cf_base.specs.declared.messages.Request.{Request}
use Rattle.cf_base.specs.declared.messages.Request.TheVariants as request
use Rattle.cf_base.specs.declared.notices.Frame.{Frame}
use Rattle.cf_base.specs.declared.notices.Frame.TheVariants as frame
use Rattle.cf_model.specs.Books.{Action, MakeDir, MoveItem, PutFile, QueueEntry, RemoveItem}
use Rattle.cf_model.specs.Fits.{are_entries, fits}
use Rattle.cf_model.specs.Identities.{entry_identity}
use Rattle.cf_model.specs.Messages.{entry_live, is_latest_round, is_old, is_stale, known_now, settled_rid}
use Rattle.cf_model.specs.Numbers.{same_key}
use Rattle.cf_model.specs.Requests.{Live, is_list, live_of}
use Rattle.cf_model.specs.State.{State, book_now, items_now}
use Rattle.cf_model.specs.Store.{Held, RecordedDone, Stored, bytes_of, entry_told, latest, recorded_at, stored_at}
use Rattle.cf_model.specs.Words.{is_empty}
use Rattle.cf_model_laws.specs.Invariant.{All, Among, DidBy, HasEntry, IsAskedFor, IsSound, message_in, version_in}
use Rattle.cf_model_laws.specs.Premises.{IsFair, IsSmall}
use Rattle.cf_model_laws.specs.Taken.{Heard, IsPosted, Mentions, ToldAt}
use Rattle.cf_model_laws.proofs.EntryLaws.{entry_small}
use Rattle.cf_model_laws.proofs.Gathered.{all_any, all_found}
use Rattle.cf_model_laws.proofs.OperationsGuarded.{keys_same}
use Rattle.cf_model_laws.proofs.PassesGuarded.{one_message}
use Rattle.cf_model_laws.proofs.RemoteSteps.{same_token}
use Rattle.cf_model_laws.proofs.RightItems.{no_way, no_way_back}
use Rattle.cf_model_laws.proofs.SoundSettles.{left_true, not_false, right_true}
use Rattle.cf_model_convergence.specs.Tidy.{IsTidy, IsTidyItem}
use Rattle.cf_model_convergence.proofs.FeedsTold.{all_among}
use Rattle.cf_model_convergence.proofs.TidyItems.{below_next}
use Rattle.cf_model_agreement.specs.Known.{AreDoneLate}
use Rattle.cf_model_agreement.specs.Messages.{IsFeedRight, IsLate, IsListedRight, IsToldNow, IsTrue}
use Rattle.cf_model_agreement.proofs.MessagesTrue.{IsAskedNow}
use Rattle.cf_model_agreement.proofs.RunsTrue.{IsTrueIn, sound_of}
use Rattle.cf_model_agreement.proofs.PlainEntries.{IsPlainEntry, version_told}

-- The item was changed after the cursor; or, of a listing, the entry tells the item as it is where the cursor has passed it.
pub record IsEntryRight (r : Held) (late : Bool) (cursor : ℕ) (e : Entry) : Type 0 where
  pub small : e.rid.0 < 18446744073709551616
  pub right : late ≡ true → IsLate r cursor e.rid
  pub now : (e.rid.0 ≡ 1 → ⊥) → (x : Stored) → stored_at r.items e.rid ≡ Some x → x.changed ≤ cursor → (e ≡ entry_told x) × (e.live ≡ true) × ((version_in (entry_identity e)).0 ≡ latest x)

never : (a n : ℕ) → a < n → n ≤ a → ⊥
never a n h k = omega (arith, h, k)

late_right : (r : Held) (late : Bool) (cursor : ℕ) (e : Entry) → e.rid.0 < 18446744073709551616 → IsLate r cursor e.rid → IsEntryRight r late cursor e
late_right r late cursor e small h = record { small = small; right = λ _. h; now = λ lower x found passed. absurd (never cursor x.changed (h x found) passed) }

-- numbers of an entry that the remote has
zero_small : (n : ℕ) → n ≡ 0 → n < 18446744073709551616
zero_small n e = omega (arith, e)

some_rid : (n : ℕ) → 1 ≤ n → n ≡ 0 → ⊥
some_rid n h e = omega (arith, h, e)

-- what the remote has is plain, of a directory with no version
pub plain_entry : (r : Held) (e : Entry) → IsSmall r → HasEntry r e → (e.dir ≡ true → e.version.0 ≡ 0) → IsPlainEntry e
plain_entry r e small has none = record { some = some_rid e.rid.0 has.0; small = entry_small r e small has; version = version e.dir refl; dir = none } where
  file : (e.dir ≡ false) → ((e.version.0 ≡ 0) × (e.len ≡ 0)) ⊎ ((bytes : List ℕ) × (bytes_of r e.rid e.version ≡ Some bytes) × (length bytes ≡ e.len)) → e.version.0 < 18446744073709551616
  file d (inl z) = zero_small e.version.0 z.0
  file d (inr z) = (small.1 e.rid e.version z.0 z.1).1

  version : (b : Bool) → e.dir ≡ b → e.version.0 < 18446744073709551616
  version true d = zero_small e.version.0 (none d)
  version false d = file d (has.2 d)

has_version : (r : Held) (e : Entry) (x : Stored) → IsSmall r → HasEntry r e → IsTidy r → stored_at r.items e.rid ≡ Some x → e ≡ entry_told x → (version_in (entry_identity e)).0 ≡ latest x
has_version r e x small has tidy found told = version_told e (plain_entry r e small has none) ∙ ap (λ (d : Entry). d.version.0) told where
  none : e.dir ≡ true → e.version.0 ≡ 0
  none d =
      ap (λ (d : Entry). d.version.0) told
      ∙ ap (λ (vs : List (List ℕ)). length vs) ((all_found (IsTidyItem r) (λ s. s.rid.0 == e.rid.0) r.items x found tidy.items).0.versions.none (sym (ap (λ (d : Entry). d.dir) told) ∙ d))

same_request : (a b : Request) → ◌≡◌ {A = Option Frame} (Some (frame.Request a)) (Some (frame.Request b)) → a ≡ b
same_request a b e = cc

pub counts_both : (a b : Bool) → (not a || b) ≡ false → (a ≡ true) × (b ≡ false)
counts_both true b e = (refl, e)
counts_both false b e = no_way_back e

module _ (s : State) (h : IsTrueIn s) (done : AreDoneLate s.link.remote (items_now s) (book_now s)) (fair : IsFair s.link) where
  abbrev R : Held
  R = s.link.remote

  abbrev C : ℕ
  C = (book_now s).cursor

  abbrev TrueNow : Option Frame → Type 0
  TrueNow x = IsTrue R s.link.messages s.filter.volume.epoch s.volatile.rounds s.volatile.round_open C s.filter.waiting.key_count x

  truths : All TrueNow s.link.messages
  truths = (h.1 fair).1.messages

  sound : IsSound s.link s.volatile.tokens s.filter
  sound = sound_of s h.0 fair

  -- the cursor is what the feed of the latest open round asked for
  asked_cursor : (m : ℕ) (q : Request) (asked round : Round) (after clock : ℕ) (es : List Entry) → message_in s.link.messages m ≡ Some (frame.Request q) → message_in s.link.messages m ≡ Some (frame.Request (request.Feed asked after))
      → is_stale q (reply.Feed round clock es) s ≡ false → after ≡ C
  asked_cursor m q asked round after clock es at also counts = right (same_request q (request.Feed asked after) (sym at ∙ also)) where
    now : IsAskedNow R s.filter.volume.epoch s.volatile.rounds s.volatile.round_open C asked after
    now = one_message TrueNow s.link.messages m (frame.Request (request.Feed asked after)) truths also

    right : q ≡ request.Feed asked after → after ≡ C
    right same =
        let k = counts_both (fits (known_now s) (settled_rid s q) q (reply.Feed round clock es)) (is_old s (reply.Feed round clock es)) counts in
        let live = not_false (is_latest_round s round.0 && s.volatile.round_open && nat_le C clock && is_empty (book_now s).entries) k.1 in
        let two = left_true (is_latest_round s round.0 && s.volatile.round_open) (nat_le C clock) (left_true (is_latest_round s round.0 && s.volatile.round_open && nat_le C clock) (is_empty (book_now s).entries) live) in
        let fit : fits (known_now s) (settled_rid s (request.Feed asked after)) (request.Feed asked after) (reply.Feed round clock es) ≡ true =
        subst (λ (x : Request). fits (known_now s) (settled_rid s x) x (reply.Feed round clock es) ≡ true) same k.0 in
        let one : asked.0 ≡ round.0 = keys_same asked.0 round.0 (left_true (same_key asked.0 round.0) (are_entries (known_now s) es) fit) in
        let latest_one : round.0 ≡ record { epoch = s.filter.volume.epoch; number = s.volatile.rounds } = keys_same round.0 (record { epoch = s.filter.volume.epoch; number = s.volatile.rounds }) (left_true (is_latest_round s round.0) s.volatile.round_open two) in
        now.2 (one ∙ latest_one) (right_true (is_latest_round s round.0) s.volatile.round_open two)

  -- a feed that counts, which reported what was changed after the cursor
  pub feed_told : (m : ℕ) (q : Request) (round : Round) (clock : ℕ) (es : List Entry) → is_stale q (reply.Feed round clock es) s ≡ false → (IsFair s.link → ToldAt s m q (reply.Feed round clock es)) → IsPosted s m (reply.Feed round clock es) → IsFeedRight R C clock es
  feed_told m q round clock es counts told posted =
      let t : (asked : Round) × (after : ℕ) × (message_in s.link.messages m ≡ Some (frame.Request (request.Feed asked after))) × IsFeedRight R after clock es =
      one_message TrueNow s.link.messages posted.0 (frame.Reply m (reply.Feed round clock es)) truths posted.1 in
      subst (λ (n : ℕ). IsFeedRight R n clock es) (asked_cursor m q t.0 round t.1 clock es (told fair).0 t.2 counts) t.3

  feed_heard : (late : Bool) (m : ℕ) (q : Request) (round : Round) (clock : ℕ) (es : List Entry) (e : Entry) → is_stale q (reply.Feed round clock es) s ≡ false → (IsFair s.link → ToldAt s m q (reply.Feed round clock es)) → IsPosted s m (reply.Feed round clock es) → Among e es → IsEntryRight R late C e
  feed_heard late m q round clock es e counts told posted among =
      late_right R late C e (entry_small R e fair.1 (all_among (HasEntry R) es e among (told fair).1.1)) (all_among (λ d. IsLate R C d.rid) es e among (feed_told m q round clock es counts told posted).late)

  listing_heard : (m : ℕ) (q : Request) (key : Key) (es : List Entry) (e : Entry) → (IsFair s.link → ToldAt s m q (reply.Listing key es)) → IsPosted s m (reply.Listing key es) → ((a : Live) × (live_of s.filter.waiting.asks key ≡ Some a) × (is_list a.ask.kind ≡ true)) → Among e es → IsEntryRight R false C e
  listing_heard m q key es e told posted live among =
      let a : Live = live.0 in
      let right = all_found (λ b. is_list b.ask.kind ≡ true → All (IsListedRight R C b.ask.key) s.link.messages) (λ b. same_key b.ask.key key) s.filter.waiting.asks a live.1 (h.1 fair).1.lists in
      let listed : IsListedRight R C a.ask.key (Some (frame.Reply m (reply.Listing key es))) = one_message (IsListedRight R C a.ask.key) s.link.messages posted.0 (frame.Reply m (reply.Listing key es)) (right.0 live.2) posted.1 in
      let now : (e.live ≡ true) × IsToldNow R C e = all_among (λ d. (d.live ≡ true) × IsToldNow R C d) es e among (listed right.1) in
      let has : HasEntry R e = all_among (HasEntry R) es e among (told fair).1 in
      record {
        small = entry_small R e fair.1 has;
        right = λ z. no_way z;
        now = λ lower x found passed. let same : e ≡ entry_told x = now.1 lower x found passed in (same, now.0, has_version R e x fair.1 has (h.1 fair).0 found same);
      }

  -- what the remote did is of an item that it has
  did_item : (a : Action) (asked rid : Rid) → DidBy a R.items asked rid → (x : Stored) × (stored_at R.items rid ≡ Some x)
  did_item PutFile asked rid did = (did.0.0, did.0.1)
  did_item MakeDir asked rid did = (did.0, did.1)
  did_item MoveItem asked rid did = (did.1.0, did.1.1)
  did_item RemoveItem asked rid did = (did.1.0, did.1.1)

  did_small : (rid : Rid) (x : Stored) → stored_at R.items rid ≡ Some x → rid.0 < 18446744073709551616
  did_small rid x found = below rid.0 (length R.items) (below_next 1 R.items rid x sound.counted found).1 fair.1.0 where
    below : (a n : ℕ) → a < 1 + n → n < 18446744073709551616 → a < 18446744073709551616
    below a n h k = omega (arith, h, k)

  done_heard : (late : Bool) (m : ℕ) (q : Request) (token : Token) (rid : Rid) (version : Version) (e : Entry) → is_stale q (reply.Done token rid version) s ≡ false → (IsFair s.link → ToldAt s m q (reply.Done token rid version)) → e.rid ≡ rid → IsEntryRight R late C e
  done_heard late m q token rid version e counts told same = by (entry_live s token) refl (not_false (is_some (entry_live s token)) (counts_both (fits (known_now s) (settled_rid s q) q (reply.Done token rid version)) (is_old s (reply.Done token rid version)) counts).1) where
    by : (o : Option QueueEntry) → entry_live s token ≡ o → is_some o ≡ true → IsEntryRight R late C e
    by None f z = no_way z
    by (Some d) f z =
        let token_same : d.token ≡ token = same_token d.token token (all_found (λ x. Unit {0}) (λ x. same_key x.token.0 token.0) (book_now s).entries d f (all_any (λ x. Unit {0}) (λ x. tt) (book_now s).entries)).1 in
        let recorded : recorded_at R.tokens d.token ≡ Some (RecordedDone rid version) = subst (λ (t : Token). recorded_at R.tokens t ≡ Some (RecordedDone rid version)) (sym token_same) (told fair).1 in
        let late_one : IsLate R C rid = (all_found (λ x. (rid : Rid) (version : Version) → recorded_at R.tokens x.token ≡ Some (RecordedDone rid version) → IsLate R C rid) (λ x. same_key x.token.0 token.0) (book_now s).entries d f done).0 rid version recorded in
        let did = did_item d.action d.rid rid ((all_found (IsAskedFor R s.link.messages) (λ x. same_key x.token.0 token.0) (book_now s).entries d f sound.now.asked).0.did rid version recorded) in
        late_right R late C e (subst (λ (x : Rid). x.0 < 18446744073709551616) (sym same) (did_small rid did.0 did.1)) (subst (IsLate R C) (sym same) late_one)

  pub heard_right : (late : Bool) (e : Entry) → Heard late s e → IsEntryRight R late C e
  heard_right late e k = by k.2 k.3 k.4 k.5 k.6 where
    by : (r : Reply) → is_stale k.1 r s ≡ false → (IsFair s.link → ToldAt s k.0 k.1 r) → IsPosted s k.0 r → Mentions late s r e → IsEntryRight R late C e
    by (reply.Feed round clock es) counts told posted among = feed_heard late k.0 k.1 round clock es e counts told posted among
    by (reply.Listing key es) counts told posted z = subst (λ (b : Bool). IsEntryRight R b C e) (sym z.0) (listing_heard k.0 k.1 key es e told posted z.1 z.2)
    by (reply.Done token rid version) counts told posted same = done_heard late k.0 k.1 token rid version e counts told same
    by (reply.Bytes key start bytes) counts told posted z = absurd z
    by (reply.Missing key) counts told posted z = absurd z
    by (reply.Void token) counts told posted z = absurd z
    by (reply.Refused token w version) counts told posted z = absurd z
    by (reply.Gone key) counts told posted z = absurd z
