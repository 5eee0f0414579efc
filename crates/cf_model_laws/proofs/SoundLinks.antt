-- Requests and messages keep the whole sound.
use Rattle.std.proofs.Common.{◌≡◌, ◌⊎◌, ◌≤◌, ℕ, zero, suc, Bool, true, List, [], ◌∷◌, ◌++◌, refl, sym, ◌∙◌, ap, subst, inl, inr, take}
use Rattle.std.specs.Prelude.{Option, Some, None, slice_get, unwrap_or}
use Rattle.cf_base.specs.declared.changes.Change.{Change}
use Rattle.cf_base.specs.declared.ids.ItemId.{ItemId}
use Rattle.cf_base.specs.declared.ids.Rid.{Rid}
use Rattle.cf_base.specs.declared.ids.Token.{Token}
use Rattle.cf_base.specs.declared.ids.Usn.{Usn}
use Rattle.cf_base.specs.declared.ids.Version.{Version}
use Rattle.cf_base.specs.declared.messages.Request.{Request}
use Rattle.cf_base.specs.declared.messages.Request.TheVariants as request
use Rattle.cf_base.specs.declared.notices.Frame.{Frame}
use Rattle.cf_base.specs.declared.notices.Frame.TheVariants as frame
use Rattle.cf_base.specs.declared.waits.Ask.{Ask}
use Rattle.cf_model.specs.Books.{Action, MakeDir, MoveItem, PutFile, QueueEntry, RemoveItem}
use Rattle.cf_model.specs.Contents.{base_named, laid}
use Rattle.cf_model.specs.Growth.{Extends, IsCounted}
use Rattle.cf_model.specs.Identities.{base_bytes}
use Rattle.cf_model.specs.Items.{Item, writes_of}
use Rattle.cf_model.specs.Logs.{items_of, next_of}
use Rattle.cf_model.specs.Missing.{Wait}
use Rattle.cf_model.specs.Numbers.{usn_after}
use Rattle.cf_model.specs.Overlay.{over}
use Rattle.cf_model.specs.Requests.{Live, is_fetch}
use Rattle.cf_model.specs.Soundness.{Each}
use Rattle.cf_model.specs.State.{Point}
use Rattle.cf_model.specs.Store.{Held, Recorded, RecordedDone, bytes_of, recorded_at, remote_step, stored_at, version_bytes}
use Rattle.cf_model.specs.Words.{part}
use Rattle.cf_model.proofs.ContentItems.{no-version}
use Rattle.cf_model.proofs.StoreLaws.{step_counts, step_extends}
use Rattle.cf_model_laws.specs.GivenOnce.{WasGiven}
use Rattle.cf_model_laws.specs.Invariant.{All, AreTrueTo, Carries, EntryFits, FitsBy, HasBase, IsDurable, IsEntryOf, IsLiveRight, IsMessageRight, IsPointRight, IsRight, IsSoundOf, Names, OfRequest, PutFits, message_in, put_bytes, rid_in, version_in, Asks, DidBy, IsAskedFor, IsAimed, target_in}
use Rattle.cf_model_laws.proofs.FitAsks.{of_request}
use Rattle.cf_model_laws.proofs.Gathered.{all_append, all_both, all_weaker, each_all, each_both}
use Rattle.cf_model_laws.proofs.RemoteSteps.{HasToken, recorded_new, tokens_kept}
use Rattle.cf_model_laws.proofs.RemoteGrowth.{GrowsTo, step_grows, still_bytes, still_true}
use Rattle.cf_model_laws.proofs.RightItems.{none_named}
use Rattle.cf_model_laws.proofs.EntriesAsked.{did_new, did_stays}
use Rattle.cf_model_laws.proofs.MadeUploads.{made_asked}

-- a remote that grows

pub base_stays : (r s : Held) (identity : List ℕ) → Extends r s → HasBase r identity → base_named s identity ≡ base_named r identity
base_stays r s identity x (inl e) = none_named s identity e ∙ sym (none_named r identity e)
base_stays r s identity x (inr k) = ap (λ (o : Option (List ℕ)). unwrap_or o []) (x.versions (rid_in identity) (version_in identity) k.0 k.1 ∙ sym k.1)

pub based_still : (r s : Held) (identity : List ℕ) → Extends r s → HasBase r identity → HasBase s identity
based_still r s identity x (inl e) = inl e
based_still r s identity x (inr k) = inr (k.0, x.versions (rid_in identity) (version_in identity) k.0 k.1)

true_still : (r s : Held) (n : Usn) → Extends r s → (items : List Item) → All (IsRight r n) items → AreTrueTo r items → AreTrueTo s items
true_still r s n x [] right h = tt
true_still r s n x (i ∷ is) right h =
    (λ e. subst (λ (b : List ℕ). over b (writes_of i) ≡ laid i.held b) (sym (base_stays r s i.identity x right.0.based)) (h.0 e), true_still r s n x is right.1 h.1)

aimed_still : (r s : Held) (directory : Bool) (identity : List ℕ) → GrowsTo r s → IsAimed r directory identity → IsAimed s directory identity
aimed_still r s directory identity g (inl e) = inl e
aimed_still r s directory identity g (inr k) = inr (g.kinds (target_in identity) directory k.0, k.1, k.2)

right_still : (r s : Held) (n : Usn) (i : Item) → Extends r s → GrowsTo r s → IsRight r n i → IsRight s n i
right_still r s n i x g h = record { based = based_still r s i.identity x h.based; aimed = aimed_still r s i.directory i.identity g h.aimed; rises = h.rises; last = h.last; early = h.early; clean = h.clean; bare = h.bare; plain = h.plain; top = h.top }

-- a request that is right about each upload on its way
pub record AskedWell (ms : List (Option Frame)) (epoch tokens : ℕ) (q : Request) : Type 0 where
  pub token : HasToken (λ t. WasGiven epoch tokens t.0) q
  pub carries : (token : Token) (bytes : List ℕ) → 1 ≤ token.0.epoch → All (OfRequest (Carries token bytes)) ms → Carries token bytes q
  pub asks : (e : QueueEntry) → 1 ≤ e.token.0.epoch → All (OfRequest (Asks e)) ms → Asks e q

put_asked : (r : Held) (ms : List (Option Frame)) (epoch tokens : ℕ) (q : Request) (e : QueueEntry) (i : Item) → IsCounted r → AskedWell ms epoch tokens q → 1 ≤ e.token.0.epoch → HasBase r i.identity
    → PutFits r ms e i → PutFits (remote_step r q).1 ms e i
put_asked r ms epoch tokens q e i counted well own based h = record {
  file = h.file;
  here = h.here;
  placed = h.placed;
  recorded = λ rid version k. by rid version (recorded_at r.tokens e.token) refl k;
  asked = all_weaker (OfRequest (Carries e.token (put_bytes (base_bytes r i) e.number i.writes))) (OfRequest (Carries e.token (put_bytes (base_bytes (remote_step r q).1 i) e.number i.writes)))
      (λ m k. subst (λ (b : List ℕ). OfRequest (Carries e.token (put_bytes b e.number i.writes)) m) (sym same) k) ms h.asked;
}
  where
    x : Extends r (remote_step r q).1
    x = step_extends r q

    same : base_bytes (remote_step r q).1 i ≡ base_bytes r i
    same = base_stays r (remote_step r q).1 i.identity (step_extends r q) based

    by : (rid : Rid) (version : Version) (o : Option Recorded) → recorded_at r.tokens e.token ≡ o → recorded_at (remote_step r q).1.tokens e.token ≡ Some (RecordedDone rid version)
        → bytes_of (remote_step r q).1 rid version ≡ Some (put_bytes (base_bytes (remote_step r q).1 i) e.number i.writes)
    by rid version (Some d) f k =
        let z : ◌≡◌ {A = Option Recorded} (Some d) (Some (RecordedDone rid version)) = sym (x.tokens e.token d f) ∙ k in
        x.versions rid version (put_bytes (base_bytes r i) e.number i.writes) (h.recorded rid version (f ∙ z)) ∙ ap (λ (b : List ℕ). Some (put_bytes b e.number i.writes)) (sym same)
    by rid version None f k =
        recorded_new r q e.token (put_bytes (base_bytes r i) e.number i.writes) counted f (well.carries e.token (put_bytes (base_bytes r i) e.number i.writes) own h.asked) rid version k
        ∙ ap (λ (b : List ℕ). Some (put_bytes b e.number i.writes)) (sym same)

fits_asked : (a : Action) (r : Held) (ms : List (Option Frame)) (epoch tokens : ℕ) (q : Request) (n : Usn) (e : QueueEntry) (items : List Item) → IsCounted r → AskedWell ms epoch tokens q → 1 ≤ e.token.0.epoch → All (IsRight r n) items
    → FitsBy a r ms items e → FitsBy a (remote_step r q).1 ms items e
fits_asked PutFile r ms epoch tokens q n e items counted well own right h =
    each_both e.item (PutFits r ms e) (IsRight r n) (PutFits (remote_step r q).1 ms e) (λ i k g. put_asked r ms epoch tokens q e i counted well own g.based k) items h (each_all e.item (IsRight r n) (IsRight r n) (λ i k. k) items right)
fits_asked MakeDir r ms epoch tokens q n e items counted well own right h = h
fits_asked MoveItem r ms epoch tokens q n e items counted well own right h = tt
fits_asked RemoveItem r ms epoch tokens q n e items counted well own right h = tt

entry_asked : (r : Held) (ms : List (Option Frame)) (epoch tokens : ℕ) (q : Request) (e : QueueEntry) → IsCounted r → AskedWell ms epoch tokens q → 1 ≤ e.token.0.epoch → IsAskedFor r ms e → IsAskedFor (remote_step r q).1 ms e
entry_asked r ms epoch tokens q e counted well own h = record { did = λ rid version k. by rid version (recorded_at r.tokens e.token) refl k; sent = h.sent; low = h.low; new = h.new } where
  by : (rid : Rid) (version : Version) (o : Option Recorded) → recorded_at r.tokens e.token ≡ o → recorded_at (remote_step r q).1.tokens e.token ≡ Some (RecordedDone rid version) → DidBy e.action (remote_step r q).1.items e.rid rid
  by rid version (Some d) f k =
      let z : ◌≡◌ {A = Option Recorded} (Some d) (Some (RecordedDone rid version)) = sym ((step_extends r q).tokens e.token d f) ∙ k in
      did_stays e.action r q e.rid rid (h.did rid version (f ∙ z))
  by rid version None f k = did_new r q e counted f (well.asks e own h.sent) rid version k

durable_asked : (r : Held) (ms : List (Option Frame)) (epoch tokens : ℕ) (q : Request) (n : Usn) (next : ℕ) (items : List Item) (es : List QueueEntry) → IsCounted r → AskedWell ms epoch tokens q
    → IsDurable r ms epoch tokens n next items es → IsDurable (remote_step r q).1 ms epoch tokens n next items es
durable_asked r ms epoch tokens q n next items es counted well h = record {
  contents = true_still r (remote_step r q).1 n (step_extends r q) items h.right h.contents;
  right = all_weaker (IsRight r n) (IsRight (remote_step r q).1 n) (λ i k. right_still r (remote_step r q).1 n i (step_extends r q) (step_grows r q) k) items h.right;
  order = h.order;
  more = h.more;
  fit = all_both (EntryFits r ms items) (IsEntryOf n next epoch tokens) (EntryFits (remote_step r q).1 ms items) (λ e k g. fits_asked e.action r ms epoch tokens q n e items counted well g.own h.right k) es h.fit h.given;
  given = h.given;
  asked = asked;
  apart = h.apart;
  made = made_asked r ms q n items es counted (step_counts r q counted)
      (all_both (IsAskedFor r ms) (IsEntryOf n next epoch tokens) (λ e. Asks e q) (λ e k g. well.asks e g.own k.sent) es h.asked h.given) asked h.right h.made;
  targets = h.targets;
}
  where
    asked : All (IsAskedFor (remote_step r q).1 ms) es
    asked = all_both (IsAskedFor r ms) (IsEntryOf n next epoch tokens) (IsAskedFor (remote_step r q).1 ms) (λ e k g. entry_asked r ms epoch tokens q e counted well g.own k) es h.asked h.given

message_asked : (r s : Held) (ms : List (Option Frame)) (epoch keys tokens : ℕ) → Extends r s → GrowsTo r s → (m : Option Frame) → IsMessageRight r ms epoch keys tokens m → IsMessageRight s ms epoch keys tokens m
message_asked r s ms epoch keys tokens x g (Some (frame.Request q)) h = h
message_asked r s ms epoch keys tokens x g (Some (frame.Reply answers a)) h = (still_true r s a x g h.0, h.1, h.2, still_bytes r s h.1 a x h.3)
message_asked r s ms epoch keys tokens x g None h = h

names_asked : (r s : Held) (n : Usn) (items : List Item) (a : Ask) → Extends r s → All (IsRight r n) items → (q : Request) → Names r items a q → Names s items a q
names_asked r s n items a x right (request.Fetch key rid version start len) h = λ e. by (h e).0 (h e).1 where
  by : ((version.0 ≡ 0) ⊎ ((bytes : List ℕ) × (bytes_of r rid version ≡ Some bytes))) → Each a.item (λ i. base_bytes r i ≡ unwrap_or (bytes_of r rid version) []) items
      → ((version.0 ≡ 0) ⊎ ((bytes : List ℕ) × (bytes_of s rid version ≡ Some bytes))) × Each a.item (λ i. base_bytes s i ≡ unwrap_or (bytes_of s rid version) []) items
  by (inl z) k =
      let none : (t : Held) → bytes_of t rid version ≡ None = λ (t : Held). ap (λ (v : ℕ). version_bytes (stored_at t.items rid) v) z ∙ no-version (stored_at t.items rid) in (
        inl z,
        each_both a.item (λ i. base_bytes r i ≡ unwrap_or (bytes_of r rid version) []) (IsRight r n) (λ i. base_bytes s i ≡ unwrap_or (bytes_of s rid version) [])
            (λ i g w. base_stays r s i.identity x w.based ∙ g ∙ ap (λ (o : Option (List ℕ)). unwrap_or o []) (none r ∙ sym (none s))) items k (each_all a.item (IsRight r n) (IsRight r n) (λ i w. w) items right),
      )
  by (inr f) k = (
    inr (f.0, x.versions rid version f.0 f.1),
    each_both a.item (λ i. base_bytes r i ≡ unwrap_or (bytes_of r rid version) []) (IsRight r n) (λ i. base_bytes s i ≡ unwrap_or (bytes_of s rid version) [])
        (λ i g w. base_stays r s i.identity x w.based ∙ g ∙ ap (λ (o : Option (List ℕ)). unwrap_or o []) (f.1 ∙ sym (x.versions rid version f.0 f.1))) items k (each_all a.item (IsRight r n) (IsRight r n) (λ i w. w) items right),
  )
names_asked r s n items a x right (request.Feed round after) h = tt
names_asked r s n items a x right (request.List key rid) h = tt
names_asked r s n items a x right (request.Put t rid expect parent name bytes) h = tt
names_asked r s n items a x right (request.MakeDir t parent name) h = tt
names_asked r s n items a x right (request.Move t rid parent name) h = tt
names_asked r s n items a x right (request.Remove t rid expect) h = tt
names_asked r s n items a x right (request.Settle t) h = tt
names_asked r s n items a x right (request.Keep t count) h = tt

live_asked : (r s : Held) (ms : List (Option Frame)) (keys epoch next_item : ℕ) (items : List Item) (ws : List Wait) (outbox : List Ask) (n : Usn) → Extends r s → All (IsRight r n) items → (a : Ask)
    → IsLiveRight r ms keys epoch next_item items ws outbox a → IsLiveRight s ms keys epoch next_item items ws outbox a
live_asked r s ms keys epoch next_item items ws outbox n x right a h = record {
  below = h.below;
  given = h.given;
  waited = h.waited;
  boxed = h.boxed;
  named = all_weaker (OfRequest (Names r items a)) (OfRequest (Names s items a)) (of_request (Names r items a) (Names s items a) (names_asked r s n items a x right)) ms h.named;
}

pub ask_sound : (But : ItemId → Type 0) (r : Held) (ms : List (Option Frame)) (tokens epoch place : ℕ) (log : List (Usn × Change)) (items : List Item) (next_item : ℕ) (points : List Point) (entries : List QueueEntry)
    (asks_epoch : ℕ) (ws : List Wait) (asks : List Live) (keys : ℕ) (outbox : List Ask) (validate : Bool) (q : Request) → AskedWell ms epoch tokens q
    → IsSoundOf But r ms tokens epoch place log items next_item points entries asks_epoch ws asks keys outbox validate
    → IsSoundOf But (remote_step r q).1 ms tokens epoch place log items next_item points entries asks_epoch ws asks keys outbox validate
ask_sound But r ms tokens epoch place log items next_item points entries asks_epoch ws asks keys outbox validate q well h = record {
  counted = step_counts r q h.counted;
  recorded = tokens_kept (λ t. WasGiven epoch tokens t.0) r q well.token h.recorded;
  messages = all_weaker (IsMessageRight r ms epoch keys tokens) (IsMessageRight (remote_step r q).1 ms epoch keys tokens) (message_asked r (remote_step r q).1 ms epoch keys tokens (step_extends r q) (step_grows r q)) ms h.messages;
  old = h.old;
  of_log = h.of_log;
  now = durable_asked r ms epoch tokens q (usn_after epoch place) next_item items entries h.counted well h.now;
  kept = all_weaker (IsPointRight r ms epoch tokens (usn_after epoch place) log) (IsPointRight (remote_step r q).1 ms epoch tokens (usn_after epoch place) log)
      (λ p k. (k.0, durable_asked r ms epoch tokens q (usn_after epoch place) (next_of (take p.count log)) (items_of (take p.count log)) p.book.entries h.counted well k.1)) points h.kept;
  one_epoch = h.one_epoch;
  numbered = h.numbered;
  lack = h.lack;
  lives = all_weaker (λ a. is_fetch a.ask.kind ≡ true → IsLiveRight r ms keys epoch next_item items ws outbox a.ask) (λ a. is_fetch a.ask.kind ≡ true → IsLiveRight (remote_step r q).1 ms keys epoch next_item items ws outbox a.ask)
      (λ a k e. live_asked r (remote_step r q).1 ms keys epoch next_item items ws outbox (usn_after epoch place) (step_extends r q) h.now.right a.ask (k e)) asks h.lives;
  boxed = h.boxed;
  unvalidated = h.unvalidated;
}

-- one more message

get_longer : {A : Type 0} (xs ys : List A) (n : ℕ) (x : A) → slice_get xs n ≡ Some x → slice_get (xs ++ ys) n ≡ Some x
get_longer [] ys n x e = none n e where
  none : (n : ℕ) → slice_get [] n ≡ Some x → slice_get ([] ++ ys) n ≡ Some x
  none zero e = cc
  none (suc n) e = cc
get_longer (y ∷ xs) ys zero x e = e
get_longer (y ∷ xs) ys (suc n) x e = get_longer xs ys n x e

pub message_longer : (ms more : List (Option Frame)) (n : ℕ) (f : Frame) → message_in ms n ≡ Some f → message_in (ms ++ more) n ≡ Some f
message_longer ms more zero f e = e
message_longer ms more (suc n) f e = by (slice_get ms n) refl e where
  by : (o : Option (Option Frame)) → slice_get ms n ≡ o → part (λ f. f) None o ≡ Some f → part (λ f. f) None (slice_get (ms ++ more) n) ≡ Some f
  by None q e = cc
  by (Some g) q e = ap (λ (o : Option (Option Frame)). part (λ f. f) None o) (get_longer ms more n g q) ∙ e

message_more : (r : Held) (ms : List (Option Frame)) (f : Option Frame) (epoch keys tokens : ℕ) (m : Option Frame) → IsMessageRight r ms epoch keys tokens m → IsMessageRight r (ms ++ f ∷ []) epoch keys tokens m
message_more r ms f epoch keys tokens (Some (frame.Request q)) h = h
message_more r ms f epoch keys tokens (Some (frame.Reply answers a)) h = (h.0, h.1, message_longer ms (f ∷ []) answers (frame.Request h.1) h.2, h.3)
message_more r ms f epoch keys tokens None h = h

-- what a message says of an upload is right
abbrev pub CarriesBy : Action → Held → List Item → Option Frame → QueueEntry → Type 0
CarriesBy PutFile r items f e = Each e.item (λ i. OfRequest (Carries e.token (put_bytes (base_bytes r i) e.number i.writes)) f) items
CarriesBy MakeDir r items f e = Unit {0}
CarriesBy MoveItem r items f e = Unit {0}
CarriesBy RemoveItem r items f e = Unit {0}

abbrev pub FrameCarries : Held → List Item → Option Frame → QueueEntry → Type 0
FrameCarries r items f e = CarriesBy e.action r items f e × OfRequest (Asks e) f

pub record PostedWell (r : Held) (ms : List (Option Frame)) (tokens epoch : ℕ) (log : List (Usn × Change)) (items : List Item) (points : List Point) (entries : List QueueEntry) (asks : List Live) (keys : ℕ) (f : Option Frame) : Type 0 where
  pub right : IsMessageRight r (ms ++ f ∷ []) epoch keys tokens f
  pub named : All (λ a. is_fetch a.ask.kind ≡ true → OfRequest (Names r items a.ask) f) asks
  pub now : All (FrameCarries r items f) entries
  pub kept : All (λ p. All (FrameCarries r (items_of (take p.count log)) f) p.book.entries) points

fits_posted : (a : Action) (r : Held) (ms : List (Option Frame)) (f : Option Frame) (items : List Item) (e : QueueEntry) → CarriesBy a r items f e → FitsBy a r ms items e → FitsBy a r (ms ++ f ∷ []) items e
fits_posted PutFile r ms f items e c h =
    each_both e.item (PutFits r ms e) (λ i. OfRequest (Carries e.token (put_bytes (base_bytes r i) e.number i.writes)) f) (PutFits r (ms ++ f ∷ []) e)
    (λ i k g. record { file = k.file; here = k.here; placed = k.placed; recorded = k.recorded; asked = all_append (OfRequest (Carries e.token (put_bytes (base_bytes r i) e.number i.writes))) ms (f ∷ []) k.asked (g, tt) }) items h c
fits_posted MakeDir r ms f items e c h = h
fits_posted MoveItem r ms f items e c h = tt
fits_posted RemoveItem r ms f items e c h = tt

durable_posted : (r : Held) (ms : List (Option Frame)) (f : Option Frame) (epoch tokens : ℕ) (n : Usn) (next : ℕ) (items : List Item) (es : List QueueEntry) → All (FrameCarries r items f) es
    → IsDurable r ms epoch tokens n next items es → IsDurable r (ms ++ f ∷ []) epoch tokens n next items es
durable_posted r ms f epoch tokens n next items es c h = record {
  contents = h.contents;
  right = h.right;
  order = h.order;
  more = h.more;
  fit = all_both (FrameCarries r items f) (EntryFits r ms items) (EntryFits r (ms ++ f ∷ []) items) (λ e g k. fits_posted e.action r ms f items e g.0 k) es c h.fit;
  given = h.given;
  asked = all_both (FrameCarries r items f) (IsAskedFor r ms) (IsAskedFor r (ms ++ f ∷ [])) (λ e g k. record { did = k.did; sent = all_append (OfRequest (Asks e)) ms (f ∷ []) k.sent (g.1, tt); low = k.low; new = k.new }) es c h.asked;
  apart = h.apart;
  made = h.made;
  targets = h.targets;
}

pub post_sound : (But : ItemId → Type 0) (r : Held) (ms : List (Option Frame)) (tokens epoch place : ℕ) (log : List (Usn × Change)) (items : List Item) (next_item : ℕ) (points : List Point) (entries : List QueueEntry)
    (asks_epoch : ℕ) (ws : List Wait) (asks : List Live) (keys : ℕ) (outbox : List Ask) (validate : Bool) (f : Option Frame) → PostedWell r ms tokens epoch log items points entries asks keys f
    → IsSoundOf But r ms tokens epoch place log items next_item points entries asks_epoch ws asks keys outbox validate
    → IsSoundOf But r (ms ++ f ∷ []) tokens epoch place log items next_item points entries asks_epoch ws asks keys outbox validate
post_sound But r ms tokens epoch place log items next_item points entries asks_epoch ws asks keys outbox validate f well h = record {
  counted = h.counted;
  recorded = h.recorded;
  old = h.old;
  of_log = h.of_log;
  one_epoch = h.one_epoch;
  numbered = h.numbered;
  lack = h.lack;
  boxed = h.boxed;
  unvalidated = h.unvalidated;
  messages = all_append (IsMessageRight r (ms ++ f ∷ []) epoch keys tokens) ms (f ∷ []) (all_weaker (IsMessageRight r ms epoch keys tokens) (IsMessageRight r (ms ++ f ∷ []) epoch keys tokens) (message_more r ms f epoch keys tokens) ms h.messages) (well.right, tt);
  now = durable_posted r ms f epoch tokens (usn_after epoch place) next_item items entries well.now h.now;
  kept = all_both (λ p. All (FrameCarries r (items_of (take p.count log)) f) p.book.entries) (IsPointRight r ms epoch tokens (usn_after epoch place) log) (IsPointRight r (ms ++ f ∷ []) epoch tokens (usn_after epoch place) log)
      (λ p c k. (k.0, durable_posted r ms f epoch tokens (usn_after epoch place) (next_of (take p.count log)) (items_of (take p.count log)) p.book.entries c k.1)) points well.kept h.kept;
  lives = all_both (λ a. is_fetch a.ask.kind ≡ true → OfRequest (Names r items a.ask) f) (λ a. is_fetch a.ask.kind ≡ true → IsLiveRight r ms keys epoch next_item items ws outbox a.ask) (λ a. is_fetch a.ask.kind ≡ true → IsLiveRight r (ms ++ f ∷ []) keys epoch next_item items ws outbox a.ask)
      (λ a g k e. record { below = (k e).below; given = (k e).given; waited = (k e).waited; named = all_append (OfRequest (Names r items a.ask)) ms (f ∷ []) (k e).named (g e, tt); boxed = (k e).boxed }) asks well.named h.lives;
}
