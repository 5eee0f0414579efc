-- Uploads, as they are entered and sent, in `replay`.
use Rattle.std.proofs.Common.{◌≡◌, ◌<◌, ◌≤◌, ◌+◌, ℕ, Bool, true, false, List, [], ◌∷◌, ◌++◌, refl, sym, ◌∙◌, ap, subst, inl, inr, arith, length, take}
use Rattle.std.specs.Prelude.{Option, Some, None, cond, is_some, find, ◌==◌}
use Rattle.std.specs.List.{list_all}
use Rattle.std.proofs.lemmas.Bool.Decides.{nat_tests}
use Rattle.std.proofs.lemmas.Bool.{eqb-true}
use Rattle.cf_base.specs.declared.codes.Code.{Code}
use Rattle.cf_base.specs.declared.ids.Key.{Key}
use Rattle.cf_base.specs.declared.ids.Token.{Token}
use Rattle.cf_base.specs.declared.ids.Version.{Version}
use Rattle.cf_base.specs.declared.messages.Request.{Request}
use Rattle.cf_base.specs.declared.messages.Request.TheVariants as request
use Rattle.cf_base.specs.declared.notices.Frame.{Frame}
use Rattle.cf_base.specs.declared.notices.Frame.TheVariants as frame
use Rattle.cf_model.specs.Arrows.{choose, one, then_do, unless_done, when_ok}
use Rattle.cf_model.specs.Books.{Action, Book, MakeDir, MoveItem, PutFile, QueueEntry, RemoveItem, with_anchor, with_entry}
use Rattle.cf_model.specs.Changes.{next_number}
use Rattle.cf_model.specs.Identities.{base_bytes}
use Rattle.cf_model.specs.Items.{Item}
use Rattle.cf_model.specs.Logs.{items_of}
use Rattle.cf_model.specs.Messages.{is_upload, send, send_now}
use Rattle.cf_model.specs.Numbers.{above, key_after, same_key}
use Rattle.cf_model.specs.Points.{commit, with_sure_point}
use Rattle.cf_model.specs.Pushes.{anchored, next_token, push, request_by, request_of, send_if, why_no_token, with_token}
use Rattle.cf_model.specs.Requests.{is_fetch}
use Rattle.cf_model.specs.Skips.{in_book, left_out, try_book, why_no_record, with_book, with_volatile}
use Rattle.cf_model.specs.Soundness.{Each}
use Rattle.cf_model.specs.State.{State, book_now, in_filter, in_volume, items_now, with_filter, with_volume}
use Rattle.cf_model.specs.Store.{Held, Recorded, RecordedDone, recorded_at}
use Rattle.cf_model.specs.Trees.{Keeps, bind}
use Rattle.cf_model_laws.specs.GivenOnce.{WasGiven}
use Rattle.cf_model_laws.specs.Invariant.{All, Carries, FitsBy, IsEntryOf, IsGivenIn, IsMessageRight, IsSound, Names, OfRequest, PutFits, is_put, put_bytes, Asks, NamesTarget}
use Rattle.cf_model_laws.specs.Premises.{IsFair}
use Rattle.cf_model_laws.proofs.Gathered.{all_any, all_append, all_weaker, each_weaker}
use Rattle.cf_model_laws.proofs.Guarded.{EnteredIn, EnteringBy, Guarded, MovesThere, PostedIn, PostedNow}
use Rattle.cf_model_laws.proofs.MessagesGuarded.{anyhow, send_now_at}
use Rattle.cf_model_laws.specs.Taken.{is_feed}
use Rattle.cf_model_laws.proofs.RightItems.{no_way, no_way_back}
use Rattle.cf_model_laws.proofs.SoundLinks.{CarriesBy, FrameCarries}
use Rattle.cf_model_laws.proofs.SkipsGuarded.{cursor_stays, leaves_early}
use Rattle.cf_model_laws.proofs.SoundSettles.{left_true, right_true}
use Rattle.cf_model_laws.proofs.EntriesAsked.{carries_asks}
use Rattle.cf_model_laws.proofs.MadeUploads.{IsAbout}

-- a fresh token

new_key : (epoch n : ℕ) (k : Key) → WasGiven epoch n k → same_key (key_after epoch n) k ≡ true → ⊥
new_key epoch n k (inl h) e = let a : epoch ≡ k.epoch = eqb-true epoch k.epoch (left_true (epoch == k.epoch) (n + 1 == k.number) e) in omega (arith, h, a)
new_key epoch n k (inr h) e = let b : n + 1 ≡ k.number = eqb-true (n + 1) k.number (right_true (epoch == k.epoch) (n + 1 == k.number) e) in let c : k.number ≤ n = h.1 in omega (arith, b, c)

fresh_left : (epoch n : ℕ) (k : Key) → WasGiven epoch n k → same_key (key_after epoch n) k ≡ false
fresh_left epoch n k h = by (same_key (key_after epoch n) k) refl where
  by : (b : Bool) → same_key (key_after epoch n) k ≡ b → b ≡ false
  by true e = absurd (new_key epoch n k h e)
  by false e = refl

pub swapped : (a b : Key) → same_key a b ≡ same_key b a
swapped a b = grind (arith, nat_tests)

fresh_right : (epoch n : ℕ) (k : Key) → WasGiven epoch n k → same_key k (key_after epoch n) ≡ false
fresh_right epoch n k h = swapped k (key_after epoch n) ∙ fresh_left epoch n k h

-- what is known of a new upload
abbrev pub NewBy : Action → Held → List Item → QueueEntry → List ℕ → Type 0
NewBy PutFile r items e bytes = Each e.item (λ i. (i.directory ≡ false) × (i.placeholder ≡ true) × (list_all is_some i.held ≡ true) × (bytes ≡ put_bytes (base_bytes r i) e.number i.writes)) items
NewBy MakeDir r items e bytes = Each e.item (λ i. i.directory ≡ true) items
NewBy MoveItem r items e bytes = Unit {0}
NewBy RemoveItem r items e bytes = Unit {0}

pub record IsNewEntry (s : State) (e : QueueEntry) (bytes : List ℕ) : Type 0 where
  pub early : is_put e.action ≡ true → above (next_number s.filter.volume) e.number ≡ true
  pub item : e.item.0 < s.filter.volume.next_item.0
  pub apart : All (λ f. f.item.0 ≡ e.item.0 → f.item.0 ≡ 0) (book_now s).entries
  pub facts : NewBy e.action s.link.remote (items_now s) e bytes
  pub off : MovesThere s e
  pub low : e.action ≡ PutFile → e.rid.0 ≡ 1 → ⊥
  pub new : e.action ≡ MakeDir → e.rid.0 ≡ 0
  pub about : IsAbout s.link.remote (book_now s).entries e
  pub named : NamesTarget (items_now s) e

-- nothing says a word of a fresh token

fresh_request : (epoch keys tokens : ℕ) (bytes : List ℕ) (q : Request) → IsGivenIn epoch keys tokens q → Carries (record { 0 = key_after epoch tokens }) bytes q
fresh_request epoch keys tokens bytes (request.Put t rid expect parent name bs) h = λ e. no_way (sym (fresh_right epoch tokens t.0 h) ∙ e)
fresh_request epoch keys tokens bytes (request.MakeDir t parent name) h = fresh_right epoch tokens t.0 h
fresh_request epoch keys tokens bytes (request.Move t rid parent name) h = fresh_right epoch tokens t.0 h
fresh_request epoch keys tokens bytes (request.Remove t rid expect) h = fresh_right epoch tokens t.0 h
fresh_request epoch keys tokens bytes (request.Keep t count) h = fresh_right epoch tokens t.0 h
fresh_request epoch keys tokens bytes (request.Settle t) h = tt
fresh_request epoch keys tokens bytes (request.Feed round after) h = tt
fresh_request epoch keys tokens bytes (request.List key rid) h = tt
fresh_request epoch keys tokens bytes (request.Fetch key rid version start len) h = tt

fresh_message : (r : Held) (ms : List (Option Frame)) (epoch keys tokens : ℕ) (bytes : List ℕ) (m : Option Frame) → IsMessageRight r ms epoch keys tokens m → OfRequest (Carries (record { 0 = key_after epoch tokens }) bytes) m
fresh_message r ms epoch keys tokens bytes (Some (frame.Request q)) h = fresh_request epoch keys tokens bytes q h
fresh_message r ms epoch keys tokens bytes (Some (frame.Reply answers a)) h = tt
fresh_message r ms epoch keys tokens bytes None h = tt

pub unrecorded : (epoch tokens : ℕ) (ts : List (Token × Recorded)) (d : Recorded) → All (λ t. WasGiven epoch tokens t.0.0) ts → recorded_at ts (record { 0 = key_after epoch tokens }) ≡ Some d → ⊥
unrecorded epoch tokens [] d h e = none d e where
  none : (d : Recorded) → ◌≡◌ {A = Option Recorded} None (Some d) → ⊥
  none d e = cc
unrecorded epoch tokens (t ∷ ts) d h e = by (same_key t.0.0 (key_after epoch tokens)) (fresh_right epoch tokens t.0.0 h.0) e (unrecorded epoch tokens ts d h.1) where
  by : (b : Bool) → b ≡ false → Rattle.cf_model.specs.Words.part (λ (x : Token × Recorded). Some x.1) None (cond b (Some t) (find (λ (x : Token × Recorded). same_key x.0.0 (key_after epoch tokens)) ts)) ≡ Some d
      → (recorded_at ts (record { 0 = key_after epoch tokens }) ≡ Some d → ⊥) → ⊥
  by true z e g = no_way_back z
  by false z e g = g e

new_fits : (a : Action) (s : State) (e : QueueEntry) (bytes : List ℕ) → e.token ≡ next_token s → IsSound s.link s.volatile.tokens s.filter → NewBy a s.link.remote (items_now s) e bytes → FitsBy a s.link.remote s.link.messages (items_now s) e
new_fits PutFile s e bytes token sound h =
    each_weaker e.item (λ i. (i.directory ≡ false) × (i.placeholder ≡ true) × (list_all is_some i.held ≡ true) × (bytes ≡ put_bytes (base_bytes s.link.remote i) e.number i.writes)) (PutFits s.link.remote s.link.messages e)
    (λ i k. record {
      file = k.0;
      placed = k.1;
      here = inl k.2;
      recorded = λ rid version f. absurd (unrecorded s.filter.volume.epoch s.volatile.tokens s.link.remote.tokens (RecordedDone rid version) sound.recorded (subst (λ (t : Token). recorded_at s.link.remote.tokens t ≡ Some (RecordedDone rid version)) token f));
      asked = subst (λ (t : Token). All (OfRequest (Carries t (put_bytes (base_bytes s.link.remote i) e.number i.writes))) s.link.messages) (sym token)
          (all_weaker (IsMessageRight s.link.remote s.link.messages s.filter.volume.epoch s.filter.waiting.key_count s.volatile.tokens) (OfRequest (Carries (next_token s) (put_bytes (base_bytes s.link.remote i) e.number i.writes)))
          (fresh_message s.link.remote s.link.messages s.filter.volume.epoch s.filter.waiting.key_count s.volatile.tokens (put_bytes (base_bytes s.link.remote i) e.number i.writes)) s.link.messages sound.messages);
    }) (items_now s) h
new_fits MakeDir s e bytes token sound h = h
new_fits MoveItem s e bytes token sound h = tt
new_fits RemoveItem s e bytes token sound h = tt

last_given : (epoch n : ℕ) → WasGiven epoch (n + 1) (key_after epoch n)
last_given epoch n = inr (refl, same (n + 1)) where
  same : (m : ℕ) → m ≤ m
  same m = omega arith

-- no message is of an upload with a fresh token
unsent : (s : State) (e : QueueEntry) → e.token ≡ next_token s → (m : Option Frame) → IsMessageRight s.link.remote s.link.messages s.filter.volume.epoch s.filter.waiting.key_count s.volatile.tokens m → OfRequest (Asks e) m
unsent s e token (Some (frame.Request q)) h = carries_asks e q (λ bytes. subst (λ (t : Token). Carries t bytes q) (sym token) (fresh_request s.filter.volume.epoch s.filter.waiting.key_count s.volatile.tokens bytes q h))
unsent s e token (Some (frame.Reply answers a)) h = tt
unsent s e token None h = tt

entered : (s : State) (e : QueueEntry) (bytes : List ℕ) → e.token ≡ next_token s → IsSound s.link s.volatile.tokens s.filter → IsNewEntry s e bytes → EnteredIn (with_volatile with_token s) e
entered s e bytes token sound new = record {
  fits = new_fits e.action s e bytes token sound new.facts;
  entry = record {
    early = new.early;
    token = subst (λ (t : Token). WasGiven s.filter.volume.epoch (s.volatile.tokens + 1) t.0) (sym token) (last_given s.filter.volume.epoch s.volatile.tokens);
    own = subst (λ (t : Token). 1 ≤ t.0.epoch) (sym token) sound.old;
    item = new.item;
  };
  asked = record {
    did = λ rid version f. absurd (unrecorded s.filter.volume.epoch s.volatile.tokens s.link.remote.tokens (RecordedDone rid version) sound.recorded (subst (λ (t : Token). recorded_at s.link.remote.tokens t ≡ Some (RecordedDone rid version)) token f));
    sent = all_weaker (IsMessageRight s.link.remote s.link.messages s.filter.volume.epoch s.filter.waiting.key_count s.volatile.tokens) (OfRequest (Asks e)) (unsent s e token) s.link.messages sound.messages;
    low = new.low;
    new = new.new;
  };
  apart = new.apart;
  fresh = λ rid version f. unrecorded s.filter.volume.epoch s.volatile.tokens s.link.remote.tokens (RecordedDone rid version) sound.recorded (subst (λ (t : Token). recorded_at s.link.remote.tokens t ≡ Some (RecordedDone rid version)) token f);
  alone = subst (λ (t : Token). All (λ f. same_key f.token.0 t.0 ≡ false) (book_now s).entries) (sym token)
      (all_weaker (IsEntryOf (next_number s.filter.volume) s.filter.volume.next_item.0 s.filter.volume.epoch s.volatile.tokens) (λ f. same_key f.token.0 (key_after s.filter.volume.epoch s.volatile.tokens) ≡ false) (λ f k. fresh_right s.filter.volume.epoch s.volatile.tokens f.token.0 k.token) (book_now s).entries sound.now.given);
  about = new.about;
  named = new.named;
}

-- the request of the upload

pub upload_sends : (a : Action) (e : QueueEntry) (expect : Version) (bytes : List ℕ) → is_upload (request_by a e expect bytes) ≡ true
upload_sends PutFile e expect bytes = refl
upload_sends MakeDir e expect bytes = refl
upload_sends MoveItem e expect bytes = refl
upload_sends RemoveItem e expect bytes = refl

given_upload : (a : Action) (epoch keys tokens : ℕ) (e : QueueEntry) (expect : Version) (bytes : List ℕ) → WasGiven epoch tokens e.token.0 → IsGivenIn epoch keys tokens (request_by a e expect bytes)
given_upload PutFile epoch keys tokens e expect bytes h = h
given_upload MakeDir epoch keys tokens e expect bytes h = h
given_upload MoveItem epoch keys tokens e expect bytes h = h
given_upload RemoveItem epoch keys tokens e expect bytes h = h

names_upload : (a : Action) (r : Held) (items : List Item) (b : Rattle.cf_base.specs.declared.waits.Ask.Ask) (e : QueueEntry) (expect : Version) (bytes : List ℕ) → Names r items b (request_by a e expect bytes)
names_upload PutFile r items b e expect bytes = tt
names_upload MakeDir r items b e expect bytes = tt
names_upload MoveItem r items b e expect bytes = tt
names_upload RemoveItem r items b e expect bytes = tt

other_carries : (a : Action) (e : QueueEntry) (expect : Version) (bytes bs : List ℕ) (t : Token) → same_key e.token.0 t.0 ≡ false → Carries t bs (request_by a e expect bytes)
other_carries PutFile e expect bytes bs t h = λ k. no_way (sym h ∙ k)
other_carries MakeDir e expect bytes bs t h = h
other_carries MoveItem e expect bytes bs t h = h
other_carries RemoveItem e expect bytes bs t h = h

own_carries : (a : Action) (r : Held) (items : List Item) (e : QueueEntry) (expect : Version) (bytes : List ℕ) → NewBy a r items e bytes → CarriesBy a r items (Some (frame.Request (request_by a e expect bytes))) e
own_carries PutFile r items e expect bytes h =
    each_weaker e.item (λ i. (i.directory ≡ false) × (i.placeholder ≡ true) × (list_all is_some i.held ≡ true) × (bytes ≡ put_bytes (base_bytes r i) e.number i.writes)) (λ i. same_key e.token.0 e.token.0 ≡ true → bytes ≡ put_bytes (base_bytes r i) e.number i.writes) (λ i k z. k.3) items h
own_carries MakeDir r items e expect bytes h = tt
own_carries MoveItem r items e expect bytes h = tt
own_carries RemoveItem r items e expect bytes h = tt

others : (a : Action) (r : Held) (items : List Item) (f : Option Frame) (e : QueueEntry) → ((bytes : List ℕ) → OfRequest (Carries e.token bytes) f) → CarriesBy a r items f e
others PutFile r items f e k = anyhow e.item (λ i. OfRequest (Carries e.token (put_bytes (base_bytes r i) e.number i.writes)) f) (λ i. k (put_bytes (base_bytes r i) e.number i.writes)) items
others MakeDir r items f e k = tt
others MoveItem r items f e k = tt
others RemoveItem r items f e k = tt

own_asks : (a : Action) (e : QueueEntry) (expect : Version) (bytes : List ℕ) → e.action ≡ a → Asks e (request_by a e expect bytes)
own_asks PutFile e expect bytes is = λ z. (is, refl)
own_asks MakeDir e expect bytes is = λ z. is
own_asks MoveItem e expect bytes is = λ z. (is, refl)
own_asks RemoveItem e expect bytes is = λ z. (is, refl)

carries_all : (s : State) (e : QueueEntry) (expect : Version) (bytes : List ℕ) → e.token ≡ next_token s → IsSound s.link s.volatile.tokens s.filter → IsNewEntry s e bytes
    → All (FrameCarries s.link.remote (items_now s) (Some (frame.Request (request_of e expect bytes)))) ((book_now s).entries ++ e ∷ [])
carries_all s e expect bytes token sound new =
    all_append (FrameCarries s.link.remote (items_now s) (Some (frame.Request (request_of e expect bytes)))) (book_now s).entries (e ∷ [])
    (all_weaker (IsEntryOf (next_number s.filter.volume) s.filter.volume.next_item.0 s.filter.volume.epoch s.volatile.tokens) (FrameCarries s.link.remote (items_now s) (Some (frame.Request (request_of e expect bytes))))
    (λ f g. (others f.action s.link.remote (items_now s) (Some (frame.Request (request_of e expect bytes))) f (other f g), carries_asks f (request_of e expect bytes) (other f g))) (book_now s).entries sound.now.given)
    ((own_carries e.action s.link.remote (items_now s) e expect bytes new.facts, own_asks e.action e expect bytes refl), tt) where
      other : (f : QueueEntry) → IsEntryOf (next_number s.filter.volume) s.filter.volume.next_item.0 s.filter.volume.epoch s.volatile.tokens f → (bs : List ℕ) → Carries f.token bs (request_of e expect bytes)
      other f g bs = other_carries e.action e expect bytes bs f.token (subst (λ (t : Token). same_key t.0 f.token.0 ≡ false) (sym token) (fresh_left s.filter.volume.epoch s.volatile.tokens f.token.0 g.token))

-- as it is pushed

anchored_entries : (e : QueueEntry) (b : Book) → (anchored e b).entries ≡ b.entries
anchored_entries e b = by (e.item.0 == 0) where
  by : (d : Bool) → (cond d b (with_anchor e.item e.number b)).entries ≡ b.entries
  by true = refl
  by false = refl

anchored_seen : (e : QueueEntry) (b : Book) → (anchored e b).seen ≡ b.seen
anchored_seen e b = by (e.item.0 == 0) where
  by : (d : Bool) → (cond d b (with_anchor e.item e.number b)).seen ≡ b.seen
  by true = refl
  by false = refl

anchored_cursor : (e : QueueEntry) (b : Book) → (anchored e b).cursor ≡ b.cursor
anchored_cursor e b = by (e.item.0 == 0) where
  by : (d : Bool) → (cond d b (with_anchor e.item e.number b)).cursor ≡ b.cursor
  by true = refl
  by false = refl

anchored_buried : (e : QueueEntry) (b : Book) → (anchored e b).tombstones ≡ b.tombstones
anchored_buried e b = by (e.item.0 == 0) where
  by : (d : Bool) → (cond d b (with_anchor e.item e.number b)).tombstones ≡ b.tombstones
  by true = refl
  by false = refl

-- the state in which its request is sent
abbrev Sending : QueueEntry → State → State
Sending e s = with_filter (with_volume (with_sure_point (with_book (anchored e) (with_book (with_entry e) (with_volatile with_token s))).filter.volume) (with_book (anchored e) (with_book (with_entry e) (with_volatile with_token s))).filter) (with_book (anchored e) (with_book (with_entry e) (with_volatile with_token s)))

all_taken : {A : Type 0} (xs : List A) → take (length xs) xs ≡ xs
all_taken [] = refl
all_taken (x ∷ xs) = ap (λ ys. x ∷ ys) (all_taken xs)

upload_now : (a : Action) (s : State) (e : QueueEntry) (expect : Version) (bytes : List ℕ) → PostedNow (Sending e s) (Some (frame.Request (request_by a e expect bytes)))
upload_now PutFile s e expect bytes = tt
upload_now MakeDir s e expect bytes = tt
upload_now MoveItem s e expect bytes = tt
upload_now RemoveItem s e expect bytes = tt

upload_posted : (s : State) (e : QueueEntry) (expect : Version) (bytes : List ℕ) → e.token ≡ next_token s → IsSound s.link s.volatile.tokens s.filter → IsNewEntry s e bytes → PostedIn (Sending e s) (Some (frame.Request (request_of e expect bytes)))
upload_posted s e expect bytes token sound new =
    let now : All (FrameCarries s.link.remote (items_now s) (Some (frame.Request (request_of e expect bytes)))) (anchored e (with_entry e (book_now s))).entries =
    subst (All (FrameCarries s.link.remote (items_now s) (Some (frame.Request (request_of e expect bytes))))) (sym (anchored_entries e (with_entry e (book_now s)))) (carries_all s e expect bytes token sound new) in
    record {
      right = given_upload e.action s.filter.volume.epoch s.filter.waiting.key_count (s.volatile.tokens + 1) e expect bytes (subst (λ (t : Token). WasGiven s.filter.volume.epoch (s.volatile.tokens + 1) t.0) (sym token) (last_given s.filter.volume.epoch s.volatile.tokens));
      named = all_any (λ a. is_fetch a.ask.kind ≡ true → OfRequest (Names s.link.remote (items_now s) a.ask) (Some (frame.Request (request_of e expect bytes)))) (λ a f. names_upload e.action s.link.remote (items_now s) a.ask e expect bytes) s.filter.waiting.asks;
      now = now;
      kept = (subst (λ (items : List Item). All (FrameCarries s.link.remote items (Some (frame.Request (request_of e expect bytes)))) (anchored e (with_entry e (book_now s))).entries) (sound.of_log.0 ∙ sym (ap items_of (all_taken s.filter.volume.log))) now, tt);
    }

no_feed : (a : Action) (e : QueueEntry) (expect : Version) (bytes : List ℕ) → is_feed (frame.Request (request_by a e expect bytes)) ≡ false
no_feed PutFile e expect bytes = refl
no_feed MakeDir e expect bytes = refl
no_feed MoveItem e expect bytes = refl
no_feed RemoveItem e expect bytes = refl

pub push_at : (Q : State → QueueEntry → Type 0) (P : State → Type 0) → Guarded P → EnteringBy Q P → (e : QueueEntry) (expect : Version) (bytes : List ℕ) (s : State) → e.token ≡ next_token s → (IsFair s.link → IsNewEntry s e bytes) → (IsFair s.link → Q (with_volatile with_token s) e) → P s → Keeps P (push e (request_of e expect bytes) s)
push_at Q P closed entering e expect bytes s token new there h = by (why_no_token s) where
  drawn : P (with_volatile with_token s)
  drawn = closed.keeps_volatile_with_token s h

  stored : P (with_book (with_entry e) (with_volatile with_token s))
  stored = entering.enters e (with_volatile with_token s) (λ fair. (entered s e bytes token ((closed.on_filter s h).sound s.filter h fair) (new fair), (new fair).off, there fair)) drawn

  noted : P (with_book (anchored e) (with_book (with_entry e) (with_volatile with_token s)))
  noted = closed.books (anchored e) (with_book (with_entry e) (with_volatile with_token s)) (anchored_entries e) (λ fair. leaves_early (anchored e) (with_book (with_entry e) (with_volatile with_token s)) (anchored_seen e) (cursor_stays (anchored e) (with_book (with_entry e) (with_volatile with_token s)) (anchored_cursor e))) (λ fair. inl (anchored_seen e, anchored_cursor e, inl (anchored_buried e))) stored

  sent : Keeps P (send (request_of e expect bytes) (with_book (anchored e) (with_book (with_entry e) (with_volatile with_token s))))
  sent =
      let c = (closed.on_filter (with_book (anchored e) (with_book (with_entry e) (with_volatile with_token s))) noted).commits.keeps (with_book (anchored e) (with_book (with_entry e) (with_volatile with_token s))).filter noted in
      subst (λ (b : Bool). Keeps P (choose b (then_do (in_filter (in_volume commit)) (send_now (request_of e expect bytes))) (send_now (request_of e expect bytes)) (with_book (anchored e) (with_book (with_entry e) (with_volatile with_token s))))) (sym (upload_sends e.action e expect bytes))
      (c.0, send_now_at P closed (request_of e expect bytes) (Sending e s) (no_feed e.action e expect bytes) (λ fair. upload_posted s e expect bytes token ((closed.on_filter s h).sound s.filter h fair) (new fair)) (λ fair. upload_now e.action s e expect bytes) c.1)

  two : (o : Option Code) → Keeps P (bind (bind (unless_done (in_book (with_entry e)) o (with_volatile with_token s)) left_out) (send_if e (request_of e expect bytes)))
  two None = (drawn, (stored, sent))
  two (Some c) = closed.keeps_skipped c (with_volatile with_token s) drawn

  by : (o : Option Code) → Keeps P (bind (bind (bind (unless_done (one (with_volatile with_token)) o s) left_out) (when_ok false (try_book (with_entry e)))) (send_if e (request_of e expect bytes)))
  by None = (h, two (why_no_record (with_entry e) (with_volatile with_token s)))
  by (Some c) = closed.keeps_skipped c s h
