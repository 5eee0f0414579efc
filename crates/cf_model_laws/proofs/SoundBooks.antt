-- Records of the book, points and openings keep the whole sound.
use Rattle.std.proofs.Common.{◌≡◌, ◌⊎◌, ◌<◌, ◌≤◌, ℕ, zero, suc, Bool, true, false, List, [], ◌∷◌, ◌++◌, refl, sym, ap, subst, inl, inr, arith, length, take, min}
use Rattle.std.specs.Prelude.{Option, Some, None, filter, cond}
use Rattle.std.proofs.lemmas.Bool.Decides.{nat_tests}
use Rattle.std.proofs.lemmas.List.{length-take}
use Rattle.std.proofs.Math.Seq.{take-length}
use Rattle.cf_base.specs.declared.changes.Change.{Change}
use Rattle.cf_base.specs.declared.ids.ItemId.{ItemId}
use Rattle.cf_base.specs.declared.ids.Usn.{Usn}
use Rattle.cf_base.specs.declared.messages.Request.{Request}
use Rattle.cf_base.specs.declared.messages.Request.TheVariants as request
use Rattle.cf_base.specs.declared.notices.Frame.{Frame}
use Rattle.cf_base.specs.declared.notices.Frame.TheVariants as frame
use Rattle.cf_base.specs.declared.waits.Ask.{Ask}
use Rattle.cf_model.specs.Books.{Book, QueueEntry}
use Rattle.cf_model.specs.Items.{Item}
use Rattle.cf_model.specs.Logs.{items_of, next_of}
use Rattle.cf_model.specs.Missing.{Wait}
use Rattle.cf_model.specs.Numbers.{above, usn_after, same_key}
use Rattle.cf_model.specs.Points.{Opens}
use Rattle.cf_model.specs.Requests.{Live}
use Rattle.cf_model.specs.State.{Point}
use Rattle.cf_model.specs.Store.{Held}
use Rattle.cf_model_laws.specs.GivenOnce.{WasGiven}
use Rattle.cf_model_laws.specs.Invariant.{All, AreApart, EntryFits, IsDurable, IsEntryOf, IsGivenIn, IsMessageRight, IsPointRight, IsSoundOf, NoItem, IsAskedFor, NamesTarget}
use Rattle.cf_model_laws.proofs.Gathered.{all_append, all_filter, all_weaker}
use Rattle.cf_model_laws.proofs.OnceLaws.{later}
use Rattle.cf_model_laws.proofs.SoundChanges.{durable_later}
use Rattle.cf_model_laws.proofs.MadeUploads.{IsAbout, NoRecord, made_entered, made_fewer}

Log : Type 0
Log = List (Usn × Change)

-- an entry more

apart_more : (es : List QueueEntry) (e : QueueEntry) → All (λ f. f.item.0 ≡ e.item.0 → f.item.0 ≡ 0) es → AreApart es → AreApart (es ++ e ∷ [])
apart_more [] e k h = (tt, tt)
apart_more (f ∷ es) e k h = (all_append (λ g. g.item.0 ≡ f.item.0 → f.item.0 ≡ 0) es (e ∷ []) h.0 (λ z. k.0 (sym z), tt), apart_more es e k.1 h.1)

apart_fewer : (p : QueueEntry → Bool) (es : List QueueEntry) → AreApart es → AreApart (filter p es)
apart_fewer p [] h = tt
apart_fewer p (e ∷ es) h = by (p e) (apart_fewer p es h.1) where
  by : (b : Bool) → AreApart (filter p es) → AreApart (cond b (e ∷ filter p es) (filter p es))
  by true k = (all_filter (λ f. f.item.0 ≡ e.item.0 → e.item.0 ≡ 0) p es h.0, k)
  by false k = k

-- what a new entry needs
pub record EnteredWell (r : Held) (ms : List (Option Frame)) (epoch tokens : ℕ) (n : Usn) (next_item : ℕ) (items : List Item) (es : List QueueEntry) (e : QueueEntry) : Type 0 where
  pub fits : EntryFits r ms items e
  pub entry : IsEntryOf n next_item epoch tokens e
  pub asked : IsAskedFor r ms e
  pub apart : All (λ f. f.item.0 ≡ e.item.0 → f.item.0 ≡ 0) es
  pub fresh : NoRecord r e
  pub alone : All (λ f. same_key f.token.0 e.token.0 ≡ false) es
  pub about : IsAbout r es e
  pub named : NamesTarget items e

pub durable_entered : (r : Held) (ms : List (Option Frame)) (epoch tokens : ℕ) (n : Usn) (next_item : ℕ) (items : List Item) (es : List QueueEntry) (e : QueueEntry) → EnteredWell r ms epoch tokens n next_item items es e
    → IsDurable r ms epoch tokens n next_item items es → IsDurable r ms epoch tokens n next_item items (es ++ e ∷ [])
durable_entered r ms epoch tokens n next_item items es e well h = record {
  contents = h.contents;
  right = h.right;
  order = h.order;
  more = h.more;
  fit = all_append (EntryFits r ms items) es (e ∷ []) h.fit (well.fits, tt);
  given = all_append (IsEntryOf n next_item epoch tokens) es (e ∷ []) h.given (well.entry, tt);
  asked = all_append (IsAskedFor r ms) es (e ∷ []) h.asked (well.asked, tt);
  apart = apart_more es e well.apart h.apart;
  made = made_entered r items es e well.fresh well.alone well.about h.made;
  targets = all_append (NamesTarget items) es (e ∷ []) h.targets (well.named, tt);
}

pub durable_fewer : (r : Held) (ms : List (Option Frame)) (epoch tokens : ℕ) (n : Usn) (next_item : ℕ) (items : List Item) (p : QueueEntry → Bool) (es : List QueueEntry)
    → IsDurable r ms epoch tokens n next_item items es → IsDurable r ms epoch tokens n next_item items (filter p es)
durable_fewer r ms epoch tokens n next_item items p es h = record {
  contents = h.contents;
  right = h.right;
  order = h.order;
  more = h.more;
  fit = all_filter (EntryFits r ms items) p es h.fit;
  given = all_filter (IsEntryOf n next_item epoch tokens) p es h.given;
  asked = all_filter (IsAskedFor r ms) p es h.asked;
  apart = apart_fewer p es h.apart;
  made = made_fewer r items p es h.made;
  targets = all_filter (NamesTarget items) p es h.targets;
}

-- another book with these entries
pub book_sound : (But : ItemId → Type 0) (r : Held) (ms : List (Option Frame)) (tokens epoch place : ℕ) (log : List (Usn × Change)) (items : List Item) (next_item : ℕ) (points : List Point) (entries new : List QueueEntry)
    (asks_epoch : ℕ) (ws : List Wait) (asks : List Live) (keys : ℕ) (outbox : List Ask) (validate : Bool)
    → (IsDurable r ms epoch tokens (usn_after epoch place) next_item items entries → IsDurable r ms epoch tokens (usn_after epoch place) next_item items new)
    → IsSoundOf But r ms tokens epoch place log items next_item points entries asks_epoch ws asks keys outbox validate
    → IsSoundOf But r ms tokens epoch place log items next_item points new asks_epoch ws asks keys outbox validate
book_sound But r ms tokens epoch place log items next_item points entries new asks_epoch ws asks keys outbox validate k h = record {
  counted = h.counted;
  recorded = h.recorded;
  messages = h.messages;
  old = h.old;
  of_log = h.of_log;
  now = k h.now;
  kept = h.kept;
  one_epoch = h.one_epoch;
  numbered = h.numbered;
  lives = h.lives;
  lack = h.lack;
  boxed = h.boxed;
  unvalidated = h.unvalidated;
}

-- more tokens, or a later epoch

given_later : (e f k m c d : ℕ) → (e < f) ⊎ ((f ≡ e) × (k ≤ m)) → (e < f) ⊎ ((f ≡ e) × (c ≤ d)) → (q : Request) → IsGivenIn e k c q → IsGivenIn f m d q
given_later e f k m c d a b (request.Fetch key rid version start len) h = later e f k m key a h
given_later e f k m c d a b (request.Feed round after) h = h
given_later e f k m c d a b (request.List key rid) h = h
given_later e f k m c d a b (request.Put token rid expect parent name bytes) h = later e f c d token.0 b h
given_later e f k m c d a b (request.MakeDir token parent name) h = later e f c d token.0 b h
given_later e f k m c d a b (request.Move token rid parent name) h = later e f c d token.0 b h
given_later e f k m c d a b (request.Remove token rid expect) h = later e f c d token.0 b h
given_later e f k m c d a b (request.Settle token) h = later e f c d token.0 b h
given_later e f k m c d a b (request.Keep token count) h = later e f c d token.0 b h

message_later : (r : Held) (ms : List (Option Frame)) (e f k m c d : ℕ) → (e < f) ⊎ ((f ≡ e) × (k ≤ m)) → (e < f) ⊎ ((f ≡ e) × (c ≤ d)) → (x : Option Frame) → IsMessageRight r ms e k c x → IsMessageRight r ms f m d x
message_later r ms e f k m c d a b (Some (frame.Request q)) h = given_later e f k m c d a b q h
message_later r ms e f k m c d a b (Some (frame.Reply answers q)) h = h
message_later r ms e f k m c d a b None h = h

grows_above : (e p f q : ℕ) → e < f → above (usn_after f q) (usn_after e p) ≡ true
grows_above e p f q h = grind (arith, nat_tests, h)

same_le : (m : ℕ) → m ≤ m
same_le m = omega arith

durable_tokens : (r : Held) (ms : List (Option Frame)) (n : Usn) (next epoch tokens more : ℕ) (items : List Item) (es : List QueueEntry) → tokens ≤ more → IsDurable r ms epoch tokens n next items es → IsDurable r ms epoch more n next items es
durable_tokens r ms n next epoch tokens more items es k h = record {
  contents = h.contents;
  right = h.right;
  order = h.order;
  more = h.more;
  fit = h.fit;
  asked = h.asked;
  apart = h.apart;
  made = h.made;
  targets = h.targets;
  given = all_weaker (IsEntryOf n next epoch tokens) (IsEntryOf n next epoch more) (λ q g. record { early = g.early; token = later epoch epoch tokens more q.token.0 (inr (refl, k)) g.token; own = g.own; item = g.item }) es h.given;
}

pub tokens_sound : (But : ItemId → Type 0) (r : Held) (ms : List (Option Frame)) (tokens more epoch place : ℕ) (log : List (Usn × Change)) (items : List Item) (next_item : ℕ) (points : List Point) (entries : List QueueEntry)
    (asks_epoch : ℕ) (ws : List Wait) (asks : List Live) (keys : ℕ) (outbox : List Ask) (validate : Bool) → tokens ≤ more
    → IsSoundOf But r ms tokens epoch place log items next_item points entries asks_epoch ws asks keys outbox validate
    → IsSoundOf But r ms more epoch place log items next_item points entries asks_epoch ws asks keys outbox validate
tokens_sound But r ms tokens more epoch place log items next_item points entries asks_epoch ws asks keys outbox validate k h = record {
  counted = h.counted;
  old = h.old;
  of_log = h.of_log;
  one_epoch = h.one_epoch;
  numbered = h.numbered;
  lives = h.lives;
  lack = h.lack;
  boxed = h.boxed;
  unvalidated = h.unvalidated;
  recorded = all_weaker (λ t. WasGiven epoch tokens t.0.0) (λ t. WasGiven epoch more t.0.0) (λ t g. later epoch epoch tokens more t.0.0 (inr (refl, k)) g) r.tokens h.recorded;
  messages = all_weaker (IsMessageRight r ms epoch keys tokens) (IsMessageRight r ms epoch keys more) (message_later r ms epoch epoch keys keys tokens more (inr (refl, same_le keys)) (inr (refl, k))) ms h.messages;
  now = durable_tokens r ms (usn_after epoch place) next_item epoch tokens more items entries k h.now;
  kept = all_weaker (IsPointRight r ms epoch tokens (usn_after epoch place) log) (IsPointRight r ms epoch more (usn_after epoch place) log)
      (λ p g. (g.0, durable_tokens r ms (usn_after epoch place) (next_of (take p.count log)) epoch tokens more (items_of (take p.count log)) p.book.entries k g.1)) points h.kept;
}

-- points

pub point_sound : (But : ItemId → Type 0) (r : Held) (ms : List (Option Frame)) (tokens epoch place : ℕ) (log : List (Usn × Change)) (items : List Item) (next_item : ℕ) (points : List Point) (book : Book)
    (asks_epoch : ℕ) (ws : List Wait) (asks : List Live) (keys : ℕ) (outbox : List Ask) (validate : Bool) (sure : Bool)
    → IsSoundOf But r ms tokens epoch place log items next_item points book.entries asks_epoch ws asks keys outbox validate
    → IsPointRight r ms epoch tokens (usn_after epoch place) log (record { sure = sure; count = length log; book = book })
point_sound But r ms tokens epoch place log items next_item points book asks_epoch ws asks keys outbox validate sure h = (
  same_le (length log),
  subst (λ (l : List (Usn × Change)). IsDurable r ms epoch tokens (usn_after epoch place) (next_of l) (items_of l) book.entries) (sym (take-length log))
      (subst (λ (is : List Item). IsDurable r ms epoch tokens (usn_after epoch place) (next_of log) is book.entries) h.of_log.0
      (subst (λ (n : ℕ). IsDurable r ms epoch tokens (usn_after epoch place) n items book.entries) h.of_log.1 h.now)),
)

pub points_sound : (But : ItemId → Type 0) (r : Held) (ms : List (Option Frame)) (tokens epoch place : ℕ) (log : List (Usn × Change)) (items : List Item) (next_item : ℕ) (points new : List Point) (entries : List QueueEntry)
    (asks_epoch : ℕ) (ws : List Wait) (asks : List Live) (keys : ℕ) (outbox : List Ask) (validate : Bool)
    → All (IsPointRight r ms epoch tokens (usn_after epoch place) log) new
    → IsSoundOf But r ms tokens epoch place log items next_item points entries asks_epoch ws asks keys outbox validate
    → IsSoundOf But r ms tokens epoch place log items next_item new entries asks_epoch ws asks keys outbox validate
points_sound But r ms tokens epoch place log items next_item points new entries asks_epoch ws asks keys outbox validate k h = record {
  counted = h.counted;
  recorded = h.recorded;
  messages = h.messages;
  old = h.old;
  of_log = h.of_log;
  now = h.now;
  kept = k;
  one_epoch = h.one_epoch;
  numbered = h.numbered;
  lives = h.lives;
  lack = h.lack;
  boxed = h.boxed;
  unvalidated = h.unvalidated;
}

-- an opening

opens_right : (r : Held) (ms : List (Option Frame)) (epoch tokens : ℕ) (n : Usn) (log : List (Usn × Change)) (ps : List Point) (p : Point) → All (IsPointRight r ms epoch tokens n log) ps → Opens ps p → IsPointRight r ms epoch tokens n log p
opens_right r ms epoch tokens n log [] p h is = elim is as (λ _. IsPointRight r ms epoch tokens n log p) [ ]
opens_right r ms epoch tokens n log (q ∷ ps) p h (inl e) = subst (λ (x : Point). IsPointRight r ms epoch tokens n log x) (sym e) h.0
opens_right r ms epoch tokens n log (q ∷ ps) p h (inr is) = opens_right r ms epoch tokens n log ps p h.1 is

take_again : (k : ℕ) (xs : List (Usn × Change)) → take k (take k xs) ≡ take k xs
take_again zero xs = refl
take_again (suc k) [] = refl
take_again (suc k) (x ∷ xs) = ap (λ (ys : List (Usn × Change)). x ∷ ys) (take_again k xs)

pub opened_sound : (But : ItemId → Type 0) (r : Held) (ms : List (Option Frame)) (tokens epoch place : ℕ) (log : List (Usn × Change)) (items : List Item) (next_item : ℕ) (points : List Point) (entries : List QueueEntry)
    (asks_epoch : ℕ) (ws : List Wait) (asks : List Live) (keys : ℕ) (outbox : List Ask) (validate : Bool) (p : Point) (new : ℕ) → epoch < new → Opens points p
    → IsSoundOf But r ms tokens epoch place log items next_item points entries asks_epoch ws asks keys outbox validate
    → IsSoundOf NoItem r ms 0 new 0 (take p.count log) (items_of (take p.count log)) (next_of (take p.count log)) (record { sure = true; count = p.count; book = p.book } ∷ []) p.book.entries new [] [] 0 [] validate
opened_sound But r ms tokens epoch place log items next_item points entries asks_epoch ws asks keys outbox validate p new small is h =
    let k : IsPointRight r ms epoch tokens (usn_after epoch place) log p = opens_right r ms epoch tokens (usn_after epoch place) log points p h.kept is in
    let d : IsDurable r ms new 0 (usn_after new 0) (next_of (take p.count log)) (items_of (take p.count log)) p.book.entries =
    durable_later r ms (usn_after epoch place) (usn_after new 0) (next_of (take p.count log)) epoch tokens new 0 (items_of (take p.count log)) p.book.entries (grows_above epoch place new 0 small) (inl small) k.1 in
    record {
      counted = h.counted;
      of_log = (refl, refl);
      one_epoch = refl;
      numbered = tt;
      lives = tt;
      lack = tt;
      boxed = tt;
      unvalidated = h.unvalidated;
      recorded = all_weaker (λ t. WasGiven epoch tokens t.0.0) (λ t. WasGiven new 0 t.0.0) (λ t g. later epoch new tokens 0 t.0.0 (inl small) g) r.tokens h.recorded;
      messages = all_weaker (IsMessageRight r ms epoch keys tokens) (IsMessageRight r ms new 0 0) (message_later r ms epoch new keys 0 tokens 0 (inl small) (inl small)) ms h.messages;
      old = let z : 1 ≤ epoch = h.old in let y : 1 ≤ new = omega (arith, z, small) in y;
      now = d;
      kept = (
        (
          subst (λ (m : ℕ). p.count ≤ m) (sym (length-take p.count log)) (least p.count (length log) k.0),
          subst (λ (l : List (Usn × Change)). IsDurable r ms new 0 (usn_after new 0) (next_of l) (items_of l) p.book.entries) (sym (take_again p.count log)) d,
        ),
        tt,
      );
    }
  where
    least : (a b : ℕ) → a ≤ b → a ≤ min a b
    least a b h = omega (arith, h)
