-- What keeps it that the messages tell the truth.
use Rattle.std.proofs.Common.{◌≡◌, ◌<◌, ◌≤◌, ◌+◌, ℕ, Bool, true, false, List, [], ◌∷◌, refl, sym, subst, inl, inr, arith, length}
use Rattle.std.specs.Prelude.{Option, Some, None, filter, map, not, ◌||◌}
use Rattle.std.specs.List.{list_any}
use Rattle.cf_base.specs.declared.ids.ItemId.{ItemId}
use Rattle.cf_base.specs.declared.ids.Key.{Key}
use Rattle.cf_base.specs.declared.ids.Round.{Round}
use Rattle.cf_base.specs.declared.messages.Entry.{Entry}
use Rattle.cf_base.specs.declared.messages.Reply.{Reply}
use Rattle.cf_base.specs.declared.messages.Reply.TheVariants as reply
use Rattle.cf_base.specs.declared.messages.Request.{Request}
use Rattle.cf_base.specs.declared.messages.Request.TheVariants as request
use Rattle.cf_base.specs.declared.notices.Frame.{Frame}
use Rattle.cf_base.specs.declared.notices.Frame.TheVariants as frame
use Rattle.cf_base.specs.declared.waits.Ask.{Ask}
use Rattle.cf_model.specs.Asks.{after_deed, is_cancelled, is_over, left_of, new_asks, step_of, why, with_keys}
use Rattle.cf_model.specs.Missing.{View, Wait}
use Rattle.cf_model.specs.Requests.{Deed, Live, Waiting, aged, is_list}
use Rattle.cf_model.specs.Store.{Held}
use Rattle.cf_model_laws.specs.GivenOnce.{WasGiven}
use Rattle.cf_model_laws.specs.Invariant.{All, message_in}
use Rattle.cf_model_laws.proofs.Gathered.{all_append, all_filter, all_map, all_weaker}
use Rattle.cf_model_laws.proofs.OutboxFacts.{Boxing}
use Rattle.cf_model_laws.proofs.SoundSettles.{IsNew, deed_ask, new_apart}
use Rattle.cf_model_agreement.specs.Messages.{AreListsRight, IsFeedRight, IsListedRight, IsToldNow, IsTrue}

abbrev pub IsAskedNow : Held → ℕ → ℕ → Bool → ℕ → Round → ℕ → Type 0
IsAskedNow r epoch rounds awaited cursor round after = WasGiven epoch rounds round.0 × (after ≤ r.clock) × (round.0 ≡ record { epoch = epoch; number = rounds } → awaited ≡ true → after ≡ cursor)

-- by what a message is true as before
pub true_later : (r s : Held) (ms more : List (Option Frame)) (e n : ℕ) (awaited : Bool) (c k f m : ℕ) (shut : Bool) (d j : ℕ) → ((round : Round) (after : ℕ) → IsAskedNow r e n awaited c round after → IsAskedNow s f m shut d round after) → ((key : Key) → WasGiven e k key → WasGiven f j key)
    → ((number : ℕ) (g : Frame) → message_in ms number ≡ Some g → message_in more number ≡ Some g) → ((after clock : ℕ) (es : List Entry) → IsFeedRight r after clock es → IsFeedRight s after clock es)
    → (x : Option Frame) → IsTrue r ms e n awaited c k x → IsTrue s more f m shut d j x
true_later r s ms more e n awaited c k f m shut d j asks keys longer told (Some (frame.Request (request.Feed round after))) h = asks round after h
true_later r s ms more e n awaited c k f m shut d j asks keys longer told (Some (frame.Request (request.List key rid))) h = keys key h
true_later r s ms more e n awaited c k f m shut d j asks keys longer told (Some (frame.Request (request.Fetch key rid version start len))) h = tt
true_later r s ms more e n awaited c k f m shut d j asks keys longer told (Some (frame.Request (request.Put t rid expect parent name bytes))) h = tt
true_later r s ms more e n awaited c k f m shut d j asks keys longer told (Some (frame.Request (request.MakeDir t parent name))) h = tt
true_later r s ms more e n awaited c k f m shut d j asks keys longer told (Some (frame.Request (request.Move t rid parent name))) h = tt
true_later r s ms more e n awaited c k f m shut d j asks keys longer told (Some (frame.Request (request.Remove t rid expect))) h = tt
true_later r s ms more e n awaited c k f m shut d j asks keys longer told (Some (frame.Request (request.Settle t))) h = tt
true_later r s ms more e n awaited c k f m shut d j asks keys longer told (Some (frame.Request (request.Keep t count))) h = tt
true_later r s ms more e n awaited c k f m shut d j asks keys longer told (Some (frame.Reply answers (reply.Feed round clock es))) h = (h.0, h.1, longer answers (frame.Request (request.Feed h.0 h.1)) h.2, told h.1 clock es h.3)
true_later r s ms more e n awaited c k f m shut d j asks keys longer told (Some (frame.Reply answers (reply.Listing key es))) h = keys key h
true_later r s ms more e n awaited c k f m shut d j asks keys longer told (Some (frame.Reply answers (reply.Bytes key start bytes))) h = tt
true_later r s ms more e n awaited c k f m shut d j asks keys longer told (Some (frame.Reply answers (reply.Missing key))) h = tt
true_later r s ms more e n awaited c k f m shut d j asks keys longer told (Some (frame.Reply answers (reply.Done token rid version))) h = tt
true_later r s ms more e n awaited c k f m shut d j asks keys longer told (Some (frame.Reply answers (reply.Void token))) h = tt
true_later r s ms more e n awaited c k f m shut d j asks keys longer told (Some (frame.Reply answers (reply.Refused token w version))) h = tt
true_later r s ms more e n awaited c k f m shut d j asks keys longer told (Some (frame.Reply answers (reply.Gone key))) h = tt
true_later r s ms more e n awaited c k f m shut d j asks keys longer told None h = tt

-- of a listing, by what its entries are told as before
pub listed_later : (r s : Held) (c d : ℕ) (key : Key) → ((e : Entry) → IsToldNow r c e → IsToldNow s d e) → (x : Option Frame) → IsListedRight r c key x → IsListedRight s d key x
listed_later r s c d key told (Some (frame.Request q)) h = tt
listed_later r s c d key told (Some (frame.Reply answers (reply.Feed round clock es))) h = tt
listed_later r s c d key told (Some (frame.Reply answers (reply.Listing other es))) h = λ z. all_weaker (λ e. (e.live ≡ true) × IsToldNow r c e) (λ e. (e.live ≡ true) × IsToldNow s d e) (λ e k. (k.0, told e k.1)) es (h z)
listed_later r s c d key told (Some (frame.Reply answers (reply.Bytes k start bytes))) h = tt
listed_later r s c d key told (Some (frame.Reply answers (reply.Missing k))) h = tt
listed_later r s c d key told (Some (frame.Reply answers (reply.Done token rid version))) h = tt
listed_later r s c d key told (Some (frame.Reply answers (reply.Void token))) h = tt
listed_later r s c d key told (Some (frame.Reply answers (reply.Refused token w version))) h = tt
listed_later r s c d key told (Some (frame.Reply answers (reply.Gone k))) h = tt
listed_later r s c d key told None h = tt

pub lists_later : (r s : Held) (ms : List (Option Frame)) (c d : ℕ) → ((e : Entry) → IsToldNow r c e → IsToldNow s d e) → (asks : List Live) → AreListsRight r ms c asks → AreListsRight s ms d asks
lists_later r s ms c d told asks h =
    all_weaker (λ a. is_list a.ask.kind ≡ true → All (IsListedRight r c a.ask.key) ms) (λ a. is_list a.ask.kind ≡ true → All (IsListedRight s d a.ask.key) ms)
    (λ a k z. all_weaker (IsListedRight r c a.ask.key) (IsListedRight s d a.ask.key) (listed_later r s c d a.ask.key told) ms (k z)) asks h

-- no list ask is live
pub lists_none : (r : Held) (ms : List (Option Frame)) (c : ℕ) (asks : List Live) → list_any (λ a. is_list a.ask.kind) asks ≡ false → AreListsRight r ms c asks
lists_none r ms c [] e = tt
lists_none r ms c (a ∷ as') e = (λ z. absurd (first (is_list a.ask.kind) (list_any (λ b. is_list b.ask.kind) as') e z), lists_none r ms c as' (rest (is_list a.ask.kind) (list_any (λ b. is_list b.ask.kind) as') e)) where
  clash : ◌≡◌ {A = Bool} true false → ⊥
  clash z = cc

  first : (a b : Bool) → (a || b) ≡ false → a ≡ true → ⊥
  first true b e z = clash e
  first false b e z = clash (sym z)

  rest : (a b : Bool) → (a || b) ≡ false → b ≡ false
  rest true b e = absurd (clash e)
  rest false b e = e

-- asks under new keys

-- no listing among the messages has a key that was not given
pub new_listed : (r : Held) (ms all : List (Option Frame)) (e n : ℕ) (awaited : Bool) (c k : ℕ) (key : Key) → IsNew e k key → All (IsTrue r all e n awaited c k) ms → All (IsListedRight r c key) ms
new_listed r ms all e n awaited c k key new h = all_weaker (IsTrue r all e n awaited c k) (IsListedRight r c key) one ms h where
  one : (x : Option Frame) → IsTrue r all e n awaited c k x → IsListedRight r c key x
  one (Some (frame.Request q)) g = tt
  one (Some (frame.Reply answers (reply.Feed round clock es))) g = tt
  one (Some (frame.Reply answers (reply.Listing other es))) g = λ z. absurd (new_apart e k key other new g z)
  one (Some (frame.Reply answers (reply.Bytes other start bytes))) g = tt
  one (Some (frame.Reply answers (reply.Missing other))) g = tt
  one (Some (frame.Reply answers (reply.Done token rid version))) g = tt
  one (Some (frame.Reply answers (reply.Void token))) g = tt
  one (Some (frame.Reply answers (reply.Refused token w version))) g = tt
  one (Some (frame.Reply answers (reply.Gone other))) g = tt
  one None g = tt

keys_new : (e n : ℕ) (asks : List Live) → All (λ a. IsNew e n a.ask.key) (with_keys e n asks)
keys_new e n [] = tt
keys_new e n (a ∷ as') = ((refl, one n), all_weaker (λ b. IsNew e (n + 1) b.ask.key) (λ b. IsNew e n b.ask.key) (λ b k. (k.0, more n b.ask.key.number k.1)) (with_keys e (n + 1) as') (keys_new e (n + 1) as')) where
  one : (n : ℕ) → n < n + 1
  one n = omega arith

  more : (n k : ℕ) → n + 1 < k → n < k
  more n k h = omega (arith, h)

pub given_more : (e n m : ℕ) (key : Key) → WasGiven e n key → WasGiven e (n + m) key
given_more e n m key (inl h) = inl h
given_more e n m key (inr h) = inr (h.0, more key.number n m h.1) where
  more : (a b c : ℕ) → a ≤ b → a ≤ b + c
  more a b c h = omega (arith, h)

-- of the asks of a filter, beside these messages
module _ (r : Held) (ms : List (Option Frame)) (epoch rounds : ℕ) (awaited : Bool) (cursor : ℕ) where
  abbrev pub Lists : List Ask → Waiting → Type 0
  Lists o w = (w.epoch ≡ epoch) × All (IsTrue r ms epoch rounds awaited cursor w.key_count) ms × AreListsRight r ms cursor w.asks

  abbrev IsRight : Live → Type 0
  IsRight a = is_list a.ask.kind ≡ true → All (IsListedRight r cursor a.ask.key) ms

  keys_more : (n m : ℕ) → All (IsTrue r ms epoch rounds awaited cursor n) ms → All (IsTrue r ms epoch rounds awaited cursor (n + m)) ms
  keys_more n m h = all_weaker (IsTrue r ms epoch rounds awaited cursor n) (IsTrue r ms epoch rounds awaited cursor (n + m))
      (true_later r r ms ms epoch rounds awaited cursor n epoch rounds awaited cursor (n + m) (λ round after k. k) (λ key k. given_more epoch n m key k) (λ number g k. k) (λ after clock es k. k)) ms h

  step_lists : (o : List Ask) (w : Waiting) (item : ItemId) (v : View) (d : Deed) → Lists o w → Lists o (step_of item v d w).1
  step_lists o w item v d h = (h.0, keys_more w.key_count (length made) h.1, all_append IsRight kept made kept_right made_right) where
    ws : List Wait
    ws = left_of (why item v d w.asks) w.waits

    kept : List Live
    kept = filter (λ a. not (is_cancelled item v d ws a)) (filter (λ a. not (is_over d a)) (map (after_deed d) w.asks))

    made : List Live
    made = with_keys w.epoch w.key_count (new_asks item v ws kept)

    kept_right : All IsRight kept
    kept_right =
        all_filter IsRight (λ a. not (is_cancelled item v d ws a)) (filter (λ a. not (is_over d a)) (map (after_deed d) w.asks))
        (all_filter IsRight (λ a. not (is_over d a)) (map (after_deed d) w.asks) (all_map IsRight IsRight (after_deed d) (λ a k. subst (λ (q : Ask). is_list q.kind ≡ true → All (IsListedRight r cursor q.key) ms) (sym (deed_ask d a)) k) w.asks h.2))

    made_right : All IsRight made
    made_right =
        all_weaker (λ a. IsNew w.epoch w.key_count a.ask.key) IsRight
        (λ a k _. new_listed r ms ms epoch rounds awaited cursor w.key_count a.ask.key (subst (λ (n : ℕ). IsNew n w.key_count a.ask.key) h.0 k) h.1) made (keys_new w.epoch w.key_count (new_asks item v ws kept))

  -- over a remote that keeps its rules
  pub lists_boxing : (Fair : Type 0) → Boxing (λ o w. Fair → Lists o w)
  lists_boxing Fair = record {
    steps = λ o w item v d h. ((λ fair. step_lists o w item v d (h fair)), (λ fair. step_lists o w item v d (h fair)));
    begins = λ o w ws h fair. h fair;
    downs = λ o w h fair. ((h fair).0, (h fair).1, tt);
    ticks = λ o w n h fair. ((h fair).0, (h fair).1, all_map IsRight IsRight (aged n) (λ a k. k) w.asks (h fair).2);
    pops = λ a o w h fair. h fair;
  }
