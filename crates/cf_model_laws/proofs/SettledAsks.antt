-- After a step and what follows it by the ask rule the whole is sound.
use Rattle.std.proofs.Common.{◌≡◌, ◌⊎◌, ◌<◌, ◌≤◌, ◌+◌, ℕ, Bool, true, false, List, [], ◌∷◌, ◌++◌, refl, sym, ◌∙◌, ap, subst, inl, inr, arith, length, suc, eq-eqb}
use Rattle.std.proofs.lemmas.Bool.{eqb-true}
use Rattle.std.specs.Prelude.{Option, Some, None, map, filter, not, ◌&&◌, ◌||◌, ◌==◌}
use Rattle.std.specs.List.{list_any}
use Rattle.cf_base.specs.declared.ids.ItemId.{ItemId}
use Rattle.cf_base.specs.declared.ids.Key.{Key}
use Rattle.cf_base.specs.declared.messages.Request.{Request}
use Rattle.cf_base.specs.declared.messages.Request.TheVariants as request
use Rattle.cf_base.specs.declared.notices.Frame.{Frame}
use Rattle.cf_base.specs.declared.notices.Frame.TheVariants as frame
use Rattle.cf_base.specs.declared.waits.Ask.{Ask}
use Rattle.cf_base.specs.declared.waits.AskKind.{AskKind}
use Rattle.cf_base.specs.declared.waits.AskKind.TheVariants as ask_kind
use Rattle.cf_model.specs.Asks.{after_deed, is_cancelled, is_cut, is_idle, is_idle_by, is_over, is_wanted, left_of, new_asks, why, with_keys}
use Rattle.cf_model.specs.Items.{Item}
use Rattle.cf_model.specs.Missing.{View, Wait}
use Rattle.cf_model.specs.Numbers.{no_key, same_key}
use Rattle.cf_model.specs.Requests.{Deed, Live, Told, Waiting, is_fetch}
use Rattle.cf_model.specs.Settling.{told_at, view_at, with_waiting}
use Rattle.cf_model.specs.State.{Filter, Link}
use Rattle.cf_model.specs.Store.{Held}
use Rattle.cf_model_laws.specs.GivenOnce.{WasGiven}
use Rattle.cf_model_laws.specs.Invariant.{All, InOrder, IsGivenIn, IsLiveRight, IsMessageRight, IsSound, IsSoundBut, Lacks, Names, NoItem, OfRequest, waits_on}
use Rattle.cf_model_laws.proofs.FitAsks.{LackAt, LiveAt}
use Rattle.cf_model_laws.proofs.Gathered.{all_append, all_both, all_filter, all_map, all_passed, all_weaker}
use Rattle.cf_model_laws.proofs.OnceLaws.{later}
use Rattle.cf_model_laws.proofs.RightItems.{no_way, no_way_back}
use Rattle.cf_model_laws.proofs.SoundSettles.{IsNew, Made, Wanted, deed_ask, keys_made, left_true, new_apart, new_asked, no_cause, not_false, not_true, right_true, same_item, stays_waiting, wanted_by}

-- numbers of keys

more_given : (epoch n m : ℕ) (k : Key) → WasGiven epoch n k → WasGiven epoch (n + m) k
more_given epoch n m k h = later epoch epoch n (n + m) k (inr (refl, le n m)) h where
  le : (n m : ℕ) → n ≤ n + m
  le n m = omega arith

pub given_more : (epoch n m tokens : ℕ) (q : Request) → IsGivenIn epoch n tokens q → IsGivenIn epoch (n + m) tokens q
given_more epoch n m tokens (request.Fetch key rid version start len) h = more_given epoch n m key h
given_more epoch n m tokens (request.Feed round after) h = h
given_more epoch n m tokens (request.List key rid) h = h
given_more epoch n m tokens (request.Put token rid expect parent name bytes) h = h
given_more epoch n m tokens (request.MakeDir token parent name) h = h
given_more epoch n m tokens (request.Move token rid parent name) h = h
given_more epoch n m tokens (request.Remove token rid expect) h = h
given_more epoch n m tokens (request.Settle token) h = h
given_more epoch n m tokens (request.Keep token count) h = h

message_more : (l : Link) (epoch n m tokens : ℕ) (f : Option Frame) → IsMessageRight l.remote l.messages epoch n tokens f → IsMessageRight l.remote l.messages epoch (n + m) tokens f
message_more l epoch n m tokens (Some (frame.Request q)) h = given_more epoch n m tokens q h
message_more l epoch n m tokens (Some (frame.Reply answers a)) h = h
message_more l epoch n m tokens None h = h

-- an ask that stays

cut_free : (item : ItemId) (v : View) (d : Deed) (ws : List Wait) (a : Live) → is_cancelled item v d ws a ≡ false → is_idle item v ws a ≡ false
cut_free item v d ws a h = by (is_cut item d a) (is_idle item v ws a) h where
  by : (b c : Bool) → (b || c) ≡ false → c ≡ false
  by true c e = no_way_back e
  by false c e = e

and_false : (a b : Bool) → (a && b) ≡ false → a ≡ true → b ≡ false
and_false true b h e = h
and_false false b h e = no_way e

wants_block : (x : Filter) (item : ItemId) (ws : List Wait) (a : Live) → x.policy.validate ≡ false → InOrder 0 x.volume.next_item.0 x.volume.items → is_fetch a.ask.kind ≡ true → is_idle_by a.ask.kind item (view_at x item) ws a ≡ false
    → Wanted x.volume.next_item.0 x.volume.items ws item
wants_block x item ws a plain order k h = by a.ask.kind k h where
  some : (bs : List ℕ) → list_any (is_wanted item (view_at x item) ws) bs ≡ true → Wanted x.volume.next_item.0 x.volume.items ws item
  some [] e = no_way e
  some (b ∷ bs) e = one (is_wanted item (view_at x item) ws b) refl e (some bs) where
    one : (c : Bool) → is_wanted item (view_at x item) ws b ≡ c → (c || list_any (is_wanted item (view_at x item) ws) bs) ≡ true → (list_any (is_wanted item (view_at x item) ws) bs ≡ true → Wanted x.volume.next_item.0 x.volume.items ws item)
        → Wanted x.volume.next_item.0 x.volume.items ws item
    one true q e g = wanted_by x item ws b plain order q
    one false q e g = g e

  by : (kind : AskKind) → is_fetch kind ≡ true → is_idle_by kind item (view_at x item) ws a ≡ false → Wanted x.volume.next_item.0 x.volume.items ws item
  by ask_kind.Fetch e g = some a.owned (not_false (list_any (is_wanted item (view_at x item) ws) a.owned) g)
  by ask_kind.Validate e g = no_way e
  by ask_kind.List e g = no_way e
  by ask_kind.Dehydrate e g = no_way e

-- what was known of an ask before, and what is known of it after
pub record Before (But : ItemId → Type 0) (r : Held) (ms : List (Option Frame)) (keys epoch next : ℕ) (items : List Item) (ws : List Wait) (outbox : List Ask) (a : Ask) : Type 0 where
  pub live : IsLiveRight r ms keys epoch next items ws outbox a
  pub lacks : Lacks a.item items ⊎ But a.item

abbrev BeforeAt : (ItemId → Type 0) → Held → List (Option Frame) → ℕ → ℕ → ℕ → List Item → List Wait → List Ask → Live → Type 0
BeforeAt But r ms keys epoch next items ws outbox a = is_fetch a.ask.kind ≡ true → Before But r ms keys epoch next items ws outbox a.ask

pub record After (r : Held) (ms : List (Option Frame)) (keys epoch next : ℕ) (items : List Item) (ws : List Wait) (outbox : List Ask) (a : Ask) : Type 0 where
  pub live : IsLiveRight r ms keys epoch next items ws outbox a
  pub lacks : Lacks a.item items

abbrev AfterAt : Held → List (Option Frame) → ℕ → ℕ → ℕ → List Item → List Wait → List Ask → Live → Type 0
AfterAt r ms keys epoch next items ws outbox a = is_fetch a.ask.kind ≡ true → After r ms keys epoch next items ws outbox a.ask

abbrev On : ItemId → ItemId → Type 0
On item id = id.0 ≡ item.0

lacks_at : (a b : ItemId) (items : List Item) → a.0 ≡ b.0 → Lacks b items → Lacks a items
lacks_at a b items e h = subst (λ (i : ItemId). Lacks i items) (sym (same_item a b e)) h

waits_at : (a b : ItemId) (ws : List Wait) → a.0 ≡ b.0 → waits_on b ws ≡ true → waits_on a ws ≡ true
waits_at a b ws e h = subst (λ (i : ItemId). waits_on i ws ≡ true) (sym (same_item a b e)) h

kept_after : (l : Link) (tokens : ℕ) (x : Filter) (item : ItemId) (d : Deed) (made : ℕ) (a : Live) → x.policy.validate ≡ false → InOrder 0 x.volume.next_item.0 x.volume.items
    → is_cancelled item (view_at x item) d (left_of (why item (view_at x item) d x.waiting.asks) x.waiting.waits) a ≡ false
    → BeforeAt (On item) l.remote l.messages x.waiting.key_count x.volume.epoch x.volume.next_item.0 x.volume.items x.waiting.waits x.outbox a
    → AfterAt l.remote l.messages (x.waiting.key_count + made) x.volume.epoch x.volume.next_item.0 x.volume.items (left_of (why item (view_at x item) d x.waiting.asks) x.waiting.waits) x.outbox a
kept_after l tokens x item d made a plain order stays h e = by (a.ask.item.0 == item.0) refl where
  live_with : Before (On item) l.remote l.messages x.waiting.key_count x.volume.epoch x.volume.next_item.0 x.volume.items x.waiting.waits x.outbox a.ask → waits_on a.ask.item (left_of (why item (view_at x item) d x.waiting.asks) x.waiting.waits) ≡ true
      → IsLiveRight l.remote l.messages (x.waiting.key_count + made) x.volume.epoch x.volume.next_item.0 x.volume.items (left_of (why item (view_at x item) d x.waiting.asks) x.waiting.waits) x.outbox a.ask
  live_with b w = record { below = b.live.below; given = more_given x.volume.epoch x.waiting.key_count made a.ask.key b.live.given; waited = w; named = b.live.named; boxed = b.live.boxed }

  differ : {n m : ℕ} → n ≡ m → (n == m) ≡ false → ⊥
  differ {n} {m} z q = no_way (sym (subst (λ (k : ℕ). (k == m) ≡ false) z q) ∙ eq-eqb m m refl)

  by : (b : Bool) → (a.ask.item.0 == item.0) ≡ b → After l.remote l.messages (x.waiting.key_count + made) x.volume.epoch x.volume.next_item.0 x.volume.items (left_of (why item (view_at x item) d x.waiting.asks) x.waiting.waits) x.outbox a.ask
  by true q =
      let same : a.ask.item.0 ≡ item.0 = eqb-true a.ask.item.0 item.0 q in
      let w : Wanted x.volume.next_item.0 x.volume.items (left_of (why item (view_at x item) d x.waiting.asks) x.waiting.waits) item =
      wants_block x item (left_of (why item (view_at x item) d x.waiting.asks) x.waiting.waits) a plain order e
      (and_false (a.ask.item.0 == item.0) (is_idle_by a.ask.kind item (view_at x item) (left_of (why item (view_at x item) d x.waiting.asks) x.waiting.waits) a)
      (cut_free item (view_at x item) d (left_of (why item (view_at x item) d x.waiting.asks) x.waiting.waits) a stays) q) in
      record { live = live_with (h e) (waits_at a.ask.item item (left_of (why item (view_at x item) d x.waiting.asks) x.waiting.waits) same w.waited); lacks = lacks_at a.ask.item item x.volume.items same w.lacks }
  by false q = record {
    live = live_with (h e) (stays_waiting item (why item (view_at x item) d x.waiting.asks) a.ask.item (no_cause item (view_at x item) d x.waiting.asks) q x.waiting.waits (h e).live.waited);
    lacks = other (h e).lacks;
  }
    where
      other : Lacks a.ask.item x.volume.items ⊎ (a.ask.item.0 ≡ item.0) → Lacks a.ask.item x.volume.items
      other (inl k) = k
      other (inr k) = absurd (differ k q)

-- an ask that is made

new_names : (r : Held) (items : List Item) (epoch keys tokens : ℕ) (a : Ask) → IsNew epoch keys a.key → (q : Request) → IsGivenIn epoch keys tokens q → Names r items a q
new_names r items epoch keys tokens a new (request.Fetch key rid version start len) h = λ e. absurd (new_apart epoch keys a.key key new h e)
new_names r items epoch keys tokens a new (request.Feed round after) h = tt
new_names r items epoch keys tokens a new (request.List key rid) h = tt
new_names r items epoch keys tokens a new (request.Put token rid expect parent name bytes) h = tt
new_names r items epoch keys tokens a new (request.MakeDir token parent name) h = tt
new_names r items epoch keys tokens a new (request.Move token rid parent name) h = tt
new_names r items epoch keys tokens a new (request.Remove token rid expect) h = tt
new_names r items epoch keys tokens a new (request.Settle token) h = tt
new_names r items epoch keys tokens a new (request.Keep token count) h = tt

new_named : (l : Link) (items : List Item) (epoch keys tokens : ℕ) (a : Ask) → IsNew epoch keys a.key → (m : Option Frame) → IsMessageRight l.remote l.messages epoch keys tokens m → OfRequest (Names l.remote items a) m
new_named l items epoch keys tokens a new (Some (frame.Request q)) h = new_names l.remote items epoch keys tokens a new q h
new_named l items epoch keys tokens a new (Some (frame.Reply answers r)) h = tt
new_named l items epoch keys tokens a new None h = tt

pub given_by : (epoch n last : ℕ) (k : Key) → IsNew epoch n k → k.number ≤ last → WasGiven epoch last k
given_by epoch n last k new h = inr (new.0, h)

made_after : (But : ItemId → Type 0) (l : Link) (tokens : ℕ) (x : Filter) (item : ItemId) (ws : List Wait) (last : ℕ) (a : Live) → IsSoundBut But l tokens x
    → Made x.volume.next_item.0 x.volume.items ws item x.volume.epoch x.waiting.key_count last a → AfterAt l.remote l.messages last x.volume.epoch x.volume.next_item.0 x.volume.items ws x.outbox a
made_after But l tokens x item ws last a h m e =
    let w : Wanted x.volume.next_item.0 x.volume.items ws item = m.wanted e in
    record {
      live = record {
        below = subst (λ (n : ℕ). n < x.volume.next_item.0) (sym m.about) w.below;
        given = given_by x.volume.epoch x.waiting.key_count last a.ask.key m.key m.upto;
        waited = waits_at a.ask.item item ws m.about w.waited;
        named = all_weaker (IsMessageRight l.remote l.messages x.volume.epoch x.waiting.key_count tokens) (OfRequest (Names l.remote x.volume.items a.ask)) (new_named l x.volume.items x.volume.epoch x.waiting.key_count tokens a.ask m.key) l.messages h.messages;
        boxed = all_weaker (λ b. WasGiven x.volume.epoch x.waiting.key_count b.key) (λ b. same_key a.ask.key b.key ≡ true → a.ask.item.0 ≡ b.item.0) (λ b g q. absurd (new_apart x.volume.epoch x.waiting.key_count a.ask.key b.key m.key g q)) x.outbox h.boxed;
      };
      lacks = lacks_at a.ask.item item x.volume.items m.about w.lacks;
    }

-- the new asks fit into the outbox
abbrev pub Boxes : Told → Waiting → ℕ → Type 0
Boxes t w epoch =
    All (λ a. is_fetch a.ask.kind ≡ true → All (λ b. same_key a.ask.key b.key ≡ true → a.ask.item.0 ≡ b.item.0) (map (λ b. b.ask) t.made)) w.asks
    × All (λ b. WasGiven epoch w.key_count b.key) (map (λ b. b.ask) t.made)

pub record Settled (l : Link) (tokens : ℕ) (x : Filter) (r : Told × Waiting) : Type 0 where
  pub sound : IsSound l tokens (with_waiting r.1 x)
  pub boxes : Boxes r.0 r.1 x.volume.epoch

old_boxes : (next : ℕ) (items : List Item) (ws : List Wait) (item : ItemId) (epoch n last : ℕ) (a : Live) → WasGiven epoch n a.ask.key → (made : List Live) → All (Made next items ws item epoch n last) made
    → All (λ b. same_key a.ask.key b.key ≡ true → a.ask.item.0 ≡ b.item.0) (map (λ b. b.ask) made)
old_boxes next items ws item epoch n last a given made h =
    all_map (Made next items ws item epoch n last) (λ b. same_key a.ask.key b.key ≡ true → a.ask.item.0 ≡ b.item.0) (λ b. b.ask) (λ b m e. absurd (new_apart epoch n b.ask.key a.ask.key m.key given (swapped a.ask.key b.ask.key e))) made h where
      swapped : (k g : Key) → same_key k g ≡ true → same_key g k ≡ true
      swapped k g e =
          let a : k.epoch ≡ g.epoch = eqb-true k.epoch g.epoch (left_true (k.epoch == g.epoch) (k.number == g.number) e) in
          let b : k.number ≡ g.number = eqb-true k.number g.number (right_true (k.epoch == g.epoch) (k.number == g.number) e) in
          both (g.epoch == k.epoch) (g.number == k.number) (eq-eqb g.epoch k.epoch (sym a)) (eq-eqb g.number k.number (sym b)) where
            both : (c d : Bool) → c ≡ true → d ≡ true → (c && d) ≡ true
            both true d h g = g
            both false d h g = no_way h

pub settled : (l : Link) (tokens : ℕ) (x : Filter) (item : ItemId) (d : Deed) → IsSoundBut (On item) l tokens x → Settled l tokens x (told_at item d x)
settled l tokens x item d h =
    let v : View = view_at x item in
    let ws : List Wait = left_of (why item v d x.waiting.asks) x.waiting.waits in
    let asks : List Live = filter (λ a. not (is_over d a)) (map (after_deed d) x.waiting.asks) in
    let kept : List Live = filter (λ a. not (is_cancelled item v d ws a)) asks in
    let fresh : List Live = new_asks item v ws kept in
    let made : List Live = with_keys x.waiting.epoch x.waiting.key_count fresh in
    let next : ℕ = x.volume.next_item.0 in
    let last : ℕ = x.waiting.key_count + length made in
    let before : All (BeforeAt (On item) l.remote l.messages x.waiting.key_count x.volume.epoch next x.volume.items x.waiting.waits x.outbox) x.waiting.asks =
    all_both (LiveAt l.remote l.messages x.waiting.key_count x.volume.epoch next x.volume.items x.waiting.waits x.outbox) (LackAt (On item) x.volume.items) (BeforeAt (On item) l.remote l.messages x.waiting.key_count x.volume.epoch next x.volume.items x.waiting.waits x.outbox)
    (λ a live lack e. record { live = live e; lacks = lack e }) x.waiting.asks h.lives h.lack in
    let left : All (BeforeAt (On item) l.remote l.messages x.waiting.key_count x.volume.epoch next x.volume.items x.waiting.waits x.outbox) asks =
    all_filter (BeforeAt (On item) l.remote l.messages x.waiting.key_count x.volume.epoch next x.volume.items x.waiting.waits x.outbox) (λ a. not (is_over d a)) (map (after_deed d) x.waiting.asks)
    (all_map (BeforeAt (On item) l.remote l.messages x.waiting.key_count x.volume.epoch next x.volume.items x.waiting.waits x.outbox) (BeforeAt (On item) l.remote l.messages x.waiting.key_count x.volume.epoch next x.volume.items x.waiting.waits x.outbox) (after_deed d)
    (λ a k. subst (λ (q : Ask). is_fetch q.kind ≡ true → Before (On item) l.remote l.messages x.waiting.key_count x.volume.epoch next x.volume.items x.waiting.waits x.outbox q) (sym (deed_ask d a)) k) x.waiting.asks before) in
    let old : All (AfterAt l.remote l.messages last x.volume.epoch next x.volume.items ws x.outbox) kept =
    all_passed (BeforeAt (On item) l.remote l.messages x.waiting.key_count x.volume.epoch next x.volume.items x.waiting.waits x.outbox) (AfterAt l.remote l.messages last x.volume.epoch next x.volume.items ws x.outbox) (λ a. not (is_cancelled item v d ws a))
    (λ a e k. kept_after l tokens x item d (length made) a h.unvalidated h.now.order (not_true (is_cancelled item v d ws a) e) k) asks left in
    let news : All (Made next x.volume.items ws item x.volume.epoch x.waiting.key_count last) made =
    made_all next ws item x.waiting.epoch x.volume.epoch x.waiting.key_count fresh h.one_epoch x.volume.items (new_asked x item ws kept h.unvalidated h.now.order) in
    let all : All (AfterAt l.remote l.messages last x.volume.epoch next x.volume.items ws x.outbox) (kept ++ made) =
    all_append (AfterAt l.remote l.messages last x.volume.epoch next x.volume.items ws x.outbox) kept made old
    (all_weaker (Made next x.volume.items ws item x.volume.epoch x.waiting.key_count last) (AfterAt l.remote l.messages last x.volume.epoch next x.volume.items ws x.outbox) (λ a m. made_after (On item) l tokens x item ws last a h m) made news) in
    record {
      sound = record {
        counted = h.counted;
        recorded = h.recorded;
        old = h.old;
        of_log = h.of_log;
        now = h.now;
        kept = h.kept;
        one_epoch = h.one_epoch;
        numbered = all_filter (λ w. same_key w.id.0 no_key ≡ false) _ x.waiting.waits h.numbered;
        unvalidated = h.unvalidated;
        messages = all_weaker (IsMessageRight l.remote l.messages x.volume.epoch x.waiting.key_count tokens) (IsMessageRight l.remote l.messages x.volume.epoch last tokens) (message_more l x.volume.epoch x.waiting.key_count (length made) tokens) l.messages h.messages;
        lives = all_weaker (AfterAt l.remote l.messages last x.volume.epoch next x.volume.items ws x.outbox) (LiveAt l.remote l.messages last x.volume.epoch next x.volume.items ws x.outbox) (λ a k e. (k e).live) (kept ++ made) all;
        lack = all_weaker (AfterAt l.remote l.messages last x.volume.epoch next x.volume.items ws x.outbox) (LackAt NoItem x.volume.items) (λ a k e. inl (k e).lacks) (kept ++ made) all;
        boxed = all_weaker (λ b. WasGiven x.volume.epoch x.waiting.key_count b.key) (λ b. WasGiven x.volume.epoch last b.key) (λ b k. more_given x.volume.epoch x.waiting.key_count (length made) b.key k) x.outbox h.boxed;
      };
      boxes = (
        all_append (λ a. is_fetch a.ask.kind ≡ true → All (λ b. same_key a.ask.key b.key ≡ true → a.ask.item.0 ≡ b.item.0) (map (λ b. b.ask) made)) kept made
            (all_filter (λ a. is_fetch a.ask.kind ≡ true → All (λ b. same_key a.ask.key b.key ≡ true → a.ask.item.0 ≡ b.item.0) (map (λ b. b.ask) made)) (λ a. not (is_cancelled item v d ws a)) asks
            (all_weaker (BeforeAt (On item) l.remote l.messages x.waiting.key_count x.volume.epoch next x.volume.items x.waiting.waits x.outbox) (λ a. is_fetch a.ask.kind ≡ true → All (λ b. same_key a.ask.key b.key ≡ true → a.ask.item.0 ≡ b.item.0) (map (λ b. b.ask) made))
            (λ a k e. old_boxes next x.volume.items ws item x.volume.epoch x.waiting.key_count last a (k e).live.given made news) asks left))
            (all_weaker (Made next x.volume.items ws item x.volume.epoch x.waiting.key_count last) (λ a. is_fetch a.ask.kind ≡ true → All (λ b. same_key a.ask.key b.key ≡ true → a.ask.item.0 ≡ b.item.0) (map (λ b. b.ask) made))
            (λ a m e. all_map (Made next x.volume.items ws item x.volume.epoch x.waiting.key_count last) (λ b. same_key a.ask.key b.key ≡ true → a.ask.item.0 ≡ b.item.0) (λ b. b.ask) (λ b n q. m.about ∙ sym n.about) made news) made news),
        all_map (Made next x.volume.items ws item x.volume.epoch x.waiting.key_count last) (λ b. WasGiven x.volume.epoch last b.key) (λ b. b.ask) (λ b m. given_by x.volume.epoch x.waiting.key_count last b.ask.key m.key m.upto) made news,
      );
    }
  where
    lengths : (epoch n : ℕ) (asks : List Live) → length (with_keys epoch n asks) ≡ length asks
    lengths epoch n [] = refl
    lengths epoch n (a ∷ as') = ap (λ (m : ℕ). suc m) (lengths epoch (n + 1) as')

    made_all : (next : ℕ) (ws : List Wait) (item : ItemId) (e epoch n : ℕ) (fresh : List Live) → e ≡ epoch → (items : List Item) → All (λ a. (a.ask.item.0 ≡ item.0) × (is_fetch a.ask.kind ≡ true → Wanted next items ws item)) fresh
        → All (Made next items ws item epoch n (n + length (with_keys e n fresh))) (with_keys e n fresh)
    made_all next ws item e epoch n fresh same items h =
        subst (λ (k : ℕ). All (Made next items ws item epoch n (n + k)) (with_keys e n fresh)) (sym (lengths e n fresh))
        (subst (λ (k : ℕ). All (Made next items ws item k n (n + length fresh)) (with_keys e n fresh)) same (keys_made next items ws item e n fresh h))
