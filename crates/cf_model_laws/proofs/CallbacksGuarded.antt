-- The engine as a provider, and callbacks, in `replay`.
use Rattle.std.proofs.Common.{◌≡◌, ℕ, zero, suc, true, List, [], ◌∷◌, refl, sym, subst, take}
use Rattle.std.specs.Prelude.{Option, Some, None, unwrap_or, ◌==◌}
use Rattle.cf_base.specs.declared.answers.Shown.{Shown}
use Rattle.cf_base.specs.declared.ids.ItemId.{ItemId}
use Rattle.cf_base.specs.declared.ids.Token.{Token}
use Rattle.cf_base.specs.declared.messages.Request.{Request}
use Rattle.cf_base.specs.declared.notices.Frame.TheVariants as frame
use Rattle.cf_base.specs.declared.policies.Mode.{Mode}
use Rattle.cf_base.specs.declared.policies.Mode.TheVariants as mode
use Rattle.cf_base.specs.declared.waits.Ask.{Ask}
use Rattle.cf_base.specs.declared.waits.AskKind.{AskKind}
use Rattle.cf_base.specs.declared.waits.AskKind.TheVariants as ask_kind
use Rattle.cf_model.specs.Agents.{agent, agent_on, fetch_of, list_of}
use Rattle.cf_model.specs.Arrows.{Arrow, Preserves}
use Rattle.cf_model.specs.Callbacks.{call_back, calling, drain, drained, finish, finish_call, provider, with_outbox}
use Rattle.cf_model.specs.Changes.{next_number}
use Rattle.cf_model.specs.Identities.{base_bytes, base_rid, base_version}
use Rattle.cf_model.specs.Items.{Item, item_of}
use Rattle.cf_model.specs.Logs.{items_of}
use Rattle.cf_model.specs.Numbers.{most, same_key}
use Rattle.cf_model.specs.Requests.{is_fetch}
use Rattle.cf_model.specs.Soundness.{Each}
use Rattle.cf_model.specs.State.{Filter, State, book_now, in_filter, is_replay, items_now, with_filter}
use Rattle.cf_model.specs.Store.{bytes_of}
use Rattle.cf_model.specs.Trees.{Keeps, Ret, Tree, bind}
use Rattle.cf_model.proofs.TreeLaws.{keeps_bind}
use Rattle.cf_model_laws.specs.GivenOnce.{WasGiven}
use Rattle.cf_model_laws.specs.Invariant.{All, Carries, IsGivenIn, IsRight, IsSound, Names}
use Rattle.cf_model_laws.specs.Premises.{IsFair}
use Rattle.cf_model_laws.proofs.FetchingGuarded.{consents_op_keeps, in_filter_at}
use Rattle.cf_model_laws.proofs.FitAsks.{LiveAt}
use Rattle.cf_model_laws.proofs.Gathered.{all_any, all_found, all_weaker}
use Rattle.cf_model_laws.proofs.Guarded.{Guarded, PostedIn}
use Rattle.cf_model_laws.proofs.MessagesGuarded.{quiet_request, send_now_at}
use Rattle.cf_model_laws.proofs.RightItems.{no_way}
use Rattle.cf_model_laws.proofs.SoundLinks.{FrameCarries}
use Rattle.cf_model_laws.proofs.SoundSettles.{each_found, same_item}

-- an ask that was in the outbox
pub record WasBoxed (s : State) (a : Ask) : Type 0 where
  pub given : WasGiven s.filter.volume.epoch s.filter.waiting.key_count a.key
  pub same : All (λ b. is_fetch b.ask.kind ≡ true → same_key b.ask.key a.key ≡ true → b.ask.item.0 ≡ a.item.0) s.filter.waiting.asks

quiet_now : (q : Request) (s : State) → ((token : Token) (bytes : List ℕ) → Carries token bytes q) → All (FrameCarries s.link.remote (items_now s) (Some (frame.Request q))) (book_now s).entries
quiet_now q s k = all_any (FrameCarries s.link.remote (items_now s) (Some (frame.Request q))) (λ e. quiet_request s.link.remote (items_now s) q e k) (book_now s).entries

-- a request that says nothing of uploads
pub plain_posted : (q : Request) (s : State) → ((token : Token) (bytes : List ℕ) → Carries token bytes q) → IsGivenIn s.filter.volume.epoch s.filter.waiting.key_count s.volatile.tokens q
    → All (λ a. is_fetch a.ask.kind ≡ true → Names s.link.remote (items_now s) a.ask q) s.filter.waiting.asks → PostedIn s (Some (frame.Request q))
plain_posted q s k given named = record {
  right = given;
  named = named;
  now = quiet_now q s k;
  kept = all_any (λ p. All (FrameCarries s.link.remote (items_of (take p.count s.filter.volume.log)) (Some (frame.Request q))) p.book.entries)
      (λ p. all_any (FrameCarries s.link.remote (items_of (take p.count s.filter.volume.log)) (Some (frame.Request q))) (λ e. quiet_request s.link.remote (items_of (take p.count s.filter.volume.log)) q e k) p.book.entries) s.filter.volume.points;
}

fetch_posted : (P : State → Type 0) → Guarded P → (a : Ask) (i : Item) (s : State) → P s → (IsFair s.link → WasBoxed s a) → item_of (items_now s) a.item ≡ Some i → IsFair s.link → PostedIn s (Some (frame.Request (fetch_of a i)))
fetch_posted P closed a i s h boxed found fair =
    let sound : IsSound s.link s.volatile.tokens s.filter = (closed.on_filter s h).sound s.filter h fair in
    let right = (all_found (IsRight s.link.remote (next_number s.filter.volume)) (λ x. x.id.0 == a.item.0) (items_now s) i found sound.now.right).0 in
    plain_posted (fetch_of a i) s (λ t b. tt) (boxed fair).given
    (all_weaker (λ b. is_fetch b.ask.kind ≡ true → same_key b.ask.key a.key ≡ true → b.ask.item.0 ≡ a.item.0) (λ b. is_fetch b.ask.kind ≡ true → Names s.link.remote (items_now s) b.ask (fetch_of a i))
    (λ b k f e. (
      right.based,
      subst (λ (x : ItemId). Each x (λ j. base_bytes s.link.remote j ≡ unwrap_or (bytes_of s.link.remote (base_rid i) (base_version i)) []) (items_now s)) (sym (same_item b.ask.item a.item (k f e)))
          (each_found a.item (λ j. base_bytes s.link.remote j ≡ unwrap_or (bytes_of s.link.remote (base_rid i) (base_version i)) []) 0 s.filter.volume.next_item.0 (items_now s) i sound.now.order found refl),
    ))
    s.filter.waiting.asks (boxed fair).same)

list_posted : (a : Ask) (i : Item) (s : State) → PostedIn s (Some (frame.Request (list_of a i)))
list_posted a i s = plain_posted (list_of a i) s (λ t b. tt) tt (all_any (λ b. is_fetch b.ask.kind ≡ true → Names s.link.remote (items_now s) b.ask (list_of a i)) (λ b e. tt) s.filter.waiting.asks)

agent_at : (P : State → Type 0) → Guarded P → (a : Ask) (s : State) → (IsFair s.link → WasBoxed s a) → P s → Keeps P (agent a s)
agent_at P closed a s boxed h = by a.kind (item_of (items_now s) a.item) refl where
  by : (k : AskKind) (o : Option Item) → item_of (items_now s) a.item ≡ o → Keeps P (agent_on k a o s)
  by ask_kind.Fetch (Some i) f = send_now_at P closed (fetch_of a i) s refl (fetch_posted P closed a i s h boxed f) (λ fair. tt) h
  by ask_kind.Fetch None f = h
  by ask_kind.Validate o f = h
  by ask_kind.List (Some i) f = send_now_at P closed (list_of a i) s refl (λ fair. list_posted a i s) (λ fair. (boxed fair).given) h
  by ask_kind.List None f = h
  by ask_kind.Dehydrate o f = (consents_op_keeps P closed a.key).keeps s h

pub call_back_at : (P : State → Type 0) → Guarded P → (a : Ask) (s : State) → (IsFair s.link → WasBoxed s a) → P s → Keeps P (call_back a s)
call_back_at P closed a s boxed h = by s.mode (closed.replay s h) where
  by : (m : Mode) → is_replay m ≡ true → Keeps P (provider m a s)
  by mode.Replay e = agent_at P closed a s boxed h
  by mode.Filter e = no_way e

-- the outbox

pub was_boxed : (P : State → Type 0) → Guarded P → (a : Ask) (rest : List Ask) (s : State) → s.filter.outbox ≡ a ∷ rest → P s → IsFair s.link → WasBoxed (with_outbox rest s) a
was_boxed P closed a rest s e h fair =
    let sound : IsSound s.link s.volatile.tokens s.filter = (closed.on_filter s h).sound s.filter h fair in
    record {
      given = head (λ b. WasGiven s.filter.volume.epoch s.filter.waiting.key_count b.key) (subst (λ (os : List Ask). All (λ b. WasGiven s.filter.volume.epoch s.filter.waiting.key_count b.key) os) e sound.boxed);
      same = all_weaker (LiveAt s.link.remote s.link.messages s.filter.waiting.key_count s.filter.volume.epoch s.filter.volume.next_item.0 (items_now s) s.filter.waiting.waits s.filter.outbox) (λ b. is_fetch b.ask.kind ≡ true → same_key b.ask.key a.key ≡ true → b.ask.item.0 ≡ a.item.0)
          (λ b k f. head (λ c. same_key b.ask.key c.key ≡ true → b.ask.item.0 ≡ c.item.0) (subst (λ (os : List Ask). All (λ c. same_key b.ask.key c.key ≡ true → b.ask.item.0 ≡ c.item.0) os) e (k f).boxed)) s.filter.waiting.asks sound.lives;
    }
  where
    head : (C : Ask → Type 0) → All C (a ∷ rest) → C a
    head C k = k.0

pub drained_keeps : (P : State → Type 0) → Guarded P → (n : ℕ) → Preserves P (drained n)
drained_keeps P closed zero = record { keeps = λ s h. h }
drained_keeps P closed (suc n) = record { keeps = λ s h. popped s h s.filter.outbox refl (drained_keeps P closed n) } where
  popped : (s : State) → P s → (asks : List Ask) → s.filter.outbox ≡ asks → Preserves P (drained n)
      → Keeps P (elim asks as (λ _. Tree State (Unit {0})) [ [] ↦ Ret (record {}) s | a ∷ rest ↦ bind (call_back a (with_outbox rest s)) (λ _ t. drained n t) ])
  popped s h [] e k = h
  popped s h (a ∷ rest) e k =
      keeps_bind P (call_back a (with_outbox rest s)) (λ _ t. drained n t)
      (call_back_at P closed a (with_outbox rest s) (was_boxed P closed a rest s e h) (closed.keeps_with_outbox a rest s e h)) (λ u t j. k.keeps t j)

pub drain_keeps : (P : State → Type 0) → Guarded P → Preserves P drain
drain_keeps P closed = drained_keeps P closed most

-- a call and its callbacks
pub calling_at : (P : State → Type 0) → Guarded P → (part : Arrow Filter Shown) (s : State) → Keeps (λ x. P (with_filter x s)) (part s.filter) → Keeps P (calling part s)
calling_at P closed part s h =
    keeps_bind P (in_filter part s) finish_call (in_filter_at P part s h)
    (λ answer t j. keeps_bind P (drain t) (λ _ u. in_filter (finish answer) u) ((drain_keeps P closed).keeps t j) (λ a u k. in_filter_at P (finish answer) u ((closed.on_filter u k).keeps_begin_call u.filter k)))

pub calling_keeps : (P : State → Type 0) → Guarded P → (part : Arrow Filter Shown) → ((t : State) → P t → Preserves (λ x. P (with_filter x t)) part) → Preserves P (calling part)
calling_keeps P closed part k = record { keeps = λ s h. calling_at P closed part s ((k s h).keeps s.filter h) }
