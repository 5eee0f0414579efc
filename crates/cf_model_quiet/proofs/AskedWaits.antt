-- The ask rule leaves a live ask for each dehydration that waits.
use Rattle.std.proofs.Common.{◌≡◌, ◌⊎◌, ◌<◌, ◌≤◌, ◌+◌, ℕ, suc, Bool, true, false, List, [], ◌∷◌, ◌++◌, refl, sym, ◌∙◌, ap, subst, inl, inr, arith, length, eq-eqb}
use Rattle.std.specs.Prelude.{Option, Some, None, cond, filter, find, is_some, map, not, ◌&&◌, ◌||◌, ◌==◌}
use Rattle.std.specs.List.{list_any}
use Rattle.std.proofs.lemmas.Bool.{eqb-true}
use Rattle.cf_base.specs.declared.ids.ItemId.{ItemId}
use Rattle.cf_base.specs.declared.ids.Key.{Key}
use Rattle.cf_base.specs.declared.ids.WaitId.{WaitId}
use Rattle.cf_base.specs.declared.waits.Ask.{Ask}
use Rattle.cf_base.specs.declared.waits.AskKind.{AskKind}
use Rattle.cf_base.specs.declared.waits.AskKind.TheVariants as ask_kind
use Rattle.cf_base.specs.declared.waits.Cause.{Cause}
use Rattle.cf_base.specs.declared.waits.Cause.TheVariants as cause
use Rattle.cf_model.specs.Asks.{after_deed, ask_of_run, cause_if, dehydrate_ask, is_cancelled, is_cut, is_idle, is_idle_by, is_over, left_of, list_ask, list_asks, new_asks, open_blocks, or_met, runs_of, step_of, waits_by, waits_for, why, with_keys}
use Rattle.cf_model.specs.Missing.{View, Wait, is_met}
use Rattle.cf_model.specs.Numbers.{key_after, no_key, same_key}
use Rattle.cf_model.specs.Requests.{Cancels, Closes, Deed, Expires, Fails, Finishes, Leaves, Live, Nothing, Restarts, Waiting, is_data, is_dehydrate, is_dehydrate_wait, live_of}
use Rattle.cf_model.specs.Words.{is_empty, when}
use Rattle.cf_model_laws.specs.Invariant.{All, Among}
use Rattle.cf_model_laws.proofs.Gathered.{all_any, all_append, all_both, all_filter, all_in, all_map, all_passed, all_weaker}
use Rattle.cf_model_laws.proofs.RightItems.{no_way, no_way_back}
use Rattle.cf_model_laws.proofs.SoundSettles.{any_longer, deed_ask, left_true, right_true}
use Rattle.cf_model_convergence.specs.Hearing.{is_asked_for}
use Rattle.cf_model_quiet.specs.Asked.{AreAsked, AreAskedBut, IsOwnAsk, Rises, number_of_ask, number_of_wait}
use Rattle.cf_model_quiet.proofs.RisingNumbers.{above_all, all_apart, among_any, any_behind, any_mapped, any_passed, any_so, each_found, each_made, rises_append, rises_filter, rises_map, upto_all}

-- an ask that the step ends is of the item
abbrev pub Aims : ItemId → Deed → List Live → Type 0
Aims item (Expires key) asks = (a : Live) → live_of asks key ≡ Some a → a.ask.item.0 ≡ item.0
Aims item (Finishes key c) asks = (a : Live) → live_of asks key ≡ Some a → a.ask.item.0 ≡ item.0
Aims item _ asks = Unit {0}

-- keys

pub numbers_same : (a b : Key) → same_key a b ≡ true → a.number ≡ b.number
numbers_same a b e = eqb-true a.number b.number (right_true (a.epoch == b.epoch) (a.number == b.number) e)

key_same : (a b : Key) → same_key a b ≡ true → same_key b a ≡ true
key_same a b e =
    let p : a.epoch ≡ b.epoch = eqb-true a.epoch b.epoch (left_true (a.epoch == b.epoch) (a.number == b.number) e) in
    both (b.epoch == a.epoch) (b.number == a.number) (eq-eqb b.epoch a.epoch (sym p)) (eq-eqb b.number a.number (sym (numbers_same a b e))) where
      both : (c d : Bool) → c ≡ true → d ≡ true → (c && d) ≡ true
      both true d h g = g
      both false d h g = no_way h

-- the ask of a dehydration that still waits

abbrev is_for : Wait → Live → Bool
is_for u a = is_dehydrate a.ask.kind && same_key a.wait.0 u.id.0

-- it is of the item of its wait, and found by its key
abbrev IsGoodOf : List Live → Wait → Ask → WaitId → Type 0
IsGoodOf asks u q x =
    (same_key x.0 u.id.0 ≡ true → (is_dehydrate q.kind ≡ true) × (q.item.0 ≡ u.item.0)) × ((key : Key) → same_key q.key key ≡ true → (b : Live) × (live_of asks key ≡ Some b) × (b.ask ≡ q) × (b.wait ≡ x))

abbrev IsGood : List Live → Wait → Live → Type 0
IsGood asks u a = IsGoodOf asks u a.ask a.wait

deed_wait : (d : Deed) (a : Live) → (after_deed d a).wait ≡ a.wait
deed_wait (Leaves key blocks) a = by (same_key a.ask.key key) where
  by : (b : Bool) → (cond b (record a { owned = filter (λ c. not (list_any (λ e. e == c) blocks)) a.owned; ticks = 0 }) a).wait ≡ a.wait
  by true = refl
  by false = refl
deed_wait (Fails key blocks c) a = by (same_key a.ask.key key) where
  by : (b : Bool) → (cond b (record a { owned = filter (λ c. not (list_any (λ e. e == c) blocks)) a.owned; ticks = 0 }) a).wait ≡ a.wait
  by true = refl
  by false = refl
deed_wait Nothing a = refl
deed_wait (Cancels id) a = refl
deed_wait (Closes handle last) a = refl
deed_wait Restarts a = refl
deed_wait (Expires key) a = refl
deed_wait (Finishes key c) a = refl

good_after : (asks : List Live) (u : Wait) (d : Deed) (a : Live) → IsGood asks u a → IsGood asks u (after_deed d a)
good_after asks u d a h = subst (λ (q : Ask). IsGoodOf asks u q (after_deed d a).wait) (sym (deed_ask d a)) (subst (λ (x : WaitId). IsGoodOf asks u a.ask x) (sym (deed_wait d a)) h)

for_after : (u : Wait) (d : Deed) (a : Live) → is_for u (after_deed d a) ≡ is_for u a
for_after u d a = ap (λ (q : Ask). is_dehydrate q.kind && same_key (after_deed d a).wait.0 u.id.0) (deed_ask d a) ∙ ap (λ (x : WaitId). is_dehydrate a.ask.kind && same_key x.0 u.id.0) (deed_wait d a)

-- where the step ends it, its wait ends
module _ (asks : List Live) (item : ItemId) (v : View) (u : Wait) (a : Live) (good : IsGood asks u a) (is : is_for u a ≡ true) where
  own_kind : is_dehydrate a.ask.kind ≡ true
  own_kind = left_true (is_dehydrate a.ask.kind) (same_key a.wait.0 u.id.0) is

  own_id : same_key a.wait.0 u.id.0 ≡ true
  own_id = right_true (is_dehydrate a.ask.kind) (same_key a.wait.0 u.id.0) is

  waited_by : (k : AskKind) (b : Live) → is_dehydrate k ≡ true → same_key u.id.0 b.wait.0 ≡ true → waits_by k v b u ≡ true
  waited_by ask_kind.Dehydrate b e f = f
  waited_by ask_kind.Fetch b e f = no_way e
  waited_by ask_kind.Validate b e f = no_way e
  waited_by ask_kind.List b e f = no_way e

  waited_for : (key : Key) → same_key a.ask.key key ≡ true → waits_for v (live_of asks key) u ≡ true
  waited_for key e =
      let f = good.1 key e in
      subst (λ (o : Option Live). waits_for v o u ≡ true) (sym f.1)
      (waited_by f.0.ask.kind f.0 (subst (λ (q : Ask). is_dehydrate q.kind ≡ true) (sym f.2) own_kind) (subst (λ (x : WaitId). same_key u.id.0 x.0 ≡ true) (sym f.3) (key_same a.wait.0 u.id.0 own_id)))

  on_item : (key : Key) → same_key a.ask.key key ≡ true → ((b : Live) → live_of asks key ≡ Some b → b.ask.item.0 ≡ item.0) → u.item.0 ≡ item.0
  on_item key e aim = let f = good.1 key e in sym (good.0 own_id).1 ∙ ap (λ (q : Ask). q.item.0) (sym f.2) ∙ aim f.0 f.1

  never : (c : Cause) (met same waits : Bool) → same ≡ true → waits ≡ true → cond same (or_met (cause_if waits c) met) None ≡ None → ⊥
  never c met true true p q e = some c e where
    some : (c : Cause) → ◌≡◌ {A = Option Cause} (Some c) None → ⊥
    some c z = cc
  never c met true false p q e = no_way q
  never c met false waits p q e = no_way p

  ended : (key : Key) (c : Cause) → ((b : Live) → live_of asks key ≡ Some b → b.ask.item.0 ≡ item.0) → cond (u.item.0 == item.0) (or_met (cause_if (waits_for v (live_of asks key) u) c) (is_met v u)) None ≡ None → same_key a.ask.key key ≡ false
  ended key c aim e = by (same_key a.ask.key key) refl where
    by : (b : Bool) → same_key a.ask.key key ≡ b → b ≡ false
    by true q = absurd (never c (is_met v u) (u.item.0 == item.0) (waits_for v (live_of asks key) u) (eq-eqb u.item.0 item.0 (on_item key q aim)) (waited_for key q) e)
    by false q = refl

no_data : (k : AskKind) (e : Bool) → is_dehydrate k ≡ true → (is_data k && e) ≡ false
no_data ask_kind.Dehydrate e z = refl
no_data ask_kind.Fetch e z = no_way z
no_data ask_kind.Validate e z = no_way z
no_data ask_kind.List e z = no_way z

data_last : (k : AskKind) (e : Bool) → is_dehydrate k ≡ true → (e && is_data k) ≡ false
data_last ask_kind.Dehydrate true z = refl
data_last ask_kind.Dehydrate false z = refl
data_last ask_kind.Fetch e z = no_way z
data_last ask_kind.Validate e z = no_way z
data_last ask_kind.List e z = no_way z

not_of : (b : Bool) → b ≡ false → not b ≡ true
not_of true e = no_way_back e
not_of false e = refl

-- it is not over
stays_on : (asks : List Live) (item : ItemId) (v : View) (u : Wait) (a : Live) → IsGood asks u a → is_for u a ≡ true → (d : Deed) → Aims item d asks → why item v d asks u ≡ None → is_over d a ≡ false
stays_on asks item v u a good is (Finishes key c) aim e = subst (λ (b : Bool). (b || (is_data a.ask.kind && is_empty a.owned)) ≡ false) (sym (ended asks item v u a good is key c aim e)) (no_data a.ask.kind (is_empty a.owned) (own_kind asks item v u a good is))
stays_on asks item v u a good is Nothing aim e = no_data a.ask.kind (is_empty a.owned) (own_kind asks item v u a good is)
stays_on asks item v u a good is (Leaves key blocks) aim e = no_data a.ask.kind (is_empty a.owned) (own_kind asks item v u a good is)
stays_on asks item v u a good is (Fails key blocks c) aim e = no_data a.ask.kind (is_empty a.owned) (own_kind asks item v u a good is)
stays_on asks item v u a good is (Cancels id) aim e = no_data a.ask.kind (is_empty a.owned) (own_kind asks item v u a good is)
stays_on asks item v u a good is (Closes handle last) aim e = no_data a.ask.kind (is_empty a.owned) (own_kind asks item v u a good is)
stays_on asks item v u a good is Restarts aim e = no_data a.ask.kind (is_empty a.owned) (own_kind asks item v u a good is)
stays_on asks item v u a good is (Expires key) aim e = no_data a.ask.kind (is_empty a.owned) (own_kind asks item v u a good is)

-- nor cut
uncut : (asks : List Live) (item : ItemId) (v : View) (u : Wait) (a : Live) → IsGood asks u a → is_for u a ≡ true → (d : Deed) → Aims item d asks → why item v d asks u ≡ None → is_cut item d a ≡ false
uncut asks item v u a good is (Expires key) aim e = ended asks item v u a good is key cause.TimedOut aim e
uncut asks item v u a good is Restarts aim e = data_last a.ask.kind (a.ask.item.0 == item.0) (own_kind asks item v u a good is)
uncut asks item v u a good is Nothing aim e = refl
uncut asks item v u a good is (Leaves key blocks) aim e = refl
uncut asks item v u a good is (Fails key blocks c) aim e = refl
uncut asks item v u a good is (Cancels id) aim e = refl
uncut asks item v u a good is (Closes handle last) aim e = refl
uncut asks item v u a good is (Finishes key c) aim e = refl

module _ (w : Waiting) (item : ItemId) (v : View) (d : Deed) (h : AreAskedBut item w) (aims : Aims item d w.asks) where
  abbrev pub ws : List Wait
  ws = left_of (why item v d w.asks) w.waits

  abbrev asks : List Live
  asks = filter (λ a. not (is_over d a)) (map (after_deed d) w.asks)

  abbrev pub kept : List Live
  kept = filter (λ a. not (is_cancelled item v d ws a)) asks

  abbrev fresh : List Live
  fresh = new_asks item v ws kept

  abbrev made : List Live
  made = with_keys w.epoch w.key_count fresh

  -- what stays

  one_key : (a : Live) → ((p : Live → Bool) → p a ≡ true → ((y : Live) → p y ≡ true → number_of_ask y ≡ number_of_ask a) → find p w.asks ≡ Some a) → (key : Key) → same_key a.ask.key key ≡ true → (b : Live) × (live_of w.asks key ≡ Some b) × (b.ask ≡ a.ask) × (b.wait ≡ a.wait)
  one_key a found key e = (a, found (λ b. same_key b.ask.key key) e (λ b z. numbers_same b.ask.key key z ∙ sym (numbers_same a.ask.key key e)), refl, refl)

  good_for : (u : Wait) → All (IsOwnAsk u) w.asks → All (IsGood w.asks u) w.asks
  good_for u own =
      all_both (IsOwnAsk u) (λ a. (p : Live → Bool) → p a ≡ true → ((y : Live) → p y ≡ true → number_of_ask y ≡ number_of_ask a) → find p w.asks ≡ Some a) (IsGood w.asks u) (λ a o found. (o, one_key a found)) w.asks own
      (each_found number_of_ask 0 w.key_count w.asks h.keys)

  is_one : (u : Wait) (a : Live) → Among u ws → is_for u a ≡ true → list_any (λ x. same_key x.id.0 a.wait.0) ws ≡ true
  is_one u a there e = among_any (λ x. same_key x.id.0 a.wait.0) u ws there (key_same a.wait.0 u.id.0 (right_true (is_dehydrate a.ask.kind) (same_key a.wait.0 u.id.0) e))

  not_idle : (k : AskKind) (a : Live) (same : Bool) → is_dehydrate k ≡ true → list_any (λ x. same_key x.id.0 a.wait.0) ws ≡ true → (same && is_idle_by k item v ws a) ≡ false
  not_idle ask_kind.Dehydrate a true z e = rw e refl
  not_idle ask_kind.Dehydrate a false z e = refl
  not_idle ask_kind.Fetch a same z e = no_way z
  not_idle ask_kind.Validate a same z e = no_way z
  not_idle ask_kind.List a same z e = no_way z

  uncancelled : (u : Wait) → Among u ws → why item v d w.asks u ≡ None → (a : Live) → IsGood w.asks u a → is_for u a ≡ true → not (is_cancelled item v d ws a) ≡ true
  uncancelled u there left a good is =
      not_of (is_cancelled item v d ws a)
      (either (is_cut item d a) (is_idle item v ws a) (uncut w.asks item v u a good is d aims left) (not_idle a.ask.kind a (a.ask.item.0 == item.0) (left_true (is_dehydrate a.ask.kind) (same_key a.wait.0 u.id.0) is) (is_one u a there is))) where
        either : (b c : Bool) → b ≡ false → c ≡ false → (b || c) ≡ false
        either true c e f = no_way_back e
        either false c e f = f

  -- the ask of a wait that is left is left
  kept_for : (u : Wait) → Among u ws → why item v d w.asks u ≡ None → All (IsOwnAsk u) w.asks → is_asked_for w.asks u ≡ true → is_asked_for kept u ≡ true
  kept_for u there left own e =
      let good : All (IsGood w.asks u) (map (after_deed d) w.asks) = all_map (IsGood w.asks u) (IsGood w.asks u) (after_deed d) (good_after w.asks u d) w.asks (good_for u own) in
      any_passed (IsGood w.asks u) (is_for u) (λ a. not (is_cancelled item v d ws a)) (uncancelled u there left) asks (all_filter (IsGood w.asks u) (λ a. not (is_over d a)) (map (after_deed d) w.asks) good)
      (any_passed (IsGood w.asks u) (is_for u) (λ a. not (is_over d a)) (λ a g is. not_of (is_over d a) (stays_on w.asks item v u a g is d aims left)) (map (after_deed d) w.asks) good
      (any_mapped (is_for u) (after_deed d) (for_after u d) w.asks e))

  kept_own : (u : Wait) → All (IsOwnAsk u) w.asks → All (IsOwnAsk u) kept
  kept_own u own =
      all_filter (IsOwnAsk u) (λ a. not (is_cancelled item v d ws a)) asks
      (all_filter (IsOwnAsk u) (λ a. not (is_over d a)) (map (after_deed d) w.asks) (all_map (IsOwnAsk u) (IsOwnAsk u) (after_deed d) (λ a k. own_after a k) w.asks own)) where
        own_after : (a : Live) → IsOwnAsk u a → IsOwnAsk u (after_deed d a)
        own_after a k =
            subst (λ (q : Ask). same_key (after_deed d a).wait.0 u.id.0 ≡ true → (is_dehydrate q.kind ≡ true) × (q.item.0 ≡ u.item.0)) (sym (deed_ask d a))
            (subst (λ (x : WaitId). same_key x.0 u.id.0 ≡ true → (is_dehydrate a.ask.kind ≡ true) × (a.ask.item.0 ≡ u.item.0)) (sym (deed_wait d a)) k)

  -- what is made

  abbrev is_new : Wait → Bool
  is_new u = (u.item.0 == item.0) && is_dehydrate_wait u.kind && not (list_any (λ a. same_key a.wait.0 u.id.0) kept)

  key_refl : (k : Key) → same_key k k ≡ true
  key_refl k = both (k.epoch == k.epoch) (k.number == k.number) (eq-eqb k.epoch k.epoch refl) (eq-eqb k.number k.number refl) where
    both : (c e : Bool) → c ≡ true → e ≡ true → (c && e) ≡ true
    both true e f g = g
    both false e f g = no_way f

  keyed_for : (u : Wait) (e n : ℕ) (as' : List Live) → list_any (is_for u) as' ≡ true → list_any (is_for u) (with_keys e n as') ≡ true
  keyed_for u e n [] k = k
  keyed_for u e n (a ∷ as') k = by (is_for u a) k (keyed_for u e (n + 1) as') where
    by : (b : Bool) → (b || list_any (is_for u) as') ≡ true → (list_any (is_for u) as' ≡ true → list_any (is_for u) (with_keys e (n + 1) as') ≡ true) → (b || list_any (is_for u) (with_keys e (n + 1) as')) ≡ true
    by true k more = refl
    by false k more = more k

  keyed_all : (C : Live → Type 0) → ((a : Live) (k : Key) → C a → C (record a { ask = record a.ask { key = k } })) → (e n : ℕ) (as' : List Live) → All C as' → All C (with_keys e n as')
  keyed_all C k e n [] g = tt
  keyed_all C k e n (a ∷ as') g = (k a (key_after e n) g.0, keyed_all C k e (n + 1) as' g.1)

  -- asks for bytes and for a list, before those for dehydrations
  abbrev others : List Live
  others = map (ask_of_run item v.base) (runs_of v (open_blocks item v ws kept)) ++ list_asks item ws kept

  made_for : All (λ u. is_new u ≡ true → is_asked_for made u ≡ true) ws
  made_for =
      all_weaker (λ u. is_new u ≡ true → list_any (is_for u) (map dehydrate_ask (filter is_new ws)) ≡ true) (λ u. is_new u ≡ true → is_asked_for made u ≡ true)
      (λ u k e. keyed_for u w.epoch w.key_count fresh (any_behind (is_for u) others (map dehydrate_ask (filter is_new ws)) (k e))) ws
      (each_made dehydrate_ask is_new is_for (λ u. key_refl u.id.0) ws)

  unset : (C : Live → Type 0) → ((a : Live) → a.wait.0 ≡ no_key → C a) → All C others
  unset C k =
      all_append C (map (ask_of_run item v.base) (runs_of v (open_blocks item v ws kept))) (list_asks item ws kept)
      (all_map (λ r. Unit {0}) C (ask_of_run item v.base) (λ r _. k (ask_of_run item v.base r) refl) (runs_of v (open_blocks item v ws kept)) (all_any (λ r. Unit {0}) (λ r. tt) (runs_of v (open_blocks item v ws kept)))) (lists _) where
        lists : (b : Bool) → All C (when b (list_ask item ∷ []))
        lists true = (k (list_ask item) refl, tt)
        lists false = tt

  -- numbers

  waits_rise : Rises number_of_wait 0 w.wait_count ws
  waits_rise = rises_filter number_of_wait _ 0 w.wait_count w.waits h.waits

  made_rise : (e n : ℕ) (as' : List Live) → Rises number_of_ask n (n + length (with_keys e n as')) (with_keys e n as')
  made_rise e n [] = none n where
    none : (n : ℕ) → n ≤ n + 0
    none n = omega arith
  made_rise e n (a ∷ as') = (next n, subst (λ (m : ℕ). Rises number_of_ask (n + 1) m (with_keys e (n + 1) as')) (one_on n (length (with_keys e (n + 1) as'))) (made_rise e (n + 1) as')) where
    next : (n : ℕ) → n < n + 1
    next n = omega arith

    one_on : (n m : ℕ) → n + 1 + m ≡ n + suc m
    one_on n m = omega arith

  keys_rise : Rises number_of_ask 0 (w.key_count + length made) (kept ++ made)
  keys_rise =
      rises_append number_of_ask 0 w.key_count (w.key_count + length made) kept made
      (rises_filter number_of_ask _ 0 w.key_count asks (rises_filter number_of_ask _ 0 w.key_count (map (after_deed d) w.asks) (rises_map number_of_ask (after_deed d) (λ a. ap (λ (q : Ask). q.key.number) (deed_ask d a)) 0 w.key_count w.asks h.keys)))
      (made_rise w.epoch w.key_count fresh)

  zero_least : (n : ℕ) → 0 ≤ n
  zero_least n = omega arith

  early_all : All (λ a. a.wait.0.number ≤ w.wait_count) (kept ++ made)
  early_all =
      all_append (λ a. a.wait.0.number ≤ w.wait_count) kept made
      (all_filter (λ a. a.wait.0.number ≤ w.wait_count) (λ a. not (is_cancelled item v d ws a)) asks
      (all_filter (λ a. a.wait.0.number ≤ w.wait_count) (λ a. not (is_over d a)) (map (after_deed d) w.asks)
      (all_map (λ a. a.wait.0.number ≤ w.wait_count) (λ a. a.wait.0.number ≤ w.wait_count) (after_deed d) (λ a k. subst (λ (x : WaitId). x.0.number ≤ w.wait_count) (sym (deed_wait d a)) k) w.asks h.early)))
      (keyed_all (λ a. a.wait.0.number ≤ w.wait_count) (λ a k g. g) w.epoch w.key_count fresh
      (all_append (λ a. a.wait.0.number ≤ w.wait_count) others (map dehydrate_ask (filter is_new ws)) (unset (λ a. a.wait.0.number ≤ w.wait_count) (λ a e. subst (λ (k : Key). k.number ≤ w.wait_count) (sym e) (zero_least w.wait_count)))
      (all_map (λ u. number_of_wait u ≤ w.wait_count) (λ a. a.wait.0.number ≤ w.wait_count) dehydrate_ask (λ u k. k) (filter is_new ws) (all_filter (λ u. number_of_wait u ≤ w.wait_count) is_new ws (upto_all number_of_wait 0 w.wait_count ws waits_rise)))))

  -- asks and their waits

  made_own : (u : Wait) → 0 < number_of_wait u → All (λ y. number_of_wait y ≡ number_of_wait u → y ≡ u) ws → All (IsOwnAsk u) made
  made_own u above one =
      keyed_all (IsOwnAsk u) (λ a k g. g) w.epoch w.key_count fresh
      (all_append (IsOwnAsk u) others (map dehydrate_ask (filter is_new ws)) (unset (IsOwnAsk u) (λ a e z. absurd (no_number a e z)))
      (all_map (λ y. number_of_wait y ≡ number_of_wait u → y ≡ u) (IsOwnAsk u) dehydrate_ask (λ y k z. (refl, ap (λ (x : Wait). x.item.0) (k (numbers_same y.id.0 u.id.0 z)))) (filter is_new ws) (all_filter (λ y. number_of_wait y ≡ number_of_wait u → y ≡ u) is_new ws one))) where
        none : (n : ℕ) → 0 < n → 0 ≡ n → ⊥
        none n l e = omega (arith, l, e)

        no_number : (a : Live) → a.wait.0 ≡ no_key → same_key a.wait.0 u.id.0 ≡ true → ⊥
        no_number a e z = none (number_of_wait u) above (sym (ap (λ (k : Key). k.number) e) ∙ numbers_same a.wait.0 u.id.0 z)

  own_all : All (λ u. All (IsOwnAsk u) (kept ++ made)) ws
  own_all =
      all_both (λ u. All (IsOwnAsk u) w.asks) (λ u. (0 < number_of_wait u) × All (λ y. number_of_wait y ≡ number_of_wait u → y ≡ u) ws) (λ u. All (IsOwnAsk u) (kept ++ made))
      (λ u own k. all_append (IsOwnAsk u) kept made (kept_own u own) (made_own u k.0 k.1)) ws
      (all_filter (λ u. All (IsOwnAsk u) w.asks) _ w.waits h.own)
      (all_both (λ u. 0 < number_of_wait u) (λ u. All (λ y. number_of_wait y ≡ number_of_wait u → y ≡ u) ws) (λ u. (0 < number_of_wait u) × All (λ y. number_of_wait y ≡ number_of_wait u → y ≡ u) ws) (λ u a b. (a, b)) ws
      (above_all number_of_wait 0 w.wait_count ws waits_rise) (all_apart number_of_wait 0 w.wait_count ws waits_rise))

  -- what was asked for, or is of the item
  abbrev IsLeft : Wait → Type 0
  IsLeft u = (is_dehydrate_wait u.kind ≡ true → (is_asked_for w.asks u ≡ true) ⊎ (u.item.0 ≡ item.0)) × All (IsOwnAsk u) w.asks × (why item v d w.asks u ≡ None)

  left_all : All IsLeft ws
  left_all =
      all_passed (λ u. (is_dehydrate_wait u.kind ≡ true → (is_asked_for w.asks u ≡ true) ⊎ (u.item.0 ≡ item.0)) × All (IsOwnAsk u) w.asks) IsLeft (λ u. not (is_some (why item v d w.asks u))) (λ u e k. (k.0, k.1, none (why item v d w.asks u) e)) w.waits
      (all_both (λ u. is_dehydrate_wait u.kind ≡ true → (is_asked_for w.asks u ≡ true) ⊎ (u.item.0 ≡ item.0)) (λ u. All (IsOwnAsk u) w.asks) _ (λ u a b. (a, b)) w.waits h.asked h.own) where
        none : (o : Option Cause) → not (is_some o) ≡ true → o ≡ None
        none None e = refl
        none (Some c) e = no_way e

  -- the dehydrations that waited and were asked for still are
  pub kept_asked : All (λ u. is_asked_for w.asks u ≡ true → is_asked_for kept u ≡ true) ws
  kept_asked = all_both IsLeft (λ u. Among u ws) (λ u. is_asked_for w.asks u ≡ true → is_asked_for kept u ≡ true) (λ u k there. kept_for u there k.2 k.1) ws left_all (all_in ws)

  one_asked : (u : Wait) → IsLeft u → (is_asked_for w.asks u ≡ true → is_asked_for kept u ≡ true) → (is_new u ≡ true → is_asked_for made u ≡ true) → is_dehydrate_wait u.kind ≡ true → is_asked_for (kept ++ made) u ≡ true
  one_asked u k old new e = by (is_asked_for kept u) refl where
    unasked : is_asked_for kept u ≡ false → not (list_any (λ a. same_key a.wait.0 u.id.0) kept) ≡ true
    unasked q = by (list_any (λ a. same_key a.wait.0 u.id.0) kept) refl where
      for_it : (x y : Bool) → x ≡ true → y ≡ true → (x && y) ≡ true
      for_it true y f g = g
      for_it false y f g = no_way f

      by : (b : Bool) → list_any (λ a. same_key a.wait.0 u.id.0) kept ≡ b → not b ≡ true
      by true z = no_way (sym q ∙ any_so (IsOwnAsk u) (λ a. same_key a.wait.0 u.id.0) (is_for u) (λ a o f. for_it (is_dehydrate a.ask.kind) (same_key a.wait.0 u.id.0) (o f).0 f) kept (kept_own u k.1) z)
      by false z = refl

    all_three : (x y z : Bool) → x ≡ true → y ≡ true → z ≡ true → (x && y && z) ≡ true
    all_three true true z f g m = m
    all_three true false z f g m = no_way g
    all_three false y z f g m = no_way f

    on : is_asked_for kept u ≡ false → (is_asked_for w.asks u ≡ true) ⊎ (u.item.0 ≡ item.0) → u.item.0 ≡ item.0
    on q (inl z) = no_way (sym q ∙ old z)
    on q (inr z) = z

    by : (b : Bool) → is_asked_for kept u ≡ b → is_asked_for (kept ++ made) u ≡ true
    by true q = any_longer (is_for u) kept made q
    by false q = any_behind (is_for u) kept made (new (all_three (u.item.0 == item.0) (is_dehydrate_wait u.kind) (not (list_any (λ a. same_key a.wait.0 u.id.0) kept)) (eq-eqb u.item.0 item.0 (on q (k.0 e))) e (unasked q)))

  pub step_asked : AreAsked (step_of item v d w).1
  step_asked = record {
    waits = waits_rise;
    keys = keys_rise;
    early = early_all;
    own = own_all;
    asked = all_both IsLeft (λ u. (is_asked_for w.asks u ≡ true → is_asked_for kept u ≡ true) × (is_new u ≡ true → is_asked_for made u ≡ true)) (λ u. is_dehydrate_wait u.kind ≡ true → is_asked_for (kept ++ made) u ≡ true)
        (λ u k m. one_asked u k m.0 m.1) ws left_all
        (all_both (λ u. is_asked_for w.asks u ≡ true → is_asked_for kept u ≡ true) (λ u. is_new u ≡ true → is_asked_for made u ≡ true) _ (λ u a b. (a, b)) ws kept_asked made_for);
  }

-- where each was asked for
pub asked_but : (item : ItemId) (w : Waiting) → AreAsked w → AreAskedBut item w
asked_but item w h = record { waits = h.waits; keys = h.keys; early = h.early; own = h.own; asked = all_weaker (λ u. is_dehydrate_wait u.kind ≡ true → is_asked_for w.asks u ≡ true) _ (λ u k e. inl (k e)) w.waits h.asked }
