-- A step on the item that was looked at last, by what changed of it since.
use Rattle.std.proofs.Common.{◌≡◌, ℕ, suc, ◌<◌, ◌≤◌, Bool, true, false, not, cond, Option, Some, None, List, [], ◌∷◌, length, refl, sym, ap, subst, ◌∙◌, arith, eqb}
use Rattle.std.specs.Prelude.{filter, map}
use Rattle.std.specs.List.{AllByRecursion}
use Rattle.std.proofs.lemmas.Bool.Decides.{nat_tests}
use Rattle.cf_ask_rule.proofs.Filters.{all_then}
use Rattle.cf_ask_rule.specs.Narrowing.{AreAlike, MayPlan, PlansExpiry, PlansLeave, those}
use Rattle.cf_ask_rule.specs.Plans.{Outlook, plan_of}
use Rattle.cf_ask_rule.specs.Settled.{IsSettled}
use Rattle.cf_base.specs.declared.ids.ItemId.{ItemId}
use Rattle.cf_base.specs.declared.ids.Key.{Key}
use Rattle.cf_base.specs.declared.waits.AskKind.{AskKind}
use Rattle.cf_base.specs.declared.waits.AskKind.TheVariants as ask_kind
use Rattle.cf_base.specs.declared.waits.Cause.{Cause}
use Rattle.cf_model.specs.Asks.{step_of}
use Rattle.cf_model.specs.Missing.{View, Wait}
use Rattle.cf_model.specs.Numbers.{same_key}
use Rattle.cf_model.specs.Requests.{Expires, Leaves, Live, Told, Waiting, is_data, is_dehydrate, is_dehydrate_wait, is_list, live_of}
use Rattle.cf_waits.proofs.Changes.{whole}
use Rattle.cf_waits.proofs.Rises.{above_differs, all_above, below_differs, same_number}
use Rattle.cf_waits.specs.Books.{aged_at, is_list_ask, is_plain_ask, is_plain_wait}
use Rattle.cf_waits.specs.Deltas.{unless_kept}
use Rattle.cf_waits.specs.Rising.{RisesTo, ask_key}
use Rattle.cf_waits.specs.Sound.{IsSound}
use Rattle.cf_waits.specs.Steps.{carried}

-- kept asks are the same but for their ticks
pub aged_alike : (t : ℕ) (xs : List Live) → AreAlike xs (map (aged_at t) xs)
aged_alike t [] = tt
aged_alike t (x ∷ xs) = (refl, refl, refl, aged_alike t xs)

-- no two asks have one key
unique : (k : Key) (epoch low high : ℕ) (xs : List Live) → RisesTo ask_key epoch low high xs → AllByRecursion (λ a. same_key a.ask.key k ≡ true → live_of xs k ≡ Some a) xs
unique k epoch low high [] h = tt
unique k epoch low high (x ∷ xs) h = ((λ t. ap (λ c. cond c (Some x) (live_of xs k)) t), tail xs (all_above ask_key epoch x.ask.key.number high xs h.2) (unique k epoch x.ask.key.number high xs h.2)) where
  tail : (ys : List Live) → AllByRecursion (λ a. x.ask.key.number < a.ask.key.number) ys → AllByRecursion (λ a. same_key a.ask.key k ≡ true → live_of xs k ≡ Some a) ys → AllByRecursion (λ a. same_key a.ask.key k ≡ true → cond (same_key x.ask.key k) (Some x) (live_of xs k) ≡ Some a) ys
  tail [] g j = tt
  tail (a ∷ as') g j = ((λ t. ap (λ c. cond c (Some x) (live_of xs k)) (below_differs x.ask.key k (subst (λ (n : ℕ). x.ask.key.number < n) (same_number a.ask.key k t) g.0)) ∙ j.0 t), tail as' g.1 j.1)

-- where one has the key, it is the live one of the key
once : (k : Key) (epoch low high : ℕ) (xs : List Live) → RisesTo ask_key epoch low high xs → filter (λ a. same_key a.ask.key k) xs ≡ those (live_of xs k)
once k epoch low high [] h = refl
once k epoch low high (x ∷ xs) h = one (same_key x.ask.key k) refl (once k epoch x.ask.key.number high xs h.2) where
  none : same_key x.ask.key k ≡ true → (ys : List Live) → AllByRecursion (λ a. x.ask.key.number < a.ask.key.number) ys → filter (λ a. same_key a.ask.key k) ys ≡ []
  none t [] g = refl
  none t (y ∷ ys) g = ap (λ c. cond c (y ∷ filter (λ a. same_key a.ask.key k) ys) (filter (λ a. same_key a.ask.key k) ys)) (above_differs y.ask.key k (subst (λ (n : ℕ). n < y.ask.key.number) (same_number x.ask.key k t) g.0)) ∙ none t ys g.1

  one : (b : Bool) → same_key x.ask.key k ≡ b → filter (λ a. same_key a.ask.key k) xs ≡ those (live_of xs k) → cond b (x ∷ filter (λ a. same_key a.ask.key k) xs) (filter (λ a. same_key a.ask.key k) xs) ≡ those (cond b (Some x) (live_of xs k))
  one true t e = ap (λ l. x ∷ l) (none t xs (all_above ask_key epoch x.ask.key.number high xs h.2))
  one false t e = e

pub may_plan : (item : ItemId) (u : View) (key : Key) (s : Waiting) → IsSettled item u s.waits s.asks → AllByRecursion (λ a. is_data a.ask.kind ≡ true) s.asks → AllByRecursion (λ w. is_dehydrate_wait w.kind ≡ false) s.waits → IsSound s → MayPlan item u key s.waits s.asks
may_plan item u key s settled bytes plain sound = record {
  settled = settled;
  data_asks = bytes;
  plain = plain;
  full = sound.full;
  unique = unique key s.epoch 0 s.key_count s.asks sound.numbered.asks;
  once = once key s.epoch 0 s.key_count s.asks sound.numbered.asks;
  apart = sound.apart item;
}

pub leave_is : (item : ItemId) (v : View) (key : Key) (blocks : List ℕ) (ended : List (Wait × Cause)) (kept : Option Live) (s : Waiting) → IsSound s → PlansLeave item v key blocks s.waits s.asks ended kept
    → carried (record { ended = ended; cancelled = []; dropped = unless_kept key kept; changed = kept; made = []; item = item; view = v }) s ≡ step_of item v (Leaves key blocks) s
leave_is item v key blocks ended kept s sound h =
    let o : Outlook = plan_of item v (Leaves key blocks) s.waits s.asks in
    let f : List (Wait × Cause) → List Key → Option Live → List Live → Told × Waiting = λ e c k m. carried (record { ended = e; cancelled = c; dropped = unless_kept key k; changed = k; made = m; item = item; view = v }) s in
    ap (λ x. f x [] kept []) (sym h.ends) ∙ ap (λ x. f o.ended x kept []) (sym h.cancels) ∙ ap (λ x. f o.ended o.cancelled x []) (sym h.keeps) ∙ ap (λ x. f o.ended o.cancelled (live_of o.kept key) x) (sym h.makes)
    ∙ whole item v (Leaves key blocks) s sound

pub expiry_is : (item : ItemId) (v : View) (key : Key) (ended : List (Wait × Cause)) (cancelled : List Key) (s : Waiting) → IsSound s → PlansExpiry item v key s.waits s.asks ended cancelled
    → carried (record { ended = ended; cancelled = cancelled; dropped = None; changed = None; made = []; item = item; view = v }) s ≡ step_of item v (Expires key) s
expiry_is item v key ended cancelled s sound h =
    let o : Outlook = plan_of item v (Expires key) s.waits s.asks in
    let f : List (Wait × Cause) → List Key → List Live → Told × Waiting = λ e c m. carried (record { ended = e; cancelled = c; dropped = None; changed = None; made = m; item = item; view = v }) s in
    ap (λ x. f x cancelled []) (sym h.ends) ∙ ap (λ x. f o.ended x []) (sym h.cancels) ∙ ap (λ x. f o.ended o.cancelled x) (sym h.makes) ∙ whole item v (Expires key) s sound

-- the counts

pub equal_counts : (m n : ℕ) → eqb m n ≡ true → m ≡ n
equal_counts m n h = grind (arith, nat_tests)

counted : {A : Type 0} (p : A → Bool) (xs : List A) → length (filter p xs) ≤ length xs
counted p [] = omega arith
counted {A} p (x ∷ xs) = one (p x) (counted p xs) where
  one : (b : Bool) → length (filter p xs) ≤ length xs → length (cond b (x ∷ filter p xs) (filter p xs)) ≤ suc (length xs)
  one true h = omega arith
  one false h = omega arith

-- where as many pass as there are, each passes
pub all_counted : {A : Type 0} (p : A → Bool) (xs : List A) → length (filter p xs) ≡ length xs → AllByRecursion (λ x. p x ≡ true) xs
all_counted p [] h = tt
all_counted {A} p (x ∷ xs) h = one (p x) refl (all_counted p xs) h where
  one : (b : Bool) → p x ≡ b → (length (filter p xs) ≡ length xs → AllByRecursion (λ x. p x ≡ true) xs) → length (cond b (x ∷ filter p xs) (filter p xs)) ≡ suc (length xs) → (p x ≡ true) × AllByRecursion (λ x. p x ≡ true) xs
  one true e more k = (e, more (omega arith))
  one false e more k = let c : length (filter p xs) ≤ length xs = counted p xs in absurd (omega arith)

pub none_counted : {A : Type 0} (p : A → Bool) (xs : List A) → length (filter p xs) ≡ 0 → AllByRecursion (λ x. p x ≡ false) xs
none_counted p [] h = tt
none_counted {A} p (x ∷ xs) h = one (p x) refl (none_counted p xs) h where
  one : (b : Bool) → p x ≡ b → (length (filter p xs) ≡ 0 → AllByRecursion (λ x. p x ≡ false) xs) → length (cond b (x ∷ filter p xs) (filter p xs)) ≡ 0 → (p x ≡ false) × AllByRecursion (λ x. p x ≡ false) xs
  one true e more k = absurd (omega arith)
  one false e more k = (e, more k)

is_data_by : (kind : AskKind) → not (is_dehydrate kind) ≡ true → is_list kind ≡ false → is_data kind ≡ true
is_data_by ask_kind.Fetch p l = refl
is_data_by ask_kind.Validate p l = refl
is_data_by ask_kind.List p l = let z : true ≡ false = l in cc
is_data_by ask_kind.Dehydrate p l = let z : false ≡ true = p in cc

pub all_data : (t : ℕ) (xs : List Live) → AllByRecursion (λ a. is_plain_ask a ≡ true) xs → AllByRecursion (λ a. is_list_ask a ≡ false) xs → AllByRecursion (λ a. is_data a.ask.kind ≡ true) (map (aged_at t) xs)
all_data t [] p l = tt
all_data t (x ∷ xs) p l = (is_data_by x.ask.kind p.0 l.0, all_data t xs p.1 l.1)

is_not : (b : Bool) → not b ≡ true → b ≡ false
is_not true h = let z : false ≡ true = h in cc
is_not false h = refl

pub all_plain : (ws : List Wait) → AllByRecursion (λ w. is_plain_wait w ≡ true) ws → AllByRecursion (λ w. is_dehydrate_wait w.kind ≡ false) ws
all_plain ws h = all_then (λ w. is_plain_wait w ≡ true) (λ w. is_dehydrate_wait w.kind ≡ false) (λ w e. is_not (is_dehydrate_wait w.kind) e) ws h
