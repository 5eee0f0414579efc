-- Each step keeps waits and asks sound.
use Rattle.std.proofs.Common.{◌≡◌, ℕ, zero, suc, ◌+◌, ◌<◌, ◌≤◌, Bool, true, false, ◌&&◌, ◌||◌, not, cond, Option, List, [], ◌∷◌, ◌++◌, length, refl, sym, ap, ◌∙◌, arith, eqb, eq-eqb}
use Rattle.std.specs.Prelude.{filter, is_some, map}
use Rattle.std.specs.Bool.{beq}
use Rattle.std.specs.List.{AllByRecursion, list_any}
use Rattle.std.proofs.lemmas.Bool.Decides.{nat_tests}
use Rattle.cf_ask_rule.proofs.Owned.{stay_apart}
use Rattle.cf_ask_rule.specs.Near.{Agrees, IsFull}
use Rattle.cf_base.specs.declared.ids.ItemId.{ItemId}
use Rattle.cf_base.specs.declared.ids.Key.{Key}
use Rattle.cf_base.specs.declared.waits.AskKind.TheVariants as ask_kind
use Rattle.cf_base.specs.declared.waits.Cause.{Cause}
use Rattle.cf_model.specs.Asks.{Run, after_deed, ask_of_run, dehydrate_ask, dehydrate_asks, is_cancelled, is_fetched, is_finished, is_over, left_of, list_ask, list_asks, new_asks, open_blocks, released, runs_of, runs_on, settled_with, step_of, why, with_keys}
use Rattle.cf_model.specs.Missing.{View, Wait}
use Rattle.cf_model.specs.Numbers.{no_key, same_key}
use Rattle.cf_model.specs.Requests.{Cancels, Closes, Deed, Expires, Fails, Finishes, Leaves, Live, Nothing, Restarts, Waiting, has_block, is_data, is_dehydrate_wait, is_list, is_list_wait, with_waits}
use Rattle.cf_model.specs.Words.{counting, is_empty, when}
use Rattle.cf_waits.proofs.Numbered.{begun_numbered, step_numbered}
use Rattle.cf_waits.specs.Rising.{IsNumbered, RisesTo, wait_key}
use Rattle.cf_waits.specs.Sound.{IsSound}

-- lists

all_then : {A : Type 0} (P Q : A → Type 0) → ((x : A) → P x → Q x) → (xs : List A) → AllByRecursion P xs → AllByRecursion Q xs
all_then P Q f [] h = tt
all_then P Q f (x ∷ xs) h = (f x h.0, all_then P Q f xs h.1)

all_filter : {A : Type 0} (P : A → Type 0) (p : A → Bool) (xs : List A) → AllByRecursion P xs → AllByRecursion P (filter p xs)
all_filter P p [] h = tt
all_filter P p (x ∷ xs) h = one (p x) (all_filter P p xs h.1) where
  one : (b : Bool) → AllByRecursion P (filter p xs) → AllByRecursion P (cond b (x ∷ filter p xs) (filter p xs))
  one true g = (h.0, g)
  one false g = g

all_pass : {A : Type 0} (p : A → Bool) (xs : List A) → AllByRecursion (λ x. p x ≡ true) (filter p xs)
all_pass p [] = tt
all_pass p (x ∷ xs) = one (p x) refl (all_pass p xs) where
  one : (b : Bool) → p x ≡ b → AllByRecursion (λ y. p y ≡ true) (filter p xs) → AllByRecursion (λ y. p y ≡ true) (cond b (x ∷ filter p xs) (filter p xs))
  one true e h = (e, h)
  one false e h = h

all_append : {A : Type 0} (P : A → Type 0) (xs ys : List A) → AllByRecursion P xs → AllByRecursion P ys → AllByRecursion P (xs ++ ys)
all_append P [] ys h k = k
all_append P (x ∷ xs) ys h k = (h.0, all_append P xs ys h.1 k)

all_map : {A B : Type 0} (P : A → Type 0) (Q : B → Type 0) (f : A → B) → ((x : A) → P x → Q (f x)) → (xs : List A) → AllByRecursion P xs → AllByRecursion Q (map f xs)
all_map P Q f g [] h = tt
all_map P Q f g (x ∷ xs) h = (g x h.0, all_map P Q f g xs h.1)

all_of : {A : Type 0} (P : A → Type 0) → ((x : A) → P x) → (xs : List A) → AllByRecursion P xs
all_of P f [] = tt
all_of P f (x ∷ xs) = (f x, all_of P f xs)

is_not : (b : Bool) → not b ≡ true → b ≡ false
is_not true h = let z : false ≡ true = h in cc
is_not false h = refl

right_false : (a b : Bool) → (a || b) ≡ false → b ≡ false
right_false true b h = let z : true ≡ false = h in cc
right_false false b h = h

and_false : (a : Bool) → (a && false) ≡ false
and_false true = refl
and_false false = refl

first_true : (a b c : Bool) → (a && b && c) ≡ true → a ≡ true
first_true true b c h = refl
first_true false b c h = h

-- data asks have a block

kept_full : (d : Deed) (asks : List Live) → AllByRecursion IsFull (filter (λ a. not (is_over d a)) asks)
kept_full d asks = all_then (λ a. not (is_over d a) ≡ true) IsFull (λ a h. right_false (is_finished d a) (is_data a.ask.kind && is_empty a.owned) (is_not (is_over d a) h)) (filter (λ a. not (is_over d a)) asks) (all_pass (λ a. not (is_over d a)) asks)

run_full : (kind : Bool) (first count : ℕ) → 0 < count → (kind && is_empty (counting first count)) ≡ false
run_full kind first zero l = absurd (omega arith)
run_full kind first (suc n) l = and_false kind

one_of : (item : ItemId) (base : ℕ) (P : Live → Type 0) (t : Bool) (r : Run) (xs ys : List Run) → AllByRecursion P (map (ask_of_run item base) xs) → AllByRecursion P (map (ask_of_run item base) (r ∷ ys))
    → AllByRecursion P (map (ask_of_run item base) (elim t as (λ _. List Run) [ true ↦ xs | false ↦ r ∷ ys ]))
one_of item base P true r xs ys f g = f
one_of item base P false r xs ys f g = g

runs_full : (item : ItemId) (base : ℕ) (v : View) (bs : List ℕ) (r : Run) → 0 < r.count → AllByRecursion IsFull (map (ask_of_run item base) (runs_on v r bs))
runs_full item base v [] r l = (run_full (is_data (ask_of_run item base r).ask.kind) r.first r.count l, tt)
runs_full item base v (c ∷ cs) r l = one_of item base IsFull (eqb c (r.first + r.count) && beq (is_fetched v c) r.fetch) r _ _
    (runs_full item base v cs (record r { count = r.count + 1 }) (omega arith))
    (run_full (is_data (ask_of_run item base r).ask.kind) r.first r.count l, runs_full item base v cs (record { fetch = is_fetched v c; first = c; count = 1 }) (omega arith))

all_runs_full : (item : ItemId) (base : ℕ) (v : View) (bs : List ℕ) → AllByRecursion IsFull (map (ask_of_run item base) (runs_of v bs))
all_runs_full item base v [] = tt
all_runs_full item base v (c ∷ cs) = runs_full item base v cs (record { fetch = is_fetched v c; first = c; count = 1 }) (omega arith)

all_when : (P : Live → Type 0) (b : Bool) (xs : List Live) → AllByRecursion P xs → AllByRecursion P (when b xs)
all_when P true xs h = h
all_when P false xs h = tt

-- of asks that are made, without keys
abbrev lacks : ItemId → List Live → Wait → Bool
lacks item kept w = (eqb w.item.0 item.0) && is_dehydrate_wait w.kind && not (list_any (λ a. same_key a.wait.0 w.id.0) kept)

all_made : (P : Live → Type 0) (item : ItemId) (v : View) (ws : List Wait) (kept : List Live) → AllByRecursion P (map (ask_of_run item v.base) (runs_of v (open_blocks item v ws kept))) → P (list_ask item) → AllByRecursion P (map dehydrate_ask (filter (lacks item kept) ws))
    → AllByRecursion P (new_asks item v ws kept)
all_made P item v ws kept h l k =
    all_append P (map (ask_of_run item v.base) (runs_of v (open_blocks item v ws kept)) ++ list_asks item ws kept) (dehydrate_asks item ws kept)
    (all_append P (map (ask_of_run item v.base) (runs_of v (open_blocks item v ws kept))) (list_asks item ws kept) h
    (all_when P (list_any (λ w. (eqb w.item.0 item.0) && is_list_wait w.kind) ws && not (list_any (λ a. (eqb a.ask.item.0 item.0) && is_list a.ask.kind) kept)) (list_ask item ∷ []) (l, tt))) k

made_full : (item : ItemId) (v : View) (ws : List Wait) (kept : List Live) → AllByRecursion IsFull (new_asks item v ws kept)
made_full item v ws kept = all_made IsFull item v ws kept (all_runs_full item v.base v (open_blocks item v ws kept)) refl
    (all_map (λ w. Unit {0}) IsFull dehydrate_ask (λ w u. refl) (filter (lacks item kept) ws) (all_of (λ w. Unit {0}) (λ w. tt) (filter (lacks item kept) ws)))

pub all_keyed : (P : Live → Type 0) → ((a : Live) (k : Key) → P a → P (record a { ask = record a.ask { key = k } })) → (epoch n : ℕ) (asks : List Live) → AllByRecursion P asks → AllByRecursion P (with_keys epoch n asks)
all_keyed P f epoch n [] h = tt
all_keyed P f epoch n (a ∷ asks) h = (f a (record { epoch = epoch; number = n + 1 }) h.0, all_keyed P f epoch (n + 1) asks h.1)

-- the wait of an ask after the deed

released_wait : (P : Live → Type 0) → ((a : Live) (bs : List ℕ) (t : ℕ) → P a → P (record a { owned = bs; ticks = t })) → (key : Key) (blocks : List ℕ) (a : Live) → P a → P (released key blocks a)
released_wait P f key blocks a h = one (same_key a.ask.key key) where
  one : (c : Bool) → P (cond c (record a { owned = filter (λ b. not (has_block blocks b)) a.owned; ticks = 0 }) a)
  one true = f a (filter (λ b. not (has_block blocks b)) a.owned) 0 h
  one false = h

deed_wait : (P : Live → Type 0) → ((a : Live) (bs : List ℕ) (t : ℕ) → P a → P (record a { owned = bs; ticks = t })) → (d : Deed) (a : Live) → P a → P (after_deed d a)
deed_wait P f Nothing a h = h
deed_wait P f (Leaves key blocks) a h = released_wait P f key blocks a h
deed_wait P f (Fails key blocks c) a h = released_wait P f key blocks a h
deed_wait P f (Cancels id) a h = h
deed_wait P f (Closes handle last) a h = h
deed_wait P f Restarts a h = h
deed_wait P f (Expires key) a h = h
deed_wait P f (Finishes key c) a h = h

-- asks that are kept, with what their ask and wait alone tell
kept_all : (P : Live → Type 0) → ((a : Live) (bs : List ℕ) (t : ℕ) → P a → P (record a { owned = bs; ticks = t })) → (item : ItemId) (v : View) (d : Deed) (ws : List Wait) (asks : List Live) → AllByRecursion P asks
    → AllByRecursion P (filter (λ a. not (is_cancelled item v d ws a)) (filter (λ a. not (is_over d a)) (map (after_deed d) asks)))
kept_all P f item v d ws asks h = all_filter P (λ a. not (is_cancelled item v d ws a)) (filter (λ a. not (is_over d a)) (map (after_deed d) asks)) (all_filter P (λ a. not (is_over d a)) (map (after_deed d) asks) (all_map P P (after_deed d) (deed_wait P f d) asks h))

-- waits of different numbers

positive : (epoch low high : ℕ) (ws : List Wait) → RisesTo wait_key epoch low high ws → AllByRecursion (λ w. low < w.id.0.number) ws
positive epoch low high [] h = tt
positive epoch low high (w ∷ ws) h =
    let k : low < w.id.0.number = h.1 in
    (k, all_then (λ x. w.id.0.number < x.id.0.number) (λ x. low < x.id.0.number) (λ x l. omega arith) ws (positive epoch w.id.0.number high ws h.2))

below : (epoch low high : ℕ) (ws : List Wait) → RisesTo wait_key epoch low high ws → (low ≤ high) × AllByRecursion (λ w. w.id.0.number ≤ high) ws
below epoch low high [] h = (h, tt)
below epoch low high (w ∷ ws) h = let r : (w.id.0.number ≤ high) × AllByRecursion (λ x. x.id.0.number ≤ high) ws = below epoch w.id.0.number high ws h.2 in let k : low < w.id.0.number = h.1 in let l : w.id.0.number ≤ high = r.0 in (omega arith, (l, r.1))

not_same : (a b c d : ℕ) {X : Type 0} → (eqb a c && eqb b d) ≡ true → b < d → X
not_same a b c d h l = absurd (no a b c d h l) where
  no : (a b c d : ℕ) → (eqb a c && eqb b d) ≡ true → b < d → ⊥
  no a b c d h l = grind (arith, nat_tests)

not_same_back : (a b c d : ℕ) {X : Type 0} → (eqb a c && eqb b d) ≡ true → d < b → X
not_same_back a b c d h l = absurd (no a b c d h l) where
  no : (a b c d : ℕ) → (eqb a c && eqb b d) ≡ true → d < b → ⊥
  no a b c d h l = grind (arith, nat_tests)

abbrev Same : Wait → Wait → Type 0
Same x y = same_key y.id.0 x.id.0 ≡ true → (eqb y.item.0 x.item.0) ≡ true

itself : (n : ℕ) → eqb n n ≡ true
itself n = eq-eqb n n refl

-- of one number there is one wait
one_wait : (epoch low high : ℕ) (ws : List Wait) → RisesTo wait_key epoch low high ws → AllByRecursion (λ x. AllByRecursion (Same x) ws) ws
one_wait epoch low high [] h = tt
one_wait epoch low high (w ∷ ws) h =
    let above : AllByRecursion (λ x. w.id.0.number < x.id.0.number) ws = positive epoch w.id.0.number high ws h.2 in (
      ((λ t. itself w.item.0), all_then (λ x. w.id.0.number < x.id.0.number) (Same w) (λ x l t. not_same_back x.id.0.epoch x.id.0.number w.id.0.epoch w.id.0.number t l) ws above),
      rest ws above (one_wait epoch w.id.0.number high ws h.2),
    )
  where
    rest : (xs : List Wait) → AllByRecursion (λ x. w.id.0.number < x.id.0.number) xs → AllByRecursion (λ x. AllByRecursion (Same x) ws) xs → AllByRecursion (λ x. AllByRecursion (Same x) (w ∷ ws)) xs
    rest [] a g = tt
    rest (x ∷ xs) a g = (((λ t. not_same w.id.0.epoch w.id.0.number x.id.0.epoch x.id.0.number t a.0), g.0), rest xs a.1 g.1)

-- asks that are made agree

no_wait : (ws : List Wait) (a : Live) → a.wait ≡ record { 0 = no_key } → AllByRecursion (λ w. 0 < w.id.0.number) ws → Agrees ws a
no_wait ws a e h = all_then (λ w. 0 < w.id.0.number) (λ w. same_key w.id.0 a.wait.0 ≡ true → (eqb w.item.0 a.ask.item.0) ≡ true)
    (λ w l t. not_same_back w.id.0.epoch w.id.0.number 0 0 (ap (λ i. same_key w.id.0 i.0) (sym e) ∙ t) l) ws h

runs_all : (P : Live → Type 0) (item : ItemId) (base : ℕ) → ((r : Run) → P (ask_of_run item base r)) → (rs : List Run) → AllByRecursion P (map (ask_of_run item base) rs)
runs_all P item base f [] = tt
runs_all P item base f (r ∷ rs) = (f r, runs_all P item base f rs)

made_agree : (epoch high : ℕ) (item : ItemId) (v : View) (ws : List Wait) (kept : List Live) → RisesTo wait_key epoch 0 high ws → AllByRecursion (Agrees ws) (new_asks item v ws kept)
made_agree epoch high item v ws kept h = all_made (Agrees ws) item v ws kept
    (runs_all (Agrees ws) item v.base (λ r. no_wait ws (ask_of_run item v.base r) refl (positive epoch 0 high ws h)) (runs_of v (open_blocks item v ws kept)))
    (no_wait ws (list_ask item) refl (positive epoch 0 high ws h))
    (all_map (λ x. AllByRecursion (Same x) ws) (Agrees ws) dehydrate_ask (λ x g. g) (filter (lacks item kept) ws) (all_filter (λ x. AllByRecursion (Same x) ws) (lacks item kept) ws (one_wait epoch 0 high ws h)))

pub new_fresh : (item : ItemId) (v : View) (ws : List Wait) (kept : List Live) → AllByRecursion (λ a. a.ticks ≡ 0) (new_asks item v ws kept)
new_fresh item v ws kept = all_made (λ a. a.ticks ≡ 0) item v ws kept
    (runs_all (λ a. a.ticks ≡ 0) item v.base (λ r. refl) (runs_of v (open_blocks item v ws kept))) refl
    (all_map (λ w. Unit {0}) (λ a. a.ticks ≡ 0) dehydrate_ask (λ w u. refl) (filter (lacks item kept) ws) (all_of (λ w. Unit {0}) (λ w. tt) (filter (lacks item kept) ws)))

made_given : (epoch high : ℕ) (item : ItemId) (v : View) (ws : List Wait) (kept : List Live) → RisesTo wait_key epoch 0 high ws → AllByRecursion (λ a. a.wait.0.number ≤ high) (new_asks item v ws kept)
made_given epoch high item v ws kept h = all_made (λ a. a.wait.0.number ≤ high) item v ws kept
    (runs_all (λ a. a.wait.0.number ≤ high) item v.base (λ r. least high) (runs_of v (open_blocks item v ws kept)))
    (least high)
    (all_map (λ x. x.id.0.number ≤ high) (λ a. a.wait.0.number ≤ high) dehydrate_ask (λ x g. g) (filter (lacks item kept) ws) (all_filter (λ x. x.id.0.number ≤ high) (lacks item kept) ws (below epoch 0 high ws h).1))
  where
    least : (n : ℕ) → 0 ≤ n
    least n = omega arith

left_agree : (p : Wait → Bool) (ws : List Wait) (asks : List Live) → AllByRecursion (Agrees ws) asks → AllByRecursion (Agrees (filter p ws)) asks
left_agree p ws asks h = all_then (Agrees ws) (Agrees (filter p ws)) (λ a g. all_filter (λ w. same_key w.id.0 a.wait.0 ≡ true → (eqb w.item.0 a.ask.item.0) ≡ true) p ws g) asks h

settled_sound : (item : ItemId) (v : View) (d : Deed) (f : Wait → Option Cause) (s : Waiting) → IsSound s → IsNumbered ((settled_with item v d f s (left_of f s.waits) (filter (λ a. not (is_over d a)) (map (after_deed d) s.asks))).1)
    → IsSound ((settled_with item v d f s (left_of f s.waits) (filter (λ a. not (is_over d a)) (map (after_deed d) s.asks))).1)
settled_sound item v d f s h n = record {
  numbered = n;
  full = all_append IsFull kept keyed (all_filter IsFull (λ a. not (is_cancelled item v d left a)) (filter (λ a. not (is_over d a)) (map (after_deed d) s.asks)) (kept_full d (map (after_deed d) s.asks)))
      (all_keyed IsFull (λ a k g. g) s.epoch s.key_count made (made_full item v left kept));
  agrees = all_append (Agrees left) kept keyed (kept_all (Agrees left) (λ a bs t g. g) item v d left s.asks (left_agree (λ w. not (is_some (f w))) s.waits s.asks h.agrees))
      (all_keyed (Agrees left) (λ a k g. g) s.epoch s.key_count made (made_agree s.epoch s.wait_count item v left kept n.waits));
  given = all_append (λ a. a.wait.0.number ≤ s.wait_count) kept keyed (kept_all (λ a. a.wait.0.number ≤ s.wait_count) (λ a bs t g. g) item v d left s.asks h.given)
      (all_keyed (λ a. a.wait.0.number ≤ s.wait_count) (λ a k g. g) s.epoch s.key_count made (made_given s.epoch s.wait_count item v left kept n.waits));
  apart = λ other b. stay_apart other item v d f s left b (h.apart other b);
} where
  left : List Wait
  left = left_of f s.waits

  kept : List Live
  kept = filter (λ a. not (is_cancelled item v d left a)) (filter (λ a. not (is_over d a)) (map (after_deed d) s.asks))

  made : List Live
  made = new_asks item v left kept

  keyed : List Live
  keyed = with_keys s.epoch s.key_count made

pub step_sound : (item : ItemId) (v : View) (d : Deed) (s : Waiting) → IsSound s → IsSound (step_of item v d s).1
step_sound item v d s h = settled_sound item v d (why item v d s.asks) s h (step_numbered item v d s h.numbered)

-- waits that begin have numbers of their own

new_agrees : (epoch low high : ℕ) (ws : List Wait) (a : Live) → RisesTo wait_key epoch low high ws → a.wait.0.number ≤ low → Agrees ws a
new_agrees epoch low high ws a h l = all_then (λ w. low < w.id.0.number) (λ w. same_key w.id.0 a.wait.0 ≡ true → (eqb w.item.0 a.ask.item.0) ≡ true)
    (λ w k t. not_same_back w.id.0.epoch w.id.0.number a.wait.0.epoch a.wait.0.number t (omega arith)) ws (positive epoch low high ws h)

more_agree : (epoch low high : ℕ) (ws new : List Wait) (asks : List Live) → RisesTo wait_key epoch low high new → AllByRecursion (Agrees ws) asks → AllByRecursion (λ a. a.wait.0.number ≤ low) asks → AllByRecursion (Agrees (ws ++ new)) asks
more_agree epoch low high ws new [] r h g = tt
more_agree epoch low high ws new (a ∷ asks) r h g =
    (all_append (λ w. same_key w.id.0 a.wait.0 ≡ true → (eqb w.item.0 a.ask.item.0) ≡ true) ws new h.0 (new_agrees epoch low high new a r g.0), more_agree epoch low high ws new asks r h.1 g.1)

more_given : (n m : ℕ) (asks : List Live) → n ≤ m → AllByRecursion (λ a. a.wait.0.number ≤ n) asks → AllByRecursion (λ a. a.wait.0.number ≤ m) asks
more_given n m asks l h = all_then (λ a. a.wait.0.number ≤ n) (λ a. a.wait.0.number ≤ m) (λ a k. omega arith) asks h

pub begun_sound : (ws : List Wait) (s : Waiting) → IsSound s → RisesTo wait_key s.epoch s.wait_count (s.wait_count + length ws) ws → IsSound (with_waits ws s)
begun_sound ws s h g = record {
  numbered = begun_numbered ws s h.numbered g;
  full = h.full;
  agrees = more_agree s.epoch s.wait_count (s.wait_count + length ws) s.waits ws s.asks g h.agrees h.given;
  given = more_given s.wait_count (s.wait_count + length ws) s.asks (omega arith) h.given;
  apart = h.apart;
}
