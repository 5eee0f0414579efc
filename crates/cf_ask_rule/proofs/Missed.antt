-- After a step each data ask of the item has a block in which a wait misses a byte.
use Rattle.std.proofs.Common.{◌≡◌, ℕ, zero, suc, ◌+◌, ◌/◌, ◌<◌, Bool, true, false, ◌&&◌, ◌||◌, not, cond, List, [], ◌∷◌, ◌++◌, length, refl, ap, arith, eqb}
use Rattle.std.specs.Prelude.{filter, map, Option}
use Rattle.std.specs.Bool.{beq}
use Rattle.std.specs.List.{AllByRecursion, list_any}
use Rattle.cf_base.specs.declared.ids.ItemId.{ItemId}
use Rattle.cf_base.specs.declared.waits.AskKind.{AskKind}
use Rattle.cf_base.specs.declared.waits.AskKind.TheVariants as ask_kind
use Rattle.cf_base.specs.declared.waits.Cause.{Cause}
use Rattle.cf_model.specs.Missing.{View, Wait}
use Rattle.cf_model.specs.Numbers.{same_key}
use Rattle.cf_model.specs.Requests.{Deed, Live, Waiting, is_data, is_dehydrate_wait, is_list, is_list_wait}
use Rattle.cf_model.specs.Asks.{Run, ask_of_run, dehydrate_ask, dehydrate_asks, is_cancelled, is_cut, is_fetched, is_idle, is_idle_by, is_owned, is_wanted, list_ask, list_asks, new_asks, open_blocks, runs_of, runs_on, settled_with, with_keys}
use Rattle.cf_model.specs.Words.{counting, when}
use Rattle.cf_ask_rule.specs.Missed.{IsMissed}

right_false : (a b : Bool) → (a || b) ≡ false → b ≡ false
right_false true b h = let z : true ≡ false = h in cc
right_false false b h = h

and_false : (a b : Bool) → (a && b) ≡ false → a ≡ true → b ≡ false
and_false true b h t = h
and_false false b h t = let z : false ≡ true = t in cc

and_left : (a b : Bool) → (a && b) ≡ true → a ≡ true
and_left true b h = refl
and_left false b h = h

not_false : (b : Bool) → not b ≡ false → b ≡ true
not_false true h = refl
not_false false h = let z : true ≡ false = h in cc

-- asks that are kept are not idle

by_kind : (kind : AskKind) (item : ItemId) (v : View) (ws : List Wait) (a : Live) → is_idle_by kind item v ws a ≡ false → is_data kind ≡ true → list_any (is_wanted item v ws) a.owned ≡ true
by_kind ask_kind.Fetch item v ws a h t = not_false (list_any (is_wanted item v ws) a.owned) h
by_kind ask_kind.Validate item v ws a h t = not_false (list_any (is_wanted item v ws) a.owned) h
by_kind ask_kind.List item v ws a h t = let z : false ≡ true = t in cc
by_kind ask_kind.Dehydrate item v ws a h t = let z : false ≡ true = t in cc

not_idle : (item : ItemId) (v : View) (d : Deed) (ws : List Wait) (a : Live) → is_cancelled item v d ws a ≡ false → IsMissed item v ws a
not_idle item v d ws a e = λ here t. by_kind a.ask.kind item v ws a (and_false (eqb a.ask.item.0 item.0) (is_idle_by a.ask.kind item v ws a) (right_false (is_cut item d a) (is_idle item v ws a) e) here) t

kept_missed : (item : ItemId) (v : View) (d : Deed) (ws : List Wait) (asks : List Live) → AllByRecursion (IsMissed item v ws) (filter (λ a. not (is_cancelled item v d ws a)) asks)
kept_missed item v d ws [] = tt
kept_missed item v d ws (a ∷ asks) = one (is_cancelled item v d ws a) refl (kept_missed item v d ws asks) where
  one : (b : Bool) → is_cancelled item v d ws a ≡ b → AllByRecursion (IsMissed item v ws) (filter (λ a. not (is_cancelled item v d ws a)) asks)
      → AllByRecursion (IsMissed item v ws) (cond (not b) (a ∷ filter (λ a. not (is_cancelled item v d ws a)) asks) (filter (λ a. not (is_cancelled item v d ws a)) asks))
  one true e h = h
  one false e h = (not_idle item v d ws a e, h)

-- asks that are made begin with a wanted block

run_missed : (f : ℕ → Bool) (first count : ℕ) → f first ≡ true → 0 < count → list_any f (counting first count) ≡ true
run_missed f first zero w l = absurd (omega arith)
run_missed f first (suc n) w l = ap (λ b. b || list_any f (counting (first + 1) n)) w

one_of : (item : ItemId) (v : View) (ws : List Wait) (base : ℕ) (t : Bool) (r : Run) (xs ys : List Run) → (t ≡ true → AllByRecursion (IsMissed item v ws) (map (ask_of_run item base) xs)) → AllByRecursion (IsMissed item v ws) (map (ask_of_run item base) (r ∷ ys))
    → AllByRecursion (IsMissed item v ws) (map (ask_of_run item base) (elim t as (λ _. List Run) [ true ↦ xs | false ↦ r ∷ ys ]))
one_of item v ws base true r xs ys f g = f refl
one_of item v ws base false r xs ys f g = g

runs_missed : (item : ItemId) (v : View) (ws : List Wait) (base : ℕ) (bs : List ℕ) (r : Run) → is_wanted item v ws r.first ≡ true → 0 < r.count → AllByRecursion (λ b. is_wanted item v ws b ≡ true) bs
    → AllByRecursion (IsMissed item v ws) (map (ask_of_run item base) (runs_on v r bs))
runs_missed item v ws base [] r w l h = ((λ here t. run_missed (is_wanted item v ws) r.first r.count w l), tt)
runs_missed item v ws base (c ∷ cs) r w l h = one_of item v ws base (eqb c (r.first + r.count) && beq (is_fetched v c) r.fetch) r _ _
    (λ e. runs_missed item v ws base cs (record r { count = r.count + 1 }) w (omega arith) h.1)
    ((λ here t. run_missed (is_wanted item v ws) r.first r.count w l), runs_missed item v ws base cs (record { fetch = is_fetched v c; first = c; count = 1 }) h.0 (omega arith) h.1)

pub all_runs_missed : (item : ItemId) (v : View) (ws : List Wait) (base : ℕ) (bs : List ℕ) → AllByRecursion (λ b. is_wanted item v ws b ≡ true) bs → AllByRecursion (IsMissed item v ws) (map (ask_of_run item base) (runs_of v bs))
all_runs_missed item v ws base [] h = tt
all_runs_missed item v ws base (c ∷ cs) h = runs_missed item v ws base cs (record { fetch = is_fetched v c; first = c; count = 1 }) h.0 (omega arith) h.1

pub all_wanted : (f g : ℕ → Bool) (bs : List ℕ) → AllByRecursion (λ b. f b ≡ true) (filter (λ b. f b && g b) bs)
all_wanted f g [] = tt
all_wanted f g (b ∷ bs) = one (f b && g b) refl (all_wanted f g bs) where
  one : (c : Bool) → (f b && g b) ≡ c → AllByRecursion (λ b. f b ≡ true) (filter (λ b. f b && g b) bs) → AllByRecursion (λ b. f b ≡ true) (cond c (b ∷ filter (λ b. f b && g b) bs) (filter (λ b. f b && g b) bs))
  one true e h = (and_left (f b) (g b) e, h)
  one false e h = h

-- other asks have no data

no_data : {A : Type 0} → false ≡ true → A
no_data t = absurd (not_so t) where
  not_so : false ≡ true → ⊥
  not_so z = cc

no_list_missed : (item : ItemId) (v : View) (ws : List Wait) (b : Bool) → AllByRecursion (IsMissed item v ws) (when b (list_ask item ∷ []))
no_list_missed item v ws true = ((λ here t. no_data t), tt)
no_list_missed item v ws false = tt

no_dehydrate_missed : (item : ItemId) (v : View) (ws xs : List Wait) → AllByRecursion (IsMissed item v ws) (map dehydrate_ask xs)
no_dehydrate_missed item v ws [] = tt
no_dehydrate_missed item v ws (x ∷ xs) = ((λ here t. no_data t), no_dehydrate_missed item v ws xs)

pub all_append : {A : Type 0} (P : A → Type 0) (xs ys : List A) → AllByRecursion P xs → AllByRecursion P ys → AllByRecursion P (xs ++ ys)
all_append P [] ys h k = k
all_append P (x ∷ xs) ys h k = (h.0, all_append P xs ys h.1 k)

keyed_missed : (item : ItemId) (v : View) (ws : List Wait) (epoch n : ℕ) (asks : List Live) → AllByRecursion (IsMissed item v ws) asks → AllByRecursion (IsMissed item v ws) (with_keys epoch n asks)
keyed_missed item v ws epoch n [] h = tt
keyed_missed item v ws epoch n (a ∷ asks) h = (h.0, keyed_missed item v ws epoch (n + 1) asks h.1)

made_missed : (item : ItemId) (v : View) (ws : List Wait) (kept : List Live) → AllByRecursion (IsMissed item v ws) (new_asks item v ws kept)
made_missed item v ws kept =
    all_append (IsMissed item v ws) (map (ask_of_run item v.base) (runs_of v (open_blocks item v ws kept)) ++ list_asks item ws kept) (dehydrate_asks item ws kept)
    (all_append (IsMissed item v ws) (map (ask_of_run item v.base) (runs_of v (open_blocks item v ws kept))) (list_asks item ws kept)
    (all_runs_missed item v ws v.base (open_blocks item v ws kept) (all_wanted (is_wanted item v ws) (λ b. not (is_owned item kept b)) (counting 0 ((length v.lacks + 4095) / 4096))))
    (no_list_missed item v ws (list_any (λ w. (eqb w.item.0 item.0) && is_list_wait w.kind) ws && not (list_any (λ a. (eqb a.ask.item.0 item.0) && is_list a.ask.kind) kept))))
    (no_dehydrate_missed item v ws (filter (λ w. (eqb w.item.0 item.0) && is_dehydrate_wait w.kind && not (list_any (λ a. same_key a.wait.0 w.id.0) kept)) ws))

pub all_missed : (item : ItemId) (v : View) (d : Deed) (why : Wait → Option Cause) (s : Waiting) (ws : List Wait) (asks : List Live) → AllByRecursion (IsMissed item v ws) ((settled_with item v d why s ws asks).1.asks)
all_missed item v d why s ws asks = all_append (IsMissed item v ws) kept (with_keys s.epoch s.key_count (new_asks item v ws kept)) (kept_missed item v d ws asks) (keyed_missed item v ws s.epoch s.key_count (new_asks item v ws kept) (made_missed item v ws kept)) where
  kept : List Live
  kept = filter (λ a. not (is_cancelled item v d ws a)) asks
