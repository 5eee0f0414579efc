-- After each step the item is settled by the view of the step.
use Rattle.std.proofs.Common.{◌≡◌, ℕ, zero, suc, ◌+◌, ◌/◌, ◌<◌, ◌≤◌, Bool, true, false, ◌&&◌, ◌||◌, not, cond, List, [], ◌∷◌, ◌++◌, length, refl, ap, ◌∙◌, arith, eqb, eq-eqb}
use Rattle.std.specs.Prelude.{filter, map, Option, Some, None, is_some}
use Rattle.std.specs.List.{AllByRecursion, list_any}
use Rattle.std.proofs.lemmas.Bool.Decides.{nat_tests}
use Rattle.std.proofs.lemmas.List.Folds.{list_any-append}
use Rattle.cf_base.specs.declared.ids.ItemId.{ItemId}
use Rattle.cf_base.specs.declared.ids.Key.{Key}
use Rattle.cf_base.specs.declared.waits.AskKind.{AskKind}
use Rattle.cf_base.specs.declared.waits.AskKind.TheVariants as ask_kind
use Rattle.cf_base.specs.declared.waits.Cause.{Cause}
use Rattle.cf_base.specs.declared.waits.Cause.TheVariants as cause
use Rattle.cf_model.specs.Missing.{View, Wait, is_met}
use Rattle.cf_model.specs.Numbers.{key_after, same_key}
use Rattle.cf_model.specs.Requests.{Deed, Live, Waiting, is_data, is_dehydrate_wait, is_list, is_list_wait}
use Rattle.cf_model.specs.Asks.{Run, ask_of_run, cause_by, dehydrate_ask, dehydrate_asks, is_cancelled, is_cut, is_idle, is_idle_by, is_owned, is_wanted, left_of, list_ask, list_asks, new_asks, open_blocks, or_met, runs_of, step_of, why, with_keys}
use Rattle.cf_model.specs.Words.{counting, when}
use Rattle.cf_ask_rule.proofs.Covers.{covers}
use Rattle.cf_ask_rule.proofs.Filters.{all_filter, all_then, not_both, or_left, right_false}
use Rattle.cf_ask_rule.proofs.Missed.{all_append, all_runs_missed, all_wanted}
use Rattle.cf_ask_rule.specs.Deeds.{after}
use Rattle.cf_ask_rule.specs.Missed.{IsMissed}
use Rattle.cf_ask_rule.specs.Near.{is_on}
use Rattle.cf_ask_rule.specs.Settled.{IsSettled}

or_right : (a b : Bool) → b ≡ true → (a || b) ≡ true
or_right true b h = refl
or_right false b h = h

hit_none : (x y : Bool) → y ≡ true → (x && not y) ≡ false
hit_none true y h = ap not h
hit_none false y h = refl

-- no wait that is left is met

not_met : (b : Bool) (c : Option Cause) (m : Bool) → cond b (or_met c m) None ≡ None → b ≡ true → m ≡ false
not_met true None true e t = let z : ◌≡◌ {A = Option Cause} (Some cause.Met) None = e in cc
not_met true None false e t = refl
not_met true (Some c) m e t = let z : ◌≡◌ {A = Option Cause} (Some c) None = e in cc
not_met false c m e t = let z : false ≡ true = t in cc

left_unmet : (item : ItemId) (v : View) (d : Deed) (asks : List Live) (ws : List Wait) → AllByRecursion (λ w. is_on item w ≡ true → is_met v w ≡ false) (left_of (why item v d asks) ws)
left_unmet item v d asks [] = tt
left_unmet item v d asks (w ∷ ws) = one (why item v d asks w) refl (left_unmet item v d asks ws) where
  one : (o : Option Cause) → why item v d asks w ≡ o → AllByRecursion (λ w. is_on item w ≡ true → is_met v w ≡ false) (left_of (why item v d asks) ws)
      → AllByRecursion (λ w. is_on item w ≡ true → is_met v w ≡ false) (cond (not (is_some o)) (w ∷ left_of (why item v d asks) ws) (left_of (why item v d asks) ws))
  one (Some c) e h = h
  one None e h = (λ t. not_met (eqb w.item.0 item.0) (cause_by d v asks w) (is_met v w) e t, h)

-- no ask is idle

kept_awaited : (item : ItemId) (v : View) (d : Deed) (ws : List Wait) (asks : List Live) → AllByRecursion (λ a. is_idle item v ws a ≡ false) (filter (λ a. not (is_cancelled item v d ws a)) asks)
kept_awaited item v d ws [] = tt
kept_awaited item v d ws (a ∷ asks) = one (is_cancelled item v d ws a) refl (kept_awaited item v d ws asks) where
  one : (b : Bool) → is_cancelled item v d ws a ≡ b → AllByRecursion (λ a. is_idle item v ws a ≡ false) (filter (λ a. not (is_cancelled item v d ws a)) asks)
      → AllByRecursion (λ a. is_idle item v ws a ≡ false) (cond (not b) (a ∷ filter (λ a. not (is_cancelled item v d ws a)) asks) (filter (λ a. not (is_cancelled item v d ws a)) asks))
  one true e h = h
  one false e h = (right_false (is_cut item d a) (is_idle item v ws a) e, h)

data_of : (f : Bool) → is_data (cond f ask_kind.Fetch ask_kind.Validate) ≡ true
data_of true = refl
data_of false = refl

run_awaited : (item : ItemId) (v : View) (ws : List Wait) (a : Live) (x f : Bool) → list_any (is_wanted item v ws) a.owned ≡ true → (x && is_idle_by (cond f ask_kind.Fetch ask_kind.Validate) item v ws a) ≡ false
run_awaited item v ws a x true h = hit_none x (list_any (is_wanted item v ws) a.owned) h
run_awaited item v ws a x false h = hit_none x (list_any (is_wanted item v ws) a.owned) h

runs_awaited : (item : ItemId) (v : View) (ws : List Wait) (base : ℕ) (runs : List Run) → AllByRecursion (IsMissed item v ws) (map (ask_of_run item base) runs) → AllByRecursion (λ a. is_idle item v ws a ≡ false) (map (ask_of_run item base) runs)
runs_awaited item v ws base [] h = tt
runs_awaited item v ws base (r ∷ runs) h = (
  run_awaited item v ws (ask_of_run item base r) (eqb item.0 item.0) r.fetch (h.0 (eq-eqb item.0 item.0 refl) (data_of r.fetch)),
  runs_awaited item v ws base runs h.1,
)

lists_awaited : (item : ItemId) (v : View) (ws : List Wait) (l k : Bool) → list_any (λ w. (eqb w.item.0 item.0) && is_list_wait w.kind) ws ≡ l → AllByRecursion (λ a. is_idle item v ws a ≡ false) (when (l && not k) (list_ask item ∷ []))
lists_awaited item v ws true true h = tt
lists_awaited item v ws true false h = (hit_none (eqb item.0 item.0) (list_any (λ w. (eqb w.item.0 item.0) && is_list_wait w.kind) ws) h, tt)
lists_awaited item v ws false k h = tt

key_itself : (m n : ℕ) → (eqb m m && eqb n n) ≡ true
key_itself m n = grind (arith, nat_tests)

each_there : (ws : List Wait) → AllByRecursion (λ w. list_any (λ x. same_key x.id.0 w.id.0) ws ≡ true) ws
each_there [] = tt
each_there (w ∷ ws) = (
  or_left (same_key w.id.0 w.id.0) (list_any (λ x. same_key x.id.0 w.id.0) ws) (key_itself w.id.0.epoch w.id.0.number),
  all_then (λ (u : Wait). list_any (λ (x : Wait). same_key x.id.0 u.id.0) ws ≡ true) (λ (u : Wait). list_any (λ (x : Wait). same_key x.id.0 u.id.0) (w ∷ ws) ≡ true)
      (λ u h. or_right (same_key w.id.0 u.id.0) (list_any (λ (x : Wait). same_key x.id.0 u.id.0) ws) h) ws (each_there ws),
)

dehydrates_awaited : (item : ItemId) (v : View) (ws xs : List Wait) → AllByRecursion (λ w. list_any (λ x. same_key x.id.0 w.id.0) ws ≡ true) xs → AllByRecursion (λ a. is_idle item v ws a ≡ false) (map dehydrate_ask xs)
dehydrates_awaited item v ws [] h = tt
dehydrates_awaited item v ws (x ∷ xs) h = (hit_none (eqb x.item.0 item.0) (list_any (λ w. same_key w.id.0 x.id.0) ws) h.0, dehydrates_awaited item v ws xs h.1)

idle_keyed : (kind : AskKind) (item : ItemId) (v : View) (ws : List Wait) (a : Live) (k : Key) → is_idle_by kind item v ws (record a { ask = record a.ask { key = k } }) ≡ is_idle_by kind item v ws a
idle_keyed ask_kind.Fetch item v ws a k = refl
idle_keyed ask_kind.Validate item v ws a k = refl
idle_keyed ask_kind.List item v ws a k = refl
idle_keyed ask_kind.Dehydrate item v ws a k = refl

keyed_awaited : (item : ItemId) (v : View) (ws : List Wait) (epoch n : ℕ) (asks : List Live) → AllByRecursion (λ a. is_idle item v ws a ≡ false) asks → AllByRecursion (λ a. is_idle item v ws a ≡ false) (with_keys epoch n asks)
keyed_awaited item v ws epoch n [] h = tt
keyed_awaited item v ws epoch n (a ∷ asks) h = (ap (λ b. (eqb a.ask.item.0 item.0) && b) (idle_keyed a.ask.kind item v ws a (key_after epoch n)) ∙ h.0, keyed_awaited item v ws epoch (n + 1) asks h.1)

made_awaited : (item : ItemId) (v : View) (ws : List Wait) (kept : List Live) → AllByRecursion (λ a. is_idle item v ws a ≡ false) (new_asks item v ws kept)
made_awaited item v ws kept =
    all_append (λ a. is_idle item v ws a ≡ false) (map (ask_of_run item v.base) (runs_of v (open_blocks item v ws kept)) ++ list_asks item ws kept) (dehydrate_asks item ws kept)
    (all_append (λ a. is_idle item v ws a ≡ false) (map (ask_of_run item v.base) (runs_of v (open_blocks item v ws kept))) (list_asks item ws kept)
    (runs_awaited item v ws v.base (runs_of v (open_blocks item v ws kept)) (all_runs_missed item v ws v.base (open_blocks item v ws kept) (all_wanted (is_wanted item v ws) (λ b. not (is_owned item kept b)) (counting 0 ((length v.lacks + 4095) / 4096)))))
    (lists_awaited item v ws (list_any (λ w. (eqb w.item.0 item.0) && is_list_wait w.kind) ws) (list_any (λ a. (eqb a.ask.item.0 item.0) && is_list a.ask.kind) kept) refl))
    (dehydrates_awaited item v ws (filter (λ w. (eqb w.item.0 item.0) && is_dehydrate_wait w.kind && not (list_any (λ a. same_key a.wait.0 w.id.0) kept)) ws)
    (all_filter (λ (w : Wait). list_any (λ (x : Wait). same_key x.id.0 w.id.0) ws ≡ true) (λ w. (eqb w.item.0 item.0) && is_dehydrate_wait w.kind && not (list_any (λ a. same_key a.wait.0 w.id.0) kept)) ws (each_there ws)))

-- no ask is to be made

pub none_open : (w o : ℕ → Bool) (top i n : ℕ) → i + n ≤ top → ((b : ℕ) → b < top → w b ≡ true → o b ≡ true) → filter (λ b. w b && not (o b)) (counting i n) ≡ []
none_open w o top i zero l h = refl
none_open w o top i (suc n) l h = one (w i) (o i) refl refl (none_open w o top (i + 1) n (omega arith) h) where
  within : i < top
  within = omega arith

  one : (a c : Bool) → w i ≡ a → o i ≡ c → filter (λ b. w b && not (o b)) (counting (i + 1) n) ≡ [] → cond (a && not c) (i ∷ filter (λ b. w b && not (o b)) (counting (i + 1) n)) (filter (λ b. w b && not (o b)) (counting (i + 1) n)) ≡ []
  one true true e f g = g
  one true false e f g = absurd (not_both (o i) (h i within e) f)
  one false c e f g = g

listed_keyed : (item : ItemId) (epoch n : ℕ) (asks : List Live) → list_any (λ a. (eqb a.ask.item.0 item.0) && is_list a.ask.kind) (with_keys epoch n asks) ≡ list_any (λ a. (eqb a.ask.item.0 item.0) && is_list a.ask.kind) asks
listed_keyed item epoch n [] = refl
listed_keyed item epoch n (a ∷ asks) = ap (λ x. ((eqb a.ask.item.0 item.0) && is_list a.ask.kind) || x) (listed_keyed item epoch (n + 1) asks)

consented_keyed : (w : Wait) (epoch n : ℕ) (asks : List Live) → list_any (λ a. same_key a.wait.0 w.id.0) (with_keys epoch n asks) ≡ list_any (λ a. same_key a.wait.0 w.id.0) asks
consented_keyed w epoch n [] = refl
consented_keyed w epoch n (a ∷ asks) = ap (λ x. same_key a.wait.0 w.id.0 || x) (consented_keyed w epoch (n + 1) asks)

list_there : (item : ItemId) (l k : Bool) → l ≡ true → k ≡ false → list_any (λ a. (eqb a.ask.item.0 item.0) && is_list a.ask.kind) (when (l && not k) (list_ask item ∷ [])) ≡ true
list_there item true true t f = let z : true ≡ false = f in cc
list_there item true false t f = ap (λ x. (x && true) || false) (eq-eqb item.0 item.0 refl)
list_there item false k t f = let z : false ≡ true = t in cc

pub no_list : (item : ItemId) (l k : Bool) → (l ≡ true → k ≡ true) → when (l && not k) (list_ask item ∷ []) ≡ []
no_list item true true h = refl
no_list item true false h = let z : false ≡ true = h refl in cc
no_list item false k h = refl

-- where the one test is not met, the other is
or_else : (a b : Bool) → (a ≡ false → b ≡ true) → (a || b) ≡ true
or_else true b h = refl
or_else false b h = h refl

pub filter_none : {A : Type 0} (p : A → Bool) (xs : List A) → AllByRecursion (λ x. p x ≡ false) xs → filter p xs ≡ []
filter_none p [] h = refl
filter_none p (x ∷ xs) h = ap (λ b. cond b (x ∷ filter p xs) (filter p xs)) h.0 ∙ filter_none p xs h.1

each_consented : (p : Wait → Bool) (ws : List Wait) → AllByRecursion (λ w. p w ≡ true → list_any (λ a. same_key a.wait.0 w.id.0) (map dehydrate_ask (filter p ws)) ≡ true) ws
each_consented p [] = tt
each_consented p (w ∷ ws) = (here (p w), all_then (λ (u : Wait). p u ≡ true → list_any (λ (a : Live). same_key a.wait.0 u.id.0) (map dehydrate_ask (filter p ws)) ≡ true) (λ (u : Wait). p u ≡ true → list_any (λ (a : Live). same_key a.wait.0 u.id.0) (map dehydrate_ask (filter p (w ∷ ws))) ≡ true) (λ u h t. more u (p w) (h t)) ws (each_consented p ws)) where
  here : (b : Bool) → b ≡ true → list_any (λ a. same_key a.wait.0 w.id.0) (map dehydrate_ask (cond b (w ∷ filter p ws) (filter p ws))) ≡ true
  here true t = or_left (same_key w.id.0 w.id.0) (list_any (λ a. same_key a.wait.0 w.id.0) (map dehydrate_ask (filter p ws))) (key_itself w.id.0.epoch w.id.0.number)
  here false t = let z : false ≡ true = t in cc

  more : (u : Wait) (b : Bool) → list_any (λ a. same_key a.wait.0 u.id.0) (map dehydrate_ask (filter p ws)) ≡ true → list_any (λ a. same_key a.wait.0 u.id.0) (map dehydrate_ask (cond b (w ∷ filter p ws) (filter p ws))) ≡ true
  more u true h = or_right (same_key w.id.0 u.id.0) (list_any (λ a. same_key a.wait.0 u.id.0) (map dehydrate_ask (filter p ws))) h
  more u false h = h

has_consent : (x y z m : Bool) → ((x && y && not z) ≡ true → m ≡ true) → (x && y && not (z || m)) ≡ false
has_consent true true true m h = refl
has_consent true true false m h = ap not (h refl)
has_consent true false z m h = refl
has_consent false y z m h = refl

pub settles : (item : ItemId) (v : View) (d : Deed) (s : Waiting) → IsSettled item v (step_of item v d s).1.waits (step_of item v d s).1.asks
settles item v d s = record {
  unmet = left_unmet item v d s.asks s.waits;
  awaited = all_append (λ a. is_idle item v ws a ≡ false) kept keyed (kept_awaited item v d ws (after d s.asks)) (keyed_awaited item v ws s.epoch s.key_count made (made_awaited item v ws kept));
  owned = none_open (is_wanted item v ws) (is_owned item (kept ++ keyed)) ((length v.lacks + 4095) / 4096) 0 ((length v.lacks + 4095) / 4096) (omega arith) (λ b l w. covers item v d (why item v d s.asks) s ws (after d s.asks) b l w);
  listed = no_list item (list_any is_lister ws) (list_any is_listing (kept ++ keyed))
      (λ t. list_any-append is_listing kept keyed ∙ or_else (list_any is_listing kept) (list_any is_listing keyed)
      (λ f. listed_keyed item s.epoch s.key_count made ∙ list_any-append is_listing (runs ++ list_asks item ws kept) (dehydrate_asks item ws kept)
      ∙ or_left (list_any is_listing (runs ++ list_asks item ws kept)) (list_any is_listing (dehydrate_asks item ws kept))
      (list_any-append is_listing runs (list_asks item ws kept) ∙ or_right (list_any is_listing runs) (list_any is_listing (list_asks item ws kept)) (list_there item (list_any is_lister ws) (list_any is_listing kept) t f))));
  consented = ap (map dehydrate_ask)
      (filter_none (lacks (kept ++ keyed)) ws
      (all_then (λ (w : Wait). lacks kept w ≡ true → list_any (λ (a : Live). same_key a.wait.0 w.id.0) (dehydrate_asks item ws kept) ≡ true) (λ (w : Wait). lacks (kept ++ keyed) w ≡ false) (λ w h.
      ap (λ b. (eqb w.item.0 item.0) && is_dehydrate_wait w.kind && not b) (list_any-append (λ (a : Live). same_key a.wait.0 w.id.0) kept keyed)
      ∙ has_consent (eqb w.item.0 item.0) (is_dehydrate_wait w.kind) (list_any (λ (a : Live). same_key a.wait.0 w.id.0) kept) (list_any (λ (a : Live). same_key a.wait.0 w.id.0) keyed)
      (λ t. consented_keyed w s.epoch s.key_count made ∙ list_any-append (λ (a : Live). same_key a.wait.0 w.id.0) (runs ++ list_asks item ws kept) (dehydrate_asks item ws kept)
      ∙ or_right (list_any (λ (a : Live). same_key a.wait.0 w.id.0) (runs ++ list_asks item ws kept)) (list_any (λ (a : Live). same_key a.wait.0 w.id.0) (dehydrate_asks item ws kept)) (h t)))
      ws (each_consented (lacks kept) ws)));
} where
  ws : List Wait
  ws = left_of (why item v d s.asks) s.waits

  kept : List Live
  kept = filter (λ a. not (is_cancelled item v d ws a)) (after d s.asks)

  made : List Live
  made = new_asks item v ws kept

  keyed : List Live
  keyed = with_keys s.epoch s.key_count made

  runs : List Live
  runs = map (ask_of_run item v.base) (runs_of v (open_blocks item v ws kept))

  is_lister : Wait → Bool
  is_lister w = (eqb w.item.0 item.0) && is_list_wait w.kind

  is_listing : Live → Bool
  is_listing a = (eqb a.ask.item.0 item.0) && is_list a.ask.kind

  lacks : List Live → Wait → Bool
  lacks asks w = (eqb w.item.0 item.0) && is_dehydrate_wait w.kind && not (list_any (λ a. same_key a.wait.0 w.id.0) asks)
