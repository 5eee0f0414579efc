-- A wait that begins on a settled item leaves what was there before.
use Rattle.std.proofs.Common.{◌≡◌, ℕ, ◌+◌, ◌/◌, Bool, true, false, ◌&&◌, ◌||◌, not, cond, List, [], ◌∷◌, ◌++◌, length, refl, ap, ◌∙◌, eqb}
use Rattle.std.specs.Prelude.{filter, map, Option, None, is_some}
use Rattle.std.specs.List.{AllByRecursion, list_any}
use Rattle.std.proofs.lemmas.List.{map-append}
use Rattle.std.proofs.lemmas.List.Elements.{filter-append}
use Rattle.std.proofs.lemmas.List.Folds.{list_any-append}
use Rattle.cf_base.specs.declared.ids.ItemId.{ItemId}
use Rattle.cf_base.specs.declared.waits.AskKind.{AskKind}
use Rattle.cf_base.specs.declared.waits.AskKind.TheVariants as ask_kind
use Rattle.cf_base.specs.declared.waits.Cause.{Cause}
use Rattle.cf_model.specs.Asks.{ask_of_run, dehydrate_ask, dehydrate_asks, ended_of, is_cancelled, is_idle, is_idle_by, is_owned, is_wanted, left_of, list_ask, list_asks, new_asks, open_blocks, or_met, runs_of, why, with_end}
use Rattle.cf_model.specs.Missing.{View, Wait, is_met, misses_block}
use Rattle.cf_model.specs.Numbers.{same_key}
use Rattle.cf_model.specs.Requests.{Live, Nothing, is_dehydrate_wait, is_list, is_list_wait}
use Rattle.cf_model.specs.Words.{counting, when}
use Rattle.cf_ask_rule.proofs.Filters.{all_then, filter_same, or_left}
use Rattle.cf_ask_rule.proofs.Settling.{filter_none}
use Rattle.cf_ask_rule.specs.Deeds.{after}
use Rattle.cf_ask_rule.specs.Near.{IsFull, is_on}
use Rattle.cf_ask_rule.specs.Plans.{Begins, plan_of}
use Rattle.cf_ask_rule.specs.Settled.{IsSettled}

pub filter_all : {A : Type 0} (p : A → Bool) (xs : List A) → AllByRecursion (λ x. p x ≡ false) xs → filter (λ x. not (p x)) xs ≡ xs
filter_all p [] h = refl
filter_all p (x ∷ xs) h = ap (λ b. cond (not b) (x ∷ filter (λ x. not (p x)) xs) (filter (λ x. not (p x)) xs)) h.0 ∙ ap (λ l. x ∷ l) (filter_all p xs h.1)

pub none_of : {A : Type 0} (p : A → Bool) (xs : List A) → filter p xs ≡ [] → AllByRecursion (λ x. p x ≡ false) xs
none_of p [] h = tt
none_of {A} p (x ∷ xs) h = one (p x) refl (none_of p xs) h where
  one : (b : Bool) → p x ≡ b → (filter p xs ≡ [] → AllByRecursion (λ x. p x ≡ false) xs) → cond b (x ∷ filter p xs) (filter p xs) ≡ [] → AllByRecursion (λ x. p x ≡ false) (x ∷ xs)
  one true e k g = absurd (not_so g) where
    not_so : ◌≡◌ {A = List A} (x ∷ filter p xs) [] → ⊥
    not_so z = cc
  one false e k g = (e, k g)

-- which waits end

no_why : (b m : Bool) → (b ≡ true → m ≡ false) → cond b (or_met None m) None ≡ None
no_why true m h = ap (or_met None) (h refl)
no_why false m h = refl

unended : (item : ItemId) (v : View) (asks : List Live) (ws : List Wait) → AllByRecursion (λ w. is_on item w ≡ true → is_met v w ≡ false) ws → AllByRecursion (λ w. why item v Nothing asks w ≡ None) ws
unended item v asks ws h = all_then (λ w. is_on item w ≡ true → is_met v w ≡ false) (λ w. why item v Nothing asks w ≡ None) (λ w g. no_why (eqb w.item.0 item.0) (is_met v w) g) ws h

ended_front : (f : Wait → Option Cause) (ws bs : List Wait) → AllByRecursion (λ w. f w ≡ None) ws → ended_of f (ws ++ bs) ≡ ended_of f bs
ended_front f [] bs h = refl
ended_front f (w ∷ ws) bs h = ap (λ o. with_end w o (ended_of f (ws ++ bs))) h.0 ∙ ended_front f ws bs h.1

left_front : (f : Wait → Option Cause) (ws bs : List Wait) → AllByRecursion (λ w. f w ≡ None) ws → left_of f (ws ++ bs) ≡ ws ++ left_of f bs
left_front f [] bs h = refl
left_front f (w ∷ ws) bs h = ap (λ o. cond (not (is_some o)) (w ∷ left_of f (ws ++ bs)) (left_of f (ws ++ bs))) h.0 ∙ ap (λ l. w ∷ l) (left_front f ws bs h.1)

-- no ask goes

pub all_stay : (asks : List Live) → AllByRecursion IsFull asks → after Nothing asks ≡ asks
all_stay [] h = refl
all_stay (a ∷ asks) h = ap (λ b. cond (not b) (a ∷ after Nothing asks) (after Nothing asks)) h.0 ∙ ap (λ l. a ∷ l) (all_stay asks h.1)

any_more : {A : Type 0} (f g : A → Bool) → ((x : A) → f x ≡ true → g x ≡ true) → (xs : List A) → list_any f xs ≡ true → list_any g xs ≡ true
any_more f g h [] t = t
any_more f g h (x ∷ xs) t = one (f x) refl (any_more f g h xs) t where
  right : (a b : Bool) → b ≡ true → (a || b) ≡ true
  right true b e = refl
  right false b e = e

  one : (b : Bool) → f x ≡ b → (list_any f xs ≡ true → list_any g xs ≡ true) → (b || list_any f xs) ≡ true → (g x || list_any g xs) ≡ true
  one true e k u = or_left (g x) (list_any g xs) (h x e)
  one false e k u = right (g x) (list_any g xs) (k u)

any_front : (f : Wait → Bool) (ws xs : List Wait) → list_any f ws ≡ true → list_any f (ws ++ xs) ≡ true
any_front f ws xs t = list_any-append f ws xs ∙ or_left (list_any f ws) (list_any f xs) t

pub hit : (b : Bool) → not b ≡ false → b ≡ true
hit true h = refl
hit false h = let z : true ≡ false = h in cc

idle_front : (kind : AskKind) (item : ItemId) (v : View) (ws xs : List Wait) (a : Live) → is_idle_by kind item v ws a ≡ false → is_idle_by kind item v (ws ++ xs) a ≡ false
idle_front ask_kind.Fetch item v ws xs a h = ap not (any_more (is_wanted item v ws) (is_wanted item v (ws ++ xs)) (λ b t. any_front (λ w. (eqb w.item.0 item.0) && misses_block v w b) ws xs t) a.owned (hit (list_any (is_wanted item v ws) a.owned) h))
idle_front ask_kind.Validate item v ws xs a h = ap not (any_more (is_wanted item v ws) (is_wanted item v (ws ++ xs)) (λ b t. any_front (λ w. (eqb w.item.0 item.0) && misses_block v w b) ws xs t) a.owned (hit (list_any (is_wanted item v ws) a.owned) h))
idle_front ask_kind.List item v ws xs a h = ap not (any_front (λ w. (eqb w.item.0 item.0) && is_list_wait w.kind) ws xs (hit (list_any (λ w. (eqb w.item.0 item.0) && is_list_wait w.kind) ws) h))
idle_front ask_kind.Dehydrate item v ws xs a h = ap not (any_front (λ w. same_key w.id.0 a.wait.0) ws xs (hit (list_any (λ w. same_key w.id.0 a.wait.0) ws) h))

and_front : (x i j : Bool) → (i ≡ false → j ≡ false) → (x && i) ≡ false → (x && j) ≡ false
and_front true i j h e = h e
and_front false i j h e = refl

uncancelled : (item : ItemId) (v : View) (ws xs : List Wait) (asks : List Live) → AllByRecursion (λ a. is_idle item v ws a ≡ false) asks → AllByRecursion (λ a. is_cancelled item v Nothing (ws ++ xs) a ≡ false) asks
uncancelled item v ws xs asks h = all_then (λ a. is_idle item v ws a ≡ false) (λ a. is_cancelled item v Nothing (ws ++ xs) a ≡ false)
    (λ a e. and_front (eqb a.ask.item.0 item.0) (is_idle_by a.ask.kind item v ws a) (is_idle_by a.ask.kind item v (ws ++ xs) a) (idle_front a.ask.kind item v ws xs a) e) asks h

-- which asks are made

open_front : (w x o : Bool) → (w && not o) ≡ false → ((w || x) && not o) ≡ (x && not o)
open_front true x true h = right x where
  right : (x : Bool) → false ≡ (x && false)
  right true = refl
  right false = refl
open_front true x false h = let z : true ≡ false = h in cc
open_front false x o h = refl

opened : (item : ItemId) (v : View) (ws xs : List Wait) (asks : List Live) → open_blocks item v ws asks ≡ [] → open_blocks item v (ws ++ xs) asks ≡ open_blocks item v xs asks
opened item v ws xs asks h = filter_same (λ b. is_wanted item v (ws ++ xs) b && not (is_owned item asks b)) (λ b. is_wanted item v xs b && not (is_owned item asks b)) (counting 0 ((length v.lacks + 4095) / 4096))
    (all_then (λ b. (is_wanted item v ws b && not (is_owned item asks b)) ≡ false) (λ b. (is_wanted item v (ws ++ xs) b && not (is_owned item asks b)) ≡ (is_wanted item v xs b && not (is_owned item asks b)))
    (λ b e. ap (λ t. t && not (is_owned item asks b)) (list_any-append (λ (w : Wait). (eqb w.item.0 item.0) && misses_block v w b) ws xs) ∙ open_front (is_wanted item v ws b) (is_wanted item v xs b) (is_owned item asks b) e)
    (counting 0 ((length v.lacks + 4095) / 4096)) (none_of (λ b. is_wanted item v ws b && not (is_owned item asks b)) (counting 0 ((length v.lacks + 4095) / 4096)) h))

list_front : (a : Live) (l x k : Bool) → when (l && not k) (a ∷ []) ≡ [] → when ((l || x) && not k) (a ∷ []) ≡ when (x && not k) (a ∷ [])
list_front a true true true h = refl
list_front a true false true h = refl
list_front a true x false h = let z : ◌≡◌ {A = List Live} (a ∷ []) [] = h in cc
list_front a false x k h = refl

listed : (item : ItemId) (ws xs : List Wait) (asks : List Live) → list_asks item ws asks ≡ [] → list_asks item (ws ++ xs) asks ≡ list_asks item xs asks
listed item ws xs asks h =
    ap (λ b. when (b && not (list_any (λ (a : Live). (eqb a.ask.item.0 item.0) && is_list a.ask.kind) asks)) (list_ask item ∷ [])) (list_any-append (λ (w : Wait). (eqb w.item.0 item.0) && is_list_wait w.kind) ws xs)
    ∙ list_front (list_ask item) (list_any (λ w. (eqb w.item.0 item.0) && is_list_wait w.kind) ws) (list_any (λ w. (eqb w.item.0 item.0) && is_list_wait w.kind) xs) (list_any (λ a. (eqb a.ask.item.0 item.0) && is_list a.ask.kind) asks) h

consented : (item : ItemId) (ws xs : List Wait) (asks : List Live) → dehydrate_asks item ws asks ≡ [] → dehydrate_asks item (ws ++ xs) asks ≡ dehydrate_asks item xs asks
consented item ws xs asks h = ap (map dehydrate_ask) (filter-append lacks ws xs) ∙ map-append dehydrate_ask (filter lacks ws) (filter lacks xs) ∙ ap (λ (l : List Live). l ++ map dehydrate_ask (filter lacks xs)) h where
  lacks : Wait → Bool
  lacks w = (eqb w.item.0 item.0) && is_dehydrate_wait w.kind && not (list_any (λ a. same_key a.wait.0 w.id.0) asks)

made_front : (item : ItemId) (v : View) (ws xs : List Wait) (asks : List Live) → IsSettled item v ws asks → new_asks item v (ws ++ xs) asks ≡ new_asks item v xs asks
made_front item v ws xs asks h =
    ap (λ (bs : List ℕ). map (ask_of_run item v.base) (runs_of v bs) ++ list_asks item (ws ++ xs) asks ++ dehydrate_asks item (ws ++ xs) asks) (opened item v ws xs asks h.owned)
    ∙ ap (λ (l : List Live). map (ask_of_run item v.base) (runs_of v (open_blocks item v xs asks)) ++ l ++ dehydrate_asks item (ws ++ xs) asks) (listed item ws xs asks h.listed)
    ∙ ap (λ (l : List Live). map (ask_of_run item v.base) (runs_of v (open_blocks item v xs asks)) ++ list_asks item xs asks ++ l) (consented item ws xs asks h.consented)

pub begins : (item : ItemId) (v : View) (ws bs : List Wait) (asks : List Live) → IsSettled item v ws asks → AllByRecursion IsFull asks → Begins item v bs asks (plan_of item v Nothing (ws ++ bs) asks)
begins item v ws bs asks h full = record {
  ended = ended_front (why item v Nothing asks) ws bs stay;
  cancelled = ap (λ (l : List Live). map (λ a. a.ask.key) l) (ap (filter (is_cancelled item v Nothing left)) (all_stay asks full) ∙ ap (λ (l : List Wait). filter (is_cancelled item v Nothing l) asks) left_is ∙ filter_none (is_cancelled item v Nothing (ws ++ xs)) asks none);
  made = ap (λ (l : List Wait). new_asks item v l (filter (λ a. not (is_cancelled item v Nothing l a)) (after Nothing asks))) left_is
      ∙ ap (new_asks item v (ws ++ xs)) (ap (filter (λ a. not (is_cancelled item v Nothing (ws ++ xs) a))) (all_stay asks full) ∙ filter_all (is_cancelled item v Nothing (ws ++ xs)) asks none)
      ∙ made_front item v ws xs asks h;
} where
  xs : List Wait
  xs = left_of (why item v Nothing []) bs

  left : List Wait
  left = left_of (why item v Nothing asks) (ws ++ bs)

  stay : AllByRecursion (λ w. why item v Nothing asks w ≡ None) ws
  stay = unended item v asks ws h.unmet

  left_is : left ≡ ws ++ xs
  left_is = left_front (why item v Nothing asks) ws bs stay

  none : AllByRecursion (λ a. is_cancelled item v Nothing (ws ++ xs) a ≡ false) asks
  none = uncancelled item v ws xs asks h.awaited
