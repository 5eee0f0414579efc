-- Of waits and asks in order of number: what of them is told, and what is found.
use Rattle.std.proofs.Common.{◌≡◌, ℕ, ◌<◌, Bool, true, false, ◌&&◌, ◌||◌, not, cond, Option, Some, None, List, [], ◌∷◌, refl, sym, ap, subst, ◌∙◌}
use Rattle.std.specs.Prelude.{filter, is_some, map}
use Rattle.std.specs.List.{AllByRecursion, list_any}
use Rattle.cf_ask_rule.proofs.Filters.{all_filter, all_map, filter_same}
use Rattle.cf_base.specs.declared.ids.Key.{Key}
use Rattle.cf_base.specs.declared.waits.Cause.{Cause}
use Rattle.cf_model.specs.Asks.{ended_of, left_of, with_end}
use Rattle.cf_model.specs.Missing.{Wait}
use Rattle.cf_model.specs.Numbers.{same_key}
use Rattle.cf_model.specs.Requests.{Live, live_of}
use Rattle.cf_waits.proofs.Rises.{above_differs, all_above, below_differs, same_itself, same_number}
use Rattle.cf_waits.specs.Rising.{RisesTo, ask_key, wait_key}
use Rattle.cf_waits.specs.Steps.{is_ended}

pub filter_both : {A : Type 0} (p q : A → Bool) (xs : List A) → filter p (filter q xs) ≡ filter (λ x. q x && p x) xs
filter_both p q [] = refl
filter_both p q (x ∷ xs) = one (q x) (filter_both p q xs) where
  one : (b : Bool) → filter p (filter q xs) ≡ filter (λ y. q y && p y) xs → filter p (cond b (x ∷ filter q xs) (filter q xs)) ≡ cond (b && p x) (x ∷ filter (λ y. q y && p y) xs) (filter (λ y. q y && p y) xs)
  one true h = ap (λ v. cond (p x) (x ∷ v) v) h
  one false h = h

pub all_zip : {A : Type 0} (P Q R : A → Type 0) → ((x : A) → P x → Q x → R x) → (xs : List A) → AllByRecursion P xs → AllByRecursion Q xs → AllByRecursion R xs
all_zip P Q R f [] h g = tt
all_zip P Q R f (x ∷ xs) h g = (f x h.0 g.0, all_zip P Q R f xs h.1 g.1)

-- asks

none_told : (k : Key) (ys : List Live) → AllByRecursion (λ y. k.number < y.ask.key.number) ys → list_any (same_key k) (map (λ a. a.ask.key) ys) ≡ false
none_told k [] h = refl
none_told k (y ∷ ys) h = ap (λ b. b || list_any (same_key k) (map (λ a. a.ask.key) ys)) (below_differs k y.ask.key h.0) ∙ none_told k ys h.1

none_found : (k : Key) (ys : List Live) → AllByRecursion (λ y. k.number < y.ask.key.number) ys → live_of ys k ≡ None
none_found k [] h = refl
none_found k (y ∷ ys) h = ap (λ b. cond b (Some y) (live_of ys k)) (above_differs y.ask.key k h.0) ∙ none_found k ys h.1

above_after : (f : Live → Live) → ((a : Live) → (f a).ask.key ≡ a.ask.key) → (q : Live → Bool) (n : ℕ) (xs : List Live) → AllByRecursion (λ a. n < a.ask.key.number) xs → AllByRecursion (λ a. n < a.ask.key.number) (filter q (map f xs))
above_after f keeps q n xs h = all_filter (λ a. n < a.ask.key.number) q (map f xs) (all_map (λ a. n < a.ask.key.number) f (λ a l. subst (λ (k : Key). n < k.number) (sym (keeps a)) l) xs h)

-- an ask is told of exactly where it passes
pub told_is : (f : Live → Live) (q : Live → Bool) → ((a : Live) → (f a).ask.key ≡ a.ask.key) → (epoch low high : ℕ) (xs : List Live) → RisesTo ask_key epoch low high xs
    → AllByRecursion (λ a. list_any (same_key a.ask.key) (map (λ x. x.ask.key) (filter q (map f xs))) ≡ q (f a)) xs
told_is f q keeps epoch low high [] h = tt
told_is f q keeps epoch low high (x ∷ xs) h = (head (q (f x)), tail xs above (told_is f q keeps epoch x.ask.key.number high xs h.2)) where
  above : AllByRecursion (λ a. x.ask.key.number < a.ask.key.number) xs
  above = all_above ask_key epoch x.ask.key.number high xs h.2

  rest : List Live
  rest = filter q (map f xs)

  head : (b : Bool) → list_any (same_key x.ask.key) (map (λ a. a.ask.key) (cond b (f x ∷ rest) rest)) ≡ b
  head true = ap (λ b. b || list_any (same_key x.ask.key) (map (λ a. a.ask.key) rest)) (ap (same_key x.ask.key) (keeps x) ∙ same_itself x.ask.key)
  head false = none_told x.ask.key rest (above_after f keeps q x.ask.key.number xs above)

  one : (a : Live) → x.ask.key.number < a.ask.key.number → (b : Bool) → list_any (same_key a.ask.key) (map (λ y. y.ask.key) (cond b (f x ∷ rest) rest)) ≡ list_any (same_key a.ask.key) (map (λ y. y.ask.key) rest)
  one a l true = ap (λ b. b || list_any (same_key a.ask.key) (map (λ y. y.ask.key) rest)) (ap (same_key a.ask.key) (keeps x) ∙ above_differs a.ask.key x.ask.key l)
  one a l false = refl

  tail : (ys : List Live) → AllByRecursion (λ a. x.ask.key.number < a.ask.key.number) ys → AllByRecursion (λ a. list_any (same_key a.ask.key) (map (λ y. y.ask.key) rest) ≡ q (f a)) ys
      → AllByRecursion (λ a. list_any (same_key a.ask.key) (map (λ y. y.ask.key) (cond (q (f x)) (f x ∷ rest) rest)) ≡ q (f a)) ys
  tail [] g k = tt
  tail (a ∷ as') g k = (one a g.0 (q (f x)) ∙ k.0, tail as' g.1 k.1)

-- the ask of a key is found exactly where it passes
pub found_is : (f : Live → Live) (q : Live → Bool) → ((a : Live) → (f a).ask.key ≡ a.ask.key) → (k : Key) (epoch low high : ℕ) (xs : List Live) → RisesTo ask_key epoch low high xs
    → AllByRecursion (λ a. same_key a.ask.key k ≡ true → live_of (filter q (map f xs)) k ≡ cond (q (f a)) (Some (f a)) None) xs
found_is f q keeps k epoch low high [] h = tt
found_is f q keeps k epoch low high (x ∷ xs) h = ((λ t. head t (q (f x))), tail xs above (found_is f q keeps k epoch x.ask.key.number high xs h.2)) where
  above : AllByRecursion (λ a. x.ask.key.number < a.ask.key.number) xs
  above = all_above ask_key epoch x.ask.key.number high xs h.2

  rest : List Live
  rest = filter q (map f xs)

  head : same_key x.ask.key k ≡ true → (b : Bool) → live_of (cond b (f x ∷ rest) rest) k ≡ cond b (Some (f x)) None
  head t true = ap (λ c. cond c (Some (f x)) (live_of rest k)) (ap (λ j. same_key j k) (keeps x) ∙ t)
  head t false = none_found k rest (subst (λ (n : ℕ). AllByRecursion (λ a. n < a.ask.key.number) rest) (same_number x.ask.key k t) (above_after f keeps q x.ask.key.number xs above))

  one : (a : Live) → x.ask.key.number < a.ask.key.number → same_key a.ask.key k ≡ true → (b : Bool) → live_of (cond b (f x ∷ rest) rest) k ≡ live_of rest k
  one a l t true = ap (λ c. cond c (Some (f x)) (live_of rest k)) (ap (λ j. same_key j k) (keeps x) ∙ below_differs x.ask.key k (subst (λ (n : ℕ). x.ask.key.number < n) (same_number a.ask.key k t) l))
  one a l t false = refl

  tail : (ys : List Live) → AllByRecursion (λ a. x.ask.key.number < a.ask.key.number) ys → AllByRecursion (λ a. same_key a.ask.key k ≡ true → live_of rest k ≡ cond (q (f a)) (Some (f a)) None) ys
      → AllByRecursion (λ a. same_key a.ask.key k ≡ true → live_of (cond (q (f x)) (f x ∷ rest) rest) k ≡ cond (q (f a)) (Some (f a)) None) ys
  tail [] g j = tt
  tail (a ∷ as') g j = ((λ t. one a g.0 t (q (f x)) ∙ j.0 t), tail as' g.1 j.1)

-- waits

all_ended : (P : Wait → Type 0) (f : Wait → Option Cause) (ws : List Wait) → AllByRecursion P ws → AllByRecursion (λ (e : Wait × Cause). P e.0) (ended_of f ws)
all_ended P f [] h = tt
all_ended P f (w ∷ ws) h = one (f w) (all_ended P f ws h.1) where
  one : (o : Option Cause) → AllByRecursion (λ (e : Wait × Cause). P e.0) (ended_of f ws) → AllByRecursion (λ (e : Wait × Cause). P e.0) (with_end w o (ended_of f ws))
  one None g = g
  one (Some c) g = (h.0, g)

none_ended : (w : Wait) (es : List (Wait × Cause)) → AllByRecursion (λ (e : Wait × Cause). w.id.0.number < e.0.id.0.number) es → is_ended es w ≡ false
none_ended w [] h = refl
none_ended w (e ∷ es) h = ap (λ b. b || is_ended es w) (above_differs e.0.id.0 w.id.0 h.0) ∙ none_ended w es h.1

ended_is : (f : Wait → Option Cause) (epoch low high : ℕ) (ws : List Wait) → RisesTo wait_key epoch low high ws → AllByRecursion (λ w. not (is_some (f w)) ≡ not (is_ended (ended_of f ws) w)) ws
ended_is f epoch low high [] h = tt
ended_is f epoch low high (x ∷ ws) h = (head (f x), tail ws above (ended_is f epoch x.id.0.number high ws h.2)) where
  above : AllByRecursion (λ w. x.id.0.number < w.id.0.number) ws
  above = all_above wait_key epoch x.id.0.number high ws h.2

  head : (o : Option Cause) → not (is_some o) ≡ not (is_ended (with_end x o (ended_of f ws)) x)
  head None = ap not (sym (none_ended x (ended_of f ws) (all_ended (λ w. x.id.0.number < w.id.0.number) f ws above)))
  head (Some c) = ap (λ b. not (b || is_ended (ended_of f ws) x)) (sym (same_itself x.id.0))

  one : (w : Wait) → x.id.0.number < w.id.0.number → (o : Option Cause) → is_ended (ended_of f ws) w ≡ is_ended (with_end x o (ended_of f ws)) w
  one w l None = refl
  one w l (Some c) = ap (λ b. b || is_ended (ended_of f ws) w) (sym (below_differs x.id.0 w.id.0 l))

  tail : (us : List Wait) → AllByRecursion (λ w. x.id.0.number < w.id.0.number) us → AllByRecursion (λ w. not (is_some (f w)) ≡ not (is_ended (ended_of f ws) w)) us
      → AllByRecursion (λ w. not (is_some (f w)) ≡ not (is_ended (with_end x (f x) (ended_of f ws)) w)) us
  tail [] g k = tt
  tail (w ∷ us) g k = (k.0 ∙ ap not (one w g.0 (f x)), tail us g.1 k.1)

-- those are left that are not told of
pub left_is : (f : Wait → Option Cause) (epoch low high : ℕ) (ws : List Wait) → RisesTo wait_key epoch low high ws → left_of f ws ≡ filter (λ w. not (is_ended (ended_of f ws) w)) ws
left_is f epoch low high ws h = filter_same (λ w. not (is_some (f w))) (λ w. not (is_ended (ended_of f ws) w)) ws (ended_is f epoch low high ws h)
