-- Lists of blocks in order, and the runs that they come from.
use Rattle.std.proofs.Common.{◌≡◌, ℕ, zero, suc, ◌+◌, ◌-◌, ◌<◌, ◌≤◌, ◌^◌, ◌⊎◌, inl, inr, Bool, true, false, ◌&&◌, ◌||◌, not, cond, List, [], ◌∷◌, ◌++◌, append-nil, min, subst, refl, sym, ap, ◌∙◌, arith, eqb, eqb-true, eq-eqb}
use Rattle.std.specs.Prelude.{filter, nat_le, nat_lt}
use Rattle.std.specs.List.{list_any}
use Rattle.std.proofs.lemmas.Bool.{cases_lt}
use Rattle.std.proofs.lemmas.Bool.Decides.{nat_tests}
use Rattle.std.proofs.lemmas.List.Folds.{list_any-append}
use Rattle.cf_base.specs.declared.ids.ItemId.{ItemId}
use Rattle.cf_base.specs.declared.spans.Span.{Span}
use Rattle.cf_ask_rule.specs.Places.{places}
use Rattle.cf_ask_rule.proofs.Blocks.{has_counting}
use Rattle.cf_model.specs.Asks.{is_wanted, misses_in}
use Rattle.cf_model.specs.Missing.{View, Wait, misses_block}
use Rattle.cf_model.specs.Requests.{has_block}
use Rattle.cf_model.specs.Words.{counting, is_empty}
use Rattle.cf_ranges.specs.Positions.{Adds, Cuts, IsRuns, IsRunsFrom, contains, in_span, within}

-- membership

in_run : (s n b : ℕ) → has_block (counting s n) b ≡ within s (s + n) b
in_run s n b = has_counting s n b ∙ same s n b where
  same : (s n b : ℕ) → (nat_le s b && nat_lt (b - s) n) ≡ within s (s + n) b
  same s n b = grind (arith, nat_tests)

pub has_places : (runs : List Span) (b : ℕ) → has_block (places runs) b ≡ contains runs b
has_places [] b = refl
has_places (s ∷ ss) b = list_any-append (λ c. eqb c b) (counting s.start s.len) (places ss) ∙ ap (λ x. x || has_block (places ss) b) (in_run s.start s.len b) ∙ ap (λ x. in_span s b || x) (has_places ss b)

-- order

abbrev pub RisingFrom : ℕ → List ℕ → Type 0
RisingFrom low [] = Unit {0}
RisingFrom low (x ∷ xs) = (low ≤ x) × RisingFrom (x + 1) xs

pub lower : (low at : ℕ) (xs : List ℕ) → low ≤ at → RisingFrom at xs → RisingFrom low xs
lower low at [] l h = tt
lower low at (x ∷ xs) l h = let k : at ≤ x = h.0 in (omega arith, h.1)

rising_counting : (low s n : ℕ) (xs : List ℕ) → low ≤ s → RisingFrom (s + n) xs → RisingFrom low (counting s n ++ xs)
rising_counting low s zero xs l h = lower low (s + zero) xs (omega arith) h
rising_counting low s (suc n) xs l h = let e : s + suc n ≡ s + 1 + n = omega arith in (l, rising_counting (s + 1) (s + 1) n xs (omega arith) (subst (λ (k : ℕ). RisingFrom k xs) e h))

rising_places : (low : ℕ) (runs : List Span) → IsRunsFrom low runs → RisingFrom low (places runs)
rising_places low [] h = tt
rising_places low (s ∷ ss) h = rising_counting low s.start s.len (places ss) h.0 (lower (s.start + s.len) (s.start + s.len + 1) (places ss) (omega arith) (rising_places (s.start + s.len + 1) ss h.3))

pub rising_runs : (runs : List Span) → IsRuns runs → RisingFrom 0 (places runs)
rising_runs runs h = rising_places 0 runs h

pub rising_filter : (p : ℕ → Bool) (low : ℕ) (xs : List ℕ) → RisingFrom low xs → RisingFrom low (filter p xs)
rising_filter p low [] h = tt
rising_filter p low (x ∷ xs) h = one (p x) (rising_filter p (x + 1) xs h.1) where
  one : (c : Bool) → RisingFrom (x + 1) (filter p xs) → RisingFrom low (cond c (x ∷ filter p xs) (filter p xs))
  one true r = (h.0, r)
  one false r = let k : low ≤ x = h.0 in lower low (x + 1) (filter p xs) (omega arith) r

none_below : (low b : ℕ) (xs : List ℕ) → b < low → RisingFrom low xs → has_block xs b ≡ false
none_below low b [] l h = refl
none_below low b (x ∷ xs) l h = let k : low ≤ x = h.0 in ap (λ c. c || has_block xs b) (apart x b (omega arith)) ∙ none_below (x + 1) b xs (omega arith) h.1 where
  apart : (x b : ℕ) → b < x → eqb x b ≡ false
  apart x b l = grind (arith, nat_tests)

first_has : (x : ℕ) (xs : List ℕ) → has_block (x ∷ xs) x ≡ true
first_has x xs = ap (λ c. c || has_block xs x) (eq-eqb x x refl)

apart : (x b : ℕ) → x < b → eqb x b ≡ false
apart x b l = grind (arith, nat_tests)

rests : (x y : ℕ) (xs ys : List ℕ) → x ≡ y → RisingFrom (x + 1) xs → RisingFrom (y + 1) ys → ((b : ℕ) → has_block (x ∷ xs) b ≡ has_block (y ∷ ys) b) → (b : ℕ) → has_block xs b ≡ has_block ys b
rests x y xs ys q h k e b = elim (cases_lt x b) [
  | inl l ↦ sym (ap (λ c. c || has_block xs b) (apart x b (omega arith))) ∙ e b ∙ ap (λ c. c || has_block ys b) (apart y b (omega arith))
  | inr l ↦ none_below (x + 1) b xs (omega arith) h ∙ sym (none_below (y + 1) b ys (omega arith) k)
]

heads : (x y : ℕ) (xs ys : List ℕ) → RisingFrom (x + 1) xs → RisingFrom (y + 1) ys → ((b : ℕ) → has_block (x ∷ xs) b ≡ has_block (y ∷ ys) b)
    → (RisingFrom (y + 1) xs → RisingFrom (y + 1) ys → ((b : ℕ) → has_block xs b ≡ has_block ys b) → xs ≡ ys) → (x < y) ⊎ (y ≤ x) → (y < x) ⊎ (x ≤ y) → x ∷ xs ≡ y ∷ ys
heads x y xs ys h k e again (inl l) v = let z : true ≡ false = sym (first_has x xs) ∙ e x ∙ none_below y x (y ∷ ys) l (omega arith, k) in cc
heads x y xs ys h k e again (inr g) (inl l) = let z : true ≡ false = sym (first_has y ys) ∙ sym (e y) ∙ none_below x y (x ∷ xs) l (omega arith, h) in cc
heads x y xs ys h k e again (inr g) (inr l) = let q : x ≡ y = omega arith in
    ap (λ v. v ∷ xs) q ∙ ap (λ v. y ∷ v) (again (subst (λ (j : ℕ). RisingFrom (j + 1) xs) q h) k (rests x y xs ys q h k e))

-- lists in order with the same blocks are equal
pub one_list : (low : ℕ) (xs ys : List ℕ) → RisingFrom low xs → RisingFrom low ys → ((b : ℕ) → has_block xs b ≡ has_block ys b) → xs ≡ ys
one_list low [] [] h k e = refl
one_list low [] (y ∷ ys) h k e = let z : false ≡ true = e y ∙ first_has y ys in cc
one_list low (x ∷ xs) [] h k e = let z : true ≡ false = sym (first_has x xs) ∙ e x in cc
one_list low (x ∷ xs) (y ∷ ys) h k e = heads x y xs ys h.1 k.1 e (λ r q f. one_list (y + 1) xs ys r q f) (cases_lt x y) (cases_lt y x)

and_false : (u : Bool) → (u && false) ≡ false
and_false true = refl
and_false false = refl

filter_step : (c e u v q : Bool) → (e ≡ true → c ≡ q) → v ≡ (u && q) → cond c (e || v) v ≡ ((e || u) && q)
filter_step true true u v true f h = refl
filter_step true true u v false f h = let z : true ≡ false = f refl in cc
filter_step true false u v q f h = h
filter_step false true u v true f h = let z : false ≡ true = f refl in cc
filter_step false true u v false f h = h ∙ and_false u
filter_step false false u v q f h = h

pub has_filter : (p : ℕ → Bool) (b : ℕ) (xs : List ℕ) → has_block (filter p xs) b ≡ (has_block xs b && p b)
has_filter p b [] = refl
has_filter p b (x ∷ xs) = push (p x) ∙ filter_step (p x) (eqb x b) (has_block xs b) (has_block (filter p xs) b) (p b) (λ h. ap p (eqb-true x b h)) (has_filter p b xs) where
  push : (c : Bool) → has_block (cond c (x ∷ filter p xs) (filter p xs)) b ≡ cond c (eqb x b || has_block (filter p xs) b) (has_block (filter p xs) b)
  push true = refl
  push false = refl

either : (x y : Bool) → (x || y) ≡ true → (x ≡ true) ⊎ (y ≡ true)
either true y h = inl refl
either false y h = inr h

inside : (s e b : ℕ) → within s e b ≡ true → b < e
inside s e b h = grind (arith, nat_tests)

small : (low b : ℕ) (runs : List Span) → IsRunsFrom low runs → contains runs b ≡ true → b < 2 ^ 40
small low b [] h e = cc
small low b (s ∷ ss) h e = elim (either (in_span s b) (contains ss b) e) [
  | inl l ↦ let k : s.start + s.len ≤ 2 ^ 40 = h.2 in let m : b < s.start + s.len = inside s.start (s.start + s.len) b l in omega arith
  | inr r ↦ small (s.start + s.len + 1) b ss h.3 r
]

-- what is left of runs, and what is made of a run

pub clipped : (s n t m b : ℕ) → t ≡ min s (2 ^ 40) → m ≡ min n (2 ^ 40 - t) → b < 2 ^ 40 → within t (t + m) b ≡ within s (s + n) b
clipped s n t m b e f h = grind (arith, nat_tests)

pub cut_places : (old new : List Span) (s t : Span) → IsRuns old → IsRuns new → Cuts old new t → ((b : ℕ) → b < 2 ^ 40 → in_span t b ≡ in_span s b) → filter (λ b. not (has_block (counting s.start s.len) b)) (places old) ≡ places new
cut_places old new s t h k c e = one_list 0 _ _ (rising_filter (λ b. not (has_block (counting s.start s.len) b)) 0 (places old) (rising_runs old h)) (rising_runs new k)
    (λ b. has_filter (λ b. not (has_block (counting s.start s.len) b)) b (places old)
    ∙ ap (λ x. x && not (has_block (counting s.start s.len) b)) (has_places old b)
    ∙ ap (λ x. contains old b && not x) (in_run s.start s.len b)
    ∙ there b (contains old b) (λ g. small 0 b old h g)
    ∙ sym (c b) ∙ sym (has_places new b))
  where
    there : (b : ℕ) (x : Bool) → (x ≡ true → b < 2 ^ 40) → (x && not (in_span s b)) ≡ (x && not (in_span t b))
    there b true f = ap not (sym (e b (f refl)))
    there b false f = refl

pub added_places : (new : List Span) (s : Span) → IsRuns new → Adds [] new s → places new ≡ counting s.start s.len
added_places new s k a = one_list 0 _ _ (rising_runs new k) (subst (λ (v : List ℕ). RisingFrom 0 v) (append-nil (counting s.start s.len)) (rising_counting 0 s.start s.len [] (omega arith) tt)) (λ b. has_places new b ∙ a b ∙ sym (in_run s.start s.len b))

pub any_places : (p : ℕ → Bool) (runs : List Span) → list_any p (places runs) ≡ list_any (λ r. list_any p (counting r.start r.len)) runs
any_places p [] = refl
any_places p (s ∷ ss) = list_any-append p (counting s.start s.len) (places ss) ∙ ap (λ x. list_any p (counting s.start s.len) || x) (any_places p ss)

-- waits and blocks, looked through in either order

or_swap : (a b c d : Bool) → ((a || b) || (c || d)) ≡ ((a || c) || (b || d))
or_swap true b c d = refl
or_swap false true true d = refl
or_swap false true false d = refl
or_swap false false c d = refl

any_or : {X : Type 0} (f g : X → Bool) (xs : List X) → list_any (λ x. f x || g x) xs ≡ (list_any f xs || list_any g xs)
any_or f g [] = refl
any_or f g (x ∷ xs) = ap (λ b. (f x || g x) || b) (any_or f g xs) ∙ or_swap (f x) (g x) (list_any f xs) (list_any g xs)

any_none : {X : Type 0} (xs : List X) → list_any (λ x. false) xs ≡ false
any_none [] = refl
any_none (x ∷ xs) = any_none xs

any_and : {X : Type 0} (a : Bool) (f : X → Bool) (xs : List X) → list_any (λ x. a && f x) xs ≡ (a && list_any f xs)
any_and true f xs = refl
any_and false f xs = any_none xs

pub any_wanted : (item : ItemId) (v : View) (ws : List Wait) (bs : List ℕ) → list_any (is_wanted item v ws) bs ≡ list_any (λ w. (eqb w.item.0 item.0) && misses_in v bs w) ws
any_wanted item v [] bs = any_none bs
any_wanted item v (w ∷ ws) bs =
    any_or (λ b. (eqb w.item.0 item.0) && misses_block v w b) (is_wanted item v ws) bs
    ∙ ap (λ x. x || list_any (is_wanted item v ws) bs) (any_and (eqb w.item.0 item.0) (misses_block v w) bs)
    ∙ ap (λ x. ((eqb w.item.0 item.0) && misses_in v bs w) || x) (any_wanted item v ws bs)

-- no block

pub no_places : (runs : List Span) → IsRuns runs → is_empty (places runs) ≡ is_empty runs
no_places [] h = refl
no_places (s ∷ ss) h = one s.len h.1 where
  one : (n : ℕ) → 0 < n → is_empty (counting s.start n ++ places ss) ≡ false
  one zero k = absurd (omega arith)
  one (suc n) k = refl
