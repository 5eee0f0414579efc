-- How many asks there are once some are made, and whether the numbers suffice.
use Rattle.std.proofs.Common.{◌≡◌, ℕ, suc, ◌+◌, ◌-◌, ◌<◌, ◌≤◌, ◌&&◌, ◌||◌, Bool, true, false, not, cond, Option, Some, None, List, [], ◌∷◌, ◌++◌, length, refl, sym, ap, ◌∙◌, arith}
use Rattle.std.specs.Prelude.{filter, count_by, map, nat_lt}
use Rattle.std.proofs.lemmas.Bool.Decides.{nat_tests}
use Rattle.std.proofs.lemmas.List.{length-append}
use Rattle.std.proofs.lemmas.List.Elements.{filter-append}
use Rattle.std.proofs.lemmas.List.Sums.{count_by-le-length, length-filter}
use Rattle.cf_ask_rule.proofs.Filters.{filter_map_same}
use Rattle.cf_ask_rule.specs.Plans.{Planned}
use Rattle.cf_base.specs.declared.codes.Code.{Code}
use Rattle.cf_base.specs.declared.codes.Code.TheVariants as code
use Rattle.cf_base.specs.declared.ids.Key.{Key}
use Rattle.cf_base.specs.declared.waits.Cause.{Cause}
use Rattle.cf_base.specs.declared.waits.WaitKind.{WaitKind}
use Rattle.cf_base.specs.declared.waits.WaitKind.TheVariants as wait_kind
use Rattle.cf_model.specs.Asks.{with_keys}
use Rattle.cf_model.specs.Missing.{Wait}
use Rattle.cf_model.specs.Numbers.{same_key}
use Rattle.cf_model.specs.Requests.{Live, Waiting, no_numbers, too_many_asks, too_many_waits}
use Rattle.cf_waits.proofs.AskChanges.{length_map}
use Rattle.cf_waits.proofs.Told.{filter_both}
use Rattle.cf_waits.specs.Books.{is_plain_ask, is_plain_wait}
use Rattle.cf_model.specs.Words.{first_of}
use Rattle.cf_waits.specs.Steps.{carried, changed_by, is_ended, is_gone, limit_of, limits_asks, limits_by, limits_numbers, limits_waits}
use Rattle.cf_waits.specs.declared.limits.Limits.{Limits}
use Rattle.cf_waits.specs.declared.limits.Limits.TheVariants as limits

pub length_keyed : (epoch n : ℕ) (made : List Live) → length (with_keys epoch n made) ≡ length made
length_keyed epoch n [] = refl
length_keyed epoch n (a ∷ as') = ap (λ k. suc k) (length_keyed epoch (n + 1) as')

-- what is left, and counts

count_both : {A : Type 0} (p q : A → Bool) (xs : List A) → count_by p (filter q xs) ≡ count_by (λ x. q x && p x) xs
count_both p q xs = sym (length-filter p (filter q xs)) ∙ ap length (filter_both p q xs) ∙ length-filter (λ x. q x && p x) xs

count_append : {A : Type 0} (p : A → Bool) (xs ys : List A) → count_by p (xs ++ ys) ≡ count_by p xs + count_by p ys
count_append p xs ys =
    sym (length-filter p (xs ++ ys)) ∙ ap length (filter-append p xs ys) ∙ length-append (filter p xs) (filter p ys)
    ∙ ap (λ n. n + length (filter p ys)) (length-filter p xs) ∙ ap (λ n. count_by p xs + n) (length-filter p ys)

both_fewer : {A : Type 0} (p q : A → Bool) (xs : List A) → length (filter (λ x. q x && p x) xs) ≤ length (filter p xs)
both_fewer p q [] = omega arith
both_fewer p q (x ∷ xs) = one (q x) (p x) (both_fewer p q xs) where
  one : (a b : Bool) → length (filter (λ y. q y && p y) xs) ≤ length (filter p xs) → length (cond (a && b) (x ∷ filter (λ y. q y && p y) xs) (filter (λ y. q y && p y) xs)) ≤ length (cond b (x ∷ filter p xs) (filter p xs))
  one true true h = omega (arith, h)
  one true false h = h
  one false true h = omega (arith, h)
  one false false h = h

count_fewer : {A : Type 0} (p q : A → Bool) (xs : List A) → count_by (λ x. q x && p x) xs ≤ length (filter p xs)
count_fewer p q xs = let e : length (filter (λ x. q x && p x) xs) ≡ count_by (λ x. q x && p x) xs = length-filter (λ x. q x && p x) xs in omega (arith, both_fewer p q xs)

-- a limit that a sum passes

first_passes : (n a b : ℕ) → n < a → nat_lt n a ≡ nat_lt n (a + b)
first_passes n a b h = grind (arith, nat_tests)

rest_passes : (n a b : ℕ) → a ≤ n → nat_lt (n - a) b ≡ nat_lt n (a + b)
rest_passes n a b h = grind (arith, nat_tests)

none_passes : (n a b c d : ℕ) → a ≤ c → b ≤ d → c + d ≤ n → false ≡ nat_lt n (a + b)
none_passes n a b c d h g k = grind (arith, nat_tests)

-- waits

abbrev stays : List (Wait × Cause) → Wait → Bool
stays es w = not (is_ended es w)

waits_left : (es : List (Wait × Cause)) (ws begun : List Wait) → count_by is_plain_wait (filter (stays es) (ws ++ begun)) ≡ count_by (λ w. not (is_ended es w) && is_plain_wait w) ws + count_by (λ w. not (is_ended es w) && is_plain_wait w) begun
waits_left es ws begun = count_both is_plain_wait (stays es) (ws ++ begun) ∙ count_append (λ w. not (is_ended es w) && is_plain_wait w) ws begun

pub waits_few : (n : ℕ) (es : List (Wait × Cause)) (ws begun : List Wait) → n ≡ length (filter is_plain_wait ws) → n + length begun ≤ 1024 → false ≡ nat_lt 1024 (count_by is_plain_wait (filter (stays es) (ws ++ begun)))
waits_few n es ws begun e h =
    let a : count_by (λ w. not (is_ended es w) && is_plain_wait w) ws ≤ length (filter is_plain_wait ws) = count_fewer is_plain_wait (stays es) ws in
    let b : count_by (λ w. not (is_ended es w) && is_plain_wait w) begun ≤ length begun = count_by-le-length (λ w. not (is_ended es w) && is_plain_wait w) begun in
    none_passes 1024 (count_by (λ w. not (is_ended es w) && is_plain_wait w) ws) (count_by (λ w. not (is_ended es w) && is_plain_wait w) begun) (length (filter is_plain_wait ws)) (length begun) a b (omega (arith, e))
    ∙ ap (nat_lt 1024) (sym (waits_left es ws begun))

pub waits_first : (n : ℕ) (es : List (Wait × Cause)) (ws begun : List Wait) → n ≡ count_by (λ w. not (is_ended es w) && is_plain_wait w) ws → 1024 < n → nat_lt 1024 n ≡ nat_lt 1024 (count_by is_plain_wait (filter (stays es) (ws ++ begun)))
waits_first n es ws begun e h =
    first_passes 1024 n (count_by (λ w. not (is_ended es w) && is_plain_wait w) begun) h ∙ ap (λ k. nat_lt 1024 (k + count_by (λ w. not (is_ended es w) && is_plain_wait w) begun)) e ∙ ap (nat_lt 1024) (sym (waits_left es ws begun))

pub waits_rest : (n m : ℕ) (es : List (Wait × Cause)) (ws begun : List Wait) → n ≡ count_by (λ w. not (is_ended es w) && is_plain_wait w) ws → m ≡ count_by (λ w. not (is_ended es w) && is_plain_wait w) begun → n ≤ 1024
    → nat_lt (1024 - n) m ≡ nat_lt 1024 (count_by is_plain_wait (filter (stays es) (ws ++ begun)))
waits_rest n m es ws begun e f h =
    rest_passes 1024 n m h ∙ ap (λ k. nat_lt 1024 (k + m)) e ∙ ap (λ k. nat_lt 1024 (count_by (λ w. not (is_ended es w) && is_plain_wait w) ws + k)) f ∙ ap (nat_lt 1024) (sym (waits_left es ws begun))

-- asks

changed_plain : (c : Option Live) (a : Live) → is_plain_ask (changed_by c a) ≡ is_plain_ask a
changed_plain None a = refl
changed_plain (Some c) a = one (same_key a.ask.key c.ask.key) where
  one : (b : Bool) → is_plain_ask (cond b (record a { owned = c.owned; ticks = 0 }) a) ≡ is_plain_ask a
  one true = refl
  one false = refl

keyed_plain : (epoch n : ℕ) (made : List Live) → length (filter is_plain_ask (with_keys epoch n made)) ≡ length (filter is_plain_ask made)
keyed_plain epoch n [] = refl
keyed_plain epoch n (a ∷ as') = one _ _ _ _ (is_plain_ask a) (keyed_plain epoch (n + 1) as') where
  one : (x y : Live) (xs ys : List Live) (b : Bool) → length xs ≡ length ys → length (cond b (x ∷ xs) xs) ≡ length (cond b (y ∷ ys) ys)
  one x y xs ys true e = ap (λ k. suc k) e
  one x y xs ys false e = e

-- how many there are once asks are gone, changed and made
abbrev after : List Key → Option Key → Option Live → ℕ → ℕ → List Live → List Live → List Live
after cancelled dropped changed epoch n asks made = map (changed_by changed) (filter (λ a. not (is_gone cancelled dropped a)) asks) ++ with_keys epoch n made

asks_left : (cancelled : List Key) (dropped : Option Key) (changed : Option Live) (epoch n : ℕ) (asks made : List Live)
    → count_by is_plain_ask (after cancelled dropped changed epoch n asks made) ≡ count_by (λ a. not (is_gone cancelled dropped a) && is_plain_ask a) asks + count_by is_plain_ask made
asks_left cancelled dropped changed epoch n asks made =
    count_append is_plain_ask (map (changed_by changed) (filter (λ a. not (is_gone cancelled dropped a)) asks)) (with_keys epoch n made)
    ∙ ap (λ k. k + count_by is_plain_ask (with_keys epoch n made))
    (sym (length-filter is_plain_ask (map (changed_by changed) (filter (λ a. not (is_gone cancelled dropped a)) asks)))
    ∙ ap length (filter_map_same is_plain_ask (changed_by changed) (changed_plain changed) (filter (λ a. not (is_gone cancelled dropped a)) asks))
    ∙ length_map (changed_by changed) (filter is_plain_ask (filter (λ a. not (is_gone cancelled dropped a)) asks))
    ∙ length-filter is_plain_ask (filter (λ a. not (is_gone cancelled dropped a)) asks)
    ∙ count_both is_plain_ask (λ a. not (is_gone cancelled dropped a)) asks)
    ∙ ap (λ k. count_by (λ a. not (is_gone cancelled dropped a) && is_plain_ask a) asks + k) (sym (length-filter is_plain_ask (with_keys epoch n made)) ∙ keyed_plain epoch n made ∙ length-filter is_plain_ask made)

pub asks_few : (m : ℕ) (cancelled : List Key) (dropped : Option Key) (changed : Option Live) (epoch n : ℕ) (asks made : List Live) → m ≡ length (filter is_plain_ask asks) → m + length made ≤ 4096
    → false ≡ nat_lt 4096 (count_by is_plain_ask (after cancelled dropped changed epoch n asks made))
asks_few m cancelled dropped changed epoch n asks made e h =
    let a : count_by (λ a. not (is_gone cancelled dropped a) && is_plain_ask a) asks ≤ length (filter is_plain_ask asks) = count_fewer is_plain_ask (λ a. not (is_gone cancelled dropped a)) asks in
    let b : count_by is_plain_ask made ≤ length made = count_by-le-length is_plain_ask made in
    none_passes 4096 (count_by (λ a. not (is_gone cancelled dropped a) && is_plain_ask a) asks) (count_by is_plain_ask made) (length (filter is_plain_ask asks)) (length made) a b (omega (arith, e))
    ∙ ap (nat_lt 4096) (sym (asks_left cancelled dropped changed epoch n asks made))

pub asks_first : (m : ℕ) (cancelled : List Key) (dropped : Option Key) (changed : Option Live) (epoch n : ℕ) (asks made : List Live) → m ≡ count_by (λ a. not (is_gone cancelled dropped a) && is_plain_ask a) asks → 4096 < m
    → nat_lt 4096 m ≡ nat_lt 4096 (count_by is_plain_ask (after cancelled dropped changed epoch n asks made))
asks_first m cancelled dropped changed epoch n asks made e h =
    first_passes 4096 m (count_by is_plain_ask made) h ∙ ap (λ k. nat_lt 4096 (k + count_by is_plain_ask made)) e ∙ ap (nat_lt 4096) (sym (asks_left cancelled dropped changed epoch n asks made))

pub asks_rest : (m k : ℕ) (cancelled : List Key) (dropped : Option Key) (changed : Option Live) (epoch n : ℕ) (asks made : List Live) → m ≡ count_by (λ a. not (is_gone cancelled dropped a) && is_plain_ask a) asks → k ≡ count_by is_plain_ask made → m ≤ 4096
    → nat_lt (4096 - m) k ≡ nat_lt 4096 (count_by is_plain_ask (after cancelled dropped changed epoch n asks made))
asks_rest m k cancelled dropped changed epoch n asks made e f h =
    rest_passes 4096 m k h ∙ ap (λ x. nat_lt 4096 (x + k)) e ∙ ap (λ x. nat_lt 4096 (count_by (λ a. not (is_gone cancelled dropped a) && is_plain_ask a) asks + x)) f ∙ ap (nat_lt 4096) (sym (asks_left cancelled dropped changed epoch n asks made))

-- numbers that suffice

few_keys : (k w : ℕ) → (nat_lt 4294967295 (k + 0) || nat_lt 4294967295 (w + 0)) ≡ false → k ≤ 4294967295
few_keys k w h = grind (arith, nat_tests)

few_waits : (k w : ℕ) → (nat_lt 4294967295 (k + 0) || nat_lt 4294967295 (w + 0)) ≡ false → w ≤ 4294967295
few_waits k w h = grind (arith, nat_tests)

pub keys_suffice : (p : Planned) (s : Waiting) → no_numbers (carried p s).1 ≡ false → s.key_count + length p.made ≤ 4294967295
keys_suffice p s h =
    let e : length (with_keys s.epoch s.key_count p.made) ≡ length p.made = length_keyed s.epoch s.key_count p.made in
    let k : s.key_count + length (with_keys s.epoch s.key_count p.made) ≤ 4294967295 = few_keys (s.key_count + length (with_keys s.epoch s.key_count p.made)) s.wait_count h in
    omega arith

pub waits_suffice : (p : Planned) (s : Waiting) → no_numbers (carried p s).1 ≡ false → s.wait_count ≤ 4294967295
waits_suffice p s h = few_waits (s.key_count + length (with_keys s.epoch s.key_count p.made)) s.wait_count h

-- whether the numbers suffice, count by count
pub numbers_by : (k w : Bool) (p : Planned) (s : Waiting) (made : List Live) (key_count wait_count : ℕ) → k ≡ nat_lt 4294967295 (key_count + length made) → w ≡ nat_lt 4294967295 wait_count → made ≡ p.made → key_count ≡ s.key_count → wait_count ≡ s.wait_count
    → (k || w) ≡ no_numbers (carried p s).1
numbers_by k w p s made key_count wait_count e f m c d = ap (λ b. b || w) keys ∙ ap (λ b. nat_lt 4294967295 (s.key_count + length (with_keys s.epoch s.key_count p.made) + 0) || b) waits where
  more : (n : ℕ) → nat_lt 4294967295 n ≡ nat_lt 4294967295 (n + 0)
  more n = ap (λ m. nat_lt 4294967295 m) (omega arith)

  keys : k ≡ nat_lt 4294967295 (s.key_count + length (with_keys s.epoch s.key_count p.made) + 0)
  keys =
      e ∙ ap (λ n. nat_lt 4294967295 (n + length made)) c ∙ ap (λ (l : List Live). nat_lt 4294967295 (s.key_count + length l)) m ∙ ap (λ n. nat_lt 4294967295 (s.key_count + n)) (sym (length_keyed s.epoch s.key_count p.made))
      ∙ more (s.key_count + length (with_keys s.epoch s.key_count p.made))

  waits : w ≡ nat_lt 4294967295 (s.wait_count + 0)
  waits = f ∙ ap (λ n. nat_lt 4294967295 n) d ∙ more s.wait_count

-- the first limit that is passed, test by test
pub limit_by : (l : Limits) (s : Waiting) (w a n : Bool) → w ≡ (limits_waits l && too_many_waits s) → a ≡ (limits_asks l && too_many_asks s) → n ≡ (limits_numbers l && no_numbers s)
    → first_of ((w, code.TooManyWaits) ∷ (a, code.TooManyAsks) ∷ (n, code.Exhausted) ∷ []) ≡ limit_of l s
limit_by l s w a n e f g =
    ap (λ b. first_of ((b, code.TooManyWaits) ∷ (a, code.TooManyAsks) ∷ (n, code.Exhausted) ∷ [])) e ∙ ap (λ b. first_of ((limits_waits l && too_many_waits s, code.TooManyWaits) ∷ (b, code.TooManyAsks) ∷ (n, code.Exhausted) ∷ [])) f
    ∙ ap (λ b. first_of ((limits_waits l && too_many_waits s, code.TooManyWaits) ∷ (limits_asks l && too_many_asks s, code.TooManyAsks) ∷ (b, code.Exhausted) ∷ [])) g ∙ each l
  where
    each : (k : Limits) → first_of ((limits_waits k && too_many_waits s, code.TooManyWaits) ∷ (limits_asks k && too_many_asks s, code.TooManyAsks) ∷ (limits_numbers k && no_numbers s, code.Exhausted) ∷ []) ≡ limit_of k s
    each limits.Begins = refl
    each limits.Asks = refl
    each limits.Numbers = refl
    each limits.Free = refl

last_of_one : (x : Code) (a : Bool) → cond a (Some x) None ≡ None → a ≡ false
last_of_one x true h = cc
last_of_one x false h = refl

last_of_three : (x y z : Code) (a b c : Bool) → cond a (Some x) (cond b (Some y) (cond c (Some z) None)) ≡ None → c ≡ false
last_of_three x y z true b c h = cc
last_of_three x y z false true c h = cc
last_of_three x y z false false true h = cc
last_of_three x y z false false false h = refl

-- a wait that passes no limit begins with numbers that suffice
pub numbers_suffice : (kind : WaitKind) (s : Waiting) → limit_of (limits_by kind) s ≡ None → no_numbers s ≡ false
numbers_suffice wait_kind.Dehydrate s h = last_of_one code.Exhausted (no_numbers s) h
numbers_suffice wait_kind.Read s h = last_of_three code.TooManyWaits code.TooManyAsks code.Exhausted (too_many_waits s) (too_many_asks s) (no_numbers s) h
numbers_suffice wait_kind.Hydrate s h = last_of_three code.TooManyWaits code.TooManyAsks code.Exhausted (too_many_waits s) (too_many_asks s) (no_numbers s) h
numbers_suffice wait_kind.Background s h = last_of_three code.TooManyWaits code.TooManyAsks code.Exhausted (too_many_waits s) (too_many_asks s) (no_numbers s) h
numbers_suffice wait_kind.List s h = last_of_three code.TooManyWaits code.TooManyAsks code.Exhausted (too_many_waits s) (too_many_asks s) (no_numbers s) h
