-- What is asked of the asks of a book, and ticks that pass.
use Rattle.std.proofs.Common.{◌≡◌, ℕ, suc, ◌+◌, ◌-◌, ◌<◌, ◌≤◌, Bool, true, false, ◌||◌, not, cond, Option, Some, None, List, [], ◌∷◌, length, refl, sym, ap, subst, ◌∙◌, arith, eqb}
use Rattle.std.specs.Prelude.{count_by, filter, find, map, nat_le, nat_lt}
use Rattle.std.specs.List.{AllByRecursion, list_any}
use Rattle.std.specs.Option.{option_map}
use Rattle.std.proofs.lemmas.Bool.{cond-false}
use Rattle.std.proofs.lemmas.Bool.Decides.{nat_tests}
use Rattle.std.proofs.lemmas.List.Sums.{length-filter}
use Rattle.cf_ask_rule.proofs.Filters.{all_of, all_then, filter_map_same, filter_same}
use Rattle.cf_ask_rule.specs.Near.{is_near}
use Rattle.cf_ask_rule.specs.Fronts.{EndsBy}
use Rattle.cf_base.specs.declared.ids.ItemId.{ItemId}
use Rattle.cf_base.specs.declared.ids.Key.{Key}
use Rattle.cf_model.specs.Numbers.{same_key}
use Rattle.cf_model.specs.Requests.{Live, aged, live_of}
use Rattle.cf_model.specs.Words.{says, sorted}
use Rattle.cf_waits.proofs.Ages.{first_is}
use Rattle.cf_waits.proofs.AskChanges.{length_map, map_same, map_twice, rising_keys}
use Rattle.cf_waits.proofs.Rises.{above_differs, all_above, same_number}
use Rattle.cf_waits.proofs.Told.{all_zip}
use Rattle.cf_waits.specs.Books.{BeganWithin, HoldsAsks, aged_at, ask_entry, brought_forward, is_far, is_list_ask, is_plain_ask, stands_before}
use Rattle.cf_waits.specs.Rising.{IsRising, RisesTo, ask_key}
use Rattle.cf_waits.specs.Told.{first_key}
use Rattle.cf_waits.specs.declared.entries.Entry.{Entry}

find_map : {A B : Type 0} (f : A → B) (p : B → Bool) (xs : List A) → find p (map f xs) ≡ option_map f (find (λ x. p (f x)) xs)
find_map f p [] = refl
find_map f p (x ∷ xs) = one (p (f x)) (find_map f p xs) where
  one : (b : Bool) → find p (map f xs) ≡ option_map f (find (λ y. p (f y)) xs) → cond b (Some (f x)) (find p (map f xs)) ≡ option_map f (cond b (Some x) (find (λ y. p (f y)) xs))
  one true h = refl
  one false h = h

-- what does not hang on ticks

same_part : {B : Type 0} (g : Live → B) → ((a : Live) (n : ℕ) → g (record a { ticks = n }) ≡ g a) → (t : ℕ) (o : Option Live) → option_map g o ≡ option_map g (option_map (aged_at t) o)
same_part g h t None = refl
same_part g h t (Some a) = ap (λ x. Some x) (sym (h a (t - a.ticks)))

pub part_told : {B : Type 0} (g : Live → B) → ((a : Live) (n : ℕ) → g (record a { ticks = n }) ≡ g a) → (t : ℕ) (k : Key) (xs ys vs : List Live) → ys ≡ xs → map (aged_at t) xs ≡ vs → option_map g (live_of ys k) ≡ option_map g (live_of vs k)
part_told g h t k xs ys vs e v =
    ap (λ (l : List Live). option_map g (live_of l k)) e ∙ same_part g h t (live_of xs k)
    ∙ ap (option_map g) (sym (find_map (aged_at t) (λ a. same_key a.ask.key k) xs)) ∙ ap (λ (l : List Live). option_map g (live_of l k)) v

pub test_told : (p : Live → Bool) → ((a : Live) (n : ℕ) → p (record a { ticks = n }) ≡ p a) → (t : ℕ) (k : Key) (xs ys vs : List Live) → ys ≡ xs → map (aged_at t) xs ≡ vs → says p (live_of ys k) ≡ says p (live_of vs k)
test_told p h t k xs ys vs e v =
    ap (λ (l : List Live). says p (live_of l k)) e ∙ same (live_of xs k)
    ∙ ap (says p) (sym (find_map (aged_at t) (λ a. same_key a.ask.key k) xs)) ∙ ap (λ (l : List Live). says p (live_of l k)) v
  where
    same : (o : Option Live) → says p o ≡ says p (option_map (aged_at t) o)
    same None = refl
    same (Some a) = sym (h a (t - a.ticks))

pub aged_count : (p : Live → Bool) → ((a : Live) (n : ℕ) → p (record a { ticks = n }) ≡ p a) → (t : ℕ) (xs vs : List Live) → map (aged_at t) xs ≡ vs → length (filter p xs) ≡ length (filter p vs)
aged_count p h t xs vs v = sym (length_map (aged_at t) (filter p xs)) ∙ ap length (sym (filter_map_same p (aged_at t) (λ a. h a (t - a.ticks)) xs)) ∙ ap (λ (l : List Live). length (filter p l)) v

pub aged_count_by : (p : Live → Bool) → ((a : Live) (n : ℕ) → p (record a { ticks = n }) ≡ p a) → (t : ℕ) (xs vs : List Live) → map (aged_at t) xs ≡ vs → count_by p xs ≡ count_by p vs
aged_count_by p h t xs vs v = sym (length-filter p xs) ∙ aged_count p h t xs vs v ∙ length-filter p vs

some_of : (p : Live → Bool) (xs : List Live) → nat_lt 0 (length (filter p xs)) ≡ list_any p xs
some_of p [] = refl
some_of p (x ∷ xs) = one (p x) (some_of p xs) where
  more : (n : ℕ) → nat_lt 0 (suc n) ≡ true
  more n = grind (arith, nat_tests)

  one : (b : Bool) → nat_lt 0 (length (filter p xs)) ≡ list_any p xs → nat_lt 0 (length (cond b (x ∷ filter p xs) (filter p xs))) ≡ (b || list_any p xs)
  one true h = more (length (filter p xs))
  one false h = h

any_aged : (p : Live → Bool) → ((a : Live) (n : ℕ) → p (record a { ticks = n }) ≡ p a) → (t : ℕ) (xs : List Live) → list_any p xs ≡ list_any p (map (aged_at t) xs)
any_aged p h t [] = refl
any_aged p h t (x ∷ xs) = ap (λ b. b || list_any p xs) (sym (h x (t - x.ticks))) ∙ ap (λ b. p (aged_at t x) || b) (any_aged p h t xs)

pub lists_told : (n t : ℕ) (xs vs : List Live) → n ≡ length (filter is_list_ask xs) → map (aged_at t) xs ≡ vs → nat_lt 0 n ≡ list_any is_list_ask vs
lists_told n t xs vs e v = ap (λ m. nat_lt 0 m) e ∙ some_of is_list_ask xs ∙ any_aged is_list_ask (λ a m. refl) t xs ∙ ap (λ (l : List Live). list_any is_list_ask l) v

-- the asks that are near

no_other : (item : ItemId) (k : Key) (xs : List Live) → AllByRecursion (λ a. k.number < a.ask.key.number) xs → filter (λ a. (eqb a.ask.item.0 item.0) || same_key a.ask.key k) xs ≡ filter (λ a. eqb a.ask.item.0 item.0) xs
no_other item k xs h = filter_same (λ a. (eqb a.ask.item.0 item.0) || same_key a.ask.key k) (λ a. eqb a.ask.item.0 item.0) xs
    (all_then (λ a. k.number < a.ask.key.number) (λ a. ((eqb a.ask.item.0 item.0) || same_key a.ask.key k) ≡ (eqb a.ask.item.0 item.0)) (λ a l. ap (λ b. (eqb a.ask.item.0 item.0) || b) (above_differs a.ask.key k l) ∙ or_false (eqb a.ask.item.0 item.0)) xs h)
  where
    or_false : (b : Bool) → (b || false) ≡ b
    or_false true = refl
    or_false false = refl

none_other : (epoch low high : ℕ) (item : ItemId) (k : Key) (xs : List Live) → RisesTo ask_key epoch low high xs → says (λ a. not (eqb a.ask.item.0 item.0)) (live_of xs k) ≡ false
    → filter (λ a. (eqb a.ask.item.0 item.0) || same_key a.ask.key k) xs ≡ filter (λ a. eqb a.ask.item.0 item.0) xs
none_other epoch low high item k [] r h = refl
none_other epoch low high item k (x ∷ xs) r h = one (same_key x.ask.key k) refl h (none_other epoch x.ask.key.number high item k xs r.2) where
  or_true : (b : Bool) → not b ≡ false → b ≡ true
  or_true true e = refl
  or_true false e = let z : true ≡ false = e in cc

  same_head : (b c : Bool) (us vs : List Live) → us ≡ vs → c ≡ false → cond (b || c) (x ∷ us) us ≡ cond b (x ∷ vs) vs
  same_head true c us vs e f = ap (λ l. x ∷ l) e
  same_head false c us vs e f = ap (λ d. cond d (x ∷ us) us) f ∙ e

  one : (b : Bool) → same_key x.ask.key k ≡ b → says (λ a. not (eqb a.ask.item.0 item.0)) (cond b (Some x) (live_of xs k)) ≡ false
      → (says (λ a. not (eqb a.ask.item.0 item.0)) (live_of xs k) ≡ false → filter (λ a. (eqb a.ask.item.0 item.0) || same_key a.ask.key k) xs ≡ filter (λ a. eqb a.ask.item.0 item.0) xs)
      → filter (λ a. (eqb a.ask.item.0 item.0) || same_key a.ask.key k) (x ∷ xs) ≡ filter (λ a. eqb a.ask.item.0 item.0) (x ∷ xs)
  one true e g f =
      let on : (eqb x.ask.item.0 item.0) ≡ true = or_true (eqb x.ask.item.0 item.0) g in
      let rest : filter (λ a. (eqb a.ask.item.0 item.0) || same_key a.ask.key k) xs ≡ filter (λ a. eqb a.ask.item.0 item.0) xs =
      no_other item k xs (subst (λ (n : ℕ). AllByRecursion (λ a. n < a.ask.key.number) xs) (same_number x.ask.key k e) (all_above ask_key epoch x.ask.key.number high xs r.2)) in
      here (eqb x.ask.item.0 item.0) (same_key x.ask.key k) _ _ on rest
    where
      here : (b c : Bool) (us vs : List Live) → b ≡ true → us ≡ vs → cond (b || c) (x ∷ us) us ≡ cond b (x ∷ vs) vs
      here true c us vs h q = ap (λ l. x ∷ l) q
      here false c us vs h q = let z : false ≡ true = h in cc
  one false e g f = same_head (eqb x.ask.item.0 item.0) (same_key x.ask.key k) _ _ (f g) e

near_on : (item : ItemId) (key : Option Key) (xs : List Live) → IsRising ask_key xs → is_far item xs key ≡ false → filter (λ a. eqb a.ask.item.0 item.0) xs ≡ filter (is_near item key) xs
near_on item None xs r h = filter_same (λ a. eqb a.ask.item.0 item.0) (is_near item None) xs (all_of (λ a. (eqb a.ask.item.0 item.0) ≡ is_near item None a) (λ a. sym (or_false (eqb a.ask.item.0 item.0))) xs) where
  or_false : (b : Bool) → (b || false) ≡ b
  or_false true = refl
  or_false false = refl
near_on item (Some k) xs r h = sym (none_other r.0 0 r.1 item k xs r.2 h)

pub near_aged : (item : ItemId) (key : Option Key) (t : ℕ) (xs ys vs : List Live) → ys ≡ xs → map (aged_at t) xs ≡ vs → map (aged_at t) (filter (is_near item key) ys) ≡ filter (is_near item key) vs
near_aged item key t xs ys vs e v =
    ap (λ (l : List Live). map (aged_at t) (filter (is_near item key) l)) e ∙ sym (filter_map_same (is_near item key) (aged_at t) (λ a. refl) xs) ∙ ap (λ (l : List Live). filter (is_near item key) l) v

pub near_told : (item : ItemId) (key : Option Key) (t : ℕ) (xs ys zs vs : List Live) (b : Bool) → IsRising ask_key xs → ys ≡ xs → b ≡ is_far item ys key → b ≡ false → zs ≡ filter (λ a. eqb a.ask.item.0 item.0) xs → map (aged_at t) xs ≡ vs
    → map (aged_at t) zs ≡ filter (is_near item key) vs
near_told item key t xs ys zs vs b r e f g z v =
    ap (map (aged_at t)) (z ∙ near_on item key xs r (ap (λ (l : List Live). is_far item l key) (sym e) ∙ sym f ∙ g)) ∙ near_aged item key t xs xs vs refl v

-- asks that are due

none_old : (n o t : ℕ) (xs : List Live) → AllByRecursion (BeganWithin o t) xs → t - o < 60 - n → None ≡ first_key (filter (λ a. nat_le 60 a.ticks) (map (aged n) (map (aged_at t) xs)))
none_old n o t [] h l = refl
none_old n o t (x ∷ xs) h l = none_old n o t xs h.1 l ∙ ap first_key (sym (cond-false (nat_le 60 (t - x.ticks + n)) _ _ (young n o t x.ticks h.0.0 h.0.1 l))) where
  young : (n o t x : ℕ) → o ≤ x → x ≤ t → t - o < 60 - n → nat_le 60 (t - x + n) ≡ false
  young n o t x a b c = grind (arith, nat_tests)

pub none_due : (n o t : ℕ) (xs vs : List Live) → AllByRecursion (BeganWithin o t) xs → map (aged_at t) xs ≡ vs → t - o < 60 - n → None ≡ first_key (filter (λ a. nat_le 60 a.ticks) (map (aged n) vs))
none_due n o t xs vs h v l = none_old n o t xs h l ∙ ap (λ (l : List Live). first_key (filter (λ a. nat_le 60 a.ticks) (map (aged n) l))) v

pub first_due : (n t least : ℕ) (xs ys vs : List Live) → ys ≡ xs → least ≡ 60 - n → map (aged_at t) xs ≡ vs → option_map (λ a. a.ask.key) (find (λ a. nat_le least (t - a.ticks)) ys) ≡ first_key (filter (λ a. nat_le 60 a.ticks) (map (aged n) vs))
first_due n t least xs ys vs e m v =
    ap (λ (l : List Live). option_map (λ a. a.ask.key) (find (λ a. nat_le least (t - a.ticks)) l)) e
    ∙ ap (λ k. option_map (λ (a : Live). a.ask.key) (find (λ (a : Live). nat_le k (t - a.ticks)) xs)) m
    ∙ same_part (λ a. a.ask.key) (λ a k. refl) t (find (λ a. nat_le (60 - n) (t - a.ticks)) xs)
    ∙ ap (option_map (λ (a : Live). a.ask.key)) (sym (find_map (aged_at t) (λ a. nat_le (60 - n) a.ticks) xs))
    ∙ first_is n (map (aged_at t) xs) ∙ ap (λ (l : List Live). first_key (filter (λ a. nat_le 60 a.ticks) (map (aged n) l))) v

filter_mapped : {A B : Type 0} (f : A → B) (p : B → Bool) (xs : List A) → filter p (map f xs) ≡ map f (filter (λ x. p (f x)) xs)
filter_mapped f p [] = refl
filter_mapped f p (x ∷ xs) = one (p (f x)) (filter_mapped f p xs) where
  one : (b : Bool) → filter p (map f xs) ≡ map f (filter (λ y. p (f y)) xs) → cond b (f x ∷ filter p (map f xs)) (filter p (map f xs)) ≡ map f (cond b (x ∷ filter (λ y. p (f y)) xs) (filter (λ y. p (f y)) xs))
  one true h = ap (λ l. f x ∷ l) h
  one false h = h

pub keys_due : (t : ℕ) (xs ys vs : List Live) → ys ≡ xs → map (aged_at t) xs ≡ vs → map ask_key (filter (λ a. nat_le 60 (t - a.ticks)) ys) ≡ map ask_key (filter (λ a. nat_le 60 a.ticks) vs)
keys_due t xs ys vs e v =
    ap (λ (l : List Live). map ask_key (filter (λ a. nat_le 60 (t - a.ticks)) l)) e
    ∙ sym (map_twice ask_key (aged_at t) (filter (λ a. nat_le 60 (t - a.ticks)) xs) ∙ map_same (λ a. ask_key (aged_at t a)) ask_key (λ a. refl) (filter (λ a. nat_le 60 (t - a.ticks)) xs))
    ∙ ap (map ask_key) (sym (filter_mapped (aged_at t) (λ a. nat_le 60 a.ticks) xs)) ∙ ap (λ (l : List Live). map ask_key (filter (λ a. nat_le 60 a.ticks) l)) v

all_young : (o t : ℕ) (xs : List Live) → AllByRecursion (BeganWithin o t) xs → t - o < 60 → [] ≡ filter (λ a. nat_le 60 a.ticks) (map (aged_at t) xs)
all_young o t [] h l = refl
all_young o t (x ∷ xs) h l = all_young o t xs h.1 l ∙ sym (cond-false (nat_le 60 (t - x.ticks)) _ _ (young o t x.ticks h.0.0 h.0.1 l)) where
  young : (o t x : ℕ) → o ≤ x → x ≤ t → t - o < 60 → nat_le 60 (t - x) ≡ false
  young o t x a b c = grind (arith, nat_tests)

pub no_keys : (o t : ℕ) (xs vs : List Live) → AllByRecursion (BeganWithin o t) xs → map (aged_at t) xs ≡ vs → t - o < 60 → [] ≡ map ask_key (filter (λ a. nat_le 60 a.ticks) vs)
no_keys o t xs vs h v l = ap (map ask_key) (all_young o t xs h l ∙ ap (λ (x : List Live). filter (λ a. nat_le 60 a.ticks) x) v)

-- ticks that pass

all_forward : (P Q : Live → Type 0) (f : Live → Live) → ((a : Live) → P a → Q (f a)) → (xs : List Live) → AllByRecursion P xs → AllByRecursion Q (map f xs)
all_forward P Q f g [] h = tt
all_forward P Q f g (x ∷ xs) h = (g x h.0, all_forward P Q f g xs h.1)

pub known_forward : (o t base known : ℕ) (xs new ys : List Live) → AllByRecursion (BeganWithin o t) xs → new ≡ map (brought_forward base) xs → ys ≡ new → known ≡ o - base → AllByRecursion (λ a. known ≤ a.ticks) ys
known_forward o t base known xs new ys h is e k =
    subst (λ (l : List Live). AllByRecursion (λ a. known ≤ a.ticks) l) (sym (e ∙ is))
    (all_forward (BeganWithin o t) (λ a. known ≤ a.ticks) (brought_forward base) (λ a g. let low : o ≤ a.ticks = g.0 in omega (arith, k)) xs h)

pub asks_forward : (xs new ys : List Live) (es : List Entry) (n l o t end base r m : ℕ) → HoldsAsks xs es n l o t end → new ≡ map (brought_forward base) xs → ys ≡ new → AllByRecursion (λ a. r ≤ a.ticks) ys → r ≤ m → t - base ≤ m → AllByRecursion (EndsBy end) new → HoldsAsks new es n l r m end
asks_forward xs new ys es n l o t end base r m h is e least order later ends = subst (λ (x : List Live). HoldsAsks x es n l r m end) (sym is) (record {
  rising = rising_keys xs (map (brought_forward base) xs) (sym (map_twice ask_key (brought_forward base) xs ∙ map_same (λ a. ask_key (brought_forward base a)) ask_key (λ a. refl) xs)) h.rising;
  index = h.index ∙ ap (λ (x : List Entry). sorted stands_before x) (sym (map_twice ask_entry (brought_forward base) xs ∙ map_same (λ a. ask_entry (brought_forward base a)) ask_entry (λ a. refl) xs));
  count = h.count ∙ sym (ap length (filter_map_same is_plain_ask (brought_forward base) (λ a. refl) xs) ∙ length_map (brought_forward base) (filter is_plain_ask xs));
  list_count = h.list_count ∙ sym (ap length (filter_map_same is_list_ask (brought_forward base) (λ a. refl) xs) ∙ length_map (brought_forward base) (filter is_list_ask xs));
  begun = all_zip (λ a. r ≤ a.ticks) (λ a. a.ticks ≤ m) (BeganWithin r m) (λ a g k. (g, k)) (map (brought_forward base) xs)
      (subst (λ (x : List Live). AllByRecursion (λ a. r ≤ a.ticks) x) (e ∙ is) least)
      (all_forward (BeganWithin o t) (λ a. a.ticks ≤ m) (brought_forward base) (λ a g. let high : a.ticks ≤ t = g.1 in omega arith) xs h.begun);
  order = order;
  ends = subst (λ (x : List Live). AllByRecursion (EndsBy end) x) is ends;
})

forward_each : (n t base m o : ℕ) (xs : List Live) → AllByRecursion (BeganWithin o t) xs → AllByRecursion (λ a. a.ticks < 60) (map (aged_at t) xs) → base ≤ t - 60 → m ≡ t - base + n
    → map (aged_at m) (map (brought_forward base) xs) ≡ map (aged n) (map (aged_at t) xs)
forward_each n t base m o [] h y l e = refl
forward_each n t base m o (x ∷ xs) h y l e =
    let high : x.ticks ≤ t = h.0.1 in
    let young : t - x.ticks < 60 = y.0 in
    let same : m - (x.ticks - base) ≡ t - x.ticks + n = omega arith in
    ap (λ k. record x { ticks = k } ∷ map (aged_at m) (map (brought_forward base) xs)) same ∙ ap (λ v. aged n (aged_at t x) ∷ v) (forward_each n t base m o xs h.1 y.1 l e)

pub forward_aged : (n t base m o : ℕ) (xs new vs : List Live) → AllByRecursion (BeganWithin o t) xs → AllByRecursion (λ a. a.ticks < 60) vs → base ≤ t - 60 → m ≡ t - base + n → new ≡ map (brought_forward base) xs → map (aged_at t) xs ≡ vs
    → map (aged_at m) new ≡ map (aged n) vs
forward_aged n t base m o xs new vs h y l e is v =
    ap (map (aged_at m)) is ∙ forward_each n t base m o xs h (subst (λ (x : List Live). AllByRecursion (λ a. a.ticks < 60) x) (sym v) y) l e ∙ ap (map (aged n)) v
