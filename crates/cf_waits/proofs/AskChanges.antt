-- The asks of a book, with the ticks that have passed on each.
use Rattle.std.proofs.Common.{◌≡◌, ℕ, suc, ◌+◌, ◌-◌, ◌<◌, ◌≤◌, Bool, true, false, not, cond, Some, None, List, [], ◌∷◌, ◌++◌, length, refl, sym, ap, subst, ◌∙◌, arith}
use Rattle.std.specs.Prelude.{filter, find, map}
use Rattle.std.specs.List.{AllByRecursion}
use Rattle.cf_ask_rule.proofs.Filters.{all_filter, all_map, filter_map_same}
use Rattle.cf_ask_rule.specs.Fronts.{EndsBy}
use Rattle.cf_base.specs.declared.ids.Key.{Key}
use Rattle.cf_model.specs.Numbers.{same_key}
use Rattle.cf_model.specs.Requests.{Live}
use Rattle.cf_model.specs.Words.{put_in, sorted}
use Rattle.cf_waits.proofs.Booked.{few, none_goes}
use Rattle.cf_waits.proofs.Indexed as indexed
use Rattle.cf_waits.specs.Books.{BeganWithin, HoldsAsks, aged_at, ask_entry, index_of, is_list_ask, is_plain_ask, stands_before, without_entry}
use Rattle.cf_waits.specs.Rising.{IsRising, RisesTo, ask_key}
use Rattle.cf_waits.specs.declared.entries.Entry.{Entry}

ask_tie : (a : Live) → (ask_entry a).number ≡ (ask_key a).number
ask_tie a = refl

-- lists

map_append : {A B : Type 0} (f : A → B) (xs ys : List A) → map f (xs ++ ys) ≡ map f xs ++ map f ys
map_append f [] ys = refl
map_append f (x ∷ xs) ys = ap (λ l. f x ∷ l) (map_append f xs ys)

pub length_map : {A B : Type 0} (f : A → B) (xs : List A) → length (map f xs) ≡ length xs
length_map f [] = refl
length_map f (x ∷ xs) = ap (λ n. suc n) (length_map f xs)

pub map_same : {A B : Type 0} (f g : A → B) → ((x : A) → f x ≡ g x) → (xs : List A) → map f xs ≡ map g xs
map_same f g h [] = refl
map_same f g h (x ∷ xs) = ap (λ v. v ∷ map f xs) (h x) ∙ ap (λ l. g x ∷ l) (map_same f g h xs)

pub map_twice : {A B C : Type 0} (f : B → C) (g : A → B) (xs : List A) → map f (map g xs) ≡ map (λ x. f (g x)) xs
map_twice f g [] = refl
map_twice f g (x ∷ xs) = ap (λ l. f (g x) ∷ l) (map_twice f g xs)

rises_keys : (epoch low high : ℕ) (xs ys : List Live) → map ask_key xs ≡ map ask_key ys → RisesTo ask_key epoch low high xs → RisesTo ask_key epoch low high ys
rises_keys epoch low high [] [] e h = h
rises_keys epoch low high [] (y ∷ ys) e h = let z : [] ≡ ask_key y ∷ map ask_key ys = e in cc
rises_keys epoch low high (x ∷ xs) [] e h = let z : ask_key x ∷ map ask_key xs ≡ [] = e in cc
rises_keys epoch low high (x ∷ xs) (y ∷ ys) e h =
    let first : ask_key x ≡ ask_key y = cc in
    let rest : map ask_key xs ≡ map ask_key ys = cc in
    subst (λ (k : Key). (k.epoch ≡ epoch) × (low < k.number) × RisesTo ask_key epoch k.number high ys) first (h.0, h.1, rises_keys epoch (ask_key x).number high xs ys rest h.2)

pub rising_keys : (xs ys : List Live) → map ask_key xs ≡ map ask_key ys → IsRising ask_key xs → IsRising ask_key ys
rising_keys xs ys e r = (r.0, r.1, rises_keys r.0 0 r.1 xs ys e r.2)

-- an ask that comes

rising_own : (t : ℕ) (xs : List Live) (a own : Live) → own ≡ record a { ticks = t } → IsRising ask_key (map (aged_at t) xs ++ a ∷ []) → IsRising ask_key (xs ++ own ∷ [])
rising_own t xs a own e r = rising_keys (map (aged_at t) xs ++ a ∷ []) (xs ++ own ∷ [])
    (map_append ask_key (map (aged_at t) xs) (a ∷ []) ∙ ap (λ (l : List Key). l ++ ask_key a ∷ []) (map_twice ask_key (aged_at t) xs) ∙ ap (λ (b : Live). map ask_key xs ++ ask_key b ∷ []) (sym e) ∙ sym (map_append ask_key xs (own ∷ []))) r

pub all_push : (P : Live → Type 0) (xs : List Live) (a : Live) → AllByRecursion P xs → P a → AllByRecursion P (xs ++ a ∷ [])
all_push P [] a h g = (g, tt)
all_push P (x ∷ xs) a h g = (h.0, all_push P xs a h.1 g)

pub asks_pushed : (xs new : List Live) (es put : List Entry) (n m l k o t end most : ℕ) (a own : Live) (e : Entry) → HoldsAsks xs es n l o t end → IsRising ask_key (map (aged_at t) xs ++ a ∷ []) → own ≡ record a { ticks = t } → new ≡ xs ++ own ∷ [] → e ≡ ask_entry own
    → put ≡ put_in stands_before e es → m ≡ cond (is_plain_ask own) 1 0 → k ≡ cond (is_list_ask own) 1 0 → AllByRecursion (EndsBy most) new → HoldsAsks new put (n + m) (l + k) o t most
asks_pushed xs new es put n m l k o t end most a own e h r begins is same puts more lists ends = record {
  rising = subst (λ (x : List Live). IsRising ask_key x) (sym is) (rising_own t xs a own begins r);
  index = puts ∙ ap (λ x. put_in stands_before x es) same ∙ ap (λ x. put_in stands_before (ask_entry own) x) h.index ∙ indexed.index_pushed ask_entry ask_key ask_tie xs own (rising_own t xs a own begins r)
      ∙ ap (λ (x : List Live). index_of ask_entry x) (sym is);
  count =
      let sum : length (filter is_plain_ask (xs ++ own ∷ [])) ≡ length (filter is_plain_ask xs) + cond (is_plain_ask own) 1 0 = indexed.count_pushed ask_entry ask_key ask_tie is_plain_ask xs own in
      let before : n ≡ length (filter is_plain_ask xs) = h.count in
      let all : n + m ≡ length (filter is_plain_ask (xs ++ own ∷ [])) = omega (arith, more) in
      all ∙ ap (λ (x : List Live). length (filter is_plain_ask x)) (sym is);
  list_count =
      let sum : length (filter is_list_ask (xs ++ own ∷ [])) ≡ length (filter is_list_ask xs) + cond (is_list_ask own) 1 0 = indexed.count_pushed ask_entry ask_key ask_tie is_list_ask xs own in
      let before : l ≡ length (filter is_list_ask xs) = h.list_count in
      let all : l + k ≡ length (filter is_list_ask (xs ++ own ∷ [])) = omega (arith, lists) in
      all ∙ ap (λ (x : List Live). length (filter is_list_ask x)) (sym is);
  begun = subst (λ (x : List Live). AllByRecursion (BeganWithin o t) x) (sym is) (all_push (BeganWithin o t) xs own h.begun (subst (λ (b : Live). BeganWithin o t b) (sym begins) (h.order, omega arith)));
  order = h.order;
  ends = ends;
}

pub asks_fit : (p : Live → Bool) (xs new : List Live) (n m : ℕ) (own : Live) → n ≡ length (filter p xs) → new ≡ xs ++ own ∷ [] → m ≡ cond (p own) 1 0 → n + m ≤ length new
asks_fit p xs new n m own before is more =
    let sum : length (filter p (xs ++ own ∷ [])) ≡ length (filter p xs) + cond (p own) 1 0 = indexed.count_pushed ask_entry ask_key ask_tie p xs own in
    let most : length (filter p (xs ++ own ∷ [])) ≤ length (xs ++ own ∷ []) = few p (xs ++ own ∷ []) in
    let same : length new ≡ length (xs ++ own ∷ []) = ap length is in
    omega (arith, more)

-- an ask that goes

pub asks_fewer : (p : Live → Bool) (k : Key) (xs : List Live) (n m : ℕ) (a : Live) → IsRising ask_key xs → n ≡ length (filter p xs) → find (λ y. same_key k y.ask.key) xs ≡ Some a → m ≡ cond (p a) 1 0 → m ≤ n
asks_fewer p k xs n m a r before f less =
    let sum : length (filter p (filter (λ y. not (same_key k y.ask.key)) xs)) + cond (p a) 1 0 ≡ length (filter p xs) = indexed.count_removed ask_entry ask_key ask_tie p k xs a r f in
    omega (arith, less)

count_less : (p : Live → Bool) (k : Key) (xs new : List Live) (n m : ℕ) (a : Live) → IsRising ask_key xs → n ≡ length (filter p xs) → find (λ y. same_key k y.ask.key) xs ≡ Some a → new ≡ filter (λ y. not (same_key k y.ask.key)) xs → m ≡ cond (p a) 1 0 → n - m ≡ length (filter p new)
count_less p k xs new n m a r before f is less =
    let sum : length (filter p (filter (λ y. not (same_key k y.ask.key)) xs)) + cond (p a) 1 0 ≡ length (filter p xs) = indexed.count_removed ask_entry ask_key ask_tie p k xs a r f in
    let all : n - m ≡ length (filter p (filter (λ y. not (same_key k y.ask.key)) xs)) = omega (arith, less) in
    all ∙ ap (λ (x : List Live). length (filter p x)) (sym is)

pub asks_removed : (k : Key) (xs new : List Live) (es left : List Entry) (n m l j o t end most : ℕ) (a : Live) (e : Entry) → HoldsAsks xs es n l o t end → find (λ y. same_key k y.ask.key) xs ≡ Some a → new ≡ filter (λ y. not (same_key k y.ask.key)) xs → e ≡ ask_entry a → left ≡ without_entry e es
    → m ≡ cond (is_plain_ask a) 1 0 → j ≡ cond (is_list_ask a) 1 0 → AllByRecursion (EndsBy most) new → HoldsAsks new left (n - m) (l - j) o t most
asks_removed k xs new es left n m l j o t end most a e h f is same goes less lists ends = record {
  rising = subst (λ (x : List Live). IsRising ask_key x) (sym is) (indexed.rising_left ask_entry ask_key ask_tie (λ y. not (same_key k y.ask.key)) xs h.rising);
  index = goes ∙ ap (λ x. without_entry x es) same ∙ ap (λ x. without_entry (ask_entry a) x) h.index ∙ indexed.index_removed ask_entry ask_key ask_tie k xs a h.rising f ∙ ap (λ (x : List Live). index_of ask_entry x) (sym is);
  count = count_less is_plain_ask k xs new n m a h.rising h.count f is less;
  list_count = count_less is_list_ask k xs new l j a h.rising h.list_count f is lists;
  begun = subst (λ (x : List Live). AllByRecursion (BeganWithin o t) x) (sym is) (all_filter (BeganWithin o t) (λ y. not (same_key k y.ask.key)) xs h.begun);
  order = h.order;
  ends = ends;
}

pub asks_kept : (k : Key) (xs new : List Live) (es : List Entry) (n l o t end : ℕ) → HoldsAsks xs es n l o t end → find (λ y. same_key k y.ask.key) xs ≡ None → new ≡ filter (λ y. not (same_key k y.ask.key)) xs → HoldsAsks new es n l o t end
asks_kept k xs new es n l o t end h f is = subst (λ (x : List Live). HoldsAsks x es n l o t end) (sym (is ∙ none_goes ask_entry ask_key ask_tie k xs f)) h

-- what is left, with the ticks that have passed
pub left_aged : (k : Key) (t : ℕ) (xs new vs : List Live) → new ≡ filter (λ y. not (same_key k y.ask.key)) xs → map (aged_at t) xs ≡ vs → map (aged_at t) new ≡ filter (λ y. not (same_key k y.ask.key)) vs
left_aged k t xs new vs is v =
    ap (map (aged_at t)) is ∙ sym (filter_map_same (λ y. not (same_key k y.ask.key)) (aged_at t) (λ a. refl) xs) ∙ ap (filter (λ y. not (same_key k y.ask.key))) v

-- an ask that changes

abbrev pub anew : Key → List ℕ → ℕ → Live → Live
anew k owned t a = cond (same_key k a.ask.key) (record a { owned = owned; ticks = t }) a

-- what a change leaves
anew_keeps : {B : Type 0} (f : Live → B) → ((a : Live) (bs : List ℕ) (n : ℕ) → f (record a { owned = bs; ticks = n }) ≡ f a) → (k : Key) (owned : List ℕ) (t : ℕ) (a : Live) → f (anew k owned t a) ≡ f a
anew_keeps f g k owned t a = one (same_key k a.ask.key) where
  one : (b : Bool) → f (cond b (record a { owned = owned; ticks = t }) a) ≡ f a
  one true = g a owned t
  one false = refl

anew_count : (p : Live → Bool) → ((a : Live) (bs : List ℕ) (n : ℕ) → p (record a { owned = bs; ticks = n }) ≡ p a) → (k : Key) (owned : List ℕ) (t : ℕ) (xs : List Live) → length (filter p (map (anew k owned t) xs)) ≡ length (filter p xs)
anew_count p g k owned t xs = ap length (filter_map_same p (anew k owned t) (anew_keeps p g k owned t) xs) ∙ length_map (anew k owned t) (filter p xs)

pub asks_changed : (k : Key) (owned : List ℕ) (xs new : List Live) (es : List Entry) (n l o t end most : ℕ) → HoldsAsks xs es n l o t end → new ≡ map (anew k owned t) xs → AllByRecursion (EndsBy most) new → HoldsAsks new es n l o t most
asks_changed k owned xs new es n l o t end most h is ends = subst (λ (x : List Live). HoldsAsks x es n l o t most) (sym is) (record {
  rising = rising_keys xs (map (anew k owned t) xs) (sym (map_twice ask_key (anew k owned t) xs ∙ map_same (λ a. ask_key (anew k owned t a)) ask_key (anew_keeps ask_key (λ a bs m. refl) k owned t) xs)) h.rising;
  index = h.index ∙ ap (λ (x : List Entry). sorted stands_before x) (sym (map_twice ask_entry (anew k owned t) xs ∙ map_same (λ a. ask_entry (anew k owned t a)) ask_entry (anew_keeps ask_entry (λ a bs m. refl) k owned t) xs));
  count = h.count ∙ sym (anew_count is_plain_ask (λ a bs m. refl) k owned t xs);
  list_count = h.list_count ∙ sym (anew_count is_list_ask (λ a bs m. refl) k owned t xs);
  begun = all_map (BeganWithin o t) (anew k owned t) within xs h.begun;
  order = h.order;
  ends = subst (λ (x : List Live). AllByRecursion (EndsBy most) x) is ends;
}) where
  within : (a : Live) → BeganWithin o t a → BeganWithin o t (anew k owned t a)
  within a g = one (same_key k a.ask.key) where
    one : (b : Bool) → BeganWithin o t (cond b (record a { owned = owned; ticks = t }) a)
    one true = (h.order, omega arith)
    one false = g

pub changed_aged : (k : Key) (owned : List ℕ) (t : ℕ) (xs new vs : List Live) → new ≡ map (anew k owned t) xs → map (aged_at t) xs ≡ vs → map (aged_at t) new ≡ map (anew k owned 0) vs
changed_aged k owned t xs new vs is v =
    ap (map (aged_at t)) is ∙ map_twice (aged_at t) (anew k owned t) xs ∙ map_same (λ a. aged_at t (anew k owned t a)) (λ a. anew k owned 0 (aged_at t a)) each xs
    ∙ sym (map_twice (anew k owned 0) (aged_at t) xs) ∙ ap (map (anew k owned 0)) v
  where
    none : (n : ℕ) → n - n ≡ 0
    none n = omega arith

    each : (a : Live) → aged_at t (anew k owned t a) ≡ anew k owned 0 (aged_at t a)
    each a = one (same_key k a.ask.key) where
      one : (b : Bool) → aged_at t (cond b (record a { owned = owned; ticks = t }) a) ≡ cond b (record a { owned = owned; ticks = 0 }) (aged_at t a)
      one true = ap (λ n. record a { owned = owned; ticks = n }) (none t)
      one false = refl
