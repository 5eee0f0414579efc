-- After a step no block of an item has two owners.
use Rattle.std.proofs.Common.{◌≡◌, ℕ, zero, suc, ◌+◌, ◌/◌, ◌<◌, ◌≤◌, Bool, true, false, ◌&&◌, ◌||◌, not, cond, List, [], ◌∷◌, ◌++◌, length, refl, sym, ap, subst, ◌∙◌, arith, eqb, eqb-true, eq-eqb, ◌⊎◌, ◌≢◌, inl, inr}
use Rattle.std.specs.Prelude.{filter, map, Option}
use Rattle.std.specs.Bool.{beq}
use Rattle.std.specs.List.{list_any}
use Rattle.std.proofs.lemmas.Bool.Decides.{eqb_tells, nat_tests}
use Rattle.cf_base.specs.declared.ids.ItemId.{ItemId}
use Rattle.cf_base.specs.declared.ids.Key.{Key}
use Rattle.cf_base.specs.declared.waits.Cause.{Cause}
use Rattle.cf_model.specs.Missing.{View, Wait}
use Rattle.cf_model.specs.Numbers.{same_key}
use Rattle.cf_model.specs.Requests.{Cancels, Closes, Deed, Expires, Fails, Finishes, Leaves, Live, Nothing, Restarts, Waiting, has_block, is_dehydrate_wait, is_list, is_list_wait}
use Rattle.cf_model.specs.Asks.{Run, after_deed, ask_of_run, dehydrate_ask, dehydrate_asks, is_cancelled, is_fetched, is_over, is_owned, is_wanted, list_ask, list_asks, new_asks, open_blocks, released, runs_of, runs_on, settled_with, with_keys}
use Rattle.cf_model.specs.Words.{counting, when}
use Rattle.cf_ask_rule.proofs.Places.{has_filter}
use Rattle.cf_ask_rule.proofs.Runs.{counting_push}
use Rattle.cf_ask_rule.specs.Deeds.{after}
use Rattle.cf_ask_rule.specs.Owners.{owners}

-- numbers

both_zero : (x y : ℕ) → x ≡ 0 → y ≡ 0 → x + y ≡ 0
both_zero x y h k = omega arith

both_less : (a b c d : ℕ) → a ≤ b → c ≤ d → a + c ≤ b + d
both_less a b c d h k = omega arith

more_less : (x y z : ℕ) → y ≤ z → y ≤ x + z
more_less x y z h = omega arith

same_less : (x : ℕ) → x ≤ x
same_less x = omega arith

then_less : (x y z : ℕ) → x ≤ y → y ≤ z → x ≤ z
then_less x y z h k = omega arith

is_less : (x y : ℕ) → x ≡ y → x ≤ y
is_less x y h = omega arith

zero_less : (x : ℕ) → 0 ≤ x
zero_less x = omega arith

one_more : (x : ℕ) → 1 ≤ 1 + x
one_more x = omega arith

left_none : (x y z : ℕ) → x ≡ 0 → y ≤ z → x + y ≤ z
left_none x y z h k = omega arith

right_none : (x y : ℕ) → x ≤ 1 → y ≡ 0 → x + y ≤ 1
right_none x y h k = omega arith

first_few : (k m n : ℕ) → k ≤ n → n ≤ 1 → m ≤ 0 → k + m ≤ 1
first_few k m n h l g = omega arith

last_few : (k m : ℕ) → k ≡ 0 → m ≤ 1 → k + m ≤ 1
last_few k m h g = omega arith

-- one if it is so

abbrev so : Bool → ℕ
so b = cond b 1 0

so_small : (b : Bool) → so b ≤ 1
so_small true = same_less 1
so_small false = zero_less 1

so_false : (b : Bool) → b ≡ false → so b ≡ 0
so_false b h = ap so h

left_false : (a b : Bool) → (a || b) ≡ false → a ≡ false
left_false true b h = h
left_false false b h = refl

right_false : (a b : Bool) → (a || b) ≡ false → b ≡ false
right_false true b h = let z : true ≡ false = h in cc
right_false false b h = h

and_false : (a : Bool) → (a && false) ≡ false
and_false true = refl
and_false false = refl

and_left : (a b : Bool) → (a && b) ≡ true → a ≡ true
and_left true b h = refl
and_left false b h = h

abbrev part : ItemId → ℕ → Live → ℕ
part item b a = so ((eqb a.ask.item.0 item.0) && has_block a.owned b)

-- owners of lists

owners_append : (item : ItemId) (b : ℕ) (xs ys : List Live) → owners item b (xs ++ ys) ≡ owners item b xs + owners item b ys
owners_append item b [] ys = none (owners item b ys) where
  none : (n : ℕ) → n ≡ 0 + n
  none n = omega arith
owners_append item b (x ∷ xs) ys = ap (λ n. part item b x + n) (owners_append item b xs ys) ∙ sum (part item b x) (owners item b xs) (owners item b ys) where
  sum : (p q r : ℕ) → p + (q + r) ≡ p + q + r
  sum p q r = omega arith

owners_keyed : (item : ItemId) (b epoch n : ℕ) (asks : List Live) → owners item b (with_keys epoch n asks) ≡ owners item b asks
owners_keyed item b epoch n [] = refl
owners_keyed item b epoch n (a ∷ asks) = ap (λ k. part item b a + k) (owners_keyed item b epoch (n + 1) asks)

owners_filter : (item : ItemId) (b : ℕ) (p : Live → Bool) (asks : List Live) → owners item b (filter p asks) ≤ owners item b asks
owners_filter item b p [] = same_less 0
owners_filter item b p (a ∷ asks) = one (p a) (owners_filter item b p asks) where
  one : (c : Bool) → owners item b (filter p asks) ≤ owners item b asks → owners item b (cond c (a ∷ filter p asks) (filter p asks)) ≤ part item b a + owners item b asks
  one true h = both_less (part item b a) (part item b a) _ _ (same_less (part item b a)) h
  one false h = more_less (part item b a) _ _ h

owners_none : (item : ItemId) (b : ℕ) (asks : List Live) → is_owned item asks b ≡ false → owners item b asks ≡ 0
owners_none item b [] h = refl
owners_none item b (a ∷ asks) h =
    both_zero (part item b a) (owners item b asks) (so_false ((eqb a.ask.item.0 item.0) && has_block a.owned b) (left_false ((eqb a.ask.item.0 item.0) && has_block a.owned b) (is_owned item asks b) h))
    (owners_none item b asks (right_false ((eqb a.ask.item.0 item.0) && has_block a.owned b) (is_owned item asks b) h))

pub owners_some : (item : ItemId) (b : ℕ) (asks : List Live) → is_owned item asks b ≡ true → 1 ≤ owners item b asks
owners_some item b [] h = let z : false ≡ true = h in cc
owners_some item b (a ∷ asks) h = one ((eqb a.ask.item.0 item.0) && has_block a.owned b) (is_owned item asks b) (owners item b asks) h (owners_some item b asks) where
  one : (c d : Bool) (n : ℕ) → (c || d) ≡ true → (d ≡ true → 1 ≤ n) → 1 ≤ so c + n
  one true d n h f = one_more n
  one false d n h f = more_less 0 1 n (f h)

-- a deed adds no owner

fewer : (e h p : Bool) → so (e && (h && p)) ≤ so (e && h)
fewer true true true = same_less 1
fewer true true false = zero_less 1
fewer true false p = same_less 0
fewer false h p = same_less 0

less_released : (item : ItemId) (b : ℕ) (key : Key) (blocks : List ℕ) (a : Live) → part item b (released key blocks a) ≤ part item b a
less_released item b key blocks a = one (same_key a.ask.key key) where
  one : (c : Bool) → part item b (cond c (record a { owned = filter (λ b. not (has_block blocks b)) a.owned; ticks = 0 }) a) ≤ part item b a
  one true = subst (λ (x : Bool). so ((eqb a.ask.item.0 item.0) && x) ≤ part item b a) (sym (has_filter (λ b. not (has_block blocks b)) b a.owned)) (fewer (eqb a.ask.item.0 item.0) (has_block a.owned b) (not (has_block blocks b)))
  one false = same_less (part item b a)

less_after : (item : ItemId) (b : ℕ) (d : Deed) (a : Live) → part item b (after_deed d a) ≤ part item b a
less_after item b Nothing a = same_less (part item b a)
less_after item b (Leaves key blocks) a = less_released item b key blocks a
less_after item b (Fails key blocks c) a = less_released item b key blocks a
less_after item b (Cancels id) a = same_less (part item b a)
less_after item b (Closes handle last) a = same_less (part item b a)
less_after item b Restarts a = same_less (part item b a)
less_after item b (Expires key) a = same_less (part item b a)
less_after item b (Finishes key c) a = same_less (part item b a)

owners_map : (item : ItemId) (b : ℕ) (d : Deed) (asks : List Live) → owners item b (map (after_deed d) asks) ≤ owners item b asks
owners_map item b d [] = same_less 0
owners_map item b d (a ∷ asks) = both_less (part item b (after_deed d a)) (part item b a) (owners item b (map (after_deed d) asks)) (owners item b asks) (less_after item b d a) (owners_map item b d asks)

owners_after : (item : ItemId) (b : ℕ) (d : Deed) (asks : List Live) → owners item b (after d asks) ≤ owners item b asks
owners_after item b d asks = then_less (owners item b (after d asks)) (owners item b (map (after_deed d) asks)) (owners item b asks) (owners_filter item b (λ a. not (is_over d a)) (map (after_deed d) asks)) (owners_map item b d asks)

-- how often a block stands in a list

abbrev times : ℕ → List ℕ → ℕ
times b [] = 0
times b (c ∷ cs) = so (eqb c b) + times b cs

times_append : (b : ℕ) (xs ys : List ℕ) → times b (xs ++ ys) ≡ times b xs + times b ys
times_append b [] ys = none (times b ys) where
  none : (n : ℕ) → n ≡ 0 + n
  none n = omega arith
times_append b (x ∷ xs) ys = ap (λ n. so (eqb x b) + n) (times_append b xs ys) ∙ sum (so (eqb x b)) (times b xs) (times b ys) where
  sum : (p q r : ℕ) → p + (q + r) ≡ p + q + r
  sum p q r = omega arith

has_times : (b : ℕ) (xs : List ℕ) → so (has_block xs b) ≤ times b xs
has_times b [] = same_less 0
has_times b (x ∷ xs) = one (eqb x b) (has_block xs b) (times b xs) (has_times b xs) where
  one : (c d : Bool) (n : ℕ) → so d ≤ n → so (c || d) ≤ so c + n
  one true d n h = one_more n
  one false d n h = more_less 0 (so d) n h

times_below : (p : ℕ → Bool) (b i n : ℕ) → b < i → times b (filter p (counting i n)) ≡ 0
times_below p b i zero l = refl
times_below p b i (suc n) l = one (p i) (times_below p b (i + 1) n (omega arith)) where
  apart : (i b : ℕ) → b < i → eqb i b ≡ false
  apart i b l = grind (arith, nat_tests)

  one : (c : Bool) → times b (filter p (counting (i + 1) n)) ≡ 0 → times b (cond c (i ∷ filter p (counting (i + 1) n)) (filter p (counting (i + 1) n))) ≡ 0
  one true h = both_zero (so (eqb i b)) (times b (filter p (counting (i + 1) n))) (so_false (eqb i b) (apart i b l)) h
  one false h = h

times_once : (p : ℕ → Bool) (b i n : ℕ) → times b (filter p (counting i n)) ≤ so (p b)
times_once p b i zero = zero_less (so (p b))
times_once p b i (suc n) = split (eqb_tells i b) (times_once p b (i + 1) n) where
  here : (c : Bool) → p b ≡ c → times b (filter p (counting (i + 1) n)) ≡ 0 → times b (cond c (i ∷ filter p (counting (i + 1) n)) (filter p (counting (i + 1) n))) ≤ so c
  here true e z = right_none (so (eqb i b)) (times b (filter p (counting (i + 1) n))) (so_small (eqb i b)) z
  here false e z = is_less (times b (filter p (counting (i + 1) n))) 0 z

  there : (c : Bool) → eqb i b ≡ false → times b (filter p (counting (i + 1) n)) ≤ so (p b) → times b (cond c (i ∷ filter p (counting (i + 1) n)) (filter p (counting (i + 1) n))) ≤ so (p b)
  there true e h = left_none (so (eqb i b)) (times b (filter p (counting (i + 1) n))) (so (p b)) (so_false (eqb i b) e) h
  there false e h = h

  split : ((eqb i b ≡ true) × (i ≡ b)) ⊎ ((eqb i b ≡ false) × (i ≢ b)) → times b (filter p (counting (i + 1) n)) ≤ so (p b) → times b (filter p (counting i (suc n))) ≤ so (p b)
  split (inl e) h = let k : i ≡ b = e.1 in
      subst (λ (c : Bool). times b (cond (p i) (i ∷ filter p (counting (i + 1) n)) (filter p (counting (i + 1) n))) ≤ so c) (ap p k) (here (p i) (sym (ap p k)) (times_below p b (i + 1) n (omega arith)))
  split (inr e) h = there (p i) e.0 h

-- asks of runs own what stands in the list

owns_new : (item : ItemId) (x : Bool) → so (eqb item.0 item.0 && x) ≡ so x
owns_new item x = ap (λ e. so (e && x)) (eq-eqb item.0 item.0 refl)

owns_run : (item : ItemId) (base b : ℕ) (r : Run) → part item b (ask_of_run item base r) ≤ times b (counting r.first r.count)
owns_run item base b r = then_less (part item b (ask_of_run item base r)) (so (has_block (counting r.first r.count) b)) (times b (counting r.first r.count)) (is_less _ _ (owns_new item (has_block (counting r.first r.count) b))) (has_times b (counting r.first r.count))

one_of : (item : ItemId) (base b n : ℕ) (t : Bool) (r : Run) (xs ys : List Run) → (t ≡ true → owners item b (map (ask_of_run item base) xs) ≤ n) → owners item b (map (ask_of_run item base) (r ∷ ys)) ≤ n
    → owners item b (map (ask_of_run item base) (elim t as (λ _. List Run) [ true ↦ xs | false ↦ r ∷ ys ])) ≤ n
one_of item base b n true r xs ys f g = f refl
one_of item base b n false r xs ys f g = g

owners_on : (item : ItemId) (base b : ℕ) (v : View) (bs : List ℕ) (r : Run) → owners item b (map (ask_of_run item base) (runs_on v r bs)) ≤ times b (counting r.first r.count) + times b bs
owners_on item base b v [] r = both_less (part item b (ask_of_run item base r)) (times b (counting r.first r.count)) 0 0 (owns_run item base b r) (same_less 0)
owners_on item base b v (c ∷ cs) r = one_of item base b (times b (counting r.first r.count) + times b (c ∷ cs)) (eqb c (r.first + r.count) && beq (is_fetched v c) r.fetch) r _ _
    (λ e. then_less _ (times b (counting r.first (r.count + 1)) + times b cs) _ (owners_on item base b v cs (record r { count = r.count + 1 }))
    (is_less _ _ (grown (times b (counting r.first (r.count + 1))) (times b (counting r.first r.count)) (so (eqb c b)) (times b cs)
    (ap (times b) (counting_push r.first r.count (r.count + 1) c (omega arith) (eqb-true c (r.first + r.count) (and_left (eqb c (r.first + r.count)) _ e))) ∙ times_append b (counting r.first r.count) (c ∷ [])))))
    (both_less (part item b (ask_of_run item base r)) (times b (counting r.first r.count)) _ _ (owns_run item base b r)
    (then_less _ (times b (counting c 1) + times b cs) _ (owners_on item base b v cs (record { fetch = is_fetched v c; first = c; count = 1 })) (is_less _ _ (alone (so (eqb c b)) (times b cs)))))
  where
    grown : (x y p q : ℕ) → x ≡ y + (p + 0) → x + q ≡ y + (p + q)
    grown x y p q h = omega arith

    alone : (p q : ℕ) → p + 0 + q ≡ p + q
    alone p q = omega arith

owners_runs : (item : ItemId) (base b : ℕ) (v : View) (bs : List ℕ) → owners item b (map (ask_of_run item base) (runs_of v bs)) ≤ times b bs
owners_runs item base b v [] = same_less 0
owners_runs item base b v (c ∷ cs) = then_less _ (times b (counting c 1) + times b cs) _ (owners_on item base b v cs (record { fetch = is_fetched v c; first = c; count = 1 })) (is_less _ _ (alone (so (eqb c b)) (times b cs))) where
  alone : (p q : ℕ) → p + 0 + q ≡ p + q
  alone p q = omega arith

-- other asks own nothing

owns_nothing : (item : ItemId) (e : Bool) → so (e && false) ≡ 0
owns_nothing item e = ap so (and_false e)

no_list_owners : (item other : ItemId) (b : ℕ) (t : Bool) → owners item b (when t (list_ask other ∷ [])) ≡ 0
no_list_owners item other b true = both_zero (part item b (list_ask other)) 0 (owns_nothing item (eqb other.0 item.0)) refl
no_list_owners item other b false = refl

no_dehydrate_owners : (item : ItemId) (b : ℕ) (ws : List Wait) → owners item b (map dehydrate_ask ws) ≡ 0
no_dehydrate_owners item b [] = refl
no_dehydrate_owners item b (w ∷ ws) = both_zero (part item b (dehydrate_ask w)) (owners item b (map dehydrate_ask ws)) (owns_nothing item (eqb w.item.0 item.0)) (no_dehydrate_owners item b ws)

made_of : (item other : ItemId) (b : ℕ) (v : View) (ws : List Wait) (kept : List Live) → owners item b (new_asks other v ws kept) ≡ owners item b (map (ask_of_run other v.base) (runs_of v (open_blocks other v ws kept)))
made_of item other b v ws kept =
    owners_append item b (map (ask_of_run other v.base) (runs_of v (open_blocks other v ws kept)) ++ list_asks other ws kept) (dehydrate_asks other ws kept)
    ∙ ap (λ n. n + owners item b (dehydrate_asks other ws kept)) (owners_append item b (map (ask_of_run other v.base) (runs_of v (open_blocks other v ws kept))) (list_asks other ws kept))
    ∙ nothing (owners item b (map (ask_of_run other v.base) (runs_of v (open_blocks other v ws kept)))) (owners item b (list_asks other ws kept)) (owners item b (dehydrate_asks other ws kept)) (no_list_owners item other b (list_any (λ w. (eqb w.item.0 other.0) && is_list_wait w.kind) ws && not (list_any (λ a. (eqb a.ask.item.0 other.0) && is_list a.ask.kind) kept)))
    (no_dehydrate_owners item b (filter (λ w. (eqb w.item.0 other.0) && is_dehydrate_wait w.kind && not (list_any (λ a. same_key a.wait.0 w.id.0) kept)) ws))
  where
    nothing : (x y z : ℕ) → y ≡ 0 → z ≡ 0 → x + y + z ≡ x
    nothing x y z h k = omega arith

-- asks of another item own nothing of this one
other_runs : (item other : ItemId) (base b : ℕ) (rs : List Run) → eqb other.0 item.0 ≡ false → owners item b (map (ask_of_run other base) rs) ≡ 0
other_runs item other base b [] h = refl
other_runs item other base b (r ∷ rs) h = both_zero (part item b (ask_of_run other base r)) (owners item b (map (ask_of_run other base) rs)) (ap (λ e. so (e && has_block (counting r.first r.count) b)) h) (other_runs item other base b rs h)

-- what is made owns an open block once
made_once : (item other : ItemId) (b : ℕ) (v : View) (ws : List Wait) (kept : List Live) → owners item b (new_asks other v ws kept) ≤ so (not (is_owned item kept b))
made_once item other b v ws kept = split (eqb_tells other.0 item.0) where
  within : (w o : Bool) → so (w && not o) ≤ so (not o)
  within true o = same_less (so (not o))
  within false true = same_less 0
  within false false = zero_less 1

  same : (i : ItemId) → i ≡ item → owners item b (new_asks i v ws kept) ≤ so (not (is_owned item kept b))
  same i e = subst (λ (j : ItemId). owners item b (new_asks j v ws kept) ≤ so (not (is_owned item kept b))) (sym e)
      (then_less _ (owners item b (map (ask_of_run item v.base) (runs_of v (open_blocks item v ws kept)))) _ (is_less _ _ (made_of item item b v ws kept))
      (then_less _ (times b (open_blocks item v ws kept)) _ (owners_runs item v.base b v (open_blocks item v ws kept))
      (then_less _ (so (is_wanted item v ws b && not (is_owned item kept b))) _ (times_once (λ b. is_wanted item v ws b && not (is_owned item kept b)) b 0 ((length v.lacks + 4095) / 4096)) (within (is_wanted item v ws b) (is_owned item kept b)))))

  least : (n m : ℕ) → n ≡ 0 → n ≤ m
  least n m h = omega arith

  split : ((eqb other.0 item.0 ≡ true) × (other.0 ≡ item.0)) ⊎ ((eqb other.0 item.0 ≡ false) × (other.0 ≢ item.0)) → owners item b (new_asks other v ws kept) ≤ so (not (is_owned item kept b))
  split (inl e) = let f : ℕ → ItemId = λ n. record { 0 = n } in same other (ap f e.1)
  split (inr e) = least _ _ (made_of item other b v ws kept ∙ other_runs item other v.base b (runs_of v (open_blocks other v ws kept)) e.0)

at_most : (o : Bool) (k m n : ℕ) → (o ≡ false → k ≡ 0) → k ≤ n → n ≤ 1 → m ≤ so (not o) → k + m ≤ 1
at_most true k m n f h l g = first_few k m n h l g
at_most false k m n f h l g = last_few k m (f refl) g

pub stay_apart : (item other : ItemId) (v : View) (d : Deed) (why : Wait → Option Cause) (s : Waiting) (ws : List Wait) (b : ℕ) → owners item b s.asks ≤ 1 → owners item b ((settled_with other v d why s ws (after d s.asks)).1.asks) ≤ 1
stay_apart item other v d why s ws b h =
    subst (λ (n : ℕ). n ≤ 1)
    (sym (owners_append item b kept (with_keys s.epoch s.key_count (new_asks other v ws kept)) ∙ ap (λ n. owners item b kept + n) (owners_keyed item b s.epoch s.key_count (new_asks other v ws kept))))
    (at_most (is_owned item kept b) (owners item b kept) (owners item b (new_asks other v ws kept)) (owners item b s.asks) (owners_none item b kept)
    (then_less _ (owners item b (after d s.asks)) _ (owners_filter item b (λ a. not (is_cancelled other v d ws a)) (after d s.asks)) (owners_after item b d s.asks)) h (made_once item other b v ws kept))
  where
    kept : List Live
    kept = filter (λ a. not (is_cancelled other v d ws a)) (after d s.asks)

pub just_one : (n : ℕ) → 1 ≤ n → n ≤ 1 → n ≡ 1
just_one n h k = omega arith
