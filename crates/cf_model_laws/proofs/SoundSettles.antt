-- The ask rule keeps live asks right.
use Rattle.std.proofs.Common.{◌≡◌, ◌⊎◌, ◌<◌, ◌≤◌, ◌+◌, ◌-◌, ◌*◌, ◌/◌, ℕ, zero, suc, Bool, true, false, List, [], ◌∷◌, ◌++◌, refl, sym, ◌∙◌, ap, subst, inl, inr, arith, length, max, min}
use Rattle.std.specs.Prelude.{Option, Some, None, is_some, map, filter, cond, not, take, drop, ◌&&◌, ◌||◌, ◌==◌}
use Rattle.std.specs.List.{list_all, list_any}
use Rattle.std.proofs.lemmas.Bool.{eqb-true}
use Rattle.cf_base.specs.declared.ids.ItemId.{ItemId}
use Rattle.cf_base.specs.declared.ids.Key.{Key}
use Rattle.cf_base.specs.declared.waits.Cause.{Cause}
use Rattle.cf_model.specs.Asks.{after_deed, ask_of_run, dehydrate_ask, dehydrate_asks, is_wanted, left_of, list_ask, list_asks, new_asks, open_blocks, released, runs_of, why, with_keys}
use Rattle.cf_model.specs.Items.{Item, item_of}
use Rattle.cf_model.specs.Missing.{View, Wait, absent_flags, any_between, lacking, misses_block, needed, view_of}
use Rattle.cf_model.specs.Numbers.{same_key}
use Rattle.cf_model.specs.Requests.{Cancels, Closes, Deed, Expires, Fails, Finishes, Leaves, Live, Nothing, Restarts, has_block, is_dehydrate_wait, is_fetch}
use Rattle.cf_model.specs.Settling.{no_view, view_at}
use Rattle.cf_model.specs.Soundness.{Each}
use Rattle.cf_model.specs.State.{Filter}
use Rattle.cf_model.specs.Words.{counting, when}
use Rattle.cf_model_laws.specs.GivenOnce.{WasGiven}
use Rattle.cf_model_laws.specs.Invariant.{All, InOrder, Lacks, waits_on}
use Rattle.cf_model_laws.proofs.Gathered.{all_any, all_append, all_map, all_passed, all_weaker}
use Rattle.cf_model_laws.proofs.RightItems.{no_way}

-- Bools

pub left_true : (a b : Bool) → (a && b) ≡ true → a ≡ true
left_true true b h = refl
left_true false b h = h

pub right_true : (a b : Bool) → (a && b) ≡ true → b ≡ true
right_true true b h = h
right_true false b h = cc

pub not_false : (a : Bool) → not a ≡ false → a ≡ true
not_false true h = refl
not_false false h = cc

pub not_true : (a : Bool) → not a ≡ true → a ≡ false
not_true true h = cc
not_true false h = refl

pub neither : (a b : Bool) → (a || b) ≡ false → b ≡ false
neither true b h = cc
neither false b h = h

or_left : (a b : Bool) → a ≡ true → (a || b) ≡ true
or_left true b h = refl
or_left false b h = cc

pub or_right : (a b : Bool) → b ≡ true → (a || b) ≡ true
or_right true b h = refl
or_right false b h = h

or_cases : (a b : Bool) → (a || b) ≡ true → (a ≡ true) ⊎ (b ≡ true)
or_cases true b h = inl refl
or_cases false b h = inr h

-- some of a list

any_of : {A : Type 0} (f : A → Bool) (C : Type 0) → (xs : List A) → ((x : A) → f x ≡ true → C) → list_any f xs ≡ true → C
any_of f C [] k h = no_way h
any_of f C (x ∷ xs) k h = elim (or_cases (f x) (list_any f xs) h) as (λ _. C) [ inl e ↦ k x e | inr e ↦ any_of f C xs k e ]

any_weaker : {A : Type 0} (f g : A → Bool) → ((x : A) → f x ≡ true → g x ≡ true) → (xs : List A) → list_any f xs ≡ true → list_any g xs ≡ true
any_weaker f g k [] h = h
any_weaker f g k (x ∷ xs) h = elim (or_cases (f x) (list_any f xs) h) as (λ _. (g x || list_any g xs) ≡ true) [ inl e ↦ or_left (g x) (list_any g xs) (k x e) | inr e ↦ or_right (g x) (list_any g xs) (any_weaker f g k xs e) ]

pub any_longer : {A : Type 0} (f : A → Bool) (xs ys : List A) → list_any f xs ≡ true → list_any f (xs ++ ys) ≡ true
any_longer f [] ys h = no_way h
any_longer f (x ∷ xs) ys h = elim (or_cases (f x) (list_any f xs) h) as (λ _. (f x || list_any f (xs ++ ys)) ≡ true) [ inl e ↦ or_left (f x) (list_any f (xs ++ ys)) e | inr e ↦ or_right (f x) (list_any f (xs ++ ys)) (any_longer f xs ys e) ]

any_drop : (n : ℕ) (bs : List Bool) → list_any (λ b. b) (drop n bs) ≡ true → list_any (λ b. b) bs ≡ true
any_drop zero bs h = h
any_drop (suc n) [] h = h
any_drop (suc n) (b ∷ bs) h = or_right b (list_any (λ b. b) bs) (any_drop n bs h)

any_take : (n : ℕ) (bs : List Bool) → list_any (λ b. b) (take n bs) ≡ true → list_any (λ b. b) bs ≡ true
any_take zero bs h = no_way h
any_take (suc n) [] h = h
any_take (suc n) (b ∷ bs) h = elim (or_cases b (list_any (λ b. b) (take n bs)) h) as (λ _. (b || list_any (λ b. b) bs) ≡ true) [ inl e ↦ or_left b (list_any (λ b. b) bs) e | inr e ↦ or_right b (list_any (λ b. b) bs) (any_take n bs e) ]

any_slice : (bs : List Bool) (start end : ℕ) → any_between bs start end ≡ true → list_any (λ b. b) bs ≡ true
any_slice bs start end h = any_drop start bs (any_take (end - start) (drop start bs) h)

absent_lacks : (hs : List (Option ℕ)) → list_any (λ b. b) (map (λ h. not (is_some h)) hs) ≡ true → list_all is_some hs ≡ false
absent_lacks [] h = no_way h
absent_lacks (x ∷ hs) h = by (is_some x) (absent_lacks hs) h where
  by : (b : Bool) → (list_any (λ b. b) (map (λ h. not (is_some h)) hs) ≡ true → list_all is_some hs ≡ false) → (not b || list_any (λ b. b) (map (λ h. not (is_some h)) hs)) ≡ true → (b && list_all is_some hs) ≡ false
  by true k e = k e
  by false k e = refl

-- ids

abbrev item_at : ℕ → ItemId
item_at n = record { 0 = n }

pub same_item : (a b : ItemId) → a.0 ≡ b.0 → a ≡ b
same_item a b e = ap item_at e

pub each_past : (id : ItemId) (P : Item → Type 0) (low next : ℕ) (items : List Item) → id.0 ≤ low → InOrder low next items → Each id P items
each_past id P low next [] small h = tt
each_past id P low next (i ∷ is) small h =
    (λ e. absurd (apart i.id.0 id.0 low h.0 small (eqb-true i.id.0 id.0 e)), each_past id P i.id.0 next is (more id.0 low i.id.0 small h.0) h.1) where
      apart : (a b c : ℕ) → c < a → b ≤ c → a ≡ b → ⊥
      apart a b c h k e = omega (arith, h, k, e)

      more : (a b c : ℕ) → a ≤ b → b < c → a ≤ c
      more a b c h k = omega (arith, h, k)

-- what holds of the item that is found holds of each of that id
pub each_found : (id : ItemId) (P : Item → Type 0) (low next : ℕ) (items : List Item) (i : Item) → InOrder low next items → item_of items id ≡ Some i → P i → Each id P items
each_found id P low next [] i h e p = tt
each_found id P low next (j ∷ js) i h e p = by (j.id.0 == id.0) refl e (λ k. each_found id P j.id.0 next js i h.1 k p) where
  same : (a b : ℕ) → a ≡ b → b ≤ a
  same a b e = omega (arith, e)

  by : (b : Bool) → (j.id.0 == id.0) ≡ b → cond b (Some j) (item_of js id) ≡ Some i → (item_of js id ≡ Some i → Each id P js) → Each id P (j ∷ js)
  by true q e g = let z : i ≡ j = cc in (λ _. subst P z p, each_past id P j.id.0 next js (same j.id.0 id.0 (eqb-true j.id.0 id.0 q)) h.1)
  by false q e g = (λ k. no_way (sym q ∙ k), g e)

pub found_below : (id : ItemId) (low next : ℕ) (items : List Item) (i : Item) → InOrder low next items → item_of items id ≡ Some i → id.0 < next
found_below id low next [] i h e = cc
found_below id low next (j ∷ js) i h e = by (j.id.0 == id.0) refl e (found_below id j.id.0 next js i h.1) where
  under : (low next : ℕ) (items : List Item) → InOrder low next items → low < next
  under low next [] h = h
  under low next (i ∷ is) h = let z : low < i.id.0 = h.0 in let y : i.id.0 < next = under i.id.0 next is h.1 in let w : low < next = omega (arith, z, y) in w

  by : (b : Bool) → (j.id.0 == id.0) ≡ b → cond b (Some j) (item_of js id) ≡ Some i → (item_of js id ≡ Some i → id.0 < next) → id.0 < next
  by true q e g = let z : j.id.0 ≡ id.0 = eqb-true j.id.0 id.0 q in let y : j.id.0 < next = under j.id.0 next js h.1 in omega (arith, z, y)
  by false q e g = g e

-- what a wait that misses a byte of a block tells of its file

pub record Wanted (next : ℕ) (items : List Item) (ws : List Wait) (item : ItemId) : Type 0 where
  pub lacks : Lacks item items
  pub waited : waits_on item ws ≡ true
  pub below : item.0 < next

wanted_lacks : (x : Filter) (item : ItemId) → x.policy.validate ≡ false → InOrder 0 x.volume.next_item.0 x.volume.items → list_any (λ b. b) (view_at x item).lacks ≡ true
    → Lacks item x.volume.items × (item.0 < x.volume.next_item.0)
wanted_lacks x item plain order h = by (item_of x.volume.items item) refl h where
  flags : (v : Bool) (i : Item) → v ≡ false → list_any (λ b. b) (lacking v i) ≡ true → list_any (λ b. b) (absent_flags i) ≡ true
  flags true i e k = cc
  flags false i e k = k

  by : (o : Option Item) → item_of x.volume.items item ≡ o → list_any (λ b. b) (elim o as (λ _. View) [ None ↦ no_view | Some i ↦ view_of x.policy i ]).lacks ≡ true → Lacks item x.volume.items × (item.0 < x.volume.next_item.0)
  by None e k = no_way k
  by (Some i) e k = (each_found item (λ i. list_all is_some i.held ≡ false) 0 x.volume.next_item.0 x.volume.items i order e (absent_lacks i.held (flags x.policy.validate i plain k)), found_below item 0 x.volume.next_item.0 x.volume.items i order e)

pub wanted_by : (x : Filter) (item : ItemId) (ws : List Wait) (b : ℕ) → x.policy.validate ≡ false → InOrder 0 x.volume.next_item.0 x.volume.items → is_wanted item (view_at x item) ws b ≡ true → Wanted x.volume.next_item.0 x.volume.items ws item
wanted_by x item ws b plain order h =
    let v : View = view_at x item in
    let facts : Lacks item x.volume.items × (item.0 < x.volume.next_item.0) =
    any_of (λ w. (w.item.0 == item.0) && misses_block v w b) (Lacks item x.volume.items × (item.0 < x.volume.next_item.0)) ws
    (λ w e. wanted_lacks x item plain order (any_slice v.lacks (max (needed v w).start (4096 * b)) (min ((needed v w).start + (needed v w).len) (4096 * b + 4096)) (right_true (w.item.0 == item.0) (misses_block v w b) e))) h in
    record { lacks = facts.0; waited = any_weaker (λ w. (w.item.0 == item.0) && misses_block v w b) (λ w. w.item.0 == item.0) (λ w e. left_true (w.item.0 == item.0) (misses_block v w b) e) ws h; below = facts.1 }

-- waits of other items stay

pub stays_waiting : (item : ItemId) (f : Wait → Option Cause) (at : ItemId) → ((w : Wait) → (w.item.0 == item.0) ≡ false → f w ≡ None) → (at.0 == item.0) ≡ false → (ws : List Wait) → waits_on at ws ≡ true → waits_on at (left_of f ws) ≡ true
stays_waiting item f at k apart [] h = h
stays_waiting item f at k apart (w ∷ ws) h = by (f w) (w.item.0 == at.0) refl refl h (stays_waiting item f at k apart ws) where
  other : (a b c : ℕ) → (a == b) ≡ true → (b == c) ≡ false → (a == c) ≡ false
  other a b c h k = subst (λ (n : ℕ). (n == c) ≡ false) (sym (eqb-true a b h)) k

  none_some : (c : Cause) → ◌≡◌ {A = Option Cause} (Some c) None → ⊥
  none_some c e = cc

  by : (o : Option Cause) (b : Bool) → f w ≡ o → (w.item.0 == at.0) ≡ b → (b || waits_on at ws) ≡ true → (waits_on at ws ≡ true → waits_on at (left_of f ws) ≡ true)
      → waits_on at (cond (not (is_some o)) (w ∷ left_of f ws) (left_of f ws)) ≡ true
  by None true e q h g = rw q refl
  by None false e q h g = rw q (g h)
  by (Some c) true e q h g = absurd (none_some c (sym e ∙ k w (other w.item.0 at.0 item.0 q apart)))
  by (Some c) false e q h g = g h

pub no_cause : (item : ItemId) (v : View) (d : Deed) (asks : List Live) (w : Wait) → (w.item.0 == item.0) ≡ false → why item v d asks w ≡ None
no_cause item v d asks w e = rw e refl

-- deeds leave what an ask is

released_ask : (key : Key) (blocks : List ℕ) (a : Live) → (released key blocks a).ask ≡ a.ask
released_ask key blocks a = by (same_key a.ask.key key) where
  by : (b : Bool) → (cond b (record a { owned = filter (λ c. not (has_block blocks c)) a.owned; ticks = 0 }) a).ask ≡ a.ask
  by true = refl
  by false = refl

pub deed_ask : (d : Deed) (a : Live) → (after_deed d a).ask ≡ a.ask
deed_ask Nothing a = refl
deed_ask (Leaves key blocks) a = released_ask key blocks a
deed_ask (Fails key blocks c) a = released_ask key blocks a
deed_ask (Cancels id) a = refl
deed_ask (Closes handle last) a = refl
deed_ask Restarts a = refl
deed_ask (Expires key) a = refl
deed_ask (Finishes key c) a = refl

-- new keys

abbrev pub IsNew : ℕ → ℕ → Key → Type 0
IsNew epoch n k = (k.epoch ≡ epoch) × (n < k.number)

pub new_apart : (epoch n : ℕ) (k g : Key) → IsNew epoch n k → WasGiven epoch n g → same_key k g ≡ true → ⊥
new_apart epoch n k g new given e = by given where
  epochs : k.epoch ≡ g.epoch
  epochs = eqb-true k.epoch g.epoch (left_true (k.epoch == g.epoch) (k.number == g.number) e)

  numbers : k.number ≡ g.number
  numbers = eqb-true k.number g.number (right_true (k.epoch == g.epoch) (k.number == g.number) e)

  by : WasGiven epoch n g → ⊥
  by (inl h) = let a : k.epoch ≡ epoch = new.0 in let b : k.epoch ≡ g.epoch = epochs in omega (arith, h, a, b)
  by (inr h) = let a : n < k.number = new.1 in let b : k.number ≡ g.number = numbers in let c : g.number ≤ n = h.1 in omega (arith, a, b, c)

-- of an ask that is made: its item, its key, and of a fetch what is wanted
pub record Made (next : ℕ) (items : List Item) (ws : List Wait) (item : ItemId) (epoch n last : ℕ) (a : Live) : Type 0 where
  pub about : a.ask.item.0 ≡ item.0
  pub key : IsNew epoch n a.ask.key
  pub upto : a.ask.key.number ≤ last
  pub wanted : is_fetch a.ask.kind ≡ true → Wanted next items ws item

abbrev Asked : ℕ → List Item → List Wait → ItemId → Live → Type 0
Asked next items ws item a = (a.ask.item.0 ≡ item.0) × (is_fetch a.ask.kind ≡ true → Wanted next items ws item)

pub keys_made : (next : ℕ) (items : List Item) (ws : List Wait) (item : ItemId) (epoch n : ℕ) (asks : List Live) → All (Asked next items ws item) asks → All (Made next items ws item epoch n (n + length asks)) (with_keys epoch n asks)
keys_made next items ws item epoch n [] h = tt
keys_made next items ws item epoch n (a ∷ as') h = (
  record { about = h.0.0; key = (refl, one n); upto = two n (length as'); wanted = h.0.1 },
  all_weaker (Made next items ws item epoch (n + 1) (n + 1 + length as')) (Made next items ws item epoch n (n + suc (length as')))
      (λ b k. record { about = k.about; key = (k.key.0, three n b.ask.key.number k.key.1); upto = four n (length as') b.ask.key.number k.upto; wanted = k.wanted }) (with_keys epoch (n + 1) as')
      (keys_made next items ws item epoch (n + 1) as' h.1),
) where
  one : (n : ℕ) → n < n + 1
  one n = omega arith

  two : (n m : ℕ) → n + 1 ≤ n + suc m
  two n m = omega arith

  three : (n k : ℕ) → n + 1 < k → n < k
  three n k h = omega (arith, h)

  four : (n m k : ℕ) → k ≤ n + 1 + m → k ≤ n + suc m
  four n m k h = omega (arith, h)

asked_runs : (x : Filter) (item : ItemId) (ws : List Wait) (asks : List Live) → x.policy.validate ≡ false → InOrder 0 x.volume.next_item.0 x.volume.items
    → All (Asked x.volume.next_item.0 x.volume.items ws item) (map (ask_of_run item (view_at x item).base) (runs_of (view_at x item) (open_blocks item (view_at x item) ws asks)))
asked_runs x item ws asks plain order =
    by (open_blocks item (view_at x item) ws asks)
    (all_passed (λ b. Unit {0}) (λ b. is_wanted item (view_at x item) ws b ≡ true) (λ b. is_wanted item (view_at x item) ws b && not _) (λ b e _. left_true (is_wanted item (view_at x item) ws b) _ e)
    (counting 0 ((length (view_at x item).lacks + 4095) / 4096)) (all_any (λ b. Unit {0}) (λ b. tt) (counting 0 ((length (view_at x item).lacks + 4095) / 4096)))) where
      by : (bs : List ℕ) → All (λ b. is_wanted item (view_at x item) ws b ≡ true) bs → All (Asked x.volume.next_item.0 x.volume.items ws item) (map (ask_of_run item (view_at x item).base) (runs_of (view_at x item) bs))
      by [] h = tt
      by (b ∷ bs) h =
          all_map (λ r. Unit {0}) (Asked x.volume.next_item.0 x.volume.items ws item) (ask_of_run item (view_at x item).base) (λ r _. (refl, λ _. wanted_by x item ws b plain order h.0)) (runs_of (view_at x item) (b ∷ bs))
          (all_any (λ r. Unit {0}) (λ r. tt) (runs_of (view_at x item) (b ∷ bs)))

asked_list : (next : ℕ) (items : List Item) (ws : List Wait) (item : ItemId) (b : Bool) → All (Asked next items ws item) (when b (list_ask item ∷ []))
asked_list next items ws item true = ((refl, λ e. no_way e), tt)
asked_list next items ws item false = tt

asked_dehydrations : (next : ℕ) (items : List Item) (ws vs : List Wait) (item : ItemId) (asks : List Live) → All (Asked next items ws item) (dehydrate_asks item vs asks)
asked_dehydrations next items ws vs item asks =
    all_map (λ w. w.item.0 ≡ item.0) (Asked next items ws item) dehydrate_ask (λ w e. (e, λ k. no_way k)) (filter _ vs)
    (all_passed (λ w. Unit {0}) (λ w. w.item.0 ≡ item.0) (λ w. (w.item.0 == item.0) && is_dehydrate_wait w.kind && not _)
    (λ w e _. eqb-true w.item.0 item.0 (left_true (w.item.0 == item.0) (is_dehydrate_wait w.kind) (left_true ((w.item.0 == item.0) && is_dehydrate_wait w.kind) _ e))) vs (all_any (λ w. Unit {0}) (λ w. tt) vs))

pub new_asked : (x : Filter) (item : ItemId) (ws : List Wait) (asks : List Live) → x.policy.validate ≡ false → InOrder 0 x.volume.next_item.0 x.volume.items
    → All (Asked x.volume.next_item.0 x.volume.items ws item) (new_asks item (view_at x item) ws asks)
new_asked x item ws asks plain order =
    all_append (Asked x.volume.next_item.0 x.volume.items ws item) (map (ask_of_run item (view_at x item).base) (runs_of (view_at x item) (open_blocks item (view_at x item) ws asks)) ++ list_asks item ws asks) (dehydrate_asks item ws asks)
    (all_append (Asked x.volume.next_item.0 x.volume.items ws item) (map (ask_of_run item (view_at x item).base) (runs_of (view_at x item) (open_blocks item (view_at x item) ws asks))) (list_asks item ws asks)
    (asked_runs x item ws asks plain order) (asked_list x.volume.next_item.0 x.volume.items ws item _))
    (asked_dehydrations x.volume.next_item.0 x.volume.items ws ws item asks)
