-- What a step changes is all that it does.
use Rattle.std.proofs.Common.{◌≡◌, ℕ, ◌⊎◌, inl, inr, ◌+◌, Bool, true, false, ◌&&◌, ◌||◌, not, cond, Option, Some, None, List, [], ◌∷◌, ◌++◌, length, refl, sym, ap, ◌∙◌, eqb}
use Rattle.std.specs.Prelude.{filter, map}
use Rattle.std.specs.List.{AllByRecursion, list_any}
use Rattle.cf_ask_rule.proofs.Filters.{all_then, find_within}
use Rattle.cf_ask_rule.proofs.Local.{local}
use Rattle.cf_ask_rule.specs.Deeds.{after}
use Rattle.cf_ask_rule.specs.Near.{IsFull, IsLocal, is_near, is_on, named}
use Rattle.cf_ask_rule.specs.Plans.{Outlook, Planned, plan_of}
use Rattle.cf_base.specs.declared.ids.ItemId.{ItemId}
use Rattle.cf_base.specs.declared.ids.Key.{Key}
use Rattle.cf_base.specs.declared.waits.Cause.{Cause}
use Rattle.cf_model.specs.Asks.{after_deed, is_cancelled, is_over, left_of, released, step_of, why, with_keys}
use Rattle.cf_model.specs.Missing.{View, Wait}
use Rattle.cf_model.specs.Numbers.{same_key}
use Rattle.cf_model.specs.Requests.{Cancels, Closes, Deed, Expires, Fails, Finishes, Leaves, Live, Nothing, Restarts, Told, Waiting, has_block, is_data, live_of}
use Rattle.cf_model.specs.Words.{is_empty, says}
use Rattle.cf_waits.proofs.Numbered.{deed_key}
use Rattle.cf_waits.proofs.Rises.{same_itself, same_not}
use Rattle.cf_waits.proofs.Told.{all_zip, filter_both, found_is, left_is, told_is}
use Rattle.cf_waits.specs.Deltas.{changed_of, delta_of, dropped_of, unless_kept}
use Rattle.cf_waits.specs.Rising.{RisesTo, ask_key}
use Rattle.cf_waits.specs.Sound.{IsSound}
use Rattle.cf_waits.specs.Steps.{carried, changed_by, is_gone}

-- An ask is dropped by its key exactly where it is over, and is else what the deed makes of it; or it is dropped, and would be
-- over or cancelled.
abbrev Fits : (Live → Live) → (Live → Live) → (Live → Bool) → (Live → Bool) → (Live → Bool) → Live → Type 0
Fits f r o c t a = ((t a ≡ o (f a)) × (r a ≡ f a)) ⊎ ((t a ≡ true) × ((o (f a) || c (f a)) ≡ true))

kept_by : (f r : Live → Live) (o c g : Live → Bool) (xs : List Live) → AllByRecursion (λ a. (g a ≡ (o (f a) || c (f a))) × (g a ≡ false → r a ≡ f a)) xs
    → filter (λ a. not (c a)) (filter (λ a. not (o a)) (map f xs)) ≡ map r (filter (λ a. not (g a)) xs)
kept_by f r o c g [] h = refl
kept_by f r o c g (a ∷ xs) h = one (o (f a)) (c (f a)) refl h.0.0 (kept_by f r o c g xs h.1) where
  rest : List Live
  rest = filter (λ a. not (o a)) (map f xs)

  one : (p q : Bool) → c (f a) ≡ q → g a ≡ (p || q) → filter (λ a. not (c a)) rest ≡ map r (filter (λ a. not (g a)) xs)
      → filter (λ a. not (c a)) (cond (not p) (f a ∷ rest) rest) ≡ map r (cond (not (g a)) (a ∷ filter (λ a. not (g a)) xs) (filter (λ a. not (g a)) xs))
  one true q e s k = k ∙ ap (λ b. map r (cond (not b) (a ∷ filter (λ a. not (g a)) xs) (filter (λ a. not (g a)) xs))) (sym s)
  one false true e s k =
      ap (λ b. cond (not b) (f a ∷ filter (λ a. not (c a)) rest) (filter (λ a. not (c a)) rest)) e ∙ k
      ∙ ap (λ b. map r (cond (not b) (a ∷ filter (λ a. not (g a)) xs) (filter (λ a. not (g a)) xs))) (sym s)
  one false false e s k =
      ap (λ b. cond (not b) (f a ∷ filter (λ a. not (c a)) rest) (filter (λ a. not (c a)) rest)) e
      ∙ ap (λ v. v ∷ filter (λ a. not (c a)) rest) (sym (h.0.1 s)) ∙ ap (λ v. r a ∷ v) k
      ∙ ap (λ b. map r (cond (not b) (a ∷ filter (λ a. not (g a)) xs) (filter (λ a. not (g a)) xs))) (sym s)

gone_by : (f r : Live → Live) (o c t g : Live → Bool) (a : Live) → g a ≡ ((not (o (f a)) && c (f a)) || t a) → Fits f r o c t a → (g a ≡ (o (f a) || c (f a))) × (g a ≡ false → r a ≡ f a)
gone_by f r o c t g a e (inl h) = (e ∙ ap (λ b. (not (o (f a)) && c (f a)) || b) h.0 ∙ same (o (f a)) (c (f a)), λ z. h.1) where
  same : (p q : Bool) → ((not p && q) || p) ≡ (p || q)
  same true q = refl
  same false true = refl
  same false false = refl
gone_by f r o c t g a e (inr h) = (hit ∙ sym h.1, λ z. no (sym hit ∙ z)) where
  with_true : (b : Bool) → (b || true) ≡ true
  with_true true = refl
  with_true false = refl

  hit : g a ≡ true
  hit = e ∙ ap (λ b. (not (o (f a)) && c (f a)) || b) h.0 ∙ with_true (not (o (f a)) && c (f a))

  no : {X : Type 0} → true ≡ false → X
  no z = cc

kept_is : (f r : Live → Live) (o c t : Live → Bool) → ((a : Live) → (f a).ask.key ≡ a.ask.key) → (epoch low high : ℕ) (xs : List Live) → RisesTo ask_key epoch low high xs → AllByRecursion (Fits f r o c t) xs
    → filter (λ a. not (c a)) (filter (λ a. not (o a)) (map f xs)) ≡ map r (filter (λ a. not (list_any (same_key a.ask.key) (map (λ a. a.ask.key) (filter c (filter (λ a. not (o a)) (map f xs)))) || t a)) xs)
kept_is f r o c t keeps epoch low high xs h fit =
    kept_by f r o c (λ a. list_any (same_key a.ask.key) (map (λ a. a.ask.key) (filter c (filter (λ a. not (o a)) (map f xs)))) || t a) xs
    (all_zip (λ a. list_any (same_key a.ask.key) (map (λ a. a.ask.key) (filter (λ a. not (o a) && c a) (map f xs))) ≡ (not (o (f a)) && c (f a))) (Fits f r o c t)
    (λ a. ((list_any (same_key a.ask.key) (map (λ a. a.ask.key) (filter c (filter (λ a. not (o a)) (map f xs)))) || t a) ≡ (o (f a) || c (f a))) × ((list_any (same_key a.ask.key) (map (λ a. a.ask.key) (filter c (filter (λ a. not (o a)) (map f xs)))) || t a) ≡ false → r a ≡ f a))
    (λ a told k. gone_by f r o c t (λ a. list_any (same_key a.ask.key) (map (λ a. a.ask.key) (filter c (filter (λ a. not (o a)) (map f xs)))) || t a) a
    (ap (λ (ys : List Live). list_any (same_key a.ask.key) (map (λ a. a.ask.key) ys) || t a) (filter_both c (λ a. not (o a)) (map f xs)) ∙ ap (λ b. b || t a) told) k)
    xs (told_is f (λ a. not (o a) && c a) keeps epoch low high xs h) fit)

-- the deeds

or_false : (b : Bool) → (b || false) ≡ b
or_false true = refl
or_false false = refl

live_same : (k : Key) (xs : List Live) (a : Live) → live_of xs k ≡ Some a → same_key a.ask.key k ≡ true
live_same k [] a h = cc
live_same k (x ∷ xs) a h = one (same_key x.ask.key k) refl h (live_same k xs a) where
  one : (b : Bool) → same_key x.ask.key k ≡ b → cond b (Some x) (live_of xs k) ≡ Some a → (live_of xs k ≡ Some a → same_key a.ask.key k ≡ true) → same_key a.ask.key k ≡ true
  one true e g f = let q : x ≡ a = cc in ap (λ (y : Live). same_key y.ask.key k) (sym q) ∙ e
  one false e g f = f g

module _ (item : ItemId) (v : View) (ws : List Wait) (asks : List Live) where
  abbrev kept : Deed → List Live
  kept d = filter (λ a. not (is_cancelled item v d ws a)) (after d asks)

  abbrev FitsDeed : Deed → Live → Type 0
  FitsDeed d = Fits (after_deed d) (changed_by (changed_of d (kept d))) (is_over d) (is_cancelled item v d ws) (λ a. says (same_key a.ask.key) (dropped_of d (kept d)))

  abbrev passes : Deed → Live → Bool
  passes d a = not (is_over d a) && not (is_cancelled item v d ws a)

  kept_passes : (d : Deed) (k : Key) → live_of (kept d) k ≡ live_of (filter (passes d) (map (after_deed d) asks)) k
  kept_passes d k = ap (λ (xs : List Live). live_of xs k) (filter_both (λ a. not (is_cancelled item v d ws a)) (λ a. not (is_over d a)) (map (after_deed d) asks))

  -- of a deed by which blocks leave the ask of a key
  leaves : (key : Key) (blocks : List ℕ) (o c : Live → Bool) (m : Option Live) (a : Live) → o a ≡ (is_data a.ask.kind && is_empty a.owned) → IsFull a → ((x : Live) → m ≡ Some x → same_key x.ask.key key ≡ true)
      → (same_key a.ask.key key ≡ true → m ≡ cond (not (o (released key blocks a)) && not (c (released key blocks a))) (Some (released key blocks a)) None)
      → Fits (released key blocks) (changed_by m) o c (λ x. says (same_key x.ask.key) (unless_kept key m)) a
  leaves key blocks o c m a over full same found = by (same_key a.ask.key key) refl where
    left : Live
    left = record a { owned = filter (λ b. not (has_block blocks b)) a.owned; ticks = 0 }

    other : same_key a.ask.key key ≡ false → (n : Option Live) → ((x : Live) → n ≡ Some x → same_key x.ask.key key ≡ true) → (says (same_key a.ask.key) (unless_kept key n) ≡ false) × (changed_by n a ≡ a)
    other e None s = (e, refl)
    other e (Some x) s = (refl, ap (λ b. cond b (record a { owned = x.owned; ticks = 0 }) a) (same_not a.ask.key x.ask.key key e (s x refl)))

    itself : (y : Live) → y ≡ left → changed_by (Some y) a ≡ y
    itself y q = ap (λ (x : Live). changed_by (Some x) a) q ∙ ap (λ b. cond b left a) (same_itself a.ask.key) ∙ sym q

    not_first : (p q : Bool) → (not p && not q) ≡ true → p ≡ false
    not_first true q h = cc
    not_first false q h = refl

    some : (p q : Bool) → (not p && not q) ≡ false → (p || q) ≡ true
    some true q h = refl
    some false true h = refl
    some false false h = cc

    hit : same_key a.ask.key key ≡ true → (b : Bool) → (not (o (released key blocks a)) && not (c (released key blocks a))) ≡ b → m ≡ cond b (Some (released key blocks a)) None
        → Fits (released key blocks) (changed_by m) o c (λ x. says (same_key x.ask.key) (unless_kept key m)) a
    hit e true p is = inl (
      ap (λ (n : Option Live). says (same_key a.ask.key) (unless_kept key n)) is ∙ sym (not_first (o (released key blocks a)) (c (released key blocks a)) p),
      ap (λ (n : Option Live). changed_by n a) is ∙ itself (released key blocks a) (ap (λ b. cond b left a) e),
    )
    hit e false p is = inr (ap (λ (n : Option Live). says (same_key a.ask.key) (unless_kept key n)) is ∙ e, some (o (released key blocks a)) (c (released key blocks a)) p)

    by : (b : Bool) → same_key a.ask.key key ≡ b → Fits (released key blocks) (changed_by m) o c (λ x. says (same_key x.ask.key) (unless_kept key m)) a
    by true e = hit e (not (o (released key blocks a)) && not (c (released key blocks a))) refl (found e)
    by false e =
        let stays : released key blocks a ≡ a = ap (λ b. cond b left a) e in
        inl ((other e m same).0 ∙ sym (ap o stays ∙ over ∙ full), (other e m same).1 ∙ sym stays)

  off : (a : Live) → IsFull a → false ≡ (is_data a.ask.kind && is_empty a.owned)
  off a h = sym h

  fits : (d : Deed) (epoch low high : ℕ) → RisesTo ask_key epoch low high asks → AllByRecursion IsFull asks → AllByRecursion (FitsDeed d) asks
  fits Nothing epoch low high h full = all_then IsFull (FitsDeed Nothing) (λ a k. inl (off a k, refl)) asks full
  fits (Leaves key blocks) epoch low high h full =
      all_zip IsFull (λ a. same_key a.ask.key key ≡ true → live_of (filter (passes (Leaves key blocks)) (map (after_deed (Leaves key blocks)) asks)) key ≡ cond (passes (Leaves key blocks) (released key blocks a)) (Some (released key blocks a)) None) (FitsDeed (Leaves key blocks))
      (λ a k g. leaves key blocks (is_over (Leaves key blocks)) (is_cancelled item v (Leaves key blocks) ws) (live_of (kept (Leaves key blocks)) key) a refl k (live_same key (kept (Leaves key blocks))) (λ e. kept_passes (Leaves key blocks) key ∙ g e)) asks full
      (found_is (after_deed (Leaves key blocks)) (passes (Leaves key blocks)) (deed_key (Leaves key blocks)) key epoch low high asks h)
  fits (Fails key blocks w) epoch low high h full =
      all_zip IsFull (λ a. same_key a.ask.key key ≡ true → live_of (filter (passes (Fails key blocks w)) (map (after_deed (Fails key blocks w)) asks)) key ≡ cond (passes (Fails key blocks w) (released key blocks a)) (Some (released key blocks a)) None) (FitsDeed (Fails key blocks w))
      (λ a k g. leaves key blocks (is_over (Fails key blocks w)) (is_cancelled item v (Fails key blocks w) ws) (live_of (kept (Fails key blocks w)) key) a refl k (live_same key (kept (Fails key blocks w))) (λ e. kept_passes (Fails key blocks w) key ∙ g e)) asks full
      (found_is (after_deed (Fails key blocks w)) (passes (Fails key blocks w)) (deed_key (Fails key blocks w)) key epoch low high asks h)
  fits (Cancels id) epoch low high h full = all_then IsFull (FitsDeed (Cancels id)) (λ a k. inl (off a k, refl)) asks full
  fits (Closes handle last) epoch low high h full = all_then IsFull (FitsDeed (Closes handle last)) (λ a k. inl (off a k, refl)) asks full
  fits Restarts epoch low high h full = all_then IsFull (FitsDeed Restarts) (λ a k. inl (off a k, refl)) asks full
  fits (Expires key) epoch low high h full = all_then IsFull (FitsDeed (Expires key)) (λ a k. inl (off a k, refl)) asks full
  fits (Finishes key w) epoch low high h full = all_then IsFull (FitsDeed (Finishes key w)) (λ a k. inl (sym (or_false (same_key a.ask.key key)) ∙ ap (λ b. same_key a.ask.key key || b) (off a k), refl)) asks full

-- the whole step

delta_same : (item : ItemId) (v : View) (d : Deed) (p q : Outlook) (s : Waiting) → p.ended ≡ q.ended → p.cancelled ≡ q.cancelled → dropped_of d p.kept ≡ dropped_of d q.kept → changed_of d p.kept ≡ changed_of d q.kept → p.made ≡ q.made
    → carried (delta_of item v d p) s ≡ carried (delta_of item v d q) s
delta_same item v d p q s e c k h m =
    let f : List (Wait × Cause) → List Key → Option Key → Option Live → List Live → Told × Waiting = λ e c k h m. carried (record { ended = e; cancelled = c; dropped = k; changed = h; made = m; item = item; view = v }) s in
    ap (λ x. f x p.cancelled (dropped_of d p.kept) (changed_of d p.kept) p.made) e ∙ ap (λ x. f q.ended x (dropped_of d p.kept) (changed_of d p.kept) p.made) c
    ∙ ap (λ x. f q.ended q.cancelled x (changed_of d p.kept) p.made) k ∙ ap (λ x. f q.ended q.cancelled (dropped_of d q.kept) x p.made) h
    ∙ ap (λ x. f q.ended q.cancelled (dropped_of d q.kept) (changed_of d q.kept) x) m

near_found : (item : ItemId) (key : Key) (xs : List Live) → live_of (filter (is_near item (Some key)) xs) key ≡ live_of xs key
near_found item key xs = sym (find_within (λ a. same_key a.ask.key key) (is_near item (Some key)) (λ a t. right_true (eqb a.ask.item.0 item.0) (same_key a.ask.key key) t) xs) where
  right_true : (a b : Bool) → b ≡ true → (a || b) ≡ true
  right_true true b h = refl
  right_true false b h = h

near_changed : (item : ItemId) (d : Deed) (xs : List Live) → changed_of d (filter (is_near item (named d)) xs) ≡ changed_of d xs
near_changed item Nothing xs = refl
near_changed item (Leaves key blocks) xs = near_found item key xs
near_changed item (Fails key blocks c) xs = near_found item key xs
near_changed item (Cancels id) xs = refl
near_changed item (Closes handle last) xs = refl
near_changed item Restarts xs = refl
near_changed item (Expires key) xs = refl
near_changed item (Finishes key c) xs = refl

near_dropped : (item : ItemId) (d : Deed) (xs : List Live) → dropped_of d (filter (is_near item (named d)) xs) ≡ dropped_of d xs
near_dropped item Nothing xs = refl
near_dropped item (Leaves key blocks) xs = ap (unless_kept key) (near_found item key xs)
near_dropped item (Fails key blocks c) xs = ap (unless_kept key) (near_found item key xs)
near_dropped item (Cancels id) xs = refl
near_dropped item (Closes handle last) xs = refl
near_dropped item Restarts xs = refl
near_dropped item (Expires key) xs = refl
near_dropped item (Finishes key c) xs = refl

-- the plan for all, as changes
pub whole : (item : ItemId) (v : View) (d : Deed) (s : Waiting) → IsSound s → carried (delta_of item v d (plan_of item v d s.waits s.asks)) s ≡ step_of item v d s
whole item v d s h =
    let left : List Wait = left_of (why item v d s.asks) s.waits in
    let all : Outlook = plan_of item v d s.waits s.asks in
    let p : Planned = delta_of item v d all in
    let f : List Wait → List Live → Told × Waiting = λ ws as'. (
      record { ended = all.ended; cancelled = all.cancelled; made = with_keys s.epoch s.key_count all.made },
      record s { waits = ws; asks = as' ++ with_keys s.epoch s.key_count all.made; key_count = s.key_count + length (with_keys s.epoch s.key_count all.made) },
    ) in
    ap (λ ws. f ws (map (changed_by p.changed) (filter (λ a. not (is_gone p.cancelled p.dropped a)) s.asks))) (sym (left_is (why item v d s.asks) s.epoch 0 s.wait_count s.waits h.numbered.waits))
    ∙ ap (λ as'. f left as') (sym (kept_is (after_deed d) (changed_by p.changed) (is_over d) (is_cancelled item v d left) (λ a. says (same_key a.ask.key) p.dropped) (deed_key d) s.epoch 0 s.key_count s.asks h.numbered.asks
    (fits item v left s.asks d s.epoch 0 s.key_count h.numbered.asks h.full)))

-- The plan for what is near, as changes, is the step.
pub near_is : (item : ItemId) (v : View) (d : Deed) (s : Waiting) → IsSound s → carried (delta_of item v d (plan_of item v d (filter (is_on item) s.waits) (filter (is_near item (named d)) s.asks))) s ≡ step_of item v d s
near_is item v d s h =
    let all : Outlook = plan_of item v d s.waits s.asks in
    let part : Outlook = plan_of item v d (filter (is_on item) s.waits) (filter (is_near item (named d)) s.asks) in
    let l : IsLocal item (named d) s.waits s.asks all part = local item v d s.waits s.asks h.full h.agrees in
    delta_same item v d part all s (sym l.ended) (sym l.cancelled) (ap (dropped_of d) (sym l.kept) ∙ near_dropped item d all.kept) (ap (changed_of d) (sym l.kept) ∙ near_changed item d all.kept) (sym l.made) ∙ whole item v d s h
