-- A step of an item looks at what is near, and changes nothing else.
use Rattle.std.proofs.Common.{◌≡◌, ℕ, Bool, true, false, ◌&&◌, ◌||◌, not, cond, Option, Some, None, List, [], ◌∷◌, ◌++◌, refl, sym, ap, ◌∙◌, arith, eqb, eqb-true}
use Rattle.std.specs.Prelude.{filter, is_some, map}
use Rattle.std.specs.List.{AllByRecursion, list_any}
use Rattle.std.proofs.lemmas.Bool.Decides.{nat_tests}
use Rattle.cf_base.specs.declared.ids.ItemId.{ItemId}
use Rattle.cf_base.specs.declared.ids.Key.{Key}
use Rattle.cf_base.specs.declared.waits.AskKind.{AskKind}
use Rattle.cf_base.specs.declared.waits.AskKind.TheVariants as ask_kind
use Rattle.cf_base.specs.declared.waits.Cause.{Cause}
use Rattle.cf_base.specs.declared.waits.Cause.TheVariants as cause
use Rattle.cf_model.specs.Asks.{after_deed, ask_of_run, cause_by, cause_if, dehydrate_ask, dehydrate_asks, ended_of, is_cancelled, is_cut, is_finished, is_idle, is_idle_by, is_over, is_owned, is_wanted, left_of, list_ask, list_asks, new_asks, open_blocks, or_met, released, runs_of, waits_for, why, with_end}
use Rattle.cf_model.specs.Missing.{View, Wait, is_met, misses_block}
use Rattle.cf_model.specs.Numbers.{same_key}
use Rattle.cf_model.specs.Requests.{Cancels, Closes, Deed, Expires, Fails, Finishes, Leaves, Live, Nothing, Restarts, has_block, is_data, is_dehydrate_wait, is_list, is_list_wait, live_of}
use Rattle.cf_model.specs.Words.{is_empty, says, when}
use Rattle.cf_ask_rule.specs.Deeds.{after}
use Rattle.cf_ask_rule.specs.Near.{Agrees, IsFull, IsLocal, is_near, is_on, named}
use Rattle.cf_ask_rule.specs.Plans.{plan_of}
use Rattle.cf_ask_rule.proofs.Filters.{all_filter, all_map, all_of, all_swap, all_then, and_false, and_left, any_within, both_false, filter_comm, filter_map_same, filter_same, filter_within, find_within, is_not, left_false, not_both, or_left, right_false}

-- why waits end

live_near : (item : ItemId) (key : Key) (asks : List Live) → live_of asks key ≡ live_of (filter (is_near item (Some key)) asks) key
live_near item key asks = find_within (λ a. same_key a.ask.key key) (is_near item (Some key)) (λ a t. or_right (eqb a.ask.item.0 item.0) (same_key a.ask.key key) t) asks where
  or_right : (a b : Bool) → b ≡ true → (a || b) ≡ true
  or_right true b h = refl
  or_right false b h = h

cause_near : (item : ItemId) (v : View) (d : Deed) (asks : List Live) (w : Wait) → cause_by d v asks w ≡ cause_by d v (filter (is_near item (named d)) asks) w
cause_near item v Nothing asks w = refl
cause_near item v (Leaves key blocks) asks w = refl
cause_near item v (Fails key blocks c) asks w = refl
cause_near item v (Cancels id) asks w = refl
cause_near item v (Closes handle last) asks w = refl
cause_near item v Restarts asks w = refl
cause_near item v (Expires key) asks w = ap (λ (o : Option Live). cause_if (waits_for v o w) cause.TimedOut) (live_near item key asks)
cause_near item v (Finishes key c) asks w = ap (λ (o : Option Live). cause_if (waits_for v o w) c) (live_near item key asks)

why_near : (item : ItemId) (v : View) (d : Deed) (asks : List Live) (w : Wait) → why item v d asks w ≡ why item v d (filter (is_near item (named d)) asks) w
why_near item v d asks w = ap (λ (o : Option Cause). cond (eqb w.item.0 item.0) (or_met o (is_met v w)) None) (cause_near item v d asks w)

not_why : (item : ItemId) (v : View) (d : Deed) (asks : List Live) (w : Wait) → is_on item w ≡ false → why item v d asks w ≡ None
not_why item v d asks w e = ap (λ (c : Bool). cond c (or_met (cause_by d v asks w) (is_met v w)) None) e

ended_near : (f g : Wait → Option Cause) (p : Wait → Bool) → ((w : Wait) → f w ≡ g w) → ((w : Wait) → p w ≡ false → f w ≡ None) → (ws : List Wait) → ended_of f ws ≡ ended_of g (filter p ws)
ended_near f g p same none [] = refl
ended_near f g p same none (w ∷ ws) = one (p w) refl (ended_near f g p same none ws) where
  one : (b : Bool) → p w ≡ b → ended_of f ws ≡ ended_of g (filter p ws) → with_end w (f w) (ended_of f ws) ≡ ended_of g (cond b (w ∷ filter p ws) (filter p ws))
  one true e h = ap (λ (o : Option Cause). with_end w o (ended_of f ws)) (same w) ∙ ap (with_end w (g w)) h
  one false e h = ap (λ (o : Option Cause). with_end w o (ended_of f ws)) (none w e) ∙ h

-- waits that are left

left_near : (item : ItemId) (v : View) (d : Deed) (asks : List Live) (ws : List Wait)
    → filter (is_on item) (left_of (why item v d asks) ws) ≡ left_of (why item v d (filter (is_near item (named d)) asks)) (filter (is_on item) ws)
left_near item v d asks ws =
    filter_comm (is_on item) (λ w. not (is_some (why item v d asks w))) ws
    ∙ filter_same (λ w. not (is_some (why item v d asks w))) (λ w. not (is_some (why item v d (filter (is_near item (named d)) asks) w))) (filter (is_on item) ws)
    (all_of (λ w. not (is_some (why item v d asks w)) ≡ not (is_some (why item v d (filter (is_near item (named d)) asks) w))) (λ w. ap (λ (o : Option Cause). not (is_some o)) (why_near item v d asks w)) (filter (is_on item) ws))

left_far : (item : ItemId) (v : View) (d : Deed) (asks : List Live) (ws : List Wait) → filter (λ w. not (is_on item w)) (left_of (why item v d asks) ws) ≡ filter (λ w. not (is_on item w)) ws
left_far item v d asks ws = filter_within (λ w. not (is_on item w)) (λ w. not (is_some (why item v d asks w))) (λ w t. ap (λ (o : Option Cause). not (is_some o)) (not_why item v d asks w (is_not (is_on item w) t))) ws

-- asks after the deed

released_near : (item : ItemId) (k : Option Key) (key : Key) (blocks : List ℕ) (a : Live) → is_near item k (released key blocks a) ≡ is_near item k a
released_near item k key blocks a = one (same_key a.ask.key key) where
  one : (c : Bool) → is_near item k (cond c (record a { owned = filter (λ b. not (has_block blocks b)) a.owned; ticks = 0 }) a) ≡ is_near item k a
  one true = refl
  one false = refl

deed_near : (item : ItemId) (k : Option Key) (d : Deed) (a : Live) → is_near item k (after_deed d a) ≡ is_near item k a
deed_near item k Nothing a = refl
deed_near item k (Leaves key blocks) a = released_near item k key blocks a
deed_near item k (Fails key blocks c) a = released_near item k key blocks a
deed_near item k (Cancels id) a = refl
deed_near item k (Closes handle last) a = refl
deed_near item k Restarts a = refl
deed_near item k (Expires key) a = refl
deed_near item k (Finishes key c) a = refl

after_near : (item : ItemId) (k : Option Key) (d : Deed) (asks : List Live) → filter (is_near item k) (after d asks) ≡ after d (filter (is_near item k) asks)
after_near item k d asks = filter_comm (is_near item k) (λ a. not (is_over d a)) (map (after_deed d) asks) ∙ ap (filter (λ a. not (is_over d a))) (filter_map_same (is_near item k) (after_deed d) (deed_near item k d) asks)

released_far : (key : Key) (blocks : List ℕ) (a : Live) → same_key a.ask.key key ≡ false → released key blocks a ≡ a
released_far key blocks a e = ap (λ c. cond c (record a { owned = filter (λ b. not (has_block blocks b)) a.owned; ticks = 0 }) a) e

deed_far : (item : ItemId) (d : Deed) (a : Live) → is_near item (named d) a ≡ false → after_deed d a ≡ a
deed_far item Nothing a e = refl
deed_far item (Leaves key blocks) a e = released_far key blocks a (right_false (eqb a.ask.item.0 item.0) (same_key a.ask.key key) e)
deed_far item (Fails key blocks c) a e = released_far key blocks a (right_false (eqb a.ask.item.0 item.0) (same_key a.ask.key key) e)
deed_far item (Cancels id) a e = refl
deed_far item (Closes handle last) a e = refl
deed_far item Restarts a e = refl
deed_far item (Expires key) a e = refl
deed_far item (Finishes key c) a e = refl

finished_far : (item : ItemId) (d : Deed) (a : Live) → is_near item (named d) a ≡ false → is_finished d a ≡ false
finished_far item Nothing a e = refl
finished_far item (Leaves key blocks) a e = refl
finished_far item (Fails key blocks c) a e = refl
finished_far item (Cancels id) a e = refl
finished_far item (Closes handle last) a e = refl
finished_far item Restarts a e = refl
finished_far item (Expires key) a e = refl
finished_far item (Finishes key c) a e = right_false (eqb a.ask.item.0 item.0) (same_key a.ask.key key) e

over_far : (item : ItemId) (d : Deed) (a : Live) → IsFull a → is_near item (named d) a ≡ false → is_over d a ≡ false
over_far item d a full e = both_false (is_finished d a) (is_data a.ask.kind && is_empty a.owned) (finished_far item d a e) full

after_far : (item : ItemId) (d : Deed) (asks : List Live) → AllByRecursion IsFull asks → filter (λ a. not (is_near item (named d) a)) (after d asks) ≡ filter (λ a. not (is_near item (named d) a)) asks
after_far item d [] h = refl
after_far item d (a ∷ asks) h = one (is_near item (named d) a) refl (after_far item d asks h.1) where
  drops : (b c : Bool) (x : Live) (xs : List Live) → is_near item (named d) x ≡ true → filter (λ a. not (is_near item (named d) a)) (cond c (x ∷ xs) xs) ≡ filter (λ a. not (is_near item (named d) a)) xs
  drops b true x xs e = ap (λ z. cond (not z) (x ∷ filter (λ a. not (is_near item (named d) a)) xs) (filter (λ a. not (is_near item (named d) a)) xs)) e
  drops b false x xs e = refl

  stays : (x : Live) → x ≡ a → is_near item (named d) a ≡ false → filter (λ a. not (is_near item (named d) a)) (cond (not (is_over d x)) (x ∷ after d asks) (after d asks)) ≡ a ∷ filter (λ a. not (is_near item (named d) a)) (after d asks)
  stays x q e =
      ap (λ (y : Live). filter (λ a. not (is_near item (named d) a)) (cond (not (is_over d y)) (y ∷ after d asks) (after d asks))) q
      ∙ ap (λ c. filter (λ a. not (is_near item (named d) a)) (cond (not c) (a ∷ after d asks) (after d asks))) (over_far item d a h.0 e)
      ∙ ap (λ c. cond (not c) (a ∷ filter (λ a. not (is_near item (named d) a)) (after d asks)) (filter (λ a. not (is_near item (named d) a)) (after d asks))) e

  one : (b : Bool) → is_near item (named d) a ≡ b → filter (λ a. not (is_near item (named d) a)) (after d asks) ≡ filter (λ a. not (is_near item (named d) a)) asks
      → filter (λ a. not (is_near item (named d) a)) (after d (a ∷ asks)) ≡ cond (not b) (a ∷ filter (λ a. not (is_near item (named d) a)) asks) (filter (λ a. not (is_near item (named d) a)) asks)
  one true e g = drops true (not (is_over d (after_deed d a))) (after_deed d a) (after d asks) (deed_near item (named d) d a ∙ e) ∙ g
  one false e g = stays (after_deed d a) (deed_far item d a e) e ∙ ap (λ v. a ∷ v) g

-- the wait of an ask after the deed

released_agrees : (ws : List Wait) (key : Key) (blocks : List ℕ) (a : Live) → Agrees ws a → Agrees ws (released key blocks a)
released_agrees ws key blocks a h = one (same_key a.ask.key key) where
  one : (c : Bool) → Agrees ws (cond c (record a { owned = filter (λ b. not (has_block blocks b)) a.owned; ticks = 0 }) a)
  one true = h
  one false = h

deed_agrees : (ws : List Wait) (d : Deed) (a : Live) → Agrees ws a → Agrees ws (after_deed d a)
deed_agrees ws Nothing a h = h
deed_agrees ws (Leaves key blocks) a h = released_agrees ws key blocks a h
deed_agrees ws (Fails key blocks c) a h = released_agrees ws key blocks a h
deed_agrees ws (Cancels id) a h = h
deed_agrees ws (Closes handle last) a h = h
deed_agrees ws Restarts a h = h
deed_agrees ws (Expires key) a h = h
deed_agrees ws (Finishes key c) a h = h

after_agrees : (ws : List Wait) (d : Deed) (asks : List Live) → AllByRecursion (Agrees ws) asks → AllByRecursion (Agrees ws) (after d asks)
after_agrees ws d asks h = all_filter (Agrees ws) (λ a. not (is_over d a)) (map (after_deed d) asks) (all_map (Agrees ws) (after_deed d) (deed_agrees ws d) asks h)

-- waits that are asked after

wanted_near : (item : ItemId) (v : View) (ws : List Wait) (b : ℕ) → is_wanted item v ws b ≡ is_wanted item v (filter (is_on item) ws) b
wanted_near item v ws b = any_within (λ w. (eqb w.item.0 item.0) && misses_block v w b) (is_on item) ws (all_of (λ w. ((eqb w.item.0 item.0) && misses_block v w b) ≡ true → is_on item w ≡ true) (λ w t. and_left (eqb w.item.0 item.0) (misses_block v w b) t) ws)

any_same : (f g : ℕ → Bool) → ((b : ℕ) → f b ≡ g b) → (bs : List ℕ) → list_any f bs ≡ list_any g bs
any_same f g h [] = refl
any_same f g h (b ∷ bs) = ap (λ c. c || list_any f bs) (h b) ∙ ap (λ c. g b || c) (any_same f g h bs)

list_near : (item : ItemId) (ws : List Wait) → list_any (λ w. (eqb w.item.0 item.0) && is_list_wait w.kind) ws ≡ list_any (λ w. (eqb w.item.0 item.0) && is_list_wait w.kind) (filter (is_on item) ws)
list_near item ws = any_within (λ w. (eqb w.item.0 item.0) && is_list_wait w.kind) (is_on item) ws (all_of (λ w. ((eqb w.item.0 item.0) && is_list_wait w.kind) ≡ true → is_on item w ≡ true) (λ w t. and_left (eqb w.item.0 item.0) (is_list_wait w.kind) t) ws)

number_is : (m n : ℕ) → eqb m n ≡ true → m ≡ n
number_is m n h = eqb-true m n h

same_items : (m n k : ℕ) → eqb m n ≡ true → eqb n k ≡ true → eqb m k ≡ true
same_items m n k h g = ap (λ x. eqb x k) (number_is m n h) ∙ g

-- of an ask on the item the wait is on the item
wait_near : (item : ItemId) (ws : List Wait) (a : Live) → Agrees ws a → (eqb a.ask.item.0 item.0) ≡ true → list_any (λ w. same_key w.id.0 a.wait.0) ws ≡ list_any (λ w. same_key w.id.0 a.wait.0) (filter (is_on item) ws)
wait_near item ws a h e = any_within (λ w. same_key w.id.0 a.wait.0) (is_on item) ws
    (all_then (λ w. same_key w.id.0 a.wait.0 ≡ true → (eqb w.item.0 a.ask.item.0) ≡ true) (λ w. same_key w.id.0 a.wait.0 ≡ true → is_on item w ≡ true) (λ w f t. same_items w.item.0 a.ask.item.0 item.0 (f t) e) ws h)

idle_by_near : (kind : AskKind) (item : ItemId) (v : View) (ws : List Wait) (a : Live) → Agrees ws a → (eqb a.ask.item.0 item.0) ≡ true → is_idle_by kind item v ws a ≡ is_idle_by kind item v (filter (is_on item) ws) a
idle_by_near ask_kind.Fetch item v ws a h e = ap not (any_same (is_wanted item v ws) (is_wanted item v (filter (is_on item) ws)) (wanted_near item v ws) a.owned)
idle_by_near ask_kind.Validate item v ws a h e = ap not (any_same (is_wanted item v ws) (is_wanted item v (filter (is_on item) ws)) (wanted_near item v ws) a.owned)
idle_by_near ask_kind.List item v ws a h e = ap not (list_near item ws)
idle_by_near ask_kind.Dehydrate item v ws a h e = ap not (wait_near item ws a h e)

idle_near : (item : ItemId) (v : View) (ws : List Wait) (a : Live) → Agrees ws a → is_idle item v ws a ≡ is_idle item v (filter (is_on item) ws) a
idle_near item v ws a h = one (eqb a.ask.item.0 item.0) refl where
  one : (b : Bool) → eqb a.ask.item.0 item.0 ≡ b → (b && is_idle_by a.ask.kind item v ws a) ≡ (b && is_idle_by a.ask.kind item v (filter (is_on item) ws) a)
  one true e = idle_by_near a.ask.kind item v ws a h e
  one false e = refl

cancelled_near : (item : ItemId) (v : View) (d : Deed) (ws : List Wait) (a : Live) → Agrees ws a → is_cancelled item v d ws a ≡ is_cancelled item v d (filter (is_on item) ws) a
cancelled_near item v d ws a h = ap (λ b. is_cut item d a || b) (idle_near item v ws a h)

cut_far : (item : ItemId) (d : Deed) (a : Live) → is_near item (named d) a ≡ false → is_cut item d a ≡ false
cut_far item Nothing a e = refl
cut_far item (Leaves key blocks) a e = refl
cut_far item (Fails key blocks c) a e = refl
cut_far item (Cancels id) a e = refl
cut_far item (Closes handle last) a e = refl
cut_far item Restarts a e = and_false (eqb a.ask.item.0 item.0) (is_data a.ask.kind) (left_false (eqb a.ask.item.0 item.0) false e)
cut_far item (Expires key) a e = right_false (eqb a.ask.item.0 item.0) (same_key a.ask.key key) e
cut_far item (Finishes key c) a e = refl

cancelled_far : (item : ItemId) (v : View) (d : Deed) (ws : List Wait) (a : Live) → is_near item (named d) a ≡ false → is_cancelled item v d ws a ≡ false
cancelled_far item v d ws a e = both_false (is_cut item d a) (is_idle item v ws a) (cut_far item d a e) (and_false (eqb a.ask.item.0 item.0) (is_idle_by a.ask.kind item v ws a) (left_false (eqb a.ask.item.0 item.0) (says (same_key a.ask.key) (named d)) e))

cancelled_is_near : (item : ItemId) (v : View) (d : Deed) (ws : List Wait) (a : Live) → is_cancelled item v d ws a ≡ true → is_near item (named d) a ≡ true
cancelled_is_near item v d ws a t = one (is_near item (named d) a) refl where
  one : (b : Bool) → is_near item (named d) a ≡ b → b ≡ true
  one true e = refl
  one false e = absurd (not_both (is_cancelled item v d ws a) t (cancelled_far item v d ws a e))

-- asks that are kept, and that are cancelled

left_agrees : (p : Wait → Bool) (ws : List Wait) (asks : List Live) → AllByRecursion (Agrees ws) asks → AllByRecursion (Agrees (filter p ws)) asks
left_agrees p ws asks h = all_then (Agrees ws) (Agrees (filter p ws)) (λ a g. all_filter (λ w. same_key w.id.0 a.wait.0 ≡ true → (eqb w.item.0 a.ask.item.0) ≡ true) p ws g) asks h

near_agrees : (item : ItemId) (d : Deed) (ws : List Wait) (asks : List Live) → AllByRecursion (Agrees ws) asks → AllByRecursion (Agrees ws) (after d (filter (is_near item (named d)) asks))
near_agrees item d ws asks h = after_agrees ws d (filter (is_near item (named d)) asks) (all_filter (Agrees ws) (is_near item (named d)) asks h)

kept_near : (item : ItemId) (v : View) (d : Deed) (ws : List Wait) (asks : List Live) → AllByRecursion (Agrees ws) asks
    → filter (is_near item (named d)) (filter (λ a. not (is_cancelled item v d ws a)) (after d asks)) ≡ filter (λ a. not (is_cancelled item v d (filter (is_on item) ws) a)) (after d (filter (is_near item (named d)) asks))
kept_near item v d ws asks h =
    filter_comm (is_near item (named d)) (λ a. not (is_cancelled item v d ws a)) (after d asks)
    ∙ ap (filter (λ a. not (is_cancelled item v d ws a))) (after_near item (named d) d asks)
    ∙ filter_same (λ a. not (is_cancelled item v d ws a)) (λ a. not (is_cancelled item v d (filter (is_on item) ws) a)) (after d (filter (is_near item (named d)) asks))
    (all_then (Agrees ws) (λ a. not (is_cancelled item v d ws a) ≡ not (is_cancelled item v d (filter (is_on item) ws) a)) (λ a g. ap not (cancelled_near item v d ws a g)) (after d (filter (is_near item (named d)) asks)) (near_agrees item d ws asks h))

kept_far : (item : ItemId) (v : View) (d : Deed) (ws : List Wait) (asks : List Live) → AllByRecursion IsFull asks
    → filter (λ a. not (is_near item (named d) a)) (filter (λ a. not (is_cancelled item v d ws a)) (after d asks)) ≡ filter (λ a. not (is_near item (named d) a)) asks
kept_far item v d ws asks h =
    filter_within (λ a. not (is_near item (named d) a)) (λ a. not (is_cancelled item v d ws a)) (λ a t. ap not (cancelled_far item v d ws a (is_not (is_near item (named d) a) t))) (after d asks)
    ∙ after_far item d asks h

gone_near : (item : ItemId) (v : View) (d : Deed) (ws : List Wait) (asks : List Live) → AllByRecursion (Agrees ws) asks
    → filter (is_cancelled item v d ws) (after d asks) ≡ filter (is_cancelled item v d (filter (is_on item) ws)) (after d (filter (is_near item (named d)) asks))
gone_near item v d ws asks h =
    sym (filter_within (is_cancelled item v d ws) (is_near item (named d)) (cancelled_is_near item v d ws) (after d asks))
    ∙ ap (filter (is_cancelled item v d ws)) (after_near item (named d) d asks)
    ∙ filter_same (is_cancelled item v d ws) (is_cancelled item v d (filter (is_on item) ws)) (after d (filter (is_near item (named d)) asks))
    (all_then (Agrees ws) (λ a. is_cancelled item v d ws a ≡ is_cancelled item v d (filter (is_on item) ws) a) (λ a g. cancelled_near item v d ws a g) (after d (filter (is_near item (named d)) asks)) (near_agrees item d ws asks h))

-- asks that are made

owned_near : (item : ItemId) (k : Option Key) (asks : List Live) (b : ℕ) → is_owned item asks b ≡ is_owned item (filter (is_near item k) asks) b
owned_near item k asks b = any_within (λ a. (eqb a.ask.item.0 item.0) && has_block a.owned b) (is_near item k) asks
    (all_of (λ a. ((eqb a.ask.item.0 item.0) && has_block a.owned b) ≡ true → is_near item k a ≡ true) (λ a t. or_left (eqb a.ask.item.0 item.0) (says (same_key a.ask.key) k) (and_left (eqb a.ask.item.0 item.0) (has_block a.owned b) t)) asks)

open_near : (item : ItemId) (k : Option Key) (v : View) (ws : List Wait) (asks : List Live) → open_blocks item v ws asks ≡ open_blocks item v (filter (is_on item) ws) (filter (is_near item k) asks)
open_near item k v ws asks = filter_same (λ b. is_wanted item v ws b && not (is_owned item asks b)) (λ b. is_wanted item v (filter (is_on item) ws) b && not (is_owned item (filter (is_near item k) asks) b)) _
    (all_of (λ b. (is_wanted item v ws b && not (is_owned item asks b)) ≡ (is_wanted item v (filter (is_on item) ws) b && not (is_owned item (filter (is_near item k) asks) b)))
    (λ b. ap (λ x. x && not (is_owned item asks b)) (wanted_near item v ws b) ∙ ap (λ x. is_wanted item v (filter (is_on item) ws) b && not x) (owned_near item k asks b)) _)

listed_near : (item : ItemId) (k : Option Key) (asks : List Live) → list_any (λ a. (eqb a.ask.item.0 item.0) && is_list a.ask.kind) asks ≡ list_any (λ a. (eqb a.ask.item.0 item.0) && is_list a.ask.kind) (filter (is_near item k) asks)
listed_near item k asks = any_within (λ a. (eqb a.ask.item.0 item.0) && is_list a.ask.kind) (is_near item k) asks
    (all_of (λ a. ((eqb a.ask.item.0 item.0) && is_list a.ask.kind) ≡ true → is_near item k a ≡ true) (λ a t. or_left (eqb a.ask.item.0 item.0) (says (same_key a.ask.key) k) (and_left (eqb a.ask.item.0 item.0) (is_list a.ask.kind) t)) asks)

lists_near : (item : ItemId) (k : Option Key) (ws : List Wait) (asks : List Live) → list_asks item ws asks ≡ list_asks item (filter (is_on item) ws) (filter (is_near item k) asks)
lists_near item k ws asks =
    ap (λ b. when (b && not (list_any (λ (a : Live). (eqb a.ask.item.0 item.0) && is_list a.ask.kind) asks)) (list_ask item ∷ [])) (list_near item ws)
    ∙ ap (λ b. when (list_any (λ (w : Wait). (eqb w.item.0 item.0) && is_list_wait w.kind) (filter (is_on item) ws) && not b) (list_ask item ∷ [])) (listed_near item k asks)

keys_swap : (a b c d : ℕ) → (eqb a b && eqb c d) ≡ true → (eqb b a && eqb d c) ≡ true
keys_swap a b c d h = grind (arith, nat_tests)

same_swap : (m n k : ℕ) → eqb m n ≡ true → eqb m k ≡ true → eqb n k ≡ true
same_swap m n k h g = ap (λ x. eqb x k) (sym (number_is m n h)) ∙ g

asked_near : (item : ItemId) (k : Option Key) (w : Wait) (asks : List Live) → is_on item w ≡ true → AllByRecursion (λ a. same_key w.id.0 a.wait.0 ≡ true → (eqb w.item.0 a.ask.item.0) ≡ true) asks
    → list_any (λ a. same_key a.wait.0 w.id.0) asks ≡ list_any (λ a. same_key a.wait.0 w.id.0) (filter (is_near item k) asks)
asked_near item k w asks e h = any_within (λ a. same_key a.wait.0 w.id.0) (is_near item k) asks
    (all_then (λ a. same_key w.id.0 a.wait.0 ≡ true → (eqb w.item.0 a.ask.item.0) ≡ true) (λ a. same_key a.wait.0 w.id.0 ≡ true → is_near item k a ≡ true)
    (λ a f t. or_left (eqb a.ask.item.0 item.0) (says (same_key a.ask.key) k) (same_swap w.item.0 a.ask.item.0 item.0 (f (keys_swap a.wait.0.epoch w.id.0.epoch a.wait.0.number w.id.0.number t)) e)) asks h)

first_true : (a b c : Bool) → (a && b && c) ≡ true → a ≡ true
first_true true b c h = refl
first_true false b c h = h

abbrev lacks : ItemId → List Live → Wait → Bool
lacks item asks w = (eqb w.item.0 item.0) && is_dehydrate_wait w.kind && not (list_any (λ a. same_key a.wait.0 w.id.0) asks)

lacks_near : (item : ItemId) (k : Option Key) (asks : List Live) (w : Wait) → AllByRecursion (λ a. same_key w.id.0 a.wait.0 ≡ true → (eqb w.item.0 a.ask.item.0) ≡ true) asks → lacks item asks w ≡ lacks item (filter (is_near item k) asks) w
lacks_near item k asks w h = one (is_on item w) refl where
  one : (b : Bool) → is_on item w ≡ b → (b && is_dehydrate_wait w.kind && not (list_any (λ a. same_key a.wait.0 w.id.0) asks)) ≡ (b && is_dehydrate_wait w.kind && not (list_any (λ a. same_key a.wait.0 w.id.0) (filter (is_near item k) asks)))
  one true e = ap (λ x. true && is_dehydrate_wait w.kind && not x) (asked_near item k w asks e h)
  one false e = refl

dehydrates_near : (item : ItemId) (k : Option Key) (ws : List Wait) (asks : List Live) → AllByRecursion (Agrees ws) asks → dehydrate_asks item ws asks ≡ dehydrate_asks item (filter (is_on item) ws) (filter (is_near item k) asks)
dehydrates_near item k ws asks h = ap (map dehydrate_ask)
    (filter_same (lacks item asks) (lacks item (filter (is_near item k) asks)) ws
    (all_then (λ w. AllByRecursion (λ a. same_key w.id.0 a.wait.0 ≡ true → (eqb w.item.0 a.ask.item.0) ≡ true) asks) (λ w. lacks item asks w ≡ lacks item (filter (is_near item k) asks) w) (lacks_near item k asks) ws
    (all_swap (λ (a : Live) (w : Wait). same_key w.id.0 a.wait.0 ≡ true → (eqb w.item.0 a.ask.item.0) ≡ true) asks ws h))
    ∙ sym (filter_within (lacks item (filter (is_near item k) asks)) (is_on item) (λ w t. first_true (eqb w.item.0 item.0) (is_dehydrate_wait w.kind) (not (list_any (λ a. same_key a.wait.0 w.id.0) (filter (is_near item k) asks))) t) ws))

made_near : (item : ItemId) (k : Option Key) (v : View) (ws : List Wait) (asks : List Live) → AllByRecursion (Agrees ws) asks → new_asks item v ws asks ≡ new_asks item v (filter (is_on item) ws) (filter (is_near item k) asks)
made_near item k v ws asks h =
    ap (λ bs. map (ask_of_run item v.base) (runs_of v bs) ++ list_asks item ws asks ++ dehydrate_asks item ws asks) (open_near item k v ws asks)
    ∙ ap (λ (l : List Live). map (ask_of_run item v.base) (runs_of v (open_blocks item v (filter (is_on item) ws) (filter (is_near item k) asks))) ++ l ++ dehydrate_asks item ws asks) (lists_near item k ws asks)
    ∙ ap (λ (l : List Live). map (ask_of_run item v.base) (runs_of v (open_blocks item v (filter (is_on item) ws) (filter (is_near item k) asks))) ++ list_asks item (filter (is_on item) ws) (filter (is_near item k) asks) ++ l) (dehydrates_near item k ws asks h)

-- the plan

pub local : (item : ItemId) (v : View) (d : Deed) (waits : List Wait) (asks : List Live) → AllByRecursion IsFull asks → AllByRecursion (Agrees waits) asks
    → IsLocal item (named d) waits asks (plan_of item v d waits asks) (plan_of item v d (filter (is_on item) waits) (filter (is_near item (named d)) asks))
local item v d waits asks full agree = record {
  ended = ended_near (why item v d asks) (why item v d part) (is_on item) (why_near item v d asks) (not_why item v d asks) waits;
  left = left_near item v d asks waits;
  other_waits = left_far item v d asks waits;
  cancelled = ap (map (λ a. a.ask.key)) (gone_near item v d left asks agree_left ∙ ap (λ (ws : List Wait). filter (is_cancelled item v d ws) (after d part)) (left_near item v d asks waits));
  kept = kept_is;
  other_asks = kept_far item v d left asks full;
  made = made_near item (named d) v left kept kept_agrees
      ∙ ap (λ (ws : List Wait). new_asks item v ws (filter (is_near item (named d)) kept)) (left_near item v d asks waits)
      ∙ ap (λ (as' : List Live). new_asks item v (left_of (why item v d part) (filter (is_on item) waits)) as') kept_is;
} where
  part : List Live
  part = filter (is_near item (named d)) asks

  left : List Wait
  left = left_of (why item v d asks) waits

  kept : List Live
  kept = filter (λ a. not (is_cancelled item v d left a)) (after d asks)

  agree_left : AllByRecursion (Agrees left) asks
  agree_left = left_agrees (λ w. not (is_some (why item v d asks w))) waits asks agree

  kept_agrees : AllByRecursion (Agrees left) kept
  kept_agrees = all_filter (Agrees left) (λ a. not (is_cancelled item v d left a)) (after d asks) (after_agrees left d asks agree_left)

  kept_is : filter (is_near item (named d)) kept ≡ filter (λ a. not (is_cancelled item v d (left_of (why item v d part) (filter (is_on item) waits)) a)) (after d part)
  kept_is = kept_near item v d left asks agree_left ∙ ap (λ (ws : List Wait). filter (λ a. not (is_cancelled item v d ws a)) (after d part)) (left_near item v d asks waits)
