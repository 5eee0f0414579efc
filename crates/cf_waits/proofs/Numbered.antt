-- Each step leaves waits and asks in order of their numbers.
use Rattle.std.proofs.Common.{◌≡◌, ℕ, suc, ◌+◌, ◌<◌, Bool, true, false, not, cond, Option, List, [], ◌∷◌, length, refl, sym, subst, arith}
use Rattle.std.specs.Prelude.{filter, is_some, map}
use Rattle.cf_base.specs.declared.ids.ItemId.{ItemId}
use Rattle.cf_base.specs.declared.ids.Key.{Key}
use Rattle.cf_base.specs.declared.waits.Cause.{Cause}
use Rattle.cf_model.specs.Asks.{after_deed, is_cancelled, is_over, left_of, new_asks, released, settled_with, step_of, why, with_keys}
use Rattle.cf_model.specs.Missing.{View, Wait}
use Rattle.cf_model.specs.Numbers.{same_key}
use Rattle.cf_model.specs.Requests.{Cancels, Closes, Deed, Expires, Fails, Finishes, Leaves, Live, Nothing, Restarts, Waiting, has_block, with_waits}
use Rattle.cf_waits.proofs.Rises.{rises_append, rises_filter}
use Rattle.cf_waits.specs.Rising.{IsNumbered, RisesTo, ask_key, wait_key}

-- a deed leaves the keys

released_key : (key : Key) (blocks : List ℕ) (a : Live) → ask_key (released key blocks a) ≡ ask_key a
released_key key blocks a = one (same_key a.ask.key key) where
  one : (c : Bool) → ask_key (cond c (record a { owned = filter (λ b. not (has_block blocks b)) a.owned; ticks = 0 }) a) ≡ ask_key a
  one true = refl
  one false = refl

pub deed_key : (d : Deed) (a : Live) → ask_key (after_deed d a) ≡ ask_key a
deed_key Nothing a = refl
deed_key (Leaves key blocks) a = released_key key blocks a
deed_key (Fails key blocks c) a = released_key key blocks a
deed_key (Cancels id) a = refl
deed_key (Closes handle last) a = refl
deed_key Restarts a = refl
deed_key (Expires key) a = refl
deed_key (Finishes key c) a = refl

rises_deed : (d : Deed) (epoch low high : ℕ) (asks : List Live) → RisesTo ask_key epoch low high asks → RisesTo ask_key epoch low high (map (after_deed d) asks)
rises_deed d epoch low high [] h = h
rises_deed d epoch low high (a ∷ asks) h = subst (λ (k : Key). (k.epoch ≡ epoch) × (low < k.number) × RisesTo ask_key epoch k.number high (map (after_deed d) asks)) (sym (deed_key d a)) (h.0, h.1, rises_deed d epoch (ask_key a).number high asks h.2)

rises_keyed : (epoch n : ℕ) (made : List Live) → RisesTo ask_key epoch n (n + length (with_keys epoch n made)) (with_keys epoch n made)
rises_keyed epoch n [] = omega arith
rises_keyed epoch n (a ∷ made) =
    let e : n + 1 + length (with_keys epoch (n + 1) made) ≡ n + suc (length (with_keys epoch (n + 1) made)) = omega arith in
    (refl, omega arith, subst (λ (m : ℕ). RisesTo ask_key epoch (n + 1) m (with_keys epoch (n + 1) made)) e (rises_keyed epoch (n + 1) made))

settled_numbered : (item : ItemId) (v : View) (d : Deed) (f : Wait → Option Cause) (s : Waiting) → IsNumbered s
    → IsNumbered ((settled_with item v d f s (left_of f s.waits) (filter (λ a. not (is_over d a)) (map (after_deed d) s.asks))).1)
settled_numbered item v d f s h = record {
  waits = rises_filter wait_key s.epoch 0 s.wait_count (λ w. not (is_some (f w))) s.waits h.waits;
  asks = rises_append ask_key s.epoch 0 s.key_count (s.key_count + length (with_keys s.epoch s.key_count made)) kept (with_keys s.epoch s.key_count made)
      (rises_filter ask_key s.epoch 0 s.key_count (λ a. not (is_cancelled item v d (left_of f s.waits) a)) (filter (λ a. not (is_over d a)) (map (after_deed d) s.asks))
      (rises_filter ask_key s.epoch 0 s.key_count (λ a. not (is_over d a)) (map (after_deed d) s.asks) (rises_deed d s.epoch 0 s.key_count s.asks h.asks)))
      (rises_keyed s.epoch s.key_count made);
} where
  kept : List Live
  kept = filter (λ a. not (is_cancelled item v d (left_of f s.waits) a)) (filter (λ a. not (is_over d a)) (map (after_deed d) s.asks))

  made : List Live
  made = new_asks item v (left_of f s.waits) kept

pub step_numbered : (item : ItemId) (v : View) (d : Deed) (s : Waiting) → IsNumbered s → IsNumbered (step_of item v d s).1
step_numbered item v d s h = settled_numbered item v d (why item v d s.asks) s h

pub begun_numbered : (ws : List Wait) (s : Waiting) → IsNumbered s → RisesTo wait_key s.epoch s.wait_count (s.wait_count + length ws) ws → IsNumbered (with_waits ws s)
begun_numbered ws s h g = record { waits = rises_append wait_key s.epoch 0 s.wait_count (s.wait_count + length ws) s.waits ws h.waits g; asks = h.asks }
