-- No ask of a book has a block from an end on.
use Rattle.std.proofs.Common.{◌≡◌, ℕ, ◌+◌, ◌^◌, ◌≤◌, Bool, true, false, not, cond, List, [], ◌∷◌, ◌++◌, max, min, sym, subst, arith}
use Rattle.std.specs.Prelude.{filter, map}
use Rattle.std.specs.List.{AllByRecursion}
use Rattle.cf_ask_rule.proofs.Filters.{all_filter, all_map}
use Rattle.cf_ask_rule.proofs.Fronted.{ends_later}
use Rattle.cf_ask_rule.specs.Fronts.{EndsBy}
use Rattle.cf_base.specs.declared.ids.Key.{Key}
use Rattle.cf_model.specs.Numbers.{same_key}
use Rattle.cf_model.specs.Requests.{Live}
use Rattle.cf_waits.proofs.AskChanges.{all_push, anew}
use Rattle.cf_waits.specs.Books.{brought_forward}

one_later : (end more : ℕ) (a : Live) → end ≤ more → EndsBy end a → EndsBy more a
one_later end more a l h = (ends_later end more (a ∷ []) l (h, tt)).0

pub ends_pushed : (end own most : ℕ) (xs new : List Live) (a : Live) → AllByRecursion (EndsBy end) xs → EndsBy own a → most ≡ max end own → new ≡ xs ++ a ∷ [] → AllByRecursion (EndsBy most) new
ends_pushed end own most xs new a h g e is =
    subst (λ (l : List Live). AllByRecursion (EndsBy most) l) (sym is) (all_push (EndsBy most) xs a (ends_later end most xs (omega arith) h) (one_later own most a (omega arith) g))

pub ends_fewer : (k : Key) (end : ℕ) (xs new : List Live) → AllByRecursion (EndsBy end) xs → new ≡ filter (λ y. not (same_key k y.ask.key)) xs → AllByRecursion (EndsBy end) new
ends_fewer k end xs new h is = subst (λ (l : List Live). AllByRecursion (EndsBy end) l) (sym is) (all_filter (EndsBy end) (λ y. not (same_key k y.ask.key)) xs h)

pub ends_forward : (base end : ℕ) (xs new : List Live) → AllByRecursion (EndsBy end) xs → new ≡ map (brought_forward base) xs → AllByRecursion (EndsBy end) new
ends_forward base end xs new h is = subst (λ (l : List Live). AllByRecursion (EndsBy end) l) (sym is) (all_map (EndsBy end) (brought_forward base) (λ a g. g) xs h)

pub ends_changed : (k : Key) (owned : List ℕ) (t end own most : ℕ) (xs new : List Live) → AllByRecursion (EndsBy end) xs → AllByRecursion (λ b. min (b + 1) (2 ^ 32) ≤ own) owned → most ≡ max end own → new ≡ map (anew k owned t) xs → AllByRecursion (EndsBy most) new
ends_changed k owned t end own most xs new h g e is =
    subst (λ (l : List Live). AllByRecursion (EndsBy most) l) (sym is) (all_map (EndsBy most) (anew k owned t) each xs (ends_later end most xs (omega arith) h))
  where
    each : (a : Live) → EndsBy most a → EndsBy most (anew k owned t a)
    each a f = one (same_key k a.ask.key) where
      one : (b : Bool) → EndsBy most (cond b (record a { owned = owned; ticks = t }) a)
      one true = one_later own most (record a { owned = owned; ticks = t }) (omega arith) g
      one false = f
