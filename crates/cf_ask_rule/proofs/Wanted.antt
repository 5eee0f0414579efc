-- Whether a run of blocks has a wanted one, by the next position that is missing and needed.
use Rattle.std.proofs.Common.{◌≡◌, ℕ, zero, suc, ◌+◌, ◌-◌, ◌*◌, ◌/◌, ◌<◌, ◌≤◌, ◌⊎◌, inl, inr, Bool, true, false, ◌&&◌, ◌||◌, Some, None, List, [], ◌∷◌, drop, get_or, length, min, refl, sym, ap, ◌∙◌, arith}
use Rattle.std.specs.Prelude.{nat_lt}
use Rattle.std.specs.List.{list_any}
use Rattle.std.proofs.lemmas.Bool.{cases_lt}
use Rattle.std.proofs.lemmas.Bool.Decides.{nat_tests}
use Rattle.std.proofs.lemmas.List.{drop_more}
use Rattle.cf_base.specs.declared.spans.Span.{Span}
use Rattle.cf_ask_rule.specs.Nexts.{IsNext, Wants, lacks_at}
use Rattle.cf_ask_rule.proofs.Opening.{unwanted}
use Rattle.cf_ask_rule.proofs.Wanting.{flag_below}
use Rattle.cf_model.specs.Missing.{View}
use Rattle.cf_model.specs.Words.{counting}
use Rattle.cf_ranges.specs.Positions.{contains}

some_in : (w : ℕ → Bool) (s n k : ℕ) → k < n → w (s + k) ≡ true → list_any w (counting s n) ≡ true
some_in w s zero k l h = absurd (omega arith)
some_in w s (suc n) zero l h = let e : s ≡ s + zero = omega arith in ap (λ b. b || list_any w (counting (s + 1) n)) (ap w e ∙ h)
some_in w s (suc n) (suc k) l h = right (w s) (some_in w (s + 1) n k (omega arith) (ap w e ∙ h)) where
  e : s + 1 + k ≡ s + suc k
  e = omega arith

  right : (b : Bool) → list_any w (counting (s + 1) n) ≡ true → (b || list_any w (counting (s + 1) n)) ≡ true
  right true g = refl
  right false g = g

none_in : (w : ℕ → Bool) (s n : ℕ) → ((k : ℕ) → s ≤ k → k < s + n → w k ≡ false) → list_any w (counting s n) ≡ false
none_in w s zero h = refl
none_in w s (suc n) h = ap (λ b. b || list_any w (counting (s + 1) n)) (h s (omega arith) (omega arith)) ∙ none_in w (s + 1) n (λ k l m. h k (omega arith) (omega arith))

is_less : (a b : ℕ) → a < b → nat_lt a b ≡ true
is_less a b h = grind (arith, nat_tests)

not_less : (a b : ℕ) → b ≤ a → nat_lt a b ≡ false
not_less a b h = grind (arith, nat_tests)

both : (a b : Bool) → (a && b) ≡ true → (a ≡ true) × (b ≡ true)
both true b h = (refl, h)
both false b h = let z : false ≡ true = h in cc

-- the next is in the run, or beyond it
pub next_wanted : (v : View) (needs : List Span) (w : ℕ → Bool) (s n start at : ℕ) → Wants v needs w → start ≡ min s (length v.lacks) → IsNext (λ p. lacks_at v p && contains needs p) (4096 * start) (Some at)
    → nat_lt (at / 4096 - start) n ≡ list_any w (counting s n)
next_wanted v needs w s n start at h e i = by (cases_lt (at / 4096 - s) n) where
  here : (lacks_at v at ≡ true) × (contains needs at ≡ true)
  here = both (lacks_at v at) (contains needs at) i.1

  low : 4096 * start ≤ at
  low = i.0

  below : at < length v.lacks
  below = flag_below v.lacks at here.0

  same : start ≡ s
  same = omega (arith, low, below, e)

  wanted : w (at / 4096) ≡ true
  wanted = h.hit at here.0 here.1

  by : (at / 4096 - s < n) ⊎ (n ≤ at / 4096 - s) → nat_lt (at / 4096 - start) n ≡ list_any w (counting s n)
  by (inl l) =
      let k : s + (at / 4096 - s) ≡ at / 4096 = omega (arith, low, same) in
      is_less (at / 4096 - start) n (omega (arith, same)) ∙ sym (some_in w s n (at / 4096 - s) l (ap w k ∙ wanted))
  by (inr l) = not_less (at / 4096 - start) n (omega (arith, same)) ∙ sym (none_in w s n (λ k x y. unwanted v needs w start at h i.2 k (omega (arith, same)) (omega arith)))

-- there is none
pub none_wanted : (v : View) (needs : List Span) (w : ℕ → Bool) (s n start : ℕ) → Wants v needs w → start ≡ min s (length v.lacks) → IsNext (λ p. lacks_at v p && contains needs p) (4096 * start) None → false ≡ list_any w (counting s n)
none_wanted v needs w s n start h e i = sym (none_in w s n (λ k x y. h.miss k (λ p a b. i p (omega arith))))

-- run by run

pub run_wanted : (w : ℕ → Bool) (i : ℕ) (runs : List Span) (d : Span) (b : Bool) → i < length runs → b ≡ list_any w (counting (get_or runs i d).start (get_or runs i d).len)
    → (b || list_any (λ r. list_any w (counting r.start r.len)) (drop (i + 1) runs)) ≡ list_any (λ r. list_any w (counting r.start r.len)) (drop i runs)
run_wanted w i runs d b l e =
    ap (λ x. x || list_any (λ r. list_any w (counting r.start r.len)) (drop (i + 1) runs)) e ∙ ap (λ (rs : List Span). list_any (λ r. list_any w (counting r.start r.len)) rs) (sym (drop_more runs i d l))

pub no_run : (w : ℕ → Bool) (i : ℕ) (runs : List Span) → length runs ≤ i → false ≡ list_any (λ r. list_any w (counting r.start r.len)) (drop i runs)
no_run w zero [] l = refl
no_run w zero (x ∷ xs) l = absurd (omega arith)
no_run w (suc i) [] l = refl
no_run w (suc i) (x ∷ xs) l = no_run w i xs (omega arith)
