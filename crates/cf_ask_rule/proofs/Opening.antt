-- Open blocks, from one to the next.
use Rattle.std.proofs.Common.{◌≡◌, ℕ, zero, suc, ◌+◌, ◌-◌, ◌*◌, ◌/◌, ◌<◌, ◌≤◌, ◌⊎◌, inl, inr, Bool, true, false, ◌&&◌, not, Some, None, List, [], ◌∷◌, ◌++◌, length, refl, sym, ap, ◌∙◌, arith}
use Rattle.std.specs.Prelude.{filter}
use Rattle.std.proofs.lemmas.Bool.{cases_lt}
use Rattle.cf_base.specs.declared.spans.Span.{Span}
use Rattle.cf_ask_rule.specs.Nexts.{IsNext, Wants, lacks_at}
use Rattle.cf_ask_rule.proofs.Runs.{one_more, none_more}
use Rattle.cf_ask_rule.proofs.Wanting.{flag_below}
use Rattle.cf_model.specs.Missing.{View}
use Rattle.cf_model.specs.Words.{counting}
use Rattle.cf_ranges.specs.Positions.{contains}

-- blocks that do not pass add nothing
pub filter_gap : (f : ℕ → Bool) (i n : ℕ) → ((k : ℕ) → i ≤ k → k < i + n → f k ≡ false) → filter f (counting 0 (i + n)) ≡ filter f (counting 0 i)
filter_gap f i zero h = let e : i + zero ≡ i = omega arith in ap (λ k. filter f (counting 0 k)) e
filter_gap f i (suc n) h = sym (none_more f (i + n) (i + suc n) (filter f (counting 0 i)) (omega arith) (sym (filter_gap f i n (λ k l m. h k l (omega arith)))) (h (i + n) (omega arith) (omega arith)))

gap_to : (f : ℕ → Bool) (i j : ℕ) → i ≤ j → ((k : ℕ) → i ≤ k → k < j → f k ≡ false) → filter f (counting 0 j) ≡ filter f (counting 0 i)
gap_to f i j l h = let e : j ≡ i + (j - i) = omega arith in ap (λ k. filter f (counting 0 k)) e ∙ filter_gap f i (j - i) (λ k a b. h k a (omega arith))

and_left : (a b : Bool) → a ≡ false → (a && b) ≡ false
and_left a b e = ap (λ x. x && b) e

and_right : (a b : Bool) → b ≡ false → (a && b) ≡ false
and_right true b e = e
and_right false b e = refl

pub unwanted : (v : View) (needs : List Span) (w : ℕ → Bool) (next at : ℕ) → Wants v needs w → ((p : ℕ) → 4096 * next ≤ p → p < at → (lacks_at v p && contains needs p) ≡ false) → (k : ℕ) → next ≤ k → k < at / 4096 → w k ≡ false
unwanted v needs w next at h f k l m = h.miss k (λ p a b. f p (omega arith) (omega arith))

-- the block of the next position is pushed
pub pushed : (v : View) (needs owned : List Span) (w o : ℕ → Bool) (next at : ℕ) (out : List ℕ) → Wants v needs w → ((b : ℕ) → contains owned b ≡ o b)
    → IsNext (λ p. lacks_at v p && contains needs p) (4096 * next) (Some at) → contains owned (at / 4096) ≡ false → out ≡ filter (λ b. w b && not (o b)) (counting 0 next)
    → out ++ at / 4096 ∷ [] ≡ filter (λ b. w b && not (o b)) (counting 0 (at / 4096 + 1))
pushed v needs owned w o next at out h e i z q =
    let a : 4096 * next ≤ at = i.0 in
    one_more (λ b. w b && not (o b)) (at / 4096) (at / 4096 + 1) out refl
    (q ∙ sym (gap_to (λ b. w b && not (o b)) next (at / 4096) (omega arith) (λ k l m. and_left (w k) (not (o k)) (unwanted v needs w next at h i.2 k l m))))
    (ap (λ x. x && not (o (at / 4096))) (h.hit at (both (lacks_at v at) (contains needs at) i.1).0 (both (lacks_at v at) (contains needs at) i.1).1) ∙ ap not (sym (e (at / 4096)) ∙ z))
  where
    both : (a b : Bool) → (a && b) ≡ true → (a ≡ true) × (b ≡ true)
    both true b h = (refl, h)
    both false b h = let y : false ≡ true = h in cc

-- owned blocks are left out
pub skipped : (v : View) (needs owned : List Span) (w o : ℕ → Bool) (next at end : ℕ) (out : List ℕ) → Wants v needs w → ((b : ℕ) → contains owned b ≡ o b)
    → IsNext (λ p. lacks_at v p && contains needs p) (4096 * next) (Some at) → at / 4096 ≤ end → ((b : ℕ) → at / 4096 ≤ b → b < end → contains owned b ≡ true) → out ≡ filter (λ b. w b && not (o b)) (counting 0 next)
    → out ≡ filter (λ b. w b && not (o b)) (counting 0 end)
skipped v needs owned w o next at end out h e i l all q =
    let a : 4096 * next ≤ at = i.0 in
    q ∙ sym (gap_to (λ b. w b && not (o b)) next end (omega arith) (λ k x y. at_one k x y (cases_lt k (at / 4096))))
  where
    at_one : (k : ℕ) → next ≤ k → k < end → (k < at / 4096) ⊎ (at / 4096 ≤ k) → (w k && not (o k)) ≡ false
    at_one k x y (inl m) = and_left (w k) (not (o k)) (unwanted v needs w next at h i.2 k x m)
    at_one k x y (inr m) = and_right (w k) (not (o k)) (ap not (sym (e k) ∙ all k m y))

past : (v : View) (p : ℕ) → length v.lacks ≤ p → lacks_at v p ≡ false
past v p l = untrue (lacks_at v p) (λ t. let k : p < length v.lacks = flag_below v.lacks p t in absurd (omega arith)) where
  untrue : (b : Bool) → (b ≡ true → ⊥) → b ≡ false
  untrue true f = absurd (f refl)
  untrue false f = refl

-- where none is left, those are all
pub finished : (v : View) (needs : List Span) (w o : ℕ → Bool) (next : ℕ) (out : List ℕ) → Wants v needs w → IsNext (λ p. lacks_at v p && contains needs p) (4096 * next) None
    → out ≡ filter (λ b. w b && not (o b)) (counting 0 next) → out ≡ filter (λ b. w b && not (o b)) (counting 0 ((length v.lacks + 4095) / 4096))
finished v needs w o next out h i q = q ∙ by (cases_lt next ((length v.lacks + 4095) / 4096)) where
  by : (next < (length v.lacks + 4095) / 4096) ⊎ ((length v.lacks + 4095) / 4096 ≤ next) → filter (λ b. w b && not (o b)) (counting 0 next) ≡ filter (λ b. w b && not (o b)) (counting 0 ((length v.lacks + 4095) / 4096))
  by (inl l) = sym (gap_to (λ b. w b && not (o b)) next ((length v.lacks + 4095) / 4096) (omega arith) (λ k x y. and_left (w k) (not (o k)) (h.miss k (λ p a b. i p (omega arith)))))
  by (inr l) = gap_to (λ b. w b && not (o b)) ((length v.lacks + 4095) / 4096) next l (λ k x y. and_left (w k) (not (o k)) (h.miss k (λ p a b. and_left (lacks_at v p) (contains needs p) (past v p (omega arith)))))
