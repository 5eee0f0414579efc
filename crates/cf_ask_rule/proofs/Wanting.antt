-- Wanted blocks, by the positions that are missing and needed.
use Rattle.std.proofs.Common.{◌≡◌, ℕ, zero, suc, ◌+◌, ◌-◌, ◌*◌, ◌/◌, ◌<◌, ◌≤◌, ◌⊎◌, inl, inr, Bool, true, false, ◌&&◌, ◌||◌, List, [], ◌∷◌, length, take, drop, max, min, refl, sym, ap, ◌∙◌, arith, eqb}
use Rattle.std.specs.List.{list_any}
use Rattle.std.proofs.lemmas.Bool.Decides.{nat_tests}
use Rattle.cf_base.specs.declared.ids.ItemId.{ItemId}
use Rattle.cf_base.specs.declared.spans.Span.{Span}
use Rattle.cf_ask_rule.specs.Nexts.{Wants, is_needed, lacks_at}
use Rattle.cf_model.specs.Asks.{is_wanted}
use Rattle.cf_model.specs.Missing.{View, Wait, any_between, misses_block, needed}
use Rattle.cf_model.specs.Words.{passes_at}
use Rattle.cf_ranges.specs.Positions.{contains, in_span, within}

-- flags, by place

abbrev pub flag : List Bool → ℕ → Bool
flag flags p = passes_at (λ b. b) flags p

either : (a b : Bool) → (a || b) ≡ true → (a ≡ true) ⊎ (b ≡ true)
either true b h = inl refl
either false b h = inr h

both : (a b : Bool) → (a && b) ≡ true → (a ≡ true) × (b ≡ true)
both true b h = (refl, h)
both false b h = let z : false ≡ true = h in cc

or_left : (a b : Bool) → a ≡ true → (a || b) ≡ true
or_left a b e = ap (λ x. x || b) e

or_right : (a b : Bool) → b ≡ true → (a || b) ≡ true
or_right true b e = refl
or_right false b e = e

and_true : (a b : Bool) → a ≡ true → b ≡ true → (a && b) ≡ true
and_true a b e f = ap (λ x. x && b) e ∙ f

untrue : (b : Bool) → (b ≡ true → ⊥) → b ≡ false
untrue true f = absurd (f refl)
untrue false f = refl

pub flag_below : (flags : List Bool) (p : ℕ) → flag flags p ≡ true → p < length flags
flag_below [] p h = let z : false ≡ true = h in cc
flag_below (x ∷ xs) zero h = omega arith
flag_below (x ∷ xs) (suc p) h = let k : p < length xs = flag_below xs p h in omega arith

flag_drop : (s k : ℕ) (flags : List Bool) → flag (drop s flags) k ≡ flag flags (s + k)
flag_drop zero k flags = let e : k ≡ 0 + k = omega arith in ap (flag flags) e
flag_drop (suc s) k [] = refl
flag_drop (suc s) k (x ∷ xs) = let e : suc (s + k) ≡ suc s + k = omega arith in flag_drop s k xs ∙ ap (flag (x ∷ xs)) e

some_taken : (n : ℕ) (flags : List Bool) → list_any (λ b. b) (take n flags) ≡ true → (k : ℕ) × (k < n) × (flag flags k ≡ true)
some_taken zero flags h = let z : false ≡ true = h in cc
some_taken (suc n) [] h = let z : false ≡ true = h in cc
some_taken (suc n) (x ∷ xs) h = elim (either x (list_any (λ b. b) (take n xs)) h) [
  | inl e ↦ (0, omega arith, e)
  | inr e ↦ let r : (k : ℕ) × (k < n) × (flag xs k ≡ true) = some_taken n xs e in let l : r.0 < n = r.1 in (suc r.0, omega arith, r.2)
]

taken : (n k : ℕ) (flags : List Bool) → k < n → flag flags k ≡ true → list_any (λ b. b) (take n flags) ≡ true
taken zero k flags l h = absurd (omega arith)
taken (suc n) k [] l h = h
taken (suc n) zero (x ∷ xs) l h = or_left x (list_any (λ b. b) (take n xs)) h
taken (suc n) (suc k) (x ∷ xs) l h = or_right x (list_any (λ b. b) (take n xs)) (taken n k xs (omega arith) h)

pub some_between : (flags : List Bool) (s e : ℕ) → any_between flags s e ≡ true → (p : ℕ) × (s ≤ p) × (p < e) × (flag flags p ≡ true)
some_between flags s e h = let r : (k : ℕ) × (k < e - s) × (flag (drop s flags) k ≡ true) = some_taken (e - s) (drop s flags) h in let l : r.0 < e - s = r.1 in (s + r.0, omega arith, omega arith, sym (flag_drop s r.0 flags) ∙ r.2)

pub hit_between : (flags : List Bool) (s e p : ℕ) → s ≤ p → p < e → flag flags p ≡ true → any_between flags s e ≡ true
hit_between flags s e p l m h = let q : s + (p - s) ≡ p = omega arith in taken (e - s) (p - s) (drop s flags) (omega arith) (flag_drop s (p - s) flags ∙ ap (flag flags) q ∙ h)

inside : (u n p : ℕ) → within u (u + n) p ≡ true → (u ≤ p) × (p < u + n)
inside u n p h = (from u n p h, to u n p h) where
  from : (u n p : ℕ) → within u (u + n) p ≡ true → u ≤ p
  from u n p h = grind (arith, nat_tests)

  to : (u n p : ℕ) → within u (u + n) p ≡ true → p < u + n
  to u n p h = grind (arith, nat_tests)

is_inside : (u n p : ℕ) → u ≤ p → p < u + n → within u (u + n) p ≡ true
is_inside u n p h k = grind (arith, nat_tests)

-- a wait that needs a missing position misses a byte of its block

hit_one : (v : View) (w : Wait) (p : ℕ) → lacks_at v p ≡ true → in_span (needed v w) p ≡ true → misses_block v w (p / 4096) ≡ true
hit_one v w p l h =
    let n : Span = needed v w in
    let a : (n.start ≤ p) × (p < n.start + n.len) = inside n.start n.len p h in
    let b : n.start ≤ p = a.0 in
    let c : p < n.start + n.len = a.1 in
    hit_between v.lacks (max n.start (4096 * (p / 4096))) (min (n.start + n.len) (4096 * (p / 4096) + 4096)) p (omega arith) (omega arith) l

pub hit_all : (item : ItemId) (v : View) (ws : List Wait) (p : ℕ) → lacks_at v p ≡ true → is_needed item v ws p ≡ true → is_wanted item v ws (p / 4096) ≡ true
hit_all item v [] p l h = h
hit_all item v (w ∷ ws) p l h = elim (either (eqb w.item.0 item.0 && in_span (needed v w) p) (is_needed item v ws p) h) [
  | inl e ↦
      let k : (eqb w.item.0 item.0 ≡ true) × (in_span (needed v w) p ≡ true) = both (eqb w.item.0 item.0) (in_span (needed v w) p) e in
      or_left (eqb w.item.0 item.0 && misses_block v w (p / 4096)) (is_wanted item v ws (p / 4096)) (and_true (eqb w.item.0 item.0) (misses_block v w (p / 4096)) k.0 (hit_one v w p l k.1))
  | inr e ↦ or_right (eqb w.item.0 item.0 && misses_block v w (p / 4096)) (is_wanted item v ws (p / 4096)) (hit_all item v ws p l e)
]

-- and the other way round

pub some_missed : (item : ItemId) (v : View) (ws : List Wait) (b : ℕ) → is_wanted item v ws b ≡ true → (p : ℕ) × (4096 * b ≤ p) × (p < 4096 * b + 4096) × (lacks_at v p ≡ true) × (is_needed item v ws p ≡ true)
some_missed item v [] b h = let z : false ≡ true = h in cc
some_missed item v (w ∷ ws) b h = elim (either (eqb w.item.0 item.0 && misses_block v w b) (is_wanted item v ws b) h) [
  | inl e ↦
      let k : (eqb w.item.0 item.0 ≡ true) × (misses_block v w b ≡ true) = both (eqb w.item.0 item.0) (misses_block v w b) e in
      let n : Span = needed v w in
      let r : (p : ℕ) × (max n.start (4096 * b) ≤ p) × (p < min (n.start + n.len) (4096 * b + 4096)) × (flag v.lacks p ≡ true) = some_between v.lacks (max n.start (4096 * b)) (min (n.start + n.len) (4096 * b + 4096)) k.1 in
      let f : max n.start (4096 * b) ≤ r.0 = r.1 in
      let g : r.0 < min (n.start + n.len) (4096 * b + 4096) = r.2 in
      (r.0, omega arith, omega arith, r.3, or_left (eqb w.item.0 item.0 && in_span n r.0) (is_needed item v ws r.0) (and_true (eqb w.item.0 item.0) (in_span n r.0) k.0 (is_inside n.start n.len r.0 (omega arith) (omega arith))))
  | inr e ↦
      let r : (p : ℕ) × (4096 * b ≤ p) × (p < 4096 * b + 4096) × (lacks_at v p ≡ true) × (is_needed item v ws p ≡ true) = some_missed item v ws b e in
      (r.0, r.1, r.2, r.3, or_right (eqb w.item.0 item.0 && in_span (needed v w) r.0) (is_needed item v ws r.0) r.4)
]

pub wants : (item : ItemId) (v : View) (ws : List Wait) (needs : List Span) → ((p : ℕ) → p < length v.lacks → contains needs p ≡ is_needed item v ws p) → Wants v needs (is_wanted item v ws)
wants item v ws needs h = record {
  hit = λ p l k. hit_all item v ws p l (sym (h p (flag_below v.lacks p l)) ∙ k);
  miss = λ b f. untrue (is_wanted item v ws b) (λ t.
      let r : (p : ℕ) × (4096 * b ≤ p) × (p < 4096 * b + 4096) × (lacks_at v p ≡ true) × (is_needed item v ws p ≡ true) = some_missed item v ws b t in
      let z : true ≡ false = sym (and_true (lacks_at v r.0) (contains needs r.0) r.3 (h r.0 (flag_below v.lacks r.0 r.3) ∙ r.4)) ∙ f r.0 r.1 r.2 in
      not_so z);
} where
  not_so : true ≡ false → ⊥
  not_so z = cc
