-- Blocks that are all owned lie in one run.
use Rattle.std.proofs.Common.{◌≡◌, ℕ, zero, suc, ◌+◌, ◌<◌, ◌≤◌, ◌⊎◌, inl, inr, Bool, true, false, ◌&&◌, ◌||◌, List, [], ◌∷◌, refl, sym, ap, ◌∙◌, arith}
use Rattle.std.specs.Prelude.{nat_le}
use Rattle.std.specs.List.{list_all, list_any}
use Rattle.std.proofs.lemmas.Bool.{cases_lt}
use Rattle.std.proofs.lemmas.Bool.Decides.{nat_tests}
use Rattle.cf_base.specs.declared.spans.Span.{Span}
use Rattle.cf_ask_rule.proofs.Places.{has_places}
use Rattle.cf_ask_rule.specs.Places.{places}
use Rattle.cf_model.specs.Requests.{has_block}
use Rattle.cf_model.specs.Words.{counting}
use Rattle.cf_ranges.specs.Positions.{IsRuns, IsRunsFrom, contains, in_span, within}

same_bool : (a b : Bool) → (a ≡ true → b ≡ true) → (b ≡ true → a ≡ true) → a ≡ b
same_bool true true f g = refl
same_bool true false f g = sym (f refl)
same_bool false true f g = g refl
same_bool false false f g = refl

both : (a b : Bool) → (a && b) ≡ true → (a ≡ true) × (b ≡ true)
both true b h = (refl, h)
both false b h = let z : false ≡ true = h in cc

either : (a b : Bool) → (a || b) ≡ true → (a ≡ true) ⊎ (b ≡ true)
either true b h = inl refl
either false b h = inr h

one_of : (a b : Bool) → (a ≡ true) ⊎ (b ≡ true) → (a || b) ≡ true
one_of true b h = refl
one_of false true h = refl
one_of false false (inl h) = h
one_of false false (inr h) = h

each : (f : ℕ → Bool) (s n p : ℕ) → list_all f (counting s n) ≡ true → s ≤ p → p < s + n → f p ≡ true
each f s zero p h l m = absurd (omega arith)
each f s (suc n) p h l m = elim (cases_lt s p) [
  | inl k ↦ each f (s + 1) n p (both (f s) (list_all f (counting (s + 1) n)) h).1 (omega arith) (omega arith)
  | inr k ↦ let e : s ≡ p = omega arith in ap f (sym e) ∙ (both (f s) (list_all f (counting (s + 1) n)) h).0
]

all_of : (f : ℕ → Bool) (s n : ℕ) → ((p : ℕ) → s ≤ p → p < s + n → f p ≡ true) → list_all f (counting s n) ≡ true
all_of f s zero h = refl
all_of f s (suc n) h = ap (λ b. b && list_all f (counting (s + 1) n)) (h s (omega arith) (omega arith)) ∙ all_of f (s + 1) n (λ p l m. h p (omega arith) (omega arith))

inside : (s e p : ℕ) → within s e p ≡ true → (s ≤ p) × (p < e)
inside s e p h = (from s e p h, to s e p h) where
  from : (s e p : ℕ) → within s e p ≡ true → s ≤ p
  from s e p h = grind (arith, nat_tests)

  to : (s e p : ℕ) → within s e p ≡ true → p < e
  to s e p h = grind (arith, nat_tests)

is_inside : (s e p : ℕ) → s ≤ p → p < e → within s e p ≡ true
is_inside s e p h k = grind (arith, nat_tests)

spans : (u v s e : ℕ) → u ≤ s → e ≤ v → (nat_le u s && nat_le e v) ≡ true
spans u v s e h k = grind (arith, nat_tests)

spanned : (u v s e : ℕ) → (nat_le u s && nat_le e v) ≡ true → (u ≤ s) × (e ≤ v)
spanned u v s e h = (from u v s e h, to u v s e h) where
  from : (u v s e : ℕ) → (nat_le u s && nat_le e v) ≡ true → u ≤ s
  from u v s e h = grind (arith, nat_tests)

  to : (u v s e : ℕ) → (nat_le u s && nat_le e v) ≡ true → e ≤ v
  to u v s e h = grind (arith, nat_tests)

below : (low p : ℕ) (runs : List Span) → IsRunsFrom low runs → contains runs p ≡ true → low ≤ p
below low p [] h e = let z : false ≡ true = e in cc
below low p (r ∷ rs) h e = let k : low ≤ r.start = h.0 in elim (either (in_span r p) (contains rs p) e) [
  | inl i ↦ let m : r.start ≤ p = (inside r.start (r.start + r.len) p i).0 in omega arith
  | inr i ↦ let m : r.start + r.len + 1 ≤ p = below (r.start + r.len + 1) p rs h.3 i in omega arith
]

abbrev pub covers : List Span → ℕ → ℕ → Bool
covers runs s e = list_any (λ r. nat_le r.start s && nat_le e (r.start + r.len)) runs

behind : (r : Span) (rs : List Span) (p : ℕ) → r.start + r.len ≤ p → (in_span r p ≡ true) ⊎ (contains rs p ≡ true) → contains rs p ≡ true
behind r rs p k (inl j) = let b : p < r.start + r.len = (inside r.start (r.start + r.len) p j).1 in absurd (omega arith)
behind r rs p k (inr j) = j

one_run : (low s e : ℕ) (runs : List Span) → IsRunsFrom low runs → s < e → ((p : ℕ) → s ≤ p → p < e → contains runs p ≡ true) → covers runs s e ≡ true
one_run low s e [] h l f = let z : false ≡ true = f s (omega arith) l in cc
one_run low s e (r ∷ rs) h l f = elim (either (in_span r s) (contains rs s) (f s (omega arith) l)) [
  | inl i ↦ elim (cases_lt (r.start + r.len) e) [
    | inl m ↦
        let a : s < r.start + r.len = (inside r.start (r.start + r.len) s i).1 in
        elim (either (in_span r (r.start + r.len)) (contains rs (r.start + r.len)) (f (r.start + r.len) (omega arith) m)) [
          | inl j ↦ let b : r.start + r.len < r.start + r.len = (inside r.start (r.start + r.len) (r.start + r.len) j).1 in absurd (omega arith)
          | inr j ↦ let b : r.start + r.len + 1 ≤ r.start + r.len = below (r.start + r.len + 1) (r.start + r.len) rs h.3 j in absurd (omega arith)
        ]
    | inr m ↦ one_of _ (covers rs s e) (inl (spans r.start (r.start + r.len) s e (inside r.start (r.start + r.len) s i).0 m))
  ]
  | inr i ↦
      let a : r.start + r.len + 1 ≤ s = below (r.start + r.len + 1) s rs h.3 i in
      one_of _ (covers rs s e) (inr (one_run (r.start + r.len + 1) s e rs h.3 l (λ p x y. behind r rs p (omega arith) (either (in_span r p) (contains rs p) (f p x y)))))
]

covered : (s e p : ℕ) (runs : List Span) → covers runs s e ≡ true → s ≤ p → p < e → contains runs p ≡ true
covered s e p [] h l m = h
covered s e p (r ∷ rs) h l m = elim (either (nat_le r.start s && nat_le e (r.start + r.len)) (covers rs s e) h) [
  | inl i ↦
      let a : (r.start ≤ s) × (e ≤ r.start + r.len) = spanned r.start (r.start + r.len) s e i in
      let b : r.start ≤ s = a.0 in
      let c : e ≤ r.start + r.len = a.1 in
      one_of (in_span r p) (contains rs p) (inl (is_inside r.start (r.start + r.len) p (omega arith) (omega arith)))
  | inr i ↦ one_of (in_span r p) (contains rs p) (inr (covered s e p rs i l m))
]

all_same : (f g : ℕ → Bool) (xs : List ℕ) → ((x : ℕ) → f x ≡ g x) → list_all f xs ≡ list_all g xs
all_same f g [] h = refl
all_same f g (x ∷ xs) h = ap (λ b. b && list_all f xs) (h x) ∙ ap (λ b. g x && b) (all_same f g xs h)

-- all of some blocks are owned where one run has them
pub all_owned : (runs : List Span) (s n : ℕ) → IsRuns runs → 0 < n → list_all (has_block (places runs)) (counting s n) ≡ covers runs s (s + n)
all_owned runs s n h l = all_same (has_block (places runs)) (contains runs) (counting s n) (has_places runs) ∙ same_bool _ _
    (λ e. one_run 0 s (s + n) runs h (omega arith) (λ p x y. each (contains runs) s n p e x y))
    (λ e. all_of (contains runs) s n (λ p x y. covered s (s + n) p runs e x y))
