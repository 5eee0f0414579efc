-- Runs that stayed, and between them some that have less.
use Rattle.std.proofs.Common.{◌≡◌, ℕ, zero, suc, ◌+◌, ◌-◌, ◌^◌, ◌<◌, ◌≤◌, ◌⊎◌, inl, inr, Bool, true, false, ◌&&◌, ◌||◌, not, List, [], ◌∷◌, ◌++◌, length, get_or, take, drop, max, min, refl, sym, ap, subst, ◌∙◌, arith}
use Rattle.std.specs.Prelude.{nat_le, nat_lt}
use Rattle.std.specs.Bool.{beq}
use Rattle.std.specs.List.{AllByRecursion, list_all, list_any}
use Rattle.std.proofs.lemmas.Bool.Decides.{nat_tests}
use Rattle.std.proofs.lemmas.List.{take-append-drop}
use Rattle.cf_base.specs.declared.spans.Span.{Span}
use Rattle.cf_ask_rule.proofs.Flags.{contains_append, length_flags}
use Rattle.cf_ask_rule.proofs.Following.{flag_at}
use Rattle.cf_ask_rule.specs.Narrowing.{IsCut, Narrows}
use Rattle.cf_ask_rule.specs.Nexts.{lacks_at}
use Rattle.cf_ask_rule.specs.Sights.{flags_of}
use Rattle.cf_model.specs.Missing.{View}
use Rattle.cf_model.specs.Words.{passes_at}
use Rattle.cf_ranges.specs.Positions.{contains, in_span, within}

either : (a b : Bool) → (a || b) ≡ true → (a ≡ true) ⊎ (b ≡ true)
either true b h = inl refl
either false b h = inr h

both : (a b : Bool) → (a && b) ≡ true → (a ≡ true) × (b ≡ true)
both true b h = (refl, h)
both false b h = let z : false ≡ true = h in cc

or_left : (a b : Bool) → a ≡ true → (a || b) ≡ true
or_left a b e = ap (λ x. x || b) e

or_right : (a b : Bool) → b ≡ true → (a || b) ≡ true
or_right true b e = refl
or_right false b e = e

-- a run that lies in one of the others

in_run : (r s : Span) (p : ℕ) → (nat_le r.start s.start && nat_le (s.start + s.len) (r.start + r.len)) ≡ true → in_span s p ≡ true → in_span r p ≡ true
in_run r s p h k = one r.start r.len s.start s.len p h k where
  one : (a b c d p : ℕ) → (nat_le a c && nat_le (c + d) (a + b)) ≡ true → within c (c + d) p ≡ true → within a (a + b) p ≡ true
  one a b c d p h k = grind (arith, nat_tests)

in_some : (runs : List Span) (s : Span) (p : ℕ) → list_any (λ r. nat_le r.start s.start && nat_le (s.start + s.len) (r.start + r.len)) runs ≡ true → in_span s p ≡ true → contains runs p ≡ true
in_some [] s p h k = h
in_some (r ∷ rs) s p h k = elim (either (nat_le r.start s.start && nat_le (s.start + s.len) (r.start + r.len)) (list_any (λ r. nat_le r.start s.start && nat_le (s.start + s.len) (r.start + r.len)) rs) h) [
  | inl e ↦ or_left (in_span r p) (contains rs p) (in_run r s p e k)
  | inr e ↦ or_right (in_span r p) (contains rs p) (in_some rs s p e k)
]

pub less_in : (others runs : List Span) (p : ℕ) → list_all (λ s. list_any (λ r. nat_le r.start s.start && nat_le (s.start + s.len) (r.start + r.len)) others) runs ≡ true → contains runs p ≡ true → contains others p ≡ true
less_in others [] p h k = let z : false ≡ true = k in cc
less_in others (s ∷ ss) p h k =
    let c : (list_any (λ r. nat_le r.start s.start && nat_le (s.start + s.len) (r.start + r.len)) others ≡ true) × (list_all (λ s. list_any (λ r. nat_le r.start s.start && nat_le (s.start + s.len) (r.start + r.len)) others) ss ≡ true) =
    both (list_any (λ r. nat_le r.start s.start && nat_le (s.start + s.len) (r.start + r.len)) others) (list_all (λ s. list_any (λ r. nat_le r.start s.start && nat_le (s.start + s.len) (r.start + r.len)) others) ss) h in
    elim (either (in_span s p) (contains ss p) k) [
      | inl e ↦ in_some others s p c.0 e
      | inr e ↦ less_in others ss p c.1 e
    ]

-- all of them lie within the first and the last

within_run : (a b lo hi p : ℕ) → lo ≤ a → min (a + b) (2 ^ 32) ≤ hi → p < 2 ^ 32 → within a (a + b) p ≡ true → within lo hi p ≡ true
within_run a b lo hi p l h s k = grind (arith, nat_tests)

pub in_hull : (lo hi : ℕ) (runs : List Span) (p : ℕ) → AllByRecursion (λ r. lo ≤ r.start) runs → AllByRecursion (λ r. min (r.start + r.len) (2 ^ 32) ≤ hi) runs → p < 2 ^ 32 → contains runs p ≡ true → within lo hi p ≡ true
in_hull lo hi [] p l h s k = let z : false ≡ true = k in cc
in_hull lo hi (r ∷ rs) p l h s k = elim (either (in_span r p) (contains rs p) k) [
  | inl e ↦ within_run r.start r.len lo hi p l.0 h.0 s e
  | inr e ↦ in_hull lo hi rs p l.1 h.1 s e
]

-- without what later runs have of it

pub cut_both : (a b c x : Bool) → a ≡ true → (a ≡ true → b ≡ false → x ≡ true) → (b ≡ true → c ≡ false → x ≡ true) → c ≡ false → x ≡ true
cut_both a true c x e f g k = g refl k
cut_both a false c x e f g k = f e refl

pub positive : (n : ℕ) → (n ≡ 0 → ⊥) → 0 < n
positive zero f = absurd (f refl)
positive (suc n) f = omega arith

pub contains_at : (runs : List Span) (k p : ℕ) (d : Span) → k < length runs → in_span (get_or runs k d) p ≡ true → contains runs p ≡ true
contains_at [] k p d l h = absurd (omega arith)
contains_at (r ∷ rs) zero p d l h = or_left (in_span r p) (contains rs p) h
contains_at (r ∷ rs) (suc k) p d l h = or_right (in_span r p) (contains rs p) (contains_at rs k p d (omega arith) h)

-- what stayed, and what is between

less_between : (f m n b : Bool) → (n ≡ true → m ≡ true) → (f || (n || b)) ≡ true → (f || (m || b)) ≡ true
less_between true m n b h k = refl
less_between false m true b h k = or_left m b (h refl)
less_between false m false b h k = or_right m b k

same_between : (f m n b : Bool) → (m ≡ true → n ≡ true) → (f || (m || b)) ≡ true → (f || (n || b)) ≡ true
same_between true m n b h k = refl
same_between false true n b h k = or_left n b (h refl)
same_between false false n b h k = or_right n b k

three : (f m b : List Span) (p : ℕ) → contains (f ++ (m ++ b)) p ≡ (contains f p || (contains m p || contains b p))
three f m b p = contains_append f (m ++ b) p ∙ ap (λ x. contains f p || x) (contains_append m b p)

cut_middle : (f m n b : List Span) (lo hi : ℕ) → ((p : ℕ) → contains n p ≡ true → contains m p ≡ true) → ((p : ℕ) → p < 2 ^ 32 → within lo hi p ≡ false → contains m p ≡ true → contains n p ≡ true) → IsCut (f ++ (m ++ b)) (f ++ (n ++ b)) lo hi
cut_middle f m n b lo hi less same = record {
  less = λ p k. three f m b p ∙ less_between (contains f p) (contains m p) (contains n p) (contains b p) (less p) (sym (three f n b p) ∙ k);
  same = λ p s e k. three f n b p ∙ same_between (contains f p) (contains m p) (contains n p) (contains b p) (same p s e) (sym (three f m b p) ∙ k);
}

joined : (f r b : List Span) (i : ℕ) (all : List Span) → f ++ r ≡ all → b ++ drop i r ≡ r → f ++ (b ++ drop i r) ≡ all
joined f r b i all h k = ap (λ (l : List Span). f ++ l) k ∙ h

cut_rest : (old new r s b a : List Span) (front i j lo hi : ℕ) → take front old ++ r ≡ old → take front new ++ s ≡ new → b ++ drop i r ≡ r → a ++ drop j s ≡ s → take front old ≡ take front new → drop i r ≡ drop j s
    → ((p : ℕ) → contains a p ≡ true → contains b p ≡ true) → ((p : ℕ) → p < 2 ^ 32 → within lo hi p ≡ false → contains b p ≡ true → contains a p ≡ true) → IsCut old new lo hi
cut_rest old new r s b a front i j lo hi ho hn hb ha f e less same =
    subst (λ (l : List Span). IsCut l new lo hi) (joined (take front old) r b i old ho hb)
    (subst (λ (l : List Span). IsCut (take front old ++ (b ++ drop i r)) l lo hi)
    (ap (λ (l : List Span). l ++ (a ++ drop i r)) f ∙ ap (λ (l : List Span). take front new ++ (a ++ l)) e ∙ joined (take front new) s a j new hn ha)
    (cut_middle (take front old) b a (drop i r) lo hi less same))

-- the runs between those at the front and at the end that are the same
pub cut_is : (old new r s b a : List Span) (front back lo hi : ℕ) → r ≡ drop front old → s ≡ drop front new → b ≡ take (length r - back) r → a ≡ take (length s - back) s → take front old ≡ take front new → drop (length r - back) r ≡ drop (length s - back) s
    → ((p : ℕ) → contains a p ≡ true → contains b p ≡ true) → ((p : ℕ) → p < 2 ^ 32 → within lo hi p ≡ false → contains b p ≡ true → contains a p ≡ true) → IsCut old new lo hi
cut_is old new r s b a front back lo hi er es eb ea f e less same = cut_rest old new r s b a front (length r - back) (length s - back) lo hi (rest front old r er) (rest front new s es) (ends (length r - back) r b eb) (ends (length s - back) s a ea) f e less same where
  rest : (k : ℕ) (xs ys : List Span) → ys ≡ drop k xs → take k xs ++ ys ≡ xs
  rest k xs ys e = ap (λ (l : List Span). take k xs ++ l) e ∙ take-append-drop k xs

  ends : (k : ℕ) (xs ys : List Span) → ys ≡ take k xs → ys ++ drop k xs ≡ xs
  ends k xs ys e = ap (λ (l : List Span). l ++ drop k xs) e ∙ take-append-drop k xs

-- views, by their runs

lacks_by : (v : View) (absent bare : List Span) (size p : ℕ) → v.lacks ≡ flags_of (absent ++ bare) size → lacks_at v p ≡ (nat_lt p size && (contains absent p || contains bare p))
lacks_by v absent bare size p e = ap (λ (l : List Bool). passes_at (λ b. b) l p) e ∙ flag_at (absent ++ bare) size p ∙ ap (λ b. nat_lt p size && b) (contains_append absent bare p)

below : (p n : ℕ) → nat_lt p n ≡ true → p < n
below p n h = grind (arith, nat_tests)

each : (x a b c d : Bool) → (a ≡ true → c ≡ true) → (b ≡ true → d ≡ true) → (x && (a || b)) ≡ true → (x && (c || d)) ≡ true
each true true b c d f g h = or_left c d (f refl)
each true false b c d f g h = or_right c d (g h)
each false a b c d f g h = h

within_first : (s e t f p : ℕ) → within (min s t) (max e f) p ≡ false → within s e p ≡ false
within_first s e t f p h = grind (arith, nat_tests)

within_second : (s e t f p : ℕ) → within (min s t) (max e f) p ≡ false → within t f p ≡ false
within_second s e t f p h = grind (arith, nat_tests)

pub narrows : (u v : View) (ua ub va vb : List Span) (n s e t f : ℕ) → u.lacks ≡ flags_of (ua ++ ub) n → v.lacks ≡ flags_of (va ++ vb) n → n ≤ 2 ^ 24 → v.whole ≡ u.whole → v.populated ≡ u.populated → IsCut ua va s e → IsCut ub vb t f → Narrows u v (min s t) (max e f)
narrows u v ua ub va vb n s e t f eu ev small whole populated a b = record {
  size = ap length ev ∙ length_flags (va ++ vb) n ∙ sym (length_flags (ua ++ ub) n) ∙ ap length (sym eu);
  whole = whole;
  populated = populated;
  less = λ p k. lacks_by u ua ub n p eu ∙ each (nat_lt p n) (contains va p) (contains vb p) (contains ua p) (contains ub p) (a.less p) (b.less p) (sym (lacks_by v va vb n p ev) ∙ k);
  same = λ p out k.
      let l : (nat_lt p n ≡ true) × ((contains ua p || contains ub p) ≡ true) = both (nat_lt p n) (contains ua p || contains ub p) (sym (lacks_by u ua ub n p eu) ∙ k) in
      let c : p < n = below p n l.0 in
      lacks_by v va vb n p ev ∙ each (nat_lt p n) (contains ua p) (contains ub p) (contains va p) (contains vb p) (λ h. a.same p (omega arith) (within_first s e t f p out) h) (λ h. b.same p (omega arith) (within_second s e t f p out) h) (sym (lacks_by u ua ub n p eu) ∙ k);
}

pub same_flag : (a b : Bool) → not (beq a b) ≡ false → a ≡ b
same_flag true true h = refl
same_flag true false h = let z : true ≡ false = h in cc
same_flag false true h = let z : true ≡ false = h in cc
same_flag false false h = refl
