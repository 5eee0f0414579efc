-- Flags by position, and the runs that they come from.
use Rattle.std.proofs.Common.{◌≡◌, ℕ, zero, suc, ◌+◌, ◌-◌, ◌<◌, ◌≤◌, Bool, true, false, ◌&&◌, ◌||◌, not, List, [], ◌∷◌, ◌++◌, length, take, drop, min, max, refl, sym, ap, ◌∙◌, arith}
use Rattle.std.specs.Prelude.{map, nat_lt}
use Rattle.std.specs.List.{list_any}
use Rattle.std.proofs.lemmas.Bool.Decides.{nat_tests}
use Rattle.std.proofs.lemmas.List.Folds.{list_any-append}
use Rattle.cf_base.specs.declared.spans.Span.{Span}
use Rattle.cf_model.specs.Missing.{View, any_between}
use Rattle.cf_model.specs.Words.{counting}
use Rattle.cf_ranges.specs.Positions.{contains, in_span, within, IsMissing, AddsAll}
use Rattle.cf_ask_rule.specs.Sights.{flags_of, meets, is_lacking, seen}

or_assoc : (a b c : Bool) → (a || (b || c)) ≡ ((a || b) || c)
or_assoc true b c = refl
or_assoc false b c = refl

pub contains_append : (xs ys : List Span) (p : ℕ) → contains (xs ++ ys) p ≡ (contains xs p || contains ys p)
contains_append [] ys p = refl
contains_append (x ∷ xs) ys p = ap (λ b. in_span x p || b) (contains_append xs ys p) ∙ or_assoc (in_span x p) (contains xs p) (contains ys p)

map_below_from : {X : Type 0} (f g : ℕ → X) (i n top : ℕ) → i + n ≤ top → ((p : ℕ) → p < top → f p ≡ g p) → map f (counting i n) ≡ map g (counting i n)
map_below_from f g i zero top l h = refl
map_below_from f g i (suc n) top l h = ap (λ x. x ∷ map f (counting (i + 1) n)) (h i (omega arith)) ∙ ap (λ v. g i ∷ v) (map_below_from f g (i + 1) n top (omega arith) h)

pub map_below : {X : Type 0} (f g : ℕ → X) (n : ℕ) → ((p : ℕ) → p < n → f p ≡ g p) → map f (counting 0 n) ≡ map g (counting 0 n)
map_below f g n h = map_below_from f g 0 n n (omega arith) h

drop_counting : {X : Type 0} (f : ℕ → X) (k i n : ℕ) → drop k (map f (counting i n)) ≡ map f (counting (i + k) (n - k))
drop_counting f zero i n = let a : i + 0 ≡ i = omega arith in let b : n - 0 ≡ n = omega arith in ap (λ j. map f (counting j n)) (sym a) ∙ ap (λ m. map f (counting (i + 0) m)) (sym b)
drop_counting f (suc k) i zero = let b : zero - suc k ≡ 0 = omega arith in ap (λ m. map f (counting (i + suc k) m)) (sym b)
drop_counting f (suc k) i (suc n) = let a : i + 1 + k ≡ i + suc k = omega arith in let b : n - k ≡ suc n - suc k = omega arith in
    drop_counting f k (i + 1) n ∙ ap (λ j. map f (counting j (n - k))) a ∙ ap (λ m. map f (counting (i + suc k) m)) b

take_counting : {X : Type 0} (f : ℕ → X) (k i n : ℕ) → take k (map f (counting i n)) ≡ map f (counting i (min k n))
take_counting f zero i n = let b : min 0 n ≡ 0 = omega arith in ap (λ m. map f (counting i m)) (sym b)
take_counting f (suc k) i zero = let b : min (suc k) 0 ≡ 0 = omega arith in ap (λ m. map f (counting i m)) (sym b)
take_counting f (suc k) i (suc n) = let b : suc (min k n) ≡ min (suc k) (suc n) = omega arith in
    ap (λ v. f i ∷ v) (take_counting f k (i + 1) n) ∙ ap (λ m. map f (counting i m)) b

any_map : {X : Type 0} (f : X → Bool) (xs : List X) → list_any (λ b. b) (map f xs) ≡ list_any f xs
any_map f [] = refl
any_map f (x ∷ xs) = ap (λ b. f x || b) (any_map f xs)

none_of : (i n : ℕ) → list_any (λ (p : ℕ). false) (counting i n) ≡ false
none_of i zero = refl
none_of i (suc n) = none_of (i + 1) n

or_swap : (a b c d : Bool) → ((a || b) || (c || d)) ≡ ((a || c) || (b || d))
or_swap true b c d = refl
or_swap false true true d = refl
or_swap false true false d = refl
or_swap false false c d = refl

any_or : {X : Type 0} (f g : X → Bool) (xs : List X) → list_any (λ x. f x || g x) xs ≡ (list_any f xs || list_any g xs)
any_or f g [] = refl
any_or f g (x ∷ xs) = ap (λ b. (f x || g x) || b) (any_or f g xs) ∙ or_swap (f x) (g x) (list_any f xs) (list_any g xs)

one_more : (u w a k : ℕ) → (within u w a || nat_lt (max u (a + 1)) (min w (a + 1 + k))) ≡ nat_lt (max u a) (min w (a + suc k))
one_more u w a k = grind (arith, nat_tests)

pub span_counting : (u w a k : ℕ) → list_any (within u w) (counting a k) ≡ nat_lt (max u a) (min w (a + k))
span_counting u w a zero = grind (arith, nat_tests)
span_counting u w a (suc k) = ap (λ b. within u w a || b) (span_counting u w (a + 1) k) ∙ one_more u w a k

runs_counting : (runs : List Span) (a k : ℕ) → list_any (contains runs) (counting a k) ≡ meets runs a (a + k)
runs_counting [] a k = none_of a k
runs_counting (r ∷ rs) a k = any_or (in_span r) (contains rs) (counting a k) ∙ ap (λ b. b || list_any (contains rs) (counting a k)) (span_counting r.start (r.start + r.len) a k) ∙ ap (λ b. nat_lt (max r.start a) (min (r.start + r.len) (a + k)) || b) (runs_counting rs a k)

cut_one : (u w s e n : ℕ) → nat_lt (max u s) (min w (s + min (e - s) (n - s))) ≡ nat_lt (max u s) (min w (min n e))
cut_one u w s e n = grind (arith, nat_tests)

cut_all : (runs : List Span) (s e n : ℕ) → meets runs s (s + min (e - s) (n - s)) ≡ meets runs s (min n e)
cut_all [] s e n = refl
cut_all (r ∷ rs) s e n = ap (λ b. b || meets rs s (s + min (e - s) (n - s))) (cut_one r.start (r.start + r.len) s e n) ∙ ap (λ b. nat_lt (max r.start s) (min (r.start + r.len) (min n e)) || b) (cut_all rs s e n)

-- a question about flags is one about runs
pub flags_between : (runs : List Span) (n s e : ℕ) → any_between (flags_of runs n) s e ≡ meets runs s (min n e)
flags_between runs n s e =
    ap (λ v. list_any (λ b. b) (take (e - s) v)) (drop_counting (contains runs) s 0 n)
    ∙ ap (list_any (λ b. b)) (take_counting (contains runs) (e - s) (0 + s) (n - s))
    ∙ any_map (contains runs) (counting (0 + s) (min (e - s) (n - s)))
    ∙ ap (λ j. list_any (contains runs) (counting j (min (e - s) (n - s)))) (zero_add s)
    ∙ runs_counting runs s (min (e - s) (n - s))
    ∙ cut_all runs s e n
  where
    zero_add : (s : ℕ) → 0 + s ≡ s
    zero_add s = omega arith

length_map : {X : Type 0} (f : ℕ → X) (i n : ℕ) → length (map f (counting i n)) ≡ n
length_map f i zero = refl
length_map f i (suc n) = ap (λ k. suc k) (length_map f (i + 1) n)

pub length_flags : (runs : List Span) (n : ℕ) → length (flags_of runs n) ≡ n
length_flags runs n = length_map (contains runs) 0 n

pub absent_at : (here gaps : List Span) (n p : ℕ) → IsMissing here (record { start = 0; len = n }) gaps → p < n → contains gaps p ≡ not (contains here p)
absent_at here gaps n p h l = h p ∙ one (contains here p) where
  one : (c : Bool) → (in_span (record { start = 0; len = n }) p && not c) ≡ not c
  one true = grind (arith, nat_tests)
  one false = grind (arith, nat_tests)

pub unvouched_at : (valid modified runs vouched bare : List Span) (n : ℕ) → runs ≡ modified → AddsAll valid vouched runs → IsMissing vouched (record { start = 0; len = n }) bare → (p : ℕ) → p < n → contains bare p ≡ not (contains valid p || contains modified p)
unvouched_at valid modified runs vouched bare n r adds missing p l = absent_at vouched bare n p missing l ∙ ap not (adds p) ∙ ap (λ v. not (contains valid p || contains v p)) r

pub meets_append : (xs ys : List Span) (s e : ℕ) → meets (xs ++ ys) s e ≡ (meets xs s e || meets ys s e)
meets_append xs ys s e = list_any-append (λ r. nat_lt (max r.start s) (min (r.start + r.len) e)) xs ys

pub is_seen : (here valid modified absent bare : List Span) (size base : ℕ) (validate full populated : Bool) → ((p : ℕ) → p < size → contains absent p ≡ not (contains here p))
    → ((p : ℕ) → p < size → (not (contains here p) || contains bare p) ≡ is_lacking validate here valid modified p) →
    record { absent = flags_of absent size; lacks = flags_of (absent ++ bare) size; base = base; whole = full; populated = populated } ≡ seen here valid modified size base validate full populated
is_seen here valid modified absent bare size base validate full populated a l =
    let f : List Bool → List Bool → View = λ x y. record { absent = x; lacks = y; base = base; whole = full; populated = populated } in
    ap (λ x. f x (flags_of (absent ++ bare) size)) (map_below (contains absent) (λ p. not (contains here p)) size a)
    ∙ ap (f (map (λ p. not (contains here p)) (counting 0 size))) (map_below (contains (absent ++ bare)) (is_lacking validate here valid modified) size (λ p k. contains_append absent bare p ∙ ap (λ b. b || contains bare p) (a p k) ∙ l p k))
