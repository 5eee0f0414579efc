-- A run of blocks as one span of bytes.
use Rattle.std.proofs.Common.{◌≡◌, ℕ, zero, suc, ◌+◌, ◌-◌, ◌*◌, ◌<◌, ◌≤◌, ◌⊎◌, inl, inr, Bool, true, false, ◌&&◌, ◌||◌, List, [], ◌∷◌, ◌++◌, length, take, drop, min, max, refl, sym, ap, ◌∙◌, arith, eqb}
use Rattle.std.specs.Prelude.{slice_range, nat_le, nat_lt}
use Rattle.std.specs.List.{list_any}
use Rattle.std.proofs.Math.Seq.{take-add}
use Rattle.std.proofs.Math.ListN.{drop_of_length-le}
use Rattle.std.proofs.lemmas.Bool.Decides.{nat_tests}
use Rattle.std.proofs.lemmas.List.Folds.{list_any-append}
use Rattle.std.proofs.lemmas.Bool.{cases_lt}
use Rattle.cf_model.specs.Asks.{misses_in}
use Rattle.cf_model.specs.Missing.{View, Wait, any_between, misses_between, needed}
use Rattle.cf_model.specs.Requests.{has_block}
use Rattle.cf_model.specs.Words.{counting}

one_more : (s n b : ℕ) → (eqb s b || (nat_le (s + 1) b && nat_lt (b - (s + 1)) n)) ≡ (nat_le s b && nat_lt (b - s) (suc n))
one_more s n b = grind (arith, nat_tests)

pub has_counting : (s n b : ℕ) → has_block (counting s n) b ≡ (nat_le s b && nat_lt (b - s) n)
has_counting s zero b = grind (arith, nat_tests)
has_counting s (suc n) b = ap (λ x. eqb s b || x) (has_counting (s + 1) n b) ∙ one_more s n b

take_nil : {X : Type 0} (n : ℕ) → take {A = X} n [] ≡ []
take_nil zero = refl
take_nil (suc n) = refl

drop_nil : {X : Type 0} (n : ℕ) → drop {A = X} n [] ≡ []
drop_nil zero = refl
drop_nil (suc n) = refl

drop_again : {X : Type 0} (k s : ℕ) (xs : List X) → drop k (drop s xs) ≡ drop (s + k) xs
drop_again k zero xs = let e : k ≡ 0 + k = omega arith in ap (λ j. drop j xs) e
drop_again k (suc s) [] = drop_nil k ∙ sym (drop_nil (suc s + k))
drop_again k (suc s) (x ∷ xs) = let e : suc (s + k) ≡ suc s + k = omega arith in drop_again k s xs ∙ ap (λ j. drop j (x ∷ xs)) e

slice_join : {X : Type 0} (xs : List X) (s m e : ℕ) → s ≤ m → m ≤ e → slice_range xs s e ≡ slice_range xs s m ++ slice_range xs m e
slice_join xs s m e h k =
    let p : e - s ≡ (m - s) + (e - m) = omega arith in
    let q : s + (m - s) ≡ m = omega arith in
    ap (λ j. take j (drop s xs)) p ∙ take-add (m - s) (e - m) (drop s xs)
    ∙ ap (λ ys. take (m - s) (drop s xs) ++ take (e - m) ys) (drop_again (m - s) s xs ∙ ap (λ j. drop j xs) q)

any_join : (flags : List Bool) (s m e : ℕ) → s ≤ m → m ≤ e → any_between flags s e ≡ (any_between flags s m || any_between flags m e)
any_join flags s m e h k = ap (list_any (λ b. b)) (slice_join flags s m e h k) ∙ list_any-append (λ b. b) (slice_range flags s m) (slice_range flags m e)

any_empty : (flags : List Bool) (s e : ℕ) → e ≤ s → any_between flags s e ≡ false
any_empty flags s e h = let z : e - s ≡ 0 = omega arith in ap (λ k. list_any (λ b. b) (take k (drop s flags))) z

any_past : (flags : List Bool) (s e : ℕ) → length flags ≤ s → any_between flags s e ≡ false
any_past flags s e h = ap (λ ys. list_any (λ b. b) (take (e - s) ys)) (drop_of_length-le flags h) ∙ ap (list_any (λ b. b)) (take_nil {X = Bool} (e - s))

or_false : (a : Bool) → (a || false) ≡ a
or_false true = refl
or_false false = refl

-- what is needed from u to w, cut into two at m
cut_at : (flags : List Bool) (u w s m e : ℕ) → s ≤ m → m ≤ e → any_between flags (max u s) (min w e) ≡ (any_between flags (max u s) (min w m) || any_between flags (max u m) (min w e))
cut_at flags u w s m e h k = elim (cases_lt m u) [
  | inl l ↦
      let a : max u m ≡ max u s = omega arith in
      ap (λ j. any_between flags j (min w e)) (sym a) ∙ ap (λ b. b || any_between flags (max u m) (min w e)) (sym (any_empty flags (max u s) (min w m) (omega arith)))
  | inr l ↦ elim (cases_lt m w) [
    | inl r ↦
        let a : max u m ≡ m = omega arith in
        let b : min w m ≡ m = omega arith in
        any_join flags (max u s) m (min w e) (omega arith) (omega arith) ∙ ap (λ j. any_between flags (max u s) j || any_between flags m (min w e)) (sym b) ∙ ap (λ j. any_between flags (max u s) (min w m) || any_between flags j (min w e)) (sym a)
    | inr r ↦
        let a : min w e ≡ min w m = omega arith in
        ap (λ j. any_between flags (max u s) j) a ∙ sym (or_false (any_between flags (max u s) (min w m))) ∙ ap (λ b. any_between flags (max u s) (min w m) || b) (sym (any_empty flags (max u m) (min w e) (omega arith)))
  ]
]

pub misses_cut : (v : View) (w : Wait) (s m e : ℕ) → s ≤ m → m ≤ e → misses_between v w s e ≡ (misses_between v w s m || misses_between v w m e)
misses_cut v w s m e h k = cut_at v.lacks (needed v w).start ((needed v w).start + (needed v w).len) s m e h k

misses_past : (v : View) (w : Wait) (s e : ℕ) → length v.lacks ≤ s → misses_between v w s e ≡ false
misses_past v w s e h = any_past v.lacks (max (needed v w).start s) (min ((needed v w).start + (needed v w).len) e) (omega arith)

misses_empty : (v : View) (w : Wait) (s e : ℕ) → e ≤ s → misses_between v w s e ≡ false
misses_empty v w s e h = any_empty v.lacks (max (needed v w).start s) (min ((needed v w).start + (needed v w).len) e) (omega arith)

pub misses_run : (v : View) (w : Wait) (s n : ℕ) → misses_in v (counting s n) w ≡ misses_between v w (4096 * s) (4096 * (s + n))
misses_run v w s zero = sym (misses_empty v w (4096 * s) (4096 * (s + zero)) (omega arith))
misses_run v w s (suc n) =
    let a : 4096 * s + 4096 ≡ 4096 * (s + 1) = omega arith in
    let b : s + 1 + n ≡ s + suc n = omega arith in
    ap (λ x. misses_between v w (4096 * s) (4096 * s + 4096) || x) (misses_run v w (s + 1) n ∙ ap (λ j. misses_between v w (4096 * (s + 1)) (4096 * j)) b)
    ∙ ap (λ j. misses_between v w (4096 * s) (4096 * s + 4096) || misses_between v w j (4096 * (s + suc n))) (sym a)
    ∙ sym (misses_cut v w (4096 * s) (4096 * s + 4096) (4096 * (s + suc n)) (omega arith) (omega arith))

-- what lies past the size adds nothing
pub misses_counting : (v : View) (w : Wait) (s n : ℕ) → s ≤ length v.lacks → misses_in v (counting s n) w ≡ misses_between v w (4096 * s) (4096 * min (s + n) (length v.lacks + 1))
misses_counting v w s n h =
    misses_run v w s n
    ∙ misses_cut v w (4096 * s) (4096 * min (s + n) (length v.lacks + 1)) (4096 * (s + n)) (omega arith) (omega arith)
    ∙ ap (λ x. misses_between v w (4096 * s) (4096 * min (s + n) (length v.lacks + 1)) || x) (rest (cases_lt (length v.lacks + 1) (s + n)))
    ∙ or_false (misses_between v w (4096 * s) (4096 * min (s + n) (length v.lacks + 1)))
  where
    rest : ((length v.lacks + 1) < (s + n)) ⊎ ((s + n) ≤ (length v.lacks + 1)) → misses_between v w (4096 * min (s + n) (length v.lacks + 1)) (4096 * (s + n)) ≡ false
    rest (inl l) = misses_past v w (4096 * min (s + n) (length v.lacks + 1)) (4096 * (s + n)) (omega arith)
    rest (inr l) = misses_empty v w (4096 * min (s + n) (length v.lacks + 1)) (4096 * (s + n)) (omega arith)

pub misses_far : (v : View) (w : Wait) (s n : ℕ) → length v.lacks < s → misses_in v (counting s n) w ≡ false
misses_far v w s n h = misses_run v w s n ∙ misses_past v w (4096 * s) (4096 * (s + n)) (omega arith)
