-- The first line of a text, and the first of its lines that tells a result.
use Rattle.std.proofs.Common.{◌≡◌, ℕ, zero, suc, ◌+◌, ◌<◌, ◌≤◌, Bool, true, false, List, [], ◌∷◌, length, take, drop, refl, sym, ap, ◌∙◌, inl, inr, arith, cond, Some, None, ltb-true, ltb-false, append-nil, add-one, subst, ◌-◌, ◌&&◌, min, length-drop, take_all}
use Rattle.std.specs.Prelude.{◌⊎◌, position, nat_lt, ◌==◌, filter}
use Rattle.std.specs.Cmp.Lexicographic.{pointwise}
use Rattle.std.specs.List.{position_or_len}
use Rattle.std.proofs.lemmas.Bool.{cases_lt}
use Rattle.std.proofs.lemmas.List.{drop_all, take-append-drop}
use Rattle.cf_check_compare.specs.Lines.{IsFirstLine}
use Rattle.cf_check_model.specs.Reports.{is_result_line, lines_of, result_lines}
use Rattle.cf_check_traces.specs.Tests.{begins}

abbrev is_ten : ℕ → Bool
is_ten b = b == 10

pub bool_cases : (b : Bool) → (b ≡ true) ⊎ (b ≡ false)
bool_cases true = inl refl
bool_cases false = inr refl

lines_cut : (text : List ℕ) (n : ℕ) → n ≡ position_or_len is_ten text → n < length text → lines_of text ≡ take (suc n) text ∷ lines_of (drop (suc n) text)
lines_cut [] n e lt = absurd (omega arith)
lines_cut (b ∷ bs) zero e lt = elim (bool_cases (is_ten b)) [
  | inl hit ↦ rw hit refl
  | inr miss ↦ let h = rw miss at e in absurd (omega arith)
]
lines_cut (b ∷ bs) (suc m) e lt = elim (bool_cases (is_ten b)) [
  | inl hit ↦ let h = rw hit at e in absurd (omega arith)
  | inr miss ↦
      let h = rw miss at e in
      let rest : lines_of bs ≡ take (suc m) bs ∷ lines_of (drop (suc m) bs) = lines_cut bs m (omega arith) (omega arith) in
      rw (miss, rest) refl
]

lines_whole : (text : List ℕ) → 0 < length text → length text ≤ position_or_len is_ten text → lines_of text ≡ text ∷ []
lines_whole [] some e = absurd (omega arith)
lines_whole (b ∷ []) some e = elim (bool_cases (is_ten b)) [
  | inl hit ↦ let h = rw hit at e in absurd (omega arith)
  | inr miss ↦ rw miss refl
]
lines_whole (b ∷ c ∷ bs) some e = elim (bool_cases (is_ten b)) [
  | inl hit ↦ let h = rw hit at e in absurd (omega arith)
  | inr miss ↦
      let h = rw miss at e in
      let rest : lines_of (c ∷ bs) ≡ (c ∷ bs) ∷ [] = lines_whole (c ∷ bs) (omega arith) (omega arith) in
      rw (miss, rest) refl
]

pub at_some : (b : Bool) (n m : ℕ) → cond b (Some n) None ≡ Some m → (b ≡ true) × (n ≡ m)
at_some true n m e = (refl, cc)
at_some false n m e = absurd cc

pub at_none : (b : Bool) (n : ℕ) → cond b (Some n) None ≡ None → b ≡ false
at_none true n e = absurd cc
at_none false n e = refl

pub found : (text : List ℕ) (n : ℕ) → position is_ten text ≡ Some n → n < length text
found text n e =
    let h = at_some (nat_lt (position_or_len is_ten text) (length text)) (position_or_len is_ten text) n e in
    let lt : position_or_len is_ten text < length text = ltb-true _ _ h.0 in
    let same : position_or_len is_ten text ≡ n = h.1 in
    omega (arith, lt, same)

pub after_is : (text : List ℕ) (n : ℕ) → take (length text - n) (drop n text) ≡ drop n text
after_is text n = let e : length (drop n text) ≡ length text - n = length-drop n text in take_all (length text - n) (drop n text) (omega (arith, e))

pub after_least : (text : List ℕ) (count m : ℕ) → m ≡ min count (length text) → take (length text - m) (drop m text) ≡ drop count text
after_least text count m is = after_is text m ∙ elim (cases_lt count (length text)) [
  | inl lt ↦ ap (λ (k : ℕ). drop k text) (let e : m ≡ count = omega (arith, is, lt) in e)
  | inr le ↦ drop_all m text (omega (arith, is, le)) ∙ sym (drop_all count text le)
]

pub line_found : (text : List ℕ) (n : ℕ) → position is_ten text ≡ Some n → IsFirstLine text (take (n + 1) text) (take (length text - (n + 1)) (drop (n + 1) text))
line_found text n e =
    let h = at_some (nat_lt (position_or_len is_ten text) (length text)) (position_or_len is_ten text) n e in
    subst (λ (r : List ℕ). IsFirstLine text (take (n + 1) text) r) (sym (after_is text (n + 1)))
    (record {
      parts = sym (take-append-drop (n + 1) text);
      lines = subst (λ (k : ℕ). lines_of text ≡ take k text ∷ lines_of (drop k text)) (sym (add-one n)) (lines_cut text n (sym h.1) (found text n e));
    })

pub line_whole : (text : List ℕ) → 0 < length text → position is_ten text ≡ None → IsFirstLine text text []
line_whole text some e = record {
  parts = sym (append-nil text);
  lines = lines_whole text some (ltb-false _ _ (at_none (nat_lt (position_or_len is_ten text) (length text)) (position_or_len is_ten text) e));
}

-- results

pub result_later : (text line after : List ℕ) → IsFirstLine text line after → is_result_line line ≡ false → result_lines text ≡ result_lines after
result_later text line after h is = ap (λ (ls : List (List ℕ)). filter is_result_line ls) h.lines ∙ rw is refl

-- the test of std

pub begins_is : (front text : List ℕ) → begins front text ≡ pointwise (λ a b. a == b) front (take (length front) text)
begins_is [] text = refl
begins_is (b ∷ bs) [] = refl
begins_is (b ∷ bs) (c ∷ cs) = ap (λ (t : Bool). (b == c) && t) (begins_is bs cs)
