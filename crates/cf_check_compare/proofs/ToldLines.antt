-- Which requests failed, line by line.
use Rattle.std.proofs.Common.{◌≡◌, ◌<◌, ◌≤◌, ℕ, zero, suc, Bool, true, false, List, [], ◌∷◌, ◌++◌, length, drop, map, refl, sym, ap, ◌∙◌, subst, inl, inr, arith, Some, None, not, ◌&&◌, append-nil, append_assoc}
use Rattle.std.specs.Prelude.{codes, nat_lt, position, ◌==◌}
use Rattle.std.specs.List.{position_or_len}
use Rattle.std.proofs.lemmas.Bool.{eqb-true, ltb-true, ltb-false}
use Rattle.std.proofs.lemmas.List.{map-append}
use Rattle.cf_check_compare.proofs.FirstLines.{at_none, at_some, bool_cases}
use Rattle.cf_check_compare.specs.Lines.{IsFirstLine}
use Rattle.cf_check_compare.specs.Told.{goes_on, tellings_before_result}
use Rattle.cf_check_judge.specs.Judge.{before_result, is_fault_line, is_fault_next, is_reply_word, is_request_line, telling_of, tellings_in}
use Rattle.cf_check_model.specs.Reports.{lines_of, onto_first}
use Rattle.cf_check_text.proofs.CleanWords.{left_of, right_of}
use Rattle.cf_check_text.specs.Clean.{has_no_ten}
use Rattle.cf_check_traces.specs.Tests.{begins}
use Rattle.cf_model.specs.Trees.{Telling}

-- the first line

abbrev pub first_line : List (List ℕ) → List ℕ
first_line [] = []
first_line (line ∷ lines) = line

onto_line : (b : ℕ) (lines : List (List ℕ)) → first_line (onto_first b lines) ≡ b ∷ first_line lines
onto_line b [] = refl
onto_line b (line ∷ lines) = refl

not_ten : (a b : ℕ) (x y : Bool) → not (a == 10) ≡ true → (b == 10) ≡ true → (a == b) && x ≡ (a == b) && y
not_ten a b x y plain ten = elim (bool_cases (a == b)) [
  | inl same ↦
      let is : a ≡ b = eqb-true a b same in
      let too : (a == 10) ≡ true = ap (λ (c : ℕ). c == 10) is ∙ ten in
      let z : false ≡ true = ap not (sym too) ∙ plain in
      absurd cc
  | inr apart ↦ rw apart refl
]

-- a text begins with bytes without the byte 10 exactly where its first line does
pub begins_line : (front text : List ℕ) → has_no_ten front ≡ true → begins front text ≡ begins front (first_line (lines_of text))
begins_line [] text clean = refl
begins_line (a ∷ front) [] clean = refl
begins_line (a ∷ front) (b ∷ bs) clean = elim (bool_cases (b == 10)) [
  | inl ten ↦ rw ten (not_ten a b (begins front bs) (begins front []) (left_of (not (a == 10)) (has_no_ten front) clean) ten)
  | inr other ↦
      let here : first_line (lines_of (b ∷ bs)) ≡ b ∷ first_line (lines_of bs) = rw other (onto_line b (lines_of bs)) in
      ap (λ (t : Bool). (a == b) && t) (begins_line front bs (right_of (not (a == 10)) (has_no_ten front) clean)) ∙ ap (begins (a ∷ front)) (sym here)
]

pub fault_is_next : (text : List ℕ) → begins (codes "- fault ") text ≡ is_fault_next (lines_of text)
fault_is_next text = begins_line (codes "- fault ") text refl ∙ by (lines_of text)
  where
    by : (lines : List (List ℕ)) → begins (codes "- fault ") (first_line lines) ≡ is_fault_next lines
    by [] = refl
    by (line ∷ lines) = refl

-- a line of a fault is none of a result
fault_apart : (line : List ℕ) → begins (codes "= ") line ≡ true → is_fault_line line ≡ false
fault_apart [] is = refl
fault_apart (b ∷ bs) is = elim (bool_cases (45 == b)) [
  | inl fault ↦
      let same : 45 ≡ b = eqb-true 45 b fault in
      let z : false ≡ true = ap (λ (c : ℕ). (61 == c) && begins (32 ∷ []) bs) same ∙ is in
      absurd cc
  | inr other ↦ rw other refl
]

fault_before : (lines : List (List ℕ)) → is_fault_next (before_result lines) ≡ is_fault_next lines
fault_before [] = refl
fault_before (line ∷ lines) = elim (bool_cases (begins (codes "= ") line)) [
  | inl is ↦ rw is (sym (fault_apart line is))
  | inr other ↦ rw other refl
]

-- the word after a number

word_at : (text : List ℕ) (n : ℕ) → n ≡ position_or_len (λ b. b == 32) text → n < length text → is_reply_word text ≡ begins (codes " reply ") (drop n text)
word_at [] n e lt = absurd (omega arith)
word_at (b ∷ bs) zero e lt = elim (bool_cases (b == 32)) [
  | inl hit ↦
      let same : b ≡ 32 = eqb-true b 32 hit in
      subst (λ (c : ℕ). is_reply_word (c ∷ bs) ≡ begins (codes " reply ") (c ∷ bs)) (sym same) refl
  | inr miss ↦ let h = rw miss at e in absurd (omega arith)
]
word_at (b ∷ bs) (suc m) e lt = elim (bool_cases (b == 32)) [
  | inl hit ↦ let h = rw hit at e in absurd (omega arith)
  | inr miss ↦
      let h = rw miss at e in
      rw miss (word_at bs m (omega arith) (omega arith))
]

word_none : (text : List ℕ) → length text ≤ position_or_len (λ b. b == 32) text → is_reply_word text ≡ false
word_none [] le = refl
word_none (b ∷ bs) le = elim (bool_cases (b == 32)) [
  | inl hit ↦ let h = rw hit at le in absurd (omega arith)
  | inr miss ↦
      let h = rw miss at le in
      rw miss (word_none bs (omega arith))
]

pub word_found : (text : List ℕ) (n : ℕ) → position (λ b. b == 32) text ≡ Some n → is_reply_word text ≡ begins (codes " reply ") (drop n text)
word_found text n e =
    let at = position_or_len (λ b. b == 32) text in
    let h = at_some (nat_lt at (length text)) at n e in
    subst (λ (k : ℕ). is_reply_word text ≡ begins (codes " reply ") (drop k text)) h.1 (word_at text at refl (ltb-true _ _ h.0))

pub no_word : (text : List ℕ) → position (λ b. b == 32) text ≡ None → is_reply_word text ≡ false
no_word text e =
    let at = position_or_len (λ b. b == 32) text in
    word_none text (ltb-false _ _ (at_none (nat_lt at (length text)) at e))

-- one line further

abbrev pub with_line : Bool → Bool → List Telling → List Telling
with_line true fails later = telling_of fails ∷ later
with_line false fails later = later

goes_past : (text : List ℕ) → goes_on text ≡ true → begins (codes "= ") text ≡ false
goes_past [] is = refl
goes_past (b ∷ bs) is = elim (bool_cases (begins (codes "= ") (b ∷ bs))) [
  | inl front ↦ let z : false ≡ true = ap not (sym front) ∙ is in absurd cc
  | inr other ↦ other
]

told_line : (line : List ℕ) (lines : List (List ℕ)) → begins (codes "= ") line ≡ false
    → tellings_in (before_result (line ∷ lines)) ≡ with_line (is_request_line line) (is_fault_next lines) (tellings_in (before_result lines))
told_line line lines other = elim (bool_cases (is_request_line line)) [
  | inl is ↦ rw (other, is) (ap (λ (f : Bool). telling_of f ∷ tellings_in (before_result lines)) (fault_before lines))
  | inr no_request ↦ rw (other, no_request) refl
]

pub told_next : (text line after : List ℕ) → IsFirstLine text line after → goes_on text ≡ true
    → tellings_before_result text ≡ with_line (is_request_line line) (is_fault_next (lines_of after)) (tellings_before_result after)
told_next text line after first goes =
    let other : begins (codes "= ") line ≡ false = ap (λ (ls : List (List ℕ)). begins (codes "= ") (first_line ls)) (sym first.lines) ∙ sym (begins_line (codes "= ") text refl) ∙ goes_past text goes in
    ap (λ (ls : List (List ℕ)). tellings_in (before_result ls)) first.lines
    ∙ told_line line (lines_of after) other

pub told_all : (text : List ℕ) → goes_on text ≡ false → tellings_before_result text ≡ []
told_all [] no_line = refl
told_all (b ∷ bs) no_line =
    let is : begins (codes "= ") (b ∷ bs) ≡ true = elim (bool_cases (begins (codes "= ") (b ∷ bs))) [
      | inl front ↦ front
      | inr other ↦ let z : true ≡ false = ap not (sym other) ∙ no_line in absurd cc
    ] in
    by (lines_of (b ∷ bs)) (sym (begins_line (codes "= ") (b ∷ bs) refl) ∙ is)
  where
    by : (lines : List (List ℕ)) → begins (codes "= ") (first_line lines) ≡ true → tellings_in (before_result lines) ≡ []
    by [] is = refl
    by (line ∷ lines) is = rw is refl

-- what is known so far, and then the rest

pub told_more : (told : List Bool) (text line after : List ℕ) (all : List Telling) → IsFirstLine text line after → goes_on text ≡ true
    → is_request_line line ≡ true → map telling_of told ++ tellings_before_result text ≡ all
    → map telling_of (told ++ is_fault_next (lines_of after) ∷ []) ++ tellings_before_result after ≡ all
told_more told text line after all first goes is so =
    let next : tellings_before_result text ≡ telling_of (is_fault_next (lines_of after)) ∷ tellings_before_result after = told_next text line after first goes ∙ rw is refl in
    ap (λ (ts : List Telling). ts ++ tellings_before_result after) (map-append telling_of told (is_fault_next (lines_of after) ∷ []))
    ∙ append_assoc (map telling_of told) (telling_of (is_fault_next (lines_of after)) ∷ []) (tellings_before_result after)
    ∙ ap (λ (ts : List Telling). map telling_of told ++ ts) (sym next)
    ∙ so

pub told_same : (told : List Bool) (text line after : List ℕ) (all : List Telling) → IsFirstLine text line after → goes_on text ≡ true
    → is_request_line line ≡ false → map telling_of told ++ tellings_before_result text ≡ all
    → map telling_of told ++ tellings_before_result after ≡ all
told_same told text line after all first goes is so =
    let next : tellings_before_result text ≡ tellings_before_result after = told_next text line after first goes ∙ rw is refl in
    ap (λ (ts : List Telling). map telling_of told ++ ts) (sym next) ∙ so

pub told_end : (told : List Bool) (text : List ℕ) (all : List Telling) → goes_on text ≡ false → map telling_of told ++ tellings_before_result text ≡ all → map telling_of told ≡ all
told_end told text all ends so = sym (append-nil (map telling_of told)) ∙ ap (λ (ts : List Telling). map telling_of told ++ ts) (sym (told_all text ends)) ∙ so
