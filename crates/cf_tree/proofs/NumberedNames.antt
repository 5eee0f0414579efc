-- The name of a number is a name, and those of two numbers differ.
use Rattle.std.proofs.Common.{◌≡◌, ℕ, zero, suc, ◌+◌, ◌-◌, ◌%◌, ◌^◌, ◌≤◌, ◌<◌, Bool, true, false, List, [], ◌∷◌, ◌++◌, length, take, drop, get_or, refl, sym, ap, subst, ◌∙◌, arith, append_assoc, length-append, inl, inr}
use Rattle.std.specs.Prelude.{codes, nat_le, nat_lt, not, ◌&&◌}
use Rattle.std.specs.List.{list_all}
use Rattle.std.specs.Fmt.{decimal}
use Rattle.std.specs.Str.{IsCharBoundary, IsUtf8, bytes_eq}
use Rattle.std.proofs.lemmas.Bool.{agree_below_at, and_from, and_parts, cases_lt, false_from_ne_true, lt-ltb, le-leb, not_from_false}
use Rattle.std.proofs.lemmas.Bool.Decides.{nat_tests}
use Rattle.std.proofs.lemmas.Fmt.{decimal_by_steps, decimal_injective, length-decimal-le}
use Rattle.std.proofs.lemmas.List.{append_cancel_right, length-drop, length-take, take-append-drop, take_all}
use Rattle.std.proofs.lemmas.List.Folds.{list_all-append}
use Rattle.std.proofs.lemmas.Slice.Eq.{bytes_eq-Decides}
use Rattle.std.proofs.lemmas.Str.{IsCharBoundary-end, IsCharBoundary-start, IsUtf8-append, IsUtf8-drop, IsUtf8-from_is_utf8, IsUtf8-take, is_utf8-from_IsUtf8}
use Rattle.cf_base.specs.Names.{is_name_byte}
use Rattle.cf_model.specs.ConflictNames.{cut_text, ext_at, is_inside, with_number}
use Rattle.cf_model.specs.Texts.{is_name}
use Rattle.cf_model.specs.Words as words
use Rattle.cf_model.proofs.DecimalLaws.{decimal_is}
use Rattle.cf_model.proofs.NameLaws.{text_is}
use Rattle.cf_tree.specs.Parts.{mark_of}
use Rattle.cf_tree.proofs.Extensions.{cut_before, cut_here, cut_none, uncut_text}

pub numbered_is : (name mark w : List ℕ) (e room n : ℕ) → e ≡ ext_at name → mark ≡ mark_of n → room ≡ 255 - length mark - length (drop e name) → w ≡ (cut_text room (take e name) ++ mark) ++ drop e name → w ≡ with_number name n
numbered_is name mark w e room n at is space whole =
    let tail : mark ++ drop e name ≡ (codes " (conflict " ++ words.decimal n ++ codes ")") ++ drop (ext_at name) name =
    λ k. (is ∙ ap (λ d. codes " (conflict " ++ d ++ codes ")") (sym (decimal_is n))) k ++ drop (at k) name in
    let left : room ≡ 255 - length (mark ++ drop e name) = omega (arith, length-append mark (drop e name)) in
    whole ∙ append_assoc (cut_text room (take e name)) mark (drop e name)
    ∙ (λ k. cut_text ((left ∙ ap (λ t. 255 - length t) tail) k) (take (at k) name) ++ tail k)

-- a cut at the end of a character

pub record IsCut (n : ℕ) (text piece : List ℕ) : Type 0 where
  pub len : ℕ
  pub short : len ≤ n
  pub is : piece ≡ take len text
  pub boundary : IsCharBoundary text len

outside : (text : List ℕ) (n : ℕ) → n < length text → is_inside (get_or text n 0) ≡ false → IsCharBoundary text n
outside text n lt e = (omega arith, λ _ high. byte (get_or text n 0) e high) where
  byte : (b : ℕ) → is_inside b ≡ false → 128 ≤ b → 192 ≤ b
  byte b e h = grind (arith, nat_tests)

pub cut_is : (n : ℕ) (text : List ℕ) → IsUtf8 text → IsCut n text (cut_text n text)
cut_is n text u = elim (cases_lt n (length text)) [
  | inl lt ↦ inside n lt
  | inr le ↦ record { len = length text; short = le; is = sym (uncut_text text n le) ∙ sym (take_all (length text) text (omega arith)); boundary = IsCharBoundary-end text }
] where
  start : IsCut 0 text (cut_text 0 text)
  start = record { len = 0; short = omega arith; is = sym (cut_none text 0 refl); boundary = IsCharBoundary-start text u }

  more : (m : ℕ) → IsCut m text (cut_text m text) → suc m < length text → (b : Bool) → is_inside (get_or text (suc m) 0) ≡ b → IsCut (suc m) text (cut_text (suc m) text)
  more m h lt true e =
      let one : suc m - 1 ≡ m = omega arith in
      let same : cut_text m text ≡ cut_text (suc m) text = ap (λ k. cut_text k text) (sym one) ∙ cut_before text (suc m) lt (omega arith) e in
      record { len = h.len; short = omega (arith, h.short); is = sym same ∙ h.is; boundary = h.boundary }
  more m h lt false e = record { len = suc m; short = omega arith; is = sym (cut_here text (suc m) lt e); boundary = outside text (suc m) lt e }

  inside : (m : ℕ) → m < length text → IsCut m text (cut_text m text)
  inside zero lt = start
  inside (suc m) lt = more m (inside m (omega arith)) lt (is_inside (get_or text (suc m) 0)) refl

-- the bytes

digit_byte : (n : ℕ) → n < 10 → is_name_byte (48 + n) ≡ true
digit_byte n lt = agree_below_at (λ k. is_name_byte (48 + k)) (λ _. true) 10 n refl lt

decimal_bytes : (n : ℕ) → n < 2 ^ 64 → list_all is_name_byte (decimal n) ≡ true
decimal_bytes n small = decimal_by_steps (λ n ds. list_all is_name_byte ds ≡ true)
    (λ n lt. rw (digit_byte n lt) refl)
    (λ n ds ten h. rw (list_all-append is_name_byte ds ((48 + n % 10) ∷ []), h, digit_byte (n % 10) (omega arith)) refl) n small

mark_bytes : (n : ℕ) → n < 2 ^ 64 → list_all is_name_byte (mark_of n) ≡ true
mark_bytes n small = rw (list_all-append is_name_byte (codes " (conflict " ++ decimal n) (codes ")"), list_all-append is_name_byte (codes " (conflict ") (decimal n), decimal_bytes n small) refl

front_all : (p : ℕ → Bool) (n : ℕ) (xs : List ℕ) → list_all p xs ≡ true → list_all p (take n xs) ≡ true
front_all p n xs h = (and_parts _ _ (sym (list_all-append p (take n xs) (drop n xs)) ∙ ap (list_all p) (take-append-drop n xs) ∙ h)).0

back_all : (p : ℕ → Bool) (n : ℕ) (xs : List ℕ) → list_all p xs ≡ true → list_all p (drop n xs) ≡ true
back_all p n xs h = (and_parts _ _ (sym (list_all-append p (take n xs) (drop n xs)) ∙ ap (list_all p) (take-append-drop n xs) ∙ h)).1

-- what a name consists of
pub record NameParts (name : List ℕ) : Type 0 where
  pub some : nat_lt 0 (length name) ≡ true
  pub few : nat_le (length name) 255 ≡ true
  pub bytes : list_all is_name_byte name ≡ true
  pub utf8 : IsUtf8 name
  pub one_dot : bytes_eq name (codes ".") ≡ false
  pub two_dots : bytes_eq name (codes "..") ≡ false

pub parts_of : (name : List ℕ) → is_name name ≡ true → NameParts name
parts_of name h =
    let five = and_parts _ _ h in
    let four = and_parts _ _ five.0 in
    let three = and_parts _ _ four.0 in
    let two = and_parts _ _ three.0 in
    let one = and_parts _ _ two.0 in
    record {
      some = one.0;
      few = one.1;
      bytes = two.1;
      utf8 = IsUtf8-from_is_utf8 name (sym (text_is name) ∙ three.1);
      one_dot = not_true _ four.1;
      two_dots = not_true _ five.1;
    } where
      not_true : (b : Bool) → not b ≡ true → b ≡ false
      not_true true e = let z : false ≡ true = e in absurd cc
      not_true false e = refl

pub name_from : (name : List ℕ) → NameParts name → is_name name ≡ true
name_from name h =
    and_from _ _ (and_from _ _ (and_from _ _ (and_from _ _ (and_from _ _ h.some h.few) h.bytes) (text_is name ∙ is_utf8-from_IsUtf8 name h.utf8)) (not_from_false _ h.one_dot)) (not_from_false _ h.two_dots)

longer : (w dots : List ℕ) → length dots < length w → bytes_eq w dots ≡ false
longer w dots lt = false_from_ne_true _ (λ e. let same = ap length ((bytes_eq-Decides w dots).0 e) in omega arith)

pub numbered_name : (name mark w : List ℕ) (e room n : ℕ) → is_name name ≡ true → n < 2 ^ 32 → e ≤ length name → length name - e ≤ 32 → IsCharBoundary name e → mark ≡ mark_of n → IsUtf8 mark → room ≡ 255 - length mark - length (drop e name) →
    w ≡ (cut_text room (take e name) ++ mark) ++ drop e name → is_name w ≡ true
numbered_name name mark w e room n h small at short boundary is utf8 space whole =
    let p = parts_of name h in
    let cut = cut_is room (take e name) (IsUtf8-take name e p.utf8 boundary) in
    let piece : List ℕ = cut_text room (take e name) in
    let piece_len : length piece ≤ room = omega (arith, ap length cut.is, length-take cut.len (take e name), cut.short) in
    let tiny : n < 10 ^ 10 = omega arith in
    let wide : n < 2 ^ 64 = omega arith in
    let digits : length (decimal n) ≤ 10 = length-decimal-le 10 n (omega arith) tiny wide in
    let mark_len : length mark ≡ 11 + length (decimal n) + 1 = ap length is ∙ length-append (codes " (conflict " ++ decimal n) (codes ")") ∙ ap (λ k. k + 1) (length-append (codes " (conflict ") (decimal n)) in
    let extension_len : length (drop e name) ≡ length name - e = length-drop e name in
    let len : length w ≡ length piece + length mark + length (drop e name) = ap length whole ∙ length-append (piece ++ mark) (drop e name) ∙ ap (λ k. k + length (drop e name)) (length-append piece mark) in
    let all : list_all is_name_byte w ≡ true =
    ap (list_all is_name_byte) whole ∙ list_all-append is_name_byte (piece ++ mark) (drop e name)
    ∙ and_from _ _
    (list_all-append is_name_byte piece mark ∙ and_from _ _ (ap (list_all is_name_byte) cut.is ∙ front_all is_name_byte cut.len (take e name) (front_all is_name_byte e name p.bytes)) (ap (list_all is_name_byte) is ∙ mark_bytes n wide))
    (back_all is_name_byte e name p.bytes) in
    name_from w (record {
      some = lt-ltb 0 (length w) (omega arith);
      few = le-leb (length w) 255 (omega arith);
      bytes = all;
      utf8 = subst IsUtf8 (sym whole) (IsUtf8-append (piece ++ mark) (drop e name) (IsUtf8-append piece mark (subst IsUtf8 (sym cut.is) (IsUtf8-take (take e name) cut.len (IsUtf8-take name e p.utf8 boundary) cut.boundary)) utf8) (IsUtf8-drop name e p.utf8 boundary));
      one_dot = longer w (codes ".") (omega arith);
      two_dots = longer w (codes "..") (omega arith);
    })

-- two numbers have two names

abbrev is_digit : ℕ → Bool
is_digit b = nat_le 48 b && nat_le b 57

digit_holds : (n : ℕ) → n < 10 → is_digit (48 + n) ≡ true
digit_holds n lt = grind (arith, nat_tests)

decimal_digits : (n : ℕ) → n < 2 ^ 64 → list_all is_digit (decimal n) ≡ true
decimal_digits n small = decimal_by_steps (λ n ds. list_all is_digit ds ≡ true)
    (λ n lt. rw (digit_holds n lt) refl)
    (λ n ds ten h. rw (list_all-append is_digit ds ((48 + n % 10) ∷ []), h, digit_holds (n % 10) (omega arith)) refl) n small

no_space : (q e : List ℕ) → list_all is_digit (q ++ 32 ∷ e) ≡ true → ⊥
no_space [] e h = let z : false ≡ true = h in cc
no_space (y ∷ ys) e h = no_space ys e (and_parts (is_digit y) (list_all is_digit (ys ++ 32 ∷ e)) h).1

-- what stands after the last space
last_part : (p q d e : List ℕ) → p ++ 32 ∷ d ≡ q ++ 32 ∷ e → list_all is_digit d ≡ true → list_all is_digit e ≡ true → d ≡ e
last_part [] [] d e same hd he = cc
last_part [] (y ∷ ys) d e same hd he = let t : d ≡ ys ++ 32 ∷ e = cc in absurd (no_space ys e (ap (list_all is_digit) (sym t) ∙ hd))
last_part (x ∷ xs) [] d e same hd he = let t : xs ++ 32 ∷ d ≡ e = cc in absurd (no_space xs d (ap (list_all is_digit) t ∙ he))
last_part (x ∷ xs) (y ∷ ys) d e same hd he = let t : xs ++ 32 ∷ d ≡ ys ++ 32 ∷ e = cc in last_part xs ys d e t hd he

abbrev opening : List ℕ
opening = codes " (conflict"

regrouped : (piece d closing extension : List ℕ) → piece ++ (((opening ++ 32 ∷ []) ++ d ++ closing) ++ extension) ≡ (((piece ++ opening) ++ 32 ∷ d) ++ closing) ++ extension
regrouped piece d closing extension = simp append_assoc

pub numbers_apart : (name : List ℕ) (m n : ℕ) → m < 2 ^ 32 → n < 2 ^ 32 → with_number name m ≡ with_number name n → m ≡ n
numbers_apart name m n a b same =
    let front : ℕ → List ℕ = λ k. cut_text (255 - length ((codes " (conflict " ++ words.decimal k ++ codes ")") ++ drop (ext_at name) name)) (take (ext_at name) name) in
    let whole : (((front m ++ opening) ++ 32 ∷ words.decimal m) ++ codes ")") ++ drop (ext_at name) name ≡ (((front n ++ opening) ++ 32 ∷ words.decimal n) ++ codes ")") ++ drop (ext_at name) name =
    sym (regrouped (front m) (words.decimal m) (codes ")") (drop (ext_at name) name)) ∙ same ∙ regrouped (front n) (words.decimal n) (codes ")") (drop (ext_at name) name) in
    let digits = last_part (front m ++ opening) (front n ++ opening) (words.decimal m) (words.decimal n)
    (append_cancel_right _ _ (codes ")") (append_cancel_right _ _ (drop (ext_at name) name) whole))
    (ap (list_all is_digit) (decimal_is m) ∙ decimal_digits m (omega arith)) (ap (list_all is_digit) (decimal_is n) ∙ decimal_digits n (omega arith)) in
    decimal_injective m n (omega arith) (omega arith) (sym (decimal_is m) ∙ digits ∙ decimal_is n)
