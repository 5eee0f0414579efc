-- Where a name's extension begins, and how a text is cut at the end of a character.
use Rattle.std.proofs.Common.{◌≡◌, ℕ, zero, suc, ◌+◌, ◌-◌, ◌≤◌, ◌<◌, Bool, true, false, List, [], ◌∷◌, length, get_or, take, refl, sym, ap, ◌∙◌, arith, eqb, ltb, Some, None}
use Rattle.std.specs.Prelude.{slice_get, ◌≢◌, ◌||◌}
use Rattle.std.proofs.lemmas.List.{take_all}
use Rattle.std.proofs.lemmas.Bool.{cond-true, cond-false, eq-eqb, ne_eqb, lt-ltb, le-ltb, or_from, or_left, or_right}
use Rattle.cf_model.specs.ConflictNames.{cut_back, cut_text, ext_at, ext_from, is_inside, last_dot, or_here}
use Rattle.cf_model.specs.Words.{says}

pub no_dot : (at : ℕ) (xs : List ℕ) → ((k : ℕ) → k < length xs → get_or xs k 0 ≢ 46) → last_dot at xs ≡ None
no_dot at [] none = refl
no_dot at (b ∷ bs) none = λ k. or_here (no_dot (at + 1) bs (λ j lt. none (suc j) (omega arith)) k) (ne_eqb b 46 (none 0 (omega arith)) k) at

pub dot_at : (at : ℕ) (xs : List ℕ) (i : ℕ) → i < length xs → get_or xs i 0 ≡ 46 → ((k : ℕ) → i < k → k < length xs → get_or xs k 0 ≢ 46) → last_dot at xs ≡ Some (at + i)
dot_at at [] i lt e none = absurd (omega arith)
dot_at at (b ∷ bs) zero lt e none =
    let here : at ≡ at + 0 = omega arith in
    (λ k. or_here (no_dot (at + 1) bs (λ j l. none (suc j) (omega arith) (omega arith)) k) (eq-eqb b 46 e k) at) ∙ ap (λ n. Some n) here
dot_at at (b ∷ bs) (suc i) lt e none =
    let there : at + 1 + i ≡ at + suc i = omega arith in
    ap (λ o. or_here o (eqb b 46) at) (dot_at (at + 1) bs i (omega arith) e (λ k l m. none (suc k) (omega arith) (omega arith))) ∙ ap (λ n. Some n) there

pub no_extension : (name : List ℕ) → ((k : ℕ) → k < length name → get_or name k 0 ≢ 46) → length name ≡ ext_at name
no_extension name none = ap (λ o. ext_from o (length name)) (sym (no_dot 0 name none))

dot_here : (name : List ℕ) (i : ℕ) → i < length name → get_or name i 0 ≡ 46 → ((k : ℕ) → i < k → k < length name → get_or name k 0 ≢ 46) → ext_from (Some i) (length name) ≡ ext_at name
dot_here name i lt e none = let z : 0 + i ≡ i = omega arith in ap (λ o. ext_from o (length name)) (ap (λ n. Some n) (sym z) ∙ sym (dot_at 0 name i lt e none))

pub extension : (name : List ℕ) (i : ℕ) → i < length name → get_or name i 0 ≡ 46 → ((k : ℕ) → i < k → k < length name → get_or name k 0 ≢ 46) → 0 < i → length name - i ≤ 32 → i ≡ ext_at name
extension name i lt e none some short =
    sym (cond-false (eqb i 0 || ltb 32 (length name - i)) (length name) i (or_from _ _ (ne_eqb i 0 (λ z. omega arith)) (le-ltb 32 (length name - i) short))) ∙ dot_here name i lt e none

pub first_dot : (name : List ℕ) (i : ℕ) → i < length name → get_or name i 0 ≡ 46 → ((k : ℕ) → i < k → k < length name → get_or name k 0 ≢ 46) → i ≡ 0 → length name ≡ ext_at name
first_dot name i lt e none z = sym (cond-true (eqb i 0 || ltb 32 (length name - i)) (length name) i (or_left _ _ (eq-eqb i 0 z))) ∙ dot_here name i lt e none

pub long_extension : (name : List ℕ) (i : ℕ) → i < length name → get_or name i 0 ≡ 46 → ((k : ℕ) → i < k → k < length name → get_or name k 0 ≢ 46) → 32 < length name - i → length name ≡ ext_at name
long_extension name i lt e none long = sym (cond-true (eqb i 0 || ltb 32 (length name - i)) (length name) i (or_right _ _ (lt-ltb 32 (length name - i) long))) ∙ dot_here name i lt e none

-- cuts

at_place : (text : List ℕ) (n : ℕ) → n < length text → slice_get text n ≡ Some (get_or text n 0)
at_place [] n lt = absurd (omega arith)
at_place (b ∷ bs) zero lt = refl
at_place (b ∷ bs) (suc n) lt = at_place bs n (omega arith)

past_end : (text : List ℕ) (n : ℕ) → length text ≤ n → slice_get text n ≡ None
past_end [] n le = refl
past_end (b ∷ bs) zero le = absurd (omega arith)
past_end (b ∷ bs) (suc n) le = past_end bs n (omega arith)

pub uncut_text : (text : List ℕ) (n : ℕ) → length text ≤ n → text ≡ cut_text n text
uncut_text text n le = sym (take_all n text le) ∙ ap (λ o. cut_back n text (says is_inside o)) (sym (past_end text n le))

pub cut_here : (text : List ℕ) (n : ℕ) → n < length text → is_inside (get_or text n 0) ≡ false → take n text ≡ cut_text n text
cut_here text n lt e = sym (ap (λ o. cut_back n text (says is_inside o)) (at_place text n lt) ∙ ap (cut_back n text) e)

pub cut_before : (text : List ℕ) (n : ℕ) → n < length text → 0 < n → is_inside (get_or text n 0) ≡ true → cut_text (n - 1) text ≡ cut_text n text
cut_before text zero lt some e = absurd (omega arith)
cut_before text (suc n) lt some e =
    let one : suc n - 1 ≡ n = omega arith in
    ap (λ m. cut_text m text) one ∙ sym (ap (λ o. cut_back (suc n) text (says is_inside o)) (at_place text (suc n) lt) ∙ ap (cut_back (suc n) text) e)

pub cut_none : (text : List ℕ) (n : ℕ) → n ≡ 0 → take n text ≡ cut_text n text
cut_none text n e = ap (λ m. take m text) e ∙ sym (two (says is_inside (slice_get text 0))) ∙ ap (λ m. cut_text m text) (sym e) where
  two : (b : Bool) → cut_back 0 text b ≡ []
  two true = refl
  two false = refl
