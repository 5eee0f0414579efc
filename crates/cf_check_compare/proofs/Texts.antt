-- The lines of an answer, one after the other.
use Rattle.std.proofs.Common.{◌≡◌, ◌<◌, ◌+◌, ℕ, suc, Bool, true, false, List, [], ◌∷◌, ◌++◌, length, map, drop, refl, sym, ◌∙◌, ap, arith, append-nil, append_assoc, length-append}
use Rattle.std.specs.Prelude.{None, cond}
use Rattle.std.specs.List.{flat_map, list_all}
use Rattle.cf_base.specs.declared.answers.Answer.{Answer}
use Rattle.cf_base.specs.declared.notices.Notice.{Notice}
use Rattle.cf_check_compare.specs.Lines.{IsFirstLine}
use Rattle.cf_check_compare.specs.Passed.{IsTextOf}
use Rattle.cf_check_model.specs.Reports.{lines_of}
use Rattle.cf_check_text.proofs.CleanWords.{left_of, right_of}
use Rattle.cf_check_text.proofs.Clashes.{cancel}
use Rattle.cf_check_text.proofs.Lines.{answer_lines}
use Rattle.cf_check_text.specs.Clean.{clean_notice, clean_shown, is_clean}
use Rattle.cf_check_traces.specs.Tests.{begins, differs_plainly, meets_lines}
use Rattle.cf_report.specs.Texts.{notice_line, result_line, text}

head_of : (x y : List ℕ) (xs ys : List (List ℕ)) → x ∷ xs ≡ y ∷ ys → x ≡ y
head_of x y xs ys e = cc

-- the first line of the text is that of the first notice, and the rest is the text of the others
pub first_notice : (n : Notice) (ns : List Notice) (t line after : List ℕ) → IsTextOf (n ∷ ns) t → IsFirstLine t line after → (line ≡ notice_line n) × IsTextOf ns after
first_notice n ns t line after (s, notes, shown, is) first =
    let a : Answer = record { notes = n ∷ ns; shown = s; stray = None } in
    let clean : is_clean a ≡ true = rw notes shown in
    let told : lines_of t ≡ map notice_line (n ∷ ns) ++ (result_line s ∷ []) = ap lines_of (is ∙ sym (append-nil (text a))) ∙ answer_lines a [] clean in
    let here : line ≡ notice_line n = head_of line (notice_line n) (lines_of after) _ (sym first.lines ∙ told) in
    let rest : after ≡ flat_map notice_line ns ++ result_line s =
    cancel (notice_line n) after (flat_map notice_line ns ++ result_line s)
    (ap (λ (xs : List ℕ). xs ++ after) (sym here) ∙ sym first.parts ∙ is ∙ append_assoc (notice_line n) (flat_map notice_line ns) (result_line s)) in
    (here, (s, right_of (clean_notice n) (list_all clean_notice ns) notes, shown, rest))

pub some_text : (ns : List Notice) (t : List ℕ) → IsTextOf ns t → 0 < length t
some_text ns t (s, notes, shown, is) =
    let e : length t ≡ length (flat_map notice_line ns) + length (result_line s) = ap (λ (xs : List ℕ). length xs) is ∙ length-append (flat_map notice_line ns) (result_line s) in
    let one : length (result_line s) ≡ suc _ = refl in
    omega (arith, e, one)

-- one line more is met, or the report goes on otherwise
pub meets_next : (n : Notice) (ns : List Notice) (line left : List ℕ) → line ≡ notice_line n → begins line left ≡ true → meets_lines (n ∷ ns) left ≡ meets_lines ns (drop (length line) left)
meets_next n ns line left is here =
    ap (λ (c : Bool). cond c (meets_lines ns (drop (length (notice_line n)) left)) (differs_plainly n left)) (ap (λ (l : List ℕ). begins l left) (sym is) ∙ here)
    ∙ ap (λ (l : List ℕ). meets_lines ns (drop (length l) left)) (sym is)

pub meets_not : (n : Notice) (ns : List Notice) (line left : List ℕ) → line ≡ notice_line n → begins line left ≡ false → meets_lines (n ∷ ns) left ≡ differs_plainly n left
meets_not n ns line left is here = ap (λ (c : Bool). cond c (meets_lines ns (drop (length (notice_line n)) left)) (differs_plainly n left)) (ap (λ (l : List ℕ). begins l left) (sym is) ∙ here)

-- the text of a clean answer
pub text_of : (a : Answer) → is_clean a ≡ true → IsTextOf a.notes (text a)
text_of a clean = (a.shown, left_of (list_all clean_notice a.notes) (clean_shown a.shown) clean, right_of (list_all clean_notice a.notes) (clean_shown a.shown) clean, refl)
