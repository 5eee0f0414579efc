-- The lines of a report that begins with clean answers.
use Rattle.std.proofs.Common.{◌≤◌, ◌+◌, ◌-◌, append-nil, arith, codes, length-append, take, take_at, ◌≡◌, ◌==◌, not, ℕ, suc, Bool, true, false, List, [], ◌∷◌, ◌++◌, length, refl, sym, ◌∙◌, ap, append_assoc, map, filter}
use Rattle.std.specs.Prelude.{Some, slice_get}
use Rattle.std.specs.List.{flat_map, list_all}
use Rattle.cf_base.specs.declared.answers.Answer.{Answer}
use Rattle.cf_base.specs.declared.answers.OpenedBook.{OpenedBook}
use Rattle.cf_base.specs.declared.answers.Shown.{Shown}
use Rattle.cf_base.specs.declared.answers.Shown.TheVariants as shown
use Rattle.cf_base.specs.declared.notices.Notice.{Notice}
use Rattle.cf_base.specs.declared.waits.End.{End}
use Rattle.cf_base.specs.declared.waits.End.TheVariants as end
use Rattle.cf_report.specs.Texts.{line, notice_line, notice_words, result_line, shown_words, text, texts}
use Rattle.cf_report.specs.Words.{decimal, spaced}
use Rattle.cf_check_model.specs.Reports.{is_result_line, lines_of, onto_first, result_lines}
use Rattle.cf_check_text.specs.Clean.{clean_notice, clean_shown, has_no_ten, is_clean, is_not_ten}
use Rattle.cf_check_text.specs.Fronts.{Meet}
use Rattle.cf_check_text.proofs.Clashes.{cancel}
use Rattle.cf_check_text.proofs.Decimals.{decimal_apart, decimal_no_ten}
use Rattle.cf_check_text.proofs.CleanWords.{CleanWords, join, left_of, notice_clean, right_of, shown_clean}

-- bytes without the byte 10 and then that byte are a line
one_line : (xs rest : List ℕ) → has_no_ten xs ≡ true → lines_of (xs ++ 10 ∷ rest) ≡ (xs ++ 10 ∷ []) ∷ lines_of rest
one_line [] rest h = refl
one_line (x ∷ xs) rest h = by (x == 10) refl (one_line xs rest (right_of (is_not_ten x) (has_no_ten xs) h))
  where
    by : (b : Bool) → (x == 10) ≡ b → lines_of (xs ++ 10 ∷ rest) ≡ (xs ++ 10 ∷ []) ∷ lines_of rest → lines_of ((x ∷ xs) ++ 10 ∷ rest) ≡ ((x ∷ xs) ++ 10 ∷ []) ∷ lines_of rest
    by true e next = let z : false ≡ true = ap (λ (b : Bool). not b) (sym e) ∙ left_of (is_not_ten x) (has_no_ten xs) h in absurd cc
    by false e next = rw e (ap (λ (ls : List (List ℕ)). onto_first x ls) next)

spaced_clean : (ws : List (List ℕ)) → CleanWords ws → has_no_ten (spaced ws) ≡ true
spaced_clean [] h = refl
spaced_clean (w ∷ ws) h = join (32 ∷ w) (spaced ws) h.0 (spaced_clean ws h.1)

-- a line of clean words stands for itself
line_of_words : (mark : ℕ) (ws : List (List ℕ)) (rest : List ℕ) → is_not_ten mark ≡ true → CleanWords ws → lines_of (line mark ws ++ rest) ≡ line mark ws ∷ lines_of rest
line_of_words mark ws rest h clean =
    ap lines_of (append_assoc (mark ∷ spaced ws) (10 ∷ []) rest) ∙ one_line (mark ∷ spaced ws) rest (join (mark ∷ []) (spaced ws) (rw h refl) (spaced_clean ws clean))

notices_lines : (ns : List Notice) (rest : List ℕ) → list_all clean_notice ns ≡ true → lines_of (flat_map notice_line ns ++ rest) ≡ map notice_line ns ++ lines_of rest
notices_lines [] rest h = refl
notices_lines (n ∷ ns) rest h =
    ap lines_of (append_assoc (notice_line n) (flat_map notice_line ns) rest)
    ∙ line_of_words 45 (notice_words n) (flat_map notice_line ns ++ rest) refl (notice_clean n (left_of (clean_notice n) (list_all clean_notice ns) h))
    ∙ ap (λ (ls : List (List ℕ)). notice_line n ∷ ls) (notices_lines ns rest (right_of (clean_notice n) (list_all clean_notice ns) h))

-- the lines of a clean answer, and then those of the rest
pub answer_lines : (a : Answer) (rest : List ℕ) → is_clean a ≡ true → lines_of (text a ++ rest) ≡ map notice_line a.notes ++ (result_line a.shown ∷ lines_of rest)
answer_lines a rest h =
    let notes : list_all clean_notice a.notes ≡ true = left_of (list_all clean_notice a.notes) (clean_shown a.shown) h in
    let result : clean_shown a.shown ≡ true = right_of (list_all clean_notice a.notes) (clean_shown a.shown) h in
    ap lines_of (append_assoc (flat_map notice_line a.notes) (result_line a.shown) rest)
    ∙ notices_lines a.notes (result_line a.shown ++ rest) notes
    ∙ ap (λ (ls : List (List ℕ)). map notice_line a.notes ++ ls) (line_of_words 61 (shown_words a.shown) rest refl (shown_clean a.shown result))

-- of these the last alone tells a result
no_results : (ns : List Notice) (rest : List (List ℕ)) → filter is_result_line (map notice_line ns ++ rest) ≡ filter is_result_line rest
no_results [] rest = refl
no_results (n ∷ ns) rest = by (spaced (notice_words n)) (no_results ns rest)
  where
    by : (xs : List ℕ) → filter is_result_line (map notice_line ns ++ rest) ≡ filter is_result_line rest → filter is_result_line ((45 ∷ xs ++ 10 ∷ []) ∷ (map notice_line ns ++ rest)) ≡ filter is_result_line rest
    by [] e = e
    by (x ∷ xs) e = e

-- a result's line is one
end_result : (e : End) → is_result_line (result_line (shown.Ended e)) ≡ true
end_result (end.Data content) = refl
end_result _ = refl

result_is : (r : Shown) → is_result_line (result_line r) ≡ true
result_is (shown.Ended e) = end_result e
result_is _ = refl

answer_result : (a : Answer) (rest : List ℕ) → is_clean a ≡ true → result_lines (text a ++ rest) ≡ result_line a.shown ∷ result_lines rest
answer_result a rest h =
    ap (λ (ls : List (List ℕ)). filter is_result_line ls) (answer_lines a rest h)
    ∙ no_results a.notes (result_line a.shown ∷ lines_of rest)
    ∙ rw (result_is a.shown) refl

-- clean answers have a result line each, in order
pub results_of : (as' : List Answer) (rest : List ℕ) → list_all is_clean as' ≡ true → result_lines (texts as' ++ rest) ≡ map (λ a. result_line a.shown) as' ++ result_lines rest
results_of [] rest h = refl
results_of (a ∷ as') rest h =
    ap result_lines (append_assoc (text a) (flat_map text as') rest)
    ∙ answer_result a (texts as' ++ rest) (left_of (is_clean a) (list_all is_clean as') h)
    ∙ ap (λ (ls : List (List ℕ)). result_line a.shown ∷ ls) (results_of as' rest (right_of (is_clean a) (list_all is_clean as') h))

skip_results : {X : Type 0} (f : X → List ℕ) (xs : List X) (ls : List (List ℕ)) → slice_get (map f xs ++ ls) (length xs) ≡ slice_get ls 0
skip_results f [] ls = refl
skip_results f (x ∷ xs) ls = skip_results f xs ls

-- after clean answers the next result line is the first of the rest
pub next_result : (as' : List Answer) (rest : List ℕ) → list_all is_clean as' ≡ true → slice_get (result_lines (texts as' ++ rest)) (length as') ≡ slice_get (result_lines rest) 0
next_result as' rest h = ap (λ (ls : List (List ℕ)). slice_get ls (length as')) (results_of as' rest h) ∙ skip_results (λ a. result_line a.shown) as' (result_lines rest)

-- of a clean answer it is that of its result
pub result_of : (a : Answer) (rest : List ℕ) → is_clean a ≡ true → slice_get (result_lines (text a ++ rest)) 0 ≡ Some (result_line a.shown)
result_of a rest h = ap (λ (ls : List (List ℕ)). slice_get ls 0) (answer_result a rest h)

-- counts of restarts

head_of : (x y : List ℕ) (xs ys : List (List ℕ)) → x ∷ xs ≡ y ∷ ys → x ≡ y
head_of x y xs ys e = cc

before_ten : (xs ys : List ℕ) → xs ++ 10 ∷ [] ≡ ys ++ 10 ∷ [] → xs ≡ ys
before_ten xs ys e = sym (rev xs) ∙ ap (λ (zs : List ℕ). but_last zs) e ∙ rev ys
  where
    but_last : List ℕ → List ℕ
    but_last zs = take (length zs - 1) zs

    rev : (zs : List ℕ) → but_last (zs ++ 10 ∷ []) ≡ zs
    rev zs = ap (λ (n : ℕ). take n (zs ++ 10 ∷ [])) (let e : length (zs ++ 10 ∷ []) ≡ length zs + 1 = length-append zs (10 ∷ []) in omega (arith, e)) ∙ take_at zs (10 ∷ []) (length zs) refl

-- two results of restarts with which one report begins have one count
pub one_count : (n m : ℕ) (opened other : OpenedBook) → Meet (result_line (shown.Resumed n opened)) (result_line (shown.Resumed m other)) → n ≡ m
one_count n m opened other meet =
    let words : (k : ℕ) → List (List ℕ) = λ k. codes "resumed" ∷ decimal k ∷ [] in
    let clean : (k : ℕ) → CleanWords (words k) = λ k. (refl, (decimal_no_ten k, record {})) in
    let lines : line 61 (words n) ∷ lines_of meet.1.0 ≡ line 61 (words m) ∷ lines_of meet.2.0
    = sym (line_of_words 61 (words n) meet.1.0 refl (clean n)) ∙ ap lines_of (sym meet.1.1 ∙ meet.2.1) ∙ line_of_words 61 (words m) meet.2.0 refl (clean m) in
    let same : line 61 (words n) ≡ line 61 (words m) = head_of (line 61 (words n)) (line 61 (words m)) (lines_of meet.1.0) (lines_of meet.2.0) lines in
    let front : 61 ∷ spaced (words n) ≡ 61 ∷ spaced (words m) = before_ten (61 ∷ spaced (words n)) (61 ∷ spaced (words m)) same in
    let numbers : decimal n ++ [] ≡ decimal m ++ [] = cancel (codes "= resumed ") (decimal n ++ []) (decimal m ++ []) front in
    decimal_apart n m (sym (append-nil (decimal n)) ∙ numbers ∙ append-nil (decimal m))

-- an answer has at least as many bytes as notices
pub notices_fit : (a : Answer) → length a.notes ≤ length (text a)
notices_fit a = let e : length (text a) ≡ length (flat_map notice_line a.notes) + length (result_line a.shown) = length-append (flat_map notice_line a.notes) (result_line a.shown) in let n : length a.notes ≤ length (flat_map notice_line a.notes) = each_fits a.notes in omega (arith, e, n)
  where
    each_fits : (ns : List Notice) → length ns ≤ length (flat_map notice_line ns)
    each_fits [] = omega arith
    each_fits (n ∷ ns) =
        let e : length (notice_line n ++ flat_map notice_line ns) ≡ length (notice_line n) + length (flat_map notice_line ns) = length-append (notice_line n) (flat_map notice_line ns) in
        let f : length ns ≤ length (flat_map notice_line ns) = each_fits ns in
        let g : length (notice_line n) ≡ suc (length (spaced (notice_words n) ++ 10 ∷ [])) = refl in
        omega (arith, e, f, g)
