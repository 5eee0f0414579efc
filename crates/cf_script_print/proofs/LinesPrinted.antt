-- Lines written one after another.
use Rattle.std.proofs.Common.{◌≡◌, ℕ, suc, ◌-◌, ◌<◌, ◌≤◌, List, [], ◌∷◌, ◌++◌, length, take, drop, get_or, refl, sym, ap, ◌∙◌, arith, append_assoc}
use Rattle.std.proofs.Math.Seq.{take-length}
use Rattle.std.proofs.lemmas.List.{append-nil}
use Rattle.cf_base.specs.declared.events.Event.{Event}
use Rattle.cf_script_words.specs.Texts.{line_of}
use Rattle.cf_script_print.specs.Printed.{event_words, printed}

first_item : {A : Type 0} (xs : List A) (x : A) → 1 ≤ length xs → x ≡ get_or xs 0 x → xs ≡ x ∷ take (length xs - 1) (drop 1 xs)
first_item [] x low e = absurd (omega arith)
first_item (y ∷ ys) x low e = let n : suc (length ys) - 1 ≡ length ys = omega arith in rw (n, take-length ys, e) refl

pub print_more : (all : List ℕ) (text : List ℕ) (rest : List Event) (event : Event) → 1 ≤ length rest → event ≡ get_or rest 0 event → text ++ printed rest ≡ all
    → (text ++ line_of (event_words event) ++ 10 ∷ []) ++ printed (take (length rest - 1) (drop 1 rest)) ≡ all
print_more all text rest event some is h =
    let more = printed (take (length rest - 1) (drop 1 rest)) in
    append_assoc (text ++ line_of (event_words event)) (10 ∷ []) more ∙ append_assoc text (line_of (event_words event)) (10 ∷ more) ∙ ap (λ events. text ++ printed events) (sym (first_item rest event some is)) ∙ h

pub print_done : (all : List ℕ) (text : List ℕ) (rest : List Event) → length rest < 1 → text ++ printed rest ≡ all → text ≡ all
print_done all text [] none h = sym (append-nil text) ∙ h
print_done all text (event ∷ events) none h = absurd (omega arith)
