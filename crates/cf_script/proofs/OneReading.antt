-- A text has one reading, and is refused only where it has none.
use Rattle.std.proofs.Common.{◌≡◌, ℕ, ◌<◌, ◌≤◌, List, [], ◌∷◌, ◌++◌, length, refl, sym, ap, subst, ◌∙◌, arith}
use Rattle.std.proofs.lemmas.List.Elements.{filter-append}
use Rattle.cf_base.specs.declared.events.Event.{Event}
use Rattle.cf_base.specs.declared.policies.Mode.{Mode}
use Rattle.cf_script.specs.declared.script_errors.ScriptError.{ScriptError}
use Rattle.cf_script.specs.declared.script_errors.ScriptError.TheVariants as fails
use Rattle.cf_script.specs.Forms.{AreWords, Follows}
use Rattle.cf_script.specs.Script.{lines_of, words_of, AreEvents, Spells, is_event_line, event_lines, IsScript}
use Rattle.cf_script.specs.FailEvents.{IsLine, IsCause}
use Rattle.cf_script_words.proofs.CommandNames.{command_once}
use Rattle.cf_script.proofs.EventOnce.{follows_once}

words_once : (mode : Mode) (ws : List (List ℕ)) (e f : Event) → AreWords mode ws e → AreWords mode ws f → e ≡ f
words_once mode [] e f x y = absurd x
words_once mode (w ∷ ws) e f x y =
    let same = command_once x.0 y.0 (sym x.1 ∙ y.1) in
    follows_once y.0 ws e f (subst (λ c. Follows c ws e) same x.3) y.3

pub line_once : (mode : Mode) (line : List ℕ) (e f : Event) → Spells mode line e → Spells mode line f → e ≡ f
line_once mode line e f x y = words_once mode (words_of line) e f x.words y.words

pub events_once : (mode : Mode) (lines : List (List ℕ)) (es fs : List Event) → AreEvents mode lines es → AreEvents mode lines fs → es ≡ fs
events_once mode [] [] [] x y = refl
events_once mode [] [] (f ∷ fs) x y = absurd y
events_once mode [] (e ∷ es) fs x y = absurd x
events_once mode (l ∷ ls) [] fs x y = absurd x
events_once mode (l ∷ ls) (e ∷ es) [] x y = absurd y
events_once mode (l ∷ ls) (e ∷ es) (f ∷ fs) x y =
    let one : e ≡ f = line_once mode l e f x.0 y.0 in
    let rest : es ≡ fs = events_once mode ls es fs x.1 y.1 in cc

pub script_once : (mode : Mode) (text : List ℕ) (es fs : List Event) → IsScript mode text es → IsScript mode text fs → es ≡ fs
script_once mode text es fs x y = events_once mode (event_lines (lines_of text)) es fs x.0 y.0

-- what stands at a line of a script
stands_there : (mode : Mode) (xs ys : List (List ℕ)) (line : List ℕ) (es fs : List Event) → AreEvents mode xs es → AreEvents mode (xs ++ line ∷ ys) fs
    → (e : Event) × Spells mode line e × (length es < length fs)
stands_there mode [] ys line [] [] x y = absurd y
stands_there mode [] ys line [] (f ∷ fs) x y = (f, y.0, omega arith)
stands_there mode [] ys line (e ∷ es) fs x y = absurd x
stands_there mode (l ∷ ls) ys line [] fs x y = absurd x
stands_there mode (l ∷ ls) ys line (e ∷ es) [] x y = absurd y
stands_there mode (l ∷ ls) ys line (e ∷ es) (f ∷ fs) x y =
    let h = stands_there mode ls ys line es fs x.1 y.1 in (h.0, h.1, omega (arith, h.2))

at_line : (mode : Mode) (lines : List (List ℕ)) (n : ℕ) (events : List Event) (line : List ℕ) (h : IsLine mode lines n events line) (fs : List Event) → AreEvents mode (event_lines lines) fs
    → (e : Event) × Spells mode line e × (length events < length fs)
at_line mode lines n events line h fs good =
    let kept : event_lines (line ∷ h.after) ≡ line ∷ event_lines h.after = rw h.here refl in
    let parts : event_lines lines ≡ event_lines h.before ++ line ∷ event_lines h.after = ap event_lines h.parts ∙ filter-append is_event_line h.before (line ∷ h.after) ∙ ap (λ ls. event_lines h.before ++ ls) kept in
    stands_there mode (event_lines h.before) (event_lines h.after) line events fs h.good (subst (λ ls. AreEvents mode ls fs) parts good)

-- a script is not refused but for memory
pub not_refused : (mode : Mode) (lines : List (List ℕ)) (f : ScriptError) → IsCause mode lines f → (fs : List Event) → AreEvents mode (event_lines lines) fs → length fs ≤ 100000 → f ≡ fails.OutOfMemory
not_refused mode lines fails.OutOfMemory why fs good few = refl
not_refused mode lines (fails.Syntax n) why fs good few =
    let h = at_line mode lines n why.0 why.1 why.2 fs good in absurd (why.3 h.0 h.1)
not_refused mode lines (fails.TooManyEvents n) why fs good few =
    let h = at_line mode lines n why.0 why.1 why.2 fs good in
    let many = why.3 in absurd (omega (arith, h.2))
