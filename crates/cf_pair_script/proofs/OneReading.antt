-- A text of two devices has one reading, and is refused only where it has none.
use Rattle.std.proofs.Common.{◌≡◌, ℕ, ◌<◌, ◌≤◌, true, false, List, [], ◌∷◌, ◌++◌, length, refl, sym, ap, subst, ◌∙◌, arith}
use Rattle.std.specs.Prelude.{Option, Some, None}
use Rattle.std.proofs.lemmas.List.Elements.{filter-append}
use Rattle.cf_base.specs.declared.events.Event.TheVariants as event
use Rattle.cf_base.specs.declared.events.PeerEvent.{PeerEvent}
use Rattle.cf_base.specs.declared.policies.Mode.TheVariants as mode
use Rattle.cf_pair_events.specs.declared.events.PairEvent.{PairEvent}
use Rattle.cf_pair_events.specs.declared.events.PairEvent.TheVariants as pair
use Rattle.cf_pair_model.specs.declared.devices.Device.{Device}
use Rattle.cf_pair_script.specs.Causes.{IsCause, IsLine}
use Rattle.cf_pair_script.specs.PairScript.{AreEvents, IsScript, Spells, SpellsBy, SpellsOf, SpellsShared, parts_of, peer_of}
use Rattle.cf_script.specs.Script.{event_lines, is_event_line, lines_of}
use Rattle.cf_script.specs.declared.script_errors.ScriptError.{ScriptError}
use Rattle.cf_script.specs.declared.script_errors.ScriptError.TheVariants as fails
use Rattle.cf_script.proofs.OneReading as single

of_once : (d : Device) (text : List ℕ) (a b : PairEvent) → SpellsOf d text a → SpellsOf d text b → a ≡ b
of_once d text (pair.Of v e) (pair.Of w f) x y =
    let whose : v ≡ w = x.0 ∙ sym y.0 in let same : e ≡ f = single.line_once mode.Replay text e f x.1 y.1 in cc
of_once d text (pair.Of v e) (pair.Peer f) x y = absurd y
of_once d text (pair.Of v e) pair.Compare x y = absurd y
of_once d text (pair.Peer e) b x y = absurd x
of_once d text pair.Compare b x y = absurd x

shared_once : (line : List ℕ) (a b : PairEvent) → SpellsShared line a → SpellsShared line b → a ≡ b
shared_once line (pair.Of d e) b x y = absurd x
shared_once line (pair.Peer e) (pair.Of d f) x y = absurd y
shared_once line (pair.Peer e) (pair.Peer f) x y =
    let same : Some e ≡ Some f = ap peer_of (single.line_once mode.Replay line (event.Peer e) (event.Peer f) x.1 y.1) in
    let it : e ≡ f = cc in ap (λ (p : PeerEvent). pair.Peer p) it
shared_once line (pair.Peer e) pair.Compare x y = let bad : true ≡ false = sym y ∙ x.0 in cc
shared_once line pair.Compare (pair.Of d f) x y = absurd y
shared_once line pair.Compare (pair.Peer f) x y = let bad : true ≡ false = sym x ∙ y.0 in cc
shared_once line pair.Compare pair.Compare x y = refl

by_once : (part : Option (Device × List ℕ)) (line : List ℕ) (a b : PairEvent) → SpellsBy part line a → SpellsBy part line b → a ≡ b
by_once None line a b x y = shared_once line a b x y
by_once (Some part) line a b x y = of_once part.0 part.1 a b x y

pub line_once : (line : List ℕ) (a b : PairEvent) → Spells line a → Spells line b → a ≡ b
line_once line a b x y = by_once (parts_of line) line a b x y

pub events_once : (lines : List (List ℕ)) (es fs : List PairEvent) → AreEvents lines es → AreEvents lines fs → es ≡ fs
events_once [] [] [] x y = refl
events_once [] [] (f ∷ fs) x y = absurd y
events_once [] (e ∷ es) fs x y = absurd x
events_once (l ∷ ls) [] fs x y = absurd x
events_once (l ∷ ls) (e ∷ es) [] x y = absurd y
events_once (l ∷ ls) (e ∷ es) (f ∷ fs) x y =
    let one : e ≡ f = line_once l e f x.0 y.0 in
    let rest : es ≡ fs = events_once ls es fs x.1 y.1 in cc

pub script_once : (text : List ℕ) (es fs : List PairEvent) → IsScript text es → IsScript text fs → es ≡ fs
script_once text es fs x y = events_once (event_lines (lines_of text)) es fs x.0 y.0

-- what stands at a line of a script
stands_there : (xs ys : List (List ℕ)) (line : List ℕ) (es fs : List PairEvent) → AreEvents xs es → AreEvents (xs ++ line ∷ ys) fs → (e : PairEvent) × Spells line e × (length es < length fs)
stands_there [] ys line [] [] x y = absurd y
stands_there [] ys line [] (f ∷ fs) x y = (f, y.0, omega arith)
stands_there [] ys line (e ∷ es) fs x y = absurd x
stands_there (l ∷ ls) ys line [] fs x y = absurd x
stands_there (l ∷ ls) ys line (e ∷ es) [] x y = absurd y
stands_there (l ∷ ls) ys line (e ∷ es) (f ∷ fs) x y = let h = stands_there ls ys line es fs x.1 y.1 in (h.0, h.1, omega (arith, h.2))

at_line : (lines : List (List ℕ)) (n : ℕ) (events : List PairEvent) (line : List ℕ) (h : IsLine lines n events line) (fs : List PairEvent) → AreEvents (event_lines lines) fs
    → (e : PairEvent) × Spells line e × (length events < length fs)
at_line lines n events line h fs good =
    let kept : event_lines (line ∷ h.after) ≡ line ∷ event_lines h.after = rw h.here refl in
    let parts : event_lines lines ≡ event_lines h.before ++ line ∷ event_lines h.after =
    ap event_lines h.parts ∙ filter-append is_event_line h.before (line ∷ h.after) ∙ ap (λ (ls : List (List ℕ)). event_lines h.before ++ ls) kept in
    stands_there (event_lines h.before) (event_lines h.after) line events fs h.good (subst (λ (ls : List (List ℕ)). AreEvents ls fs) parts good)

-- a script is not refused but for memory
pub not_refused : (lines : List (List ℕ)) (f : ScriptError) → IsCause lines f → (fs : List PairEvent) → AreEvents (event_lines lines) fs → length fs ≤ 100000 → f ≡ fails.OutOfMemory
not_refused lines fails.OutOfMemory why fs good few = refl
not_refused lines (fails.Syntax n) why fs good few = let h = at_line lines n why.0 why.1 why.2 fs good in absurd (why.3 h.0 h.1)
not_refused lines (fails.TooManyEvents n) why fs good few =
    let h = at_line lines n why.0 why.1 why.2 fs good in
    let many = why.3 in absurd (omega (arith, h.2))
