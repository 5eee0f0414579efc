-- What is written of a report, and what waits.
use Rattle.std.proofs.Common.{◌≡◌, ℕ, ◌+◌, ◌-◌, ◌≤◌, length, append_assoc, List, [], ◌++◌, sym, ap, subst, ◌∙◌, arith}
use Rattle.std.specs.Prelude.{Option}
use Rattle.std.proofs.lemmas.List.{append-nil, length-append}
use Rattle.cf_io.proofs.Adding.{Adds-then}
use Rattle.cf_io.specs.Moves.{Adds, AddsFront}
use Rattle.cf_world_plays.specs.Runs.{most_report}
use Rattle.cf_world_plays.specs.Steps.{AddFails, Hands, IsDrafted, IsOfSink}
use Rattle.cf_world_plays.specs.declared.play_errors.PlayError.{PlayError}
use Rattle.cf_world_plays.specs.declared.play_errors.PlayError.TheVariants.{OutOfMemory, SinkFault, TooLong}

-- a piece more, of which some was written
pub drafted_more : (text piece waiting left : List ℕ) (made : ℕ) (old now new : Option (List ℕ)) → IsDrafted text waiting made old now → length piece ≤ most_report - made → Hands now new (waiting ++ piece) left
    → IsDrafted (text ++ piece) left (made + length piece) old new
drafted_more text piece waiting left made old now new h fits k = record {
  front = h.front ++ k.0;
  parts = ap (λ x. x ++ piece) h.parts ∙ append_assoc h.front waiting piece ∙ ap (λ x. h.front ++ x) k.1 ∙ sym (append_assoc h.front k.0 left);
  long = ap (λ (n : ℕ). n + length piece) h.long ∙ sym (length-append text piece);
  short = let s = h.short in omega (arith, fits, s);
  written = Adds-then old now new h.front k.0 h.written k.2;
}

-- all that waited was written
pub drafted_all : (text waiting : List ℕ) (made : ℕ) (old now new : Option (List ℕ)) → IsDrafted text waiting made old now → Adds now new waiting → Adds old new text
drafted_all text waiting made old now new h k = subst (λ x. Adds old new x) (sym h.parts) (Adds-then old now new h.front waiting h.written k)

-- what was written so far is a front
pub drafted_front : (text waiting : List ℕ) (made : ℕ) (old now : Option (List ℕ)) → IsDrafted text waiting made old now → AddsFront old now text
drafted_front text waiting made old now h = (h.front, waiting, h.parts, h.written)

-- a front of what waited was written
pub drafted_stops : (text piece waiting : List ℕ) (made : ℕ) (old now new : Option (List ℕ)) → IsDrafted text waiting made old now → AddsFront now new (waiting ++ piece) → AddsFront old new (text ++ piece)
drafted_stops text piece waiting made old now new h k = (
  h.front ++ k.0,
  k.1,
  ap (λ x. x ++ piece) h.parts ∙ append_assoc h.front waiting piece ∙ ap (λ x. h.front ++ x) k.2 ∙ sym (append_assoc h.front k.0 k.1),
  Adds-then old now new h.front k.0 h.written k.3,
)

-- a front of a text is one of a longer text
pub front_more : (text piece : List ℕ) (old new : Option (List ℕ)) → AddsFront old new text → AddsFront old new (text ++ piece)
front_more text piece old new k = (k.0, k.1 ++ piece, ap (λ x. x ++ piece) k.2 ∙ append_assoc k.0 k.1 piece, k.3)

pub drafted_stops_here : (text waiting : List ℕ) (made : ℕ) (old now new : Option (List ℕ)) → IsDrafted text waiting made old now → AddsFront now new waiting → AddsFront old new text
drafted_stops_here text waiting made old now new h k =
    subst (λ x. AddsFront old new x) (append-nil text) (drafted_stops text [] waiting made old now new h (front_more waiting [] now new k))

-- a piece was not added, where sink or memory failed
pub add_early : (text piece : List ℕ) (old new : Option (List ℕ)) (e : PlayError) → IsOfSink e → AddsFront old new (text ++ piece) → AddFails text piece old new e
add_early text piece old new SinkFault is h = h
add_early text piece old new OutOfMemory is h = h
add_early text piece old new TooLong is h = absurd is

-- what waited was written, and then a front of the piece behind it
pub front_behind : (waiting piece : List ℕ) (old now new : Option (List ℕ)) → Adds old now waiting → AddsFront now new piece → AddsFront old new (waiting ++ piece)
front_behind waiting piece old now new h k = (waiting ++ k.0, k.1, ap (λ x. waiting ++ x) k.2 ∙ sym (append_assoc waiting k.0 k.1), Adds-then old now new waiting k.0 h k.3)

-- both were written, and nothing waits
pub both_handed : (waiting piece left : List ℕ) (old now new : Option (List ℕ)) → Adds old now waiting → Adds now new piece → left ≡ [] → Hands old new (waiting ++ piece) left
both_handed waiting piece left old now new h k none = (
  waiting ++ piece,
  sym (append-nil (waiting ++ piece)) ∙ ap (λ x. (waiting ++ piece) ++ x) (sym none),
  Adds-then old now new waiting piece h k,
)
