-- The lines of a text and the events of two devices that they spell.
use Rattle.std.proofs.Common.{◌≡◌, ℕ, ◌+◌, ◌<◌, ◌≤◌, true, false, List, [], ◌∷◌, ◌++◌, length, refl, sym, ◌∙◌, arith, append_assoc, length-append}
use Rattle.std.proofs.lemmas.List.{append-nil}
use Rattle.std.proofs.lemmas.List.Elements.{filter-append}
use Rattle.cf_pair_events.specs.declared.events.PairEvent.{PairEvent}
use Rattle.cf_pair_script.specs.PairScript.{AreEvents, Spells}
use Rattle.cf_script.specs.Script.{event_lines, is_event_line}

-- after some lines: they spell the events, and what is left follows
pub record HasRead (all : List (List ℕ)) (events : List PairEvent) (rest : List (List ℕ)) (number : ℕ) : Type 0 where
  pub before : List (List ℕ)
  pub parts : all ≡ before ++ rest
  pub good : AreEvents (event_lines before) events
  pub few : length events ≤ 100000
  pub count : number ≡ length before

events_push : (lines : List (List ℕ)) (events : List PairEvent) (line : List ℕ) (e : PairEvent) → AreEvents lines events → Spells line e → AreEvents (lines ++ line ∷ []) (events ++ e ∷ [])
events_push [] [] line e h is = (is, tt)
events_push (l ∷ ls) (x ∷ xs) line e h is = (h.0, events_push ls xs line e h.1 is)
events_push [] (x ∷ xs) line e h is = absurd h
events_push (l ∷ ls) [] line e h is = absurd h

kept_line : (lines : List (List ℕ)) (line : List ℕ) → is_event_line line ≡ true → event_lines (lines ++ line ∷ []) ≡ event_lines lines ++ line ∷ []
kept_line lines line here = filter-append is_event_line lines (line ∷ []) ∙ rw here refl

skipped_line : (lines : List (List ℕ)) (line : List ℕ) → is_event_line line ≡ false → event_lines (lines ++ line ∷ []) ≡ event_lines lines
skipped_line lines line none = filter-append is_event_line lines (line ∷ []) ∙ rw none (append-nil (event_lines lines))

pub read_more : (all : List (List ℕ)) (events : List PairEvent) (line : List ℕ) (rest : List (List ℕ)) (n : ℕ) (e : PairEvent) → HasRead all events (line ∷ rest) n → is_event_line line ≡ true → Spells line e
    → length events < 100000 → HasRead all (events ++ e ∷ []) rest (n + 1)
read_more all events line rest n e h here is room = record {
  before = h.before ++ line ∷ [];
  parts = h.parts ∙ sym (append_assoc h.before (line ∷ []) rest);
  good = rw (kept_line h.before line here) (events_push (event_lines h.before) events line e h.good is);
  few = simp length-append (omega arith);
  count = simp length-append (omega (arith, h.count));
}

pub read_skip : (all : List (List ℕ)) (events : List PairEvent) (line : List ℕ) (rest : List (List ℕ)) (n : ℕ) → HasRead all events (line ∷ rest) n → is_event_line line ≡ false → HasRead all events rest (n + 1)
read_skip all events line rest n h none = record {
  before = h.before ++ line ∷ [];
  parts = h.parts ∙ sym (append_assoc h.before (line ∷ []) rest);
  good = rw (skipped_line h.before line none) h.good;
  few = h.few;
  count = simp length-append (omega (arith, h.count));
}
