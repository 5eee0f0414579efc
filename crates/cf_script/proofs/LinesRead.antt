-- The lines of a text and the events that they spell.
use Rattle.std.proofs.Common.{◌≡◌, ℕ, zero, suc, ◌+◌, ◌-◌, ◌<◌, ◌≤◌, Bool, true, false, List, [], ◌∷◌, ◌++◌, length, take, drop, refl, sym, ◌∙◌, inl, inr, arith, subst, append_assoc, length-append, length-drop, add-one, cond, Some, None, ltb-true, ltb-false}
use Rattle.std.specs.Prelude.{◌⊎◌, position, nat_lt, ◌==◌, Option}
use Rattle.std.proofs.Math.Seq.{take-length}
use Rattle.std.specs.List.{position_or_len}
use Rattle.cf_base.specs.declared.events.Event.{Event}
use Rattle.cf_base.specs.declared.policies.Mode.{Mode}
use Rattle.cf_script_words.specs.Words.{Reads}
use Rattle.cf_script.specs.Forms.{AreWords}
use Rattle.std.proofs.lemmas.List.{append-nil}
use Rattle.std.proofs.lemmas.List.Elements.{filter-append}
use Rattle.cf_script.specs.Script.{lines_of, words_of, AreEvents, Spells, is_event_line, event_lines, is_plain}
use Rattle.cf_script.specs.FailEvents.{IsLine}
use Rattle.std.specs.Str.{IsUtf8}

abbrev is_line_end : ℕ → Bool
is_line_end b = b == 10

bool_cases : (b : Bool) → (b ≡ true) ⊎ (b ≡ false)
bool_cases true = inl refl
bool_cases false = inr refl

-- the first line ends at the first line end
pub lines_cut : (text : List ℕ) (n : ℕ) → n ≡ position_or_len is_line_end text → n < length text → lines_of text ≡ take n text ∷ lines_of (drop (suc n) text)
lines_cut [] n e lt = absurd (omega arith)
lines_cut (b ∷ bs) zero e lt = elim (bool_cases (is_line_end b)) [
  | inl hit ↦ rw hit refl
  | inr miss ↦ let h = rw miss at e in absurd (omega arith)
]
lines_cut (b ∷ bs) (suc m) e lt = elim (bool_cases (is_line_end b)) [
  | inl hit ↦ let h = rw hit at e in absurd (omega arith)
  | inr miss ↦
      let h = rw miss at e in
      let rest : lines_of bs ≡ take m bs ∷ lines_of (drop (suc m) bs) = lines_cut bs m (omega arith) (omega arith) in
      rw (miss, rest) refl
]

-- a text with no line end is one line
pub lines_whole : (text : List ℕ) → 0 < length text → length text ≤ position_or_len is_line_end text → lines_of text ≡ text ∷ []
lines_whole [] some e = absurd (omega arith)
lines_whole (b ∷ []) some e = elim (bool_cases (is_line_end b)) [
  | inl hit ↦ let h = rw hit at e in absurd (omega arith)
  | inr miss ↦ rw miss refl
]
lines_whole (b ∷ c ∷ bs) some e = elim (bool_cases (is_line_end b)) [
  | inl hit ↦ let h = rw hit at e in absurd (omega arith)
  | inr miss ↦
      let h = rw miss at e in
      let rest : lines_of (c ∷ bs) ≡ (c ∷ bs) ∷ [] = lines_whole (c ∷ bs) (omega arith) (omega arith) in
      rw (miss, rest) refl
]

-- after some lines: they spell the events, and what is left follows
pub record HasRead (mode : Mode) (all : List (List ℕ)) (events : List Event) (rest : List (List ℕ)) (number : ℕ) : Type 0 where
  pub before : List (List ℕ)
  pub parts : all ≡ before ++ rest
  pub good : AreEvents mode (event_lines before) events
  pub few : length events ≤ 100000
  pub count : number ≡ length before

AreEvents-push : (mode : Mode) (lines : List (List ℕ)) (events : List Event) (line : List ℕ) (event : Event) → AreEvents mode lines events → Spells mode line event → AreEvents mode (lines ++ line ∷ []) (events ++ event ∷ [])
AreEvents-push mode [] [] line event h is = (is, tt)
AreEvents-push mode (l ∷ ls) (e ∷ es) line event h is = (h.0, AreEvents-push mode ls es line event h.1 is)
AreEvents-push mode [] (e ∷ es) line event h is = absurd h
AreEvents-push mode (l ∷ ls) [] line event h is = absurd h

kept_line : (lines : List (List ℕ)) (line : List ℕ) → is_event_line line ≡ true → event_lines (lines ++ line ∷ []) ≡ event_lines lines ++ line ∷ []
kept_line lines line here = filter-append is_event_line lines (line ∷ []) ∙ rw here refl

skipped_line : (lines : List (List ℕ)) (line : List ℕ) → is_event_line line ≡ false → event_lines (lines ++ line ∷ []) ≡ event_lines lines
skipped_line lines line none = filter-append is_event_line lines (line ∷ []) ∙ rw none (append-nil (event_lines lines))

pub read_more : (mode : Mode) (all : List (List ℕ)) (events : List Event) (line : List ℕ) (rest : List (List ℕ)) (n : ℕ) (event : Event) → HasRead mode all events (line ∷ rest) n → is_event_line line ≡ true → Spells mode line event → length events < 100000 → HasRead mode all (events ++ event ∷ []) rest (n + 1)
read_more mode all events line rest n event h here is room = record {
  before = h.before ++ line ∷ [];
  parts = h.parts ∙ sym (append_assoc h.before (line ∷ []) rest);
  good = rw (kept_line h.before line here) (AreEvents-push mode (event_lines h.before) events line event h.good is);
  few = simp length-append (omega arith);
  count = simp length-append (omega (arith, h.count));
}

pub read_skip : (mode : Mode) (all : List (List ℕ)) (events : List Event) (line : List ℕ) (rest : List (List ℕ)) (n : ℕ) → HasRead mode all events (line ∷ rest) n → is_event_line line ≡ false → HasRead mode all events rest (n + 1)
read_skip mode all events line rest n h none = record {
  before = h.before ++ line ∷ [];
  parts = h.parts ∙ sym (append_assoc h.before (line ∷ []) rest);
  good = rw (skipped_line h.before line none) h.good;
  few = h.few;
  count = simp length-append (omega (arith, h.count));
}

pub read_stops : (mode : Mode) (all : List (List ℕ)) (events : List Event) (line : List ℕ) (rest : List (List ℕ)) (n : ℕ) → HasRead mode all events (line ∷ rest) n → is_event_line line ≡ true → IsLine mode all (n + 1) events line
read_stops mode all events line rest n h here = record {
  before = h.before;
  after = rest;
  parts = h.parts;
  place = omega (arith, h.count);
  good = h.good;
  few = h.few;
  here = here;
}

pub read_all : (mode : Mode) (all : List (List ℕ)) (events : List Event) (n : ℕ) → HasRead mode all events [] n → AreEvents mode (event_lines all) events × (length events ≤ 100000)
read_all mode all events n h = (subst (λ ls. AreEvents mode (event_lines ls) events) (sym (h.parts ∙ append-nil h.before)) h.good, h.few)

pub read_none : (mode : Mode) (all : List (List ℕ)) → HasRead mode all [] all 0
read_none mode all = record { before = []; parts = refl; good = tt; few = omega arith; count = refl }

pub line_reads : (mode : Mode) (line text : List ℕ) (o : Option Event) → text ≡ line → IsUtf8 line → is_plain line ≡ true → Reads (AreWords mode (words_of text)) o → Reads (Spells mode line) o
line_reads mode line text (Some e) same utf8 plain h = (record { utf8 = utf8; plain = plain; words = subst (λ t. AreWords mode (words_of t) e) same h.0 }, λ y is. h.1 y (subst (λ t. AreWords mode (words_of t) y) (sym same) is.words))
line_reads mode line text None same utf8 plain h = λ y is. h y (subst (λ t. AreWords mode (words_of t) y) (sym same) is.words)

at_some : (b : Bool) (n m : ℕ) → cond b (Some n) None ≡ Some m → (b ≡ true) × (n ≡ m)
at_some true n m e = (refl, cc)
at_some false n m e = absurd cc

at_none : (b : Bool) (n : ℕ) → cond b (Some n) None ≡ None → b ≡ false
at_none true n e = absurd cc
at_none false n e = refl

pub lines_found : (text : List ℕ) (n : ℕ) → position is_line_end text ≡ Some n → lines_of text ≡ take n text ∷ lines_of (take (length text - (n + 1)) (drop (n + 1) text))
lines_found text n e =
    let h = at_some (nat_lt (position_or_len is_line_end text) (length text)) (position_or_len is_line_end text) n e in
    let lt : position_or_len is_line_end text < length text = ltb-true _ _ h.0 in
    let rest : take (length text - (n + 1)) (drop (n + 1) text) ≡ drop (suc n) text = rw (add-one, ← length-drop (suc n) text) (take-length (drop (suc n) text)) in
    rw rest (lines_cut text n (sym h.1) (omega arith))

pub lines_not_found : (text : List ℕ) → 0 < length text → position is_line_end text ≡ None → lines_of text ≡ text ∷ []
lines_not_found text some e =
    lines_whole text some (ltb-false _ _ (at_none (nat_lt (position_or_len is_line_end text) (length text)) (position_or_len is_line_end text) e))
