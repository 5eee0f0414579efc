-- What the changes of a file's bytes mean.
use Rattle.std.proofs.Common.{◌≡◌, ℕ, zero, suc, ◌+◌, ◌<◌, ◌≤◌, Bool, true, false, ◌&&◌, ◌||◌, not, List, [], ◌∷◌, ◌++◌, length, min, max, refl, sym, ap, ◌∙◌, arith, ltb, leb, inl, inr, Option, Some}
use Rattle.std.proofs.lemmas.Bool.{cases_lt}
use Rattle.std.proofs.lemmas.Bool.Decides.{nat_tests}
use Rattle.std.specs.Option.{is_some}
use Rattle.std.specs.Prelude.{map}
use Rattle.cf_base.specs.declared.ids.Usn.{Usn}
use Rattle.cf_base.specs.declared.spans.Span.{Span}
use Rattle.cf_model.specs.Effects.{got, later_than, leaves_at, left_out, sized, validated, validated_in, wrote}
use Rattle.cf_model.specs.Items.{Item, is_held, is_modified, is_valid}
use Rattle.cf_model.specs.Numbers.{above}
use Rattle.cf_model.specs.Overlay.{Put, Resize, Written, is_covered, patched, resized}
use Rattle.cf_model.specs.Words.{is_empty, passes_at, within}
use Rattle.cf_ranges.specs.Positions.{Adds, AddsAll, Cuts, CutsAll, IsMissing, contains, in_span}
use Rattle.cf_table.specs.Means.{HasBytes, IsLater, is_modified_since}
use Rattle.cf_table.specs.declared.rows.Row.{Row}
use Rattle.cf_table.proofs.Above.{covered_push_above, numbers_push, some_pushed, some_pushed_above}
use Rattle.cf_table.proofs.Meaning.{covered_push, flag_cleared, flag_padded, flag_sized, held_emptied, held_filled, held_sized, held_wrote, length_cleared, length_emptied, length_filled, length_wrote}
use Rattle.cf_model.proofs.Places.{length_padded, length_resized, passes_past}

-- a write and a size

same_span : (b : Bool) (s : Span) (start end p : ℕ) → s.start ≡ start → s.start + s.len ≡ end → (b || in_span s p) ≡ (b || within start end p)
same_span b s start end p e f = ap (λ v. b || within v (s.start + s.len) p) e ∙ ap (λ v. b || within start v p) f

grown : (size at end p : ℕ) (b : Bool) → (ltb p (max size end) && (b || within (min at size) end p)) ≡ ((ltb p size && b) || within (min at size) end p)
grown size at end p true = grind (arith, nat_tests)
grown size at end p false = grind (arith, nat_tests)

-- the modified positions after a write: `ws` are the writes that count before, `vs` those after
wrote_set : (old new : List Span) (s : Span) (at : ℕ) (bytes : List ℕ) (n : Usn) (held : List (Option ℕ)) (ws vs : List Written) (p : ℕ) →
    s.start ≡ min at (length held) → s.start + s.len ≡ at + length bytes →
    is_covered vs p ≡ (is_covered ws p || within (min at (length held)) (at + length bytes) p) →
    Adds old new s → contains old p ≡ (ltb p (length held) && is_covered ws p) →
    contains new p ≡ (ltb p (length (patched (Some 0) at (map Some bytes) held)) && is_covered vs p)
wrote_set old new s at bytes n held ws vs p start end pushed adds is =
    adds p ∙ ap (λ b. b || in_span s p) is
    ∙ same_span (ltb p (length held) && is_covered ws p) s (min at (length held)) (at + length bytes) p start end
    ∙ sym (grown (length held) at (at + length bytes) p (is_covered ws p))
    ∙ ap (λ b. ltb p (max (length held) (at + length bytes)) && b) (sym pushed)
    ∙ ap (λ k. ltb p k && is_covered vs p) (sym (length_wrote at bytes held))

pub wrote_bytes : (row new : Row) (s : Span) (at len : ℕ) (n : Usn) (i : Item) (bytes : List ℕ) → length bytes ≡ len → s.start ≡ min at row.size → s.start + s.len ≡ at + len →
    row.number ≡ i.number → IsLater n row → new.size ≡ max row.size (at + len) → new.anchor ≡ row.anchor → new.dirty ≡ true → new.dirty_since ≡ true →
    Adds row.here new.here s → new.valid ≡ row.valid → Adds row.modified new.modified s → Adds row.modified_since new.modified_since s → HasBytes row i → HasBytes new (wrote at bytes n i)
wrote_bytes row new s at len n i bytes l start end number later size anchor dirty dirty_since here valid modified since m =
    let w : Written = record { number = n; before = length i.held; write = Put at bytes } in
    let from : s.start ≡ min at (length i.held) = omega (arith, m.size) in
    let to : s.start + s.len ≡ at + length bytes = omega arith in
    let above_anchor : above n new.anchor ≡ true = ap (λ a. above n a) anchor ∙ later.anchor in
    record {
      size = omega (arith, length_wrote at bytes i.held, m.size);
      even = omega (arith, length_wrote at bytes i.held, length_padded (λ b. b) false (at + length bytes) i.valid, m.even);
      numbers = numbers_push i.number n i.writes w (ap (λ a. above n a) (sym number) ∙ later.number) refl m.numbers;
      dirty = dirty ∙ some_pushed i.writes w;
      dirty_since = dirty_since ∙ some_pushed_above new.anchor i.writes w above_anchor;
      here = λ p. here p ∙ ap (λ b. b || in_span s p) (m.here p) ∙ same_span (is_held i.held p) s (min at (length i.held)) (at + length bytes) p from to ∙ sym (held_wrote at bytes i.held p);
      valid = λ p. ap (λ r. contains r p) valid ∙ m.valid p ∙ sym (flag_padded (at + length bytes) i.valid p);
      modified = λ p. wrote_set row.modified new.modified s at bytes n i.held i.writes (i.writes ++ w ∷ []) p from to (covered_push i.writes w p) modified (m.modified p);
      modified_since = λ p. wrote_set row.modified_since new.modified_since s at bytes n i.held (later_than new.anchor i.writes) (later_than new.anchor (i.writes ++ w ∷ [])) p from to
          (covered_push_above new.anchor i.writes w p above_anchor) since (m.modified_since p ∙ ap (λ a. is_modified_since a i p) (sym anchor));
    }

-- what is cut from a set that has nothing past the old size
cut_one : (b : Bool) (size old p : ℕ) → size < old → (old ≤ p → b ≡ false) → (b && not (within size old p)) ≡ (ltb p size && b)
cut_one true size old p h none = grind (arith, nat_tests)
cut_one false size old p h none = grind (arith, nat_tests)

cut_more : (b : Bool) (size old p : ℕ) → size < old → (ltb p size && b) ≡ (ltb p size && (b || leb old p))
cut_more true size old p h = grind (arith, nat_tests)
cut_more false size old p h = grind (arith, nat_tests)

past_size : (size : ℕ) (b : Bool) (p : ℕ) → size ≤ p → (ltb p size && b) ≡ false
past_size size b p h = grind (arith, nat_tests)

cut_set : (old new : List Span) (s : Span) (size from p : ℕ) (b : Bool) → s.start ≡ size → s.start + s.len ≡ from → size < from → (from ≤ p → b ≡ false) → Cuts old new s → contains old p ≡ b → contains new p ≡ (ltb p size && b)
cut_set old new s size from p b start end less none cuts is =
    cuts p ∙ ap (λ v. v && not (in_span s p)) is ∙ ap (λ v. b && not (within v (s.start + s.len) p)) start ∙ ap (λ v. b && not (within size v p)) end ∙ cut_one b size from p less none

-- what grows from the old size on
grow_one : (b : Bool) (size old p : ℕ) → old ≤ size → (old ≤ p → b ≡ false) → (b || within old size p) ≡ (ltb p size && (b || leb old p))
grow_one true size old p h none = grind (arith, nat_tests)
grow_one false size old p h none = grind (arith, nat_tests)

keep_one : (b : Bool) (size old p : ℕ) → old ≤ size → (old ≤ p → b ≡ false) → b ≡ (ltb p size && b)
keep_one true size old p h none = grind (arith, nat_tests)
keep_one false size old p h none = grind (arith, nat_tests)

resized_one : (b : Bool) (before size p : ℕ) → (ltb p size && ((ltb p before && b) || leb before p)) ≡ (ltb p size && (b || within before size p))
resized_one true before size p = grind (arith, nat_tests)
resized_one false before size p = grind (arith, nat_tests)

-- the modified positions after a size, from those below it
sized_set : (new : List Span) (size : ℕ) (held : List (Option ℕ)) (ws vs : List Written) (p : ℕ) → is_covered vs p ≡ (is_covered ws p || within (length held) size p) →
    contains new p ≡ (ltb p size && ((ltb p (length held) && is_covered ws p) || leb (length held) p)) → contains new p ≡ (ltb p (length (resized (Some 0) size held)) && is_covered vs p)
sized_set new size held ws vs p pushed is =
    is ∙ resized_one (is_covered ws p) (length held) size p ∙ ap (λ b. ltb p size && b) (sym pushed) ∙ ap (λ k. ltb p k && is_covered vs p) (sym (length_resized is_some (Some 0) size held))

-- what is left of a set that had nothing past the old size, and what it grows by
abbrev Resizes : Row → List Span → List Span → ℕ → Type 0
Resizes row old new size = (p : ℕ) (b : Bool) → (row.size ≤ p → b ≡ false) → contains old p ≡ b → contains new p ≡ (ltb p size && (b || leb row.size p))

sized_bytes : (row new : Row) (size : ℕ) (n : Usn) (i : Item) → row.number ≡ i.number → IsLater n row → new.size ≡ size → new.anchor ≡ row.anchor → new.dirty ≡ true → new.dirty_since ≡ true →
    Resizes row row.here new.here size → Resizes row row.modified new.modified size → Resizes row row.modified_since new.modified_since size →
    ((p : ℕ) (b : Bool) → (row.size ≤ p → b ≡ false) → contains row.valid p ≡ b → contains new.valid p ≡ (ltb p size && b)) → HasBytes row i → HasBytes new (sized size n i)
sized_bytes row new size n i number later is anchor dirty dirty_since here modified since valid m =
    let w : Written = record { number = n; before = length i.held; write = Resize size } in
    let above_anchor : above n new.anchor ≡ true = ap (λ a. above n a) anchor ∙ later.anchor in
    record {
      size = is ∙ sym (length_resized is_some _ size i.held);
      even = length_resized (λ b. b) false size i.valid ∙ sym (length_resized is_some _ size i.held);
      numbers = numbers_push i.number n i.writes w (ap (λ a. above n a) (sym number) ∙ later.number) refl m.numbers;
      dirty = dirty ∙ some_pushed i.writes w;
      dirty_since = dirty_since ∙ some_pushed_above new.anchor i.writes w above_anchor;
      here = λ p. here p (is_held i.held p) (λ h. passes_past is_some i.held p (omega (arith, m.size))) (m.here p) ∙ ap (λ k. ltb p size && (is_held i.held p || leb k p)) m.size ∙ sym (held_sized size i.held p);
      valid = λ p. valid p (is_valid i p) (λ h. passes_past (λ b. b) i.valid p (omega (arith, m.size, m.even))) (m.valid p) ∙ sym (flag_sized size i.valid p);
      modified = λ p. sized_set new.modified size i.held i.writes (i.writes ++ w ∷ []) p (covered_push i.writes w p)
          (modified p (is_modified i p) (λ h. past_size (length i.held) (is_covered i.writes p) p (omega (arith, m.size))) (m.modified p) ∙ ap (λ k. ltb p size && (is_modified i p || leb k p)) m.size);
      modified_since = λ p. sized_set new.modified_since size i.held (later_than new.anchor i.writes) (later_than new.anchor (i.writes ++ w ∷ [])) p (covered_push_above new.anchor i.writes w p above_anchor)
          (since p (is_modified_since new.anchor i p) (λ h. past_size (length i.held) (is_covered (later_than new.anchor i.writes) p) p (omega (arith, m.size))) (m.modified_since p ∙ ap (λ a. is_modified_since a i p) (sym anchor))
          ∙ ap (λ k. ltb p size && (is_modified_since new.anchor i p || leb k p)) m.size);
    }

pub cut_bytes : (row new : Row) (s : Span) (size : ℕ) (n : Usn) (i : Item) → s.start ≡ size → s.start + s.len ≡ row.size → size < row.size →
    row.number ≡ i.number → IsLater n row → new.size ≡ size → new.anchor ≡ row.anchor → new.dirty ≡ true → new.dirty_since ≡ true →
    Cuts row.here new.here s → Cuts row.valid new.valid s → Cuts row.modified new.modified s → Cuts row.modified_since new.modified_since s → HasBytes row i → HasBytes new (sized size n i)
cut_bytes row new s size n i start end less number later is anchor dirty dirty_since here valid modified since m =
    sized_bytes row new size n i number later is anchor dirty dirty_since (cut row.here new.here here) (cut row.modified new.modified modified) (cut row.modified_since new.modified_since since)
    (λ p b none e. cut_set row.valid new.valid s size row.size p b start end less none valid e) m where
      cut : (old set : List Span) → Cuts old set s → Resizes row old set size
      cut old set cuts = λ p b none e. cut_set old set s size row.size p b start end less none cuts e ∙ cut_more b size row.size p less

pub grow_bytes : (row new : Row) (s : Span) (size : ℕ) (n : Usn) (i : Item) → s.start ≡ row.size → s.start + s.len ≡ size → row.size ≤ size →
    row.number ≡ i.number → IsLater n row → new.size ≡ size → new.anchor ≡ row.anchor → new.dirty ≡ true → new.dirty_since ≡ true →
    Adds row.here new.here s → new.valid ≡ row.valid → Adds row.modified new.modified s → Adds row.modified_since new.modified_since s → HasBytes row i → HasBytes new (sized size n i)
grow_bytes row new s size n i start end more number later is anchor dirty dirty_since here valid modified since m =
    sized_bytes row new size n i number later is anchor dirty dirty_since (grow row.here new.here here) (grow row.modified new.modified modified) (grow row.modified_since new.modified_since since)
    (λ p b none e. ap (λ r. contains r p) valid ∙ e ∙ keep_one b size row.size p more none) m where
      grow : (old set : List Span) → Adds old set s → Resizes row old set size
      grow old set adds = λ p b none e. adds p ∙ ap (λ v. v || in_span s p) e ∙ same_span b s row.size size p start end ∙ grow_one b size row.size p more none

-- what the provider gives, vouches for and takes out

clip : (b : Bool) (start end size p : ℕ) → start ≤ end → (b || within (min start size) (min end size) p) ≡ (b || (within start end p && ltb p size))
clip true start end size p h = refl
clip false start end size p h = grind (arith, nat_tests)

pub fill_bytes : (row new : Row) (s : Span) (start : ℕ) (i : Item) (bytes : List ℕ) → s.start ≡ min start row.size → s.start + s.len ≡ min (start + length bytes) row.size →
    new.size ≡ row.size → new.anchor ≡ row.anchor → new.dirty ≡ row.dirty → new.dirty_since ≡ row.dirty_since →
    Adds row.here new.here s → new.valid ≡ row.valid → new.modified ≡ row.modified → new.modified_since ≡ row.modified_since → HasBytes row i → HasBytes new (got start bytes i)
fill_bytes row new s start i bytes from to size anchor dirty dirty_since here valid modified since m = record {
  size = size ∙ m.size ∙ sym (length_filled start bytes i.held);
  even = m.even ∙ sym (length_filled start bytes i.held);
  numbers = m.numbers;
  dirty = dirty ∙ m.dirty;
  dirty_since = dirty_since ∙ m.dirty_since ∙ ap (λ a. not (is_empty (later_than a i.writes))) (sym anchor);
  here = λ p. here p ∙ ap (λ b. b || in_span s p) (m.here p) ∙ same_span (is_held i.held p) s (min start (length i.held)) (min (start + length bytes) (length i.held)) p (omega (arith, m.size)) (omega (arith, m.size))
      ∙ clip (is_held i.held p) start (start + length bytes) (length i.held) p (omega arith) ∙ sym (held_filled start bytes i.held p);
  valid = λ p. ap (λ r. contains r p) valid ∙ m.valid p;
  modified = λ p. ap (λ r. contains r p) modified ∙ m.modified p ∙ ap (λ k. ltb p k && is_covered i.writes p) (sym (length_filled start bytes i.held));
  modified_since = λ p. ap (λ r. contains r p) since ∙ m.modified_since p ∙ ap (λ a. is_modified_since a i p) (sym anchor) ∙ ap (λ k. ltb p k && is_covered (later_than new.anchor i.writes) p) (sym (length_filled start bytes i.held));
}

validated_at : (start end at : ℕ) (held : List (Option ℕ)) (flags : List Bool) (p q : ℕ) → length flags ≡ length held → q ≡ at + p →
    passes_at (λ b. b) (validated start end at held flags) p ≡ (passes_at (λ b. b) flags p || (within start end q && is_held held p))
validated_at start end at [] flags p q e h = none flags p (within start end q) (omega arith) where
  none : (flags : List Bool) (p : ℕ) (b : Bool) → length flags ≡ 0 → passes_at (λ b. b) flags p ≡ (passes_at (λ b. b) flags p || (b && false))
  none [] p true e = refl
  none [] p false e = refl
  none (f ∷ fs) p b e = absurd (omega arith)
validated_at start end at (h ∷ hs) [] p q e k = absurd (omega arith)
validated_at start end at (h ∷ hs) (b ∷ bs) zero q e k = ap (λ n. b || (within start end n && is_some h)) (omega arith)
validated_at start end at (h ∷ hs) (b ∷ bs) (suc p) q e k = validated_at start end (at + 1) hs bs p q (omega arith) (omega arith)

length_validated : (start end at : ℕ) (held : List (Option ℕ)) (flags : List Bool) → length (validated start end at held flags) ≡ length flags
length_validated start end at [] flags = refl
length_validated start end at (h ∷ hs) [] = refl
length_validated start end at (h ∷ hs) (b ∷ bs) = ap suc (length_validated start end (at + 1) hs bs)

vouched_one : (v s h : Bool) → (v || ((false || s) && not (s && not h))) ≡ (v || (s && h))
vouched_one true s h = refl
vouched_one false true true = refl
vouched_one false true false = refl
vouched_one false false h = refl

-- what is vouched for, where the gaps of the span are left out
pub vouched_for : (here valid new : List Span) (s : Span) (all gaps vouched : List Span) → Adds [] all s → IsMissing here s gaps → CutsAll all vouched gaps → AddsAll valid new vouched →
    (p : ℕ) → contains new p ≡ (contains valid p || (in_span s p && contains here p))
vouched_for here valid new s all gaps vouched adds missing cuts more p =
    more p ∙ ap (λ b. contains valid p || b) (cuts p ∙ ap (λ b. b && not (contains gaps p)) (adds p) ∙ ap (λ b. (false || in_span s p) && not b) (missing p))
    ∙ vouched_one (contains valid p) (in_span s p) (contains here p)

pub validate_bytes : (row new : Row) (s : Span) (i : Item) → ((p : ℕ) → contains new.valid p ≡ (contains row.valid p || (in_span s p && contains row.here p))) →
    new.size ≡ row.size → new.anchor ≡ row.anchor → new.dirty ≡ row.dirty → new.dirty_since ≡ row.dirty_since →
    new.here ≡ row.here → new.modified ≡ row.modified → new.modified_since ≡ row.modified_since → HasBytes row i → HasBytes new (validated_in s.start s.len i)
validate_bytes row new s i valid size anchor dirty dirty_since here modified since m = record {
  size = size ∙ m.size;
  even = length_validated s.start (s.start + s.len) 0 i.held i.valid ∙ m.even;
  numbers = m.numbers;
  dirty = dirty ∙ m.dirty;
  dirty_since = dirty_since ∙ m.dirty_since ∙ ap (λ a. not (is_empty (later_than a i.writes))) (sym anchor);
  here = λ p. ap (λ r. contains r p) here ∙ m.here p;
  valid = λ p. valid p ∙ ap (λ b. b || (in_span s p && contains row.here p)) (m.valid p) ∙ ap (λ b. is_valid i p || (in_span s p && b)) (m.here p)
      ∙ sym (validated_at s.start (s.start + s.len) 0 i.held i.valid p p m.even (omega arith));
  modified = λ p. ap (λ r. contains r p) modified ∙ m.modified p;
  modified_since = λ p. ap (λ r. contains r p) since ∙ m.modified_since p ∙ ap (λ a. is_modified_since a i p) (sym anchor);
}

leave_one : (b covered : Bool) (start end size p : ℕ) → (size ≤ p → b ≡ false) → (b && not (within start end p && not (ltb p size && covered))) ≡ (b && not (within start end p && not covered))
leave_one false covered start end size p none = refl
leave_one true covered start end size p none = ap (λ c. not (within start end p && not c)) (below covered size p none) where
  below : (c : Bool) (size p : ℕ) → (size ≤ p → true ≡ false) → (ltb p size && c) ≡ c
  below c size p none = elim (cases_lt p size) [
    | inl h ↦ inside c size p h
    | inr h ↦ let z : true ≡ false = none h in cc
  ] where
    inside : (c : Bool) (size p : ℕ) → p < size → (ltb p size && c) ≡ c
    inside c size p h = grind (arith, nat_tests)

pub empty_bytes : (row new : Row) (s : Span) (gaps : List Span) (i : Item) → IsMissing row.modified s gaps → CutsAll row.here new.here gaps → CutsAll row.valid new.valid gaps →
    new.size ≡ row.size → new.anchor ≡ row.anchor → new.dirty ≡ row.dirty → new.dirty_since ≡ row.dirty_since → new.modified ≡ row.modified → new.modified_since ≡ row.modified_since →
    HasBytes row i → HasBytes new (left_out s.start s.len i)
empty_bytes row new s gaps i missing here valid size anchor dirty dirty_since modified since m = record {
  size = size ∙ m.size ∙ sym (length_emptied (leaves_at s.start s.len i.writes) i.held);
  even = length_cleared (leaves_at s.start s.len i.writes) i.valid ∙ m.even ∙ sym (length_emptied (leaves_at s.start s.len i.writes) i.held);
  numbers = m.numbers;
  dirty = dirty ∙ m.dirty;
  dirty_since = dirty_since ∙ m.dirty_since ∙ ap (λ a. not (is_empty (later_than a i.writes))) (sym anchor);
  here = λ p. here p ∙ ap (λ g. contains row.here p && not g) (gap p) ∙ ap (λ b. b && not (in_span s p && not (is_modified i p))) (m.here p)
      ∙ leave_one (is_held i.held p) (is_covered i.writes p) s.start (s.start + s.len) (length i.held) p (passes_past is_some i.held p) ∙ sym (held_emptied (leaves_at s.start s.len i.writes) i.held p);
  valid = λ p. valid p ∙ ap (λ g. contains row.valid p && not g) (gap p) ∙ ap (λ b. b && not (in_span s p && not (is_modified i p))) (m.valid p)
      ∙ leave_one (is_valid i p) (is_covered i.writes p) s.start (s.start + s.len) (length i.held) p (λ h. passes_past (λ b. b) i.valid p (omega (arith, m.even))) ∙ sym (flag_cleared (leaves_at s.start s.len i.writes) i.valid p);
  modified = λ p. ap (λ r. contains r p) modified ∙ m.modified p ∙ ap (λ k. ltb p k && is_covered i.writes p) (sym (length_emptied (leaves_at s.start s.len i.writes) i.held));
  modified_since = λ p. ap (λ r. contains r p) since ∙ m.modified_since p ∙ ap (λ a. is_modified_since a i p) (sym anchor) ∙ ap (λ k. ltb p k && is_covered (later_than new.anchor i.writes) p) (sym (length_emptied (leaves_at s.start s.len i.writes) i.held));
} where
  gap : (p : ℕ) → contains gaps p ≡ (in_span s p && not (is_modified i p))
  gap p = missing p ∙ ap (λ b. in_span s p && not b) (m.modified p)
