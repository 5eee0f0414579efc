-- Where a part is at fault, none of its values is spelled at the front.
use Rattle.std.proofs.Common.{◌≡◌, ℕ, zero, suc, ◌+◌, ◌/◌, ◌%◌, ◌^◌, ◌<◌, ◌≤◌, Bool, true, false, List, [], ◌∷◌, ◌++◌, length, refl, sym, ap, subst, ◌∙◌, append_assoc, append-nil, arith, length-append, Option, Some, None, inl, inr}
use Rattle.std.specs.Prelude.{IfErr, Result, Ok, Err, unwrap_or, is_some}
use Rattle.std.specs.List.{flat_map}
use Rattle.cf_base.specs.declared.ids.Usn.{Usn}
use Rattle.cf_base.specs.declared.items.Pin.{Pin}
use Rattle.cf_base.specs.declared.items.Pin.TheVariants as pin
use Rattle.cf_base.specs.declared.spans.Span.{Span}
use Rattle.cf_codec.specs.Left.{Left}
use Rattle.cf_codec.specs.declared.failures.CodecError.{CodecError}
use Rattle.cf_codec.specs.declared.failures.CodecError.TheVariants as codec
use Rattle.cf_codec.specs.declared.formats.Format.{Format}
use Rattle.cf_codec.specs.declared.formats.Format.TheVariants.{First, Second}
use Rattle.cf_model.specs.Books.{usn_bytes}
use Rattle.cf_model.specs.Rows.{Extent, pin_byte, spell_extent, spell_extents, spell_run, spell_runs}
use Rattle.cf_model.specs.Rows as model
use Rattle.cf_model.specs.Words.{in_bytes}
use Rattle.cf_table.specs.Faults.{Any, AreFlags, AreTable, AtBasics, AtBytes, AtEnd, AtExtent, AtExtents, AtFlags, AtHead, AtIdentity, AtLengths, AtMap, AtName, AtNumber, AtNumbers, AtPin, AtRow, AtRows, AtRun, AtRuns, AtSet, AtSets, AtTable, AtTicks, AtUsn, AtWho, AtWhole, IsBaseField, IsLen, IsNumber, IsTold, NoFault, Then, of_codec}
use Rattle.cf_table.specs.Reading.{AreExtents, AreExtentsFrom, AreLengths, AreNumbers, AreRowsIn, AreRunsFrom, AreTicks, IsAbove, IsBasics, IsExtent, IsHead, IsIdentity, IsName, IsRowIn, IsRun, IsSet, IsStored, IsUsn, IsWho, basics_bytes, flags_limit, flags_number, head_bytes, head_of, identity_bytes, lengths_bytes, name_bytes, numbers_bytes, ticks_bytes, who_bytes}
use Rattle.cf_table.specs.Spelling.{spell_row_in, spell_rows_in}
use Rattle.cf_table.specs.declared.failures.RowError.{RowError}
use Rattle.cf_table.specs.declared.failures.RowError.TheVariants.{BadField, OutOfMemory, Short}
use Rattle.cf_table.specs.declared.heads.Basics.{Basics}
use Rattle.cf_table.specs.declared.heads.Flags.{Flags}
use Rattle.cf_table.specs.declared.heads.Lengths.{Lengths}
use Rattle.cf_table.specs.declared.heads.Numbers.{Numbers}
use Rattle.cf_table.proofs.OneRow.{one_extent, one_row, one_run, one_set, one_table, row_parts}
use Rattle.cf_table.proofs.OneText.{OneOf, one_2, one_4, one_8, one_basics, one_flags, one_head, one_identity, one_name, one_pin, one_usn, one_who, low_flags, parted, small_flags}

-- no value stands at the front of the text
abbrev pub Misses : {X : Type 0} → (X → Type 0) → (X → List ℕ) → List ℕ → Type 0
Misses {X} Is spell text = (x : X) (more : List ℕ) → Is x → text ≡ spell x ++ more → ⊥

abbrev pub Refuses : {X : Type 0} → (Left → RowError → Type 0) → (X → Type 0) → (X → List ℕ) → Type 0
Refuses At Is spell = (left : Left) (e : RowError) → IsTold e → At left e → Misses Is spell left.rest

-- of two parts, the first of which has one spelling
pub two_parts : {X Y : Type 0} (At : Left → RowError → Type 0) (Is : X → Type 0) (spell : X → List ℕ) (Next : X → Left → RowError → Type 0) (Then_is : X → Y → Type 0) (then_spell : Y → List ℕ) →
    Refuses At Is spell → OneOf Is spell → ((x : X) → Refuses (Next x) (Then_is x) then_spell) →
    (left : Left) (e : RowError) → IsTold e → Then At Is spell Next left e → (x : X) (y : Y) (more : List ℕ) → Is x → Then_is x y → left.rest ≡ spell x ++ (then_spell y ++ more) → ⊥
two_parts At Is spell Next Then_is then_spell refuses one nexts left e told (inl h) x y more is then_is text = refuses left e told h x (then_spell y ++ more) is text
two_parts At Is spell Next Then_is then_spell refuses one nexts left e told (inr h) x y more is then_is text =
    let p = one h.part x h.mid.rest (then_spell y ++ more) h.is_part is (sym h.takes.parts ∙ text) in
    nexts h.part h.mid e told h.fault y more (subst (λ z. Then_is z y) (sym p.0) then_is) p.1

pub not_told : (e : RowError) → IsTold e → NoFault e → ⊥
not_told (Short place) told h = h
not_told (BadField place) told h = h
not_told OutOfMemory told h = told

-- numbers

number_length : (n v : ℕ) → length (in_bytes n v) ≡ n
number_length zero v = refl
number_length (suc n) v = ap suc (number_length n v)

short_of : (n : ℕ) (text x more : List ℕ) → length text < n → length x ≡ n → text ≡ x ++ more → ⊥
short_of n text x more h l e = absurd (omega (arith, h, l, ap length e, length-append x more))

pub bytes_miss : (n : ℕ) → Refuses (AtBytes n) (λ (t : List ℕ). length t ≡ n) (λ t. t)
bytes_miss n left (Short place) told h x more is text = short_of n left.rest x more h.1 is text
bytes_miss n left (BadField place) told h x more is text = h
bytes_miss n left OutOfMemory told h x more is text = told

pub number_misses : (n : ℕ) (Allowed : ℕ → Type 0) → OneOf (λ (v : ℕ). v < 256 ^ n) (in_bytes n) → Refuses (AtNumber n Allowed) (IsNumber n Allowed) (in_bytes n)
number_misses n Allowed one left (Short place) told h x more is text = short_of n left.rest (in_bytes n x) more h.1 (number_length n x) text
number_misses n Allowed one left (BadField place) told h x more is text =
    let p = one h.1 x h.2.rest more h.3 is.0 (sym h.4.parts ∙ text) in
    h.5 (subst Allowed (sym p.0) is.1)
number_misses n Allowed one left OutOfMemory told h x more is text = told

pub once : (n : ℕ) (Allowed : ℕ → Type 0) → OneOf (λ (v : ℕ). v < 256 ^ n) (in_bytes n) → OneOf (IsNumber n Allowed) (in_bytes n)
once n Allowed one v w a b h k e = one v w a b h.0 k.0 e

pub one_1 : OneOf (λ (v : ℕ). v < 256) (in_bytes 1)
one_1 v w a b h k e =
    let p = parted (v / 1 % 256 ∷ []) (w / 1 % 256 ∷ []) a b refl e in
    let q : v / 1 % 256 ≡ w / 1 % 256 = cc (p.0) in
    (omega (arith, q), p.1)

-- heads

who_misses : (before : Option ℕ) → Refuses (AtWho before) (IsWho before) who_bytes
who_misses before left e told h w more is text =
    two_parts (AtNumber 8 (IsAbove before)) (IsNumber 8 (IsAbove before)) (in_bytes 8) (λ id. AtNumber 8 Any) (λ id. IsNumber 8 Any) (in_bytes 8)
    (number_misses 8 (IsAbove before) one_8) (once 8 (IsAbove before) one_8) (λ id. number_misses 8 Any one_8) left e told h w.id.0 w.parent.0 more (is.0, is.1) (is.2, tt) text

flags_miss : (f : Format) → Refuses (AtFlags f) (AreFlags f) (λ (flags : Flags). in_bytes 2 (flags_number flags))
flags_miss f left e told h flags more is text = number_misses 2 (λ v. v < flags_limit f) one_2 left e told h (flags_number flags) more (omega (arith, small_flags flags), is) text

flags_once : (f : Format) → OneOf (AreFlags f) (λ (flags : Flags). in_bytes 2 (flags_number flags))
flags_once f m n a b h k e = one_flags m n a b tt tt e

flags_are : (f : Format) (b : Basics) → IsBasics f b → AreFlags f b.flags
flags_are First b is = low_flags b.flags is.2
flags_are Second b is = small_flags b.flags

rest_is : (f : Format) (b : Basics) → IsBasics f b → IsStored b.pin × AreLengths b.flags.has_base b.lengths
rest_is First b is = (is.0, is.1)
rest_is Second b is = is

pin_small : (p : Pin) → IsStored p → pin_byte p < 4
pin_small pin.Unspecified h = omega arith
pin_small pin.Pinned h = omega arith
pin_small pin.Unpinned h = omega arith
pin_small pin.Excluded h = omega arith
pin_small pin.Inherit h = absurd h

pin_text : (p : Pin) → pin_byte p ∷ [] ≡ in_bytes 1 (pin_byte p)
pin_text pin.Unspecified = refl
pin_text pin.Pinned = refl
pin_text pin.Unpinned = refl
pin_text pin.Excluded = refl
pin_text pin.Inherit = refl

pin_misses : Refuses AtPin IsStored (λ p. pin_byte p ∷ [])
pin_misses left e told h p more is text =
    let small : pin_byte p < 4 = pin_small p is in
    number_misses 1 (λ v. v < 4) one_1 left e told h (pin_byte p) more (omega (arith, small), small) (text ∙ ap (λ t. t ++ more) (pin_text p))

base_allowed : (has_base : Bool) (b : Option ℕ) → has_base ≡ is_some b → IsBaseField has_base (unwrap_or b 0)
base_allowed true b e = tt
base_allowed false None e = refl
base_allowed false (Some n) e = let z : false ≡ true = e in absurd cc

lengths_miss : (has_base : Bool) → Refuses (AtLengths has_base) (AreLengths has_base) lengths_bytes
lengths_miss has_base left e told h l more is text =
    two_parts (AtNumber 4 Any) (IsNumber 4 Any) (in_bytes 4) (λ size. AtNumber 4 (IsBaseField has_base)) (λ size. IsNumber 4 (IsBaseField has_base)) (in_bytes 4)
    (number_misses 4 Any one_4) (once 4 Any one_4) (λ size. number_misses 4 (IsBaseField has_base) one_4) left e told h l.size (unwrap_or l.base 0) more (is.1, tt) (is.2, base_allowed has_base l.base is.0) text

pins_miss : (has_base : Bool) → Refuses (Then AtPin IsStored (λ p. pin_byte p ∷ []) (λ p. AtLengths has_base)) (λ (y : Pin × Lengths). IsStored y.0 × AreLengths has_base y.1) (λ y. pin_byte y.0 ∷ lengths_bytes y.1)
pins_miss has_base left e told h y more is text =
    two_parts AtPin IsStored (λ p. pin_byte p ∷ []) (λ p. AtLengths has_base) (λ p. AreLengths has_base) lengths_bytes pin_misses one_pin (λ p. lengths_miss has_base) left e told h y.0 y.1 more is.0 is.1 text

basics_miss : (f : Format) → Refuses (AtBasics f) (IsBasics f) basics_bytes
basics_miss f left e told h b more is text =
    two_parts (AtFlags f) (AreFlags f) (λ (flags : Flags). in_bytes 2 (flags_number flags)) (λ flags. Then AtPin IsStored (λ p. pin_byte p ∷ []) (λ p. AtLengths flags.has_base))
    (λ flags (y : Pin × Lengths). IsStored y.0 × AreLengths flags.has_base y.1)
    (λ y. pin_byte y.0 ∷ lengths_bytes y.1) (flags_miss f) (flags_once f) (λ flags. pins_miss flags.has_base) left e told h b.flags (b.pin, b.lengths) more (flags_are f b is) (rest_is f b is) text

pub usn_misses : Refuses AtUsn IsUsn usn_bytes
usn_misses left e told h n more is text =
    two_parts (AtNumber 4 Any) (IsNumber 4 Any) (in_bytes 4) (λ epoch. AtNumber 4 Any) (λ epoch. IsNumber 4 Any) (in_bytes 4)
    (number_misses 4 Any one_4) (once 4 Any one_4) (λ epoch. number_misses 4 Any one_4) left e told h n.epoch n.place more (is.0, tt) (is.1, tt) text

usns_miss : Refuses (AtNumber 8 Any) IsUsn usn_bytes
usns_miss left (Short place) told h n more is text = short_of 8 left.rest (usn_bytes n) more h.1 refl text
usns_miss left (BadField place) told h n more is text = h.5 tt
usns_miss left OutOfMemory told h n more is text = told

pub ticks_miss : (f : Format) → Refuses (AtTicks f) (AreTicks f) (ticks_bytes f)
ticks_miss First left e told h n more is text = not_told e told h
ticks_miss Second left e told h n more is text = number_misses 8 Any one_8 left e told h n more (is, tt) text

anchor_misses : (f : Format) → Refuses (Then (AtNumber 8 Any) IsUsn usn_bytes (λ anchor. AtTicks f)) (λ (y : Usn × ℕ). IsUsn y.0 × AreTicks f y.1) (λ y. usn_bytes y.0 ++ ticks_bytes f y.1)
anchor_misses f left e told h y more is text =
    two_parts (AtNumber 8 Any) IsUsn usn_bytes (λ anchor. AtTicks f) (λ anchor. AreTicks f) (ticks_bytes f) usns_miss one_usn (λ anchor. ticks_miss f) left e told h y.0 y.1 more is.0 is.1 text

numbers_miss : (f : Format) → Refuses (AtNumbers f) (AreNumbers f) (numbers_bytes f)
numbers_miss f left e told h n more is text =
    two_parts (AtNumber 8 Any) IsUsn usn_bytes (λ number. Then (AtNumber 8 Any) IsUsn usn_bytes (λ anchor. AtTicks f)) (λ number (y : Usn × ℕ). IsUsn y.0 × AreTicks f y.1) (λ y. usn_bytes y.0 ++ ticks_bytes f y.1)
    usns_miss one_usn (λ number. anchor_misses f) left e told h n.number (n.anchor, n.last) more is.0 (is.1, is.2) text

body_misses : (f : Format) → Refuses (Then (AtBasics f) (IsBasics f) basics_bytes (λ b. AtNumbers f)) (λ (y : Basics × Numbers). IsBasics f y.0 × AreNumbers f y.1) (λ y. basics_bytes y.0 ++ numbers_bytes f y.1)
body_misses f left e told h y more is text =
    two_parts (AtBasics f) (IsBasics f) basics_bytes (λ b. AtNumbers f) (λ b. AreNumbers f) (numbers_bytes f) (basics_miss f) (one_basics f) (λ b. numbers_miss f) left e told h y.0 y.1 more is.0 is.1 text

head_misses : (f : Format) (before : Option ℕ) → Refuses (AtHead f before) (IsHead f before) (head_bytes f)
head_misses f before left e told h x more is text =
    two_parts (AtWho before) (IsWho before) who_bytes (λ w. Then (AtBasics f) (IsBasics f) basics_bytes (λ b. AtNumbers f)) (λ w (y : Basics × Numbers). IsBasics f y.0 × AreNumbers f y.1) (λ y. basics_bytes y.0 ++ numbers_bytes f y.1)
    (who_misses before) (one_who before) (λ w. body_misses f) left e told h x.who (x.basics, x.numbers) more is.who (is.basics, is.numbers) text

-- texts

one_count : OneOf (λ (n : ℕ). n < 2 ^ 8) (λ n. n ∷ [])
one_count m n a b h k e =
    let p = parted (m ∷ []) (n ∷ []) a b refl e in
    (cc (p.0), p.1)

pub name_misses : Refuses AtName IsName name_bytes
name_misses left e told h name more is text =
    two_parts (AtBytes 1) (λ n. n < 2 ^ 8) (λ n. n ∷ []) (λ n. AtBytes n) (λ n t. length t ≡ n) (λ t. t)
    (λ l f s g n rest fits same. bytes_miss 1 l f s g (n ∷ []) rest refl same) one_count bytes_miss left e told h (length name) name more is refl text

pub identity_misses : Refuses AtIdentity IsIdentity identity_bytes
identity_misses left e told h identity more is text =
    two_parts (AtNumber 2 Any) (IsNumber 2 Any) (in_bytes 2) (λ n. AtBytes n) (λ n t. length t ≡ n) (λ t. t)
    (number_misses 2 Any one_2) (once 2 Any one_2) bytes_miss left e told h (length identity) identity more (is, tt) refl text

-- sets

run_misses : (low : ℕ) → Refuses (AtRun low) (IsRun low) spell_run
run_misses low left e told h s more is text =
    two_parts (AtNumber 4 (λ v. low ≤ v)) (IsNumber 4 (λ v. low ≤ v)) (in_bytes 4) (λ start. AtNumber 4 (IsLen start)) (λ start. IsNumber 4 (IsLen start)) (in_bytes 4)
    (number_misses 4 (λ v. low ≤ v) one_4) (once 4 (λ v. low ≤ v) one_4) (λ start. number_misses 4 (IsLen start) one_4) left e told h s.start s.len more
    (omega (arith, is.2), is.0) (omega (arith, is.2), (is.1, is.2)) text

runs_miss : (low n : ℕ) → Refuses (AtRuns low n) (λ (ss : List Span). (length ss ≡ n) × AreRunsFrom low ss) (flat_map spell_run)
runs_miss low zero left e told h ss more is text = not_told e told h
runs_miss low (suc n) left e told h [] more is text = absurd (omega (arith, is.0))
runs_miss low (suc n) left e told h (s ∷ ss) more is text =
    two_parts (AtRun low) (IsRun low) spell_run (λ (x : Span). AtRuns (x.start + x.len + 1) n) (λ (x : Span) (xs : List Span). (length xs ≡ n) × AreRunsFrom (x.start + x.len + 1) xs) (flat_map spell_run)
    (run_misses low) (one_run low) (λ (x : Span). runs_miss (x.start + x.len + 1) n) left e told h s ss more is.1.0 (omega (arith, is.0), is.1.1) text

set_misses : Refuses AtSet IsSet spell_runs
set_misses left e told h ss more is text =
    two_parts (AtNumber 4 Any) (IsNumber 4 Any) (in_bytes 4) (λ n. AtRuns 0 n) (λ n (xs : List Span). (length xs ≡ n) × AreRunsFrom 0 xs) (flat_map spell_run)
    (number_misses 4 Any one_4) (once 4 Any one_4) (runs_miss 0) left e told h (length ss) ss more (is.0, tt) (refl, is.1) text

extent_misses : (low : ℕ) → Refuses (AtExtent low) (IsExtent low) spell_extent
extent_misses low left e told h x more is text =
    two_parts (AtNumber 4 (λ v. low ≤ v)) (IsNumber 4 (λ v. low ≤ v)) (in_bytes 4) (λ block. AtNumber 4 Any) (λ block. IsNumber 4 Any) (in_bytes 4)
    (number_misses 4 (λ v. low ≤ v) one_4) (once 4 (λ v. low ≤ v) one_4) (λ block. number_misses 4 Any one_4) left e told h x.block x.cluster more (is.1, is.0) (is.2, tt) text

extents_miss : (low n : ℕ) → Refuses (AtExtents low n) (λ (es : List Extent). (length es ≡ n) × AreExtentsFrom low es) (flat_map spell_extent)
extents_miss low zero left e told h es more is text = not_told e told h
extents_miss low (suc n) left e told h [] more is text = absurd (omega (arith, is.0))
extents_miss low (suc n) left e told h (s ∷ ss) more is text =
    two_parts (AtExtent low) (IsExtent low) spell_extent (λ (x : Extent). AtExtents (x.block + 1) n) (λ (x : Extent) (xs : List Extent). (length xs ≡ n) × AreExtentsFrom (x.block + 1) xs) (flat_map spell_extent)
    (extent_misses low) (one_extent low) (λ (x : Extent). extents_miss (x.block + 1) n) left e told h s ss more is.1.0 (omega (arith, is.0), is.1.1) text

map_misses : Refuses AtMap AreExtents spell_extents
map_misses left e told h es more is text =
    two_parts (AtNumber 4 Any) (IsNumber 4 Any) (in_bytes 4) (λ n. AtExtents 0 n) (λ n (xs : List Extent). (length xs ≡ n) × AreExtentsFrom 0 xs) (flat_map spell_extent)
    (number_misses 4 Any one_4) (once 4 Any one_4) (extents_miss 0) left e told h (length es) es more (is.0, tt) (refl, is.1) text

-- a set, and what its text is followed by
with_set : {Y : Type 0} (Next : Left → RowError → Type 0) (Is : Y → Type 0) (spell : Y → List ℕ) → Refuses Next Is spell →
    Refuses (Then AtSet IsSet spell_runs (λ s. Next)) (λ (y : List Span × Y). IsSet y.0 × Is y.1) (λ y. spell_runs y.0 ++ spell y.1)
with_set Next Is spell next left e told h y more is text =
    two_parts AtSet IsSet spell_runs (λ s. Next) (λ s. Is) spell set_misses one_set (λ s. next) left e told h y.0 y.1 more is.0 is.1 (text ∙ append_assoc (spell_runs y.0) (spell y.1) more)

abbrev After_modified : Type 0
After_modified = List Span × List Extent

abbrev After_valid : Type 0
After_valid = List Span × After_modified

abbrev After_here : Type 0
After_here = List Span × After_valid

abbrev AreLast : After_modified → Type 0
AreLast y = IsSet y.0 × AreExtents y.1

abbrev last_bytes : After_modified → List ℕ
last_bytes y = spell_runs y.0 ++ spell_extents y.1

abbrev AreLater : After_valid → Type 0
AreLater y = IsSet y.0 × AreLast y.1

abbrev later_bytes : After_valid → List ℕ
later_bytes y = spell_runs y.0 ++ last_bytes y.1

abbrev AreRest : After_here → Type 0
AreRest y = IsSet y.0 × AreLater y.1

abbrev rest_bytes : After_here → List ℕ
rest_bytes y = spell_runs y.0 ++ later_bytes y.1

sets_miss : Refuses AtSets (λ (y : List Span × After_here). IsSet y.0 × AreRest y.1) (λ y. spell_runs y.0 ++ rest_bytes y.1)
sets_miss =
    with_set (Then AtSet IsSet spell_runs (λ valid. Then AtSet IsSet spell_runs (λ modified. Then AtSet IsSet spell_runs (λ since. AtMap)))) AreRest rest_bytes
    (with_set (Then AtSet IsSet spell_runs (λ modified. Then AtSet IsSet spell_runs (λ since. AtMap))) AreLater later_bytes
    (with_set (Then AtSet IsSet spell_runs (λ since. AtMap)) AreLast last_bytes (with_set AtMap AreExtents spell_extents map_misses)))

-- rows

row_misses : (f : Format) (before : Option ℕ) → Refuses (AtRow f before) (IsRowIn f before) (spell_row_in f)
row_misses f before left e told (inl h) r more is text = head_misses f before left e told h (head_of r) _ is.head (text ∙ row_parts f r more)
row_misses f before left e told (inr h) r more is text =
    let p = one_head f before h.part (head_of r) _ _ h.is_part is.head (sym h.takes.parts ∙ text ∙ row_parts f r more) in
    behind_head h.mid h.fault p.1 where
      sets : List ℕ
      sets = spell_runs r.here ++ (spell_runs r.valid ++ (spell_runs r.modified ++ (spell_runs r.modified_since ++ (spell_extents r.extents ++ more))))

      grouped : (a b c d x : List ℕ) → a ++ (b ++ (c ++ (d ++ (x ++ more)))) ≡ (a ++ (b ++ (c ++ (d ++ x)))) ++ more
      grouped a b c d x = simp append_assoc

      behind_identity : (mid : Left) → AtSets mid e → mid.rest ≡ sets → ⊥
      behind_identity mid g same =
          sets_miss mid e told g (r.here, (r.valid, (r.modified, (r.modified_since, r.extents)))) more (is.here, (is.valid, (is.modified, (is.modified_since, is.extents))))
          (same ∙ grouped (spell_runs r.here) (spell_runs r.valid) (spell_runs r.modified) (spell_runs r.modified_since) (spell_extents r.extents))

      behind_name : (mid : Left) → Then AtIdentity IsIdentity identity_bytes (λ identity. AtSets) mid e → mid.rest ≡ identity_bytes r.identity ++ sets → ⊥
      behind_name mid (inl g) same = identity_misses mid e told g r.identity sets is.identity same
      behind_name mid (inr g) same =
          let q = one_identity g.part r.identity _ _ g.is_part is.identity (sym g.takes.parts ∙ same) in
          behind_identity g.mid g.fault q.1

      behind_head : (mid : Left) → Then AtName IsName name_bytes (λ name. Then AtIdentity IsIdentity identity_bytes (λ identity. AtSets)) mid e → mid.rest ≡ name_bytes r.name ++ (identity_bytes r.identity ++ sets) → ⊥
      behind_head mid (inl g) same = name_misses mid e told g r.name _ is.name same
      behind_head mid (inr g) same =
          let q = one_name g.part r.name _ _ g.is_part is.name (sym g.takes.parts ∙ same) in
          behind_name g.mid g.fault q.1

rows_miss : (f : Format) (before : Option ℕ) (n : ℕ) → Refuses (AtRows f before n) (λ (rs : List model.Row). (length rs ≡ n) × AreRowsIn f before rs) (flat_map (spell_row_in f))
rows_miss f before zero left e told h rs more is text = not_told e told h
rows_miss f before (suc n) left e told h [] more is text = absurd (omega (arith, is.0))
rows_miss f before (suc n) left e told h (r ∷ rs) more is text =
    two_parts (AtRow f before) (IsRowIn f before) (spell_row_in f) (λ (x : model.Row). AtRows f (Some x.id.0) n) (λ (x : model.Row) (xs : List model.Row). (length xs ≡ n) × AreRowsIn f (Some x.id.0) xs) (flat_map (spell_row_in f))
    (row_misses f before) (one_row f before) (λ (x : model.Row). rows_miss f (Some x.id.0) n) left e told h r rs more is.1.0 (omega (arith, is.0), is.1.1)
    (text ∙ append_assoc (spell_row_in f r) (flat_map (spell_row_in f) rs) more)

pub table_misses : (f : Format) → Refuses (AtTable f) (AreTable f) (spell_rows_in f)
table_misses f left e told h rs more is text =
    two_parts (AtNumber 4 Any) (IsNumber 4 Any) (in_bytes 4) (λ n. AtRows f None n) (λ n (xs : List model.Row). (length xs ≡ n) × AreRowsIn f None xs) (flat_map (spell_row_in f))
    (number_misses 4 Any one_4) (once 4 Any one_4) (rows_miss f None) left e told h (length rs) rs more (is.0, tt) (refl, is.1) text

pub not_at_end : (left : Left) (e : RowError) → IsTold e → AtEnd left e → left.rest ≡ [] → ⊥
not_at_end left (Short place) told h is = h
not_at_end left (BadField place) told h is = absurd (omega (arith, h.1, ap length is))
not_at_end left OutOfMemory told h is = told

whole_misses : (f : Format) (b : List ℕ) (e : RowError) → IsTold e → AtWhole f (record { place = 0; rest = b }) e → (rs : List model.Row) → AreTable f rs → b ≡ spell_rows_in f rs → ⊥
whole_misses f b e told (inl h) rs is text = table_misses f (record { place = 0; rest = b }) e told h rs [] is (text ∙ sym (append-nil (spell_rows_in f rs)))
whole_misses f b e told (inr h) rs is text =
    let p = one_table f h.part rs h.mid.rest [] h.is_part is (sym h.takes.parts ∙ text ∙ sym (append-nil (spell_rows_in f rs))) in
    not_at_end h.mid e told h.fault p.1

-- as the clauses of readers say it

pub no_row : {T : Type 0} (f : Format) (left : Left) (r : Result T RowError) → IfErr r (AtRow f None left) → IfErr r (λ e. IsTold e → (row : model.Row) (more : List ℕ) → IsRowIn f None row → left.rest ≡ spell_row_in f row ++ more → ⊥)
no_row f left (Ok x) h = tt
no_row f left (Err e) h = λ told. row_misses f None left e told h

pub no_table : {T : Type 0} (f : Format) (left : Left) (r : Result T RowError) → IfErr r (AtTable f left) → IfErr r (λ e. IsTold e → (rows : List model.Row) (more : List ℕ) → AreTable f rows → left.rest ≡ spell_rows_in f rows ++ more → ⊥)
no_table f left (Ok x) h = tt
no_table f left (Err e) h = λ told. table_misses f left e told h

pub no_whole : {T : Type 0} (f : Format) (b : List ℕ) (left : Left) (r : Result T RowError) → left ≡ record { place = 0; rest = b } → IfErr r (AtWhole f left) →
    IfErr r (λ e. IsTold e → (rows : List model.Row) → AreTable f rows → b ≡ spell_rows_in f rows → ⊥)
no_whole f b left (Ok x) is h = tt
no_whole f b left (Err e) is h = λ told. whole_misses f b e told (subst (λ (l : Left). AtWhole f l e) is h)

pub at_end : (left : Left) (e : CodecError) → (e ≡ codec.BadField left.place) × (0 < length left.rest) → AtEnd left (of_codec e)
at_end left e h = rw h.0 (refl, h.1)
