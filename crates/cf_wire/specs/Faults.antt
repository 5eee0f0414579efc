-- What a reading answers: the value that is spelled, or the first fault, with its place.
use Rattle.std.specs.Prelude.{◌≡◌, ℕ, ◌+◌, ◌<◌, ◌≤◌, ◌++◌, List, [], ◌∷◌, length, Result, Ok, Err}
use Rattle.cf_wire.specs.declared.failures.WireError.{WireError}
use Rattle.cf_wire.specs.declared.failures.WireError.TheVariants.{BadField, OutOfMemory, Short}

abbrev pub total : List ℕ → ℕ
total [] = 0
total (n ∷ ns) = n + total ns

-- of fields of these widths, one after the other, one of this width begins at this place
abbrev pub Begins : ℕ → ℕ → List ℕ → Type 0
Begins place width widths = (before after : List ℕ) × (widths ≡ before ++ width ∷ after) × (total before ≡ place)

-- The text is the front of a frame, and ends within the field that begins at this place.
pub record EndsWithin {X : Type 0} (Spells : List ℕ → X → Type 0) (widths : X → List ℕ) (text : List ℕ) (place : ℕ) : Type 0 where
  pub value : X
  pub more : List ℕ
  pub front : Spells (text ++ more) value
  pub width : ℕ
  pub begins : Begins place width (widths value)
  pub reaches : place ≤ length text
  pub lacks : length text < place + width

-- What stands before this place is the front of a frame, or all of one, and with the byte there it is the front of none.
pub record BreaksAt {X : Type 0} (Spells : List ℕ → X → Type 0) (text : List ℕ) (place : ℕ) : Type 0 where
  pub front : List ℕ
  pub byte : ℕ
  pub after : List ℕ
  pub parts : text ≡ front ++ byte ∷ after
  pub place_is : length front ≡ place
  pub value : X
  pub more : List ℕ
  pub good : Spells (front ++ more) value
  pub bad : (x : X) (rest : List ℕ) → Spells (front ++ byte ∷ rest) x → ⊥

abbrev pub IsFault : {X : Type 0} → (List ℕ → X → Type 0) → (X → List ℕ) → List ℕ → WireError → Type 0
IsFault Spells widths text (Short place) = EndsWithin Spells widths text place
IsFault Spells widths text (BadField place) = BreaksAt Spells text place
IsFault Spells widths text OutOfMemory = Unit {0}

-- the answer to this text
abbrev pub Answers : {X : Type 0} → (List ℕ → X → Type 0) → (X → List ℕ) → List ℕ → Result X WireError → Type 0
Answers Spells widths text (Ok x) = Spells text x
Answers Spells widths text (Err e) = IsFault Spells widths text e
