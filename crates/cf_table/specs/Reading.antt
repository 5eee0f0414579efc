-- Which rows have a spelling, and how the parts of a row are spelled.
use Rattle.std.specs.Prelude.{ℕ, Bool, false, List, [], length, map, Option, Some, None, is_some, unwrap_or, ◌+◌, ◌^◌, ◌≤◌, ◌<◌, ◌≡◌, ◌∷◌, ◌++◌}
use Rattle.cf_base.specs.declared.ids.Usn.{Usn}
use Rattle.cf_base.specs.declared.items.Pin.{Pin}
use Rattle.cf_base.specs.declared.items.Pin.TheVariants as pin
use Rattle.cf_base.specs.declared.spans.Span.{Span}
use Rattle.cf_codec.specs.declared.formats.Format.{Format}
use Rattle.cf_codec.specs.declared.formats.Format.TheVariants.{First, Second}
use Rattle.cf_model.specs.Books.{usn_bytes}
use Rattle.cf_model.specs.Rows.{Extent, flag_of, pin_byte, spell_extents, spell_runs}
use Rattle.cf_model.specs.Rows as model
use Rattle.cf_model.specs.Words.{in_bytes}
use Rattle.cf_table.specs.declared.heads.Basics.{Basics}
use Rattle.cf_table.specs.declared.heads.Flags.{Flags}
use Rattle.cf_table.specs.declared.heads.Head.{Head}
use Rattle.cf_table.specs.declared.heads.Lengths.{Lengths}
use Rattle.cf_table.specs.declared.heads.Numbers.{Numbers}
use Rattle.cf_table.specs.declared.heads.Who.{Who}
use Rattle.cf_table.specs.declared.rows.Row.{Row}
use Rattle.cf_table.specs.declared.set_reads.Sets.{Sets}
use Rattle.cf_table.specs.Spelling.{extent_of}

-- spellings of the parts of a head

abbrev pub who_bytes : Who → List ℕ
who_bytes w = in_bytes 8 w.id.0 ++ in_bytes 8 w.parent.0

abbrev pub flags_number : Flags → ℕ
flags_number f =
    flag_of f.dir 1 + flag_of f.placeholder 2 + flag_of f.populated 4 + flag_of f.in_sync 8 + flag_of f.dirty 16 + flag_of f.dirty_since 32
    + flag_of f.has_base 64 + flag_of f.keep 128

abbrev pub lengths_bytes : Lengths → List ℕ
lengths_bytes l = in_bytes 4 l.size ++ in_bytes 4 (unwrap_or l.base 0)

abbrev pub basics_bytes : Basics → List ℕ
basics_bytes b = in_bytes 2 (flags_number b.flags) ++ pin_byte b.pin ∷ lengths_bytes b.lengths

-- format 1 has no place for it
abbrev pub ticks_bytes : Format → ℕ → List ℕ
ticks_bytes First n = []
ticks_bytes Second n = in_bytes 8 n

abbrev pub numbers_bytes : Format → Numbers → List ℕ
numbers_bytes f n = usn_bytes n.number ++ usn_bytes n.anchor ++ ticks_bytes f n.last

abbrev pub head_bytes : Format → Head → List ℕ
head_bytes f h = who_bytes h.who ++ basics_bytes h.basics ++ numbers_bytes f h.numbers

abbrev pub name_bytes : List ℕ → List ℕ
name_bytes name = length name ∷ name

abbrev pub identity_bytes : List ℕ → List ℕ
identity_bytes identity = in_bytes 2 (length identity) ++ identity

-- what has a spelling: numbers that have room in their fields, and sets in their one form

-- above the id before it, if there is one
abbrev pub IsAbove : Option ℕ → ℕ → Type 0
IsAbove None id = Unit {0}
IsAbove (Some before) id = before < id

abbrev pub IsWho : Option ℕ → Who → Type 0
IsWho before w = (w.id.0 < 2 ^ 64) × IsAbove before w.id.0 × (w.parent.0 < 2 ^ 64)

-- `inherit` is never stored
abbrev pub IsStored : Pin → Type 0
IsStored pin.Unspecified = Unit {0}
IsStored pin.Pinned = Unit {0}
IsStored pin.Unpinned = Unit {0}
IsStored pin.Excluded = Unit {0}
IsStored pin.Inherit = ⊥

abbrev pub AreLengths : Bool → Lengths → Type 0
AreLengths has_base l = (has_base ≡ is_some l.base) × (l.size < 2 ^ 32) × (unwrap_or l.base 0 < 2 ^ 32)

-- no file of format 1 is kept full
abbrev pub IsBasics : Format → Basics → Type 0
IsBasics First b = IsStored b.pin × AreLengths b.flags.has_base b.lengths × (b.flags.keep ≡ false)
IsBasics Second b = IsStored b.pin × AreLengths b.flags.has_base b.lengths

-- the flags are less than this
abbrev pub flags_limit : Format → ℕ
flags_limit First = 128
flags_limit Second = 256

abbrev pub IsUsn : Usn → Type 0
IsUsn n = (n.epoch < 2 ^ 32) × (n.place < 2 ^ 32)

abbrev pub AreTicks : Format → ℕ → Type 0
AreTicks First n = n ≡ 0
AreTicks Second n = n < 2 ^ 64

abbrev pub AreNumbers : Format → Numbers → Type 0
AreNumbers f n = IsUsn n.number × IsUsn n.anchor × AreTicks f n.last

pub record IsHead (f : Format) (before : Option ℕ) (h : Head) : Type 0 where
  pub who : IsWho before h.who
  pub basics : IsBasics f h.basics
  pub numbers : AreNumbers f h.numbers

abbrev pub IsName : List ℕ → Type 0
IsName name = length name < 2 ^ 8

abbrev pub IsIdentity : List ℕ → Type 0
IsIdentity identity = length identity < 2 ^ 16

abbrev pub IsRun : ℕ → Span → Type 0
IsRun low s = (low ≤ s.start) × (0 < s.len) × (s.start + s.len < 2 ^ 32)

-- maximal runs in order, from low on
abbrev pub AreRunsFrom : ℕ → List Span → Type 0
AreRunsFrom low [] = Unit {0}
AreRunsFrom low (s ∷ ss) = IsRun low s × AreRunsFrom (s.start + s.len + 1) ss

abbrev pub IsSet : List Span → Type 0
IsSet runs = (length runs < 2 ^ 32) × AreRunsFrom 0 runs

abbrev pub IsExtent : ℕ → Extent → Type 0
IsExtent low e = (low ≤ e.block) × (e.block < 2 ^ 32) × (e.cluster < 2 ^ 32)

-- in order of block, from low on
abbrev pub AreExtentsFrom : ℕ → List Extent → Type 0
AreExtentsFrom low [] = Unit {0}
AreExtentsFrom low (e ∷ es) = IsExtent low e × AreExtentsFrom (e.block + 1) es

abbrev pub AreExtents : List Extent → Type 0
AreExtents es = (length es < 2 ^ 32) × AreExtentsFrom 0 es

-- the head of a row
abbrev pub flags_of : model.Row → Flags
flags_of r = record {
  dir = r.directory;
  placeholder = r.placeholder;
  populated = r.populated;
  in_sync = r.in_sync;
  dirty = r.dirty;
  dirty_since = r.dirty_since;
  has_base = is_some r.base;
  keep = r.keep;
}

abbrev pub head_of : model.Row → Head
head_of r = record {
  who = record { id = r.id; parent = r.parent };
  basics = record { flags = flags_of r; pin = r.pin; lengths = record { size = r.size; base = r.base } };
  numbers = record { number = r.number; anchor = r.anchor; last = r.last };
}

-- a row whose id is above this one, if there is one
pub record IsRowIn (f : Format) (before : Option ℕ) (r : model.Row) : Type 0 where
  pub head : IsHead f before (head_of r)
  pub name : IsName r.name
  pub identity : IsIdentity r.identity
  pub here : IsSet r.here
  pub valid : IsSet r.valid
  pub modified : IsSet r.modified
  pub modified_since : IsSet r.modified_since
  pub extents : AreExtents r.extents

-- rows whose ids rise
abbrev pub AreRowsIn : Format → Option ℕ → List model.Row → Type 0
AreRowsIn f before [] = Unit {0}
AreRowsIn f before (r ∷ rs) = IsRowIn f before r × AreRowsIn f (Some r.id.0) rs

-- in format 2, which is written

abbrev pub IsRow : Option ℕ → model.Row → Type 0
IsRow before r = IsRowIn Second before r

abbrev pub AreRows : Option ℕ → List model.Row → Type 0
AreRows before rs = AreRowsIn Second before rs

-- as they are read

abbrev pub sets_bytes : Sets → List ℕ
sets_bytes s = spell_runs s.here ++ spell_runs s.valid ++ spell_runs s.modified ++ spell_runs s.modified_since ++ spell_extents (map extent_of s.extents)

pub record AreSets (s : Sets) : Type 0 where
  pub here : IsSet s.here
  pub valid : IsSet s.valid
  pub modified : IsSet s.modified
  pub modified_since : IsSet s.modified_since
  pub extents : AreExtents (map extent_of s.extents)

abbrev pub row_of : Head → List ℕ → List ℕ → Sets → Row
row_of h name identity s = record {
  id = h.who.id;
  parent = h.who.parent;
  dir = h.basics.flags.dir;
  placeholder = h.basics.flags.placeholder;
  populated = h.basics.flags.populated;
  in_sync = h.basics.flags.in_sync;
  dirty = h.basics.flags.dirty;
  dirty_since = h.basics.flags.dirty_since;
  keep = h.basics.flags.keep;
  pin = h.basics.pin;
  size = h.basics.lengths.size;
  base = h.basics.lengths.base;
  number = h.numbers.number;
  anchor = h.numbers.anchor;
  last = h.numbers.last;
  name = name;
  identity = identity;
  here = s.here;
  valid = s.valid;
  modified = s.modified;
  modified_since = s.modified_since;
  extents = s.extents;
}
