-- A row of the table: what is spelled of an item.
use Rattle.std.specs.Prelude.{ℕ, Bool, true, false, cond, List, [], length, Option, None, unwrap_or, is_some, ◌≡◌, ◌≢◌, ◌≤◌, ◌<◌, ◌+◌, ◌∷◌, ◌++◌, not}
use Rattle.std.specs.List.{flat_map, list_any}
use Rattle.cf_base.specs.declared.ids.ItemId.{ItemId}
use Rattle.cf_base.specs.declared.ids.Usn.{Usn}
use Rattle.cf_base.specs.declared.items.Pin.{Pin}
use Rattle.cf_base.specs.declared.items.Pin.TheVariants as pin
use Rattle.cf_base.specs.declared.limits.TheConstants.{MOST_FILE_BYTES, MOST_IDENTITY_BYTES}
use Rattle.cf_base.specs.declared.spans.Span.{Span}
use Rattle.cf_model.specs.Books.{Book, access_of, anchor_of, usn_bytes}
use Rattle.cf_model.specs.Images.{runs_of, writes_since}
use Rattle.cf_model.specs.Items.{Item, covered_flags, here_flags, is_dirty, modified_flags, size_of}
use Rattle.cf_model.specs.Numbers.{above}
use Rattle.cf_model.specs.Texts.{is_name}
use Rattle.cf_model.specs.Words.{in_bytes, is_empty, within}

-- the cluster that holds a block
pub record Extent : Type 0 where
  pub block : ℕ
  pub cluster : ℕ

-- runs are maximal and in order, extents in order of block; `since` stands for: since the item was last uploaded
pub record Row : Type 0 where
  pub id : ItemId
  pub parent : ItemId
  pub directory : Bool
  pub placeholder : Bool
  pub populated : Bool
  pub in_sync : Bool
  pub dirty : Bool
  pub dirty_since : Bool
  pub keep : Bool
  pub pin : Pin
  pub size : ℕ
  pub base : Option ℕ
  pub number : Usn
  pub anchor : Usn
  -- the clock of the last access
  pub last : ℕ
  pub name : List ℕ
  pub identity : List ℕ
  pub here : List Span
  pub valid : List Span
  pub modified : List Span
  pub modified_since : List Span
  pub extents : List Extent

-- the row of an item, with the anchor and the last access of the book, and its blocks in these clusters
abbrev pub row_of : Book → List Extent → Item → Row
row_of b extents i = record {
  id = i.id;
  parent = i.parent;
  directory = i.directory;
  placeholder = i.placeholder;
  populated = i.populated;
  in_sync = i.in_sync;
  dirty = is_dirty i;
  dirty_since = not (is_empty (writes_since b i));
  keep = i.keep;
  pin = i.pin;
  size = size_of i;
  base = i.base;
  number = i.number;
  anchor = anchor_of b i.id;
  last = access_of b i.id;
  name = i.name;
  identity = i.identity;
  here = runs_of (here_flags i);
  valid = runs_of i.valid;
  modified = runs_of (modified_flags i);
  modified_since = runs_of (covered_flags (writes_since b i) i);
  extents = extents;
}

-- bytes

abbrev pub flag_of : Bool → ℕ → ℕ
flag_of set weight = cond set weight 0

abbrev pub flags_of : Row → ℕ
flags_of r =
    flag_of r.directory 1 + flag_of r.placeholder 2 + flag_of r.populated 4 + flag_of r.in_sync 8 + flag_of r.dirty 16
    + flag_of r.dirty_since 32 + flag_of (is_some r.base) 64 + flag_of r.keep 128

-- `inherit` is never stored
abbrev pub pin_byte : Pin → ℕ
pin_byte pin.Unspecified = 0
pin_byte pin.Pinned = 1
pin_byte pin.Unpinned = 2
pin_byte pin.Excluded = 3
pin_byte pin.Inherit = 4

abbrev pub spell_run : Span → List ℕ
spell_run s = in_bytes 4 s.start ++ in_bytes 4 s.len

abbrev pub spell_runs : List Span → List ℕ
spell_runs ss = in_bytes 4 (length ss) ++ flat_map spell_run ss

abbrev pub spell_extent : Extent → List ℕ
spell_extent e = in_bytes 4 e.block ++ in_bytes 4 e.cluster

abbrev pub spell_extents : List Extent → List ℕ
spell_extents es = in_bytes 4 (length es) ++ flat_map spell_extent es

-- numbers: who, what and how long
abbrev pub spell_head : Row → List ℕ
spell_head r =
    in_bytes 8 r.id.0 ++ in_bytes 8 r.parent.0 ++ in_bytes 2 (flags_of r) ++ pin_byte r.pin ∷ in_bytes 4 r.size ++ in_bytes 4 (unwrap_or r.base 0)
    ++ usn_bytes r.number ++ usn_bytes r.anchor ++ in_bytes 8 r.last

abbrev pub spell_texts : Row → List ℕ
spell_texts r = length r.name ∷ r.name ++ in_bytes 2 (length r.identity) ++ r.identity

abbrev pub spell_sets : Row → List ℕ
spell_sets r = spell_runs r.here ++ spell_runs r.valid ++ spell_runs r.modified ++ spell_runs r.modified_since ++ spell_extents r.extents

abbrev pub spell_row : Row → List ℕ
spell_row r = spell_head r ++ spell_texts r ++ spell_sets r

-- soundness

abbrev pub has_place : List Span → ℕ → Bool
has_place ss p = list_any (λ s. within s.start (s.start + s.len) p) ss

-- each place of the first set is in the second
abbrev pub Inside : List Span → List Span → Type 0
Inside inner outer = (p : ℕ) → has_place inner p ≡ true → has_place outer p ≡ true

-- a directory has no bytes
pub record IsBare (r : Row) : Type 0 where
  pub size : r.size ≡ 0
  pub base : r.base ≡ None
  pub here : r.here ≡ []
  pub valid : r.valid ≡ []
  pub modified : r.modified ≡ []
  pub modified_since : r.modified_since ≡ []
  pub clean : (r.dirty ≡ false) × (r.dirty_since ≡ false)
  pub keep : r.keep ≡ false
  pub last : r.last ≡ 0
  pub placeholder : r.populated ≡ false → r.placeholder ≡ true

-- What holds of every row of a volume whose next item and last number these are.
pub record IsSoundRow (next : ItemId) (last : Usn) (r : Row) : Type 0 where
  pub id : r.id.0 < next.0
  pub numbers : (above r.number last ≡ false) × (above r.anchor last ≡ false)
  pub root_name : r.id.0 ≡ 1 → r.name ≡ []
  pub name : r.id.0 ≢ 1 → is_name r.name ≡ true
  pub lengths : (length r.identity ≤ MOST_IDENTITY_BYTES) × (r.size ≤ MOST_FILE_BYTES) × (unwrap_or r.base 0 ≤ MOST_FILE_BYTES)
  pub in_size : (p : ℕ) → has_place r.here p ≡ true → p < r.size
  pub valid : Inside r.valid r.here
  pub modified : Inside r.modified r.here
  pub modified_since : Inside r.modified_since r.modified
  -- the bytes that no base can give are local ones
  pub past_base : (p : ℕ) → unwrap_or r.base 0 ≤ p → p < r.size → has_place r.modified p ≡ true
  pub directory : r.directory ≡ true → IsBare r
  pub file : r.directory ≡ false → r.populated ≡ false
  pub plain : r.placeholder ≡ false → (r.identity ≡ []) × (r.in_sync ≡ false) × (r.keep ≡ false)
  pub in_sync : r.in_sync ≡ true → r.dirty ≡ false
  pub clean : r.dirty ≡ false → (r.modified ≡ []) × (r.dirty_since ≡ false)
