-- What an item is.
use Rattle.std.specs.Prelude.{ℕ, Bool, true, false, cond, not, List, [], length, map, Option, None, is_some, unwrap_or, nat_lt, find, ◌&&◌, ◌∷◌, ◌==◌}
use Rattle.std.specs.List.{list_all}
use Rattle.cf_base.specs.declared.ids.ItemId.{ItemId}
use Rattle.cf_base.specs.declared.ids.Usn.{Usn}
use Rattle.cf_base.specs.declared.items.Kind.{Kind}
use Rattle.cf_base.specs.declared.items.Kind.TheVariants as kind
use Rattle.cf_base.specs.declared.items.Pin.{Pin}
use Rattle.cf_base.specs.declared.items.Pin.TheVariants as pin
use Rattle.cf_model.specs.Numbers.{no_item, no_usn, root_id}
use Rattle.cf_model.specs.Overlay.{LocalWrite, Written, is_covered}
use Rattle.cf_model.specs.Words.{by_place, is_empty, passes_at}

-- Held has a byte or none for each position below the size, and valid a flag. Writes are the local writes that the base
-- has not taken in yet, in order. A directory has neither.
pub record Item : Type 0 where
  pub id : ItemId
  pub parent : ItemId
  pub name : List ℕ
  pub directory : Bool
  pub placeholder : Bool
  pub identity : List ℕ
  pub base : Option ℕ
  pub pin : Pin
  pub in_sync : Bool
  pub populated : Bool
  pub number : Usn
  -- whether the file is kept full
  pub keep : Bool
  pub writes : List Written
  pub held : List (Option ℕ)
  pub valid : List Bool

-- the root of a new volume
abbrev pub root : Item
root = record {
  id = root_id;
  parent = no_item;
  name = [];
  directory = true;
  placeholder = false;
  identity = [];
  base = None;
  pin = pin.Unspecified;
  in_sync = false;
  populated = true;
  number = no_usn;
  keep = false;
  writes = [];
  held = [];
  valid = [];
}

abbrev pub size_of : Item → ℕ
size_of i = length i.held

-- a base of none counts as length 0
abbrev pub base_of : Item → ℕ
base_of i = unwrap_or i.base 0

-- a position is here where held has a byte
abbrev pub is_held : List (Option ℕ) → ℕ → Bool
is_held held p = passes_at is_some held p

abbrev pub is_here : Item → ℕ → Bool
is_here i p = is_held i.held p

abbrev pub is_valid : Item → ℕ → Bool
is_valid i p = passes_at (λ b. b) i.valid p

-- a position is modified where it lies below the size and a local write covers it
abbrev pub is_modified : Item → ℕ → Bool
is_modified i p = nat_lt p (length i.held) && is_covered i.writes p

-- the same of each position, in order

abbrev pub here_flags : Item → List Bool
here_flags i = map is_some i.held

abbrev pub covered_flags : List Written → Item → List Bool
covered_flags ws i = by_place (λ p h. is_covered ws p) 0 i.held

abbrev pub modified_flags : Item → List Bool
modified_flags i = covered_flags i.writes i

abbrev pub is_dirty : Item → Bool
is_dirty i = not (is_empty i.writes)

abbrev pub is_all_here : Item → Bool
is_all_here i = list_all is_some i.held

abbrev pub bytes_held : List (Option ℕ) → List ℕ
bytes_held held = map (λ h. unwrap_or h 0) held

abbrev pub writes_of : Item → List LocalWrite
writes_of i = map (λ w. w.write) i.writes

abbrev pub kind_of : Item → Kind
kind_of i = cond i.directory (cond i.populated (cond i.placeholder kind.PlaceholderDir kind.Dir) kind.UnpopulatedDir) (cond i.placeholder kind.PlaceholderFile kind.File)

-- look-ups in the list of items, which stands in order of id

abbrev pub item_of : List Item → ItemId → Option Item
item_of items id = find (λ i. i.id.0 == id.0) items

abbrev pub pin_of : List Item → ItemId → Pin
pin_of [] id = pin.Unspecified
pin_of (i ∷ is) id = cond (i.id.0 == id.0) i.pin (pin_of is id)
