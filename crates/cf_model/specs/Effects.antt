-- What a change makes of the items. The items stand in order of id.
use Rattle.std.specs.Prelude.{ℕ, Bool, true, false, not, cond, List, [], length, take, drop, replicate, map, filter, Option, Some, None, is_some, ◌+◌, ◌&&◌, ◌||◌, ◌∷◌, ◌++◌, ◌==◌}
use Rattle.cf_base.specs.declared.changes.Change.{Change}
use Rattle.cf_base.specs.declared.changes.Change.TheVariants as change
use Rattle.cf_base.specs.declared.ids.ItemId.{ItemId}
use Rattle.cf_base.specs.declared.ids.Usn.{Usn}
use Rattle.cf_base.specs.declared.items.Kind.{Kind}
use Rattle.cf_base.specs.declared.items.Kind.TheVariants as kind
use Rattle.cf_base.specs.declared.items.Pin.{Pin}
use Rattle.cf_model.specs.Items.{Item, bytes_held, item_of, pin_of}
use Rattle.cf_model.specs.Numbers.{above, is_no_usn}
use Rattle.cf_model.specs.Overlay.{Put, Resize, Written, is_covered, padded, patched, resized}
use Rattle.cf_model.specs.Words.{by_place, within}

-- the item of that id by change
abbrev pub changed : ItemId → (Item → Item) → List Item → List Item
changed id change [] = []
changed id change (i ∷ is) = cond (i.id.0 == id.0) (change i) i ∷ changed id change is

abbrev pub without : ItemId → List Item → List Item
without id items = filter (λ i. not (i.id.0 == id.0)) items

-- bytes from the front on, where there is none yet
abbrev pub filled_front : List ℕ → List (Option ℕ) → List (Option ℕ)
filled_front [] held = held
filled_front (b ∷ bs) [] = []
filled_front (b ∷ bs) (h ∷ hs) = cond (is_some h) h (Some b) ∷ filled_front bs hs

abbrev pub filled : ℕ → List ℕ → List (Option ℕ) → List (Option ℕ)
filled start bytes held = take start held ++ filled_front bytes (drop start held)

-- without the bytes that leave
abbrev pub emptied : (ℕ → Bool) → List (Option ℕ) → List (Option ℕ)
emptied leaves held = by_place (λ p h. cond (leaves p) None h) 0 held

abbrev pub cleared : (ℕ → Bool) → List Bool → List Bool
cleared leaves flags = by_place (λ p b. not (leaves p) && b) 0 flags

-- the flags of a span set where a byte is held
abbrev pub validated : ℕ → ℕ → ℕ → List (Option ℕ) → List Bool → List Bool
validated start end at [] flags = flags
validated start end at (h ∷ hs) [] = []
validated start end at (h ∷ hs) (b ∷ bs) = (b || (within start end at && is_some h)) ∷ validated start end (at + 1) hs bs

-- the writes with a number above at
abbrev pub later_than : Usn → List Written → List Written
later_than at ws = filter (λ w. above w.number at) ws

-- what changes an item of the list alone

abbrev pub wrote : ℕ → List ℕ → Usn → Item → Item
wrote at bytes n i = record i {
  writes = i.writes ++ record { number = n; before = length i.held; write = Put at bytes } ∷ [];
  held = patched (Some 0) at (map Some bytes) i.held;
  valid = padded false (at + length bytes) i.valid;
  in_sync = false;
  number = n;
}

abbrev pub sized : ℕ → Usn → Item → Item
sized size n i = record i {
  writes = i.writes ++ record { number = n; before = length i.held; write = Resize size } ∷ [];
  held = resized (Some 0) size i.held;
  valid = resized false size i.valid;
  in_sync = false;
  number = n;
}

abbrev pub got : ℕ → List ℕ → Item → Item
got start bytes i = record i { held = filled start bytes i.held }

abbrev pub validated_in : ℕ → ℕ → Item → Item
validated_in start len i = record i { valid = validated start (start + len) 0 i.held i.valid }

-- a byte of the span that is not modified leaves
abbrev pub leaves_at : ℕ → ℕ → List Written → ℕ → Bool
leaves_at start len ws p = within start (start + len) p && not (is_covered ws p)

abbrev pub left_out : ℕ → ℕ → Item → Item
left_out start len i = record i { held = emptied (leaves_at start len i.writes) i.held; valid = cleared (leaves_at start len i.writes) i.valid }

abbrev pub pinned : Pin → Item → Item
pinned pin i = record i { pin = pin }

-- in sync: the base has taken all writes in
abbrev pub marked : Item → Item
marked i = record i { in_sync = true; writes = []; base = cond i.directory None (Some (length i.held)) }

abbrev pub unmarked : Item → Item
unmarked i = record i { in_sync = false }

abbrev pub converted : List ℕ → Usn → Item → Item
converted identity n i = record i { placeholder = true; identity = identity; in_sync = false; number = n }

abbrev pub reverted : Usn → Item → Item
reverted n i = record i {
  placeholder = false;
  identity = [];
  base = None;
  keep = false;
  in_sync = false;
  number = n;
  writes = cond i.directory [] (record { number = n; before = length i.held; write = Put 0 (bytes_held i.held) } ∷ []);
}

-- the base takes the writes up to at in; none at 0.0, which leaves the base length
abbrev pub rebased : List ℕ → ℕ → Usn → Item → Item
rebased identity len at i = record i {
  identity = identity;
  base = cond (i.directory || is_no_usn at) i.base (Some len);
  writes = later_than at i.writes;
}

abbrev pub took : List ℕ → ℕ → Usn → Item → Item
took identity size n i = record i {
  identity = identity;
  base = Some size;
  held = replicate size None;
  valid = replicate size false;
  writes = [];
  in_sync = false;
  number = n;
}

abbrev pub populated : Item → Item
populated i = record i { populated = true }

abbrev pub kept : Bool → Item → Item
kept on i = record i { keep = on }

-- another parent gives its pin
abbrev pub moved : ItemId → List ℕ → Pin → Usn → Item → Item
moved parent name pin n i = record i { parent = parent; name = name; pin = cond (i.parent.0 == parent.0) i.pin pin; in_sync = false; number = n }

-- new items

abbrev pub is_directory : Kind → Bool
is_directory kind.File = false
is_directory kind.Dir = true
is_directory kind.PlaceholderFile = false
is_directory kind.PlaceholderDir = true
is_directory kind.UnpopulatedDir = true

abbrev pub is_placeholder : Kind → Bool
is_placeholder kind.File = false
is_placeholder kind.Dir = false
is_placeholder kind.PlaceholderFile = true
is_placeholder kind.PlaceholderDir = true
is_placeholder kind.UnpopulatedDir = true

-- the populated flag of a file is clear
abbrev pub is_populated : Kind → Bool
is_populated kind.File = false
is_populated kind.Dir = true
is_populated kind.PlaceholderFile = false
is_populated kind.PlaceholderDir = true
is_populated kind.UnpopulatedDir = false

-- the size counts for a placeholder file alone
abbrev pub size_made : Kind → ℕ → ℕ
size_made kind.File size = 0
size_made kind.Dir size = 0
size_made kind.PlaceholderFile size = size
size_made kind.PlaceholderDir size = 0
size_made kind.UnpopulatedDir size = 0

abbrev pub base_made : Kind → ℕ → Option ℕ
base_made kind.File size = None
base_made kind.Dir size = None
base_made kind.PlaceholderFile size = Some size
base_made kind.PlaceholderDir size = None
base_made kind.UnpopulatedDir size = None

-- a plain file is dirty from the start
abbrev pub writes_made : Kind → Usn → List Written
writes_made kind.File n = record { number = n; before = 0; write = Resize 0 } ∷ []
writes_made kind.Dir n = []
writes_made kind.PlaceholderFile n = []
writes_made kind.PlaceholderDir n = []
writes_made kind.UnpopulatedDir n = []

abbrev pub made : ItemId → ItemId → List ℕ → Kind → ℕ → List ℕ → Pin → Usn → Item
made id parent name kind size identity pin n = record {
  id = id;
  parent = parent;
  name = name;
  directory = is_directory kind;
  placeholder = is_placeholder kind;
  identity = identity;
  base = base_made kind size;
  pin = pin;
  in_sync = false;
  populated = is_populated kind;
  number = n;
  keep = false;
  writes = writes_made kind n;
  held = replicate (size_made kind size) None;
  valid = replicate (size_made kind size) false;
}

-- the identity with no target: its first 8 bytes are 0
abbrev pub untargeted : List ℕ → List ℕ
untargeted identity = replicate 8 0 ++ drop 8 identity

-- a file of its own with the bytes, the base and the writes of another, which no remote item is
abbrev pub copied : ItemId → ItemId → List ℕ → Pin → Usn → Item → Item
copied id parent name pin n i = record i {
  id = id;
  parent = parent;
  name = name;
  placeholder = true;
  identity = untargeted i.identity;
  pin = pin;
  in_sync = false;
  number = n;
  keep = false;
  writes = i.writes ++ record { number = n; before = length i.held; write = Resize (length i.held) } ∷ [];
}

abbrev pub copies : ItemId → ItemId → List ℕ → Pin → Usn → Option Item → List Item
copies id parent name pin n None = []
copies id parent name pin n (Some i) = copied id parent name pin n i ∷ []

-- what the change makes of the items under its number
abbrev pub effect : List Item → Change → Usn → List Item
effect items (change.Make item parent name kind size identity) n = items ++ made item parent name kind size identity (pin_of items parent) n ∷ []
effect items (change.Remove item) n = without item items
effect items (change.Move item parent name) n = changed item (moved parent name (pin_of items parent) n) items
effect items (change.Write item at bytes) n = changed item (wrote at bytes n) items
effect items (change.Size item size) n = changed item (sized size n) items
effect items (change.Filled item start bytes) n = changed item (got start bytes) items
effect items (change.Validated item start len) n = changed item (validated_in start len) items
effect items (change.Emptied item start len) n = changed item (left_out start len) items
effect items (change.SetPin item pin) n = changed item (pinned pin) items
effect items (change.Mark item number) n = changed item marked items
effect items (change.Clear item) n = changed item unmarked items
effect items (change.Convert item identity) n = changed item (converted identity n) items
effect items (change.Revert item) n = changed item (reverted n) items
effect items (change.Rebase item identity len at) n = changed item (rebased identity len at) items
effect items (change.Take item identity size) n = changed item (took identity size n) items
effect items (change.Copy item from parent name) n = items ++ copies item parent name (pin_of items parent) n (item_of items from)
effect items (change.Populated item) n = changed item populated items
effect items (change.Keep item on) n = changed item (kept on) items
