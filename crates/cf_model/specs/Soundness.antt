-- What holds of every item that a log gives.
use Rattle.std.specs.Prelude.{ℕ, true, false, List, [], length, None, ◌≡◌, ◌<◌, ◌≤◌, ◌∷◌, ◌==◌}
use Rattle.cf_base.specs.declared.changes.Change.{Change}
use Rattle.cf_base.specs.declared.changes.Change.TheVariants as change
use Rattle.cf_base.specs.declared.ids.ItemId.{ItemId}
use Rattle.cf_base.specs.declared.ids.Usn.{Usn}
use Rattle.cf_base.specs.declared.items.Kind.{Kind}
use Rattle.cf_base.specs.declared.items.Kind.TheVariants as kind
use Rattle.cf_model.specs.Items.{Item, base_of, is_here, is_valid, size_of}
use Rattle.cf_model.specs.Numbers.{above, is_no_usn}
use Rattle.cf_model.specs.Overlay.{Written, is_covered}

-- the number of each write is above 0.0 and at most the item's
abbrev pub AreUpTo : Usn → List Written → Type 0
AreUpTo n [] = Unit {0}
AreUpTo n (w ∷ ws) = (above w.number n ≡ false) × (is_no_usn w.number ≡ false) × AreUpTo n ws

-- a directory has no bytes
abbrev pub IsBare : Item → Type 0
IsBare i = (i.held ≡ []) × (i.writes ≡ []) × (i.base ≡ None)

-- an item that is no placeholder has no identity and no base, and is not in sync
abbrev pub IsPlain : Item → Type 0
IsPlain i = (i.identity ≡ []) × (i.base ≡ None) × (i.in_sync ≡ false) × (i.keep ≡ false)

pub record IsSound (i : Item) : Type 0 where
  pub as_long : length i.valid ≡ length i.held
  -- a valid byte is here
  pub valid : (p : ℕ) → is_valid i p ≡ true → is_here i p ≡ true
  -- what no base can give was written here
  pub past_base : (p : ℕ) → base_of i ≤ p → p < size_of i → is_covered i.writes p ≡ true
  pub numbers : AreUpTo i.number i.writes
  pub directory : i.directory ≡ true → IsBare i
  pub file : i.directory ≡ false → i.populated ≡ false
  pub in_sync : i.in_sync ≡ true → i.writes ≡ []
  pub plain : i.placeholder ≡ false → IsPlain i
  pub kept : i.keep ≡ true → i.directory ≡ false

abbrev pub AllSound : List Item → Type 0
AllSound [] = Unit {0}
AllSound (i ∷ is) = IsSound i × AllSound is

-- the property holds of each item of that id
abbrev pub Each : ItemId → (Item → Type 0) → List Item → Type 0
Each id P [] = Unit {0}
Each id P (i ∷ is) = ((i.id.0 == id.0) ≡ true → P i) × Each id P is

-- the number is a new one: not below the item's
abbrev pub IsLater : Usn → Item → Type 0
IsLater n i = above i.number n ≡ false

-- an item that is no placeholder has no identity
abbrev pub MadeNeeds : Kind → List ℕ → Type 0
MadeNeeds kind.File identity = identity ≡ []
MadeNeeds kind.Dir identity = identity ≡ []
MadeNeeds kind.PlaceholderFile identity = Unit {0}
MadeNeeds kind.PlaceholderDir identity = Unit {0}
MadeNeeds kind.UnpopulatedDir identity = Unit {0}

-- What a change needs of the items, besides a new number.
abbrev pub Needs : Change → List Item → Type 0
Needs (change.Make item parent name k size identity) items = MadeNeeds k identity
Needs (change.Remove item) items = Unit {0}
Needs (change.Move item parent name) items = Unit {0}
Needs (change.Write item at bytes) items = Each item (λ i. i.directory ≡ false) items
Needs (change.Size item size) items = Each item (λ i. i.directory ≡ false) items
Needs (change.Filled item start bytes) items = Unit {0}
Needs (change.Validated item start len) items = Unit {0}
Needs (change.Emptied item start len) items = Unit {0}
Needs (change.SetPin item pin) items = Unit {0}
Needs (change.Mark item number) items = Each item (λ i. i.placeholder ≡ true) items
Needs (change.Clear item) items = Unit {0}
Needs (change.Convert item identity) items = Unit {0}
Needs (change.Revert item) items = Unit {0}
Needs (change.Rebase item identity len at) items = Each item (λ i. (i.placeholder ≡ true) × (is_no_usn at ≡ false → len ≡ size_of i)) items
Needs (change.Take item identity size) items = Each item (λ i. (i.placeholder ≡ true) × (i.directory ≡ false)) items
Needs (change.Copy item from parent name) items = Each from (λ i. i.directory ≡ false) items
Needs (change.Populated item) items = Each item (λ i. i.directory ≡ true) items
Needs (change.Keep item on) items = Each item (λ i. (i.placeholder ≡ true) × (i.directory ≡ false)) items

-- the number is not below that of any item
abbrev pub AllLater : Usn → List Item → Type 0
AllLater n [] = Unit {0}
AllLater n (i ∷ is) = IsLater n i × AllLater n is
