-- What a change meets, besides room for it.
use Rattle.std.specs.Prelude.{◌≡◌, ◌<◌, ◌≤◌, ◌==◌, ℕ, false, true, List, [], ◌∷◌, length, None, MatchOption, is_some}
use Rattle.std.specs.List.{list_all}
use Rattle.cf_base.specs.declared.limits.TheConstants.{MOST_FILE_BYTES}
use Rattle.cf_model.specs.Texts.{is_name}
use Rattle.cf_base.specs.declared.changes.Change.{Change}
use Rattle.cf_base.specs.declared.changes.Change.TheVariants as change
use Rattle.cf_base.specs.declared.ids.ItemId.{ItemId}
use Rattle.cf_model.specs.Books.{Book}
use Rattle.cf_model.specs.Changes.{put_change, why_no_room}
use Rattle.cf_model.specs.Items.{Item, item_of}
use Rattle.cf_model.specs.LookUp.{child_of, depth_at, move_refused}
use Rattle.cf_model.specs.Soundness.{Each, Needs}
use Rattle.cf_model.specs.State.{Filter, Volume}
use Rattle.cf_table.specs.Changing.{ItemsFit}
use Rattle.cf_table.specs.Reading.{IsStored}

-- a directory whose entries are known
abbrev pub IsOpenDirectory : Item → Type 0
IsOpenDirectory p = (p.directory ≡ true) × (p.populated ≡ true)

-- The change leaves a tree: a new item comes under the next id at a free name of a directory that is open, and an item
-- moves where it may. An item goes by a step of its own.
abbrev pub IsFreePlace : List Item → ItemId → List ℕ → Type 0
IsFreePlace items parent name = (is_name name ≡ true) × MatchOption (item_of items parent) ⊥ IsOpenDirectory × (depth_at items parent < 32) × (child_of items parent name ≡ None)

abbrev pub Plants : Change → List Item → ItemId → Type 0
Plants (change.Make item parent name kind size identity) items next = (item ≡ next) × IsFreePlace items parent name
Plants (change.Copy item from parent name) items next = (item ≡ next) × IsFreePlace items parent name
Plants (change.Move item parent name) items next =
    ((item.0 == 1) ≡ false) × (is_name name ≡ true) × MatchOption (item_of items parent) ⊥ IsOpenDirectory × (move_refused items item parent name ≡ None)
Plants (change.Remove item) items next = ⊥
Plants _ items next = Unit {0}

-- The change has the size that a table has room for; whether there is an id for a new item is a matter of room.
abbrev pub FitsTable : Change → Book → List Item → Type 0
FitsTable (change.Make item parent name kind size identity) b items = (length name ≤ 255) × (length identity ≤ 65535) × (size ≤ MOST_FILE_BYTES)
FitsTable (change.Copy item from parent name) b items = (length name ≤ 255) × MatchOption (item_of items from) ⊥ (λ i. 8 ≤ length i.identity)
FitsTable c b items = ItemsFit c b items

-- The change can be kept: identities have up to 4,096 bytes, and pins are stored ones; a file becomes its own where all its
-- bytes are here, a directory where its entries are known.
abbrev pub LastsAs : Change → List Item → Type 0
LastsAs (change.Make item parent name kind size identity) items = length identity ≤ 4096
LastsAs (change.SetPin item pin) items = IsStored pin
LastsAs (change.Convert item identity) items = length identity ≤ 4096
LastsAs (change.Revert item) items = Each item (λ i. (list_all is_some i.held ≡ true) × (i.directory ≡ true → i.populated ≡ true)) items
LastsAs (change.Rebase item identity len at) items = length identity ≤ 4096
LastsAs (change.Take item identity size) items = length identity ≤ 4096
LastsAs _ items = Unit {0}

-- What a change meets in the volume before it.
pub record Suits (c : Change) (v : Volume) : Type 0 where
  pub fits : FitsTable c v.book v.items
  pub needs : Needs c v.items
  pub plants : Plants c v.items v.next_item
  pub lasts : LastsAs c v.items

-- each change in turn
abbrev pub SuitsAll : List Change → Volume → Type 0
SuitsAll [] v = Unit {0}
SuitsAll (c ∷ cs) v = Suits c v × SuitsAll cs (put_change c v)

-- and finds room
pub record IsReady (c : Change) (v : Volume) : Type 0 where
  pub room : why_no_room (c ∷ []) v ≡ None
  pub suits : Suits c v

abbrev pub AreReady : List Change → Volume → Type 0
AreReady [] v = Unit {0}
AreReady (c ∷ cs) v = IsReady c v × AreReady cs (put_change c v)

-- of the volume of a filter
abbrev pub Ready : Change → Filter → Type 0
Ready c s = IsReady c s.volume

abbrev pub ReadyAll : List Change → Filter → Type 0
ReadyAll cs s = AreReady cs s.volume

abbrev pub Suiting : List Change → Filter → Type 0
Suiting cs s = SuitsAll cs s.volume
