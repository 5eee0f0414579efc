-- The entries of a directory, which come as one, with records beside the last of their changes.
use Rattle.std.specs.Prelude.{◌≡◌, ◌<◌, false, true, ℕ, List, [], ◌∷◌, ◌++◌, None, MatchOption}
use Rattle.cf_base.specs.declared.answers.AuxRecord.{AuxRecord}
use Rattle.cf_base.specs.declared.changes.Change.{Change}
use Rattle.cf_base.specs.declared.changes.Change.TheVariants as change
use Rattle.cf_base.specs.declared.ids.ItemId.{ItemId}
use Rattle.cf_base.specs.declared.ids.Usn.{Usn}
use Rattle.cf_model.specs.Books.{Book, aux_records}
use Rattle.cf_engine_queue.specs.Records.{IsKeepable}
use Rattle.cf_model.specs.Changes.{lacks_numbers, next_number, no_blocks, put_change}
use Rattle.cf_model.specs.Formats.{with_records}
use Rattle.cf_model.specs.Items.{Item, item_of}
use Rattle.cf_model.specs.LookUp.{child_of, depth_at}
use Rattle.cf_model.specs.Numbers.{above}
use Rattle.cf_model.specs.Operations.{no_table_listed}
use Rattle.cf_model.specs.Soundness.{Needs}
use Rattle.cf_model.specs.State.{Filter, Volume}
use Rattle.cf_model.specs.Texts.{is_name}
use Rattle.cf_filter_steps.specs.Good.{Every}
use Rattle.cf_filter_steps.specs.Suiting.{FitsTable, LastsAs}
use Rattle.cf_filter_steps.specs.declared.rooms.Room.{Room}

-- the number comes no earlier than the other: what is below the other is below it
abbrev pub IsFrom : Usn → Usn → Type 0
IsFrom next n = (m : Usn) → above next m ≡ true → above n m ≡ true

-- The new book has these records besides, and all else as before. It fits its records where the old one did. Each tombstone has a
-- number that was given, where this is the next one.
pub record HasRecordsBeside (next : Usn) (b : Book) (records : List AuxRecord) (new : Book) : Type 0 where
  pub told : aux_records new ≡ with_records records (aux_records b)
  pub anchors : new.anchors ≡ b.anchors
  pub clock : new.clock ≡ b.clock
  pub accesses : new.accesses ≡ b.accesses
  pub fits : IsKeepable b → IsKeepable new
  pub graves : (n : Usn) → IsFrom next n → Every (λ t. above n t.number ≡ true) b.tombstones → Every (λ t. above n t.number ≡ true) new.tombstones

-- a free name in a directory, at most 32 names from the root
abbrev pub IsFreeEntry : List Item → ItemId → List ℕ → Type 0
IsFreeEntry items parent name =
    (is_name name ≡ true) × MatchOption (item_of items parent) ⊥ (λ p. p.directory ≡ true) × (depth_at items parent < 32) × (child_of items parent name ≡ None)

-- The change is one of a list of entries: a new item of this directory under the next id, its mark, or that the directory's
-- entries have come.
abbrev pub Lists : ItemId → Change → List Item → ItemId → Type 0
Lists dir (change.Make item parent name kind size identity) items next = (item ≡ next) × (parent ≡ dir) × IsFreeEntry items dir name
Lists dir (change.Mark item number) items next = Unit {0}
Lists dir (change.Populated item) items next = item ≡ dir
Lists dir _ items next = ⊥

pub record IsEntry (dir : ItemId) (c : Change) (v : Volume) : Type 0 where
  pub fits : FitsTable c v.book v.items
  pub needs : Needs c v.items
  pub lists : Lists dir c v.items v.next_item
  pub lasts : LastsAs c v.items

-- each change in turn
abbrev pub AreEntries : ItemId → List Change → Volume → Type 0
AreEntries dir [] v = Unit {0}
AreEntries dir (c ∷ cs) v = IsEntry dir c v × AreEntries dir cs (put_change c v)

-- a list of entries, the last change of which says that they have come, and the records that come with it
pub record Listing (f : Book → Book) (dir : ItemId) (cs : List Change) (records : List AuxRecord) (s : Filter) : Type 0 where
  pub entries : AreEntries dir cs s.volume
  pub before : List Change
  pub ends : cs ≡ before ++ change.Populated dir ∷ []
  pub beside : HasRecordsBeside (next_number s.volume) s.volume.book records (f s.volume.book)

-- whether it finds no room
abbrev pub room_listed : (Book → Book) → List Change → Filter → Room
room_listed f cs s = record { no_numbers = lacks_numbers s.volume cs; no_table = no_table_listed f cs s.volume; no_blocks = no_blocks s.volume cs }

-- and one that finds room
pub record ReadyListed (f : Book → Book) (dir : ItemId) (cs : List Change) (records : List AuxRecord) (s : Filter) : Type 0 where
  pub listing : Listing f dir cs records s
  pub numbers : lacks_numbers s.volume cs ≡ false
  pub table : no_table_listed f cs s.volume ≡ false
