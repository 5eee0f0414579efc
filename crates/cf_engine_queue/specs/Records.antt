-- The auxiliary records by which a book is kept: which record says what.
use Rattle.std.specs.Prelude.{◌≡◌, ◌<◌, ◌^◌, ℕ, true, List, [], ◌∷◌, ◌++◌, codes, map, Result, Ok, Err}
use Rattle.std.specs.List.{AllByRecursion}
use Rattle.cf_base.specs.declared.answers.AuxRecord.{AuxRecord}
use Rattle.cf_base.specs.declared.codes.Code.TheVariants as code
use Rattle.cf_base.specs.declared.codes.CallError.{CallError}
use Rattle.cf_base.specs.declared.codes.CallError.TheVariants as fail
use Rattle.cf_base.specs.declared.ids.Key.{Key}
use Rattle.cf_base.specs.declared.ids.Usn.{Usn}
use Rattle.cf_base.specs.declared.items.SeenPath.{SeenPath}
use Rattle.cf_base.specs.Names.{is_name}
use Rattle.cf_model.specs.Books as model
use Rattle.cf_model.specs.Books.{Book, entry_record, no_book, seen_record, tombstone_record, with_tombstone}
use Rattle.cf_model.specs.Words.{in_bytes}
use Rattle.cf_engine_queue.specs.Books.{added, entry_value, number_rank, path_rank, token_rank, tombstone_value}
use Rattle.cf_engine_queue.specs.Order.{IsRising}
use Rattle.cf_engine_queue.specs.declared.records.Record.{Record}
use Rattle.cf_engine_queue.specs.declared.records.Record.TheVariants as said

-- numbers that their fields hold

abbrev pub FitsKey : Key → Type 0
FitsKey k = (k.epoch < 2 ^ 32) × (k.number < 2 ^ 32)

abbrev pub FitsUsn : Usn → Type 0
FitsUsn n = (n.epoch < 2 ^ 32) × (n.place < 2 ^ 32)

pub record FitsEntry (e : model.QueueEntry) : Type 0 where
  pub token : FitsKey e.token.0
  pub item : e.item.0 < 2 ^ 64
  pub number : FitsUsn e.number
  pub rid : e.rid.0 < 2 ^ 64
  pub parent : e.parent.0 < 2 ^ 64

pub record FitsTombstone (t : model.Tombstone) : Type 0 where
  pub number : FitsUsn t.number
  pub rid : t.rid.0 < 2 ^ 64
  pub version : t.version.0 < 2 ^ 64

pub record FitsSeen (p : SeenPath) : Type 0 where
  pub item : p.item.0 < 2 ^ 64
  pub parent : p.parent.0 < 2 ^ 64
  pub name : is_name p.name ≡ true

-- The record of the cursor. A book has one where its cursor is not 0, but 0 is read too.
abbrev pub cursor_record : ℕ → AuxRecord
cursor_record clock = record { key = codes "c"; value = in_bytes 8 clock }

-- the record says this

pub record IsCursor (r : AuxRecord) (clock : ℕ) : Type 0 where
  pub fits : clock < 2 ^ 64
  pub spelled : r ≡ cursor_record clock

pub record IsEntry (r : AuxRecord) (e : model.QueueEntry) : Type 0 where
  pub fits : FitsEntry e
  pub spelled : r ≡ entry_record e

pub record IsSeen (r : AuxRecord) (p : SeenPath) : Type 0 where
  pub fits : FitsSeen p
  pub spelled : r ≡ seen_record p

pub record IsTombstone (r : AuxRecord) (t : model.Tombstone) : Type 0 where
  pub fits : FitsTombstone t
  pub spelled : r ≡ tombstone_record t

-- the records of paths seen, which fit them
pub record AreSeen (paths : List SeenPath) (records : List AuxRecord) : Type 0 where
  pub are : records ≡ map seen_record paths
  pub fits : AllByRecursion FitsSeen paths

-- With the records of the paths that are left they are all, and those that do not fit are left.
pub record AreSeenBut (left all : List SeenPath) (records : List AuxRecord) : Type 0 where
  pub are : records ++ map seen_record left ≡ map seen_record all
  pub fits : AllByRecursion FitsSeen left → AllByRecursion FitsSeen all

abbrev pub Says : AuxRecord → Record → Type 0
Says r (said.Cursor clock) = IsCursor r clock
Says r (said.Entry e) = IsEntry r (entry_value e)
Says r (said.Seen p) = IsSeen r p
Says r (said.Buried t) = IsTombstone r (tombstone_value t)

-- what is read of a record: what it says, or that it says nothing of a book
abbrev pub Reads : {X : Type 0} → (X → Type 0) → Result X CallError → Type 0
Reads Is (Ok x) = Is x
Reads {X} Is (Err (fail.No c)) = (c ≡ code.NotAVolume) × ((x : X) → Is x → ⊥)
Reads Is (Err fail.OutOfMemory) = Unit {0}

-- all records

abbrev pub SayAll : List AuxRecord → List Record → Type 0
SayAll [] [] = Unit {0}
SayAll (r ∷ rs) (x ∷ xs) = Says r x × SayAll rs xs
SayAll [] (x ∷ xs) = ⊥
SayAll (r ∷ rs) [] = ⊥

-- the entries and tombstones that they say, each put in its place
abbrev pub heard : Record → Book → Book
heard (said.Cursor clock) b = b
heard (said.Entry e) b = added (entry_value e) b
heard (said.Seen p) b = b
heard (said.Buried t) b = with_tombstone (tombstone_value t) b

abbrev pub heard_all : List Record → Book → Book
heard_all [] b = b
heard_all (x ∷ xs) b = heard_all xs (heard x b)

-- what a queue keeps of a book
abbrev pub queue_of : Book → Book
queue_of b = record no_book { entries = b.entries; tombstones = b.tombstones }

-- the parts of the book fit their records, and its entries, paths seen and tombstones are in order
pub record IsKeepable (b : Book) : Type 0 where
  pub cursor : b.cursor < 2 ^ 64
  pub entries : AllByRecursion FitsEntry b.entries
  pub seen : AllByRecursion FitsSeen b.seen
  pub tombstones : AllByRecursion FitsTombstone b.tombstones
  pub tokens : IsRising token_rank b.entries
  pub paths : IsRising path_rank b.seen
  pub numbers : IsRising number_rank b.tombstones

-- what is answered to these records
abbrev pub Loads : List AuxRecord → Result Book CallError → Type 0
Loads rs (Ok b) = (xs : List Record) × SayAll rs xs × (b ≡ heard_all xs no_book)
Loads rs (Err (fail.No c)) = (c ≡ code.NotAVolume) × ((xs : List Record) → SayAll rs xs → ⊥)
Loads rs (Err fail.OutOfMemory) = Unit {0}
