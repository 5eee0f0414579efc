-- Steps on the records that the engine keeps beside the items.
use Rattle.std.specs.Prelude.{◌≡◌, ℕ, Bool, true, false, List, [], ◌∷◌, Option, Some, None, Result, Ok, Err}
use Rattle.cf_base.specs.declared.answers.AuxRecord.{AuxRecord}
use Rattle.cf_base.specs.declared.codes.Code.{Code}
use Rattle.cf_base.specs.declared.codes.Code.TheVariants as code
use Rattle.cf_base.specs.declared.codes.CallError.{CallError}
use Rattle.cf_base.specs.declared.ids.ItemId.{ItemId}
use Rattle.cf_model.specs.Books.{Book, aux_records}
use Rattle.cf_model.specs.Changes.{next_number}
use Rattle.cf_model.specs.Formats.{with_record, without_record}
use Rattle.cf_model.specs.Images.{table_full}
use Rattle.cf_model.specs.Items.{Item, item_of}
use Rattle.cf_model.specs.Numbers.{above, is_no_usn}
use Rattle.cf_model.specs.State.{Filter}
use Rattle.cf_model.specs.Words.{first_of}
use Rattle.cf_engine_queue.specs.Records.{IsKeepable}
use Rattle.cf_filter_steps.specs.Good.{Every}

-- the filter with another book
abbrev pub with_book_of : (Book → Book) → Filter → Filter
with_book_of f s = record s { volume = record s.volume { book = f s.volume.book } }

-- the records by which the book is kept
abbrev pub records_of : Filter → List AuxRecord
records_of s = aux_records s.volume.book

-- The new book has these records, and all else as before. Records keep it, and the numbers of its tombstones were given.
pub record HasRecords (kept : List AuxRecord) (f : Book → Book) (s : Filter) : Type 0 where
  pub records : aux_records (f s.volume.book) ≡ kept
  pub anchors : (f s.volume.book).anchors ≡ s.volume.book.anchors
  pub clock : (f s.volume.book).clock ≡ s.volume.book.clock
  pub accesses : (f s.volume.book).accesses ≡ s.volume.book.accesses
  pub fits : IsKeepable (f s.volume.book)
  pub tombstones : Every (λ t. above (next_number s.volume) t.number ≡ true) s.volume.book.tombstones → Every (λ t. above (next_number s.volume) t.number ≡ true) (f s.volume.book).tombstones

-- It has this record besides, in place of the one with its key.
abbrev pub PutsBeside : AuxRecord → (Book → Book) → Filter → Type 0
PutsBeside r f s = HasRecords (with_record r (records_of s)) f s

-- It lacks the record with this key.
abbrev pub DropsRecord : List ℕ → (Book → Book) → Filter → Type 0
DropsRecord key f s = HasRecords (without_record key (records_of s)) f s

-- there is no room for the new book
abbrev pub why_full : (Book → Book) → Filter → Option Code
why_full f s = first_of ((table_full s.volume.items (f s.volume.book), code.TableFull) ∷ [])

-- whether a record was put, or why not
abbrev pub put_outcome : Result Bool CallError → Result (Option Code) CallError
put_outcome (Ok true) = Ok None
put_outcome (Ok false) = Ok (Some code.TableFull)
put_outcome (Err e) = Err e

-- an item that has a number
pub record HasNumber (id : ItemId) (i : Item) (s : Filter) : Type 0 where
  pub at : item_of s.volume.items id ≡ Some i
  pub number : is_no_usn i.number ≡ false
