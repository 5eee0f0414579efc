-- What a provider sees of what it acts on.
use Rattle.std.specs.Prelude.{ℕ, List, [], ◌≡◌}
use Rattle.cf_base.specs.declared.answers.AuxRecord.{AuxRecord}
use Rattle.cf_base.specs.declared.waits.Ask.{Ask}
use Rattle.cf_provider.specs.declared.outcomes.Callback.{Callback}
use Rattle.cf_model.specs.Books.{aux_records}
use Rattle.cf_model.specs.Items.{Item, base_of, item_of}
use Rattle.cf_model.specs.Requests.{Waiting}
use Rattle.cf_model.specs.State.{Filter}
use Rattle.cf_model.specs.Words.{part}
use Rattle.cf_table.specs.Tables.{MeansAll, Table}

-- the rows of the volume, the waits and asks, and the auxiliary records by key
pub record Sight : Type 0 where
  pub table : Table
  pub waiting : Waiting
  pub records : List AuxRecord

-- it is what is so of a filter
pub record Shows (sight : Sight) (s : Filter) : Type 0 where
  pub rows : MeansAll sight.table.rows s.volume.items
  pub next : sight.table.next ≡ s.volume.next_item
  pub waiting : sight.waiting ≡ s.waiting
  pub records : sight.records ≡ aux_records s.volume.book

abbrev pub identity_of : Item → List ℕ
identity_of i = i.identity

-- with the identity and the base length that the item has then, none of one that is gone
abbrev pub callback_of : Ask → Filter → Callback
callback_of a s = record { ask = a; identity = part identity_of [] (item_of s.volume.items a.item); base = part base_of 0 (item_of s.volume.items a.item) }
