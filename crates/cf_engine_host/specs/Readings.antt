-- What an engine reads of a filter besides what calls do.
use Rattle.std.specs.Prelude.{ℕ}
use Rattle.cf_base.specs.declared.ids.ItemId.{ItemId}
use Rattle.cf_base.specs.declared.ids.Usn.{Usn}
use Rattle.cf_model.specs.Books.{anchor_of}
use Rattle.cf_model.specs.State.{Filter}

abbrev pub epoch_of : Filter → ℕ
epoch_of s = s.volume.epoch

-- the number of an item at its last upload
abbrev pub anchor_at : ItemId → Filter → Usn
anchor_at item s = anchor_of s.volume.book item
