-- Tombstones of new items that are gone, which mirror the code: no definitions to believe.
use Rattle.std.specs.Prelude.{Bool}
use Rattle.cf_base.specs.declared.ids.Rid.{Rid}
use Rattle.cf_base.specs.declared.ids.Version.{Version}
use Rattle.cf_model.specs.Arrows.{Arrow, only_if, seq}
use Rattle.cf_model.specs.Books.{QueueEntry, with_tombstone}
use Rattle.cf_model.specs.PushReplies.{is_new_entry, tombstone_left, whatever}
use Rattle.cf_model.specs.Skips.{try_book}
use Rattle.cf_model.specs.State.{State}

-- of a new item a tombstone is left; whether it was
abbrev pub tombstone_kept : QueueEntry → Rid → Version → Arrow State Bool
tombstone_kept e rid version = only_if (is_new_entry e) (try_book (with_tombstone (tombstone_left e rid version)))

abbrev pub buried_new : QueueEntry → Rid → Version → Arrow State (Unit {0})
buried_new e rid version = seq (tombstone_kept e rid version) whatever
