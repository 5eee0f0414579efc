-- Marks behind paths that are recorded, which mirror the code: no definitions to believe.
use Rattle.std.specs.Prelude.{Bool}
use Rattle.cf_model.specs.Arrows.{Arrow, and_then, seq}
use Rattle.cf_model.specs.Books.{QueueEntry}
use Rattle.cf_model.specs.PushReplies.{entry_seen, whatever}
use Rattle.cf_model.specs.Skips.{try_mark, try_seen}
use Rattle.cf_model.specs.State.{State}

-- the path of the entry is seen; then its item is marked where it may be; whether both were done
abbrev pub seen_and_marked : QueueEntry → Arrow State Bool
seen_and_marked e = and_then (try_seen (entry_seen e)) (try_mark e.item e.number)

abbrev pub see_then_mark : QueueEntry → Arrow State (Unit {0})
see_then_mark e = seq (seen_and_marked e) whatever

-- it is marked alone
abbrev pub marked : QueueEntry → Arrow State (Unit {0})
marked e = seq (try_mark e.item e.number) whatever
