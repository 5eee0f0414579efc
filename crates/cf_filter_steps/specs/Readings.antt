-- What calls read of a filter, and small steps of them.
use Rattle.std.specs.Prelude.{ℕ, Bool, not, List, ◌++◌, map, cond, Option, Some, None, Result, Ok, Err, ◌==◌, ◌&&◌}
use Rattle.std.specs.List.{list_any}
use Rattle.cf_base.specs.declared.changes.Change.{Change}
use Rattle.cf_base.specs.declared.codes.Code.{Code}
use Rattle.cf_base.specs.declared.codes.CallError.{CallError}
use Rattle.cf_base.specs.declared.ids.Handle.{Handle}
use Rattle.cf_base.specs.declared.ids.ItemId.{ItemId}
use Rattle.cf_base.specs.declared.ids.Key.{Key}
use Rattle.cf_base.specs.declared.ids.Usn.{Usn}
use Rattle.cf_base.specs.declared.notices.Notice.{Notice}
use Rattle.cf_base.specs.declared.notices.Notice.TheVariants as notice
use Rattle.cf_base.specs.declared.policies.Policy.{Policy}
use Rattle.cf_base.specs.declared.waits.Ask.{Ask}
use Rattle.cf_model.specs.Arrows.{unit}
use Rattle.cf_model.specs.Blocks.{blocks_used}
use Rattle.cf_model.specs.Books.{access_of}
use Rattle.cf_model.specs.Calls.{open_tests}
use Rattle.cf_model.specs.Changes.{lacks_numbers, next_number, no_blocks, no_places, no_table, why_no_room}
use Rattle.cf_model.specs.Requests.{Waiting}
use Rattle.cf_model.specs.Settling.{cancel_line}
use Rattle.cf_model.specs.State.{Filter, Open}
use Rattle.cf_model.specs.Waits.{opened_by}
use Rattle.cf_model.specs.Words.{first_of, is_empty}
use Rattle.cf_filter_steps.specs.declared.rooms.Room.{Room}

abbrev pub waiting_of : Filter → Waiting
waiting_of s = s.waiting

abbrev pub policy_of : Filter → Policy
policy_of s = s.policy

-- the file of a handle
abbrev pub item_opened : Option Open → Option ItemId
item_opened None = None
item_opened (Some o) = Some o.item

abbrev pub opened_item : Handle → Filter → Option ItemId
opened_item h s = item_opened (opened_by h s)

abbrev pub has_handle : ItemId → Filter → Bool
has_handle item s = list_any (λ h. h.item.0 == item.0) s.handles

-- a live wait is on the item
abbrev pub has_wait : ItemId → Filter → Bool
has_wait item s = list_any (λ w. w.item.0 == item.0) s.waiting.waits

abbrev pub open_refusal : Filter → Option Code
open_refusal s = first_of (open_tests s)

-- the number that the next change gets, and none where no place is left
abbrev pub next_place : Filter → Option Usn
next_place s = cond (no_places s.volume 1) None (Some (next_number s.volume))

-- whether changes find no room
abbrev pub room_of : List Change → Filter → Room
room_of cs s = record { no_numbers = lacks_numbers s.volume cs; no_table = no_table s.volume cs; no_blocks = no_blocks s.volume cs }

-- why changes find no room
abbrev pub room_refusal : List Change → Filter → Option Code
room_refusal cs s = why_no_room cs s.volume

-- whether a call was done, whatever it gave
abbrev pub whether : {A : Type 0} → Result A CallError → Result (Unit {0}) CallError
whether (Ok a) = Ok unit
whether (Err e) = Err e

-- the lines of asks that go and come, whose callbacks are still to be called
abbrev pub asked_line : Ask → Notice
asked_line a = notice.Ask a

abbrev pub with_asks : List Key → List Ask → Filter → Filter
with_asks cancelled asks s = record s { notes = s.notes ++ map cancel_line cancelled ++ map asked_line asks; outbox = s.outbox ++ asks }

-- nothing is open, and nothing waits
abbrev pub is_idle : Filter → Bool
is_idle s = is_empty s.handles && is_empty s.waiting.waits

-- a directory whose entries are not known
abbrev pub has_unlisted : Filter → Bool
has_unlisted s = list_any (λ i. i.directory && not i.populated) s.volume.items

-- the clock of a file's last access
abbrev pub last_access : ItemId → Filter → ℕ
last_access id s = access_of s.volume.book id

-- the blocks that are used, and those that there are
abbrev pub used_blocks : Filter → ℕ × ℕ
used_blocks s = (blocks_used s.volume.items, s.volume.clusters)
