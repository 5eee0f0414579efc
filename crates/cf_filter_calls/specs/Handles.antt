-- Parts of calls on handles, waits and open files.
use Rattle.std.specs.Prelude.{[], ◌∷◌}
use Rattle.cf_base.specs.declared.answers.Shown.{Shown}
use Rattle.cf_base.specs.declared.changes.Change.{Change}
use Rattle.cf_base.specs.declared.ids.ItemId.{ItemId}
use Rattle.cf_base.specs.declared.ids.WaitId.{WaitId}
use Rattle.cf_model.specs.Arrows.{Arrow, noted, reading, then_do}
use Rattle.cf_model.specs.Calls.{next_handle, open_tests, opened_as, room_tests, write_now}
use Rattle.cf_model.specs.Operations.{checked, done}
use Rattle.cf_model.specs.Requests.{Cancels}
use Rattle.cf_model.specs.Settling.{accessed, settle}
use Rattle.cf_model.specs.State.{Filter}
use Rattle.cf_filter_steps.specs.Putting.{IsFile}
use Rattle.cf_filter_steps.specs.Suiting.{Suits}

-- the next handle, on the item with this id
abbrev pub opened_next : ItemId → Arrow Filter Shown
opened_next id = reading next_handle (opened_as id)

abbrev pub open_by : ItemId → Arrow Filter Shown
open_by id = checked open_tests (opened_next id)

-- the wait, which is on this item, ends
abbrev pub cancel_item : WaitId → ItemId → Arrow Filter Shown
cancel_item id item = then_do (settle item (Cancels id)) done

-- a write or a size of a file, which suits
pub record PutsIn (item : ItemId) (c : Change) (s : Filter) : Type 0 where
  pub suits : Suits c s.volume
  pub file : IsFile item s

abbrev pub put_in : ItemId → Change → Arrow Filter Shown
put_in item c = checked (room_tests (c ∷ [])) (write_now item c)

-- a size that the file has
abbrev pub sized_already : ItemId → Arrow Filter Shown
sized_already item = checked (room_tests []) (then_do (noted (accessed item)) done)
