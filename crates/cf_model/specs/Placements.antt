-- Calls that make and convert items: files, directories, placeholders, and what is said of them.
use Rattle.std.specs.Prelude.{ℕ, Bool, List, [], ◌∷◌, length, Option, Result, ◌||◌}
use Rattle.cf_base.specs.declared.answers.Shown.{Shown}
use Rattle.cf_base.specs.declared.answers.Shown.TheVariants as shown
use Rattle.cf_base.specs.declared.changes.Change.{Change}
use Rattle.cf_base.specs.declared.codes.Code.{Code}
use Rattle.cf_base.specs.declared.codes.Code.TheVariants as code
use Rattle.cf_base.specs.declared.ids.ItemId.{ItemId}
use Rattle.cf_base.specs.declared.ids.Usn.{Usn}
use Rattle.cf_model.specs.Arrows.{Arrow, reading, ret, then_do, unit}
use Rattle.cf_model.specs.Requests.{Nothing, Waiting, no_numbers, too_many_asks}
use Rattle.cf_model.specs.Changes.{changes, next_number, no_places}
use Rattle.cf_model.specs.Dehydration.{in_use}
use Rattle.cf_model.specs.Items.{Item}
use Rattle.cf_model.specs.LookUp.{Place}
use Rattle.cf_model.specs.Operations.{checked, done, waiting_after, with_changes}
use Rattle.cf_model.specs.Plans.{Creation, plan_convert, plan_create, plan_keep, plan_mark, plan_revert, plan_unmark, plan_update}
use Rattle.cf_model.specs.Settling.{settle}
use Rattle.cf_model.specs.State.{Filter}
use Rattle.cf_model.specs.Waits.{on_ok, on_path}
use Rattle.cf_model.specs.Calls.{below_at, changing, number_of, place_at}

-- new items

abbrev pub planned_at : Creation → Place → Filter → Result (List Change) Code
planned_at what p s = plan_create s.volume.items s.policy s.volume.next_item (next_number s.volume) p.parent.id p.name what

abbrev pub show_item : List Change → ItemId → Arrow Filter Shown
show_item cs item = changing cs (ret (shown.Item item))

abbrev pub next_item : Filter → ItemId
next_item s = s.volume.next_item

abbrev pub make_planned : List Change → Arrow Filter Shown
make_planned cs = reading next_item (show_item cs)

abbrev pub create_at : Creation → Place → Arrow Filter Shown
create_at what p = reading (planned_at what p) (on_ok make_planned)

-- a new item at a path
abbrev pub create : List ℕ → Creation → Arrow Filter Shown
create path what = reading (place_at path) (on_ok (create_at what))

-- placeholders

abbrev pub planned_on : ItemId → List Change → Arrow Filter Shown
planned_on item cs = changing cs (number_of item)

abbrev pub convert_item : List ℕ → Item → Arrow Filter Shown
convert_item identity i = on_ok (planned_on i.id) (plan_convert i identity)

abbrev pub convert : List ℕ → List ℕ → Arrow Filter Shown
convert path identity = reading (below_at path) (on_ok (convert_item identity))

abbrev pub revert_plan : Item → Filter → Result (List Change) Code
revert_plan i s = plan_revert i (in_use i.id s)

abbrev pub revert_item : Item → Arrow Filter Shown
revert_item i = reading (revert_plan i) (on_ok (planned_on i.id))

abbrev pub revert : List ℕ → Arrow Filter Shown
revert path = on_path path revert_item

abbrev pub update_plan : List ℕ → Option ℕ → Item → Filter → Result (List Change) Code
update_plan identity size i s = plan_update s.policy i identity size (in_use i.id s)

abbrev pub update_item : List ℕ → Option ℕ → Item → Arrow Filter Shown
update_item identity size i = reading (update_plan identity size i) (on_ok (planned_on i.id))

abbrev pub update : List ℕ → List ℕ → Option ℕ → Arrow Filter Shown
update path identity size = on_path path (update_item identity size)

abbrev pub unmark_item : Item → Arrow Filter Shown
unmark_item i = on_ok (planned_on i.id) (plan_unmark i)

abbrev pub unmark : List ℕ → Arrow Filter Shown
unmark path = on_path path unmark_item

-- a mark or a keep flag, after which a wait may miss more bytes, and so may make asks

abbrev pub asking_tests : ItemId → List Change → Filter → List (Bool × Code)
asking_tests item cs s =
    let after : Waiting = waiting_after item Nothing (with_changes cs s) in
    (too_many_asks after, code.TooManyAsks) ∷ (no_places s.volume (length cs) || no_numbers after, code.Exhausted) ∷ []

abbrev pub settle_changed : ItemId → List Change → Arrow Filter (Unit {0})
settle_changed item [] = ret unit
settle_changed item (c ∷ cs) = settle item Nothing

abbrev pub asking : ItemId → Arrow Filter Shown → List Change → Arrow Filter Shown
asking item answer cs = checked (asking_tests item cs) (then_do (changes cs) (then_do (settle_changed item cs) answer))

abbrev pub mark_item : Usn → Item → Arrow Filter Shown
mark_item n i = on_ok (asking i.id (number_of i.id)) (plan_mark i n)

-- in sync, where the number given is the item's; 0.0 is unconditional
abbrev pub mark : List ℕ → Usn → Arrow Filter Shown
mark path n = on_path path (mark_item n)

abbrev pub keep_item : Bool → Item → Arrow Filter Shown
keep_item on i = on_ok (asking i.id done) (plan_keep i on)

-- whether a file is kept full
abbrev pub keep_full : List ℕ → Bool → Arrow Filter Shown
keep_full path on = on_path path (keep_item on)
