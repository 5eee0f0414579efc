-- The parts of `space`, which mirror the code: no definitions to believe.
use Rattle.std.specs.Prelude.{ℕ, Bool, true, false, List, None, length}
use Rattle.cf_base.specs.declared.answers.Shown.{Shown}
use Rattle.cf_base.specs.declared.answers.Shown.TheVariants as shown
use Rattle.cf_base.specs.declared.codes.Code.TheVariants as code
use Rattle.cf_base.specs.declared.ids.ItemId.{ItemId}
use Rattle.cf_model.specs.Arrows.{Arrow, reading, ret, seq}
use Rattle.cf_model.specs.Blocks.{blocks_used}
use Rattle.cf_model.specs.Callbacks.{calling}
use Rattle.cf_model.specs.Dehydration.{dehydrate_range}
use Rattle.cf_model.specs.Fetching.{nothing_more}
use Rattle.cf_model.specs.Items.{Item}
use Rattle.cf_model.specs.Space.{free_all, no_numbers, plan_now}
use Rattle.cf_model.specs.State.{State, items_now}

-- a call on the whole file, whatever it is answered
abbrev pub dehydrated : Item → Arrow State (Unit {0})
dehydrated i = seq (calling (dehydrate_range None i)) nothing_more

abbrev pub used_now : State → ℕ
used_now s = blocks_used (items_now s)

abbrev pub free_from : List ItemId → ℕ → Arrow State Shown
free_from ids before = free_all before ids

abbrev pub freed : List ItemId → Arrow State Shown
freed ids = reading used_now (free_from ids)

abbrev pub lacks_for : List ItemId → State → Bool
lacks_for ids s = no_numbers (length ids) s.filter

abbrev pub unless_lacking : List ItemId → Bool → Arrow State Shown
unless_lacking ids true = ret (shown.Refused code.Exhausted)
unless_lacking ids false = freed ids

-- the plan, where each of its files finds its numbers
abbrev pub carried_out : List ItemId → Arrow State Shown
carried_out ids = reading (lacks_for ids) (unless_lacking ids)

-- under a policy that allows it
abbrev pub allowed : ℕ → Arrow State Shown
allowed budget = reading (plan_now budget) carried_out
