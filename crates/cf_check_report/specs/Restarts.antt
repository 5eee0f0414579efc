-- What a report says of the restarts to come.
use Rattle.std.specs.Prelude.{ℕ, Bool, List, [], ◌∷◌, Option, Some, None, ◌&&◌, ◌^◌, codes, cond, nat_lt}
use Rattle.cf_base.specs.declared.events.Event.{Event}
use Rattle.cf_check_report.specs.Counts.{count_told}
use Rattle.cf_check_traces.specs.Tests.{begins, is_restart}

-- the line is that of a restart that resumed
abbrev pub is_told : Event → List ℕ → Bool
is_told e line = is_restart e && begins (codes "= resumed ") line

-- the number, if it has no more than 64 bits
abbrev pub in_u64 : ℕ → Option ℕ
in_u64 n = cond (nat_lt n (2 ^ 64)) (Some n) None

-- how many changes the next of the events that is a restart which resumed kept, as these lines of results say
abbrev pub next_count : List Event → List (List ℕ) → Option ℕ
next_count [] lines = None
next_count (e ∷ es) [] = None
next_count (e ∷ es) (line ∷ lines) = cond (is_told e line) (in_u64 (count_told line)) (next_count es lines)

-- where the event is a restart that resumed: how many changes the next one behind it kept
abbrev pub next_aim : Event → List Event → List (List ℕ) → Option ℕ
next_aim e es [] = None
next_aim e es (line ∷ lines) = cond (is_told e line) (next_count es lines) None
