-- The script that a number makes.
use Rattle.std.specs.Prelude.{ℕ, zero, suc, ◌+◌, ◌*◌, ◌/◌, ◌%◌, ◌^◌, ◌==◌, nat_lt, List, [], ◌∷◌, ◌++◌, if◌then◌else◌}
use Rattle.cf_base.specs.declared.ids.Key.{Key}
use Rattle.cf_base.specs.declared.events.Event.{Event}
use Rattle.cf_gen.specs.declared.generators.Generator.{Generator}
use Rattle.cf_gen.specs.declared.lines.Line.{Line}
use Rattle.cf_gen.specs.declared.lines.Line.TheVariants.{Close, Crash, Flush, Open, Put, Read, Restart, Size, Sync, Write}
use Rattle.cf_gen.specs.Lines.{events_of, text_of}

-- the state after one more draw
unfoldable pub next : ℕ → ℕ
next state = (state * 6364136223846793005 + 1442695040888963407) % 2 ^ 64

-- the state after so many more
abbrev pub after : ℕ → ℕ → ℕ
after zero state = state
after (suc k) state = after k (next state)

-- the number below m that the draw to this state gives
unfoldable pub drawn : ℕ → ℕ → ℕ
drawn m state = state / 2 ^ 33 % m

-- lines by draws from a state on, which are made from left to right

abbrev pub put_line : ℕ → ℕ → Line
put_line file state = Put file (32 + drawn 64 (after 1 state)) (1 + drawn 20000 (after 2 state))

abbrev pub read_line : Key → ℕ → Line
read_line handle state = Read handle (drawn 20000 (after 1 state)) (1 + drawn 8192 (after 2 state))

abbrev pub write_line : Key → ℕ → Line
write_line handle state = Write handle (drawn 20000 (after 1 state)) (32 + drawn 64 (after 2 state)) (1 + drawn 5000 (after 3 state))

abbrev pub size_line : Key → ℕ → Line
size_line handle state = Size handle (drawn 20000 (after 1 state))

abbrev pub crash_line : ℕ → Line
crash_line state = Crash (drawn 2147483648 (after 1 state))

-- so many files, from one on: put, opened, and closed under handles of an epoch that follow the first one

abbrev pub puts : ℕ → ℕ → ℕ → List Line
puts zero file state = []
puts (suc k) file state = put_line file state ∷ puts k (file + 1) (after 2 state)

abbrev pub opens : ℕ → ℕ → List Line
opens zero file = []
opens (suc k) file = Open file ∷ opens k (file + 1)

abbrev pub closes : ℕ → ℕ → ℕ → List Line
closes zero epoch number = []
closes (suc k) epoch number = Close (record { epoch = epoch; number = number }) ∷ closes k epoch (number + 1)

-- A round, by its kind and its file: its lines, and where the generator stands after it. Files 0 to 7 are open under the handles of the
-- epoch from the first one on.
abbrev pub chosen : ℕ → ℕ → Generator → List Line × Generator
chosen kind file g =
    let handle : Key = record { epoch = g.epoch; number = g.first + file } in
    if nat_lt kind 3 then (read_line handle g.state ∷ [], record g { state = after 2 g.state })
    else if kind == 3 then (write_line handle g.state ∷ [], record g { state = after 3 g.state })
    else if kind == 4 then (size_line handle g.state ∷ [], record g { state = after 1 g.state })
    else if kind == 5 then (put_line file g.state ∷ [], record g { state = after 2 g.state })
    else if kind == 6 then (closes 8 g.epoch g.first ++ Sync ∷ Flush ∷ opens 8 0, record g { first = g.first + 8 })
    else (crash_line g.state ∷ Restart ∷ opens 8 0, record { state = after 1 g.state; epoch = g.epoch + 1; first = 1 })

abbrev pub round : Generator → List Line × Generator
round g = chosen (drawn 8 (after 1 g.state)) (drawn 8 (after 2 g.state)) (record g { state = after 2 g.state })

unfoldable pub rounds : ℕ → Generator → List Line
rounds zero g = []
rounds (suc k) g = (round g).0 ++ rounds k (round g).1

-- the files are put and opened, and 400 rounds follow
abbrev pub made : ℕ → List Line
made n = puts 8 0 n ++ Sync ∷ Flush ∷ opens 8 0 ++ rounds 400 (record { state = after 16 n; epoch = 1; first = 1 })

abbrev pub made_script : ℕ → List ℕ
made_script n = text_of (made n)

abbrev pub made_events : ℕ → List Event
made_events n = events_of (made n)
