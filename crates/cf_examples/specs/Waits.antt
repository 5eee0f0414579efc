-- Waits and their ends.
use Rattle.std.specs.Prelude.{List, [], ◌∷◌}
use Prim.Native.String.{String}

-- An ask ends after 60 ticks without an operation.
abbrev pub progress_holds_the_clock_of_an_ask : List String
progress_holds_the_clock_of_an_ask =
    "> place /p 8192 aa"
    ∷ "- change 1.1 make 2 1 p pfile 8192 aa"
    ∷ "= ok 2"
    ∷ "> open /p"
    ∷ "= ok 1.1"
    ∷ "> read 1.1 0 8192"
    ∷ "- ask 1.1 fetch 2 0 8192"
    ∷ "= pending 1.1"
    ∷ "> tick 59"
    ∷ "= ok"
    ∷ "> do transfer 1.1 0 61*4096"
    ∷ "- change 1.2 fill 2 0 4096"
    ∷ "= ok"
    ∷ "> tick 59"
    ∷ "= ok"
    ∷ "> tick 1"
    ∷ "- done 1.1 timeout"
    ∷ "- cancel 1.1"
    ∷ "= ok"
    ∷ []

-- Without a transfer the clock of the ask goes on.
abbrev pub an_ask_without_progress_ends : List String
an_ask_without_progress_ends =
    "> place /p 8192 aa"
    ∷ "- change 1.1 make 2 1 p pfile 8192 aa"
    ∷ "= ok 2"
    ∷ "> open /p"
    ∷ "= ok 1.1"
    ∷ "> read 1.1 0 8192"
    ∷ "- ask 1.1 fetch 2 0 8192"
    ∷ "= pending 1.1"
    ∷ "> tick 59"
    ∷ "= ok"
    ∷ "> tick 59"
    ∷ "- done 1.1 timeout"
    ∷ "- cancel 1.1"
    ∷ "= ok"
    ∷ []

-- Each wait ends with the first of its asks, and each ask is cancelled once.
abbrev pub two_asks_end_in_one_tick : List String
two_asks_end_in_one_tick =
    "> place /q 8192 aa"
    ∷ "- change 1.1 make 2 1 q pfile 8192 aa"
    ∷ "= ok 2"
    ∷ "> open /q"
    ∷ "= ok 1.1"
    ∷ "> read 1.1 0 4096"
    ∷ "- ask 1.1 fetch 2 0 4096"
    ∷ "= pending 1.1"
    ∷ "> read 1.1 0 8192"
    ∷ "- ask 1.2 fetch 2 4096 4096"
    ∷ "= pending 1.2"
    ∷ "> tick 60"
    ∷ "- done 1.1 timeout"
    ∷ "- done 1.2 timeout"
    ∷ "- cancel 1.1"
    ∷ "- cancel 1.2"
    ∷ "= ok"
    ∷ []

-- A refusal ends all who wait for its blocks; others go on until they are cancelled.
abbrev pub a_refusal_ends_those_who_miss_its_blocks : List String
a_refusal_ends_those_who_miss_its_blocks =
    "> place /q 12288 aa"
    ∷ "- change 1.1 make 2 1 q pfile 12288 aa"
    ∷ "= ok 2"
    ∷ "> open /q"
    ∷ "= ok 1.1"
    ∷ "> read 1.1 0 4096"
    ∷ "- ask 1.1 fetch 2 0 4096"
    ∷ "= pending 1.1"
    ∷ "> read 1.1 0 8192"
    ∷ "- ask 1.2 fetch 2 4096 4096"
    ∷ "= pending 1.2"
    ∷ "> read 1.1 8192 4096"
    ∷ "- ask 1.3 fetch 2 8192 4096"
    ∷ "= pending 1.3"
    ∷ "> do fail 1.1 0 4096 5"
    ∷ "- done 1.1 failed 5"
    ∷ "- done 1.2 failed 5"
    ∷ "- cancel 1.2"
    ∷ "= ok"
    ∷ "> cancel 1.3"
    ∷ "- done 1.3 cancelled"
    ∷ "- cancel 1.3"
    ∷ "= ok"
    ∷ "> cancel 1.3"
    ∷ "= refused NoWait"
    ∷ []

-- A file is hydrated before it is uploaded; that wait ends with a line where it ends later.
abbrev pub the_hydration_before_an_upload_may_end_late : List String
the_hydration_before_an_upload_may_end_late =
    "> peer put /a 6161"
    ∷ "= ok 2 1"
    ∷ "> sync"
    ∷ "- sent 1 feed"
    ∷ "- sent 2 reply 1"
    ∷ "- change 1.1 make 2 1 a pfile 2 000000000000000200000000000000020000000000000001"
    ∷ "- change 1.2 mark 2 1.1"
    ∷ "- sent 3 feed"
    ∷ "- sent 4 reply 3"
    ∷ "= ok 0"
    ∷ "> open /a"
    ∷ "= ok 1.1"
    ∷ "> write 1.1 0 62"
    ∷ "- change 1.3 write 2 0 1"
    ∷ "= ok"
    ∷ "> close 1.1"
    ∷ "= ok"
    ∷ "> link queued"
    ∷ "= ok"
    ∷ "> work"
    ∷ "- sent 5 feed"
    ∷ "- ask 1.1 fetch 2 0 2"
    ∷ "- sent 6 fetch"
    ∷ "= ok"
    ∷ "> arrive 6"
    ∷ "- sent 7 reply 6"
    ∷ "= ok"
    ∷ "> deliver 7"
    ∷ "- change 1.4 fill 2 0 2"
    ∷ "- done 1.1 hydrated"
    ∷ "= ok"
    ∷ "> work"
    ∷ "- sent 8 feed"
    ∷ "- sent 9 put"
    ∷ "= ok"
    ∷ []

-- Without a provider reads and syncs are refused, and what needs none is not.
abbrev pub without_a_provider_nothing_is_asked : List String
without_a_provider_nothing_is_asked =
    "> peer put /a 68656c6c6f"
    ∷ "= ok 2 1"
    ∷ "> sync"
    ∷ "- sent 1 feed"
    ∷ "- sent 2 reply 1"
    ∷ "- change 1.1 make 2 1 a pfile 5 000000000000000200000000000000020000000000000001"
    ∷ "- change 1.2 mark 2 1.1"
    ∷ "- sent 3 feed"
    ∷ "- sent 4 reply 3"
    ∷ "= ok 0"
    ∷ "> open /a"
    ∷ "= ok 1.1"
    ∷ "> disconnect"
    ∷ "= ok"
    ∷ "> read 1.1 0 5"
    ∷ "= refused ProviderDown"
    ∷ "> sync"
    ∷ "= refused ProviderDown"
    ∷ "> df"
    ∷ "= blocks 0 15616"
    ∷ []
