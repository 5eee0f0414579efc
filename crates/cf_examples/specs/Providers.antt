-- A provider that answers its asks itself.
use Rattle.std.specs.Prelude.{List, [], ◌∷◌}
use Prim.Native.String.{String}

-- An operation in the callback brings the bytes; where bytes need validation they are asked for again, and an ack ends the read.
abbrev pub a_callback_answers_at_once : List String
a_callback_answers_at_once =
    "> policy partial always-full validate"
    ∷ "= ok"
    ∷ "> place /v 5 aa"
    ∷ "- change 1.1 make 2 1 v pfile 5 aa"
    ∷ "= ok 2"
    ∷ "> open /v"
    ∷ "= ok 1.1"
    ∷ "> plan transfer self 0 68656c6c6f"
    ∷ "= ok"
    ∷ "> read 1.1 0 5"
    ∷ "- ask 1.1 fetch 2 0 5"
    ∷ "- change 1.2 fill 2 0 5"
    ∷ "- ask 1.2 validate 2 0 5"
    ∷ "- op ok"
    ∷ "= pending 1.1"
    ∷ "> do retrieve 1.2 0 5"
    ∷ "= data 68656c6c6f"
    ∷ "> do ack 1.2 0 5 ok"
    ∷ "- change 1.3 valid 2 0 5"
    ∷ "- done 1.1 data 68656c6c6f"
    ∷ "= ok"
    ∷ []

-- Bytes that are not good leave, but for those that were written here.
abbrev pub bytes_that_are_not_good_stay_where_they_were_written : List String
bytes_that_are_not_good_stay_where_they_were_written =
    "> policy partial always-full validate"
    ∷ "= ok"
    ∷ "> place /p 8192 aa"
    ∷ "- change 1.1 make 2 1 p pfile 8192 aa"
    ∷ "= ok 2"
    ∷ "> open /p"
    ∷ "= ok 1.1"
    ∷ "> plan transfer self 0 61*8192"
    ∷ "= ok"
    ∷ "> read 1.1 0 8192"
    ∷ "- ask 1.1 fetch 2 0 8192"
    ∷ "- change 1.2 fill 2 0 8192"
    ∷ "- ask 1.2 validate 2 0 8192"
    ∷ "- op ok"
    ∷ "= pending 1.1"
    ∷ "> write 1.1 0 62*4096"
    ∷ "- change 1.3 write 2 0 4096"
    ∷ "= ok"
    ∷ "> do ack 1.2 0 4096 no"
    ∷ "- change 1.4 empty 2 0 4096"
    ∷ "= ok"
    ∷ "> flush"
    ∷ "= ok 4"
    ∷ []

-- Hydration starts again where the policy lets it.
abbrev pub hydration_starts_again : List String
hydration_starts_again =
    "> policy partial always-full restart"
    ∷ "= ok"
    ∷ "> place /p 8192 aa"
    ∷ "- change 1.1 make 2 1 p pfile 8192 aa"
    ∷ "= ok 2"
    ∷ "> open /p"
    ∷ "= ok 1.1"
    ∷ "> read 1.1 0 8192"
    ∷ "- ask 1.1 fetch 2 0 8192"
    ∷ "= pending 1.1"
    ∷ "> do transfer 1.1 0 61*4096"
    ∷ "- change 1.2 fill 2 0 4096"
    ∷ "= ok"
    ∷ "> do rehydrate 1.1"
    ∷ "- change 1.3 empty 2 0 8192"
    ∷ "- cancel 1.1"
    ∷ "- ask 1.2 fetch 2 0 8192"
    ∷ "= ok"
    ∷ []

-- Without its modifier hydration does not start again.
abbrev pub hydration_starts_again_by_the_policy_alone : List String
hydration_starts_again_by_the_policy_alone =
    "> place /p 8192 aa"
    ∷ "- change 1.1 make 2 1 p pfile 8192 aa"
    ∷ "= ok 2"
    ∷ "> open /p"
    ∷ "= ok 1.1"
    ∷ "> read 1.1 0 8192"
    ∷ "- ask 1.1 fetch 2 0 8192"
    ∷ "= pending 1.1"
    ∷ "> do transfer 1.1 0 61*4096"
    ∷ "- change 1.2 fill 2 0 4096"
    ∷ "= ok"
    ∷ "> do rehydrate 1.1"
    ∷ "= refused RestartDenied"
    ∷ []

-- The whole file is emptied, also where nothing of it is here.
abbrev pub hydration_starts_again_where_nothing_is_here : List String
hydration_starts_again_where_nothing_is_here =
    "> policy partial always-full restart"
    ∷ "= ok"
    ∷ "> place /p 8192 aa"
    ∷ "- change 1.1 make 2 1 p pfile 8192 aa"
    ∷ "= ok 2"
    ∷ "> open /p"
    ∷ "= ok 1.1"
    ∷ "> read 1.1 0 8192"
    ∷ "- ask 1.1 fetch 2 0 8192"
    ∷ "= pending 1.1"
    ∷ "> do rehydrate 1.1"
    ∷ "- change 1.2 empty 2 0 8192"
    ∷ "- cancel 1.1"
    ∷ "- ask 1.2 fetch 2 0 8192"
    ∷ "= ok"
    ∷ "> flush"
    ∷ "= ok 2"
    ∷ []

-- What one read has brought leaves with what another waits for.
abbrev pub hydration_that_starts_again_empties_the_whole_file : List String
hydration_that_starts_again_empties_the_whole_file =
    "> policy partial always-full restart"
    ∷ "= ok"
    ∷ "> place /p 8192 aa"
    ∷ "- change 1.1 make 2 1 p pfile 8192 aa"
    ∷ "= ok 2"
    ∷ "> open /p"
    ∷ "= ok 1.1"
    ∷ "> size 1.1 10000"
    ∷ "- change 1.2 size 2 10000"
    ∷ "= ok"
    ∷ "> read 1.1 0 100"
    ∷ "- ask 1.1 fetch 2 0 4096"
    ∷ "= pending 1.1"
    ∷ "> do rehydrate 1.1"
    ∷ "- change 1.3 empty 2 0 10000"
    ∷ "- cancel 1.1"
    ∷ "- ask 1.2 fetch 2 0 4096"
    ∷ "= ok"
    ∷ "> size 1.1 5000"
    ∷ "- change 1.4 size 2 5000"
    ∷ "= ok"
    ∷ "> do rehydrate 1.2"
    ∷ "- change 1.5 empty 2 0 5000"
    ∷ "- cancel 1.2"
    ∷ "- ask 1.3 fetch 2 0 4096"
    ∷ "= ok"
    ∷ []

-- A transfer is a change also where every byte was written here.
abbrev pub a_transfer_into_written_bytes_is_a_change : List String
a_transfer_into_written_bytes_is_a_change =
    "> place /p 8192 aa"
    ∷ "- change 1.1 make 2 1 p pfile 8192 aa"
    ∷ "= ok 2"
    ∷ "> open /p"
    ∷ "= ok 1.1"
    ∷ "> read 1.1 0 8192"
    ∷ "- ask 1.1 fetch 2 0 8192"
    ∷ "= pending 1.1"
    ∷ "> write 1.1 0 62*4096"
    ∷ "- change 1.2 write 2 0 4096"
    ∷ "= ok"
    ∷ "> do transfer 1.1 0 61*4096"
    ∷ "- change 1.3 fill 2 0 4096"
    ∷ "= ok"
    ∷ "> flush"
    ∷ "= ok 3"
    ∷ []

-- An ask that ended before its turn is called all the same, with a key that is stale.
abbrev pub the_callback_of_a_cancelled_ask_is_called : List String
the_callback_of_a_cancelled_ask_is_called =
    "> place /q 12288 aa"
    ∷ "- change 1.1 make 2 1 q pfile 12288 aa"
    ∷ "= ok 2"
    ∷ "> open /q"
    ∷ "= ok 1.1"
    ∷ "> write 1.1 4096 61*4096"
    ∷ "- change 1.2 write 2 4096 4096"
    ∷ "= ok"
    ∷ "> plan fail self 0 4096 5"
    ∷ "= ok"
    ∷ "> plan transfer self 8192 62*4096"
    ∷ "= ok"
    ∷ "> get /q 0 12288"
    ∷ "- ask 1.1 fetch 2 0 4096"
    ∷ "- ask 1.2 fetch 2 8192 4096"
    ∷ "- cancel 1.2"
    ∷ "- op ok"
    ∷ "- op refused StaleKey"
    ∷ "= failed 5"
    ∷ []

-- The callback of an ask that ended takes the whole plan.
abbrev pub the_callback_of_a_cancelled_ask_takes_the_plan : List String
the_callback_of_a_cancelled_ask_takes_the_plan =
    "> place /q 12288 aa"
    ∷ "- change 1.1 make 2 1 q pfile 12288 aa"
    ∷ "= ok 2"
    ∷ "> open /q"
    ∷ "= ok 1.1"
    ∷ "> write 1.1 4096 61*4096"
    ∷ "- change 1.2 write 2 4096 4096"
    ∷ "= ok"
    ∷ "> plan fail self 0 4096 5"
    ∷ "= ok"
    ∷ "> get /q 0 12288"
    ∷ "- ask 1.1 fetch 2 0 4096"
    ∷ "- ask 1.2 fetch 2 8192 4096"
    ∷ "- cancel 1.2"
    ∷ "- op ok"
    ∷ "= failed 5"
    ∷ "> plan transfer self 0 62*4096"
    ∷ "= ok"
    ∷ "> get /q 0 1"
    ∷ "- ask 1.3 fetch 2 0 4096"
    ∷ "- change 1.3 fill 2 0 4096"
    ∷ "- op ok"
    ∷ "= data 62"
    ∷ []

-- On a disk of two clusters the first reply finds no room, and the other fetch is sent under its dead key.
abbrev pub the_fetch_of_a_cancelled_ask_is_sent : List String
the_fetch_of_a_cancelled_ask_is_sent =
    "> peer put /f 61*20480"
    ∷ "= ok 2 1"
    ∷ "> sync"
    ∷ "- sent 1 feed"
    ∷ "- sent 2 reply 1"
    ∷ "- change 1.1 make 2 1 f pfile 20480 000000000000000200000000000000020000000000000001"
    ∷ "- change 1.2 mark 2 1.1"
    ∷ "- sent 3 feed"
    ∷ "- sent 4 reply 3"
    ∷ "= ok 0"
    ∷ "> open /f"
    ∷ "= ok 1.1"
    ∷ "> read 1.1 8192 1"
    ∷ "- ask 1.1 fetch 2 8192 4096"
    ∷ "- sent 5 fetch"
    ∷ "- sent 6 reply 5"
    ∷ "- change 1.3 fill 2 8192 4096"
    ∷ "= data 61"
    ∷ "> get /f 0 20480"
    ∷ "- ask 1.2 fetch 2 0 8192"
    ∷ "- ask 1.3 fetch 2 12288 8192"
    ∷ "- sent 7 fetch"
    ∷ "- sent 8 reply 7"
    ∷ "- cancel 1.3"
    ∷ "- sent 9 fetch"
    ∷ "- sent 10 reply 9"
    ∷ "= failed 33"
    ∷ []

-- A directory is populated when it is listed.
abbrev pub entries_come_in_the_callback_of_a_list : List String
entries_come_in_the_callback_of_a_list =
    "> policy partial full"
    ∷ "= ok"
    ∷ "> placedir /d aa"
    ∷ "- change 1.1 make 2 1 d udir 0 aa"
    ∷ "= ok 2"
    ∷ "> plan entries self ok f,file,1,bb,insync"
    ∷ "= ok"
    ∷ "> list /d"
    ∷ "- ask 1.1 list 2"
    ∷ "- change 1.2 make 3 2 f pfile 1 bb"
    ∷ "- change 1.3 mark 3 1.2"
    ∷ "- change 1.4 populate 2"
    ∷ "- op ok"
    ∷ "= list f:f"
    ∷ []

-- An entry without a name is refused.
abbrev pub an_entry_needs_a_name : List String
an_entry_needs_a_name =
    "> policy partial full"
    ∷ "= ok"
    ∷ "> placedir /d aa"
    ∷ "- change 1.1 make 2 1 d udir 0 aa"
    ∷ "= ok 2"
    ∷ "> list /d"
    ∷ "- ask 1.1 list 2"
    ∷ "= pending 1.1"
    ∷ "> do entries 1.1 ok ,file,1,-"
    ∷ "= refused BadPath"
    ∷ []
