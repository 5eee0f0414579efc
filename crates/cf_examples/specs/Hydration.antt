-- Bytes that are brought when they are needed.
use Rattle.std.specs.Prelude.{List, [], ◌∷◌}
use Prim.Native.String.{String}

-- A read of a file that is not here asks, and ends when the bytes have come.
abbrev pub a_read_brings_the_bytes_that_it_needs : List String
a_read_brings_the_bytes_that_it_needs =
    "> peer put /a 68656c6c6f"
    ∷ "= ok 2 1"
    ∷ "> sync"
    ∷ "- sent 1 feed"
    ∷ "- sent 2 reply 1"
    ∷ "- change 1.1 make 2 1 a pfile 5 000000000000000200000000000000020000000000000001"
    ∷ "- change 1.2 mark 2 1.1"
    ∷ "- sent 3 feed"
    ∷ "- sent 4 reply 3"
    ∷ "= ok 0"
    ∷ "> open /a"
    ∷ "= ok 1.1"
    ∷ "> read 1.1 0 5"
    ∷ "- ask 1.1 fetch 2 0 5"
    ∷ "- sent 5 fetch"
    ∷ "- sent 6 reply 5"
    ∷ "- change 1.3 fill 2 0 5"
    ∷ "= data 68656c6c6f"
    ∷ []

-- Where messages are queued a read is pending until its reply is delivered, which is done once.
abbrev pub a_read_waits_for_a_queued_reply : List String
a_read_waits_for_a_queued_reply =
    "> peer put /a 68656c6c6f"
    ∷ "= ok 2 1"
    ∷ "> sync"
    ∷ "- sent 1 feed"
    ∷ "- sent 2 reply 1"
    ∷ "- change 1.1 make 2 1 a pfile 5 000000000000000200000000000000020000000000000001"
    ∷ "- change 1.2 mark 2 1.1"
    ∷ "- sent 3 feed"
    ∷ "- sent 4 reply 3"
    ∷ "= ok 0"
    ∷ "> open /a"
    ∷ "= ok 1.1"
    ∷ "> link queued"
    ∷ "= ok"
    ∷ "> read 1.1 0 5"
    ∷ "- ask 1.1 fetch 2 0 5"
    ∷ "- sent 5 fetch"
    ∷ "= pending 1.1"
    ∷ "> arrive 5"
    ∷ "- sent 6 reply 5"
    ∷ "= ok"
    ∷ "> deliver 6"
    ∷ "- change 1.3 fill 2 0 5"
    ∷ "- done 1.1 data 68656c6c6f"
    ∷ "= ok"
    ∷ "> deliver 6"
    ∷ "= refused Stale"
    ∷ "> deliver 5"
    ∷ "= refused NoMessage"
    ∷ []

-- An ask is for whole blocks, up to the end of the file; past the end there is nothing to read.
abbrev pub a_read_asks_for_whole_blocks : List String
a_read_asks_for_whole_blocks =
    "> peer put /b 61*10000"
    ∷ "= ok 2 1"
    ∷ "> sync"
    ∷ "- sent 1 feed"
    ∷ "- sent 2 reply 1"
    ∷ "- change 1.1 make 2 1 b pfile 10000 000000000000000200000000000000020000000000000001"
    ∷ "- change 1.2 mark 2 1.1"
    ∷ "- sent 3 feed"
    ∷ "- sent 4 reply 3"
    ∷ "= ok 0"
    ∷ "> open /b"
    ∷ "= ok 1.1"
    ∷ "> read 1.1 4095 2"
    ∷ "- ask 1.1 fetch 2 0 8192"
    ∷ "- sent 5 fetch"
    ∷ "- sent 6 reply 5"
    ∷ "- change 1.3 fill 2 0 8192"
    ∷ "= data 6161"
    ∷ "> read 1.1 10000 5"
    ∷ "= data -"
    ∷ []

-- Under progressive hydration a read ends with its own bytes, and the rest of the file is waited for until the file is closed.
abbrev pub progressive_hydration_goes_on_in_the_background : List String
progressive_hydration_goes_on_in_the_background =
    "> policy progressive always-full"
    ∷ "= ok"
    ∷ "> place /b 10000 aa"
    ∷ "- change 1.1 make 2 1 b pfile 10000 aa"
    ∷ "= ok 2"
    ∷ "> open /b"
    ∷ "= ok 1.1"
    ∷ "> read 1.1 4095 2"
    ∷ "- wait 1.2 background 2"
    ∷ "- ask 1.1 fetch 2 0 10000"
    ∷ "= pending 1.1"
    ∷ "> do transfer 1.1 0 61*8192"
    ∷ "- change 1.2 fill 2 0 8192"
    ∷ "- done 1.1 data 6161"
    ∷ "= ok"
    ∷ "> close 1.1"
    ∷ "- done 1.2 closed"
    ∷ "- cancel 1.1"
    ∷ "= ok"
    ∷ []

-- Under full hydration the blocks of the read alone do not end it.
abbrev pub full_hydration_needs_the_whole_file : List String
full_hydration_needs_the_whole_file =
    "> policy full always-full"
    ∷ "= ok"
    ∷ "> place /b 10000 aa"
    ∷ "- change 1.1 make 2 1 b pfile 10000 aa"
    ∷ "= ok 2"
    ∷ "> open /b"
    ∷ "= ok 1.1"
    ∷ "> read 1.1 4095 2"
    ∷ "- ask 1.1 fetch 2 0 10000"
    ∷ "= pending 1.1"
    ∷ "> do transfer 1.1 0 61*8192"
    ∷ "- change 1.2 fill 2 0 8192"
    ∷ "= ok"
    ∷ []

-- Under full hydration a read of no bytes needs the whole file too.
abbrev pub full_hydration_needs_the_file_for_an_empty_read : List String
full_hydration_needs_the_file_for_an_empty_read =
    "> policy full always-full"
    ∷ "= ok"
    ∷ "> place /p 5 aa"
    ∷ "- change 1.1 make 2 1 p pfile 5 aa"
    ∷ "= ok 2"
    ∷ "> get /p 0 0"
    ∷ "- ask 1.1 fetch 2 0 5"
    ∷ "= pending 1.1"
    ∷ []

-- Blocks that are asked for already are not asked for again.
abbrev pub a_second_read_asks_for_the_rest_only : List String
a_second_read_asks_for_the_rest_only =
    "> peer put /b 61*10000"
    ∷ "= ok 2 1"
    ∷ "> sync"
    ∷ "- sent 1 feed"
    ∷ "- sent 2 reply 1"
    ∷ "- change 1.1 make 2 1 b pfile 10000 000000000000000200000000000000020000000000000001"
    ∷ "- change 1.2 mark 2 1.1"
    ∷ "- sent 3 feed"
    ∷ "- sent 4 reply 3"
    ∷ "= ok 0"
    ∷ "> open /b"
    ∷ "= ok 1.1"
    ∷ "> link queued"
    ∷ "= ok"
    ∷ "> read 1.1 0 5000"
    ∷ "- ask 1.1 fetch 2 0 8192"
    ∷ "- sent 5 fetch"
    ∷ "= pending 1.1"
    ∷ "> read 1.1 4096 5904"
    ∷ "- ask 1.2 fetch 2 8192 1808"
    ∷ "- sent 6 fetch"
    ∷ "= pending 1.2"
    ∷ []

-- Bytes from the remote fill only places that are not here.
abbrev pub a_local_write_stays_over_bytes_that_come_later : List String
a_local_write_stays_over_bytes_that_come_later =
    "> peer put /a 68656c6c6f"
    ∷ "= ok 2 1"
    ∷ "> sync"
    ∷ "- sent 1 feed"
    ∷ "- sent 2 reply 1"
    ∷ "- change 1.1 make 2 1 a pfile 5 000000000000000200000000000000020000000000000001"
    ∷ "- change 1.2 mark 2 1.1"
    ∷ "- sent 3 feed"
    ∷ "- sent 4 reply 3"
    ∷ "= ok 0"
    ∷ "> open /a"
    ∷ "= ok 1.1"
    ∷ "> link queued"
    ∷ "= ok"
    ∷ "> read 1.1 0 5"
    ∷ "- ask 1.1 fetch 2 0 5"
    ∷ "- sent 5 fetch"
    ∷ "= pending 1.1"
    ∷ "> write 1.1 0 4a"
    ∷ "- change 1.3 write 2 0 1"
    ∷ "= ok"
    ∷ "> arrive 5"
    ∷ "- sent 6 reply 5"
    ∷ "= ok"
    ∷ "> deliver 6"
    ∷ "- change 1.4 fill 2 0 5"
    ∷ "- done 1.1 data 4a656c6c6f"
    ∷ "= ok"
    ∷ []

-- What a cut took away does not come back with the bytes of the remote.
abbrev pub growth_after_a_cut_gives_zeros : List String
growth_after_a_cut_gives_zeros =
    "> peer put /b 61*10000"
    ∷ "= ok 2 1"
    ∷ "> sync"
    ∷ "- sent 1 feed"
    ∷ "- sent 2 reply 1"
    ∷ "- change 1.1 make 2 1 b pfile 10000 000000000000000200000000000000020000000000000001"
    ∷ "- change 1.2 mark 2 1.1"
    ∷ "- sent 3 feed"
    ∷ "- sent 4 reply 3"
    ∷ "= ok 0"
    ∷ "> open /b"
    ∷ "= ok 1.1"
    ∷ "> link queued"
    ∷ "= ok"
    ∷ "> hydrate /b"
    ∷ "- ask 1.1 fetch 2 0 10000"
    ∷ "- sent 5 fetch"
    ∷ "= pending 1.1"
    ∷ "> size 1.1 4096"
    ∷ "- change 1.3 size 2 4096"
    ∷ "= ok"
    ∷ "> size 1.1 10000"
    ∷ "- change 1.4 size 2 10000"
    ∷ "= ok"
    ∷ "> arrive 5"
    ∷ "- sent 6 reply 5"
    ∷ "= ok"
    ∷ "> deliver 6"
    ∷ "- change 1.5 fill 2 0 10000"
    ∷ "- done 1.1 hydrated"
    ∷ "= ok"
    ∷ "> read 1.1 4095 2"
    ∷ "= data 6100"
    ∷ []

-- A background wait has its lines also where it ends in the read that began it.
abbrev pub the_end_of_the_background_may_come_at_once : List String
the_end_of_the_background_may_come_at_once =
    "> policy progressive always-full"
    ∷ "= ok"
    ∷ "> peer put /a 61*9000"
    ∷ "= ok 2 1"
    ∷ "> sync"
    ∷ "- sent 1 feed"
    ∷ "- sent 2 reply 1"
    ∷ "- change 1.1 make 2 1 a pfile 9000 000000000000000200000000000000020000000000000001"
    ∷ "- change 1.2 mark 2 1.1"
    ∷ "- sent 3 feed"
    ∷ "- sent 4 reply 3"
    ∷ "= ok 0"
    ∷ "> open /a"
    ∷ "= ok 1.1"
    ∷ "> read 1.1 0 5"
    ∷ "- wait 1.2 background 2"
    ∷ "- ask 1.1 fetch 2 0 9000"
    ∷ "- sent 5 fetch"
    ∷ "- sent 6 reply 5"
    ∷ "- change 1.3 fill 2 0 9000"
    ∷ "- done 1.2 full"
    ∷ "= data 6161616161"
    ∷ []

-- A read by path begins no wait in the background.
abbrev pub a_read_by_path_leaves_the_rest : List String
a_read_by_path_leaves_the_rest =
    "> policy progressive always-full"
    ∷ "= ok"
    ∷ "> place /p 10000 aa"
    ∷ "- change 1.1 make 2 1 p pfile 10000 aa"
    ∷ "= ok 2"
    ∷ "> get /p 0 1"
    ∷ "- ask 1.1 fetch 2 0 4096"
    ∷ "= pending 1.1"
    ∷ []

-- Numbers of waits are drawn by calls that miss something, and by each dehydration that asks.
abbrev pub a_read_of_what_is_here_draws_no_number : List String
a_read_of_what_is_here_draws_no_number =
    "> place /p 5 aa insync"
    ∷ "- change 1.1 make 2 1 p pfile 5 aa"
    ∷ "- change 1.2 mark 2 1.1"
    ∷ "= ok 2"
    ∷ "> dehydrate /p"
    ∷ "= ok"
    ∷ "> get /p 9 1"
    ∷ "= data -"
    ∷ "> get /p 0 1"
    ∷ "- ask 1.1 fetch 2 0 5"
    ∷ "= pending 1.1"
    ∷ "> do transfer 1.1 0 6161616161"
    ∷ "- change 1.3 fill 2 0 5"
    ∷ "- done 1.1 data 61"
    ∷ "= ok"
    ∷ "> dehydrate /p"
    ∷ "- ask 1.2 dehydrate 2 0 5"
    ∷ "= pending 1.2"
    ∷ "> do ackdehydrate 1.2 ok"
    ∷ "- change 1.4 empty 2 0 5"
    ∷ "- done 1.2 ok"
    ∷ "= ok"
    ∷ "> get /p 0 1"
    ∷ "- ask 1.3 fetch 2 0 5"
    ∷ "= pending 1.3"
    ∷ []

-- A file that is kept full is brought whole by a read, and is not dehydrated.
abbrev pub a_file_may_be_kept_full : List String
a_file_may_be_kept_full =
    "> place /p 8192 aa"
    ∷ "- change 1.1 make 2 1 p pfile 8192 aa"
    ∷ "= ok 2"
    ∷ "> keep /p yes"
    ∷ "- change 1.2 keep 2 yes"
    ∷ "= ok"
    ∷ "> open /p"
    ∷ "= ok 1.1"
    ∷ "> read 1.1 0 1"
    ∷ "- ask 1.1 fetch 2 0 8192"
    ∷ "= pending 1.1"
    ∷ "> close 1.1"
    ∷ "- done 1.1 cancelled"
    ∷ "- cancel 1.1"
    ∷ "= ok"
    ∷ "> dehydrate /p"
    ∷ "= refused PolicyDenied"
    ∷ "> keep /p no"
    ∷ "- change 1.3 keep 2 no"
    ∷ "= ok"
    ∷ "> dehydrate /p"
    ∷ "= refused NotInSync"
    ∷ []

-- A read gives the version that the last sync saw, also after a peer has made another.
abbrev pub the_version_that_is_here_is_read : List String
the_version_that_is_here_is_read =
    "> peer put /a 61"
    ∷ "= ok 2 1"
    ∷ "> get /a 0 1"
    ∷ "= refused NotFound"
    ∷ "> sync"
    ∷ "- sent 1 feed"
    ∷ "- sent 2 reply 1"
    ∷ "- change 1.1 make 2 1 a pfile 1 000000000000000200000000000000020000000000000001"
    ∷ "- change 1.2 mark 2 1.1"
    ∷ "- sent 3 feed"
    ∷ "- sent 4 reply 3"
    ∷ "= ok 0"
    ∷ "> peer put /a 62"
    ∷ "= ok 2 2"
    ∷ "> get /a 0 1"
    ∷ "- ask 1.1 fetch 2 0 1"
    ∷ "- sent 5 fetch"
    ∷ "- sent 6 reply 5"
    ∷ "- change 1.3 fill 2 0 1"
    ∷ "= data 61"
    ∷ []
