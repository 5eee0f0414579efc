-- Room that is made by dehydration.
use Rattle.std.specs.Prelude.{ℕ, List, [], ◌∷◌, ◌++◌, codes}
use Prim.Native.String.{String}
use Rattle.cf_examples.specs.Transcripts.{times}

-- Files are dehydrated in the order of their last access, until few enough blocks are used.
abbrev pub space_takes_the_least_recently_read_first : List (List ℕ)
space_takes_the_least_recently_read_first =
    codes "> policy partial always-full auto"
    ∷ codes "= ok"
    ∷ codes "> peer put /a 61"
    ∷ codes "= ok 2 1"
    ∷ codes "> peer put /b 62*8192"
    ∷ codes "= ok 3 1"
    ∷ codes "> sync"
    ∷ codes "- sent 1 feed"
    ∷ codes "- sent 2 reply 1"
    ∷ codes "- change 1.1 make 2 1 a pfile 1 000000000000000200000000000000020000000000000001"
    ∷ codes "- change 1.2 mark 2 1.1"
    ∷ codes "- change 1.3 make 3 1 b pfile 8192 000000000000000300000000000000030000000000000001"
    ∷ codes "- change 1.4 mark 3 1.3"
    ∷ codes "- sent 3 feed"
    ∷ codes "- sent 4 reply 3"
    ∷ codes "= ok 0"
    ∷ codes "> get /a 0 1"
    ∷ codes "- ask 1.1 fetch 2 0 1"
    ∷ codes "- sent 5 fetch"
    ∷ codes "- sent 6 reply 5"
    ∷ codes "- change 1.5 fill 2 0 1"
    ∷ codes "= data 61"
    ∷ codes "> tick 1"
    ∷ codes "= ok"
    ∷ codes "> get /b 0 8192"
    ∷ codes "- ask 1.2 fetch 3 0 8192"
    ∷ codes "- sent 7 fetch"
    ∷ codes "- sent 8 reply 7"
    ∷ codes "- change 1.6 fill 3 0 8192"
    ∷ (codes "= data " ++ times 8192 (codes "62"))
    ∷ codes "> df"
    ∷ codes "= blocks 3 15616"
    ∷ codes "> space 2"
    ∷ codes "- ask 1.3 dehydrate 2 0 1"
    ∷ codes "- change 1.7 empty 2 0 1"
    ∷ codes "= freed 1"
    ∷ codes "> space 2"
    ∷ codes "= freed 0"
    ∷ codes "> space 0"
    ∷ codes "- ask 1.4 dehydrate 3 0 8192"
    ∷ codes "- change 1.8 empty 3 0 8192"
    ∷ codes "= freed 2"
    ∷ []

-- A pinned file is not dehydrated for room.
abbrev pub space_leaves_a_pinned_file : List (List ℕ)
space_leaves_a_pinned_file =
    codes "> policy partial always-full auto"
    ∷ codes "= ok"
    ∷ codes "> peer put /a 61"
    ∷ codes "= ok 2 1"
    ∷ codes "> peer put /b 62*8192"
    ∷ codes "= ok 3 1"
    ∷ codes "> sync"
    ∷ codes "- sent 1 feed"
    ∷ codes "- sent 2 reply 1"
    ∷ codes "- change 1.1 make 2 1 a pfile 1 000000000000000200000000000000020000000000000001"
    ∷ codes "- change 1.2 mark 2 1.1"
    ∷ codes "- change 1.3 make 3 1 b pfile 8192 000000000000000300000000000000030000000000000001"
    ∷ codes "- change 1.4 mark 3 1.3"
    ∷ codes "- sent 3 feed"
    ∷ codes "- sent 4 reply 3"
    ∷ codes "= ok 0"
    ∷ codes "> get /a 0 1"
    ∷ codes "- ask 1.1 fetch 2 0 1"
    ∷ codes "- sent 5 fetch"
    ∷ codes "- sent 6 reply 5"
    ∷ codes "- change 1.5 fill 2 0 1"
    ∷ codes "= data 61"
    ∷ codes "> tick 1"
    ∷ codes "= ok"
    ∷ codes "> get /b 0 8192"
    ∷ codes "- ask 1.2 fetch 3 0 8192"
    ∷ codes "- sent 7 fetch"
    ∷ codes "- sent 8 reply 7"
    ∷ codes "- change 1.6 fill 3 0 8192"
    ∷ (codes "= data " ++ times 8192 (codes "62"))
    ∷ codes "> df"
    ∷ codes "= blocks 3 15616"
    ∷ codes "> pin /b pinned"
    ∷ codes "- change 1.7 pin 3 pinned"
    ∷ codes "= ok"
    ∷ codes "> space 0"
    ∷ codes "- ask 1.3 dehydrate 2 0 1"
    ∷ codes "- change 1.8 empty 2 0 1"
    ∷ codes "= freed 1"
    ∷ []

-- Without its modifier no file is dehydrated for room.
abbrev pub space_needs_its_policy : List String
space_needs_its_policy =
    "> space 0"
    ∷ "= refused PolicyDenied"
    ∷ []

-- A transfer begins and ends at blocks or at the end of the file, and brings blocks of a live ask only.
abbrev pub a_transfer_brings_whole_blocks_of_its_ask : List (List ℕ)
a_transfer_brings_whole_blocks_of_its_ask =
    codes "> place /p 4100 -"
    ∷ codes "- change 1.1 make 2 1 p pfile 4100 -"
    ∷ codes "= ok 2"
    ∷ codes "> open /p"
    ∷ codes "= ok 1.1"
    ∷ codes "> read 1.1 0 4100"
    ∷ codes "- ask 1.1 fetch 2 0 4100"
    ∷ codes "= pending 1.1"
    ∷ codes "> do transfer 1.1 1 61*4096"
    ∷ codes "= refused Misaligned"
    ∷ codes "> do transfer 1.1 0 61*4096"
    ∷ codes "- change 1.2 fill 2 0 4096"
    ∷ codes "= ok"
    ∷ codes "> do transfer 1.1 0 61*4096"
    ∷ codes "= refused OutsideAsk"
    ∷ codes "> do transfer 1.1 4096 62*4"
    ∷ codes "- change 1.3 fill 2 4096 4"
    ∷ (codes "- done 1.1 data " ++ times 4096 (codes "61") ++ times 4 (codes "62"))
    ∷ codes "= ok"
    ∷ codes "> do transfer 1.1 4096 62*4"
    ∷ codes "= refused StaleKey"
    ∷ []
