-- Placeholders, pins, policies and names.
use Rattle.std.specs.Prelude.{List, [], ◌∷◌}
use Prim.Native.String.{String}

-- A mark with another number is refused with the right one; 0.0 stands for any.
abbrev pub a_mark_names_the_number_of_the_item : List String
a_mark_names_the_number_of_the_item =
    "> place /p 5 aa"
    ∷ "- change 1.1 make 2 1 p pfile 5 aa"
    ∷ "= ok 2"
    ∷ "> mark /p 1.9"
    ∷ "= refused UsnMismatch 1.1"
    ∷ "> mark /p 0.0"
    ∷ "- change 1.2 mark 2 1.1"
    ∷ "= ok 1.1"
    ∷ []

-- A file in sync is not marked again, and a wrong number is refused all the same.
abbrev pub a_mark_of_a_marked_file_changes_nothing : List String
a_mark_of_a_marked_file_changes_nothing =
    "> place /p 5 aa insync"
    ∷ "- change 1.1 make 2 1 p pfile 5 aa"
    ∷ "- change 1.2 mark 2 1.1"
    ∷ "= ok 2"
    ∷ "> mark /p 0.0"
    ∷ "= ok 1.1"
    ∷ "> mark /p 1.1"
    ∷ "= ok 1.1"
    ∷ "> mark /p 1.2"
    ∷ "= refused UsnMismatch 1.1"
    ∷ "> flush"
    ∷ "= ok 2"
    ∷ []

-- An update without a size changes the identity only, and one with a size takes another version.
abbrev pub an_update_to_the_same_identity_changes_nothing : List String
an_update_to_the_same_identity_changes_nothing =
    "> place /p 5 aa insync"
    ∷ "- change 1.1 make 2 1 p pfile 5 aa"
    ∷ "- change 1.2 mark 2 1.1"
    ∷ "= ok 2"
    ∷ "> update /p aa"
    ∷ "= ok 1.1"
    ∷ "> update /p bb"
    ∷ "- change 1.3 rebase 2 bb 5 0.0"
    ∷ "= ok 1.1"
    ∷ "> update /p bb 5"
    ∷ "- change 1.4 take 2 bb 5"
    ∷ "= ok 1.4"
    ∷ "> flush"
    ∷ "= ok 4"
    ∷ []

-- A pinned file and one in use are not dehydrated; else the agent consents, and the blocks are free.
abbrev pub dehydration_asks_for_consent : List String
dehydration_asks_for_consent =
    "> peer put /a 68656c6c6f"
    ∷ "= ok 2 1"
    ∷ "> sync"
    ∷ "- sent 1 feed"
    ∷ "- sent 2 reply 1"
    ∷ "- change 1.1 make 2 1 a pfile 5 000000000000000200000000000000020000000000000001"
    ∷ "- change 1.2 mark 2 1.1"
    ∷ "- sent 3 feed"
    ∷ "- sent 4 reply 3"
    ∷ "= ok 0"
    ∷ "> open /a"
    ∷ "= ok 1.1"
    ∷ "> read 1.1 0 5"
    ∷ "- ask 1.1 fetch 2 0 5"
    ∷ "- sent 5 fetch"
    ∷ "- sent 6 reply 5"
    ∷ "- change 1.3 fill 2 0 5"
    ∷ "= data 68656c6c6f"
    ∷ "> pin /a pinned"
    ∷ "- change 1.4 pin 2 pinned"
    ∷ "= ok"
    ∷ "> dehydrate /a"
    ∷ "= refused Pinned"
    ∷ "> pin /a unspecified"
    ∷ "- change 1.5 pin 2 unspecified"
    ∷ "= ok"
    ∷ "> dehydrate /a"
    ∷ "= refused InUse"
    ∷ "> close 1.1"
    ∷ "= ok"
    ∷ "> df"
    ∷ "= blocks 1 15616"
    ∷ "> dehydrate /a"
    ∷ "- ask 1.2 dehydrate 2 0 5"
    ∷ "- change 1.6 empty 2 0 5"
    ∷ "= ok"
    ∷ "> df"
    ∷ "= blocks 0 15616"
    ∷ "> dehydrate /a 1 4"
    ∷ "= refused BadRange"
    ∷ []

-- A file is converted once; one with a missing byte is not reverted; an update keeps the base length.
abbrev pub a_file_becomes_a_placeholder_once : List String
a_file_becomes_a_placeholder_once =
    "> create /n"
    ∷ "- change 1.1 make 2 1 n file 0 -"
    ∷ "= ok 2"
    ∷ "> convert /n aa"
    ∷ "- change 1.2 convert 2 aa"
    ∷ "= ok 1.2"
    ∷ "> convert /n aa"
    ∷ "= refused AlreadyPlaceholder"
    ∷ "> place /r 1 aa"
    ∷ "- change 1.3 make 3 1 r pfile 1 aa"
    ∷ "= ok 3"
    ∷ "> revert /r"
    ∷ "= refused NotHydrated"
    ∷ "> update /r bb"
    ∷ "- change 1.4 rebase 3 bb 1 0.0"
    ∷ "= ok 1.3"
    ∷ []

-- After a revert every byte is modified, and what was valid stays so.
abbrev pub a_revert_keeps_what_was_validated : List String
a_revert_keeps_what_was_validated =
    "> policy partial always-full validate"
    ∷ "= ok"
    ∷ "> place /v 5 aa"
    ∷ "- change 1.1 make 2 1 v pfile 5 aa"
    ∷ "= ok 2"
    ∷ "> plan transfer self 0 68656c6c6f"
    ∷ "= ok"
    ∷ "> get /v 0 5"
    ∷ "- ask 1.1 fetch 2 0 5"
    ∷ "- change 1.2 fill 2 0 5"
    ∷ "- ask 1.2 validate 2 0 5"
    ∷ "- op ok"
    ∷ "= pending 1.1"
    ∷ "> do ack 1.2 0 5 ok"
    ∷ "- change 1.3 valid 2 0 5"
    ∷ "- done 1.1 data 68656c6c6f"
    ∷ "= ok"
    ∷ "> revert /v"
    ∷ "- change 1.4 revert 2"
    ∷ "= ok 1.4"
    ∷ "> ranges /v validated"
    ∷ "= ranges 0+5"
    ∷ "> ranges /v modified"
    ∷ "= ranges 0+5"
    ∷ []

-- A pin reaches what is below, and a move takes the pin of the new parent; no directory comes under itself.
abbrev pub a_move_takes_the_pin_of_its_directory : List String
a_move_takes_the_pin_of_its_directory =
    "> mkdir /d"
    ∷ "- change 1.1 make 2 1 d dir 0 -"
    ∷ "= ok 2"
    ∷ "> create /d/f"
    ∷ "- change 1.2 make 3 2 f file 0 -"
    ∷ "= ok 3"
    ∷ "> pin /d pinned recurse"
    ∷ "- change 1.3 pin 2 pinned"
    ∷ "- change 1.4 pin 3 pinned"
    ∷ "= ok"
    ∷ "> rename /d/f /f"
    ∷ "- change 1.5 move 3 1 f"
    ∷ "= ok"
    ∷ "> info /f"
    ∷ "= info 3 file 0 unspecified notinsync 1.5 -"
    ∷ "> rename /d /d/x"
    ∷ "= refused IntoItself"
    ∷ []

-- Each item takes the state that its own parent has at that step.
abbrev pub pins_are_inherited_item_by_item : List String
pins_are_inherited_item_by_item =
    "> mkdir /d"
    ∷ "- change 1.1 make 2 1 d dir 0 -"
    ∷ "= ok 2"
    ∷ "> create /d/f"
    ∷ "- change 1.2 make 3 2 f file 0 -"
    ∷ "= ok 3"
    ∷ "> pin / pinned"
    ∷ "- change 1.3 pin 1 pinned"
    ∷ "= ok"
    ∷ "> pin /d unpinned"
    ∷ "- change 1.4 pin 2 unpinned"
    ∷ "= ok"
    ∷ "> pin /d/f pinned"
    ∷ "- change 1.5 pin 3 pinned"
    ∷ "= ok"
    ∷ "> pin /d inherit recurse-only"
    ∷ "- change 1.6 pin 3 unpinned"
    ∷ "= ok"
    ∷ "> pin /d inherit recurse"
    ∷ "- change 1.7 pin 2 pinned"
    ∷ "- change 1.8 pin 3 pinned"
    ∷ "= ok"
    ∷ "> pin / inherit recurse"
    ∷ "- change 1.9 pin 1 unspecified"
    ∷ "- change 1.10 pin 2 unspecified"
    ∷ "- change 1.11 pin 3 unspecified"
    ∷ "= ok"
    ∷ []

-- The engine has no policy that keeps every file full.
abbrev pub a_sync_engine_keeps_no_file_full_for_a_user : List String
a_sync_engine_keeps_no_file_full_for_a_user =
    "> policy always-full always-full"
    ∷ "= refused BadPolicy"
    ∷ []

-- A write of no bytes makes no file larger.
abbrev pub no_bytes_may_be_written_anywhere : List String
no_bytes_may_be_written_anywhere =
    "> create /n"
    ∷ "- change 1.1 make 2 1 n file 0 -"
    ∷ "= ok 2"
    ∷ "> open /n"
    ∷ "= ok 1.1"
    ∷ "> write 1.1 4294967295 -"
    ∷ "= ok"
    ∷ "> write 1.1 16777216 61"
    ∷ "= refused TooLarge"
    ∷ []

-- The clock of the last access is that of a read or a size, also where these change nothing.
abbrev pub a_read_and_a_size_are_accesses : List String
a_read_and_a_size_are_accesses =
    "> place /p 5 aa"
    ∷ "- change 1.1 make 2 1 p pfile 5 aa"
    ∷ "= ok 2"
    ∷ "> open /p"
    ∷ "= ok 1.1"
    ∷ "> tick 3"
    ∷ "= ok"
    ∷ "> size 1.1 5"
    ∷ "= ok"
    ∷ "> used /p"
    ∷ "= used 3"
    ∷ "> tick 1"
    ∷ "= ok"
    ∷ "> read 1.1 9 0"
    ∷ "= data -"
    ∷ "> used /p"
    ∷ "= used 4"
    ∷ []
