-- Crashes, stops of the device, and restarts.
use Rattle.std.specs.Prelude.{List, [], ◌∷◌}
use Prim.Native.String.{String}

-- Handles and reads end with a crash, and the messages of the time before change nothing.
abbrev pub a_reply_to_a_read_before_the_crash_is_stale : List String
a_reply_to_a_read_before_the_crash_is_stale =
    "> peer put /a 68656c6c6f"
    ∷ "= ok 2 1"
    ∷ "> sync"
    ∷ "- sent 1 feed"
    ∷ "- sent 2 reply 1"
    ∷ "- change 1.1 make 2 1 a pfile 5 000000000000000200000000000000020000000000000001"
    ∷ "- change 1.2 mark 2 1.1"
    ∷ "- sent 3 feed"
    ∷ "- sent 4 reply 3"
    ∷ "= ok 0"
    ∷ "> flush"
    ∷ "= ok 2"
    ∷ "> open /a"
    ∷ "= ok 1.1"
    ∷ "> link queued"
    ∷ "= ok"
    ∷ "> read 1.1 0 5"
    ∷ "- ask 1.1 fetch 2 0 5"
    ∷ "- sent 5 fetch"
    ∷ "= pending 1.1"
    ∷ "> crash drop"
    ∷ "= ok"
    ∷ "> open /a"
    ∷ "= refused Off"
    ∷ "> restart"
    ∷ "= resumed 2"
    ∷ "> arrive 5"
    ∷ "- sent 6 reply 5"
    ∷ "= ok"
    ∷ "> deliver 6"
    ∷ "= refused Stale"
    ∷ "> open /a"
    ∷ "= ok 2.1"
    ∷ "> read 2.1 0 5"
    ∷ "- ask 2.1 fetch 2 0 5"
    ∷ "- sent 7 fetch"
    ∷ "= pending 2.1"
    ∷ []

-- What was written after the last flush is gone.
abbrev pub a_crash_takes_what_was_not_flushed : List String
a_crash_takes_what_was_not_flushed =
    "> create /n"
    ∷ "- change 1.1 make 2 1 n file 0 -"
    ∷ "= ok 2"
    ∷ "> open /n"
    ∷ "= ok 1.1"
    ∷ "> write 1.1 0 61"
    ∷ "- change 1.2 write 2 0 1"
    ∷ "= ok"
    ∷ "> flush"
    ∷ "= ok 2"
    ∷ "> write 1.1 0 62"
    ∷ "- change 1.3 write 2 0 1"
    ∷ "= ok"
    ∷ "> crash drop"
    ∷ "= ok"
    ∷ "> restart"
    ∷ "= resumed 2"
    ∷ "> get /n 0 5"
    ∷ "= data 61"
    ∷ []

-- Without a commit there is nothing to keep.
abbrev pub a_crash_that_keeps_written_bytes_takes_it_too : List String
a_crash_that_keeps_written_bytes_takes_it_too =
    "> create /n"
    ∷ "- change 1.1 make 2 1 n file 0 -"
    ∷ "= ok 2"
    ∷ "> open /n"
    ∷ "= ok 1.1"
    ∷ "> write 1.1 0 61"
    ∷ "- change 1.2 write 2 0 1"
    ∷ "= ok"
    ∷ "> flush"
    ∷ "= ok 2"
    ∷ "> write 1.1 0 62"
    ∷ "- change 1.3 write 2 0 1"
    ∷ "= ok"
    ∷ "> crash keep"
    ∷ "= ok"
    ∷ "> restart"
    ∷ "= resumed 2"
    ∷ "> get /n 0 5"
    ∷ "= data 61"
    ∷ []

-- Whatever is left of bytes that were not synced.
abbrev pub a_crash_that_mixes_bytes_takes_it_too : List String
a_crash_that_mixes_bytes_takes_it_too =
    "> create /n"
    ∷ "- change 1.1 make 2 1 n file 0 -"
    ∷ "= ok 2"
    ∷ "> open /n"
    ∷ "= ok 1.1"
    ∷ "> write 1.1 0 61"
    ∷ "- change 1.2 write 2 0 1"
    ∷ "= ok"
    ∷ "> flush"
    ∷ "= ok 2"
    ∷ "> write 1.1 0 62"
    ∷ "- change 1.3 write 2 0 1"
    ∷ "= ok"
    ∷ "> crash mix 7"
    ∷ "= ok"
    ∷ "> restart"
    ∷ "= resumed 2"
    ∷ "> get /n 0 5"
    ∷ "= data 61"
    ∷ []

-- A restart while the volume is on is refused.
abbrev pub a_running_volume_is_not_restarted : List String
a_running_volume_is_not_restarted =
    "> restart"
    ∷ "= refused Running"
    ∷ []

-- Between a crash and a restart what needs the volume is refused.
abbrev pub a_volume_without_power_answers_off : List String
a_volume_without_power_answers_off =
    "> crash drop"
    ∷ "= ok"
    ∷ "> flush"
    ∷ "= refused Off"
    ∷ "> restart"
    ∷ "= resumed 0"
    ∷ "> restart"
    ∷ "= refused Running"
    ∷ []

-- The clock and the accesses are durable with the next commit.
abbrev pub the_last_access_is_kept_with_a_flush : List String
the_last_access_is_kept_with_a_flush =
    "> peer put /a 68656c6c6f"
    ∷ "= ok 2 1"
    ∷ "> sync"
    ∷ "- sent 1 feed"
    ∷ "- sent 2 reply 1"
    ∷ "- change 1.1 make 2 1 a pfile 5 000000000000000200000000000000020000000000000001"
    ∷ "- change 1.2 mark 2 1.1"
    ∷ "- sent 3 feed"
    ∷ "- sent 4 reply 3"
    ∷ "= ok 0"
    ∷ "> open /a"
    ∷ "= ok 1.1"
    ∷ "> read 1.1 0 5"
    ∷ "- ask 1.1 fetch 2 0 5"
    ∷ "- sent 5 fetch"
    ∷ "- sent 6 reply 5"
    ∷ "- change 1.3 fill 2 0 5"
    ∷ "= data 68656c6c6f"
    ∷ "> used /a"
    ∷ "= used 0"
    ∷ "> tick 7"
    ∷ "= ok"
    ∷ "> read 1.1 0 5"
    ∷ "= data 68656c6c6f"
    ∷ "> used /a"
    ∷ "= used 7"
    ∷ "> flush"
    ∷ "= ok 3"
    ∷ "> tick 2"
    ∷ "= ok"
    ∷ "> crash drop"
    ∷ "= ok"
    ∷ "> restart"
    ∷ "= resumed 3"
    ∷ "> used /a"
    ∷ "= used 7"
    ∷ []
