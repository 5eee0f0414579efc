-- Remotes that fail or break their rules, and versions that are gone.
use Rattle.std.specs.Prelude.{List, [], ◌∷◌}
use Prim.Native.String.{String}

-- A version that the remote no longer holds ends its read, and the next sync brings the latest.
abbrev pub a_version_may_be_gone : List String
a_version_may_be_gone =
    "> peer put /a 6161"
    ∷ "= ok 2 1"
    ∷ "> sync"
    ∷ "- sent 1 feed"
    ∷ "- sent 2 reply 1"
    ∷ "- change 1.1 make 2 1 a pfile 2 000000000000000200000000000000020000000000000001"
    ∷ "- change 1.2 mark 2 1.1"
    ∷ "- sent 3 feed"
    ∷ "- sent 4 reply 3"
    ∷ "= ok 0"
    ∷ "> peer put /a 6262"
    ∷ "= ok 2 2"
    ∷ "> peer keep 1"
    ∷ "= ok 1 0"
    ∷ "> get /a 0 2"
    ∷ "- ask 1.1 fetch 2 0 2"
    ∷ "- sent 5 fetch"
    ∷ "- sent 6 reply 5"
    ∷ "= failed 45"
    ∷ "> sync"
    ∷ "- sent 7 feed"
    ∷ "- sent 8 reply 7"
    ∷ "- change 1.3 take 2 000000000000000200000000000000020000000000000002 2"
    ∷ "- change 1.4 mark 2 1.3"
    ∷ "- sent 9 feed"
    ∷ "- sent 10 reply 9"
    ∷ "= ok 0"
    ∷ "> get /a 0 2"
    ∷ "- ask 1.2 fetch 2 0 2"
    ∷ "- sent 11 fetch"
    ∷ "- sent 12 reply 11"
    ∷ "- change 1.5 fill 2 0 2"
    ∷ "= data 6262"
    ∷ []

-- A read of bytes that are here does not ask the remote.
abbrev pub bytes_that_are_here_need_no_version : List String
bytes_that_are_here_need_no_version =
    "> peer put /a 6161"
    ∷ "= ok 2 1"
    ∷ "> sync"
    ∷ "- sent 1 feed"
    ∷ "- sent 2 reply 1"
    ∷ "- change 1.1 make 2 1 a pfile 2 000000000000000200000000000000020000000000000001"
    ∷ "- change 1.2 mark 2 1.1"
    ∷ "- sent 3 feed"
    ∷ "- sent 4 reply 3"
    ∷ "= ok 0"
    ∷ "> get /a 0 2"
    ∷ "- ask 1.1 fetch 2 0 2"
    ∷ "- sent 5 fetch"
    ∷ "- sent 6 reply 5"
    ∷ "- change 1.3 fill 2 0 2"
    ∷ "= data 6161"
    ∷ "> peer put /a 6262"
    ∷ "= ok 2 2"
    ∷ "> peer keep 1"
    ∷ "= ok 1 0"
    ∷ "> get /a 0 2"
    ∷ "= data 6161"
    ∷ []

-- What became of an upload is told also where the remote holds one version only.
abbrev pub an_upload_is_settled_where_few_versions_are_kept : List String
an_upload_is_settled_where_few_versions_are_kept =
    "> peer keep 1"
    ∷ "= ok 1 0"
    ∷ "> create /n"
    ∷ "- change 1.1 make 2 1 n file 0 -"
    ∷ "= ok 2"
    ∷ "> open /n"
    ∷ "= ok 1.1"
    ∷ "> write 1.1 0 6161"
    ∷ "- change 1.2 write 2 0 2"
    ∷ "= ok"
    ∷ "> link queued"
    ∷ "= ok"
    ∷ "> work"
    ∷ "- sent 1 feed"
    ∷ "- change 1.3 convert 2 000000000000000000000000000000000000000000000000"
    ∷ "- sent 2 put"
    ∷ "= ok"
    ∷ "> arrive 2"
    ∷ "- sent 3 reply 2"
    ∷ "= ok"
    ∷ "> crash drop"
    ∷ "= ok"
    ∷ "> restart"
    ∷ "= resumed 3"
    ∷ "> work"
    ∷ "- sent 4 settle"
    ∷ "- sent 5 feed"
    ∷ "= ok"
    ∷ "> arrive 4"
    ∷ "- sent 6 reply 4"
    ∷ "= ok"
    ∷ "> deliver 6"
    ∷ "- change 2.1 rebase 2 000000000000000200000000000000020000000000000001 2 1.3"
    ∷ "- change 2.2 mark 2 1.3"
    ∷ "= ok"
    ∷ "> arrive 2"
    ∷ "- sent 7 reply 2"
    ∷ "= ok"
    ∷ "> peer stat /n"
    ∷ "= ok 2 1"
    ∷ []

-- A request on which the remote failed is kept, and is handed over later.
abbrev pub a_fault_leaves_the_read_pending : List String
a_fault_leaves_the_read_pending =
    "> peer put /a 68656c6c6f"
    ∷ "= ok 2 1"
    ∷ "> sync"
    ∷ "- sent 1 feed"
    ∷ "- sent 2 reply 1"
    ∷ "- change 1.1 make 2 1 a pfile 5 000000000000000200000000000000020000000000000001"
    ∷ "- change 1.2 mark 2 1.1"
    ∷ "- sent 3 feed"
    ∷ "- sent 4 reply 3"
    ∷ "= ok 0"
    ∷ "> open /a"
    ∷ "= ok 1.1"
    ∷ "> read 1.1 0 5"
    ∷ "- ask 1.1 fetch 2 0 5"
    ∷ "- sent 5 fetch"
    ∷ "- fault 5"
    ∷ "= pending 1.1"
    ∷ "> arrive 5"
    ∷ "- sent 6 reply 5"
    ∷ "= ok"
    ∷ "> deliver 6"
    ∷ "- change 1.3 fill 2 0 5"
    ∷ "- done 1.1 data 68656c6c6f"
    ∷ "= ok"
    ∷ []

-- Where the remote fails at every request a sync makes no change.
abbrev pub a_remote_that_always_fails_changes_nothing : List String
a_remote_that_always_fails_changes_nothing =
    "> peer put /a 61"
    ∷ "= refused RemoteFault"
    ∷ "> sync"
    ∷ "- sent 1 feed"
    ∷ "- fault 1"
    ∷ "= ok 0"
    ∷ []

-- A reply that does not fit its request has no effect.
abbrev pub a_reply_with_a_byte_too_few_is_stale : List String
a_reply_with_a_byte_too_few_is_stale =
    "> peer put /a 68656c6c6f"
    ∷ "= ok 2 1"
    ∷ "> sync"
    ∷ "- sent 1 feed"
    ∷ "- sent 2 reply 1"
    ∷ "- change 1.1 make 2 1 a pfile 5 000000000000000200000000000000020000000000000001"
    ∷ "- change 1.2 mark 2 1.1"
    ∷ "- sent 3 feed"
    ∷ "- sent 4 reply 3"
    ∷ "= ok 0"
    ∷ "> open /a"
    ∷ "= ok 1.1"
    ∷ "> read 1.1 0 5"
    ∷ "- ask 1.1 fetch 2 0 5"
    ∷ "- sent 5 fetch"
    ∷ "- sent 6 reply 5"
    ∷ "= pending 1.1"
    ∷ "> deliver 6"
    ∷ "= refused Stale"
    ∷ []

-- A peer event lists every directory on its way, and a fault at one of them ends it.
abbrev pub a_peer_lists_each_directory : List String
a_peer_lists_each_directory =
    "> peer mkdir /a"
    ∷ "= ok 2 0"
    ∷ "> peer mkdir /a/b"
    ∷ "= refused RemoteFault"
    ∷ "> peer mkdir /a/b"
    ∷ "= ok 3 0"
    ∷ "> peer stat /"
    ∷ "= ok 1 0"
    ∷ []
