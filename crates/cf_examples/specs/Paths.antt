-- Names, paths and directories.
use Rattle.std.specs.Prelude.{ℕ, List, [], ◌∷◌, ◌++◌, codes}
use Prim.Native.String.{String}

-- What is not there is not found, and a colon is in no name.
abbrev pub names_are_judged : List String
names_are_judged =
    "> open /none"
    ∷ "= refused NotFound"
    ∷ "> create /a:b"
    ∷ "= refused BadPath"
    ∷ []

-- What is below an unpopulated directory is not populated yet, and the policy stays.
abbrev pub an_unpopulated_directory_is_not_looked_into : List String
an_unpopulated_directory_is_not_looked_into =
    "> policy partial full"
    ∷ "= ok"
    ∷ "> placedir /d aa"
    ∷ "- change 1.1 make 2 1 d udir 0 aa"
    ∷ "= ok 2"
    ∷ "> get /d/x 0 1"
    ∷ "= refused NotPopulated"
    ∷ "> policy partial always-full"
    ∷ "= refused NotPopulated"
    ∷ []

-- A directory that the engine made is populated when it is listed.
abbrev pub a_listing_brings_the_entries : List String
a_listing_brings_the_entries =
    "> policy partial full"
    ∷ "= ok"
    ∷ "> peer mkdir /d"
    ∷ "= ok 2 0"
    ∷ "> peer put /d/f 61"
    ∷ "= ok 3 1"
    ∷ "> sync"
    ∷ "- sent 1 feed"
    ∷ "- sent 2 reply 1"
    ∷ "- change 1.1 make 2 1 d udir 0 000000000000000200000000000000000000000000000000"
    ∷ "- change 1.2 mark 2 1.1"
    ∷ "- sent 3 feed"
    ∷ "- sent 4 reply 3"
    ∷ "= ok 0"
    ∷ "> get /d/f 0 1"
    ∷ "= refused NotPopulated"
    ∷ "> list /d"
    ∷ "- ask 1.1 list 2"
    ∷ "- sent 5 list"
    ∷ "- sent 6 reply 5"
    ∷ "- change 1.3 make 3 2 f pfile 1 000000000000000300000000000000030000000000000001"
    ∷ "- change 1.4 mark 3 1.3"
    ∷ "- change 1.5 populate 2"
    ∷ "= list f:f"
    ∷ []

-- Directories are listed, emptied and removed.
abbrev pub a_directory_with_a_child_stays : List String
a_directory_with_a_child_stays =
    "> mkdir /d"
    ∷ "- change 1.1 make 2 1 d dir 0 -"
    ∷ "= ok 2"
    ∷ "> create /d/f"
    ∷ "- change 1.2 make 3 2 f file 0 -"
    ∷ "= ok 3"
    ∷ "> list /d"
    ∷ "= list f:f"
    ∷ "> delete /d"
    ∷ "= refused NotEmpty"
    ∷ "> rename /d/f /g"
    ∷ "- change 1.3 move 3 1 g"
    ∷ "= ok"
    ∷ "> delete /d"
    ∷ "- change 1.4 remove 2"
    ∷ "= ok"
    ∷ "> list /"
    ∷ "= list g:f"
    ∷ []

-- The root is no file and cannot be made, and there is no empty name.
abbrev pub the_root_is_no_file : List String
the_root_is_no_file =
    "> get / 0 1"
    ∷ "= refused IsDirectory"
    ∷ "> create /"
    ∷ "= refused BadPath"
    ∷ "> open /a//b"
    ∷ "= refused BadPath"
    ∷ []

-- A path of 33 names is too deep.
abbrev pub a_path_has_32_names_at_most : List String
a_path_has_32_names_at_most =
    "> open /a/a/a/a/a/a/a/a/a/a/a/a/a/a/a/a/a/a/a/a/a/a/a/a/a/a/a/a/a/a/a/a/a"
    ∷ "= refused TooDeep"
    ∷ []

-- A file that is renamed to its own path stays.
abbrev pub a_rename_to_the_same_path_changes_nothing : List String
a_rename_to_the_same_path_changes_nothing =
    "> create /g"
    ∷ "- change 1.1 make 2 1 g file 0 -"
    ∷ "= ok 2"
    ∷ "> rename /g /g"
    ∷ "= ok"
    ∷ []

-- Both paths of a rename are looked up, the first one whole before the second.
abbrev pub the_first_path_is_looked_up_first : List String
the_first_path_is_looked_up_first =
    "> rename /none /a:b"
    ∷ "= refused NotFound"
    ∷ "> rename /a:b /x/y"
    ∷ "= refused BadPath"
    ∷ "> peer move /none /a:b"
    ∷ "= refused NotFound"
    ∷ []

-- A line that begins with a mark of a comment may have any byte.
abbrev pub a_comment_is_not_judged : List (List ℕ)
a_comment_is_not_judged =
    (codes "> # " ++ 255 ∷ [])
    ∷ codes "> flush"
    ∷ codes "= ok 0"
    ∷ []
