-- The words of a change.
use Rattle.std.specs.Prelude.{ℕ, Bool, List, [], ◌∷◌, length, cond, codes}
use Rattle.cf_base.specs.declared.changes.Change.{Change}
use Rattle.cf_base.specs.declared.changes.Change.TheVariants as change
use Rattle.cf_base.specs.declared.items.Kind.{Kind}
use Rattle.cf_base.specs.declared.items.Kind.TheVariants.{File, Dir, PlaceholderFile, PlaceholderDir, UnpopulatedDir}
use Rattle.cf_base.specs.declared.items.Pin.{Pin}
use Rattle.cf_base.specs.declared.items.Pin.TheVariants.{Unspecified, Pinned, Unpinned, Excluded, Inherit}
use Rattle.cf_report.specs.Words.{bytes_text, decimal, name_text, usn_text}

abbrev pub kind_word : Kind → List ℕ
kind_word File = codes "file"
kind_word Dir = codes "dir"
kind_word PlaceholderFile = codes "pfile"
kind_word PlaceholderDir = codes "pdir"
kind_word UnpopulatedDir = codes "udir"

abbrev pub pin_word : Pin → List ℕ
pin_word Unspecified = codes "unspecified"
pin_word Pinned = codes "pinned"
pin_word Unpinned = codes "unpinned"
pin_word Excluded = codes "excluded"
pin_word Inherit = codes "inherit"

abbrev pub keep_word : Bool → List ℕ
keep_word on = cond on (codes "yes") (codes "no")

-- a change as its kind and its fields; of bytes that come with it only their number
abbrev pub change_words : Change → List (List ℕ)
change_words (change.Make item parent n kind size identity) = codes "make" ∷ decimal item.0 ∷ decimal parent.0 ∷ name_text n ∷ kind_word kind ∷ decimal size ∷ bytes_text identity ∷ []
change_words (change.Remove item) = codes "remove" ∷ decimal item.0 ∷ []
change_words (change.Move item parent n) = codes "move" ∷ decimal item.0 ∷ decimal parent.0 ∷ name_text n ∷ []
change_words (change.Write item at news) = codes "write" ∷ decimal item.0 ∷ decimal at ∷ decimal (length news) ∷ []
change_words (change.Size item size) = codes "size" ∷ decimal item.0 ∷ decimal size ∷ []
change_words (change.Filled item start news) = codes "fill" ∷ decimal item.0 ∷ decimal start ∷ decimal (length news) ∷ []
change_words (change.Validated item start len) = codes "valid" ∷ decimal item.0 ∷ decimal start ∷ decimal len ∷ []
change_words (change.Emptied item start len) = codes "empty" ∷ decimal item.0 ∷ decimal start ∷ decimal len ∷ []
change_words (change.SetPin item pin) = codes "pin" ∷ decimal item.0 ∷ pin_word pin ∷ []
change_words (change.Mark item number) = codes "mark" ∷ decimal item.0 ∷ usn_text number ∷ []
change_words (change.Clear item) = codes "clear" ∷ decimal item.0 ∷ []
change_words (change.Convert item identity) = codes "convert" ∷ decimal item.0 ∷ bytes_text identity ∷ []
change_words (change.Revert item) = codes "revert" ∷ decimal item.0 ∷ []
change_words (change.Rebase item identity len at) = codes "rebase" ∷ decimal item.0 ∷ bytes_text identity ∷ decimal len ∷ usn_text at ∷ []
change_words (change.Take item identity size) = codes "take" ∷ decimal item.0 ∷ bytes_text identity ∷ decimal size ∷ []
change_words (change.Copy item from parent n) = codes "copy" ∷ decimal item.0 ∷ decimal from.0 ∷ decimal parent.0 ∷ name_text n ∷ []
change_words (change.Populated item) = codes "populate" ∷ decimal item.0 ∷ []
change_words (change.Keep item on) = codes "keep" ∷ decimal item.0 ∷ keep_word on ∷ []
