-- The names of a path that are left, and which texts are names.
use Rattle.std.specs.Prelude.{ℕ, Bool, List, [], length, codes, nat_le, nat_lt, not, Option, Some, None, ◌&&◌, ◌++◌}
use Rattle.std.specs.Fmt.{decimal}
use Rattle.std.specs.List.{list_all}
use Rattle.std.specs.Str.{bytes_eq}
use Rattle.cf_base.specs.Names.{is_name_byte}
use Rattle.cf_model.specs.Words.{split_at}

abbrev pub names_in : Option (List ℕ) → List (List ℕ)
names_in None = []
names_in (Some text) = split_at 47 text

-- what a text of UTF-8 needs to be a name
abbrev pub is_name_of_text : List ℕ → Bool
is_name_of_text text = nat_lt 0 (length text) && nat_le (length text) 255 && list_all is_name_byte text && not (bytes_eq text (codes ".")) && not (bytes_eq text (codes ".."))

-- what marks the conflict name of a number
abbrev pub mark_of : ℕ → List ℕ
mark_of n = codes " (conflict " ++ decimal n ++ codes ")"
