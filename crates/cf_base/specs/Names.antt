-- Names of items.
use Rattle.std.specs.Prelude.{ℕ, ◌==◌, ◌&&◌, not, nat_lt, nat_le, Bool, List, length, codes}
use Rattle.std.specs.List.{list_all, list_any}
use Rattle.std.specs.Str.{bytes_eq, is_utf8}
use Rattle.cf_base.specs.declared.limits.TheConstants.{MOST_NAME_BYTES}

-- neither a control byte nor one of the marks that no name has
abbrev pub is_name_byte : ℕ → Bool
is_name_byte b = nat_le 32 b && not (b == 127) && not (list_any (λ m. m == b) (codes "/\\:*?\"<>|"))

-- one to 255 bytes of UTF-8, none of them a control byte or a mark, and neither one dot nor two
abbrev pub is_name : List ℕ → Bool
is_name name = nat_lt 0 (length name) && nat_le (length name) MOST_NAME_BYTES && list_all is_name_byte name && is_utf8 name && not (bytes_eq name (codes ".")) && not (bytes_eq name (codes ".."))
