-- Rows as format 1 spells them. It knows no file that is kept full and no last access: flag 128 is never set, and nothing
-- stands behind the anchor.
use Rattle.std.specs.Prelude.{ℕ, false, List, unwrap_or, ◌≡◌, ◌∷◌, ◌++◌}
use Rattle.cf_model.specs.Books.{usn_bytes}
use Rattle.cf_model.specs.Rows.{Row, flags_of, pin_byte, spell_sets, spell_texts}
use Rattle.cf_model.specs.Words.{in_bytes}

-- what format 1 can say of a row
abbrev pub IsFirstRow : Row → Type 0
IsFirstRow r = (r.keep ≡ false) × (r.last ≡ 0)

abbrev pub spell_head : Row → List ℕ
spell_head r =
    in_bytes 8 r.id.0 ++ in_bytes 8 r.parent.0 ++ in_bytes 2 (flags_of r) ++ pin_byte r.pin ∷ in_bytes 4 r.size ++ in_bytes 4 (unwrap_or r.base 0)
    ++ usn_bytes r.number ++ usn_bytes r.anchor

abbrev pub spell_row : Row → List ℕ
spell_row r = spell_head r ++ spell_texts r ++ spell_sets r
