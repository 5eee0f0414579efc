-- The first line of a text.
use Rattle.std.specs.Prelude.{◌≡◌, List, ◌∷◌, ◌++◌, ℕ}
use Rattle.cf_check_model.specs.Reports.{lines_of}

-- the text is the line and the rest, and so are its lines
pub record IsFirstLine (text line after : List ℕ) : Type 0 where
  pub parts : text ≡ line ++ after
  pub lines : lines_of text ≡ line ∷ lines_of after
