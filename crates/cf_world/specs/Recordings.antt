-- A line of a text and what stands after it.
use Rattle.std.specs.Prelude.{◌≡◌, ◌⊎◌, ℕ, List, [], ◌∷◌, ◌++◌}
use Rattle.cf_script.specs.Script.{lines_of}

-- The text begins with this line, which ends with byte 10 or with the text.
pub record IsFirstLine (text line after : List ℕ) : Type 0 where
  pub parts : (text ≡ line ++ 10 ∷ after) ⊎ ((text ≡ line) × (after ≡ []))
  -- it has no byte 10 itself
  pub ends : (more : List ℕ) → lines_of (line ++ 10 ∷ more) ≡ line ∷ lines_of more
  pub lines : lines_of text ≡ line ∷ lines_of after
