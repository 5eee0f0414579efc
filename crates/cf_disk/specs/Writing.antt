-- Which bytes of pages were written, and how that is kept.
use Rattle.std.specs.Prelude.{◌≡◌, ◌⊎◌, ◌+◌, ◌*◌, ◌^◌, ◌<◌, ◌≤◌, ℕ, suc, Bool, true, false, List, [], ◌∷◌, length, map, get_or, replicate, take, drop}
use Rattle.cf_disk.specs.declared.written_bytes.PageMark.{PageMark}
use Rattle.cf_disk.specs.declared.written_bytes.PageMark.TheVariants.{Clean, Whole, Part}

-- How many pages there are at most, and for each page a flag for each of its bytes.
pub record Written : Type 0 where
  pub most : ℕ
  pub pages : List (List Bool)

-- the flags of a page, by its mark and the flags that lie in the pool
abbrev pub flags_of : List Bool → PageMark → List Bool
flags_of flags Clean = replicate 4096 false
flags_of flags Whole = replicate 4096 true
flags_of flags (Part start) = take 4096 (drop start flags)

abbrev pub written_in : ℕ → List PageMark → List Bool → Written
written_in most marks flags = record { most = most; pages = map (flags_of flags) marks }

-- how many pages have no flags and may still get some
abbrev pub clean : List PageMark → ℕ
clean [] = 0
clean (Clean ∷ marks) = suc (clean marks)
clean (Whole ∷ marks) = clean marks
clean (Part start ∷ marks) = clean marks

-- Flags of a page lie in the pool, and no two pages share any. There is room for each page.
pub record IsWriting (most marks_room flags_room : ℕ) (marks : List PageMark) (flags : List Bool) : Type 0 where
  pub inside : (k s : ℕ) → get_or marks k Clean ≡ Part s → s + 4096 ≤ length flags
  pub apart : (j k s t : ℕ) → get_or marks j Clean ≡ Part s → get_or marks k Clean ≡ Part t → (j ≡ k → ⊥) → (s + 4096 ≤ t) ⊎ (t + 4096 ≤ s)
  pub few : length flags + clean marks * 4096 ≤ length marks * 4096
  pub fits : length marks ≤ most
  pub small : most * 4096 + 4096 < 2 ^ 64
  pub marks_enough : most ≤ marks_room
  pub flags_enough : most * 4096 ≤ flags_room
