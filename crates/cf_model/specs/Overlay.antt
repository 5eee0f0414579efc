-- Local writes, and what they make of a list of bytes.
use Rattle.std.specs.Prelude.{ℕ, Bool, List, [], length, take, drop, replicate, min, ◌+◌, ◌-◌, ◌∷◌, ◌++◌}
use Rattle.std.specs.List.{list_any}
use Rattle.cf_base.specs.declared.ids.Usn.{Usn}
use Rattle.cf_model.specs.Words.{within}

-- bytes from a place on, or another size
pub data LocalWrite : Type 0 where
  Put : (at : ℕ) (bytes : List ℕ) → LocalWrite
  Resize : (size : ℕ) → LocalWrite

-- at least n long, with filler at the end
abbrev pub padded : {A : Type 0} → A → ℕ → List A → List A
padded filler n xs = xs ++ replicate (n - length xs) filler

-- n long: cut, or with filler at the end
abbrev pub resized : {A : Type 0} → A → ℕ → List A → List A
resized filler n xs = take n (padded filler n xs)

-- news from at on; filler between the end and at
abbrev pub patched : {A : Type 0} → A → ℕ → List A → List A → List A
patched filler at news xs = take at (padded filler at xs) ++ news ++ drop (at + length news) xs

abbrev pub after_write : List ℕ → LocalWrite → List ℕ
after_write base (Put at bytes) = patched 0 at bytes base
after_write base (Resize n) = resized 0 n base

-- the bytes after the writes in order
abbrev pub over : List ℕ → List LocalWrite → List ℕ
over base [] = base
over base (w ∷ ws) = over (after_write base w) ws

-- a write of a file, the number of its change, and the size that the file had just before it
pub record Written : Type 0 where
  pub number : Usn
  pub before : ℕ
  pub write : LocalWrite

-- a write covers the positions to which it gave a byte, its zeros included
abbrev pub covers_at : LocalWrite → ℕ → ℕ → Bool
covers_at (Put at bytes) before p = within (min at before) (at + length bytes) p
covers_at (Resize n) before p = within before n p

abbrev pub covers : Written → ℕ → Bool
covers w p = covers_at w.write w.before p

abbrev pub is_covered : List Written → ℕ → Bool
is_covered ws p = list_any (λ w. covers w p) ws
