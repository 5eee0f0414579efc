-- Rows that tell all that a volume keeps of its items, but for the bytes.
use Rattle.std.specs.Prelude.{ℕ, List, [], map, ◌≡◌, ◌∷◌}
use Rattle.cf_model.specs.Blocks.{blocks_holding}
use Rattle.cf_model.specs.Books.{Book, access_of, anchor_of}
use Rattle.cf_model.specs.Items.{Item}
use Rattle.cf_table.specs.Means.{Means}
use Rattle.cf_table.specs.declared.rows.Row.{Row}

-- the row means the item, has its anchor and its last access, and a cluster for each block that holds a byte
pub record IsRowOf (b : Book) (row : Row) (i : Item) : Type 0 where
  pub means : Means row i
  pub anchor : row.anchor ≡ anchor_of b i.id
  pub last : row.last ≡ access_of b i.id
  pub blocks : map (λ (e : ℕ × ℕ). e.0) row.extents ≡ blocks_holding i.held

abbrev pub AreRowsOf : Book → List Row → List Item → Type 0
AreRowsOf b [] [] = Unit {0}
AreRowsOf b [] (i ∷ is) = ⊥
AreRowsOf b (r ∷ rs) [] = ⊥
AreRowsOf b (r ∷ rs) (i ∷ is) = IsRowOf b r i × AreRowsOf b rs is
