-- Rows that hold items are the rows of these items.
use Rattle.std.proofs.Common.{◌≡◌, ℕ, List, [], ◌∷◌, map, refl, ◌∙◌, ap}
use Rattle.cf_model.specs.Books.{Book}
use Rattle.cf_model.specs.Items.{Item}
use Rattle.cf_model.specs.Rows.{Extent}
use Rattle.cf_model.specs.Standing.{AreRowsOf}
use Rattle.cf_volume_points.specs.Holding.{HoldRows}
use Rattle.cf_table.proofs.RowOfItem.{row_is_of_item}
use Rattle.cf_table.specs.Spelling.{extent_of, row_value}
use Rattle.cf_table.specs.Tables.{AreTableRows}
use Rattle.cf_table.specs.declared.rows.Row.{Row}

block_names : (es : List (ℕ × ℕ)) → map (λ (e : Extent). e.block) (map extent_of es) ≡ map (λ (e : ℕ × ℕ). e.0) es
block_names [] = refl
block_names (e ∷ es) = ap (λ (l : List ℕ). e.0 ∷ l) (block_names es)

pub rows_are_of_items : (cluster : ℕ → List ℕ) (b : Book) (rows : List Row) (items : List Item) → AreTableRows rows → HoldRows cluster b rows items → AreRowsOf cluster b (map row_value rows) items
rows_are_of_items cluster b [] [] t h = tt
rows_are_of_items cluster b [] (i ∷ is) t h = absurd h
rows_are_of_items cluster b (r ∷ rs) [] t h = absurd h
rows_are_of_items cluster b (r ∷ rs) (i ∷ is) t h =
    (record { row = row_is_of_item b r i t.0.stored h.0.means h.0.anchor h.0.last; blocks = block_names r.extents ∙ h.0.blocks; bytes = h.0.bytes }, rows_are_of_items cluster b rs is t.1 h.1)
