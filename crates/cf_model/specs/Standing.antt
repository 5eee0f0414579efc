-- When an image and the bytes of its clusters stand for a log and a book.
use Rattle.std.specs.Prelude.{ℕ, Bool, true, List, [], length, map, not, Option, Some, nat_lt, slice_get, ◌&&◌, ◌==◌, ◌≡◌, ◌≤◌, ◌/◌, ◌%◌, ◌∷◌}
use Rattle.std.specs.List.{flat_map, list_any}
use Rattle.cf_base.specs.declared.changes.Change.{Change}
use Rattle.cf_base.specs.declared.ids.Usn.{Usn}
use Rattle.cf_base.specs.declared.limits.TheConstants.{MOST_ITEMS}
use Rattle.cf_model.specs.Blocks.{blocks_holding}
use Rattle.cf_model.specs.Books.{Book, aux_records}
use Rattle.cf_model.specs.Formats.{Header, Image, spell_image}
use Rattle.cf_model.specs.Images.{most_image}
use Rattle.cf_model.specs.Items.{Item}
use Rattle.cf_model.specs.Logs.{count_of, items_of, next_of}
use Rattle.cf_model.specs.Rows.{Extent, IsSoundRow, Row, row_of}

-- the byte of a held position stands at its place in the cluster of its block
abbrev pub HoldsByte : (ℕ → List ℕ) → List (Option ℕ) → Extent → Type 0
HoldsByte cluster held e = (p b : ℕ) → p / 4096 ≡ e.block → slice_get held p ≡ Some (Some b) → slice_get (cluster e.cluster) (p % 4096) ≡ Some b

abbrev pub HoldAll : (ℕ → List ℕ) → List (Option ℕ) → List Extent → Type 0
HoldAll cluster held [] = Unit {0}
HoldAll cluster held (e ∷ es) = HoldsByte cluster held e × HoldAll cluster held es

-- the row of an item: its extents are the blocks that hold a byte, and their clusters hold the bytes
pub record IsRowOf (cluster : ℕ → List ℕ) (b : Book) (r : Row) (i : Item) : Type 0 where
  pub row : r ≡ row_of b r.extents i
  pub blocks : map (λ (e : Extent). e.block) r.extents ≡ blocks_holding i.held
  pub bytes : HoldAll cluster i.held r.extents

abbrev pub AreRowsOf : (ℕ → List ℕ) → Book → List Row → List Item → Type 0
AreRowsOf cluster b [] [] = Unit {0}
AreRowsOf cluster b [] (i ∷ is) = ⊥
AreRowsOf cluster b (r ∷ rs) [] = ⊥
AreRowsOf cluster b (r ∷ rs) (i ∷ is) = IsRowOf cluster b r i × AreRowsOf cluster b rs is

abbrev pub clusters_of : List Row → List ℕ
clusters_of rows = flat_map (λ r. map (λ e. e.cluster) r.extents) rows

-- no number twice, and each below the limit
abbrev pub are_apart : ℕ → List ℕ → Bool
are_apart limit [] = true
are_apart limit (n ∷ ns) = nat_lt n limit && not (list_any (λ m. m == n) ns) && are_apart limit ns

abbrev pub AreSound : Header → List Row → Type 0
AreSound h [] = Unit {0}
AreSound h (r ∷ rs) = IsSoundRow h.next h.last r × AreSound h rs

-- `cluster` gives the 4,096 bytes of each of the `clusters` clusters
pub record Stands (clusters : ℕ) (cluster : ℕ → List ℕ) (image : Image) (log : List (Usn × Change)) (b : Book) : Type 0 where
  pub rows : AreRowsOf cluster b image.rows (items_of log)
  pub sound : AreSound image.header image.rows
  pub apart : are_apart clusters (clusters_of image.rows) ≡ true
  pub count : image.header.count ≡ count_of log
  pub next : image.header.next.0 ≡ next_of log
  pub clock : image.header.clock ≡ b.clock
  pub records : image.records ≡ aux_records b
  pub few : length image.rows ≤ MOST_ITEMS
  pub short : length (spell_image image) ≤ most_image
