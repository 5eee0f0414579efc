-- The state now: rows that mean the items, whose clusters hold the bytes.
use Rattle.std.specs.Prelude.{◌≡◌, ◌≤◌, ◌<◌, ◌+◌, ℕ, List, [], ◌∷◌, length, map}
use Rattle.cf_base.specs.declared.limits.TheConstants.{MOST_ITEMS}
use Rattle.cf_clusters.specs.Roles.{how_many, is_free}
use Rattle.cf_disk.specs.Disk.{State}
use Rattle.cf_model.specs.Blocks.{blocks_holding, blocks_used}
use Rattle.cf_model.specs.Books.{Book, access_of, anchor_of, aux_records}
use Rattle.cf_model.specs.Images.{image_len, most_image}
use Rattle.cf_model.specs.Items.{Item}
use Rattle.cf_model.specs.Given.{IsOfLog}
use Rattle.cf_model.specs.Standing.{HoldAll}
use Rattle.cf_model.specs.State.{Volume}
use Rattle.cf_volume_points.specs.Clusters.{Owns, clusters_in_rows}
use Rattle.cf_volume_points.specs.Known.{Known}
use Rattle.cf_volume_points.specs.Standing.{IsBookOf, cluster_on}
use Rattle.cf_table.specs.Means.{Means}
use Rattle.cf_table.specs.Spelling.{extent_of}
use Rattle.cf_table.specs.declared.rows.Row.{Row}

-- The row means the item; anchor and last access are those of the book; the extents are the blocks that hold a byte, and
-- their clusters hold the bytes.
pub record HoldsRow (cluster : ℕ → List ℕ) (b : Book) (r : Row) (i : Item) : Type 0 where
  pub means : Means r i
  pub anchor : r.anchor ≡ anchor_of b i.id
  pub last : r.last ≡ access_of b i.id
  pub blocks : map (λ (e : ℕ × ℕ). e.0) r.extents ≡ blocks_holding i.held
  pub bytes : HoldAll cluster i.held (map extent_of r.extents)

abbrev pub HoldRows : (ℕ → List ℕ) → Book → List Row → List Item → Type 0
HoldRows cluster b [] [] = Unit {0}
HoldRows cluster b [] (i ∷ is) = ⊥
HoldRows cluster b (r ∷ rs) [] = ⊥
HoldRows cluster b (r ∷ rs) (i ∷ is) = HoldsRow cluster b r i × HoldRows cluster b rs is

-- there are not too many items, and their image is not too long
pub record FitsTable (items : List Item) (b : Book) : Type 0 where
  pub few : length items ≤ MOST_ITEMS
  pub short : image_len items b ≤ most_image

-- A count to which more was added. It stays where it is once it has come to its greatest.
pub record CountsMore (old more new : ℕ) : Type 0 where
  pub most : new ≤ old + more
  pub exact : new < 18446744073709551615 → old + more ≤ new

-- What is known is the volume now, and the clusters of the rows are those that the state holds. The used clusters are
-- those of the last point, and those that changes since took. The volume may use fewer clusters than there are. What is
-- counted of the last point and of changes since is what the volume has, until the count has come to its greatest.
pub record Holds (s : State) (k : Known) (v : Volume) : Type 0 where
  pub rows : HoldRows (cluster_on s.seen) v.book k.table.rows v.items
  pub owns : Owns k.uses (clusters_in_rows k.table.rows)
  pub of_log : IsOfLog v
  pub next : k.table.next ≡ v.next_item
  pub count : k.count ≡ length v.log
  pub epoch : k.epoch ≡ v.epoch
  pub place : k.place ≡ v.place
  pub clock : k.clock ≡ v.book.clock
  pub records : k.records ≡ aux_records v.book
  pub book : IsBookOf v.items v.book
  pub clusters : v.clusters ≡ k.limit
  pub within : k.limit ≤ length k.uses
  pub fits : FitsTable v.items v.book
  pub used : length k.uses ≤ how_many is_free k.uses + blocks_used v.items_then + v.put_since
  pub load : k.used_then + k.put_since ≤ blocks_used v.items_then + v.put_since
  pub exact : k.put_since < 18446744073709551615 → blocks_used v.items_then + v.put_since ≤ k.used_then + k.put_since
