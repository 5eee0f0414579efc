-- What holds of every volume that a program has, beside what its calls ask of the items.
use Rattle.std.specs.Prelude.{◌≡◌, ◌≤◌, ◌<◌, ◌==◌, ◌+◌, ℕ, true, false, List, [], ◌∷◌, Option, Some, length, take}
use Rattle.cf_base.specs.declared.changes.Change.{Change}
use Rattle.cf_base.specs.declared.ids.ItemId.{ItemId}
use Rattle.cf_base.specs.declared.ids.Usn.{Usn}
use Rattle.cf_engine_queue.specs.Records.{IsKeepable}
use Rattle.cf_model.specs.Books.{Book, access_of, anchor_of}
use Rattle.cf_model.specs.Changes.{next_number}
use Rattle.cf_model.specs.Items.{Item, is_held, item_of}
use Rattle.cf_model.specs.Numbers.{above, is_no_usn}
use Rattle.cf_model.specs.Overlay.{Written, is_covered}
use Rattle.cf_model.specs.Points.{Opens}
use Rattle.cf_model.specs.State.{Point, Volume}
use Rattle.cf_volume_points.specs.Standing.{opened}
use Rattle.cf_filter_steps.specs.Good.{Every, IsGoodVolume}

-- each position that a write covers is here
abbrev pub IsWrittenHere : List Written → List (Option ℕ) → Type 0
IsWrittenHere ws held = (p : ℕ) → p < length held → is_covered ws p ≡ true → is_held held p ≡ true

-- an item that the table can keep: what was written is here, the root has no name, a directory without entries is a
-- placeholder
pub record IsKept (i : Item) : Type 0 where
  pub written : IsWrittenHere i.writes i.held
  pub identity : length i.identity ≤ 4096
  pub top : (i.id.0 == 1) ≡ true → i.name ≡ []
  pub unlisted : i.directory ≡ true → i.populated ≡ false → i.placeholder ≡ true

-- good ones, whose keys rise
abbrev pub IsRisingBy : {A : Type 0} → (A → ℕ) → (A → Type 0) → List A → Type 0
IsRisingBy key good [] = Unit {0}
IsRisingBy key good (x ∷ xs) = good x × Every (λ y. key x < key y) xs × IsRisingBy key good xs

-- The book fits its records. Anchors and the numbers of tombstones were given, and files alone are accessed. Anchors and accesses
-- stand by item, one an item, and none of them says that there is none.
pub record IsKeptBook (next : Usn) (items : List Item) (b : Book) : Type 0 where
  pub anchors : (id : ItemId) → above next (anchor_of b id) ≡ true
  pub accesses : (id : ItemId) (i : Item) → item_of items id ≡ Some i → i.directory ≡ true → access_of b id ≡ 0
  pub fits : IsKeepable b
  pub graves : Every (λ t. above next t.number ≡ true) b.tombstones
  pub anchors_rise : IsRisingBy (λ a. a.item.0) (λ a. is_no_usn a.number ≡ false) b.anchors
  pub accesses_rise : IsRisingBy (λ a. a.item.0) (λ a. (a.clock == 0) ≡ false) b.accesses

pub record IsKeptVolume (v : Volume) : Type 0 where
  pub good : IsGoodVolume v
  pub items : Every IsKept v.items
  -- the number of each item was given
  pub given : Every (λ i. above (next_number v) i.number ≡ true) v.items
  pub book : IsKeptBook (next_number v) v.items v.book

-- a restart that opens the point begins with such a volume
pub record IsKeptPoint (epoch : ℕ) (log : List (Usn × Change)) (p : Point) : Type 0 where
  pub early : p.count ≤ length log
  pub volume : IsKeptVolume (opened (epoch + 1) (take p.count log) p.book 0)

abbrev pub HasKeptPoints : Volume → Type 0
HasKeptPoints v = (p : Point) → Opens v.points p → IsKeptPoint v.epoch v.log p
