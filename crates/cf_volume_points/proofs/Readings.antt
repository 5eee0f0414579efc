-- A read leaves the volume as it is.
use Rattle.std.proofs.Common.{◌≡◌, ℕ, ◌+◌, ◌*◌, ◌/◌, ◌<◌, true, List, length, take, refl, sym, ◌∙◌, ap, subst, arith, Option, Some, None}
use Rattle.cf_volume_blocks.proofs.Elsewhere.{among_holding, block_holds}
use Rattle.cf_volume_blocks.proofs.Laid.{is_here}
use Rattle.cf_volume_blocks.specs.Bytes.{HoldsBlock, holds_at, is_among}
use Rattle.cf_disk.specs.Disk.{Keeps, Leaves, State}
use Rattle.cf_disk.specs.Leaving.{leaves_weaker}
use Rattle.cf_model.specs.Blocks.{block_has_byte}
use Rattle.cf_model.specs.Books.{Book}
use Rattle.cf_model.specs.Items.{Item}
use Rattle.cf_model.specs.State.{Volume}
use Rattle.cf_volume_points.proofs.FileRows.{among_some, hold_at}
use Rattle.cf_volume_points.proofs.Points.{Fair, kept_staged}
use Rattle.cf_volume_points.specs.At.{At}
use Rattle.cf_volume_points.specs.Holding.{HoldRows, HoldsRow}
use Rattle.cf_volume_points.specs.Known.{Known}
use Rattle.cf_volume_points.specs.Standing.{cluster_on}
use Rattle.cf_clusters.specs.Area.{KeepsWhere, SameWhere}
use Rattle.cf_clusters.specs.Roles.{IsCommitted}
use Rattle.cf_ranges.specs.Pairs.{cluster_at}
use Rattle.cf_table.specs.declared.rows.Row.{Row}

module _ (s t : State) (k : Known) (v : Volume) (fair : Fair s) (at : At s k v) (keeps : Keeps s t) (leaves : Leaves s t s.may_leave) where
  pub read_at : At t k v
  read_at = record {
    last = record {
      point = at.last.point;
      earlier = at.last.earlier;
      points_are = at.last.points_are;
      early = at.last.early;
      count = at.last.count;
      clock = at.last.clock;
      image = at.last.image;
      next = at.last.next;
      kept = kept_staged s t k.journal k.uses v.epoch (take at.last.point.count v.log) at.last.point.book fair at.last.kept k.uses refl (λ j h. h) (ap length keeps.seen)
          (subst (λ (l : List ℕ). SameWhere IsCommitted k.uses s.seen l) (sym keeps.seen) (record { size = refl; halves = refl; clusters = λ j lt h. refl }))
          (leaves_weaker s t s.may_leave (KeepsWhere IsCommitted k.uses s) leaves (λ c left. (c, left, record { size = refl; halves = refl; clusters = λ j lt h. refl })));
      known = at.last.known;
    };
    now = record {
      rows = subst (λ (l : List ℕ). HoldRows (cluster_on l) v.book k.table.rows v.items) (sym keeps.seen) at.now.rows;
      owns = at.now.owns;
      of_log = at.now.of_log;
      next = at.now.next;
      count = at.now.count;
      epoch = at.now.epoch;
      place = at.now.place;
      clock = at.now.clock;
      records = at.now.records;
      book = at.now.book;
      clusters = at.now.clusters;
      within = at.now.within;
      fits = at.now.fits;
      used = at.now.used;
      load = at.now.load;
      exact = at.now.exact;
    };
  }

-- the clusters of a row's extents hold the bytes of its item, and no block without one has a byte
pub row_blocks : (cluster : ℕ → List ℕ) (b : Book) (r : Row) (i : Item) → HoldsRow cluster b r i → (n : ℕ) (o : Option ℕ) → cluster_at r.extents n ≡ o
    → ((k : ℕ) → o ≡ Some k → HoldsBlock i.held n (cluster k)) × (o ≡ None → (q v : ℕ) → q < 4096 → holds_at i.held (4096 * n + q) v ≡ true → ⊥)
row_blocks cluster b r i holds n o e = (
  λ k some. hold_at cluster i.held r.extents n k holds.bytes (e ∙ some),
  λ none q v low is.
      let at : (4096 * n + q) / 4096 ≡ n = omega (arith, low) in
      let has : block_has_byte i.held n ≡ true = block_holds i.held n (4096 * n + q) at (is_here i.held (4096 * n + q) v is) in
      among_some r.extents n (ap (λ (l : List ℕ). is_among l n) holds.blocks ∙ among_holding i.held n ∙ has) (e ∙ none),
)
