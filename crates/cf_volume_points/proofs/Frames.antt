-- The same bytes in the clusters that rows name mean the same.
use Rattle.std.proofs.Common.{◌≡◌, ℕ, ◌+◌, ◌*◌, List, [], ◌∷◌, ◌++◌, map, take, drop, Option, refl, sym, ◌∙◌, ap, subst, slice_get}
use Rattle.std.specs.Prelude.{All, ◌%◌}
use Rattle.std.proofs.lemmas.List.{drop-drop}
use Rattle.std.proofs.lemmas.List.Concat.{flat_map-cons}
use Rattle.std.proofs.lemmas.List.Elements.{All-head, All-tail, All-nil, All-cons}
use Rattle.cf_base.specs.declared.changes.Change.{Change}
use Rattle.cf_base.specs.declared.ids.Usn.{Usn}
use Rattle.cf_disk.specs.Disk.{part}
use Rattle.cf_journal.specs.Content.{clusters}
use Rattle.cf_model.specs.Books.{Book}
use Rattle.cf_model.specs.Formats.{Image}
use Rattle.cf_model.specs.Items.{Item}
use Rattle.cf_model.specs.Rows.{Extent}
use Rattle.cf_model.specs.Rows as model
use Rattle.cf_model.specs.Standing.{AreRowsOf, HoldAll, HoldsByte, Stands, clusters_of}
use Rattle.cf_volume_points.specs.Clusters.{clusters_in_row, clusters_in_rows}
use Rattle.cf_volume_points.specs.Holding.{HoldRows}
use Rattle.cf_volume_points.specs.Standing.{cluster_on}
use Rattle.cf_table.specs.Spelling.{extent_of}
use Rattle.cf_table.specs.declared.rows.Row.{Row}

pub all_left : {X : Type 0} (P : X → Type 0) (xs ys : List X) → All P (xs ++ ys) → All P xs
all_left {X} P [] ys h = All-nil P
all_left {X} P (x ∷ xs) ys h = All-cons P x xs (All-head P x (xs ++ ys) h) (all_left P xs ys (All-tail P x (xs ++ ys) h))

pub all_right : {X : Type 0} (P : X → Type 0) (xs ys : List X) → All P (xs ++ ys) → All P ys
all_right {X} P [] ys h = h
all_right {X} P (x ∷ xs) ys h = all_right P xs ys (All-tail P x (xs ++ ys) h)

-- the clusters of the list have the same bytes
abbrev pub SameIn : (ℕ → List ℕ) → (ℕ → List ℕ) → List ℕ → Type 0
SameIn old new clusters = All (λ k. new k ≡ old k) clusters

byte_frame : (old new : ℕ → List ℕ) (held : List (Option ℕ)) (e : Extent) → new e.cluster ≡ old e.cluster → HoldsByte old held e → HoldsByte new held e
byte_frame old new held e same h = λ p b block is. ap (λ (bytes : List ℕ). slice_get bytes (p % 4096)) same ∙ h p b block is

pub hold_frame : (old new : ℕ → List ℕ) (held : List (Option ℕ)) (es : List Extent) → SameIn old new (map (λ (e : Extent). e.cluster) es) → HoldAll old held es → HoldAll new held es
hold_frame old new held [] same h = tt
hold_frame old new held (e ∷ es) same h = (
  byte_frame old new held e (All-head (λ k. new k ≡ old k) e.cluster (map (λ (x : Extent). x.cluster) es) same) h.0,
  hold_frame old new held es (All-tail (λ k. new k ≡ old k) e.cluster (map (λ (x : Extent). x.cluster) es) same) h.1,
)

clusters_of_more : (r : model.Row) (rs : List model.Row) → clusters_of (r ∷ rs) ≡ map (λ (e : Extent). e.cluster) r.extents ++ clusters_of rs
clusters_of_more r rs = flat_map-cons (λ (x : model.Row). map (λ (e : Extent). e.cluster) x.extents) r rs

pub rows_frame : (old new : ℕ → List ℕ) (b : Book) (rows : List model.Row) (items : List Item) → SameIn old new (clusters_of rows) → AreRowsOf old b rows items → AreRowsOf new b rows items
rows_frame old new b [] [] same h = tt
rows_frame old new b [] (i ∷ is) same h = absurd h
rows_frame old new b (r ∷ rs) [] same h = absurd h
rows_frame old new b (r ∷ rs) (i ∷ is) same h =
    let split : SameIn old new (map (λ (e : Extent). e.cluster) r.extents ++ clusters_of rs) = subst (λ (l : List ℕ). SameIn old new l) (clusters_of_more r rs) same in (
      record { row = h.0.row; blocks = h.0.blocks; bytes = hold_frame old new i.held r.extents (all_left (λ k. new k ≡ old k) (map (λ (e : Extent). e.cluster) r.extents) (clusters_of rs) split) h.0.bytes },
      rows_frame old new b rs is (all_right (λ k. new k ≡ old k) (map (λ (e : Extent). e.cluster) r.extents) (clusters_of rs) split) h.1,
    )

pub stands_frame : (n : ℕ) (old new : ℕ → List ℕ) (image : Image) (log : List (Usn × Change)) (b : Book) → SameIn old new (clusters_of image.rows) → Stands n old image log b → Stands n new image log b
stands_frame n old new image log b same h = record {
  rows = rows_frame old new b image.rows _ same h.rows;
  sound = h.sound;
  apart = h.apart;
  count = h.count;
  next = h.next;
  clock = h.clock;
  records = h.records;
  few = h.few;
  short = h.short;
}

-- the same of the rows of a table

pub cluster_names : (es : List (ℕ × ℕ)) → map (λ (e : Extent). e.cluster) (map extent_of es) ≡ map (λ (e : ℕ × ℕ). e.1) es
cluster_names [] = refl
cluster_names (e ∷ es) = ap (λ (l : List ℕ). e.1 ∷ l) (cluster_names es)

pub clusters_more : (r : Row) (rs : List Row) → clusters_in_rows (r ∷ rs) ≡ clusters_in_row r ++ clusters_in_rows rs
clusters_more r rs = flat_map-cons clusters_in_row r rs

pub holding_frame : (old new : ℕ → List ℕ) (b : Book) (rows : List Row) (items : List Item) → SameIn old new (clusters_in_rows rows) → HoldRows old b rows items → HoldRows new b rows items
holding_frame old new b [] [] same h = tt
holding_frame old new b [] (i ∷ is) same h = absurd h
holding_frame old new b (r ∷ rs) [] same h = absurd h
holding_frame old new b (r ∷ rs) (i ∷ is) same h =
    let split : SameIn old new (clusters_in_row r ++ clusters_in_rows rs) = subst (λ (l : List ℕ). SameIn old new l) (clusters_more r rs) same in
    let here : SameIn old new (map (λ (e : Extent). e.cluster) (map extent_of r.extents)) =
    subst (λ (l : List ℕ). SameIn old new l) (sym (cluster_names r.extents)) (all_left (λ k. new k ≡ old k) (clusters_in_row r) (clusters_in_rows rs) split) in (
      record { means = h.0.means; anchor = h.0.anchor; last = h.0.last; blocks = h.0.blocks; bytes = hold_frame old new i.held (map extent_of r.extents) here h.0.bytes },
      holding_frame old new b rs is (all_right (λ k. new k ≡ old k) (clusters_in_row r) (clusters_in_rows rs) split) h.1,
    )

-- the same bytes behind the halves are the same in each cluster

behind : (b m n : ℕ) (xs ys : List ℕ) → drop b xs ≡ drop b ys → part (b + m) n xs ≡ part (b + m) n ys
behind b m n xs ys same = ap (λ (l : List ℕ). take n l) (sym (drop-drop m b xs) ∙ ap (λ (l : List ℕ). drop m l) same ∙ drop-drop m b ys)

pub same_area : (old new : List ℕ) → clusters new ≡ clusters old → (k : ℕ) → cluster_on new k ≡ cluster_on old k
same_area old new same k = behind 3145728 (4096 * k) 4096 new old same

pub same_all : (old new : List ℕ) → clusters new ≡ clusters old → (ks : List ℕ) → SameIn (cluster_on old) (cluster_on new) ks
same_all old new same [] = All-nil (λ k. cluster_on new k ≡ cluster_on old k)
same_all old new same (k ∷ ks) = All-cons (λ j. cluster_on new j ≡ cluster_on old j) k ks (same_area old new same k) (same_all old new same ks)
