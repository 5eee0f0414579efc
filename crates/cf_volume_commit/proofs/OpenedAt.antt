-- What is opened holds, and is sound, with the epoch raised.
use Rattle.std.proofs.Common.{◌≡◌, ℕ, ◌+◌, ◌≤◌, Bool, true, false, ◌&&◌, ◌||◌, eqb, ltb, List, [], ◌∷◌, length, map, refl, sym, ◌∙◌, ap, subst, arith}
use Rattle.std.specs.Prelude.{sum_by}
use Rattle.std.proofs.lemmas.List.{length-map}
use Rattle.std.proofs.lemmas.Bool.{le-ltb, ltb-false, ne_eqb, true≢false}
use Rattle.cf_base.specs.declared.changes.Change.{Change}
use Rattle.cf_base.specs.declared.ids.Usn.{Usn}
use Rattle.cf_volume_commit.proofs.MeantRows.{rows_hold}
use Rattle.cf_volume_commit.proofs.OwnedClusters.{none_dropped, owns_opened}
use Rattle.cf_volume_commit.specs.Loaded.{known_of, raised_header, raised_image}
use Rattle.cf_volume_commit.specs.declared.parts.Parts.{Parts}
use Rattle.cf_clusters.proofs.Counts.{uses_add_up}
use Rattle.cf_clusters.specs.Roles.{Opens}
use Rattle.cf_disk.specs.Disk.{State}
use Rattle.cf_volume_image.specs.Contents.{image_of}
use Rattle.cf_volume_image.specs.Sound.{IsSound}
use Rattle.cf_model.proofs.LengthLaws.{image_length}
use Rattle.cf_model.specs.Books.{Book}
use Rattle.cf_model.specs.Formats.{Header, Image, spell_image}
use Rattle.cf_model.specs.Images.{aux_len, aux_len_of, row_len}
use Rattle.cf_model.specs.Logs.{items_of}
use Rattle.cf_model.specs.Numbers.{above}
use Rattle.cf_model.specs.Rows.{IsSoundRow, Row}
use Rattle.cf_model.specs.Standing.{AreSound, Stands, clusters_of}
use Rattle.cf_volume_points.proofs.Apart.{row_clusters}
use Rattle.cf_volume_points.proofs.Commits.{image_len_is}
use Rattle.cf_volume_points.proofs.Counted.{used_now}
use Rattle.cf_volume_points.proofs.RowRoom.{held_count, held_len}
use Rattle.cf_volume_points.specs.Clusters.{Owns, clusters_in_rows}
use Rattle.cf_volume_points.specs.Holding.{Holds}
use Rattle.cf_volume_points.specs.Standing.{IsBookOf, IsLogOf, cluster_on, opened}
use Rattle.cf_table.specs.Spelling.{row_value}
use Rattle.cf_table.specs.Tables.{AreTableRows, rows_len}

-- the epoch raised

not_above : (epoch : ℕ) (last n : Usn) → last.epoch ≡ epoch → above n last ≡ false → above n (record { epoch = epoch + 1; place = 0 }) ≡ false
not_above epoch last n is e = by (ltb last.epoch n.epoch) refl e
  where
    by : (t : Bool) → ltb last.epoch n.epoch ≡ t → (t || (eqb n.epoch last.epoch && ltb last.place n.place)) ≡ false → above n (record { epoch = epoch + 1; place = 0 }) ≡ false
    by true p f = absurd (true≢false f)
    by false p f =
        let low : n.epoch ≤ last.epoch = ltb-false last.epoch n.epoch p in
        neither (ltb (epoch + 1) n.epoch) (eqb n.epoch (epoch + 1)) (ltb 0 n.place) (le-ltb (epoch + 1) n.epoch (omega (arith, low, is))) (ne_eqb n.epoch (epoch + 1) (λ at. omega (arith, low, is, at)))
      where
        neither : (a b c : Bool) → a ≡ false → b ≡ false → (a || (b && c)) ≡ false
        neither a b c p q = ap (λ (x : Bool). x || (b && c)) p ∙ ap (λ (x : Bool). x && c) q

row_raised : (epoch : ℕ) (h : Header) (r : Row) → h.last.epoch ≡ epoch → IsSoundRow h.next h.last r → IsSoundRow h.next (raised_header epoch h).last r
row_raised epoch h r is s = record {
  id = s.id;
  numbers = (not_above epoch h.last r.number is s.numbers.0, not_above epoch h.last r.anchor is s.numbers.1);
  root_name = s.root_name;
  name = s.name;
  lengths = s.lengths;
  in_size = s.in_size;
  valid = s.valid;
  modified = s.modified;
  modified_since = s.modified_since;
  past_base = s.past_base;
  directory = s.directory;
  file = s.file;
  plain = s.plain;
  in_sync = s.in_sync;
  clean = s.clean;
}

rows_raised : (epoch : ℕ) (h : Header) (rows : List Row) → h.last.epoch ≡ epoch → AreSound h rows → AreSound (raised_header epoch h) rows
rows_raised epoch h [] is s = tt
rows_raised epoch h (r ∷ rs) is s = (row_raised epoch h r is s.0, rows_raised epoch h rs is s.1)

pub sound_raised : (epoch n : ℕ) (i : Image) → i.header.last.epoch ≡ epoch → IsSound n i → IsSound n (raised_image epoch i)
sound_raised epoch n i is s = record {
  rows = rows_raised epoch i.header i.rows is s.rows;
  top = s.top;
  root = s.root;
  placed = s.placed;
  named = s.named;
  blocks = s.blocks;
  apart = s.apart;
  few = s.few;
  short = let e = image_length i in let f = image_length (raised_image epoch i) in omega (arith, e, f, s.short);
}

pub stands_raised : (epoch n : ℕ) (cluster : ℕ → List ℕ) (i : Image) (log : List (Usn × Change)) (b : Book) → i.header.last.epoch ≡ epoch → Stands n cluster i log b → Stands n cluster (raised_image epoch i) log b
stands_raised epoch n cluster i log b is s = record {
  rows = s.rows;
  sound = rows_raised epoch i.header i.rows is s.sound;
  apart = s.apart;
  count = s.count;
  next = s.next;
  clock = s.clock;
  records = s.records;
  few = s.few;
  short = let e = image_length i in let f = image_length (raised_image epoch i) in omega (arith, e, f, s.short);
}

-- what is opened

module _ (s : State) (p : Parts) (epoch n : ℕ) (log : List (Usn × Change)) (b : Book) (stands : Stands n (cluster_on s.seen) (image_of p.contents) log b) (given : IsLogOf epoch log) (book : IsBookOf (items_of log) b)
    (last : p.contents.last ≡ record { epoch = epoch + 1; place = 0 }) (opens : Opens n (clusters_of (map row_value p.contents.rows.rows)) p.held) (m : ℕ) (limit : p.limit ≡ m) (within : m ≤ n) where
  owns : Owns p.held (clusters_in_rows p.contents.rows.rows)
  owns = subst (λ (l : List ℕ). Owns p.held l) (row_clusters p.contents.rows.rows) (owns_opened n (clusters_of (map row_value p.contents.rows.rows)) p.held stands.apart opens)

  fits_sum : (w r t x y : ℕ) → w ≡ 41 + r + x → r ≡ t → x ≡ y → w ≤ 1306624 → 41 + t + y ≤ 1306624
  fits_sum w r t x y e f g le = omega (arith, e, f, g, le)

  pub opened_holds : AreTableRows p.contents.rows.rows → Holds s (known_of p) (opened (epoch + 1) log b m)
  opened_holds kept =
      let rows = rows_hold (cluster_on s.seen) b p.contents.rows.rows (items_of log) stands.rows given.whole in
      record {
        rows = rows;
        owns = owns;
        of_log = (refl, refl, given.below);
        next = λ k. record { 0 = stands.next k };
        count = stands.count;
        epoch = λ k. (last k).epoch;
        place = λ k. (last k).place;
        clock = stands.clock;
        records = stands.records;
        book = book;
        clusters = sym limit;
        within = omega (arith, limit, within, opens.size);
        fits = record {
          few =
              let count = held_count (cluster_on s.seen) b p.contents.rows.rows (items_of log) rows in
              let same = length-map p.contents.rows.rows row_value in
              let few = stands.few in
              omega (arith, count, same, few);
          short = fits_sum (length (spell_image (image_of p.contents))) (rows_len p.contents.rows.rows) (sum_by (row_len b) (items_of log)) (sum_by aux_len p.contents.records) (aux_len_of b)
              (image_len_is (known_of p)) (held_len (cluster_on s.seen) b p.contents.rows.rows (items_of log) kept rows) (ap (sum_by aux_len) stands.records) stands.short;
        };
        used =
            let sums = uses_add_up p.held in
            let dropped = none_dropped n (clusters_of (map row_value p.contents.rows.rows)) p.held opens in
            let now = used_now (cluster_on s.seen) b p.contents.rows.rows (items_of log) p.held rows owns in
            omega (arith, sums, dropped, now);
        load = let now = used_now (cluster_on s.seen) b p.contents.rows.rows (items_of log) p.held rows owns in omega (arith, now);
        exact = λ small. let now = used_now (cluster_on s.seen) b p.contents.rows.rows (items_of log) p.held rows owns in omega (arith, now);
      }
