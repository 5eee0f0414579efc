-- A commit makes the state now the last point.
use Rattle.std.proofs.Common.{◌≡◌, ℕ, zero, suc, ◌+◌, ◌<◌, ◌≤◌, Bool, true, false, ◌&&◌, ◌||◌, cond, eqb, ltb, List, [], ◌∷◌, length, map, take, Some, None, refl, sym, ◌∙◌, ap, subst, arith}
use Rattle.std.specs.Prelude.{◌-◌, ◌/◌, option_map, sum_by}
use Rattle.std.specs.List.{flat_map}
use Rattle.std.proofs.lemmas.Bool.{cond-false, eqb-true, lt-ltb, ltb-false, ltb-true, ne_eqb, true≢false}
use Rattle.std.proofs.lemmas.List.{take_all, length-append, length-map}
use Rattle.std.proofs.lemmas.List.Concat.{length-flat_map}
use Rattle.std.proofs.lemmas.List.Elements.{All-nil, All-cons, All-weaker}
use Rattle.cf_base.specs.declared.changes.Change.{Change}
use Rattle.cf_base.specs.declared.answers.AuxRecord.{AuxRecord}
use Rattle.cf_base.specs.declared.ids.ItemId.{ItemId}
use Rattle.cf_base.specs.declared.ids.Usn.{Usn}
use Rattle.cf_clusters.proofs.Counts.{now_committed}
use Rattle.cf_clusters.specs.Roles.{IsCommitted, committed, how_many, is_now, use_of}
use Rattle.cf_clusters.specs.declared.uses.Use.{Use}
use Rattle.cf_clusters.specs.declared.uses.Use.TheVariants.{Free, Held, Staged, Dropped}
use Rattle.cf_codec.specs.declared.formats.Format.{Format}
use Rattle.cf_codec.specs.declared.formats.Format.TheVariants.{Second}
use Rattle.cf_disk.specs.Disk.{Only, State, part, size_of}
use Rattle.cf_volume_image.specs.Sound.{IsSound}
use Rattle.cf_volume_image.specs.Spelled.{AreRecordsFrom}
use Rattle.cf_volume_image.specs.States.{IsContentsIn, Tells}
use Rattle.cf_journal.specs.Content.{Content, clusters}
use Rattle.cf_journal.specs.Settled.{IsFitSize}
use Rattle.cf_journal.specs.declared.journals.Journal.{Journal}
use Rattle.cf_model.proofs.LengthLaws.{image_length, in_bytes-length, record_length}
use Rattle.cf_model.specs.Blocks.{blocks_used}
use Rattle.cf_model.specs.Books.{Book}
use Rattle.cf_model.specs.Given.{AllBelow}
use Rattle.cf_model.specs.Numbers.{above}
use Rattle.cf_model.specs.Formats.{Header, Image, spell_image, spell_record}
use Rattle.cf_model.specs.Images.{aux_len}
use Rattle.cf_model.specs.Items.{Item, item_of}
use Rattle.cf_model.specs.Logs.{items_of}
use Rattle.cf_model.specs.Rows.{IsSoundRow, spell_row}
use Rattle.cf_model.specs.Rows as model
use Rattle.cf_model.specs.Standing.{AreRowsOf, AreSound, Stands, are_apart, clusters_of}
use Rattle.cf_model.specs.State.{Point, Volume}
use Rattle.cf_model.specs.Words.{in_bytes}
use Rattle.cf_volume_points.specs.At.{At}
use Rattle.cf_volume_points.specs.Clusters.{HoldsCommitted, IsGroundSize, Owns, clusters_in_rows, once, times}
use Rattle.cf_volume_points.specs.Holding.{HoldRows, Holds}
use Rattle.cf_volume_points.specs.Known.{Known, RowsRise, row_then}
use Rattle.cf_volume_points.specs.Saving.{SavedIfLeft}
use Rattle.cf_volume_points.specs.Sound.{IsKeepable, Sound, header_now, image_now, last_number, len_now}
use Rattle.cf_volume_points.specs.Standing.{AreWhole, IsBookOf, IsLogOf, cluster_on, clusters_on}
use Rattle.cf_volume_points.proofs.Apart.{head_once, owned_apart, row_clusters}
use Rattle.cf_volume_points.proofs.Counted.{used_committed, used_now}
use Rattle.cf_volume_points.proofs.Frames.{holding_frame, same_all, stands_frame}
use Rattle.cf_volume_points.proofs.KeptSound.{all_placed, all_there, means_all, names_apart, no_top, root_there, rows_bytes, rows_found, rows_sound}
use Rattle.cf_volume_points.proofs.RowOf.{rows_are_of_items}
use Rattle.cf_table.proofs.Lengths.{spelled_length}
use Rattle.cf_table.specs.Spelling.{row_value}
use Rattle.cf_table.specs.Tables.{RisesFrom, row_of, rows_len}
use Rattle.cf_table.specs.declared.rows.Row.{Row}

-- a disk of a fit size is large enough
pub fit_ground : (n : ℕ) → IsFitSize n → IsGroundSize n
fit_ground n fit = (fit.0, omega (arith, fit.1))

pub records_length : (rs : List AuxRecord) → length (flat_map spell_record rs) ≡ sum_by aux_len rs
records_length rs = length-flat_map spell_record rs ∙ ap (λ (f : AuxRecord → ℕ). sum_by f rs) (λ i x. record_length x i)

rows_length : (rows : List Row) → length (flat_map spell_row (map row_value rows)) ≡ rows_len rows
rows_length rows =
    let whole = spelled_length rows in
    let parts = length-append (in_bytes 4 (length (map row_value rows))) (flat_map spell_row (map row_value rows)) in
    let count = in_bytes-length 4 (length (map row_value rows)) in
    omega (arith, whole, parts, count)

-- the image now is as long as is kept
pub image_len_is : (k : Known) → length (spell_image (image_now k)) ≡ len_now k
image_len_is k =
    let whole = image_length (image_now k) in
    let rows = rows_length k.table.rows in
    let records = records_length k.records in
    whole ∙ sums (length (flat_map spell_row (map row_value k.table.rows))) (rows_len k.table.rows) (length (flat_map spell_record k.records)) (sum_by aux_len k.records) rows records
  where
    sums : (a b c d : ℕ) → a ≡ b → c ≡ d → 41 + a + c ≡ 41 + b + d
    sums a b c d p q = omega (arith, p, q)

-- each row of a volume that can be kept is sound
pub now_rows_sound : (s : State) (k : Known) (v : Volume) → Sound (size_of s) k → IsKeepable v → Holds s k v → AreSound (header_now k) (map row_value k.table.rows)
now_rows_sound s k v sound fit holds =
    rows_sound (header_now k) (cluster_on s.seen) v.book k.table.rows v.items sound.kept holds.rows
    (All-weaker (λ (i : Item). item_of v.items i.id ≡ Some i) (λ (i : Item). IsSoundRow k.table.next (header_now k).last (model.row_of v.book [] i)) of_item v.items (all_there 1 v.items fit.tree.order))
  where
    last_is : (header_now k).last ≡ last_number v
    last_is = λ j. record { epoch = holds.epoch j; place = holds.place j }

    of_item : (i : Item) → item_of v.items i.id ≡ Some i → IsSoundRow k.table.next (header_now k).last (model.row_of v.book [] i)
    of_item i e =
        subst (λ (n : ItemId). IsSoundRow n (header_now k).last (model.row_of v.book [] i)) (sym holds.next)
        (subst (λ (u : Usn). IsSoundRow v.next_item u (model.row_of v.book [] i)) (sym last_is) (fit.rows i.id i e))

-- the disk as it reads stands for the volume now
pub now_stands : (s : State) (k : Known) (v : Volume) → Sound (size_of s) k → AreSound (header_now k) (map row_value k.table.rows) → Holds s k v → Stands (length k.uses) (cluster_on s.seen) (image_now k) v.log v.book
now_stands s k v sound fit holds = record {
  rows = subst (λ (l : List Item). AreRowsOf (cluster_on s.seen) v.book (map row_value k.table.rows) l) holds.of_log.0 (rows_are_of_items (cluster_on s.seen) v.book k.table.rows v.items sound.kept holds.rows);
  sound = fit;
  apart = ap (are_apart (length k.uses)) (row_clusters k.table.rows) ∙ owned_apart k.uses (clusters_in_rows k.table.rows) holds.owns;
  count = holds.count;
  next = ap (λ (id : ItemId). id.0) holds.next ∙ holds.of_log.1;
  clock = holds.clock;
  records = holds.records;
  few = let e = length-map k.table.rows row_value in omega (arith, e, sound.few);
  short = let e = image_len_is k in omega (arith, e, sound.short);
}

-- the image now is sound
pub now_sound : (s : State) (k : Known) (v : Volume) → Sound (size_of s) k → IsKeepable v → Holds s k v → IsSound (length k.uses) (image_now k)
now_sound s k v sound fit holds =
    let means = means_all (cluster_on s.seen) v.book k.table.rows v.items holds.rows in
    let stands = now_stands s k v sound (now_rows_sound s k v sound fit holds) holds in
    record {
      rows = stands.sound;
      top = no_top k.table.rows v.items means fit.tree.order;
      root = root_there k.table.rows v.items means fit.tree fit.populated;
      placed = all_placed k.table.rows v.items means fit.tree fit.populated;
      named = names_apart k.table.rows v.items means fit.tree fit.populated;
      blocks = rows_bytes (cluster_on s.seen) v.book k.table.rows v.items sound.kept holds.rows;
      apart = stands.apart;
      few = stands.few;
      short = stands.short;
    }

-- the log now is one of the epoch

all_whole : (cluster : ℕ → List ℕ) (b : Book) (rows : List Row) (items : List Item) → HoldRows cluster b rows items → AreWhole items
all_whole cluster b [] [] h = tt
all_whole cluster b [] (i ∷ is) h = absurd h
all_whole cluster b (r ∷ rs) [] h = tt
all_whole cluster b (r ∷ rs) (i ∷ is) h = (h.0.means.bytes.even, h.0.means.bytes.numbers, all_whole cluster b rs is h.1)

above_all : (epoch place : ℕ) (n : Usn) → above (record { epoch = epoch; place = place }) n ≡ true → above (record { epoch = epoch + 1; place = 1 }) n ≡ true
above_all epoch place n h = earlier (omega (arith, not_later (ltb n.epoch epoch) refl h))
  where
    not_later : (t : Bool) → ltb n.epoch epoch ≡ t → (t || (eqb epoch n.epoch && ltb n.place place)) ≡ true → n.epoch ≤ epoch
    not_later true e h = let lt = ltb-true n.epoch epoch e in omega (arith, lt)
    not_later false e h = let same = eqb-true epoch n.epoch (and_left (eqb epoch n.epoch) (ltb n.place place) h) in omega (arith, same)
      where
        and_left : (a b : Bool) → (a && b) ≡ true → a ≡ true
        and_left true b e = refl
        and_left false b e = e

    earlier : n.epoch < epoch + 1 → above (record { epoch = epoch + 1; place = 1 }) n ≡ true
    earlier lt = ap (λ (t : Bool). t || (eqb (epoch + 1) n.epoch && ltb n.place 1)) (lt-ltb n.epoch (epoch + 1) lt)

all_above : (epoch place : ℕ) (log : List (Usn × Change)) → AllBelow (record { epoch = epoch; place = place }) log → AllBelow (record { epoch = epoch + 1; place = 1 }) log
all_above epoch place [] h = tt
all_above epoch place (c ∷ cs) h = (above_all epoch place c.0 h.0, all_above epoch place cs h.1)

pub log_now : (s : State) (k : Known) (v : Volume) → Holds s k v → IsLogOf v.epoch v.log
log_now s k v holds = record {
  below = all_above v.epoch (v.place + 1) v.log holds.of_log.2;
  whole = subst (λ (l : List Item). AreWhole l) holds.of_log.0 (all_whole (cluster_on s.seen) v.book k.table.rows v.items holds.rows);
}

-- the rows of a table stand in order
pub rows_rise : (low : ℕ) (rows : List Row) → RisesFrom low rows → RowsRise low (map row_value rows)
rows_rise low [] h = tt
rows_rise low (r ∷ rs) h = (h.0, rows_rise (r.id.0 + 1) rs h.1)

-- the uses of a commit

committed_now : (u : Use) → is_now u ≡ true → IsCommitted (committed u)
committed_now Free h = let z : false ≡ true = h in absurd (true≢false (sym z))
committed_now Held h = tt
committed_now Staged h = tt
committed_now Dropped h = let z : false ≡ true = h in absurd (true≢false (sym z))

same_once : (u : Use) → is_now (committed u) ≡ is_now u
same_once Free = refl
same_once Held = refl
same_once Staged = refl
same_once Dropped = refl

once_committed : (uses : List Use) (k : ℕ) → once (map committed uses) k ≡ once uses k
once_committed [] k = refl
once_committed (u ∷ us) zero = ap (λ (b : Bool). cond b 1 0) (same_once u)
once_committed (u ∷ us) (suc k) = once_committed us k

pub owns_committed : (uses : List Use) (ks : List ℕ) → Owns uses ks → Owns (map committed uses) ks
owns_committed uses ks owns k = owns k ∙ sym (once_committed uses k)

use_committed : (uses : List Use) (k : ℕ) → 1 ≤ once uses k → (k < length (map committed uses)) × IsCommitted (use_of (map committed uses) k)
use_committed [] k h = absurd (omega (arith, h))
use_committed (u ∷ us) zero h = by (is_now u) refl h
  where
    by : (b : Bool) → is_now u ≡ b → 1 ≤ cond b 1 0 → (0 < length (map committed (u ∷ us))) × IsCommitted (committed u)
    by true e h = (omega arith, committed_now u e)
    by false e h = absurd (omega (arith, h))
use_committed (u ∷ us) (suc k) h = let t = use_committed us k h in (omega (arith, t.0), t.1)

pub held_committed : (uses : List Use) (all ks : List ℕ) → Owns uses all → ((k : ℕ) → times k ks ≤ times k all) → HoldsCommitted (map committed uses) ks
held_committed uses all [] owns part = All-nil (λ k. (k < length (map committed uses)) × IsCommitted (use_of (map committed uses) k))
held_committed uses all (k ∷ ks) owns part =
    All-cons (λ j. (j < length (map committed uses)) × IsCommitted (use_of (map committed uses) j)) k ks
    (use_committed uses k (omega (arith, head_once k ks, part k, owns k)))
    (held_committed uses all ks owns (λ j. omega (arith, part j)))

-- what is known after a commit
abbrev pub committed_known : Journal → Known → Known
committed_known j k = record k { journal = j; uses = map committed k.uses; rows_then = []; next_then = k.table.next; records_then = []; keys_made = []; kept = k.count; clock_then = k.clock; used_then = how_many is_now (map committed k.uses); put_since = 0 }

-- no row has an id from the next one on
pub below_next : (h : Header) (rows : List Row) (id : ItemId) → AreSound h (map row_value rows) → cond (ltb id.0 h.next.0) (row_of rows id) None ≡ row_of rows id
below_next h rows id sound = by (ltb id.0 h.next.0) refl
  where
    none : (l : List Row) → AreSound h (map row_value l) → h.next.0 ≤ id.0 → row_of l id ≡ None
    none [] s high = refl
    none (r ∷ rs) s high = cond-false (eqb r.id.0 id.0) (Some r) (row_of rs id) (ne_eqb r.id.0 id.0 (λ e. omega (arith, e, high, s.0.id))) ∙ none rs s.1 high

    by : (t : Bool) → ltb id.0 h.next.0 ≡ t → cond t (row_of rows id) None ≡ row_of rows id
    by true e = refl
    by false e = sym (none rows sound (ltb-false id.0 h.next.0 e))

-- what a content of format 2 tells
pub in_second : (y : Content) (clusters : ℕ) (i : Image) → y.format ≡ Second → Tells y.image y.payloads i → IsSound clusters i → IsContentsIn y.format y.image y.payloads clusters i
in_second y clusters i second told sound = subst (λ (f : Format). IsContentsIn f y.image y.payloads clusters i) (sym second) (record { told = told; sound = sound })

-- the volume with its last point at what it is now
abbrev pub with_points_now : Point → List Point → Volume → Volume
with_points_now p ps v = record v { points = p ∷ ps; items_then = v.items; put_since = 0 }

module _ (old new : State) (j : Journal) (k : Known) (v : Volume) (p : Point) (ps : List Point) (sound : Sound (size_of old) k) (fit : IsSound (length k.uses) (image_now k)) (holds : Holds old k v) (count_is : p.count ≡ length v.log) (book_is : p.book ≡ v.book) where
  whole_log : take p.count v.log ≡ v.log
  whole_log = take_all p.count v.log (omega (arith, count_is))

  pub commit_at : SavedIfLeft j new (image_now k) → AreRecordsFrom None k.records → size_of new ≡ size_of old → Only new.seen new → clusters new.seen ≡ clusters old.seen → At new (committed_known j k) (with_points_now p ps v)
  commit_at saved keys size only rest = record {
    last = record {
      point = p;
      earlier = ps;
      points_are = refl;
      early = omega (arith, count_is);
      count = holds.count ∙ sym count_is;
      clock = holds.clock ∙ ap (λ (b : Book). b.clock) (sym book_is);
      image = image_now k;
      next = refl;
      kept = record {
        backed = λ c left.
            let s = saved c left in
            (s.0, s.1, in_second s.0 (length (map committed k.uses)) (image_now k) s.2 s.3 (subst (λ (n : ℕ). IsSound n (image_now k)) (sym (length-map k.uses committed)) fit));
        few = let long = length-map k.uses committed in omega (arith, long, sound.clusters, sound.fit.1);
        epoch_is = holds.epoch;
        clusters = same_count;
        reads = at_image new.seen refl;
        stands = λ c left. at_image c (only c left);
        book = at_point (λ log b. IsBookOf (items_of log) b) (subst (λ (l : List Item). IsBookOf l v.book) holds.of_log.0 holds.book);
        given = at_point (λ log b. IsLogOf v.epoch log) (log_now old k v holds);
        held = held_committed k.uses (clusters_in_rows k.table.rows) (clusters_of (map row_value k.table.rows)) holds.owns (λ n. let e = ap (times n) (row_clusters k.table.rows) in omega (arith, e));
        rise = rows_rise 0 k.table.rows sound.rises;
        keys_rise = keys;
      };
      known = record { rows = λ id. rows_found k.table.rows id ∙ ap (option_map row_value) (sym (all_below id)); records = λ key. refl };
    };
    now = record {
      rows = holding_frame (cluster_on old.seen) (cluster_on new.seen) v.book k.table.rows v.items (same_all old.seen new.seen rest (clusters_in_rows k.table.rows)) holds.rows;
      owns = owns_committed k.uses (clusters_in_rows k.table.rows) holds.owns;
      of_log = holds.of_log;
      next = holds.next;
      count = holds.count;
      epoch = holds.epoch;
      place = holds.place;
      clock = holds.clock;
      records = holds.records;
      book = holds.book;
      clusters = holds.clusters;
      within = let long = length-map k.uses committed in omega (arith, long, holds.within);
      fits = holds.fits;
      used = let h = used_committed k.uses (blocks_used v.items) (used_now (cluster_on old.seen) v.book k.table.rows v.items k.uses holds.rows holds.owns) in omega (arith, h);
      load =
          let used = used_now (cluster_on old.seen) v.book k.table.rows v.items k.uses holds.rows holds.owns in
          let now = now_committed k.uses in
          omega (arith, used, now);
      exact = λ small.
          let used = used_now (cluster_on old.seen) v.book k.table.rows v.items k.uses holds.rows holds.owns in
          let now = now_committed k.uses in
          omega (arith, used, now);
    };
  }
    where
      all_below : (id : ItemId) → row_then id [] k.table.next (row_of k.table.rows id) ≡ row_of k.table.rows id
      all_below id = below_next (header_now k) k.table.rows id fit.rows

      same_count : length (map committed k.uses) ≡ clusters_on new.seen
      same_count = length-map k.uses committed ∙ sound.clusters ∙ ap (λ (n : ℕ). (n - 3145728) / 4096) (sym size)

      at_point : (P : List (Usn × Change) → Book → Type 0) → P v.log v.book → P (take p.count v.log) p.book
      at_point P h = subst (λ (l : List (Usn × Change)). P l p.book) (sym whole_log) (subst (λ (b : Book). P v.log b) (sym book_is) h)

      now_at_new : Stands (length k.uses) (cluster_on new.seen) (image_now k) v.log v.book
      now_at_new = stands_frame (length k.uses) (cluster_on old.seen) (cluster_on new.seen) (image_now k) v.log v.book (same_all old.seen new.seen rest (clusters_of (map row_value k.table.rows))) (now_stands old k v sound fit.rows holds)

      at_image : (c : List ℕ) → c ≡ new.seen → Stands (length (map committed k.uses)) (cluster_on c) (image_now k) (take p.count v.log) p.book
      at_image c e = at_point (λ log b. Stands (length (map committed k.uses)) (cluster_on c) (image_now k) log b)
          (subst (λ (n : ℕ). Stands n (cluster_on c) (image_now k) v.log v.book) (sym (length-map k.uses committed))
          (subst (λ (d : List ℕ). Stands (length k.uses) (cluster_on d) (image_now k) v.log v.book) (sym e) now_at_new))
