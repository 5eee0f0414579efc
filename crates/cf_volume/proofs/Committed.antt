-- A commit of the parts of a volume.
use Rattle.std.proofs.Common.{◌≡◌, ℕ, ◌<◌, false, List, [], ◌∷◌, length, map, Some, None, sym, ◌∙◌, ap, subst, arith}
use Rattle.std.specs.Prelude.{All, ◌-◌, ◌/◌, sum_by}
use Rattle.std.proofs.lemmas.List.{length-map}
use Rattle.std.proofs.lemmas.List.Elements.{All-head, All-tail, All-nil, All-cons, All-weaker}
use Rattle.cf_volume_commit.specs.Differing.{IsThen}
use Rattle.cf_volume_commit.specs.Leading.{CanBeWritten, HaveStoredPins}
use Rattle.cf_volume_points.specs.declared.earlier.Earlier.{Earlier}
use Rattle.cf_clusters.specs.Roles.{committed, how_many, is_now}
use Rattle.cf_clusters.specs.declared.uses.Use.{Use}
use Rattle.cf_disk.specs.Disk.{Leaves, Only, State, size_of}
use Rattle.cf_volume_image.specs.Contents.{image_of}
use Rattle.cf_volume_image.specs.Spelled.{AreRecordsFrom}
use Rattle.cf_journal.specs.Content.{clusters}
use Rattle.cf_journal.specs.declared.journals.Journal.{Journal}
use Rattle.cf_model.specs.Books.{Book}
use Rattle.cf_model.specs.Formats.{Image}
use Rattle.cf_model.specs.Images.{aux_len}
use Rattle.cf_model.specs.Items.{Item, item_of}
use Rattle.cf_model.specs.Points.{with_room_point, with_sure_point}
use Rattle.cf_model.specs.State.{Volume}
use Rattle.cf_volume_points.proofs.Commits.{committed_known, image_len_is}
use Rattle.cf_volume_points.proofs.KeptSound.{all_there}
use Rattle.cf_volume_points.proofs.Points.{Fair}
use Rattle.cf_volume_points.proofs.RowRoom.{held_count, held_len}
use Rattle.cf_volume_points.proofs.Saves.{room_at, saving_leaves, sure_at}
use Rattle.cf_volume_points.specs.At.{At, StandsEither}
use Rattle.cf_volume_points.specs.Clusters.{IsGroundSize, clusters_in_rows}
use Rattle.cf_volume_points.specs.Holding.{HoldRows}
use Rattle.cf_volume_points.specs.Known.{Known}
use Rattle.cf_volume_points.specs.Saving.{IsBacked, IsSavingFrom, SavedIfLeft}
use Rattle.cf_volume_points.specs.Sound.{IsKeepable, Sound}
use Rattle.cf_volume_points.specs.Standing.{cluster_on}
use Rattle.cf_table.proofs.RowOfItem.{rows_have_room}
use Rattle.cf_table.specs.Booked.{AreRowsOf}
use Rattle.cf_table.specs.Reading.{IsStored}
use Rattle.cf_table.specs.Tables.{AreTableRows, RisesFrom}
use Rattle.cf_table.specs.declared.rows.Row.{Row}
use Rattle.cf_volume_changes.specs.Notes.{NotesNothing}
use Rattle.cf_volume_changes.specs.Steady.{Steady, known_of}
use Rattle.cf_volume_changes.specs.declared.parts.Parts.{Parts}

-- what is noted is what differs from the last point
pub then_is : (s : State) (p : Parts) (v : Volume) (at : At s (known_of p) v) → IsThen p.then p.contents at.last.image
then_is s p v at = record { rows = at.last.known.rows; records = at.last.known.records; rise = at.last.kept.rise; keys_rise = at.last.kept.keys_rise }

-- the pins of the rows are those of the items

rows_pins : (cluster : ℕ → List ℕ) (b : Book) (rows : List Row) (items : List Item) → HoldRows cluster b rows items → All (λ i. IsStored i.pin) items → HaveStoredPins rows
rows_pins cluster b [] [] h p = All-nil (λ (r : Row). IsStored r.pin)
rows_pins cluster b [] (i ∷ is) h p = absurd h
rows_pins cluster b (r ∷ rs) [] h p = absurd h
rows_pins cluster b (r ∷ rs) (i ∷ is) h p =
    All-cons (λ (x : Row). IsStored x.pin) r rs (subst IsStored (sym h.0.means.pin) (All-head (λ (x : Item). IsStored x.pin) i is p)) (rows_pins cluster b rs is h.1 (All-tail (λ (x : Item). IsStored x.pin) i is p))

pub stored_pins : (s : State) (k : Known) (v : Volume) → At s k v → IsKeepable v → HaveStoredPins k.table.rows
stored_pins s k v at keep = rows_pins (cluster_on s.seen) v.book k.table.rows v.items at.now.rows
    (All-weaker (λ (i : Item). item_of v.items i.id ≡ Some i) (λ (i : Item). IsStored i.pin) (λ i e. keep.pins i.id i e) v.items (all_there 1 v.items keep.tree.order))

-- a volume with its disk can be written

pub booked_rows : (cluster : ℕ → List ℕ) (b : Book) (rows : List Row) (items : List Item) → HoldRows cluster b rows items → AreRowsOf b rows items
booked_rows cluster b [] [] h = tt
booked_rows cluster b [] (i ∷ is) h = absurd h
booked_rows cluster b (r ∷ rs) [] h = absurd h
booked_rows cluster b (r ∷ rs) (i ∷ is) h = (record { means = h.0.means; anchor = h.0.anchor; last = h.0.last; blocks = h.0.blocks }, booked_rows cluster b rs is h.1)

pub is_writable : (s : State) (p : Parts) (v : Volume) → At s (known_of p) v → AreTableRows p.contents.rows.rows → CanBeWritten p.contents
is_writable s p v at table = record {
  room = rows_have_room v.book p.contents.rows.rows v.items table (booked_rows (cluster_on s.seen) v.book p.contents.rows.rows v.items at.now.rows);
  few = let count = held_count (cluster_on s.seen) v.book p.contents.rows.rows v.items at.now.rows in omega (arith, count, at.now.fits.few);
  short =
      let long = image_len_is (known_of p) in
      let rows = held_len (cluster_on s.seen) v.book p.contents.rows.rows v.items table at.now.rows in
      let records = ap (sum_by aux_len) at.now.records in
      omega (arith, long, rows, records, at.now.fits.short);
}

-- what holds of the parts

pub sound_parts : (size : ℕ) (p : Parts) → Steady size (known_of p) → RisesFrom 0 p.contents.rows.rows → AreTableRows p.contents.rows.rows → CanBeWritten p.contents → Sound size (known_of p)
sound_parts size p steady rises table can = record {
  fit = steady.fit;
  clusters = steady.clusters;
  rises = rises;
  kept = table;
  room = can.room;
  inside = steady.inside;
  few = can.few;
  short = let long = image_len_is (known_of p) in omega (arith, long, can.short);
}

-- the parts after a commit

pub committed_is : (k : Known) (journal : Journal) (held : List Use) (then : Earlier) (used : ℕ) → NotesNothing k.table.next then → held ≡ map committed k.uses → used ≡ how_many is_now held
    → committed_known journal k ≡ record k { journal = journal; uses = held; rows_then = then.rows.rows; next_then = then.next; records_then = then.records; keys_made = then.made; kept = k.count; clock_then = k.clock; used_then = used; put_since = 0 }
committed_is k journal held then used nothing uses used_is = λ i. record k {
  journal = journal;
  uses = sym uses i;
  rows_then = sym nothing.rows i;
  next_then = sym nothing.next_is i;
  records_then = sym nothing.records i;
  keys_made = sym nothing.made i;
  kept = k.count;
  clock_then = k.clock;
  used_then = sym (used_is ∙ ap (how_many is_now) uses) i;
  put_since = 0;
}

pub committed_steady : (old new : State) (k : Known) (journal : Journal) → Steady (size_of old) k → size_of new ≡ size_of old → journal.broken ≡ false → Steady (size_of new) (committed_known journal k)
committed_steady old new k journal steady size usable =
    let long = length-map k.uses committed in
    record {
      fit = subst IsGroundSize (sym size) steady.fit;
      clusters = long ∙ steady.clusters ∙ ap (λ (n : ℕ). (n - 3145728) / 4096) (sym size);
      inside = subst (λ (n : ℕ). All (λ j. j < n) (clusters_in_rows k.table.rows)) (sym long) steady.inside;
      room = steady.room;
      later = steady.later;
      earlier = omega arith;
      usable = usable;
    }

-- What `save` asks of the last point, and what it gives then.
abbrev Given : (ℕ → Image → Type 0) → State → Parts → Type 0
Given P old p = (n : ℕ) (image : Image) → IsBacked old p.journal n image → IsThen p.then p.contents image → HaveStoredPins p.contents.rows.rows → P n image

module _ (old new : State) (p : Parts) (fair : Fair old) (steady : Steady (size_of old) (known_of p)) (rises : RisesFrom 0 p.contents.rows.rows) (table : AreTableRows p.contents.rows.rows) (can : CanBeWritten p.contents)
    (v : Volume) (at : At old (known_of p) v) (keep : IsKeepable v) where
  sound : Sound (size_of old) (known_of p)
  sound = sound_parts (size_of old) p steady rises table can

  of_last : (P : ℕ → Image → Type 0) → Given P old p → P (length p.held) at.last.image
  of_last P given = given (length p.held) at.last.image at.last.kept.backed (then_is old p v at) (stored_pins old (known_of p) v at keep)

  pub commit_leaves : Given (λ n image. Leaves old new (IsSavingFrom old n image (image_of p.contents))) old p → Leaves old new (StandsEither v)
  commit_leaves crash = saving_leaves old new (known_of p) v fair at sound keep (of_last (λ n image. Leaves old new (IsSavingFrom old n image (image_of p.contents))) crash)

  module _ (journal : Journal) (held : List Use) (then : Earlier) (nothing : NotesNothing p.contents.rows.next then) (uses : held ≡ map committed p.held) (used : ℕ) (used_is : used ≡ how_many is_now held) (saved : Given (λ n image. SavedIfLeft journal new (image_of p.contents)) old p)
      (keys : AreRecordsFrom None p.contents.records) (size : size_of new ≡ size_of old) (only : Only new.seen new) (rest : clusters new.seen ≡ clusters old.seen) where
    abbrev pub after : Known
    after = record (known_of p) { journal = journal; uses = held; rows_then = then.rows.rows; next_then = then.next; records_then = then.records; keys_made = then.made; kept = p.contents.count; clock_then = p.contents.clock; used_then = used; put_since = 0 }

    pub commit_sure : At new after (with_sure_point v)
    commit_sure = subst (λ (k : Known). At new k (with_sure_point v)) (committed_is (known_of p) journal held then used nothing uses used_is)
        (sure_at old new (known_of p) v fair at journal sound keep (of_last (λ n image. SavedIfLeft journal new (image_of p.contents)) saved) keys size only rest)

    pub commit_room : At new after (with_room_point v)
    commit_room = subst (λ (k : Known). At new k (with_room_point v)) (committed_is (known_of p) journal held then used nothing uses used_is)
        (room_at old new (known_of p) v fair at journal sound keep (of_last (λ n image. SavedIfLeft journal new (image_of p.contents)) saved) keys size only rest)
