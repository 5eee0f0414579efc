-- What a crash within a commit leaves.
use Rattle.std.proofs.Common.{◌≡◌, inl, inr, ⊎_elim, ℕ, List, [], ◌∷◌, length, map, take, refl, sym, ◌∙◌, ap, subst, arith}
use Rattle.std.specs.Prelude.{◌-◌, ◌/◌}
use Rattle.std.proofs.lemmas.List.{length-drop}
use Rattle.cf_base.specs.declared.changes.Change.{Change}
use Rattle.cf_base.specs.declared.ids.Usn.{Usn}
use Rattle.cf_clusters.specs.declared.uses.Use.{Use}
use Rattle.cf_codec.specs.declared.formats.Format.TheVariants.{Second}
use Rattle.cf_disk.specs.Disk.{Leaves, Only, State, size_of}
use Rattle.cf_disk.specs.Leaving.{leaves_weaker}
use Rattle.cf_journal.specs.Content.{clusters}
use Rattle.cf_journal.specs.Content as journal
use Rattle.cf_journal.specs.declared.journals.Journal.{Journal}
use Rattle.cf_model.specs.Books.{Book}
use Rattle.cf_model.specs.Formats.{Image}
use Rattle.cf_model.specs.Items.{Item}
use Rattle.cf_model.specs.Points.{point_now, with_room_point, with_sure_point}
use Rattle.cf_model.specs.Standing.{Stands, clusters_of}
use Rattle.cf_model.specs.State.{Point, Volume}
use Rattle.std.specs.Prelude.{true, false, None}
use Rattle.cf_volume_points.specs.At.{At, Kept, StandsEither, StandsLast, StandsPoint}
use Rattle.cf_volume_points.specs.Holding.{Holds}
use Rattle.cf_volume_points.specs.Known.{Known}
use Rattle.cf_volume_points.specs.Saving.{IsSavingFrom, SavedIfLeft}
use Rattle.cf_volume_points.specs.Sound.{IsKeepable, Sound, image_now}
use Rattle.cf_volume_points.specs.Standing.{IsBookOf, Standing, cluster_on, clusters_on}
use Rattle.cf_volume_points.proofs.Commits.{commit_at, committed_known, in_second, log_now, now_sound, now_stands}
use Rattle.cf_volume_points.proofs.Frames.{same_all, stands_frame}
use Rattle.cf_volume_points.proofs.Points.{Fair, kept_stands, stage_stands}
use Rattle.cf_volume_image.specs.Sound.{IsSound}
use Rattle.cf_volume_image.specs.Spelled.{AreRecordsFrom}
use Rattle.cf_volume_image.specs.States.{IsContentsIn, Tells}
use Rattle.cf_journal.specs.Content.{Content}
use Rattle.cf_table.specs.Spelling.{row_value}
use Rattle.cf_clusters.specs.Area.{KeepsWhere}
use Rattle.cf_clusters.specs.Roles.{IsCommitted}

pub same_number : (c d : List ℕ) → clusters c ≡ clusters d → clusters_on c ≡ clusters_on d
same_number c d same = ap (λ (n : ℕ). n / 4096) (sym (length-drop 3145728 c) ∙ ap length same ∙ length-drop 3145728 d)

module _ {image : Image} (old : State) (j : Journal) (uses : List Use) (epoch : ℕ) (log : List (Usn × Change)) (b : Book) (fair : Fair old) (kept : Kept old j uses epoch log b image) where
  number_on : (d : List ℕ) → old.may_leave d → length uses ≡ clusters_on d
  number_on d left = kept.clusters ∙ ap (λ (n : ℕ). (n - 3145728) / 4096) (sym (fair.same_size d left))

  abbrev StandsBefore : Content → List ℕ → Type 0
  StandsBefore x c = journal.Stands c x × ((d : List ℕ) × old.may_leave d × (clusters c ≡ clusters d))

  -- the content before
  pub before_stands : (x : Content) → IsContentsIn x.format x.image x.payloads (length uses) image → (c : List ℕ) → StandsBefore x c → Standing epoch c log b
  before_stands x told c h = record {
    content = x;
    image = image;
    holds = h.0;
    told = subst (λ (n : ℕ). IsContentsIn x.format x.image x.payloads n image) (number_on h.1.0 h.1.1 ∙ sym (same_number c h.1.0 h.1.2)) told;
    epoch_is = kept.epoch_is;
    stands = subst (λ (n : ℕ). Stands n (cluster_on c) image log b) (number_on h.1.0 h.1.1 ∙ sym (same_number c h.1.0 h.1.2))
        (stands_frame (length uses) (cluster_on h.1.0) (cluster_on c) image log b (same_all h.1.0 c h.1.2 (clusters_of image.rows)) (kept.stands h.1.0 h.1.1));
    book = kept.book;
    given = kept.given;
  }

-- the content of the state now, as it reads
pub after_stands : (old : State) (k : Known) (v : Volume) → Sound (size_of old) k → IsSound (length k.uses) (image_now k) → Holds old k v → (c : List ℕ) → ((y : Content) × journal.Stands c y × (y.format ≡ Second) × Tells y.image y.payloads (image_now k) × (clusters c ≡ clusters old.seen)) → Standing v.epoch c v.log v.book
after_stands old k v sound fit holds c h = record {
  content = h.0;
  image = image_now k;
  holds = h.1;
  told = in_second h.0 (clusters_on c) (image_now k) h.2 h.3 (subst (λ (n : ℕ). IsSound n (image_now k)) (sound.clusters ∙ sym (same_number c old.seen h.4)) fit);
  epoch_is = holds.epoch;
  stands = subst (λ (n : ℕ). Stands n (cluster_on c) (image_now k) v.log v.book) (sound.clusters ∙ sym (same_number c old.seen h.4))
      (stands_frame (length k.uses) (cluster_on old.seen) (cluster_on c) (image_now k) v.log v.book (same_all old.seen c h.4 (clusters_of (map row_value k.table.rows))) (now_stands old k v sound fit.rows holds));
  book = subst (λ (l : List Item). IsBookOf l v.book) holds.of_log.0 holds.book;
  given = log_now old k v holds;
}

last_point : (v : Volume) (p : Point) (ps : List Point) (c : List ℕ) → v.points ≡ p ∷ ps → Standing v.epoch c (take p.count v.log) p.book → StandsLast v c
last_point v p ps c e h = subst (λ (l : List Point). StandsPoint v.epoch v.log l c) (sym e) h

module _ (old new : State) (k : Known) (v : Volume) (fair : Fair old) (at : At old k v) where
  as_last : (c : List ℕ) → Standing v.epoch c (take at.last.point.count v.log) at.last.point.book → StandsLast v c
  as_last c h = last_point v at.last.point at.last.earlier c at.last.points_are h

  pub last_stands : (c : List ℕ) → old.may_leave c → StandsLast v c
  last_stands c left = as_last c (kept_stands old k.journal k.uses v.epoch (take at.last.point.count v.log) at.last.point.book fair at.last.kept c left)

  -- a call that is refused before it comes to the disk
  pub untouched : Leaves old old (StandsLast v)
  untouched = record { later = omega arith; now = last_stands; since = λ t c le left. inl left }

  pub untouched_either : Leaves old old (StandsEither v)
  untouched_either = leaves_weaker old old (StandsLast v) (StandsEither v) untouched (λ c h. inl h)

  -- calls on clusters that nobody holds
  pub staging_leaves : Leaves old new (KeepsWhere IsCommitted k.uses old) → Leaves old new (StandsLast v)
  staging_leaves leaves = leaves_weaker old new (λ c. Standing v.epoch c (take at.last.point.count v.log) at.last.point.book) (StandsLast v)
      (stage_stands old new k.journal k.uses v.epoch (take at.last.point.count v.log) at.last.point.book fair at.last.kept leaves) as_last

  pub reading_leaves : Leaves old new old.may_leave → Leaves old new (StandsLast v)
  reading_leaves leaves = leaves_weaker old new old.may_leave (StandsLast v) leaves last_stands

  -- a commit
  pub saving_leaves : Sound (size_of old) k → IsKeepable v → Leaves old new (IsSavingFrom old (length k.uses) at.last.image (image_now k)) → Leaves old new (StandsEither v)
  saving_leaves sound fit leaves = leaves_weaker old new (IsSavingFrom old (length k.uses) at.last.image (image_now k)) (StandsEither v) leaves
      (λ c h. ⊎_elim
      (λ before. inl (as_last c (before_stands old k.journal k.uses v.epoch (take at.last.point.count v.log) at.last.point.book fair at.last.kept h.0 h.1 c before)))
      (λ after. inr (after_stands old k v sound (now_sound old k v sound fit at.now) at.now c after)) h.2)

  module _ (j : Journal) (sound : Sound (size_of old) k) (fit : IsKeepable v) (saved : SavedIfLeft j new (image_now k)) (keys : AreRecordsFrom None k.records) (size : size_of new ≡ size_of old) (only : Only new.seen new) (rest : clusters new.seen ≡ clusters old.seen) where
    pub sure_at : At new (committed_known j k) (with_sure_point v)
    sure_at = commit_at old new j k v (point_now true v) [] sound (now_sound old k v sound fit at.now) at.now refl refl saved keys size only rest

    pub room_at : At new (committed_known j k) (with_room_point v)
    room_at = commit_at old new j k v (point_now false v) v.points sound (now_sound old k v sound fit at.now) at.now refl refl saved keys size only rest
