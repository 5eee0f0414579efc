-- The last point, as calls of the disk go on.
use Rattle.std.proofs.Common.{◌≡◌, inl, ℕ, ◌<◌, List, length, take, sym, ◌∙◌, ap, subst, arith}
use Rattle.std.specs.Prelude.{◌-◌, ◌/◌}
use Rattle.std.proofs.lemmas.List.Elements.{All-weaker}
use Rattle.cf_base.specs.declared.changes.Change.{Change}
use Rattle.cf_base.specs.declared.ids.Usn.{Usn}
use Rattle.cf_clusters.specs.Area.{KeepsWhere, SameWhere}
use Rattle.cf_clusters.specs.Roles.{IsCommitted, IsUsed, use_of}
use Rattle.cf_clusters.specs.declared.uses.Use.{Use}
use Rattle.cf_clusters.specs.declared.uses.Use.TheVariants.{Free, Held, Staged, Dropped}
use Rattle.cf_disk.specs.Disk.{Leaves, State, size_of}
use Rattle.cf_disk.specs.Leaving.{leaves_weaker}
use Rattle.cf_journal.specs.Halves.{settled_image, still_settled, area_stands}
use Rattle.cf_journal.specs.declared.journals.Journal.{Journal}
use Rattle.cf_model.specs.Books.{Book}
use Rattle.cf_model.specs.Formats.{Image}
use Rattle.cf_model.specs.Standing.{Stands, clusters_of}
use Rattle.cf_volume_points.specs.At.{Kept}
use Rattle.cf_volume_points.specs.Clusters.{HoldsCommitted}
use Rattle.cf_volume_points.specs.Saving.{IsBacked}
use Rattle.cf_volume_image.specs.States.{IsContentsIn}
use Rattle.cf_volume_points.specs.Standing.{Standing, cluster_on, clusters_on}
use Rattle.cf_volume_points.proofs.Frames.{SameIn, stands_frame}

-- what the law of a ground says of its images
pub record Fair (s : State) : Type 0 where
  pub same_size : (c : List ℕ) → s.may_leave c → length c ≡ size_of s

pub committed_used : (u : Use) → IsCommitted u → IsUsed u
committed_used Free h = h
committed_used Held h = h
committed_used Staged h = absurd h
committed_used Dropped h = h

-- the number of clusters of disks of one size
same_clusters : (c d : List ℕ) → length c ≡ length d → clusters_on c ≡ clusters_on d
same_clusters c d e = ap (λ (n : ℕ). (n - 3145728) / 4096) e

on_image : (n : ℕ) (c : List ℕ) (image : Image) (log : List (Usn × Change)) (b : Book) → n ≡ clusters_on c → Stands n (cluster_on c) image log b → Stands (clusters_on c) (cluster_on c) image log b
on_image n c image log b e h = subst (λ (m : ℕ). Stands m (cluster_on c) image log b) e h

-- each image that a crash may leave stands for it
pub kept_stands : {image : Image} → (s : State) (j : Journal) (uses : List Use) (epoch : ℕ) (log : List (Usn × Change)) (b : Book) → Fair s → Kept s j uses epoch log b image → (c : List ℕ) → s.may_leave c → Standing epoch c log b
kept_stands {image} s j uses epoch log b fair kept c left =
    let backed = kept.backed c left in
    record {
      content = backed.0;
      image = image;
      holds = (j.side, j.generation, settled_image j s backed.0 backed.1 c left (fair.same_size c left));
      told = subst (λ (n : ℕ). IsContentsIn (backed.0).format (backed.0).image (backed.0).payloads n image) (kept.clusters ∙ same_clusters s.seen c (sym (fair.same_size c left))) backed.2;
      epoch_is = kept.epoch_is;
      stands = on_image (length uses) c image log b (kept.clusters ∙ same_clusters s.seen c (sym (fair.same_size c left))) (kept.stands c left);
      book = kept.book;
      given = kept.given;
    }

-- the clusters of the last commit are not written
same_held : (uses : List Use) (c d : List ℕ) (ks : List ℕ) → HoldsCommitted uses ks → SameWhere IsCommitted uses c d → SameIn (cluster_on c) (cluster_on d) ks
same_held uses c d ks held same = All-weaker (λ k. (k < length uses) × IsCommitted (use_of uses k)) (λ k. cluster_on d k ≡ cluster_on c k) (λ k h. same.clusters k h.0 h.1) ks held

module _ {image : Image} (old new : State) (j : Journal) (uses : List Use) (epoch : ℕ) (log : List (Usn × Change)) (b : Book) (fair : Fair old) (kept : Kept old j uses epoch log b image) where
  still_means : (c : List ℕ) → KeepsWhere IsCommitted uses old c → Stands (length uses) (cluster_on c) image log b
  still_means c h = stands_frame (length uses) (cluster_on h.0) (cluster_on c) image log b (same_held uses h.0 c (clusters_of image.rows) kept.held h.2) (kept.stands h.0 h.1)

  still_stands : (c : List ℕ) → KeepsWhere IsCommitted uses old c → Standing epoch c log b
  still_stands c h =
      let size : length c ≡ size_of old = h.2.size ∙ fair.same_size h.0 h.1 in
      let backed = kept.backed h.0 h.1 in
      let ready = (backed.1).ready in
      record {
        content = backed.0;
        image = image;
        holds = (j.side, j.generation, area_stands j.side j.generation backed.0 old.seen c size (h.2.halves ∙ ready.durable h.0 h.1) ready.stands);
        told = subst (λ (n : ℕ). IsContentsIn (backed.0).format (backed.0).image (backed.0).payloads n image) (kept.clusters ∙ same_clusters old.seen c (sym size)) backed.2;
        epoch_is = kept.epoch_is;
        stands = on_image (length uses) c image log b (kept.clusters ∙ same_clusters old.seen c (sym size)) (still_means c h);
        book = kept.book;
        given = kept.given;
      }

  -- calls that leave the halves
  backed_still : (clusters : ℕ) → clusters ≡ length uses → size_of new ≡ size_of old → take 3145728 new.seen ≡ take 3145728 old.seen
      → ((c : List ℕ) → new.may_leave c → (d : List ℕ) × old.may_leave d × (take 3145728 c ≡ take 3145728 d)) → IsBacked new j clusters image
  backed_still clusters long size halves images c left =
      let was = images c left in
      let backed = kept.backed was.0 was.1 in
      (backed.0, still_settled j old new backed.0 backed.1 size halves images, subst (λ (n : ℕ). IsContentsIn (backed.0).format (backed.0).image (backed.0).payloads n image) (sym long) backed.2)

  -- calls on the clusters leave the last point
  pub stage_stands : Leaves old new (KeepsWhere IsCommitted uses old) → Leaves old new (λ c. Standing epoch c log b)
  stage_stands leaves = leaves_weaker old new (KeepsWhere IsCommitted uses old) (λ c. Standing epoch c log b) leaves still_stands

  pub kept_staged : (uses' : List Use) → length uses' ≡ length uses → ((k : ℕ) → IsCommitted (use_of uses k) → IsCommitted (use_of uses' k)) → size_of new ≡ size_of old
      → SameWhere IsCommitted uses old.seen new.seen → Leaves old new (KeepsWhere IsCommitted uses old) → Kept new j uses' epoch log b image
  kept_staged uses' long stays size same leaves = record {
    backed = λ c left. backed_still (length uses') long size same.halves (λ d now. let was = leaves.now d now in (was.0, was.1, was.2.halves)) c left;
    few = omega (arith, long, kept.few);
    epoch_is = kept.epoch_is;
    clusters = long ∙ kept.clusters ∙ same_clusters old.seen new.seen (sym size);
    reads = subst (λ (n : ℕ). Stands n (cluster_on new.seen) image log b) (sym long)
        (stands_frame (length uses) (cluster_on old.seen) (cluster_on new.seen) image log b (same_held uses old.seen new.seen (clusters_of image.rows) kept.held same) kept.reads);
    stands = λ c left. subst (λ (n : ℕ). Stands n (cluster_on c) image log b) (sym long) (still_means c (leaves.now c left));
    book = kept.book;
    given = kept.given;
    held = All-weaker (λ k. (k < length uses) × IsCommitted (use_of uses k)) (λ k. (k < length uses') × IsCommitted (use_of uses' k))
        (λ k h. (subst (λ (n : ℕ). k < n) (sym long) h.0, stays k h.1)) (clusters_of image.rows) kept.held;
    rise = kept.rise;
    keys_rise = kept.keys_rise;
  }

  -- a read leaves the last point
  pub read_stands : Leaves old new old.may_leave → Leaves old new (λ c. Standing epoch c log b)
  read_stands leaves = leaves_weaker old new old.may_leave (λ c. Standing epoch c log b) leaves (kept_stands old j uses epoch log b fair kept)

-- a call that does not come to the disk
pub no_call : {image : Image} → (s : State) (j : Journal) (uses : List Use) (epoch : ℕ) (log : List (Usn × Change)) (b : Book) → Fair s → Kept s j uses epoch log b image → Leaves s s (λ c. Standing epoch c log b)
no_call {image} s j uses epoch log b fair kept = record {
  later = omega arith;
  now = kept_stands s j uses epoch log b fair kept;
  since = λ t c le left. inl left;
}
