-- What an opening makes of what it found.
use Rattle.std.proofs.Common.{◌≡◌, inl, inr, ⊎_elim, ℕ, ◌+◌, ◌<◌, List, length, map, None, refl, sym, ◌∙◌, ap, subst, arith}
use Rattle.cf_base.specs.declared.changes.Change.{Change}
use Rattle.cf_base.specs.declared.ids.Usn.{Usn}
use Rattle.cf_volume_commit.proofs.OpenedAt.{opened_holds, sound_raised, stands_raised}
use Rattle.cf_volume_commit.proofs.RaisedEpoch.{can_be_written, raised_at, sound_after, sound_before}
use Rattle.cf_volume_commit.proofs.ToldPins.{pins_told}
use Rattle.cf_volume_commit.specs.Leading.{CanBeWritten}
use Rattle.cf_volume_commit.specs.Loaded.{Finds, HoldsImage, HoldsSecond, StandsOrWas, StandsThen, known_of, number_after, raised_image}
use Rattle.cf_volume_commit.specs.declared.parts.Parts.{Parts}
use Rattle.cf_clusters.specs.Roles.{committed}
use Rattle.cf_disk.specs.Disk.{Leaves, Only, State, size_of}
use Rattle.cf_disk.specs.Leaving.{leaves_then, leaves_weaker}
use Rattle.cf_volume_image.proofs.Formats.{sound_in_second}
use Rattle.cf_volume_image.proofs.Told.{one_state_in}
use Rattle.cf_volume_image.specs.Contents.{image_of}
use Rattle.cf_volume_image.specs.Sound.{IsSound}
use Rattle.cf_volume_image.specs.Spelled.{AreRecordsFrom}
use Rattle.cf_volume_image.specs.States.{IsContentsIn}
use Rattle.cf_volume_image.specs.declared.contents.Contents.{Contents}
use Rattle.cf_journal.specs.Content.{Content, clusters}
use Rattle.cf_journal.specs.Content as journal
use Rattle.cf_journal.specs.Settled.{IsFitSize}
use Rattle.cf_model.specs.Books.{Book}
use Rattle.cf_model.specs.Formats.{Image}
use Rattle.cf_model.specs.Numbers.{most}
use Rattle.cf_model.specs.Standing.{Stands, clusters_of}
use Rattle.std.specs.Prelude.{◌-◌, ◌/◌}
use Rattle.cf_volume_points.proofs.Commits.{fit_ground, in_second}
use Rattle.cf_volume_points.proofs.Frames.{same_all, stands_frame}
use Rattle.cf_volume_points.proofs.Saves.{after_stands, same_number}
use Rattle.cf_volume_points.specs.At.{At}
use Rattle.cf_volume_points.specs.Holding.{Holds}
use Rattle.cf_volume_points.specs.Saving.{IsSaving, Saved}
use Rattle.cf_volume_points.specs.Sound.{Sound}
use Rattle.cf_volume_points.specs.Standing.{Standing, cluster_on, clusters_for, clusters_on, opened}
use Rattle.cf_table.specs.Tables.{AreTableRows, RisesFrom}

-- what is opened is on the disk
pub found_image : (old mid : State) (x : Content) (p : Parts) → Finds old mid x p → (q : Parts) → q.contents ≡ p.contents
    → (i : Image) × HoldsImage old.seen i × (i.header.last.epoch < most) × (image_of q.contents ≡ raised_image i.header.last.epoch i)
found_image old mid x p f q same = (
  f.image,
  record { content = x; holds = subst (λ (d : List ℕ). journal.Stands d x) f.seen (p.journal.side, p.journal.generation, f.settled.ready.stands); told = f.told },
  f.below,
  ap image_of same ∙ f.is,
)

module _ (old mid : State) (x : Content) (p : Parts) (f : Finds old mid x p) (fit : IsFitSize (size_of old)) where
  sound_now : IsSound (clusters_on old.seen) (image_of p.contents)
  sound_now = subst (λ (i : Image). IsSound (clusters_on old.seen) i) (sym f.is) (sound_raised f.image.header.last.epoch (clusters_on old.seen) f.image refl (sound_in_second x.format (clusters_on old.seen) f.image f.told.sound))

  sound_held : IsSound (length p.held) (image_of p.contents)
  sound_held = subst (λ (n : ℕ). IsSound n (image_of p.contents)) (sym f.opens.size) sound_now

  -- what is on the disk then
  pub opening_holds : (q : Parts) (new : State) → q.contents ≡ p.contents → Saved q.journal new (image_of p.contents) → size_of new ≡ size_of mid → HoldsSecond new.seen (image_of q.contents)
  opening_holds q new contents saved size = record {
    content = saved.0;
    second = saved.2;
    holds = (q.journal.side, q.journal.generation, saved.1.ready.stands);
    told = subst (λ (k : Contents). IsContentsIn saved.0.format saved.0.image saved.0.payloads (clusters_on new.seen) (image_of k)) (sym contents)
        (in_second saved.0 (clusters_on new.seen) (image_of p.contents) saved.2 saved.3
        (subst (λ (n : ℕ). IsSound n (image_of p.contents)) (sym (ap (λ (n : ℕ). (n - 3145728) / 4096) (size ∙ ap length f.seen))) sound_now));
  }

  pub found_can : CanBeWritten p.contents
  found_can = can_be_written (clusters_on old.seen) p.contents f.room sound_now

  pub found_stands : StandsThen p mid x f.image
  found_stands =
      let rows = sym (ap (λ (i : Image). i.rows) f.is) in
      record {
        settled = f.settled;
        told = f.told.told;
        rows = rows;
        records = sym (ap (λ (i : Image). i.records) f.is);
        pins = pins_told x.format x.image x.payloads f.image p.contents.rows.rows f.told.told rows;
      }

  module _ (rises : RisesFrom 0 p.contents.rows.rows) (kept : AreTableRows p.contents.rows.rows) where
    pub found_sound : Sound (size_of mid) (known_of p)
    found_sound = sound_before mid p (fit_ground (size_of mid) (subst (λ (d : List ℕ). IsFitSize (length d)) (sym f.seen) fit)) (f.opens.size ∙ ap clusters_on (sym f.seen)) rises kept found_can sound_held.apart

    module _ (e : ℕ) (log : List (Usn × Change)) (b : Book) (st : Standing e old.seen log b) where
      content_is : st.content ≡ x
      content_is = f.alone st.content st.holds

      image_is : st.image ≡ f.image
      image_is =
          one_state_in x.format x.image x.payloads (clusters_on old.seen) st.image f.image
          (subst (λ (y : Content). IsContentsIn y.format y.image y.payloads (clusters_on old.seen) st.image) content_is st.told) f.told

      epoch_is : f.image.header.last.epoch ≡ e
      epoch_is = ap (λ (i : Image). i.header.last.epoch) (sym image_is) ∙ st.epoch_is

      last_is : p.contents.last ≡ number_after e
      last_is = ap (λ (i : Image). i.header.last) f.is ∙ ap number_after epoch_is

      pub below_most : e < most
      below_most = let is = epoch_is in let below = f.below in subst (λ (n : ℕ). n < most) is below

      stands_mid : Stands (clusters_on old.seen) (cluster_on mid.seen) (image_of p.contents) log b
      stands_mid =
          subst (λ (i : Image). Stands (clusters_on old.seen) (cluster_on mid.seen) i log b) (sym f.is)
          (subst (λ (d : List ℕ). Stands (clusters_on old.seen) (cluster_on d) (raised_image f.image.header.last.epoch f.image) log b) (sym f.seen)
          (stands_raised f.image.header.last.epoch (clusters_on old.seen) (cluster_on old.seen) f.image log b refl
          (subst (λ (i : Image). Stands (clusters_on old.seen) (cluster_on old.seen) i log b) image_is st.stands)))

      holds_mid : Holds mid (known_of p) (opened (e + 1) log b (clusters_for old))
      holds_mid = opened_holds mid p e (clusters_on old.seen) log b stands_mid st.given st.book last_is f.opens (clusters_for old) f.limit (omega arith) kept

      -- the content of before
      still : (d : List ℕ) → journal.Stands d x × ((c : List ℕ) × mid.may_leave c × (clusters d ≡ clusters c)) → Standing e d log b
      still d h =
          let same : clusters d ≡ clusters old.seen = h.1.2 ∙ ap clusters (f.only h.1.0 h.1.1) in
          record {
            content = st.content;
            image = st.image;
            holds = subst (λ (y : Content). journal.Stands d y) (sym content_is) h.0;
            told = subst (λ (n : ℕ). IsContentsIn st.content.format st.content.image st.content.payloads n st.image) (sym (same_number d old.seen same)) st.told;
            epoch_is = st.epoch_is;
            stands = subst (λ (n : ℕ). Stands n (cluster_on d) st.image log b) (sym (same_number d old.seen same))
                (stands_frame (clusters_on old.seen) (cluster_on old.seen) (cluster_on d) st.image log b (same_all old.seen d same (clusters_of st.image.rows)) st.stands);
            book = st.book;
            given = st.given;
          }

      pub opening_leaves : (new : State) → Leaves old mid old.may_leave → Leaves mid new (IsSaving mid x (image_of p.contents)) → Leaves old new (StandsOrWas e log b old)
      opening_leaves new first second =
          leaves_then old mid new (StandsOrWas e log b old) (IsSaving mid x (image_of p.contents)) (leaves_weaker old mid old.may_leave (StandsOrWas e log b old) first (λ c h. inl h)) second
          (λ d h. inr (⊎_elim (λ before. inl (still d before)) (λ after. inr (after_stands mid (known_of p) (opened (e + 1) log b (clusters_for old)) found_sound sound_held holds_mid d after)) h))

      pub opening_at : (q : Parts) (new : State) → q.contents ≡ p.contents → q.held ≡ map committed p.held → q.limit ≡ p.limit → Saved q.journal new (image_of p.contents) → AreRecordsFrom None p.contents.records
          → size_of new ≡ size_of mid → Only new.seen new → clusters new.seen ≡ clusters mid.seen → At new (known_of q) (opened (e + 1) log b (clusters_for old))
      opening_at q new contents held same saved keys size only rest =
          raised_at p q contents held same mid new (opened (e + 1) log b (clusters_for old)) found_sound sound_held holds_mid (λ image left. saved) keys size only rest

    pub opening_sound : (q : Parts) → q.contents ≡ p.contents → q.held ≡ map committed p.held → q.limit ≡ p.limit → Sound (size_of old) (known_of q)
    opening_sound q contents held same = sound_after p q contents held same (size_of old) (subst (λ (d : List ℕ). Sound (length d) (known_of p)) f.seen found_sound)
