-- An epoch is raised: a payload of the header alone is put into the journal, or a whole image.
use Rattle.std.proofs.Common.{◌≡◌, ℕ, ◌<◌, ◌≤◌, Bool, true, not, List, [], ◌∷◌, length, map, Option, Some, None, refl, sym, ◌∙◌, ap, subst, arith}
use Rattle.std.specs.Prelude.{All, filter}
use Rattle.std.proofs.lemmas.Bool.{cond-true}
use Rattle.std.proofs.lemmas.List.{length-map}
use Rattle.cf_base.specs.declared.answers.AuxRecord.{AuxRecord}
use Rattle.cf_volume_commit.proofs.OwnedClusters.{inside_all}
use Rattle.cf_volume_commit.specs.Leading.{CanBeWritten, Follows, LeadsTo}
use Rattle.cf_volume_commit.specs.Loaded.{StandsThen, known_of}
use Rattle.cf_volume_commit.specs.declared.parts.Parts.{Parts}
use Rattle.cf_clusters.specs.Roles.{committed}
use Rattle.cf_disk.specs.Disk.{Only, State, size_of}
use Rattle.cf_volume_image.specs.Contents.{header_of, image_of, payload_of}
use Rattle.cf_volume_image.specs.Sound.{IsSound}
use Rattle.cf_volume_image.specs.Spelled.{AreRecordsFrom, IsImage}
use Rattle.cf_volume_image.specs.States.{IsAfter}
use Rattle.cf_volume_image.specs.declared.contents.Contents.{Contents}
use Rattle.cf_journal.specs.Content.{Content, clusters}
use Rattle.cf_model.specs.Formats.{Image, is_key_removed, is_removed, spell_image, spell_payload}
use Rattle.cf_model.specs.Rows as model
use Rattle.cf_model.specs.Standing.{are_apart, clusters_of}
use Rattle.cf_model.specs.State.{Volume}
use Rattle.cf_volume_points.proofs.Apart.{row_clusters}
use Rattle.cf_volume_points.proofs.Commits.{commit_at, committed_known, image_len_is, with_points_now}
use Rattle.cf_volume_points.specs.At.{At}
use Rattle.cf_volume_points.specs.Clusters.{IsGroundSize, clusters_in_rows}
use Rattle.cf_volume_points.specs.Holding.{Holds}
use Rattle.cf_volume_points.specs.Known.{Known}
use Rattle.cf_volume_points.specs.Saving.{SavedIfLeft}
use Rattle.cf_volume_points.specs.Sound.{Sound, len_now}
use Rattle.cf_volume_points.specs.Standing.{clusters_on}
use Rattle.cf_table.specs.Spelling.{HasRoom, row_value}
use Rattle.cf_table.specs.Tables.{AreTableRows, RisesFrom}

-- the payload

keep_all : {X : Type 0} (p : X → Bool) (xs : List X) → ((x : X) → p x ≡ true) → filter p xs ≡ xs
keep_all p [] h = refl
keep_all {X} p (x ∷ xs) h = cond-true (p x) (x ∷ filter p xs) (filter p xs) (h x) ∙ ap (λ (l : List X). x ∷ l) (keep_all p xs h)

header_leads : (c : Contents) (i : Image) → IsImage (image_of c) → i.rows ≡ map row_value c.rows.rows → i.records ≡ c.records → IsAfter (spell_payload (payload_of c [] [] [] [])) i (image_of c)
header_leads c i is rows records = record {
  value = payload_of c [] [] [] [];
  is_payload = record { header = is.header; removed = (omega arith, tt); rows = (omega arith, tt); removed_keys = (omega arith, tt); records = (omega arith, tt) };
  text_is = refl;
  new_is =
      let same_rows = sym (keep_all (λ (r : model.Row). not (is_removed [] r)) i.rows (λ r. refl) ∙ rows) in
      let same_records = sym (keep_all (λ (r : AuxRecord). not (is_key_removed [] r)) i.records (λ r. refl) ∙ records) in
      λ k. record { header = header_of c; rows = same_rows k; records = same_records k };
}

pub header_follows : (p : Parts) (s : State) (x : Content) (i : Image) (text : Option (List ℕ)) → text ≡ Some (spell_payload (payload_of p.contents [] [] [] [])) → IsImage (image_of p.contents) → StandsThen p s x i → Follows x text i p.contents
header_follows p s x i text e is h = record {
  told = h.told;
  leads = subst (λ (t : Option (List ℕ)). LeadsTo t i (image_of p.contents)) (sym e) (header_leads p.contents i is h.rows h.records);
  is_image = is;
}

-- what is known before and after

pub can_be_written : (n : ℕ) (c : Contents) → All HasRoom c.rows.rows → IsSound n (image_of c) → CanBeWritten c
can_be_written n c room sound = record {
  room = room;
  few = let same = length-map c.rows.rows row_value in let few = sound.few in omega (arith, same, few);
  short = sound.short;
}

no_longer : (w n : ℕ) → w ≡ n → w ≤ 1306624 → n ≤ 1306624
no_longer w n e le = omega (arith, e, le)

pub sound_before : (s : State) (p : Parts) → IsGroundSize (size_of s) → length p.held ≡ clusters_on s.seen → RisesFrom 0 p.contents.rows.rows → AreTableRows p.contents.rows.rows → CanBeWritten p.contents → are_apart (length p.held) (clusters_of (map row_value p.contents.rows.rows)) ≡ true → Sound (size_of s) (known_of p)
sound_before s p fit number rises kept can apart = record {
  fit = fit;
  clusters = number;
  rises = rises;
  kept = kept;
  room = can.room;
  inside = subst (λ (l : List ℕ). All (λ j. j < length p.held) l) (row_clusters p.contents.rows.rows) (inside_all (length p.held) (clusters_of (map row_value p.contents.rows.rows)) apart);
  few = can.few;
  short = no_longer (length (spell_image (image_of p.contents))) (len_now (known_of p)) (image_len_is (known_of p)) can.short;
}

module _ (p q : Parts) (contents : q.contents ≡ p.contents) (held : q.held ≡ map committed p.held) (limit : q.limit ≡ p.limit) where
  known_is : committed_known q.journal (known_of p) ≡ known_of q
  known_is = λ k. known_of (record { journal = q.journal; held = sym held k; contents = sym contents k; limit = sym limit k })

  pub sound_after : (size : ℕ) → Sound size (known_of p) → Sound size (known_of q)
  sound_after size sound = subst (λ (k : Known). Sound size k) known_is (record {
    fit = sound.fit;
    clusters = length-map p.held committed ∙ sound.clusters;
    rises = sound.rises;
    kept = sound.kept;
    room = sound.room;
    inside = subst (λ (n : ℕ). All (λ j. j < n) (clusters_in_rows p.contents.rows.rows)) (sym (length-map p.held committed)) sound.inside;
    few = sound.few;
    short = sound.short;
  })

  pub raised_at : (old new : State) (v : Volume) → Sound (size_of old) (known_of p) → IsSound (length p.held) (image_of p.contents) → Holds old (known_of p) v → SavedIfLeft q.journal new (image_of p.contents) → AreRecordsFrom None p.contents.records
      → size_of new ≡ size_of old → Only new.seen new → clusters new.seen ≡ clusters old.seen → At new (known_of q) (with_points_now (record { sure = true; count = length v.log; book = v.book }) [] v)
  raised_at old new v sound fit holds saved keys size only rest =
      subst (λ (k : Known). At new k (with_points_now (record { sure = true; count = length v.log; book = v.book }) [] v)) known_is
      (commit_at old new q.journal (known_of p) v (record { sure = true; count = length v.log; book = v.book }) [] sound fit holds refl refl saved keys size only rest)
