-- The text of a commit.
use Rattle.std.proofs.Common.{◌≡◌, ℕ, ◌^◌, ◌<◌, ◌≤◌, List, length, Option, None, sym, subst}
use Rattle.std.specs.Prelude.{All, Err, IsErr, Ok, OnOk, Result, ◌+◌}
use Rattle.std.proofs.lemmas.Bool.{true≢false}
use Rattle.cf_volume_commit.proofs.NamedKeys.{keys_of, keys_short}
use Rattle.cf_volume_points.proofs.Lookups.{filter_records}
use Rattle.cf_volume_commit.proofs.PayloadFits.{text_leads}
use Rattle.cf_volume_commit.specs.Differing.{IsThen, is_record_gone, removed_keys, text_of}
use Rattle.cf_volume_commit.specs.Leading.{Follows, LeadsTo, bytes_written}
use Rattle.cf_disk.specs.Disk.{Counts, State, capped}
use Rattle.cf_volume_points.specs.declared.earlier.Earlier.{Earlier}
use Rattle.cf_volume_image.specs.Contents.{image_of}
use Rattle.cf_volume_image.specs.Spelled.{AreRecordsFrom, IsImage}
use Rattle.cf_volume_image.specs.States.{TellsIn}
use Rattle.cf_volume_image.specs.declared.contents.Contents.{Contents}
use Rattle.cf_journal.specs.Content.{Content}
use Rattle.cf_journal.specs.declared.journals.Journal.{Journal}
use Rattle.cf_model.specs.Formats.{Image}
use Rattle.cf_table.specs.Tables.{RisesFrom}

pub keys_fit : (then : Earlier) (c : Contents) (k : List (List ℕ)) → AreRecordsFrom None then.records → k ≡ removed_keys then c.records → All (λ (key : List ℕ). length key < 2 ^ 8) k
keys_fit then c k noted e =
    subst (λ (l : List (List ℕ)). All (λ (key : List ℕ). length key < 2 ^ 8) l) (sym e)
    (keys_short None (removed_keys then c.records) (keys_of None _ (filter_records (is_record_gone then c.records) None then.records noted)))

pub follows : (x : Content) (then : Earlier) (c : Contents) (i : Image) (text : Option (List ℕ)) → text ≡ text_of then c → then.next.0 < 2 ^ 64 → RisesFrom 0 c.rows.rows → RisesFrom 0 then.rows.rows → AreRecordsFrom None then.records → IsImage (image_of c)
    → TellsIn x.format x.image x.payloads i → IsThen then c i → Follows x text i c
follows x then c i text is small rise noted noted_keys image told h = record {
  told = told;
  leads = subst (λ (t : Option (List ℕ)). LeadsTo t i (image_of c)) (sym is) (text_leads then c i small rise noted noted_keys image h);
  is_image = image;
}

-- the bytes that are written of a text that is another's equal

pub counts_same : {T E : Type 0} (j : Journal) (text same : Option (List ℕ)) (image : List ℕ) (r : Result T E) (s t : State) → text ≡ same → Counts (bytes_written j text image) r s t → Counts (bytes_written j same image) r s t
counts_same {T} {E} j text same image r s t e h = record {
  exact = subst (λ (o : Option (List ℕ)). OnOk r (t.written ≡ capped (s.written + bytes_written j o image))) e h.exact;
  least = h.least;
  most = subst (λ (o : Option (List ℕ)). t.written ≤ s.written + bytes_written j o image) e h.most;
}

-- a call that failed
pub counts_failed : {T E : Type 0} (n : ℕ) (r : Result T E) (s t : State) → IsErr r → s.written ≤ t.written → t.written ≤ s.written + n → Counts n r s t
counts_failed n (Ok x) s t is least most = absurd (true≢false (sym is))
counts_failed n (Err e) s t is least most = record { exact = tt; least = least; most = most }
