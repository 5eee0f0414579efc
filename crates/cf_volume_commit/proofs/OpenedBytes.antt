-- How many bytes an opening writes.
use Rattle.std.proofs.Common.{◌≡◌, ℕ, ◌+◌, ◌≤◌, Bool, true, false, cond, List, [], length, Some, None, refl, sym, ◌∙◌, ap, arith}
use Rattle.cf_volume_commit.specs.Leading.{CanBeWritten, bytes_of, bytes_written, is_full}
use Rattle.cf_volume_commit.specs.Loaded.{Finds, opening_bytes}
use Rattle.cf_volume_commit.specs.declared.parts.Parts.{Parts}
use Rattle.cf_codec.specs.declared.formats.Format.{Format}
use Rattle.cf_disk.specs.Disk.{State, capped}
use Rattle.cf_journal.specs.Content.{Content}
use Rattle.cf_journal.specs.declared.journals.Journal.{Journal}
use Rattle.cf_model.specs.Formats.{spell_image, spell_payload}
use Rattle.cf_volume_image.specs.Contents.{image_of, payload_of}
use Rattle.cf_volume_image.specs.declared.contents.Contents.{Contents}

-- the payload of a header alone has 48 bytes
header_bytes : (j : Journal) (c : Contents) (image : List ℕ) → bytes_written j (Some (spell_payload (payload_of c [] [] [] []))) image ≡ cond (is_full j.format (j.end + 54)) (30 + length image) 54
header_bytes j c image = by (is_full j.format (j.end + 54)) where
  by : (b : Bool) → bytes_of (cond b None (Some (spell_payload (payload_of c [] [] [] [])))) image ≡ cond b (30 + length image) 54
  by true = refl
  by false = refl

pub opening_counts : (old mid t : State) (x y : Content) (p : Parts) (c : Contents) → Finds old mid x p → y ≡ x → c ≡ p.contents → mid.written ≡ old.written
    → t.written ≡ capped (mid.written + bytes_written p.journal (Some (spell_payload (payload_of p.contents [] [] [] []))) (spell_image (image_of p.contents)))
    → t.written ≡ capped (old.written + opening_bytes y (image_of c))
opening_counts old mid t x y p c found y_is c_is reads exact =
    exact
    ∙ ap (λ (n : ℕ). capped (mid.written + n)) (header_bytes p.journal p.contents (spell_image (image_of p.contents)))
    ∙ ap (λ (n : ℕ). capped (n + cond (is_full p.journal.format (p.journal.end + 54)) (30 + length (spell_image (image_of p.contents))) 54)) reads
    ∙ ap (λ (f : Format). capped (old.written + cond (is_full f (p.journal.end + 54)) (30 + length (spell_image (image_of p.contents))) 54)) found.settled.format
    ∙ ap (λ (n : ℕ). capped (old.written + cond (is_full x.format (n + 54)) (30 + length (spell_image (image_of p.contents))) 54)) found.settled.end
    ∙ ap (λ (z : Content). capped (old.written + opening_bytes z (image_of p.contents))) (sym y_is)
    ∙ ap (λ (z : Contents). capped (old.written + opening_bytes y (image_of z))) (sym c_is)

-- at most the longest image is written
pub opening_most : (old mid t : State) (j : Journal) (c : Contents) → CanBeWritten c → mid.written ≡ old.written
    → t.written ≤ mid.written + bytes_written j (Some (spell_payload (payload_of c [] [] [] []))) (spell_image (image_of c)) → t.written ≤ old.written + 1306654
opening_most old mid t j c can reads most = omega (arith, reads, most, header_bytes j c (spell_image (image_of c)), by (is_full j.format (j.end + 54)) (length (spell_image (image_of c))) can.short) where
  by : (b : Bool) (n : ℕ) → n ≤ 1306624 → cond b (30 + n) 54 ≤ 1306654
  by true n short = omega (arith, short)
  by false n short = omega arith
