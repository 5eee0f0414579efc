use Rattle.std.proofs.Common.{arith, ◌∙◌, [], Some, ℕ, ap, length, refl, subst, sym}
use Rattle.std.specs.Prelude.{Ok, ◌-◌, ◌/◌}
use Rattle.cf_volume_commit.proofs.NewVolume.{counts_both, created_at, created_sound, first_bytes, first_can, first_parts, first_stands_then, first_text, raised_first, stop_behind, text_length}
use Rattle.cf_volume_commit.specs.Leading.{bytes_written}
use Rattle.cf_volume_commit.specs.Loaded.{first_image, known_of}
use Rattle.cf_volume_commit.specs.declared.parts.Parts.{Parts}
use Rattle.cf_clusters.specs.Roles.{Opens}
use Rattle.cf_volume_image.specs.Contents.{image_of, payload_of}
use Rattle.cf_volume_image.specs.declared.contents.Contents.{Contents}
use Rattle.cf_journal.specs.Content.{rewritten}
use Rattle.cf_journal.specs.Settled.{IsFitSize}
use Rattle.cf_model.specs.Formats.{spell_image, spell_payload}
use Rattle.cf_disk.specs.Disk.{size_of}
use Rattle.cf_volume_points.proofs.Commits.{fit_ground}
use Rattle.cf_model.specs.Numbers.{usn_after}
use Rattle.cf_table.specs.Changing.{IsNext}
use Rattle.cf_volume_points.specs.Sound.{Sound}
use Rattle.cf_volume_points.specs.Standing.{clusters_for, clusters_on}
use Rattle.cf_volume_commit.proofs.creations.create.Goals as goal

pub returns-in-Ok-raise-clause-ok : goal.returns-in-Ok-raise-clause-ok
returns-in-Ok-raise-clause-ok g c =
    let p : Parts = first_parts c.in-Ok.journal c.in_ok-first.first.held c.in_ok-first.first.contents c.limit_of-limit.result in
    let fit = fit_ground (size_of (g.D.Disk.state c.format.new.disk)) (subst IsFitSize (sym c.format.ensures.same_size) c.requires) in
    let number = ap (λ (n : ℕ). (n - 3145728) / 4096) (sym c.format.ensures.same_size) in
    let is = raised_first c.in_ok-first.first.contents c.in_ok-first.ensures.image in
    let opens = subst (λ (n : ℕ). Opens n [] c.in_ok-first.first.held) c.clusters_of_disk-clusters.ensures c.in_ok-first.ensures.held in
    let text = first_text c.as_slice.result.now (image_of c.in_ok-first.first.contents) (c.as_slice.ensures ∙ c.in_ok-first.ensures.spelled) c.in_ok-first.ensures.image in
    created_at (g.D.Disk.state c.format.new.disk) p (clusters_on (g.D.Disk.state c.args.disk.now).seen) fit number is c.in_ok-first.ensures.room opens (clusters_for (g.D.Disk.state c.args.disk.now)) c.limit_of-limit.ensures (omega arith) c.raise.ensures.rise c.raise.ensures.kept c.raise.new.parts
    (g.D.Disk.state c.raise.new.disk) c.raise.ensures.contents c.in-Ok-raise.ensures.held c.raise.ensures.limit
    (λ image left. c.in-Ok-raise.ensures.saved (rewritten c.as_slice.result.now) (first_image 0) (first_stands_then (g.D.Disk.state c.format.new.disk) p c.as_slice.result.now is text c.in-Ok.ensures.ok))
    c.raise.ensures.keys_rise c.raise.ensures.same_size c.in-Ok-raise.ensures.durable c.in-Ok-raise.ensures.rest

pub returns-in-Ok-raise-clause-sound : goal.returns-in-Ok-raise-clause-sound
returns-in-Ok-raise-clause-sound g c =
    let p : Parts = first_parts c.in-Ok.journal c.in_ok-first.first.held c.in_ok-first.first.contents c.limit_of-limit.result in
    let fit = fit_ground (size_of (g.D.Disk.state c.format.new.disk)) (subst IsFitSize (sym c.format.ensures.same_size) c.requires) in
    let number = ap (λ (n : ℕ). (n - 3145728) / 4096) (sym c.format.ensures.same_size) in
    let is = raised_first c.in_ok-first.first.contents c.in_ok-first.ensures.image in
    let opens = subst (λ (n : ℕ). Opens n [] c.in_ok-first.first.held) c.clusters_of_disk-clusters.ensures c.in_ok-first.ensures.held in
    subst (λ (n : ℕ). Sound n (known_of c.raise.new.parts)) c.format.ensures.same_size
    (created_sound (g.D.Disk.state c.format.new.disk) p (clusters_on (g.D.Disk.state c.args.disk.now).seen) fit number is c.in_ok-first.ensures.room opens (clusters_for (g.D.Disk.state c.args.disk.now)) c.limit_of-limit.ensures (omega arith) c.raise.ensures.rise c.raise.ensures.kept c.raise.new.parts
    c.raise.ensures.contents c.in-Ok-raise.ensures.held c.raise.ensures.limit)

pub returns-in-Ok-raise-clause-counts : goal.returns-in-Ok-raise-clause-counts
returns-in-Ok-raise-clause-counts g c =
    let p : Parts = first_parts c.in-Ok.journal c.in_ok-first.first.held c.in_ok-first.first.contents c.limit_of-limit.result in
    let text = first_text c.as_slice.result.now (image_of c.in_ok-first.first.contents) (c.as_slice.ensures ∙ c.in_ok-first.ensures.spelled) c.in_ok-first.ensures.image in
    counts_both (Ok c.raise.new.parts) (g.D.Disk.state c.args.disk.now) (g.D.Disk.state c.format.new.disk) (g.D.Disk.state c.raise.new.disk) (length c.as_slice.result.now)
    (bytes_written c.in-Ok.journal (Some (spell_payload (payload_of p.contents [] [] [] []))) (spell_image (image_of p.contents))) (text_length c.as_slice.result.now text)
    (first_bytes c.in-Ok.journal p.contents (spell_image (image_of p.contents)) c.in-Ok.ensures.ok.format c.in-Ok.ensures.ok.end) c.in-Ok.ensures.counts.exact c.in-Ok.ensures.counts.least c.in-Ok.ensures.counts.most
    c.in-Ok-raise.ensures.counts.exact c.in-Ok-raise.ensures.counts.least c.in-Ok-raise.ensures.counts.most

pub format-requires-clause-short : goal.format-requires-clause-short
format-requires-clause-short g c =
    let n = text_length c.as_slice.result.now (first_text c.as_slice.result.now (image_of c.in_ok-first.first.contents) (c.as_slice.ensures ∙ c.in_ok-first.ensures.spelled) c.in_ok-first.ensures.image) in
    omega (arith, n)

pub raise-requires-clause-size : goal.raise-requires-clause-size
raise-requires-clause-size g c = subst IsFitSize (sym c.format.ensures.same_size) c.requires

pub raise-requires-clause-written : goal.raise-requires-clause-written
raise-requires-clause-written g c =
    let p : Parts = first_parts c.in-Ok.journal c.in_ok-first.first.held c.in_ok-first.first.contents c.limit_of-limit.result in
    first_can p.contents (raised_first c.in_ok-first.first.contents c.in_ok-first.ensures.image) c.in_ok-first.ensures.room

pub returns-in-Ok-raise-clause-later : goal.returns-in-Ok-raise-clause-later
returns-in-Ok-raise-clause-later g c = subst (λ (x : Contents). IsNext (usn_after x.last.epoch x.last.place) x.rows.rows) (sym c.raise.ensures.contents) (c.in_ok-first.ensures.later _ refl)

pub returns-in-Err-raise-clause-cause : goal.returns-in-Err-raise-clause-cause
returns-in-Err-raise-clause-cause g c =
    stop_behind c.in-Err-raise.stop (g.D.Disk.state c.args.disk.now) (g.D.Disk.state c.format.new.disk) (g.D.Disk.state c.raise.new.disk) c.format.ensures.faults c.format.ensures.calm c.in-Err-raise.ensures.cause

pub returns-in-Err-raise-clause-counts : goal.returns-in-Err-raise-clause-counts
returns-in-Err-raise-clause-counts g c =
    let p : Parts = first_parts c.in-Ok.journal c.in_ok-first.first.held c.in_ok-first.first.contents c.limit_of-limit.result in
    let text = first_text c.as_slice.result.now (image_of c.in_ok-first.first.contents) (c.as_slice.ensures ∙ c.in_ok-first.ensures.spelled) c.in_ok-first.ensures.image in
    record {
      exact = tt;
      least = omega (arith, c.in-Ok.ensures.counts.least, c.in-Err-raise.ensures.counts.least);
      most = omega (
        arith,
        text_length c.as_slice.result.now text,
        first_bytes c.in-Ok.journal p.contents (spell_image (image_of p.contents)) c.in-Ok.ensures.ok.format c.in-Ok.ensures.ok.end,
        c.in-Ok.ensures.counts.most,
        c.in-Err-raise.ensures.counts.most,
      );
    }
