use Rattle.std.proofs.Common.{length, ap, ◌∙◌}
use Rattle.cf_base.specs.declared.answers.AuxRecord.{AuxRecord}
use Rattle.cf_volume_image.specs.Contents.{image_of}
use Rattle.cf_model.specs.Formats.{spell_image, with_record}
use Rattle.cf_volume_points.proofs.Commits.{image_len_is}
use Rattle.cf_volume_changes.proofs.RecordRoom.{record_fits, record_full, record_put}
use Rattle.cf_volume_changes.specs.Steady.{known_of}
use Rattle.cf_volume.proofs.aux_puts.set_record.Goals as goal

pub returns-then-is_too_long-clause-why : goal.returns-then-is_too_long-clause-why
returns-then-is_too_long-clause-why g c = λ v b at has.
    record_full (g.G.Ground.state c.args.ground.now) (known_of c.args.parts.now) v b (record { key = c.args.key.now; value = c.args.value.now }) at has c.image_len.ensures.kept c.image_len-2.ensures.rise
    (length (spell_image (image_of c.args.parts.now.contents))) c.len_at-before.result c.is_too_long.result (image_len_is (known_of c.args.parts.now)) c.len_at-before.ensures.len c.is_too_long.ensures c.if-is_too_long.true

pub returns-clause-ok : goal.returns-clause-ok
returns-clause-ok g c = λ v b at has.
    record_put (g.G.Ground.state c.args.ground.now) (known_of c.args.parts.now) v b (record { key = c.args.key.now; value = c.args.value.now }) at has c.image_len.ensures.kept c.image_len-2.ensures.rise
    (length (spell_image (image_of c.args.parts.now.contents))) c.len_at-before.result c.is_too_long.result (image_len_is (known_of c.args.parts.now)) c.len_at-before.ensures.len c.is_too_long.ensures c.if-is_too_long.false
    c.put.new.self c.note_record.new.before c.note_record.new.made (c.in_ok-put.ensures.ok ∙ ap (λ (r : AuxRecord). with_record r c.args.parts.now.contents.records) c.in_ok-aux.ensures) c.in_ok-note_record.ensures

pub returns-clause-why : goal.returns-clause-why
returns-clause-why g c = λ v b at has.
    record_fits (g.G.Ground.state c.args.ground.now) (known_of c.args.parts.now) v b (record { key = c.args.key.now; value = c.args.value.now }) at has c.image_len.ensures.kept c.image_len-2.ensures.rise
    (length (spell_image (image_of c.args.parts.now.contents))) c.len_at-before.result c.is_too_long.result (image_len_is (known_of c.args.parts.now)) c.len_at-before.ensures.len c.is_too_long.ensures c.if-is_too_long.false
