use Rattle.std.proofs.Common.{◌∙◌, ◌+◌, ℕ, ap}
use Rattle.std.specs.Prelude.{length, min}
use Rattle.cf_model.specs.Formats.{spell_image}
use Rattle.cf_table.specs.Tables.{rows_len}
use Rattle.cf_volume_image.specs.Contents.{image_of}
use Rattle.cf_volume_image.specs.RecordLists.{records_len}
use Rattle.cf_volume_image.proofs.Lengths.{capped, image_length}
use Rattle.cf_volume_image.proofs.contents.Contents.image_len.Goals as goal

pub returns : goal.returns
returns c =
    c.saturating_add-2.ensures
    ∙ ap (λ (a : ℕ). min (a + c.image_len-2.result) 18446744073709551615) (c.saturating_add.ensures ∙ ap (λ (a : ℕ). min (41 + a) 18446744073709551615) c.image_len.ensures.value)
    ∙ ap (λ (a : ℕ). min (min (41 + min (rows_len c.args.self.now.rows.rows) 18446744073709551615) 18446744073709551615 + a) 18446744073709551615) c.image_len-2.ensures.value
    ∙ capped (length (spell_image (image_of c.args.self.now))) (rows_len c.args.self.now.rows.rows) (records_len c.args.self.now.records) (image_length c.args.self.now)
