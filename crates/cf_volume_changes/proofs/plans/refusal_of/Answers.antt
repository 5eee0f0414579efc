use Rattle.std.proofs.Common.{Bool, cond, length, sym, ap, ◌∙◌, arith, Some, None}
use Rattle.cf_base.specs.declared.codes.Code.TheVariants as code
use Rattle.cf_clusters.specs.Roles.{how_many, is_now}
use Rattle.cf_volume_image.specs.Contents.{image_of}
use Rattle.cf_model.specs.Formats.{spell_image}
use Rattle.cf_volume_points.proofs.Commits.{image_len_is}
use Rattle.cf_table.specs.Changing.{item_of_change}
use Rattle.cf_table.specs.Tables.{row_of}
use Rattle.cf_volume_changes.proofs.Judged.{refused_fits, refused_is}
use Rattle.cf_volume_changes.proofs.Puts.{some_row}
use Rattle.cf_volume_changes.specs.Now.{resting}
use Rattle.cf_volume_changes.specs.Steady.{known_of}
use Rattle.cf_volume_changes.specs.Waits.{passes}
use Rattle.cf_volume_changes.proofs.plans.refusal_of.Goals as goal

pub returns-then-lacks_table-clause-why : goal.returns-then-lacks_table-clause-why
returns-then-lacks_table-clause-why c = λ seen v at.
    let row = some_row (row_of c.args.parts.now.contents.rows.rows (item_of_change c.args.change.now)) c.requires.there in
    refused_is (resting seen) (known_of c.args.parts.now) v c.args.change.now row.0 c.args.planned.now.row c.args.planned.now.blocks.items at c.image_len.ensures.rises c.image_len.ensures.kept c.requires.kind row.1 (c.requires.plan row.0 row.1)
    (length (spell_image (image_of c.args.parts.now.contents))) (image_len_is (known_of c.args.parts.now)) c.lacks_table.result (c.lacks_table.ensures row.0 row.1) c.requires.place
    ∙ ap (λ (t : Bool). cond t (Some code.TableFull) (cond (passes c.args.parts.now.limit (how_many is_now c.args.parts.now.held) (length c.args.planned.now.blocks.items)) (Some code.Full) None)) c.if-lacks_table.true

pub returns-then-is_full-clause-why : goal.returns-then-is_full-clause-why
returns-then-is_full-clause-why c = λ seen v at.
    let row = some_row (row_of c.args.parts.now.contents.rows.rows (item_of_change c.args.change.now)) c.requires.there in
    refused_is (resting seen) (known_of c.args.parts.now) v c.args.change.now row.0 c.args.planned.now.row c.args.planned.now.blocks.items at c.image_len.ensures.rises c.image_len.ensures.kept c.requires.kind row.1 (c.requires.plan row.0 row.1)
    (length (spell_image (image_of c.args.parts.now.contents))) (image_len_is (known_of c.args.parts.now)) c.lacks_table.result (c.lacks_table.ensures row.0 row.1) c.requires.place
    ∙ ap (λ (t : Bool). cond t (Some code.TableFull) (cond (passes c.args.parts.now.limit (how_many is_now c.args.parts.now.held) (length c.args.planned.now.blocks.items)) (Some code.Full) None)) c.if-lacks_table.false
    ∙ ap (λ (t : Bool). cond t (Some code.Full) None) (sym (c.is_full.ensures ∙ ap (passes c.args.parts.now.limit (how_many is_now c.args.parts.now.held)) (omega (arith, c.len.ensures, c.args.planned.now.blocks.ok))) ∙ c.if-is_full.true)

pub returns-clause-why : goal.returns-clause-why
returns-clause-why c = λ seen v at.
    let row = some_row (row_of c.args.parts.now.contents.rows.rows (item_of_change c.args.change.now)) c.requires.there in
    refused_is (resting seen) (known_of c.args.parts.now) v c.args.change.now row.0 c.args.planned.now.row c.args.planned.now.blocks.items at c.image_len.ensures.rises c.image_len.ensures.kept c.requires.kind row.1 (c.requires.plan row.0 row.1)
    (length (spell_image (image_of c.args.parts.now.contents))) (image_len_is (known_of c.args.parts.now)) c.lacks_table.result (c.lacks_table.ensures row.0 row.1) c.requires.place
    ∙ ap (λ (t : Bool). cond t (Some code.TableFull) (cond (passes c.args.parts.now.limit (how_many is_now c.args.parts.now.held) (length c.args.planned.now.blocks.items)) (Some code.Full) None)) c.if-lacks_table.false
    ∙ ap (λ (t : Bool). cond t (Some code.Full) None) (sym (c.is_full.ensures ∙ ap (passes c.args.parts.now.limit (how_many is_now c.args.parts.now.held)) (omega (arith, c.len.ensures, c.args.planned.now.blocks.ok))) ∙ c.if-is_full.false)

pub returns-clause-fits : goal.returns-clause-fits
returns-clause-fits c = λ seen v at.
    let row = some_row (row_of c.args.parts.now.contents.rows.rows (item_of_change c.args.change.now)) c.requires.there in
    refused_fits (resting seen) (known_of c.args.parts.now) v c.args.change.now row.0 c.args.planned.now.row c.args.planned.now.blocks.items at c.image_len.ensures.rises c.image_len.ensures.kept c.requires.kind row.1 (c.requires.plan row.0 row.1)
    (length (spell_image (image_of c.args.parts.now.contents))) (image_len_is (known_of c.args.parts.now)) c.lacks_table.result (c.lacks_table.ensures row.0 row.1) c.if-lacks_table.false
