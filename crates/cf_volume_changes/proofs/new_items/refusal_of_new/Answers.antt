use Rattle.std.proofs.Common.{◌∙◌, Bool, cond, length, ap, sym, Some, None}
use Rattle.cf_base.specs.declared.codes.Code.TheVariants as code
use Rattle.cf_clusters.specs.Roles.{how_many, is_now}
use Rattle.cf_volume_image.specs.Contents.{image_of}
use Rattle.cf_model.specs.Formats.{spell_image}
use Rattle.cf_volume_points.proofs.Commits.{image_len_is}
use Rattle.cf_volume_changes.proofs.Arrived.{arrival_fits, arrival_refused}
use Rattle.cf_volume_changes.specs.Now.{resting}
use Rattle.cf_volume_changes.specs.Steady.{known_of}
use Rattle.cf_volume_changes.specs.Waits.{passes}
use Rattle.cf_volume_changes.proofs.new_items.refusal_of_new.Goals as goal

pub returns-then-lacks_row-clause-why : goal.returns-then-lacks_row-clause-why
returns-then-lacks_row-clause-why c = λ seen v change i at arrives puts.
    arrival_refused (resting seen) (known_of c.args.parts.now) v change c.args.row.now i at c.image_len.ensures.kept c.requires.new arrives c.requires.anchor c.tell_stored.ensures
    (length (spell_image (image_of c.args.parts.now.contents))) (image_len_is (known_of c.args.parts.now)) c.lacks_row.result c.lacks_row.ensures c.args.blocks puts c.requires.place c.requires.id
    ∙ ap (λ (t : Bool). cond t (Some code.TableFull) (cond (passes c.args.parts.now.limit (how_many is_now c.args.parts.now.held) c.args.blocks) (Some code.Full) None)) c.if-lacks_row.true

pub returns-then-is_full-clause-why : goal.returns-then-is_full-clause-why
returns-then-is_full-clause-why c = λ seen v change i at arrives puts.
    arrival_refused (resting seen) (known_of c.args.parts.now) v change c.args.row.now i at c.image_len.ensures.kept c.requires.new arrives c.requires.anchor c.tell_stored.ensures
    (length (spell_image (image_of c.args.parts.now.contents))) (image_len_is (known_of c.args.parts.now)) c.lacks_row.result c.lacks_row.ensures c.args.blocks puts c.requires.place c.requires.id
    ∙ ap (λ (t : Bool). cond t (Some code.TableFull) (cond (passes c.args.parts.now.limit (how_many is_now c.args.parts.now.held) c.args.blocks) (Some code.Full) None)) c.if-lacks_row.false
    ∙ ap (λ (t : Bool). cond t (Some code.Full) None) (sym c.is_full.ensures ∙ c.if-is_full.true)

pub returns-clause-why : goal.returns-clause-why
returns-clause-why c = λ seen v change i at arrives puts.
    arrival_refused (resting seen) (known_of c.args.parts.now) v change c.args.row.now i at c.image_len.ensures.kept c.requires.new arrives c.requires.anchor c.tell_stored.ensures
    (length (spell_image (image_of c.args.parts.now.contents))) (image_len_is (known_of c.args.parts.now)) c.lacks_row.result c.lacks_row.ensures c.args.blocks puts c.requires.place c.requires.id
    ∙ ap (λ (t : Bool). cond t (Some code.TableFull) (cond (passes c.args.parts.now.limit (how_many is_now c.args.parts.now.held) c.args.blocks) (Some code.Full) None)) c.if-lacks_row.false
    ∙ ap (λ (t : Bool). cond t (Some code.Full) None) (sym c.is_full.ensures ∙ c.if-is_full.false)

pub returns-clause-fits : goal.returns-clause-fits
returns-clause-fits c = λ seen v change i at arrives.
    arrival_fits (resting seen) (known_of c.args.parts.now) v change c.args.row.now i at c.image_len.ensures.kept c.requires.new arrives c.requires.anchor c.tell_stored.ensures
    (length (spell_image (image_of c.args.parts.now.contents))) (image_len_is (known_of c.args.parts.now)) c.lacks_row.result c.lacks_row.ensures c.if-lacks_row.false
