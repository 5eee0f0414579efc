use Rattle.std.proofs.Common.{◌∙◌, ap, List, map}
use Rattle.std.proofs.lemmas.Result.{IfOk-weaker}
use Rattle.cf_state_rows.proofs.Showing.{all_facts_are}
use Rattle.cf_state_rows.specs.Rows.{row_facts}
use Rattle.cf_state_rows.specs.Values.{Facts, document, line_of}
use Rattle.cf_table.specs.declared.rows.Row.{Row}
use Rattle.cf_state_rows.proofs.documents.volume_line.Goals as goal

pub returns : goal.returns
returns c = λ items m.
    IfOk-weaker c.line_of_rows.result _ _
    (λ b e. e ∙ ap (λ (fs : List Facts). line_of (document c.args.count c.args.epoch fs)) (ap (λ (rs : List Row). map row_facts rs) c.as_slice.ensures.value ∙ all_facts_are c.args.rows.now.rows items c.image_len.ensures.kept m))
    c.line_of_rows.ensures
