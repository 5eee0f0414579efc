use Rattle.std.proofs.Common.{◌∙◌, ap, map}
use Rattle.std.proofs.lemmas.Result.{IfOk-weaker}
use Rattle.serde_json.specs.Written.{has_float}
use Rattle.cf_state_rows.proofs.Showing.{document_whole}
use Rattle.cf_state_rows.specs.Rows.{row_facts}
use Rattle.cf_state_rows.specs.Values.{line_of}
use Rattle.cf_state_rows.proofs.documents.line_of_rows.Goals as goal

pub returns : goal.returns
returns c =
    IfOk-weaker c.line-written.result _ _
    (λ b told. told (ap has_float c.in_ok-value.ensures ∙ document_whole c.args.count c.args.epoch (map row_facts c.args.rows.now)) ∙ ap line_of c.in_ok-value.ensures)
    c.line-written.ensures
