use Rattle.std.proofs.Common.{◌∙◌}
use Rattle.std.proofs.lemmas.Result.{err_from_is_err_and}
use Rattle.cf_script.specs.Script.{lines_of}
use Rattle.cf_pair_script.proofs.OneReading.{events_once, not_refused}
use Rattle.cf_pair_script.proofs.scripts.read.Goals as goal

pub returns-clause-complete : goal.returns-clause-complete
returns-clause-complete c = λ events is. c.from_vec.ensures ∙ events_once _ _ _ c.in_ok-events.ensures.ok.0 is.0

pub returns-in_err-events-clause-complete : goal.returns-in_err-events-clause-complete
returns-in_err-events-clause-complete c =
    let p = err_from_is_err_and c.from_residual.result c.from_residual.ensures.1 in
    λ events is. rw p.1 (p.2 ∙ not_refused (lines_of c.args.text.now) _ c.in_err-events.ensures.cause events is.0 is.1)
