use Rattle.std.proofs.Common.{◌∙◌}
use Rattle.std.proofs.lemmas.Result.{IfOk-weaker}
use Rattle.cf_pair_paths.proofs.PathsAlike.{rows_alike}
use Rattle.cf_pair_paths.proofs.listings.path_rows.Goals as goal

pub returns : goal.returns
returns c = λ s m. IfOk-weaker c.list_rows.result _ _ (λ v e. e ∙ rows_alike c.args.rows.now.rows s m) c.list_rows.ensures
