use Rattle.std.proofs.Common.{sym, ◌∙◌}
use Rattle.cf_script.proofs.PlanKeys.{own_reads}
use Rattle.cf_script_words.proofs.DataMeans.{same_text}
use Rattle.cf_script.proofs.operations.plan_key.Goals as goal

pub returns-then-eq : goal.returns-then-eq
returns-then-eq c = own_reads c.args.word.now (same_text _ _ (sym c.eq.ensures ∙ c.if-eq.true))
