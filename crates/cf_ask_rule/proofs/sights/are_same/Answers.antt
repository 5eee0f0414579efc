use Rattle.std.proofs.lemmas.Slice.Eq.{slice_eq-Decides}
use Rattle.cf_ask_rule.proofs.SameSpans.{same_span}
use Rattle.cf_ask_rule.proofs.sights.are_same.Goals as goal

pub returns : goal.returns
returns c = λ t. (slice_eq-Decides same_span c.args.runs.now c.args.others.now c.eq.result c.eq.ensures).0 t
