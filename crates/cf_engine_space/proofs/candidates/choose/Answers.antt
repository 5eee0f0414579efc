use Rattle.std.proofs.Common.{◌≡◌, List, map, ap, subst, ◌∙◌}
use Rattle.std.specs.Prelude.{IfOk}
use Rattle.cf_engine_space.proofs.Fronts.{sorted_values}
use Rattle.cf_engine_space.specs.Candidates.{candidate_value}
use Rattle.cf_model.specs.Space.{Candidate, front}
use Rattle.cf_engine_space.proofs.candidates.choose.Goals as goal

pub returns : goal.returns
returns c = subst (λ (cs : List Candidate). IfOk c.front.result (λ v. v.items ≡ front c.args.used c.args.budget cs)) (ap (map candidate_value) (c.deref.ensures.value ∙ c.in_ok-sort.ensures) ∙ sorted_values c.args.candidates.now.items) c.front.ensures
