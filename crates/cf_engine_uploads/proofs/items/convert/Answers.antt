use Rattle.cf_engine_steps.specs.Answering.{Answers, Any}
use Rattle.cf_engine_steps.specs.States.{whole}
use Rattle.cf_model.specs.Skips.{try_change}
use Rattle.std.proofs.Common.{List, subst, ℕ}
use Rattle.cf_base.specs.declared.changes.Change.TheVariants as change
use Rattle.cf_engine_uploads.proofs.items.convert.Goals as goal

pub returns : goal.returns
returns g c = subst (λ (l : List ℕ). Answers (whole g.S.Steps.sense g.R.Remote.told) Any (try_change (change.Convert c.args.id l)) (c.args.s.now, c.args.e.now) c.try_change-done.result (c.try_change-done.new.s, c.try_change-done.new.e)) c.in_ok-identity.ensures c.try_change-done.ensures
