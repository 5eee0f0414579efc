use Rattle.std.proofs.Common.{List, ℕ, length, subst}
use Rattle.cf_base.specs.declared.operations.Operation.TheVariants as operation
use Rattle.cf_engine_steps.specs.Answering.{Answers, Any}
use Rattle.cf_engine_steps.specs.States.{whole}
use Rattle.cf_model.specs.Arrows.{seq}
use Rattle.cf_model.specs.Fetching.{after_transfer, span_at}
use Rattle.cf_model.specs.Operations.{execute}
use Rattle.cf_model.specs.State.{in_filter}
use Rattle.cf_engine_messages.proofs.operations.take_bytes.Goals as goal

pub returns : goal.returns
returns g c = subst (λ (l : List ℕ). Answers (whole g.S.Steps.sense g.R.Remote.told) Any (seq (in_filter (execute (operation.Transfer c.args.key c.args.start c.args.bytes))) (after_transfer c.args.key (span_at c.args.start (length l)))) (c.args.s.now, c.args.e.now) c.transfer-done.result (c.transfer-done.new.s, c.transfer-done.new.e)) c.as_slice.ensures c.transfer-done.ensures
