use Rattle.std.proofs.Common.{ap, ◌∙◌}
use Rattle.cf_model.specs.Words.{same}
use Rattle.cf_engine_queue.proofs.WalkLaws.{first_named, first_other}
use Rattle.cf_engine_queue.proofs.seen_paths.next_at.Goals as goal

pub returns-then-is_same-clause-value : goal.returns-then-is_same-clause-value
returns-then-is_same-clause-value c = first_named c.args.ahead.now c.next.new.self c.args.key.now c.in-Some.record.now c.is_same.result c.in-Some.ensures
    (c.is_same.ensures ∙ ap (λ l. same l c.args.key.now) c.as_slice.ensures) c.if-is_same.true

pub returns-else-is_same-clause-value : goal.returns-else-is_same-clause-value
returns-else-is_same-clause-value c = first_other c.args.ahead.now c.next.new.self c.args.key.now c.in-Some.record.now c.is_same.result c.in-Some.ensures
    (c.is_same.ensures ∙ ap (λ l. same l c.args.key.now) c.as_slice.ensures) c.if-is_same.false
