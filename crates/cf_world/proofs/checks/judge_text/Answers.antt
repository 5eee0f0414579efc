use Rattle.std.proofs.Common.{◌≡◌, ◌∙◌, sym}
use Rattle.cf_base.specs.declared.statuses.Status.TheVariants as status
use Rattle.cf_script.specs.declared.script_errors.ScriptError.TheVariants as fails
use Rattle.cf_world.proofs.Checking.{refused_written, same_events, unmarked_bad, unmarked_written, verdict_written}
use Rattle.cf_world.proofs.checks.judge_text.Goals as goal

pub returns-in_default-clause-writes : goal.returns-in_default-clause-writes
returns-in_default-clause-writes g c = rw c.plain.ensures.status (unmarked_written c.args.text.now (g.K.Sink.held c.args.sink.now) (g.K.Sink.held c.unmarked.new.sink) c.requires c.unmarked.result c.in_default.ensures c.unmarked.ensures.writes)

pub returns-in_default-clause-bad : goal.returns-in_default-clause-bad
returns-in_default-clause-bad g c = λ is events report r. unmarked_bad c.args.text.now c.in_default.ensures events report r

pub returns-in-Ok-clause-writes : goal.returns-in-Ok-clause-writes
returns-in-Ok-clause-writes g c = verdict_written c.args.text.now (g.K.Sink.held c.args.sink.now) (g.K.Sink.held c.judge_report-checked.new.sink) c.requires c.as_slice.result.now c.in-Some.report.now c.judge_report-checked.result.status (c.in-Some.script.now, c.in-Some.ensures, rw c.as_slice.ensures.value c.in-Ok.ensures.ok) c.judge_report-checked.ensures.puts

pub returns-in-Err-clause-writes : goal.returns-in-Err-clause-writes
returns-in-Err-clause-writes g c = rw c.plain-in-Err.ensures.status (refused_written c.args.text.now (g.K.Sink.held c.args.sink.now) (g.K.Sink.held c.refuse.new.sink) c.requires c.in-Some.script.now c.in-Some.report.now c.refuse.result c.in-Some.ensures c.refuse.ensures.writes)

pub returns-in-Err-clause-bad : goal.returns-in-Err-clause-bad
returns-in-Err-clause-bad g c = λ is events report r.
    let none : c.in-Err.fail ≡ fails.OutOfMemory = c.in-Err.ensures.complete events (same_events c.args.text.now c.in-Some.script.now c.in-Some.report.now c.in-Some.ensures events report r) in
    let z : status.BadScript ≡ status.OutOfMemory = sym is ∙ c.plain-in-Err.ensures.status ∙ c.refuse.ensures.memory none in
    cc
