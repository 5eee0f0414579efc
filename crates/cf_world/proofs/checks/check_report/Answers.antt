use Rattle.std.proofs.Common.{◌≡◌, ap, refl}
use Rattle.std.specs.Prelude.{Err}
use Rattle.cf_world.proofs.Checking.{of_text, of_unread}
use Rattle.cf_world.proofs.checks.check_report.Goals as goal

pub returns-in-Ok-clause-text : goal.returns-in-Ok-clause-text
returns-in-Ok-clause-text g c =
    let same : c.deref.result.now ≡ c.in-Ok.text.items = c.deref.ensures.value in (
      c.deref.result.now,
      rw same c.in-Ok.ensures.ok,
      of_text c.deref.result.now (g.K.Sink.held c.args.sink.now) (g.K.Sink.held c.judge_text-checked.new.sink) _ (rw same c.in-Ok.ensures.small) _ _ _ _ c.judge_text-checked.result.status c.judge_text-checked.ensures.writes c.judge_text-checked.ensures.bad c.judge_text-checked.ensures.read c.judge_text-checked.ensures.sink_fault,
    )

pub returns-in-Err-clause-text : goal.returns-in-Err-clause-text
returns-in-Err-clause-text g c = rw (c.plain.ensures.status, c.unscripted.ensures) (
    of_unread (g.S.Source.left c.args.source.now) (g.K.Sink.held c.args.sink.now) (c.args.sink.now ≡ c.args.sink.now) refl (g.S.Source.faults c.args.source.now) (g.S.Source.faults c.read_all.new.source) (g.K.Sink.faults c.args.sink.now) c.in-Err.fail
    (λ e. c.in-Err.ensures.too_long (ap (λ x. Err x) e)) (λ e. c.in-Err.ensures.fault (ap (λ x. Err x) e)))
