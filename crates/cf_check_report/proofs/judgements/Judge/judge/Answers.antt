use Rattle.std.proofs.Common.{sym, ◌∙◌}
use Rattle.cf_check_report.proofs.Judging.{is_wrong, opens}
use Rattle.cf_check_report.proofs.judgements.Judge.judge.Goals as goal

pub returns-then-fails_next : goal.returns-then-fails_next
returns-then-fails_next g c = λ events report clusters done short h.
    opens g.D.Device.stands events report clusters done c.args.event.now c.args.behind.now c.args.rest.now short c.args.self h (sym c.fails_next.ensures ∙ c.if-fails_next.true)

pub returns-then-is_foreign : goal.returns-then-is_foreign
returns-then-is_foreign g c = λ events report clusters done short h.
    is_wrong g.D.Device.stands events report clusters done c.args.event.now c.args.behind.now c.args.rest.now short c.args.self h (sym c.fails_next.ensures ∙ c.if-fails_next.false) (sym c.is_foreign.ensures ∙ c.if-is_foreign.true)
