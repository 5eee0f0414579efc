use Rattle.cf_check_report.proofs.Judging.{by_result}
use Rattle.cf_check_report.proofs.judgements.Judge.follow.Goals as goal

pub returns-in-Ok : goal.returns-in-Ok
returns-in-Ok g c = λ events report clusters done short h.
    by_result g.D.Device.stands g.met.D.Device.aimed events report clusters done c.args.event.now c.args.behind.now c.args.rest.now c.in-Ok.answer c.args.self _ c.next_aim-aim.result c.take-judged.result short c.requires.of c.requires.runs c.next_aim-aim.ensures (rw c.in-Ok.is at c.play-left.ensures) c.take-judged.ensures h
