use Rattle.std.proofs.Common.{Option, subst}
use Rattle.cf_waits.proofs.Lined.{line_by}
use Rattle.cf_waits.proofs.lines.line_with.Goals as goal
use Rattle.cf_waits.specs.Lines.{InLine}

pub returns-in-Some : goal.returns-in-Some
returns-in-Some c = λ ws h. line_by c.in-Some.end c.end_behind.result c.args.w.now ws c.end_behind.ensures (subst (λ (o : Option _). InLine o ws) c.in-Some.is h)
