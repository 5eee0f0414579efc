use Rattle.std.proofs.Common.{Option, subst}
use Rattle.std.specs.List.{AllByRecursion}
use Rattle.std.specs.Prelude.{IfSome}
use Rattle.cf_ask_rule.specs.Fronts.{NeedsFrom}
use Rattle.cf_waits.proofs.ask_books.asks_from.Goals as goal

pub returns-in-Some : goal.returns-in-Some
returns-in-Some c = λ item v ws small from. c.asks_behind.ensures item v ws small (subst (λ (o : Option _). IfSome o (λ n. AllByRecursion (NeedsFrom v n) ws)) c.in-Some.is from)
