use Rattle.std.proofs.Common.{◌∙◌, List, ap, subst, sym}
use Rattle.cf_ask_rule.specs.Narrowing.{AreNear}
use Rattle.cf_model.specs.Missing.{Wait}
use Rattle.cf_waits.specs.Books.{KeptWaits}
use Rattle.cf_waits.specs.Lines.{InLine}
use Rattle.cf_waits.proofs.wait_books.WaitBook.near.Goals as goal

pub near_by-requires : goal.near_by-requires
near_by-requires c = subst (λ (l : List Wait). InLine c.self.inside.line l) (sym c.deref.ensures.value) c.self.invariant.in_line

pub returns : goal.returns
returns c = subst (λ (l : List Wait). AreNear c.args.item c.args.v.now c.args.span.start c.args.span.end c.near_by.result.now l) (c.deref.ensures.value ∙ ap (λ (k : KeptWaits). k.waits) c.self.view_is) c.near_by.ensures
