use Rattle.std.proofs.Common.{◌-◌, ◌∙◌, List, ap, subst, sym}
use Rattle.std.specs.List.{AllByRecursion}
use Rattle.cf_ask_rule.specs.Fronts.{EndsBy}
use Rattle.cf_model.specs.Asks.{new_asks}
use Rattle.cf_model.specs.Requests.{Live}
use Rattle.cf_waits.proofs.Beside.{made_aged}
use Rattle.cf_waits.specs.Books.{KeptAsks}
use Rattle.cf_waits.proofs.ask_books.AskBook.behind.Goals as goal

pub asks_from-requires : goal.asks_from-requires
asks_from-requires c = subst (λ (l : List Live). AllByRecursion (EndsBy c.self.inside.end) l) (sym c.deref.ensures.value) c.self.invariant.ends

pub returns : goal.returns
returns c = λ item v ws small from. c.asks_from.ensures item v ws small from ∙ ap (new_asks item v ws) c.deref.ensures.value ∙ made_aged item v ws (λ (a : Live). c.self.inside.tick - a.ticks) c.self.inside.asks.items ∙ ap (λ (k : KeptAsks). new_asks item v ws k.asks) c.self.view_is
