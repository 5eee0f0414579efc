use Rattle.std.proofs.Common.{◌≡◌, ◌∙◌, List, ap, arith, subst, sym, true}
use Rattle.std.specs.List.{AllByRecursion}
use Rattle.cf_model.specs.Requests.{Live, is_data}
use Rattle.cf_waits.proofs.Remembered.{all_counted, all_data, equal_counts, none_counted}
use Rattle.cf_waits.specs.Books.{KeptAsks, is_list_ask, is_plain_ask}
use Rattle.cf_waits.proofs.ask_books.AskBook.is_data.Goals as goal

pub returns-then-self-eq0 : goal.returns-then-self-eq0
returns-then-self-eq0 c = λ t. subst (λ (l : List Live). AllByRecursion (λ a. is_data a.ask.kind ≡ true) l) (ap (λ (k : KeptAsks). k.asks) c.self.view_is)
    (all_data c.self.inside.tick c.self.inside.asks.items (all_counted is_plain_ask c.self.inside.asks.items (omega (arith, c.self.invariant.count, equal_counts c.self.inside.plain c.len.result t, c.len.ensures, c.self.inside.asks.ok)))
    (none_counted is_list_ask c.self.inside.asks.items (sym c.self.invariant.list_count ∙ c.if-self-eq0.true)))
