use Rattle.std.proofs.Common.{◌≡◌, List, ap, arith, false, subst}
use Rattle.std.specs.List.{AllByRecursion}
use Rattle.cf_model.specs.Missing.{Wait}
use Rattle.cf_model.specs.Requests.{is_dehydrate_wait}
use Rattle.cf_waits.proofs.Remembered.{all_counted, all_plain, equal_counts}
use Rattle.cf_waits.specs.Books.{KeptWaits, is_plain_wait}
use Rattle.cf_waits.proofs.wait_books.WaitBook.is_plain.Goals as goal

pub returns : goal.returns
returns c = λ t. subst (λ (l : List Wait). AllByRecursion (λ w. is_dehydrate_wait w.kind ≡ false) l) (ap (λ (k : KeptWaits). k.waits) c.self.view_is)
    (all_plain c.self.inside.waits.items (all_counted is_plain_wait c.self.inside.waits.items (omega (arith, c.self.invariant.count, equal_counts c.self.inside.plain c.len.result t, c.len.ensures, c.self.inside.waits.ok))))
