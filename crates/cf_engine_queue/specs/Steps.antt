-- What the steps of a book ask, so that each is one auxiliary record that is put or taken away.
use Rattle.std.specs.Prelude.{◌≡◌, ◌<◌, true, List, All}
use Rattle.std.specs.List.{AllByRecursion}
use Rattle.cf_base.specs.declared.items.SeenPath.{SeenPath}
use Rattle.cf_model.specs.Books.{Book, QueueEntry, Tombstone}
use Rattle.cf_engine_queue.specs.Books.{token_rank}
use Rattle.cf_engine_queue.specs.Order.{is_above}
use Rattle.cf_engine_queue.specs.Records.{FitsKey, FitsUsn}

-- what a record is found by has room in its key: the tokens of entries, the ids of paths seen, the numbers of tombstones

abbrev pub AreShortTokens : List QueueEntry → Type 0
AreShortTokens es = AllByRecursion (λ e. FitsKey e.token.0) es

abbrev pub AreShortIds : List SeenPath → Type 0
AreShortIds ps = All (λ p. p.item.0 < 18446744073709551616) ps

abbrev pub AreShortNumbers : List Tombstone → Type 0
AreShortNumbers ts = AllByRecursion (λ t. FitsUsn t.number) ts

-- the token of the entry is above those of all entries of the book
abbrev pub IsNewest : QueueEntry → Book → Type 0
IsNewest e b = AllByRecursion (λ x. is_above (token_rank e) (token_rank x) ≡ true) b.entries
