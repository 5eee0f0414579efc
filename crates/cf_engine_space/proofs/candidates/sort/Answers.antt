use Rattle.std.proofs.Common.{rules}
use Rattle.std.proofs.lemmas.List.Sorted.{IsNonDecreasingBy-from_sort_by_key, answers_always}
use Rattle.cf_tree.proofs.Stable.{sort_is}
use Rattle.cf_engine_space.proofs.candidates.sort.Goals as goal

pub returns : goal.returns
returns c =
    sort_is (λ d. d.last) c.args.candidates.now.items c.sort_by_key.new.self.items
    (IsNonDecreasingBy-from_sort_by_key (λ d. d.last) c.sort_by_key.new.self.items c.in_ok-sort_by_key.ensures.sorted (λ a r q k. search rules))
    (c.in_ok-sort_by_key.ensures.stable (λ d. d.last) (answers_always _ _ _ (λ f a r f' call. search rules)))
