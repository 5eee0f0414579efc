-- What one more item adds to what counts.
use Rattle.std.proofs.Common.{◌≡◌, ℕ, ◌+◌, Bool, true, cond, List, [], ◌∷◌, ◌++◌, ap, ◌∙◌}
use Rattle.std.specs.Prelude.{nat_lt, sum_by, count_by}
use Rattle.std.proofs.lemmas.List.Sums.{sum_by_push}
use Rattle.cf_model.specs.Store.{Stored, passes_bytes, passes_items}
use Rattle.cf_remote.specs.Held.{held_len}

pub quota_bytes : (items : List Stored) (s : Stored) (n : ℕ) → held_len s ≡ n → passes_bytes (items ++ s ∷ []) ≡ nat_lt 536870912 (sum_by held_len items + n)
quota_bytes items s n e = ap (nat_lt 536870912) (sum_by_push held_len items s ∙ ap (λ (m : ℕ). sum_by held_len items + m) e)

pub count_more : (items : List Stored) (s : Stored) → s.live ≡ true → count_by (λ x. x.live) (items ++ s ∷ []) ≡ count_by (λ x. x.live) items + 1
count_more items s e = sum_by_push (λ (x : Stored). cond x.live 1 0) items s ∙ ap (λ (b : Bool). count_by (λ x. x.live) items + cond b 1 0) e

pub quota_items : (items : List Stored) (s : Stored) → s.live ≡ true → passes_items (items ++ s ∷ []) ≡ nat_lt 10000 (count_by (λ x. x.live) items + 1)
quota_items items s e = ap (nat_lt 10000) (count_more items s e)
