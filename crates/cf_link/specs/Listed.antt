-- The asks of a remote that it lists as those that fail.
use Rattle.std.specs.Prelude.{◌≡◌, ℕ, zero, suc, ◌+◌, ◌==◌, true, List, Some, cond, is_some}
use Rattle.std.specs.List.{list_any}
use Rattle.cf_remote.specs.Told.{Told}

-- The remote reports how often it was asked, and the numbers of the asks that fail. So exactly these asks of it fail.
pub record Lists (fails : List ℕ) (told : Told) : Type 0 where
  pub counts : is_some told.asks ≡ true
  pub lists : told.fails ≡ Some fails

-- how many of the first n asks have one of these numbers, which count from 1
abbrev pub listed : List ℕ → ℕ → ℕ
listed fails zero = 0
listed fails (suc n) = listed fails n + cond (list_any (λ k. k == suc n) fails) 1 0
