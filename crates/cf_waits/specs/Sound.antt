-- What steps keep of waits and asks.
use Rattle.std.specs.Prelude.{◌≤◌}
use Rattle.std.specs.List.{AllByRecursion}
use Rattle.cf_ask_rule.specs.Near.{Agrees, IsFull}
use Rattle.cf_ask_rule.specs.Owners.{AreApart}
use Rattle.cf_base.specs.declared.ids.ItemId.{ItemId}
use Rattle.cf_model.specs.Requests.{Waiting}
use Rattle.cf_waits.specs.Rising.{IsNumbered}

-- Waits and asks stand in order of their numbers; each data ask has a block; the wait of an ask is on its item; no block of an
-- item has two owners.
pub record IsSound (s : Waiting) : Type 0 where
  pub numbered : IsNumbered s
  pub full : AllByRecursion IsFull s.asks
  pub agrees : AllByRecursion (Agrees s.waits) s.asks
  pub given : AllByRecursion (λ a. a.wait.0.number ≤ s.wait_count) s.asks
  pub apart : (item : ItemId) → AreApart item s.asks
