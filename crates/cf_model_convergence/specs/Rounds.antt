-- A round of which the reply is awaited.
use Rattle.std.specs.Prelude.{true, [], ◌≡◌, ◌≤◌}
use Rattle.cf_model.specs.State.{State, book_now, items_now}
use Rattle.cf_model.specs.Store.{Stored}
use Rattle.cf_model_laws.specs.Invariant.{All}
use Rattle.cf_model_convergence.specs.Resting.{IsTargetOf}
use Rattle.cf_model_convergence.specs.Tidy.{IsTidy}

-- The latest round is open and no upload is on its way. The cursor is no later than the remote, and items are of the kinds of
-- their targets.
pub record AwaitsFeed (s : State) : Type 0 where
  pub tidy : IsTidy s.link.remote
  pub kinds : All (λ i. (r : Stored) → IsTargetOf s i r → r.directory ≡ i.directory) (items_now s)
  pub cursor : (book_now s).cursor ≤ s.link.remote.clock
  pub awaited : s.volatile.round_open ≡ true
  pub none : (book_now s).entries ≡ []
