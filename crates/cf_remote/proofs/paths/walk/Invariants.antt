use Rattle.std.proofs.Common.{ℕ, length}
use Rattle.std.specs.Prelude.{Ok}
use Rattle.cf_base.specs.declared.answers.Shown.{Shown}
use Rattle.cf_base.specs.declared.messages.Entry.{Entry}
use Rattle.cf_model.specs.Arrows.{Arrow}
use Rattle.cf_model.specs.LookUp.{names_of}
use Rattle.cf_model.specs.Peers.{look, root_entry}
use Rattle.cf_model.specs.State.{State}
use Rattle.cf_remote.specs.LookUps.{Comes}
use Rattle.cf_remote.specs.Peers.{Stands}
use Rattle.cf_remote.proofs.paths.walk.Given as goal

abbrev pub invariant-loop-name : goal.invariant-loop-name
invariant-loop-name g l = (f : Entry → Arrow State Shown) (next : ℕ) (s : State) → Stands next (g.R.Remote.told l.fn.remote) s
    → Comes {A = Entry} (look f root_entry (names_of l.path)) (λ e. look f e l.names) next s (g.R.Remote.told l.fn.remote) (Ok l.at) (g.R.Remote.told l.remote)

abbrev pub decreases-loop-name : goal.decreases-loop-name
decreases-loop-name g l = length l.names
