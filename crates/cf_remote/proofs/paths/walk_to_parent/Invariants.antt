use Rattle.std.proofs.Common.{◌≡◌, ℕ, ◌∷◌, List, length, true}
use Rattle.std.specs.Prelude.{Ok}
use Rattle.std.specs.List.{list_all}
use denote.Text.{Utf8}
use denote.Shadow.{shadow}
use Rattle.cf_base.specs.declared.answers.Shown.{Shown}
use Rattle.cf_base.specs.declared.messages.Entry.{Entry}
use Rattle.cf_model.specs.Arrows.{Arrow}
use Rattle.cf_model.specs.LookUp.{names_of}
use Rattle.cf_model.specs.State.{State}
use Rattle.cf_model.specs.Texts.{is_name}
use Rattle.cf_remote.specs.LookUps.{Comes, parent_from, parent_of}
use Rattle.cf_remote.specs.Peers.{Stands}
use Rattle.cf_remote.proofs.paths.walk_to_parent.Given as goal

abbrev pub invariant-loop-next : goal.invariant-loop-next
invariant-loop-next g l = record {
  utf8 : shadow (Utf8 l.name);
  good : list_all is_name (l.name ∷ l.names) ≡ true;
  way : (f : Entry × List ℕ → Arrow State Shown) (next : ℕ) (s : State) → Stands next (g.R.Remote.told l.fn.remote) s
      → Comes {A = Entry} (parent_of f (names_of l.path)) (λ e. parent_from f e l.name l.names) next s (g.R.Remote.told l.fn.remote) (Ok l.at) (g.R.Remote.told l.remote);
}

abbrev pub decreases-loop-next : goal.decreases-loop-next
decreases-loop-next g l = length l.names
