-- Parts of the whole by what is known of each state.
use Rattle.std.proofs.Common.{◌≡◌, subst}
use Rattle.std.specs.Prelude.{Result}
use Rattle.cf_base.specs.declared.codes.CallError.{CallError}
use Rattle.cf_engine_steps.specs.Answering.{After, Answers, Whole}
use Rattle.cf_model.specs.Arrows.{Arrow}
use Rattle.cf_model.specs.State.{State}
use Rattle.cf_model.specs.Trees.{Does, Tree}

module _ {X A : Type 0} (W : Whole X) (old : X) (r : Result A CallError) (new : X) where
  -- where the tree leads
  abbrev pub Leads : State → Tree State A → Type 0
  Leads s p = (t : State) × Does p r t × W.moved old new s t × After W old r new s t

  pub on_tree : (s : State) (p q : Tree State A) → p ≡ q → Leads s p → Leads s q
  on_tree s p q e h = subst (Leads s) e h

  -- the same tree in each state that has the property
  pub same_at : (P : State → Type 0) (f g : Arrow State A) → ((s : State) → W.means old s → P s → f s ≡ g s) → Answers W P f old r new → Answers W P g old r new
  same_at P f g same h = record { leads = λ s i p. on_tree s (f s) (g s) (same s i p) (h.leads s i p) }

  -- under a property that each state has which has the other
  pub under : (P Q : State → Type 0) (f : Arrow State A) → ((s : State) → W.means old s → Q s → P s) → Answers W P f old r new → Answers W Q f old r new
  under P Q f w h = record { leads = λ s i q. h.leads s i (w s i q) }
