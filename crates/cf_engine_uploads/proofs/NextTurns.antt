-- The turns that come next, where those before them are nothing.
use Rattle.std.proofs.Common.{◌≡◌, ℕ, ◌+◌, ◌<◌, true, false, List, length, drop, get_or, sym, refl, ◌∙◌, ap, subst}
use Rattle.std.specs.Prelude.{Result}
use Rattle.cf_base.specs.declared.codes.CallError.{CallError}
use Rattle.cf_base.specs.declared.ids.ItemId.{ItemId}
use Rattle.cf_engine_steps.specs.Answering.{Answers, Any, Whole}
use Rattle.cf_engine_uploads.proofs.Trees.{same_at}
use Rattle.cf_engine_uploads.specs.Turns.{PlansTurn, SameTurns, is_nothing}
use Rattle.cf_engine_uploads.specs.declared.turns.Course.{Course}
use Rattle.cf_engine_uploads.specs.declared.turns.Course.TheVariants.{Nothing, New, Moved, Changed, Settled}
use Rattle.cf_filter_steps.proofs.Laws.{drop_at}
use Rattle.cf_model.specs.Arrows.{each}
use Rattle.cf_model.specs.Pushes.{push_turn}
use Rattle.cf_model.specs.Trees.{bind}

pub nothing_is : (c : Course) → is_nothing c ≡ true → c ≡ Nothing
nothing_is Nothing is = refl
nothing_is New is = let z : false ≡ true = is in absurd cc
nothing_is Moved is = let z : false ≡ true = is in absurd cc
nothing_is Changed is = let z : false ≡ true = is in absurd cc
nothing_is Settled is = let z : false ≡ true = is in absurd cc

module _ {X : Type 0} (W : Whole X) (ids : List ItemId) (x : X) where
  -- one more is nothing
  pub one_more : (from at : ℕ) (id : ItemId) (c : Course) → at < length ids → id ≡ get_or ids at id → SameTurns W ids from at x → PlansTurn W id x c → is_nothing c ≡ true → SameTurns W ids from (at + 1) x
  one_more from at id c lt is same plan none = λ s m.
      same s m
      ∙ ap (λ (l : List ItemId). each push_turn l s) (drop_at ids at id lt is)
      ∙ ap (λ t. bind t (λ _ u. each push_turn (drop (at + 1) ids) u)) (sym ((subst (PlansTurn W id x) (nothing_is c none) plan).is s m))

  -- what those answer that come next
  pub answers_on : (from to : ℕ) (r : Result (Unit {0}) CallError) (y : X) → SameTurns W ids from to x → Answers W Any (each push_turn (drop to ids)) x r y → Answers W Any (each push_turn (drop from ids)) x r y
  answers_on from to r y same a = same_at W x r y Any (each push_turn (drop to ids)) (each push_turn (drop from ids)) (λ s m p. sym (same s m)) a
