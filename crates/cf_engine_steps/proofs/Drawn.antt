-- Tokens and rounds that are drawn, or left out.
use Rattle.std.proofs.Common.{◌≡◌, Bool, true, false, not, [], ◌∷◌, refl, sym, ◌∙◌, ap, subst, ℕ}
use Rattle.std.specs.Prelude.{Result, Ok, Option, Some, None, nat_le}
use Rattle.cf_base.specs.declared.codes.Code.{Code}
use Rattle.cf_base.specs.declared.codes.Code.TheVariants as code
use Rattle.cf_base.specs.declared.codes.CallError.{CallError}
use Rattle.cf_engine_steps.specs.Answering.{Answers, Any}
use Rattle.cf_engine_steps.specs.States.{Own, whole, with_volatile_of}
use Rattle.cf_engine_steps.proofs.Noted.{one_volatile}
use Rattle.cf_engine_steps.proofs.Tried.{tried_done, tried_skips}
use Rattle.cf_filter_steps.specs.Answering as steps
use Rattle.cf_model.specs.Arrows.{one, seq, unit}
use Rattle.cf_model.specs.Numbers.{most}
use Rattle.cf_model.specs.Skips.{not_done, skip, tried, with_volatile}
use Rattle.cf_model.specs.State.{State, Volatile}
use Rattle.cf_model.specs.Words.{first_of}
use Rattle.cf_remote.specs.Told.{Told}

-- none is left
abbrev pub why_none : (Volatile → ℕ) → State → Option Code
why_none count s = first_of ((nat_le most (count s.volatile), code.Exhausted) ∷ [])

is_left : (b c : Bool) → b ≡ not c → b ≡ true → first_of ((c, code.Exhausted) ∷ []) ≡ None
is_left b false e h = refl
is_left b true e h = let z : true ≡ false = sym h ∙ e in absurd cc

is_gone : (b c : Bool) → b ≡ not c → b ≡ false → first_of ((c, code.Exhausted) ∷ []) ≡ Some code.Exhausted
is_gone b true e h = refl
is_gone b false e h = let z : false ≡ true = sym h ∙ e in absurd cc

module _ {X R : Type 0} (S : steps.Sense X) (told : R → Told) (count : Volatile → ℕ) (g : Volatile → Volatile) (x : X) (e f : Own R) (b : Bool) (left : b ≡ not (nat_le most (count e.volatile))) where
  pub drawn : b ≡ true → (b ≡ true → f ≡ with_volatile_of g e) → Answers (whole S told) Any (tried (why_none count) (one (with_volatile g))) (x, e) (Ok true) (x, f)
  drawn is new = tried_done (whole S told) Any Any (why_none count) (one (with_volatile g)) (x, e) (x, f) unit
      (λ s i p. (ap (λ (v : Volatile). first_of ((nat_le most (count v), code.Exhausted) ∷ [])) (sym i.volatile) ∙ is_left b (nat_le most (count e.volatile)) left is, record {}))
      (one_volatile S told Any x e f g (new is))

  pub not_drawn : (y : X) (h : Own R) (r : Result Bool CallError) → b ≡ false → (b ≡ false → f ≡ e) → Answers (whole S told) Any (seq (skip code.Exhausted) not_done) (x, f) r (y, h)
      → Answers (whole S told) Any (tried (why_none count) (one (with_volatile g))) (x, e) r (y, h)
  not_drawn y h r is same k = tried_skips (whole S told) Any Any (why_none count) (one (with_volatile g)) (x, e) (y, h) code.Exhausted r
      (λ s i p. ap (λ (v : Volatile). first_of ((nat_le most (count v), code.Exhausted) ∷ [])) (sym i.volatile) ∙ is_gone b (nat_le most (count e.volatile)) left is)
      (subst (λ (o : Own R). Answers (whole S told) Any (seq (skip code.Exhausted) not_done) (x, o) r (y, h)) (same is) k)
