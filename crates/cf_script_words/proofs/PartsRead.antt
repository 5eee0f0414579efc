-- What is read by its parts.
use Rattle.std.proofs.Common.{subst, Option, Some, None}
use Rattle.cf_script_words.specs.Words.{Reads}

-- the first part chooses what the rest may be
pub chosen_reads : {C X : Type 0} (Is : C → Type 0) (F : C → X → Type 0) (c : C) (o : Option X) → Reads Is (Some c) → Reads (F c) o → Reads (λ x. (d : C) × Is d × F d x) o
chosen_reads Is F c (Some x) h k = ((c, h.0, k.0), λ y is. k.1 y (subst (λ d. F d y) (h.1 is.0 is.1) is.2))
chosen_reads Is F c None h k = λ y is. k y (subst (λ d. F d y) (h.1 is.0 is.1) is.2)

pub none_chosen : {C X : Type 0} (Is : C → Type 0) (F : C → X → Type 0) → Reads Is None → (y : X) → (d : C) × Is d × F d y → ⊥
none_chosen Is F h y is = h is.0 is.1

-- two parts do
pub both_read : {C D X : Type 0} (Is : C → Type 0) (Has : D → Type 0) (F : C → D → X → Type 0) (c : C) (d : D) (o : Option X) → Reads Is (Some c) → Reads Has (Some d) → Reads (F c d) o → Reads (λ x. (c : C) × (d : D) × Is c × Has d × F c d x) o
both_read Is Has F c d (Some x) h k m = ((c, d, h.0, k.0, m.0), λ y is. m.1 y (subst (λ e. F c e y) (k.1 is.1 is.3) (subst (λ e. F e is.1 y) (h.1 is.0 is.2) is.4)))
both_read Is Has F c d None h k m = λ y is. m y (subst (λ e. F c e y) (k.1 is.1 is.3) (subst (λ e. F e is.1 y) (h.1 is.0 is.2) is.4))
