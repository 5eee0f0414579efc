-- So many words stand there, and they are such.
use Rattle.std.specs.Prelude.{ℕ, List, [], ◌∷◌}

-- one word stands there, two or three, and they are such
abbrev pub OfOne : {X : Type 0} → (List ℕ → X → Type 0) → List (List ℕ) → X → Type 0
OfOne Are (a ∷ []) x = Are a x
OfOne Are ws x = ⊥

abbrev pub OfTwo : {X : Type 0} → (List ℕ → List ℕ → X → Type 0) → List (List ℕ) → X → Type 0
OfTwo Are (a ∷ b ∷ []) x = Are a b x
OfTwo Are ws x = ⊥

abbrev pub OfThree : {X : Type 0} → (List ℕ → List ℕ → List ℕ → X → Type 0) → List (List ℕ) → X → Type 0
OfThree Are (a ∷ b ∷ c ∷ []) x = Are a b c x
OfThree Are ws x = ⊥

-- two words, and those after them, are such
abbrev pub OfTwoOrMore : {X : Type 0} → (List ℕ → List ℕ → List (List ℕ) → X → Type 0) → List (List ℕ) → X → Type 0
OfTwoOrMore Are (a ∷ b ∷ ws) x = Are a b ws x
OfTwoOrMore Are ws x = ⊥
