-- Lists of which the first items pass a test and the others do not, and lists in chunks.
use Rattle.std.specs.Prelude.{Bool, true, false, cond, List, [], length, ◌++◌, ◌<◌, ◌≡◌, ◌∷◌}

-- none passes
abbrev pub NonePass : {T : Type 0} → (T → Bool) → List T → Type 0
NonePass p [] = Unit {0}
NonePass p (x ∷ xs) = (p x ≡ false) × NonePass p xs

-- behind one that does not pass, none passes
abbrev pub IsSplit : {T : Type 0} → (T → Bool) → List T → Type 0
IsSplit p [] = Unit {0}
IsSplit p (x ∷ xs) = (p x ≡ false → NonePass p xs) × IsSplit p xs

-- the items up to the first one that does not pass
abbrev pub front : {T : Type 0} → (T → Bool) → List T → List T
front p [] = []
front p (x ∷ xs) = cond (p x) (x ∷ front p xs) []

-- the items from there on
abbrev pub behind : {T : Type 0} → (T → Bool) → List T → List T
behind p [] = []
behind p (x ∷ xs) = cond (p x) (behind p xs) (x ∷ xs)

-- the list without its first item
abbrev pub rest : {T : Type 0} → List T → List T
rest [] = []
rest (x ∷ xs) = xs

-- the items of the chunks
abbrev pub flat : {T : Type 0} → List (List T) → List T
flat [] = []
flat (c ∷ cs) = c ++ flat cs

-- no chunk is empty
abbrev pub AreFilled : {T : Type 0} → List (List T) → Type 0
AreFilled [] = Unit {0}
AreFilled (c ∷ cs) = (0 < length c) × AreFilled cs

-- the last item passes
abbrev pub last_passes : {T : Type 0} → (T → Bool) → List T → Bool
last_passes p [] = true
last_passes p (x ∷ []) = p x
last_passes p (x ∷ y ∷ ys) = last_passes p (y ∷ ys)
