-- The versions of one item: the latest, and how many bytes are held.
use Rattle.std.proofs.Common.{◌≡◌, ℕ, zero, suc, ◌+◌, ◌-◌, ◌≤◌, List, [], ◌∷◌, length, drop, take, ap, ◌∙◌, subst, arith, drop-drop}
use Rattle.std.specs.Prelude.{Some, slice_get, sum_by}
use Rattle.std.proofs.lemmas.List.{drop_all}
use Rattle.std.proofs.lemmas.List.Sums.{sum_by-take-drop}
use Rattle.cf_model.specs.Words.{last_of}

last_at : (n : ℕ) (vs : List (List ℕ)) (v x : List ℕ) → length vs ≡ n → slice_get (v ∷ vs) n ≡ Some x → last_of v vs ≡ x
last_at zero [] v x h e = cc
last_at zero (w ∷ vs) v x h e = absurd (omega arith)
last_at (suc n) [] v x h e = absurd (omega arith)
last_at (suc n) (w ∷ vs) v x h e = last_at n vs w x (omega arith) e

pub last_is : (vs : List (List ℕ)) (d x : List ℕ) → slice_get vs (length vs - 1) ≡ Some x → last_of d vs ≡ x
last_is [] d x e = cc
last_is (v ∷ vs) d x e = last_at (length (v ∷ vs) - 1) vs v x (omega arith) e

-- what is held, and what lies before it, of a place between
pub dropped_rest : (vs : List (List ℕ)) (m n : ℕ) → m ≤ n → sum_by length (take (n - m) (drop m vs)) + sum_by length (drop n vs) ≡ sum_by length (drop m vs)
dropped_rest vs m n le =
    let e : drop (n - m) (drop m vs) ≡ drop n vs = drop-drop (n - m) m vs ∙ ap (λ (k : ℕ). drop k vs) (omega arith) in
    subst (λ (ws : List (List ℕ)). sum_by length (take (n - m) (drop m vs)) + sum_by length ws ≡ sum_by length (drop m vs)) e (sum_by-take-drop length (drop m vs) (n - m))

pub dropped_past : (vs : List (List ℕ)) (n : ℕ) → length vs ≤ n → sum_by length (drop n vs) ≡ 0
dropped_past vs n le = ap (sum_by length) (drop_all n vs le)
