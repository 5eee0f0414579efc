-- The words of a line behind their references.
use Rattle.std.proofs.Common.{◌≡◌, ℕ, suc, ◌-◌, ◌<◌, ◌≤◌, List, [], ◌∷◌, length, take, drop, get_or, map, Bor, refl, arith}
use Rattle.std.proofs.Math.Seq.{take-length}

abbrev pub no_word : Bor (List ℕ)
no_word = record { ref_ptr = (0, 0); now = [] }

abbrev pub texts : List (Bor (List ℕ)) → List (List ℕ)
texts ws = map (λ w. w.now) ws

abbrev pub after : ℕ → List (Bor (List ℕ)) → List (Bor (List ℕ))
after n ws = take (length ws - n) (drop n ws)

pub one_word : (ws : List (Bor (List ℕ))) → 1 ≤ length ws → length ws < 2 → texts ws ≡ (get_or ws 0 no_word).now ∷ []
one_word [] low high = absurd (omega arith)
one_word (w ∷ []) low high = refl
one_word (w ∷ v ∷ ws) low high = absurd (omega arith)

pub two_exactly : (ws : List (Bor (List ℕ))) → 2 ≤ length ws → length ws < 3 → texts ws ≡ (get_or ws 0 no_word).now ∷ (get_or ws 1 no_word).now ∷ []
two_exactly [] low high = absurd (omega arith)
two_exactly (w ∷ []) low high = absurd (omega arith)
two_exactly (w ∷ v ∷ []) low high = refl
two_exactly (w ∷ v ∷ u ∷ ws) low high = absurd (omega arith)

pub three_exactly : (ws : List (Bor (List ℕ))) → 3 ≤ length ws → length ws < 4 → texts ws ≡ (get_or ws 0 no_word).now ∷ (get_or ws 1 no_word).now ∷ (get_or ws 2 no_word).now ∷ []
three_exactly [] low high = absurd (omega arith)
three_exactly (w ∷ []) low high = absurd (omega arith)
three_exactly (w ∷ v ∷ []) low high = absurd (omega arith)
three_exactly (w ∷ v ∷ u ∷ []) low high = refl
three_exactly (w ∷ v ∷ u ∷ t ∷ ws) low high = absurd (omega arith)

pub first_word : (ws : List (Bor (List ℕ))) → 1 ≤ length ws → texts ws ≡ (get_or ws 0 no_word).now ∷ texts (after 1 ws)
first_word [] low = absurd (omega arith)
first_word (w ∷ ws) low =
    let e : suc (length ws) - 1 ≡ length ws = omega arith in rw (e, take-length ws) refl

pub two_words : (ws : List (Bor (List ℕ))) → 2 ≤ length ws → texts ws ≡ (get_or ws 0 no_word).now ∷ (get_or ws 1 no_word).now ∷ texts (after 2 ws)
two_words [] low = absurd (omega arith)
two_words (w ∷ []) low = absurd (omega arith)
two_words (w ∷ v ∷ ws) low =
    let e : suc (suc (length ws)) - 2 ≡ length ws = omega arith in rw (e, take-length ws) refl

pub three_words : (ws : List (Bor (List ℕ))) → 3 ≤ length ws → texts ws ≡ (get_or ws 0 no_word).now ∷ (get_or ws 1 no_word).now ∷ (get_or ws 2 no_word).now ∷ texts (after 3 ws)
three_words [] low = absurd (omega arith)
three_words (w ∷ []) low = absurd (omega arith)
three_words (w ∷ v ∷ []) low = absurd (omega arith)
three_words (w ∷ v ∷ u ∷ ws) low =
    let e : suc (suc (suc (length ws))) - 3 ≡ length ws = omega arith in rw (e, take-length ws) refl
