-- Words that are so many are read as such.
use Rattle.std.proofs.Common.{ℕ, ◌<◌, ◌≤◌, List, [], ◌∷◌, length, get_or, Bor, sym, subst, arith}
use Rattle.std.specs.Prelude.{Option, Some, None}
use Rattle.cf_script_words.specs.Words.{Reads}
use Rattle.cf_script_words.specs.Shapes.{OfOne, OfTwo, OfThree, OfTwoOrMore}
use Rattle.cf_script_words.proofs.WordLists.{no_word, texts, after, two_words}

-- the word at a place
abbrev pub word_at : ℕ → List (Bor (List ℕ)) → List ℕ
word_at n ws = (get_or ws n no_word).now

pub of_one : {X : Type 0} (Are : List ℕ → X → Type 0) (ws : List (Bor (List ℕ))) (o : Option X) → 1 ≤ length ws → length ws < 2 → Reads (Are (word_at 0 ws)) o → Reads (OfOne Are (texts ws)) o
of_one Are [] o low high h = absurd (omega arith)
of_one Are (w ∷ []) (Some x) low high h = h
of_one Are (w ∷ []) None low high h = h
of_one Are (w ∷ v ∷ ws) o low high h = absurd (omega arith)

pub of_two : {X : Type 0} (Are : List ℕ → List ℕ → X → Type 0) (ws : List (Bor (List ℕ))) (o : Option X) → 2 ≤ length ws → length ws < 3 → Reads (Are (word_at 0 ws) (word_at 1 ws)) o → Reads (OfTwo Are (texts ws)) o
of_two Are [] o low high h = absurd (omega arith)
of_two Are (w ∷ []) o low high h = absurd (omega arith)
of_two Are (w ∷ v ∷ []) (Some x) low high h = h
of_two Are (w ∷ v ∷ []) None low high h = h
of_two Are (w ∷ v ∷ u ∷ ws) o low high h = absurd (omega arith)

pub of_three : {X : Type 0} (Are : List ℕ → List ℕ → List ℕ → X → Type 0) (ws : List (Bor (List ℕ))) (o : Option X) → 3 ≤ length ws → length ws < 4 → Reads (Are (word_at 0 ws) (word_at 1 ws) (word_at 2 ws)) o → Reads (OfThree Are (texts ws)) o
of_three Are [] o low high h = absurd (omega arith)
of_three Are (w ∷ []) o low high h = absurd (omega arith)
of_three Are (w ∷ v ∷ []) o low high h = absurd (omega arith)
of_three Are (w ∷ v ∷ u ∷ []) (Some x) low high h = h
of_three Are (w ∷ v ∷ u ∷ []) None low high h = h
of_three Are (w ∷ v ∷ u ∷ t ∷ ws) o low high h = absurd (omega arith)

pub of_two_or_more : {X : Type 0} (Are : List ℕ → List ℕ → List (List ℕ) → X → Type 0) (ws : List (Bor (List ℕ))) (o : Option X) → 2 ≤ length ws → Reads (Are (word_at 0 ws) (word_at 1 ws) (texts (after 2 ws))) o → Reads (OfTwoOrMore Are (texts ws)) o
of_two_or_more Are ws (Some x) low h = subst (λ vs. Reads (OfTwoOrMore Are vs) (Some x)) (sym (two_words ws low)) h
of_two_or_more Are ws None low h = subst (λ vs. Reads (OfTwoOrMore Are vs) None) (sym (two_words ws low)) h
