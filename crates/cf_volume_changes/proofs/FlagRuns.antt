-- How many runs flags have once those of a span are set too.
use Rattle.std.proofs.Common.{◌≡◌, ℕ, suc, ◌+◌, ◌≤◌, Bool, true, false, ◌||◌, cond, List, [], ◌∷◌, refl, sym, ap, ◌∙◌, arith}
use Rattle.std.proofs.lemmas.Bool.{true≢false}
use Rattle.std.proofs.lemmas.Bool.Decides.{nat_tests}
use Rattle.cf_model.specs.Images.{count_runs}
use Rattle.cf_model.specs.Words.{passes_at, within}

-- the flag of a place, and false past the end
abbrev flag : List Bool → ℕ → Bool
flag bs q = passes_at (λ b. b) bs q

-- behind a place of a run there are no more runs than behind any other
fewer_behind : (before : Bool) (bs : List Bool) → count_runs true bs ≤ count_runs before bs
fewer_behind before [] = omega arith
fewer_behind true (true ∷ bs) = omega arith
fewer_behind false (true ∷ bs) = omega arith
fewer_behind before (false ∷ bs) = omega arith

-- the same flags have the same runs, however many are false at the end
pub as_many : (before : Bool) (bs cs : List Bool) → ((q : ℕ) → flag cs q ≡ flag bs q) → count_runs before cs ≤ count_runs before bs
as_many before bs [] h = omega arith
as_many before [] (true ∷ cs) h = absurd (true≢false (h 0))
as_many before [] (false ∷ cs) h = as_many false [] cs (λ q. h (suc q))
as_many before (true ∷ bs) (true ∷ cs) h = let rest = as_many true bs cs (λ q. h (suc q)) in omega (arith, rest)
as_many before (true ∷ bs) (false ∷ cs) h = absurd (true≢false (sym (h 0)))
as_many before (false ∷ bs) (true ∷ cs) h = absurd (true≢false (h 0))
as_many before (false ∷ bs) (false ∷ cs) h = as_many false bs cs (λ q. h (suc q))

-- numbers

next_place : (start end at q : ℕ) → within start end (at + suc q) ≡ within start end (at + 1 + q)
next_place start end at q = ap (within start end) (omega arith)

begun : (start end at q : ℕ) (b : Bool) → within start end (at + 0) ≡ true → (b || within start end (at + suc q)) ≡ (b || within 0 end (at + 1 + q))
begun start end at q true h = refl
begun start end at q false h = grind (arith, nat_tests)

ended : (end at q : ℕ) (b : Bool) → within 0 end (at + 0) ≡ false → (b || within 0 end (at + suc q)) ≡ b
ended end at q true h = refl
ended end at q false h = grind (arith, nat_tests)

-- past the first place of the span

goes_on : (before : Bool) (end at : ℕ) (bs cs : List Bool) → ((q : ℕ) → flag cs q ≡ (flag bs q || within 0 end (at + q))) → count_runs true cs ≤ count_runs before bs
goes_on before end at bs [] h = omega arith
goes_on before end at [] (true ∷ cs) h =
    let rest = goes_on before end (at + 1) [] cs (λ q. h (suc q) ∙ next_place 0 end at q) in
    omega (arith, rest)
goes_on before end at [] (false ∷ cs) h = as_many false [] cs (λ q. h (suc q) ∙ ended end at q false (sym (h 0)))
goes_on before end at (true ∷ bs) (true ∷ cs) h =
    let rest = goes_on true end (at + 1) bs cs (λ q. h (suc q) ∙ ap (λ b. flag bs q || b) (next_place 0 end at q)) in
    omega (arith, rest)
goes_on before end at (true ∷ bs) (false ∷ cs) h = absurd (true≢false (sym (h 0)))
goes_on before end at (false ∷ bs) (true ∷ cs) h =
    let rest = goes_on false end (at + 1) bs cs (λ q. h (suc q) ∙ ap (λ b. flag bs q || b) (next_place 0 end at q)) in
    omega (arith, rest)
goes_on before end at (false ∷ bs) (false ∷ cs) h = as_many false bs cs (λ q. h (suc q) ∙ ended end at q (flag bs q) (sym (h 0)))

one_begins : (before : Bool) → cond before 0 1 ≤ 1
one_begins true = omega arith
one_begins false = omega arith

-- one run more at most
spanned : (before : Bool) (start end at : ℕ) (bs cs : List Bool) → ((q : ℕ) → flag cs q ≡ (flag bs q || within start end (at + q))) → count_runs before cs ≤ count_runs before bs + 1
spanned before start end at bs [] h = omega arith
spanned before start end at [] (true ∷ cs) h =
    let rest = goes_on false end (at + 1) [] cs (λ q. h (suc q) ∙ begun start end at q false (sym (h 0))) in
    omega (arith, rest, one_begins before)
spanned before start end at [] (false ∷ cs) h = spanned false start end (at + 1) [] cs (λ q. h (suc q) ∙ next_place start end at q)
spanned before start end at (true ∷ bs) (true ∷ cs) h =
    let rest = spanned true start end (at + 1) bs cs (λ q. h (suc q) ∙ ap (λ b. flag bs q || b) (next_place start end at q)) in
    omega (arith, rest)
spanned before start end at (true ∷ bs) (false ∷ cs) h = absurd (true≢false (sym (h 0)))
spanned before start end at (false ∷ bs) (true ∷ cs) h =
    let rest = goes_on false end (at + 1) bs cs (λ q. h (suc q) ∙ begun start end at q (flag bs q) (sym (h 0))) in
    omega (arith, rest, one_begins before)
spanned before start end at (false ∷ bs) (false ∷ cs) h = spanned false start end (at + 1) bs cs (λ q. h (suc q) ∙ ap (λ b. flag bs q || b) (next_place start end at q))

pub one_run_more : (start end : ℕ) (bs cs : List Bool) → ((p : ℕ) → flag cs p ≡ (flag bs p || within start end p)) → count_runs false cs ≤ count_runs false bs + 1
one_run_more start end bs cs h = spanned false start end 0 bs cs (λ q. h q ∙ ap (λ p. flag bs q || within start end p) (omega arith))
