-- Where a text is cut.
use Rattle.std.proofs.Common.{◌≡◌, ℕ, zero, suc, ◌<◌, Bool, true, false, List, [], ◌∷◌, ◌++◌, length, get_or, refl, subst, arith, length-append}
use Rattle.std.specs.Prelude.{◌&&◌}
use Rattle.std.specs.List.{list_all}
use Rattle.std.proofs.Math.Seq.{get_or-append_seam}
use Rattle.cf_script_words.specs.Cut.{HasNo}

and_parts : (a b : Bool) → (a && b) ≡ true → (a ≡ true) × (b ≡ true)
and_parts true b h = (refl, h)
and_parts false b h = absurd cc

-- where each byte passes a test that c fails, there is no c
pub lacks : (c : ℕ) (test : ℕ → Bool) (bytes : List ℕ) → test c ≡ false → list_all test bytes ≡ true → HasNo c bytes
lacks c test [] fails all i lt = absurd (omega arith)
lacks c test (b ∷ bs) fails all zero lt = let h = (and_parts (test b) (list_all test bs) all).0 in λ e. let k : test c ≡ true = subst (λ n. test n ≡ true) e h in cc
lacks c test (b ∷ bs) fails all (suc i) lt = lacks c test bs fails (and_parts (test b) (list_all test bs) all).1 i (omega arith)

pub cut_at : (c : ℕ) (word d t : List ℕ) → word ≡ d ++ c ∷ t → get_or word (length d) 0 ≡ c
cut_at c word d t e = rw e (get_or-append_seam d c t 0)

pub cut_in : (c : ℕ) (word d t : List ℕ) → word ≡ d ++ c ∷ t → length d < length word
cut_in c word d t e = rw e (omega (arith, length-append d (c ∷ t)))

-- there is one first cut
pub cut_once : (c : ℕ) (d d' t t' : List ℕ) → d ++ c ∷ t ≡ d' ++ c ∷ t' → HasNo c d → HasNo c d' → (d ≡ d') × (t ≡ t')
cut_once c [] [] t t' e n n' = (refl, cc)
cut_once c [] (x ∷ xs) t t' e n n' = let k : x ≡ c = cc in absurd (n' 0 (omega arith) k)
cut_once c (x ∷ xs) [] t t' e n n' = let k : x ≡ c = cc in absurd (n 0 (omega arith) k)
cut_once c (x ∷ xs) (y ∷ ys) t t' e n n' =
    let m : HasNo c xs = λ i lt. n (suc i) (omega arith) in
    let m' : HasNo c ys = λ i lt. n' (suc i) (omega arith) in
    let tails : xs ++ c ∷ t ≡ ys ++ c ∷ t' = cc in
    let rest = cut_once c xs ys t t' tails m m' in
    let k : x ≡ y = cc in (cc, rest.1)
