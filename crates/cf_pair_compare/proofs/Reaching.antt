-- Two lists are passed from their fronts: what is told of the rests is told of the whole.
use Rattle.std.proofs.Common.{◌≡◌, ℕ, suc, ◌-◌, ◌<◌, ◌≤◌, List, [], ◌∷◌, length, take, drop, get_or, refl, sym, subst, arith}
use Rattle.std.proofs.Math.Seq.{take-length}
use Rattle.std.specs.Prelude.{Option, Some, None}
use Rattle.cf_pair_compare.specs.First.{AreAlike, IsEarlier, IsFirst, Rises}
use Rattle.cf_pair_compare.specs.declared.path_rows.PathRow.{PathRow}
use Rattle.cf_pair_compare.proofs.Firsts.{differing, none_left, ours_left, passed_over, theirs_left}

abbrev pub rest : List PathRow → List PathRow
rest rows = take (length rows - 1) (drop 1 rows)

abbrev pub Reaches : List PathRow → List PathRow → List PathRow → List PathRow → Type 0
Reaches first second ours theirs = Rises ours × Rises theirs × ((told : Option (List ℕ)) → IsFirst ours theirs told → IsFirst first second told)

first_row : (xs : List PathRow) (x : PathRow) → 1 ≤ length xs → x ≡ get_or xs 0 x → xs ≡ x ∷ rest xs
first_row [] x low e = absurd (omega arith)
first_row (y ∷ ys) x low e = let n : suc (length ys) - 1 ≡ length ys = omega arith in rw (n, take-length ys, e) refl

nothing : (xs : List PathRow) → length xs < 1 → xs ≡ []
nothing [] none = refl
nothing (x ∷ xs) none = absurd (omega arith)

module _ (first second ours theirs : List PathRow) (h : Reaches first second ours theirs) where
  -- where the lists are these two
  by : (os ts : List PathRow) (told : Option (List ℕ)) → ours ≡ os → theirs ≡ ts → IsFirst os ts told → IsFirst first second told
  by os ts told e f k = h.2 told (subst (λ (l : List PathRow). IsFirst l theirs told) (sym e) (subst (λ (l : List PathRow). IsFirst os l told) (sym f) k))

  module _ (a : PathRow) (la : 1 ≤ length ours) (ia : a ≡ get_or ours 0 a) where
    ra : Rises (a ∷ rest ours)
    ra = subst Rises (first_row ours a la ia) h.0

    pub reach_end : length theirs < 1 → IsFirst first second (Some a.path)
    reach_end none = by (a ∷ rest ours) [] (Some a.path) (first_row ours a la ia) (nothing theirs none) (ours_left a (rest ours) ra)

    module _ (b : PathRow) (lb : 1 ≤ length theirs) (ib : b ≡ get_or theirs 0 b) where
      rb : Rises (b ∷ rest theirs)
      rb = subst Rises (first_row theirs b lb ib) h.1

      pub reach_on : AreAlike a b → Reaches first second (rest ours) (rest theirs)
      reach_on alike = (
        ra.1,
        rb.1,
        λ told k. by (a ∷ rest ours) (b ∷ rest theirs) told (first_row ours a la ia) (first_row theirs b lb ib) (passed_over a b (rest ours) (rest theirs) alike ra rb told k),
      )

      pub reach_differing : (AreAlike a b → ⊥) → (r : PathRow) → IsEarlier a b r → IsFirst first second (Some r.path)
      reach_differing unlike r is = by (a ∷ rest ours) (b ∷ rest theirs) (Some r.path) (first_row ours a la ia) (first_row theirs b lb ib) (differing a b (rest ours) (rest theirs) ra rb unlike r is)

  pub reach_theirs : length ours < 1 → (b : PathRow) → 1 ≤ length theirs → b ≡ get_or theirs 0 b → IsFirst first second (Some b.path)
  reach_theirs none b lb ib = by [] (b ∷ rest theirs) (Some b.path) (nothing ours none) (first_row theirs b lb ib) (theirs_left b (rest theirs) (subst Rises (first_row theirs b lb ib) h.1))

  pub reach_none : length ours < 1 → length theirs < 1 → IsFirst first second None
  reach_none none other = by [] [] None (nothing ours none) (nothing theirs other) none_left
