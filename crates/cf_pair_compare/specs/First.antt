-- Where two lists of what stands at paths differ first.
use Rattle.std.specs.Prelude.{◌≡◌, ◌⊎◌, ℕ, false, List, [], ◌∷◌, Option, Some, None, find, bytes_eq, option_map}
use Rattle.std.specs.Cmp.Lexicographic.{slice_cmp}
use Rattle.std.specs.List.{AllByRecursion}
use Rattle.std.specs.Ordering.{nat_cmp}
use Rattle.std.specs.declared.cmp.Ordering.TheVariants.{Less}
use Rattle.cf_pair_compare.specs.declared.path_rows.PathRow.{PathRow}

abbrev pub Comes : List ℕ → List ℕ → Type 0
Comes p q = slice_cmp nat_cmp p q ≡ Less

-- each path stands once, in the order of their bytes
abbrev pub Rises : List PathRow → Type 0
Rises [] = Unit {0}
Rises (r ∷ rs) = AllByRecursion (λ s. Comes r.path s.path) rs × Rises rs

abbrev pub row_at : List PathRow → List ℕ → Option PathRow
row_at rows path = find (λ r. bytes_eq r.path path) rows

-- both have nothing there; or both have the same, and no dirty file
abbrev pub Agree : Option PathRow → Option PathRow → Type 0
Agree None None = Unit {0}
Agree (Some a) (Some b) = (a.kind ≡ b.kind) × (a.identity ≡ b.identity) × (a.dirty ≡ false) × (b.dirty ≡ false)
Agree None (Some b) = ⊥
Agree (Some a) None = ⊥

abbrev pub AgreeAt : List PathRow → List PathRow → List ℕ → Type 0
AgreeAt as' bs path = Agree (row_at as' path) (row_at bs path)

-- the lists agree everywhere; or this is the first path, by its bytes, at which they do not
abbrev pub IsFirst : List PathRow → List PathRow → Option (List ℕ) → Type 0
IsFirst as' bs None = (path : List ℕ) → AgreeAt as' bs path
IsFirst as' bs (Some path) = (AgreeAt as' bs path → ⊥) × ((before : List ℕ) → Comes before path → AgreeAt as' bs before)

-- two rows of one path that agree
abbrev pub AreAlike : PathRow → PathRow → Type 0
AreAlike a b = (a.path ≡ b.path) × Agree (Some a) (Some b)

-- the one of the two whose path comes first, and the first of them where both have the same path
abbrev pub IsEarlier : PathRow → PathRow → PathRow → Type 0
IsEarlier a b r = ((r ≡ b) × Comes b.path a.path) ⊎ ((r ≡ a) × (Comes b.path a.path → ⊥))

abbrev pub path_told : Option PathRow → Option (List ℕ)
path_told row = option_map (λ r. r.path) row
