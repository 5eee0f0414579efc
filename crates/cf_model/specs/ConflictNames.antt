-- The name of a conflict copy: `stem (conflict N).ext`.
use Rattle.std.specs.Prelude.{ℕ, zero, suc, Bool, true, false, cond, List, [], length, take, drop, Option, Some, None, nat_lt, slice_get, codes, ◌+◌, ◌-◌, ◌||◌, ◌∷◌, ◌++◌, ◌==◌}
use Rattle.cf_base.specs.declared.ids.ItemId.{ItemId}
use Rattle.cf_base.specs.declared.limits.TheConstants.{MOST_NAME_BYTES}
use Rattle.cf_model.specs.Items.{Item}
use Rattle.cf_model.specs.LookUp.{child_of}
use Rattle.cf_model.specs.Words.{decimal, says, within}

-- this place where it is a dot and no later one is
abbrev pub or_here : Option ℕ → Bool → ℕ → Option ℕ
or_here (Some p) dot at = Some p
or_here None true at = Some at
or_here None false at = None

-- where the last dot of a name stands, if it has one
abbrev pub last_dot : ℕ → List ℕ → Option ℕ
last_dot at [] = None
last_dot at (b ∷ bs) = or_here (last_dot (at + 1) bs) (b == 46) at

-- the extension begins at the last dot, unless that is first or the extension with it has more than 32 bytes
abbrev pub ext_from : Option ℕ → ℕ → ℕ
ext_from None len = len
ext_from (Some p) len = cond ((p == 0) || nat_lt 32 (len - p)) len p

abbrev pub ext_at : List ℕ → ℕ
ext_at name = ext_from (last_dot 0 name) (length name)

-- a byte inside a character
abbrev pub is_inside : ℕ → Bool
is_inside b = within 128 192 b

-- back to the end of a character; `inside` says whether the byte at n is inside one
abbrev pub cut_back : ℕ → List ℕ → Bool → List ℕ
cut_back n text false = take n text
cut_back zero text true = []
cut_back (suc n) text true = cut_back n text (says is_inside (slice_get text n))

-- the text cut to at most n bytes, at the end of a character
abbrev pub cut_text : ℕ → List ℕ → List ℕ
cut_text n text = cut_back n text (says is_inside (slice_get text n))

abbrev pub with_number : List ℕ → ℕ → List ℕ
with_number name n =
    let tail : List ℕ = codes " (conflict " ++ decimal n ++ codes ")" ++ drop (ext_at name) name in
    cut_text (MOST_NAME_BYTES - length tail) (take (ext_at name) name) ++ tail

-- the first name from number n on that is free; fuel is the number of items
abbrev pub first_free : ℕ → List Item → ItemId → List ℕ → ℕ → List ℕ
first_free zero items parent name n = with_number name n
first_free (suc fuel) items parent name n =
    elim (child_of items parent (with_number name n)) as (λ _. List ℕ) [ None ↦ with_number name n | Some i ↦ first_free fuel items parent name (n + 1) ]

-- the conflict name of the least number from 1 that is free in the directory
abbrev pub conflict_name : List Item → ItemId → List ℕ → List ℕ
conflict_name items parent name = first_free (length items) items parent name 1
