-- Local items that are items of the remote, row after row.
use Rattle.std.proofs.Common.{◌≡◌, ℕ, ◌<◌, ◌≤◌, suc, ◌+◌, Bool, true, false, not, cond, List, [], ◌∷◌, ◌++◌, length, drop, get_or, refl, sym, ◌∙◌, ap, subst, arith, append_assoc, append-nil}
use Rattle.std.proofs.Math.Seq.{drop-cons}
use Rattle.std.proofs.lemmas.List.{drop_all}
use Rattle.std.specs.Prelude.{filter, map}
use Rattle.cf_engine_provider.specs.Listings.{known_in}
use Rattle.cf_model.specs.Fits.{Known}
use Rattle.cf_model.specs.Identities.{is_untargeted}
use Rattle.cf_model.specs.Items.{Item}
use Rattle.cf_model.specs.Messages.{known_of}
use Rattle.cf_table.specs.Means.{Means}
use Rattle.cf_table.specs.Tables.{MeansAll}
use Rattle.cf_table.specs.declared.rows.Row.{Row}

-- one item

joined : (i : Item) (rest : List Item) → known_in (i ∷ []) ++ known_in rest ≡ known_in (i ∷ rest)
joined i rest = by (not (is_untargeted i)) where
  by : (b : Bool) → map known_of (cond b (i ∷ []) []) ++ known_in rest ≡ map known_of (cond b (i ∷ filter (λ x. not (is_untargeted x)) rest) (filter (λ x. not (is_untargeted x)) rest))
  by true = refl
  by false = refl

-- rows are left, whose items with those so far are those of all
abbrev pub AreLeft : List Row → List Item → List Known → Type 0
AreLeft rows items list = (rest : List Item) × MeansAll rows rest × (list ++ known_in rest ≡ known_in items)

pub none_yet : (rows : List Row) (items : List Item) (list : List Known) → list ≡ [] → MeansAll rows items → AreLeft rows items list
none_yet rows items list none m = (items, m, ap (λ (l : List Known). l ++ known_in items) none)

one_row : (r : Row) (rs : List Row) (items rest : List Item) (old new : List Known) → MeansAll (r ∷ rs) rest → old ++ known_in rest ≡ known_in items → ((i : Item) → Means r i → new ≡ old ++ known_in (i ∷ [])) → AreLeft rs items new
one_row r rs items [] old new m e add = absurd m
one_row r rs items (i ∷ rest) old new m e add =
    (rest, m.1, ap (λ (l : List Known). l ++ known_in rest) (add i m.0) ∙ append_assoc old (known_in (i ∷ [])) (known_in rest) ∙ ap (λ (l : List Known). old ++ l) (joined i rest) ∙ e)

from_here : (rows : List Row) (k : ℕ) (r : Row) → k < length rows → r ≡ get_or rows k r → drop k rows ≡ r ∷ drop (k + 1) rows
from_here rows k r lt is =
    let after : suc k ≡ k + 1 = omega arith in
    drop-cons rows k r lt ∙ ap (λ (x : Row). x ∷ drop (suc k) rows) (sym is) ∙ ap (λ (n : ℕ). r ∷ drop n rows) after

pub one_more : (rows : List Row) (k : ℕ) (r : Row) (items : List Item) (old new : List Known) → k < length rows → r ≡ get_or rows k r → AreLeft (drop k rows) items old → ((i : Item) → Means r i → new ≡ old ++ known_in (i ∷ [])) → AreLeft (drop (k + 1) rows) items new
one_more rows k r items old new lt is h add =
    let there : AreLeft (r ∷ drop (k + 1) rows) items old = subst (λ (rs : List Row). AreLeft rs items old) (from_here rows k r lt is) h in
    one_row r (drop (k + 1) rows) items there.0 old new there.1 there.2 add

no_row : (items rest : List Item) (list : List Known) → MeansAll [] rest → list ++ known_in rest ≡ known_in items → list ≡ known_in items
no_row items [] list m e = sym (append-nil list) ∙ e
no_row items (i ∷ rest) list m e = absurd m

pub all_rows : (rows : List Row) (k : ℕ) (items : List Item) (list : List Known) → length rows ≤ k → AreLeft (drop k rows) items list → list ≡ known_in items
all_rows rows k items list le h =
    let there : AreLeft [] items list = subst (λ (rs : List Row). AreLeft rs items list) (drop_all k rows le) h in
    no_row items there.0 list there.1 there.2
