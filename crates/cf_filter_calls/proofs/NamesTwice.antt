-- Names that were met one after the other, from the last entry to the first.
use Rattle.std.proofs.Common.{◌≡◌, ℕ, zero, suc, ◌-◌, ◌<◌, ◌≤◌, Bool, true, false, not, ◌&&◌, ◌||◌, ◌==◌, cond, List, [], ◌∷◌, length, drop, get_or, Bor, refl, sym, ap, ◌∙◌, arith}
use Rattle.std.proofs.Math.Seq.{drop-cons}
use Rattle.std.proofs.lemmas.List.{drop_all}
use Rattle.std.proofs.lemmas.Bool.Decides.{nat_tests}
use Rattle.std.proofs.lemmas.Map.Text.{is_eq-slice_cmp}
use Rattle.std.specs.BTreeSet as bag
use Rattle.std.specs.BTreeSet.{BTreeSet, contains}
use Rattle.std.specs.Cmp.Lexicographic.{slice_cmp}
use Rattle.std.specs.List.{list_any}
use Rattle.std.specs.Ordering.{is_eq, nat_cmp}
use Rattle.std.specs.declared.cmp.Ordering.{Ordering}
use Rattle.cf_base.specs.declared.operations.NewItem.{NewItem}
use Rattle.cf_model.specs.Operations.{is_twice}
use Rattle.cf_model.specs.Words.{same}
use Rattle.cf_table.proofs.Finds.{same_bytes}

abbrev pub by_name : Bor (List ℕ) → Bor (List ℕ) → Ordering
by_name x y = slice_cmp nat_cmp x.now y.now

abbrev pub has_name : List ℕ → List NewItem → Bool
has_name name es = list_any (λ e. same name e.name) es

same_is : (a b : List ℕ) → is_eq (slice_cmp nat_cmp a b) ≡ same a b
same_is a b = is_eq-slice_cmp a b ∙ same_bytes a b

or_true : (b : Bool) → (b || true) ≡ true
or_true true = refl
or_true false = refl

or_is : (b c : Bool) → cond b true c ≡ (b || c)
or_is true c = refl
or_is false c = refl

was_new : (added there : Bool) → added ≡ not there → added ≡ true → there ≡ false
was_new added true e h = absurd (let z : ◌≡◌ {A = Bool} true false = sym h ∙ e in cc)
was_new added false e h = refl

was_there : (added there : Bool) → added ≡ not there → added ≡ false → there ≡ true
was_there added true e h = refl
was_there added false e h = absurd (let z : ◌≡◌ {A = Bool} false true = sym h ∙ e in cc)

same_back : (a b : List ℕ) → same a b ≡ same b a
same_back [] [] = refl
same_back [] (y ∷ ys) = refl
same_back (x ∷ xs) [] = refl
same_back (x ∷ xs) (y ∷ ys) = (λ j. flipped x y j && same_back xs ys j) where
  flipped : (x y : ℕ) → (x == y) ≡ (y == x)
  flipped x y = grind (arith, nat_tests)

-- the entries from this one on
pub from_here : (es : List NewItem) (left : ℕ) (e : NewItem) → 0 < left → left ≤ length es → e ≡ get_or es (left - 1) e → drop (left - 1) es ≡ e ∷ drop left es
from_here es left e some fits is =
    let after : suc (left - 1) ≡ left = omega arith in
    drop-cons es (left - 1) e (omega arith) ∙ ap (λ (r : NewItem). r ∷ drop (suc (left - 1)) es) (sym is) ∙ ap (λ (n : ℕ). e ∷ drop n es) after

module _ (es : List NewItem) (left : ℕ) (e : NewItem) (k : Bor (List ℕ)) (added : Bool) (old new : BTreeSet (Bor (List ℕ))) (parts : drop (left - 1) es ≡ e ∷ drop left es) (name : k.now ≡ e.name)
    (once : is_twice (drop left es) ≡ false) (met : (q : Bor (List ℕ)) → contains by_name old q ≡ has_name q.now (drop left es)) (was : added ≡ not (contains by_name old k)) where
  met_before : contains by_name old k ≡ has_name e.name (drop left es)
  met_before = met k ∙ ap (λ (n : List ℕ). has_name n (drop left es)) name

  pub still_once : added ≡ true → is_twice (drop (left - 1) es) ≡ false
  still_once h =
      let miss : has_name e.name (drop left es) ≡ false = sym met_before ∙ was_new added (contains by_name old k) was h in
      rw (parts, miss, once) refl

  pub met_now : bag.Updates by_name old new k true → (q : Bor (List ℕ)) → contains by_name new q ≡ has_name q.now (drop (left - 1) es)
  met_now updates q =
      let alike : is_eq (by_name k q) ≡ same q.now e.name = same_is k.now q.now ∙ ap (λ (n : List ℕ). same n q.now) name ∙ same_back e.name q.now in
      updates.0 q ∙ (λ i. cond (alike i) true (met q i)) ∙ or_is (same q.now e.name) (has_name q.now (drop left es)) ∙ ap (has_name q.now) (sym parts)

  pub twice_here : added ≡ false → is_twice (drop (left - 1) es) ≡ true
  twice_here h =
      let hit : has_name e.name (drop left es) ≡ true = sym met_before ∙ was_there added (contains by_name old k) was h in
      rw (parts, hit) refl

pub twice_in_all : (es : List NewItem) (i : ℕ) → is_twice (drop i es) ≡ true → is_twice es ≡ true
twice_in_all es zero h = h
twice_in_all [] (suc i) h = h
twice_in_all (e ∷ es) (suc i) h = rw (twice_in_all es i h) (or_true (has_name e.name es))

pub once_at_last : (es : List NewItem) → is_twice (drop (length es) es) ≡ false
once_at_last es = ap is_twice (drop_all (length es) es (omega arith))

pub met_at_last : (es : List NewItem) (s : BTreeSet (Bor (List ℕ))) → bag.IsEmpty s → (q : Bor (List ℕ)) → contains by_name s q ≡ has_name q.now (drop (length es) es)
met_at_last es s empty q = ap (λ (ks : List (Bor (List ℕ))). list_any (λ y. is_eq (by_name q y)) ks) empty ∙ ap (has_name q.now) (sym (drop_all (length es) es (omega arith)))
