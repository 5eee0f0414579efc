-- Names that were met one after the other, from the last entry to the first.
use Rattle.std.proofs.Common.{◌≡◌, ℕ, zero, suc, ◌-◌, ◌<◌, ◌≤◌, Bool, true, false, not, ◌&&◌, ◌||◌, ◌==◌, nat_eq, cond, List, [], ◌∷◌, length, drop, get_or, Bor, refl, sym, ap, ◌∙◌, arith}
use Rattle.std.proofs.Math.Seq.{drop-cons}
use Rattle.std.proofs.lemmas.List.{drop_all}
use Rattle.std.specs.Cmp.Lexicographic.{pointwise}
use Rattle.std.specs.HashSet as bag
use Rattle.std.specs.HashSet.{HashSet, contains}
use Rattle.std.specs.List.{list_any}
use Rattle.cf_base.specs.declared.messages.Entry.{Entry}
use Rattle.cf_model.specs.Fits.{are_named_apart, has_name}
use Rattle.cf_model.specs.Words.{same}

same_is : (a b : List ℕ) → pointwise nat_eq a b ≡ same a b
same_is [] [] = refl
same_is [] (y ∷ ys) = refl
same_is (x ∷ xs) [] = refl
same_is (x ∷ xs) (y ∷ ys) = ap (λ (b : Bool). (x == y) && b) (same_is xs ys)

or_is : (b c : Bool) → cond b true c ≡ (b || c)
or_is true c = refl
or_is false c = refl

and_false : (b : Bool) → (b && false) ≡ false
and_false true = refl
and_false false = refl

was_new : (added there : Bool) → added ≡ not there → added ≡ true → there ≡ false
was_new added true e h = absurd (let z : ◌≡◌ {A = Bool} true false = sym h ∙ e in cc)
was_new added false e h = refl

was_there : (added there : Bool) → added ≡ not there → added ≡ false → there ≡ true
was_there added true e h = refl
was_there added false e h = absurd (let z : ◌≡◌ {A = Bool} false true = sym h ∙ e in cc)

-- the entries from this one on
pub from_here : (es : List Entry) (left : ℕ) (e : Entry) → 0 < left → left ≤ length es → e ≡ get_or es (left - 1) e → drop (left - 1) es ≡ e ∷ drop left es
from_here es left e some fits is =
    let after : suc (left - 1) ≡ left = omega arith in
    drop-cons es (left - 1) e (omega arith) ∙ ap (λ (r : Entry). r ∷ drop (suc (left - 1)) es) (sym is) ∙ ap (λ (n : ℕ). e ∷ drop n es) after

module _ {S : Type 0} (es : List Entry) (left : ℕ) (e : Entry) (k : Bor (List ℕ)) (added : Bool) (old new : HashSet (Bor (List ℕ)) S) (parts : drop (left - 1) es ≡ e ∷ drop left es) (name : k.now ≡ e.name)
    (apart : are_named_apart (drop left es) ≡ true) (seen : (q : Bor (List ℕ)) → contains (λ x y. pointwise nat_eq x.now y.now) old q ≡ has_name q.now (drop left es))
    (was : added ≡ not (contains (λ x y. pointwise nat_eq x.now y.now) old k)) where
  met : contains (λ x y. pointwise nat_eq x.now y.now) old k ≡ has_name e.name (drop left es)
  met = seen k ∙ ap (λ (n : List ℕ). has_name n (drop left es)) name

  pub still_apart : added ≡ true → are_named_apart (drop (left - 1) es) ≡ true
  still_apart h =
      let miss : has_name e.name (drop left es) ≡ false = sym met ∙ was_new added (contains (λ x y. pointwise nat_eq x.now y.now) old k) was h in
      rw (parts, miss, apart) refl

  pub seen_now : bag.Updates (λ x y. pointwise nat_eq x.now y.now) old new k true → (q : Bor (List ℕ)) → contains (λ x y. pointwise nat_eq x.now y.now) new q ≡ has_name q.now (drop (left - 1) es)
  seen_now updates q =
      let alike : pointwise nat_eq k.now q.now ≡ same e.name q.now = same_is k.now q.now ∙ ap (λ (n : List ℕ). same n q.now) name in
      updates.0 q ∙ (λ i. cond (alike i) true (seen q i)) ∙ or_is (same e.name q.now) (has_name q.now (drop left es)) ∙ ap (has_name q.now) (sym parts)

  pub not_apart_here : added ≡ false → are_named_apart (drop (left - 1) es) ≡ false
  not_apart_here h =
      let hit : has_name e.name (drop left es) ≡ true = sym met ∙ was_there added (contains (λ x y. pointwise nat_eq x.now y.now) old k) was h in
      rw (parts, hit) refl

pub not_apart : (es : List Entry) (i : ℕ) → are_named_apart (drop i es) ≡ false → are_named_apart es ≡ false
not_apart es zero h = h
not_apart [] (suc i) h = h
not_apart (e ∷ es) (suc i) h = rw (not_apart es i h) (and_false (not (has_name e.name es)))

pub apart_at_last : (es : List Entry) → are_named_apart (drop (length es) es) ≡ true
apart_at_last es = ap are_named_apart (drop_all (length es) es (omega arith))

pub seen_at_last : {S : Type 0} (es : List Entry) (s : HashSet (Bor (List ℕ)) S) → bag.IsEmpty s → (q : Bor (List ℕ)) → contains (λ x y. pointwise nat_eq x.now y.now) s q ≡ has_name q.now (drop (length es) es)
seen_at_last es s empty q = ap (λ (ks : List (Bor (List ℕ))). list_any (λ y. pointwise nat_eq q.now y.now) ks) empty ∙ ap (has_name q.now) (sym (drop_all (length es) es (omega arith)))
