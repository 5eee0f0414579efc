-- Choices between what may be there.
use Rattle.std.proofs.Common.{◌≡◌, Bool, true, false, ◌||◌, ◌&&◌, cond, refl, sym, ap, subst, ◌∙◌, Option, Some, None}
use Rattle.std.specs.Prelude.{is_some}

pub none_or_none : {A : Type 0} (b : Bool) → ◌≡◌ {A = Option A} None (cond b None None)
none_or_none true = refl
none_or_none false = refl

pub drop_same : {A : Type 0} (b c : Bool) (s o : Option A) → b ≡ c → cond c None o ≡ cond c None (cond b s o)
drop_same true true s o h = refl
drop_same true false s o h = let z : true ≡ false = h in cc
drop_same false true s o h = refl
drop_same false false s o h = refl

pub drop_in : {A : Type 0} (b c : Bool) (s o p : Option A) → (b ≡ true → c ≡ true) → p ≡ cond c None o → p ≡ cond c None (cond b s o)
drop_in true c s o p h e = e ∙ ap (λ v. cond v None o) (h refl) ∙ sym (ap (λ v. cond v None s) (h refl))
drop_in false c s o p h e = e

pub keep_other : {A : Type 0} (b c : Bool) (s t o p : Option A) → (b ≡ true → c ≡ false) → p ≡ cond c t o → cond b s p ≡ cond c t (cond b s o)
keep_other true c s t o p h e = sym (ap (λ v. cond v t s) (h refl))
keep_other false c s t o p h e = e

pub twice : {A : Type 0} (b : Bool) (s t o : Option A) → cond b s (cond b t o) ≡ cond b s o
twice true s t o = refl
twice false s t o = refl

pub named_none : {A : Type 0} (b h : Bool) (n x : Option A) → (b ≡ true → n ≡ None) → cond (h && is_some n) n x ≡ cond ((b || h) && is_some n) n x
named_none {A} true h n x f = subst (λ (m : Option A). cond (h && is_some m) m x ≡ cond (true && is_some m) m x) (sym (f refl)) (nowhere h) where
  nowhere : (h : Bool) → cond (h && false) None x ≡ x
  nowhere true = refl
  nowhere false = refl
named_none false h n x f = refl

pub named_some : {A : Type 0} (b h : Bool) (n x : Option A) (r : A) → (b ≡ true → n ≡ Some r) → cond (h && is_some n) n (cond b (Some r) x) ≡ cond ((b || h) && is_some n) n x
named_some {A} true h n x r f = subst (λ (m : Option A). cond (h && is_some m) m (Some r) ≡ cond (true && is_some m) m x) (sym (f refl)) (either h) where
  either : (h : Bool) → cond (h && true) (Some r) (Some r) ≡ Some r
  either true = refl
  either false = refl
named_some false h n x r f = refl
