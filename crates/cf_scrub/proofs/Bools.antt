-- Tests joined by and, or and not.
use Rattle.std.proofs.Common.{◌≡◌, Bool, true, false, ◌||◌, ◌&&◌, not, List, [], ◌∷◌, refl, sym, ap, ◌∙◌, inl, inr, ◌⊎◌}
use Rattle.cf_model.specs.Words.{is_empty}

pub both : (a b : Bool) → a ≡ true → b ≡ true → (a && b) ≡ true
both a b h k = ap (λ v. v && b) h ∙ k

pub two : (a b : Bool) → (a && b) ≡ true → (a ≡ true) × (b ≡ true)
two true b h = (refl, h)
two false b h = let z : false ≡ true = h in absurd cc

pub three : (a b c : Bool) → (a && (b && c)) ≡ true → (a ≡ true) × (b ≡ true) × (c ≡ true)
three a b c h = let p = two a (b && c) h in let q = two b c p.1 in (p.0, q.0, q.1)

pub four : (a b c d : Bool) → (a && (b && (c && d))) ≡ true → (a ≡ true) × (b ≡ true) × (c ≡ true) × (d ≡ true)
four a b c d h = let p = two a (b && (c && d)) h in let q = three b c d p.1 in (p.0, q.0, q.1, q.2)

pub five : (a b c d e : Bool) → (a && (b && (c && (d && e)))) ≡ true → (a ≡ true) × (b ≡ true) × (c ≡ true) × (d ≡ true) × (e ≡ true)
five a b c d e h = let p = two a (b && (c && (d && e))) h in let q = four b c d e p.1 in (p.0, q.0, q.1, q.2, q.3)

pub six : (a b c d e f : Bool) → (a && (b && (c && (d && (e && f))))) ≡ true → (a ≡ true) × (b ≡ true) × (c ≡ true) × (d ≡ true) × (e ≡ true) × (f ≡ true)
six a b c d e f h = let p = two a (b && (c && (d && (e && f)))) h in let q = five b c d e f p.1 in (p.0, q.0, q.1, q.2, q.3, q.4)

pub seven : (a b c d e f g : Bool) → (a && (b && (c && (d && (e && (f && g)))))) ≡ true → (a ≡ true) × (b ≡ true) × (c ≡ true) × (d ≡ true) × (e ≡ true) × (f ≡ true) × (g ≡ true)
seven a b c d e f g h = let p = two a (b && (c && (d && (e && (f && g))))) h in let q = six b c d e f g p.1 in (p.0, q.0, q.1, q.2, q.3, q.4, q.5)

pub either : (a b : Bool) → (a || b) ≡ true → (a ≡ true) ⊎ (b ≡ true)
either true b h = inl refl
either false b h = inr h

pub left : (a b : Bool) → a ≡ true → (a || b) ≡ true
left a b h = ap (λ v. v || b) h

pub right : (a b : Bool) → b ≡ true → (a || b) ≡ true
right true b h = refl
right false b h = h

pub neither : (a b : Bool) → a ≡ false → (a || b) ≡ true → b ≡ true
neither a b h k = sym (ap (λ v. v || b) h) ∙ k

pub is_false : (a : Bool) → not a ≡ true → a ≡ false
is_false true h = let z : false ≡ true = h in absurd cc
is_false false h = refl

pub not_true : (a : Bool) → a ≡ false → not a ≡ true
not_true a h = ap not h

pub never : {X : Type 0} (a : Bool) → a ≡ true → a ≡ false → X
never a h k = let z : true ≡ false = sym h ∙ k in absurd cc

pub as_none : {A : Type 0} (xs : List A) → is_empty xs ≡ true → xs ≡ []
as_none [] h = refl
as_none (x ∷ xs) h = let z : false ≡ true = h in absurd cc

pub none_is : {A : Type 0} (xs : List A) → xs ≡ [] → is_empty xs ≡ true
none_is xs h = ap is_empty h
