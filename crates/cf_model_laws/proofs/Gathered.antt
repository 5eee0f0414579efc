-- Lists of which each member has a property.
use Rattle.std.proofs.Common.{◌≡◌, Bool, true, false, List, [], ◌∷◌, ◌++◌, refl, subst, inl, inr}
use Rattle.std.specs.Prelude.{map, filter, cond, Some, find}
use Rattle.std.specs.List.{flat_map}
use Rattle.cf_base.specs.declared.ids.ItemId.{ItemId}
use Rattle.cf_model.specs.Items.{Item}
use Rattle.cf_model.specs.Soundness.{Each}
use Rattle.cf_model.specs.Words.{put_in, sorted}
use Rattle.cf_model_laws.specs.Invariant.{All, Among}

pub all_weaker : {A : Type 0} (P Q : A → Type 0) → ((x : A) → P x → Q x) → (xs : List A) → All P xs → All Q xs
all_weaker P Q k [] h = tt
all_weaker P Q k (x ∷ xs) h = (k x h.0, all_weaker P Q k xs h.1)

-- each is one of them
pub all_in : {A : Type 0} (xs : List A) → All (λ x. Among x xs) xs
all_in [] = tt
all_in (x ∷ xs) = (inl refl, all_weaker (λ y. Among y xs) (λ y. Among y (x ∷ xs)) (λ y k. inr k) xs (all_in xs))

pub all_append : {A : Type 0} (P : A → Type 0) (xs ys : List A) → All P xs → All P ys → All P (xs ++ ys)
all_append P [] ys h k = k
all_append P (x ∷ xs) ys h k = (h.0, all_append P xs ys h.1 k)

pub all_filter : {A : Type 0} (P : A → Type 0) (f : A → Bool) (xs : List A) → All P xs → All P (filter f xs)
all_filter P f [] h = tt
all_filter P f (x ∷ xs) h = by (f x) (all_filter P f xs h.1) where
  by : (b : Bool) → All P (filter f xs) → All P (cond b (x ∷ filter f xs) (filter f xs))
  by true k = (h.0, k)
  by false k = k

-- with what passed the filter
pub all_passed : {A : Type 0} (P Q : A → Type 0) (f : A → Bool) → ((x : A) → f x ≡ true → P x → Q x) → (xs : List A) → All P xs → All Q (filter f xs)
all_passed P Q f k [] h = tt
all_passed P Q f k (x ∷ xs) h = by (f x) refl (all_passed P Q f k xs h.1) where
  by : (b : Bool) → f x ≡ b → All Q (filter f xs) → All Q (cond b (x ∷ filter f xs) (filter f xs))
  by true e g = (k x e h.0, g)
  by false e g = g

pub all_map : {A B : Type 0} (P : A → Type 0) (Q : B → Type 0) (f : A → B) → ((x : A) → P x → Q (f x)) → (xs : List A) → All P xs → All Q (map f xs)
all_map P Q f k [] h = tt
all_map P Q f k (x ∷ xs) h = (k x h.0, all_map P Q f k xs h.1)

pub all_any : {A : Type 0} (P : A → Type 0) → ((x : A) → P x) → (xs : List A) → All P xs
all_any P k [] = tt
all_any P k (x ∷ xs) = (k x, all_any P k xs)

pub all_both : {A : Type 0} (P Q R : A → Type 0) → ((x : A) → P x → Q x → R x) → (xs : List A) → All P xs → All Q xs → All R xs
all_both P Q R k [] h g = tt
all_both P Q R k (x ∷ xs) h g = (k x h.0 g.0, all_both P Q R k xs h.1 g.1)

pub all_found : {A : Type 0} (P : A → Type 0) (f : A → Bool) (xs : List A) (y : A) → find f xs ≡ Some y → All P xs → P y × (f y ≡ true)
all_found P f [] y e h = cc
all_found P f (x ∷ xs) y e h = by (f x) refl (all_found P f xs y) e where
  by : (b : Bool) → f x ≡ b → (find f xs ≡ Some y → All P xs → P y × (f y ≡ true)) → cond b (Some x) (find f xs) ≡ Some y → P y × (f y ≡ true)
  by true g k e = let z : x ≡ y = cc in (subst P z h.0, subst (λ (w : _). f w ≡ true) z g)
  by false g k e = k e h.1

pub all_flat : {A B : Type 0} (P : B → Type 0) (f : A → List B) → ((x : A) → All P (f x)) → (xs : List A) → All P (flat_map f xs)
all_flat P f k [] = tt
all_flat P f k (x ∷ xs) = all_append P (f x) (flat_map f xs) (k x) (all_flat P f k xs)

pub all_put_in : {A : Type 0} (P : A → Type 0) (before : A → A → Bool) (x : A) (xs : List A) → P x → All P xs → All P (put_in before x xs)
all_put_in P before x [] h k = (h, tt)
all_put_in P before x (y ∷ ys) h k = by (before y x) (all_put_in P before x ys h k.1) where
  by : (b : Bool) → All P (put_in before x ys) → All P (cond b (y ∷ put_in before x ys) (x ∷ y ∷ ys))
  by true g = (k.0, g)
  by false g = (h, k)

pub all_sorted : {A : Type 0} (P : A → Type 0) (before : A → A → Bool) (xs : List A) → All P xs → All P (sorted before xs)
all_sorted P before [] h = tt
all_sorted P before (x ∷ xs) h = all_put_in P before x (sorted before xs) h.0 (all_sorted P before xs h.1)

-- of the items with an id

pub each_weaker : (id : ItemId) (P Q : Item → Type 0) → ((i : Item) → P i → Q i) → (items : List Item) → Each id P items → Each id Q items
each_weaker id P Q k [] h = tt
each_weaker id P Q k (i ∷ is) h = (λ e. k i (h.0 e), each_weaker id P Q k is h.1)

pub each_any : (id : ItemId) (P : Item → Type 0) → ((i : Item) → P i) → (items : List Item) → Each id P items
each_any id P k [] = tt
each_any id P k (i ∷ is) = (λ e. k i, each_any id P k is)

pub each_all : (id : ItemId) (P Q : Item → Type 0) → ((i : Item) → P i → Q i) → (items : List Item) → All P items → Each id Q items
each_all id P Q k [] h = tt
each_all id P Q k (i ∷ is) h = (λ e. k i h.0, each_all id P Q k is h.1)

pub each_both : (id : ItemId) (P Q R : Item → Type 0) → ((i : Item) → P i → Q i → R i) → (items : List Item) → Each id P items → Each id Q items → Each id R items
each_both id P Q R k [] h g = tt
each_both id P Q R k (i ∷ is) h g = (λ e. k i (h.0 e) (g.0 e), each_both id P Q R k is h.1 g.1)
