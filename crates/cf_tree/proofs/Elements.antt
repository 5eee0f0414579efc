-- What holds of each item of a list.
use Rattle.std.proofs.Common.{◌≡◌, ℕ, ◌+◌, Bool, true, false, cond, List, [], ◌∷◌, refl, ap, ◌∙◌, arith, eqb, Some, None, Option}
use Rattle.std.specs.Prelude.{filter, find, ◌&&◌, ◌||◌}
use Rattle.std.specs.List.{list_any}
use Rattle.std.proofs.lemmas.Bool.{cond-false, cond-true, eq-eqb, ne_eqb, or_left, or_right}
use Rattle.cf_model.specs.Items.{Item, item_of}
use Rattle.cf_model.specs.Words.{put_in, sorted}
use Rattle.cf_tree.specs.Trees.{RiseFrom}
use Rattle.cf_tree.proofs.Walks.{found_from}

abbrev pub Each : (Item → Type 0) → List Item → Type 0
Each P [] = Unit {0}
Each P (x ∷ xs) = P x × Each P xs

pub each_also : (P Q : Item → Type 0) → ((x : Item) → P x → Q x) → (xs : List Item) → Each P xs → Each Q xs
each_also P Q h [] e = tt
each_also P Q h (x ∷ xs) e = (h x e.0, each_also P Q h xs e.1)

pub each_filtered : (P : Item → Type 0) (g : Item → Bool) (xs : List Item) → Each (λ x. g x ≡ true → P x) xs → Each P (filter g xs)
each_filtered P g [] e = tt
each_filtered P g (x ∷ xs) e = two (g x) refl (each_filtered P g xs e.1) where
  two : (b : Bool) → g x ≡ b → Each P (filter g xs) → Each P (cond b (x ∷ filter g xs) (filter g xs))
  two true h rest = (e.0 h, rest)
  two false h rest = rest

each_put : (P : Item → Type 0) (before : Item → Item → Bool) (x : Item) (ys : List Item) → P x → Each P ys → Each P (put_in before x ys)
each_put P before x [] h e = (h, tt)
each_put P before x (y ∷ ys) h e = two (before y x) (each_put P before x ys h e.1) where
  two : (b : Bool) → Each P (put_in before x ys) → Each P (cond b (y ∷ put_in before x ys) (x ∷ y ∷ ys))
  two true rest = (e.0, rest)
  two false rest = (h, e)

pub each_sorted : (P : Item → Type 0) (before : Item → Item → Bool) (xs : List Item) → Each P xs → Each P (sorted before xs)
each_sorted P before [] e = tt
each_sorted P before (x ∷ xs) e = each_put P before x (sorted before xs) e.0 (each_sorted P before xs e.1)

-- each item is found under its id
pub each_there : (low : ℕ) (items : List Item) → RiseFrom low items → Each (λ x. item_of items x.id ≡ Some x) items
each_there low [] r = tt
each_there low (x ∷ xs) r = (
  cond-true (eqb x.id.0 x.id.0) _ _ (eq-eqb x.id.0 x.id.0 refl),
  each_also (λ y. item_of xs y.id ≡ Some y) (λ y. item_of (x ∷ xs) y.id ≡ Some y)
      (λ y e. cond-false (eqb x.id.0 y.id.0) _ _ (ne_eqb x.id.0 y.id.0 (λ same. omega (arith, same, found_from (x.id.0 + 1) (λ i. eqb i.id.0 y.id.0) xs y r.1 e))) ∙ e) xs (each_there (x.id.0 + 1) xs r.1),
)

-- an item that passes a test is among those of a list

pub any_found : (q h : Item → Bool) (xs : List Item) (p : Item) → find q xs ≡ Some p → h p ≡ true → list_any h xs ≡ true
any_found q h [] p e t = let z : ◌≡◌ {A = Option Item} None (Some p) = e in absurd cc
any_found q h (x ∷ xs) p e t = two (q x) e (λ k. any_found q h xs p k t) where
  two : (b : Bool) → cond b (Some x) (find q xs) ≡ Some p → (find q xs ≡ Some p → list_any h xs ≡ true) → (h x || list_any h xs) ≡ true
  two true k rest = let same : x ≡ p = cc in or_left _ _ (ap h same ∙ t)
  two false k rest = or_right _ _ (rest k)

pub any_filtered : (g h : Item → Bool) (xs : List Item) → list_any h (filter g xs) ≡ list_any (λ x. g x && h x) xs
any_filtered g h [] = refl
any_filtered g h (x ∷ xs) = two (g x) (any_filtered g h xs) where
  two : (b : Bool) → list_any h (filter g xs) ≡ list_any (λ x. g x && h x) xs → list_any h (cond b (x ∷ filter g xs) (filter g xs)) ≡ ((b && h x) || list_any (λ x. g x && h x) xs)
  two true rest = ap (λ v. h x || v) rest
  two false rest = rest

any_put : (before : Item → Item → Bool) (h : Item → Bool) (x : Item) (ys : List Item) → list_any h (put_in before x ys) ≡ (h x || list_any h ys)
any_put before h x [] = refl
any_put before h x (y ∷ ys) = two (before y x) (any_put before h x ys) where
  turned : (a b c : Bool) → (a || (b || c)) ≡ (b || (a || c))
  turned true true c = refl
  turned true false c = refl
  turned false b c = refl

  two : (b : Bool) → list_any h (put_in before x ys) ≡ (h x || list_any h ys) → list_any h (cond b (y ∷ put_in before x ys) (x ∷ y ∷ ys)) ≡ (h x || (h y || list_any h ys))
  two true rest = ap (λ v. h y || v) rest ∙ turned (h y) (h x) (list_any h ys)
  two false rest = refl

pub any_sorted : (before : Item → Item → Bool) (h : Item → Bool) (xs : List Item) → list_any h (sorted before xs) ≡ list_any h xs
any_sorted before h [] = refl
any_sorted before h (x ∷ xs) = any_put before h x (sorted before xs) ∙ ap (λ v. h x || v) (any_sorted before h xs)
