-- The way to the root.
use Rattle.std.proofs.Common.{◌≡◌, ◌≢◌, ℕ, zero, suc, ◌+◌, ◌-◌, ◌<◌, ◌≤◌, Bool, true, false, ◌||◌, List, refl, sym, ap, arith, eqb, Option, Some, None}
use Rattle.std.proofs.lemmas.Bool.{eq-eqb, ne_eqb}
use Rattle.cf_base.specs.declared.ids.ItemId.{ItemId}
use Rattle.cf_model.specs.Rows.{Row}
use Rattle.cf_model.specs.Words.{says}
use Rattle.cf_volume_image.specs.Contents.{row_at}
use Rattle.cf_volume_image.specs.Sound.{reaches_root}
use Rattle.cf_volume_image.specs.Trees.{parent_in, parent_of}

pub root_reached : (rows : List Row) (n : ℕ) (id : ItemId) → id.0 ≡ 1 → true ≡ reaches_root rows n id
unfolding reaches_root
root_reached rows zero id h = sym (eq-eqb id.0 1 h)
root_reached rows (suc n) id h = sym (ap (λ b. b || says (λ r. reaches_root rows n r.parent) (row_at rows id)) (eq-eqb id.0 1 h))

no_way : (o : Option Row) (f : ItemId → Bool) → None ≡ parent_in o → says (λ r. f r.parent) o ≡ false
no_way None f h = refl
no_way (Some r) f h = let z : None ≡ Some r.parent = h in cc

one_way : (o : Option Row) (f : ItemId → Bool) (p : ItemId) → Some p ≡ parent_in o → says (λ r. f r.parent) o ≡ f p
one_way None f p h = let z : Some p ≡ None = h in cc
one_way (Some r) f p h = let z : Some p ≡ Some r.parent = h in ap f (cc)

pub way_lost : (rows : List Row) (n m : ℕ) (id : ItemId) → n ≡ suc m → id.0 ≢ 1 → None ≡ parent_of rows id → reaches_root rows n id ≡ false
unfolding reaches_root
way_lost rows n m id is h e = rw is (rw (ne_eqb id.0 1 h) (no_way (row_at rows id) (reaches_root rows m) e))

pub way_on : (rows : List Row) (n m : ℕ) (id p : ItemId) → n ≡ suc m → id.0 ≢ 1 → Some p ≡ parent_of rows id → reaches_root rows n id ≡ reaches_root rows m p
unfolding reaches_root
way_on rows n m id p is h e = rw is (rw (ne_eqb id.0 1 h) (one_way (row_at rows id) (reaches_root rows m) p e))

pub no_steps : (rows : List Row) (id : ItemId) → reaches_root rows 0 id ≡ eqb id.0 1
unfolding reaches_root
no_steps rows id = refl

pub less_one : (n i : ℕ) → i < n → n - i ≡ suc (n - (i + 1))
less_one n i h = omega arith

pub none_left : (n i : ℕ) → n ≤ i → 0 ≡ n - i
none_left n i h = omega arith
