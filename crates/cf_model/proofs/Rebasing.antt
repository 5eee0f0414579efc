-- A Rebase at a number leaves the content.
use Rattle.std.proofs.Common.{List, [], ◌∷◌, ◌++◌, refl, ◌≡◌, ◌∙◌, sym, ap, arith, ℕ, Bool, true, false}
use Rattle.std.specs.Prelude.{map, cond, not, is_some}
use Rattle.std.specs.List.{list_all}
use Rattle.std.proofs.lemmas.Bool.Decides.{nat_tests}
use Rattle.cf_base.specs.declared.ids.Usn.{Usn}
use Rattle.cf_model.specs.Contents.{RisesFrom, StaysBy, up_to}
use Rattle.cf_model.specs.Effects.{later_than}
use Rattle.cf_model.specs.Items.{Item}
use Rattle.cf_model.specs.Numbers.{above, no_usn}
use Rattle.cf_model.specs.Overlay.{LocalWrite, Written, after_write, over}
use Rattle.cf_model.proofs.Laying.{laid-full}

-- what is above a number that is not below another is above that one
above-more : (a b c : Usn) → above a b ≡ true → above c b ≡ false → above a c ≡ true
above-more a b c h k = grind (arith, nat_tests, h, k)

pub over-both : (base : List ℕ) (us vs : List LocalWrite) → over base (us ++ vs) ≡ over (over base us) vs
over-both base [] vs = refl
over-both base (u ∷ us) vs = over-both (after_write base u) us vs

pub map-both : (f : Written → LocalWrite) (us vs : List Written) → map f (us ++ vs) ≡ map f us ++ map f vs
map-both f [] vs = refl
map-both f (u ∷ us) vs = ap (λ (r : List LocalWrite). f u ∷ r) (map-both f us vs)

-- where all numbers are above, none is dropped
pub later-all : (at low : Usn) (ws : List Written) → above at low ≡ false → RisesFrom low ws → (later_than at ws ≡ ws) × (up_to at ws ≡ [])
later-all at low [] h r = (refl, refl)
later-all at low (w ∷ ws) h r = one (above w.number at) (above-more w.number low at r.0 h) (later-all at w.number ws (below at w.number (above-more w.number low at r.0 h)) r.1) where
  one : (b : Bool) → b ≡ true → (later_than at ws ≡ ws) × (up_to at ws ≡ [])
      → (cond b (w ∷ later_than at ws) (later_than at ws) ≡ w ∷ ws) × (cond (not b) (w ∷ up_to at ws) (up_to at ws) ≡ [])
  one true k i = (ap (λ (r : List Written). w ∷ r) i.0, i.1)
  one false k i = cc

  below : (a b : Usn) → above b a ≡ true → above a b ≡ false
  below a b h = grind (arith, nat_tests, h)

pub split : (at low : Usn) (ws : List Written) → RisesFrom low ws → ws ≡ up_to at ws ++ later_than at ws
split at low [] r = refl
split at low (w ∷ ws) r = one (above w.number at) (λ e. e) (split at w.number ws r.1) where
  below : (a b : Usn) → above b a ≡ true → above a b ≡ false
  below a b h = grind (arith, nat_tests, h)

  one : (b : Bool) → (b ≡ true → above w.number at ≡ true) → ws ≡ up_to at ws ++ later_than at ws
      → w ∷ ws ≡ cond (not b) (w ∷ up_to at ws) (up_to at ws) ++ cond b (w ∷ later_than at ws) (later_than at ws)
  one true k e =
      let a : (later_than at ws ≡ ws) × (up_to at ws ≡ []) = later-all at w.number ws (below at w.number (k refl)) r.1 in
      sym (ap (λ (us : List Written). us ++ w ∷ later_than at ws) a.1 ∙ ap (λ (us : List Written). w ∷ us) a.0)
  one false k e = ap (λ (us : List Written). w ∷ us) e

-- the version is what the writes up to the number made, and all bytes are here
pub rebase_stays : (old new : List ℕ) (at low : Usn) (i : Item) → RisesFrom low i.writes → list_all is_some i.held ≡ true
    → new ≡ over old (map (λ (w : Written). w.write) (up_to at i.writes)) → StaysBy old new (later_than at i.writes) i
rebase_stays old new at low i r here e = (
  ap (λ (b : List ℕ). over b (map (λ (w : Written). w.write) (later_than at i.writes))) e
      ∙ sym (over-both old (map (λ (w : Written). w.write) (up_to at i.writes)) (map (λ (w : Written). w.write) (later_than at i.writes)))
      ∙ ap (over old) (sym (map-both (λ (w : Written). w.write) (up_to at i.writes) (later_than at i.writes)))
      ∙ ap (λ (ws : List Written). over old (map (λ (w : Written). w.write) ws)) (sym (split at low i.writes r)),
  laid-full i.held new here ∙ sym (laid-full i.held old here),
)

-- at 0.0 with the same base
pub rebase_same : (base : List ℕ) (i : Item) → RisesFrom no_usn i.writes → StaysBy base base (later_than no_usn i.writes) i
rebase_same base i r =
    let a : (later_than no_usn i.writes ≡ i.writes) × (up_to no_usn i.writes ≡ []) = later-all no_usn no_usn i.writes refl r in
    (ap (λ (ws : List Written). over base (map (λ w. w.write) ws)) a.0, refl)
