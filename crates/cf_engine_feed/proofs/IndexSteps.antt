-- What steps of an index make of it.
use Rattle.std.proofs.Common.{◌≡◌, ℕ, Bool, true, false, cond, refl, sym, ◌∙◌, ap, arith}
use Rattle.std.specs.Prelude.{Option, Some, None, ◌==◌}
use Rattle.std.proofs.lemmas.Bool.{eqb-true}
use Rattle.std.proofs.lemmas.Bool.Decides.{nat_tests}
use Rattle.cf_base.specs.declared.ids.ItemId.{ItemId}
use Rattle.cf_engine_feed.specs.Indexes.{Changes, IsIndex, Says}
use Rattle.cf_engine_feed.specs.declared.indexes.Targets.{Targets}

pub turned : (a b : ℕ) → (a == b) ≡ (b == a)
turned a b = grind (arith, nat_tests)

pub own : (a : ℕ) → (a == a) ≡ true
own a = grind (arith, nat_tests)

pub same_id : (a b : ItemId) → (a.0 == b.0) ≡ true → a ≡ b
same_id a b h = λ k. record { 0 = eqb-true a.0 b.0 h k }

pub differ : {X : Type 0} → true ≡ false → X
differ e = let z : true ≡ false = e in absurd cc

module _ (item : ItemId) (before after : ℕ) (f g : ItemId → ℕ) (c : Changes item before after f g) (rid : ℕ) where
  at_item : (d : ItemId) → (d.0 == item.0) ≡ true → g d ≡ after
  at_item d e = ap g (same_id d item e) ∙ c.is

  was_at : (d : ItemId) → (d.0 == item.0) ≡ true → f d ≡ before
  was_at d e = ap f (same_id d item e) ∙ c.was

  -- of an item of the remote that the item neither was nor is all stays
  stays : (o : Option ℕ) → (before == rid) ≡ false → (after == rid) ≡ false → Says o f rid → Says o g rid
  stays None a b h = λ d. two d (d.0 == item.0) refl where
    two : (d : ItemId) (t : Bool) → (d.0 == item.0) ≡ t → (g d == rid) ≡ false
    two d true e = ap (λ (n : ℕ). n == rid) (at_item d e) ∙ b
    two d false e = ap (λ (n : ℕ). n == rid) (c.others d e) ∙ h d
  stays (Some k) a b h = λ some d. two some d (d.0 == item.0) refl where
    two : (some : (k == 0) ≡ false) (d : ItemId) (t : Bool) → (d.0 == item.0) ≡ t → (g d == rid) ≡ (d.0 == k)
    two some d true e = ap (λ (n : ℕ). n == rid) (at_item d e) ∙ b ∙ sym a ∙ sym (ap (λ (n : ℕ). n == rid) (was_at d e)) ∙ h some d
    two some d false e = ap (λ (n : ℕ). n == rid) (c.others d e) ∙ h some d

-- the steps

pub none_is : (rid : ℕ) → (rid == 0) ≡ false → (0 == rid) ≡ false
none_is rid some = turned 0 rid ∙ some

-- another target by way of none

abbrev between : ItemId → (ItemId → ℕ) → ItemId → ℕ
between item f d = cond (d.0 == item.0) 0 (f d)

pub changed : (item : ItemId) (before after : ℕ) (old mid new : Targets) → ((f g : ItemId → ℕ) → Changes item before 0 f g → IsIndex old f → IsIndex mid g) → ((f g : ItemId → ℕ) → Changes item 0 after f g → IsIndex mid f → IsIndex new g)
    → (f g : ItemId → ℕ) → Changes item before after f g → IsIndex old f → IsIndex new g
changed item before after old mid new leave enter f g c h =
    let none : between item f item ≡ 0 = ap (λ (b : Bool). cond b 0 (f item)) (own item.0) in
    let middle : IsIndex mid (between item f) = leave f (between item f) (record { was = c.was; is = none; others = λ d e. ap (λ (b : Bool). cond b 0 (f d)) e }) h in
    enter (between item f) g (record { was = none; is = c.is; others = λ d e. c.others d e ∙ sym (ap (λ (b : Bool). cond b 0 (f d)) e) }) middle
