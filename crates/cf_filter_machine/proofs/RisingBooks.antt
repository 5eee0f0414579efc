-- Anchors and accesses stay in order, whatever a step makes of the book.
use Rattle.std.proofs.Common.{◌≡◌, ℕ, ◌<◌, Bool, true, false, not, cond, eqb, List, [], ◌∷◌, refl, arith}
use Rattle.std.specs.Prelude.{filter, nat_lt, ◌==◌}
use Rattle.std.proofs.lemmas.Bool.{eqb-false, ltb-false, ltb-true}
use Rattle.cf_base.specs.declared.answers.Access.{Access}
use Rattle.cf_base.specs.declared.answers.Anchor.{Anchor}
use Rattle.cf_base.specs.declared.ids.ItemId.{ItemId}
use Rattle.cf_base.specs.declared.ids.Usn.{Usn}
use Rattle.cf_filter_machine.proofs.GoodSteps.{every_kept}
use Rattle.cf_filter_machine.specs.Keeping.{IsRisingBy}
use Rattle.cf_model.specs.Books.{put_access, with_anchor, without_access, without_anchor, Book}
use Rattle.cf_model.specs.Numbers.{is_no_usn}
use Rattle.cf_model.specs.Words.{put_in}
use Rattle.cf_filter_steps.specs.Good.{Every}

module _ {A : Type 0} (key : A → ℕ) (good : A → Type 0) where
  pub rising_kept : (test : A → Bool) (xs : List A) → IsRisingBy key good xs → IsRisingBy key good (filter test xs)
  rising_kept test [] h = h
  rising_kept test (x ∷ xs) h = by (test x) (rising_kept test xs h.2)
    where
      by : (b : Bool) → IsRisingBy key good (filter test xs) → IsRisingBy key good (cond b (x ∷ filter test xs) (filter test xs))
      by true rest = (h.0, every_kept (λ y. key x < key y) test xs h.1, rest)
      by false rest = rest

  after_both : (k m : ℕ) (xs : List A) → k < m → Every (λ y. m < key y) xs → Every (λ y. k < key y) xs
  after_both k m [] lt h = record {}
  after_both k m (x ∷ xs) lt h = (let a = h.0 in omega (arith, lt, a), after_both k m xs lt h.1)

  every_put : (k : ℕ) (x : A) (xs : List A) → k < key x → Every (λ y. k < key y) xs → Every (λ y. k < key y) (put_in (λ x y. nat_lt (key x) (key y)) x xs)
  every_put k x [] lt h = (lt, record {})
  every_put k x (y ∷ ys) lt h = by (nat_lt (key y) (key x)) (every_put k x ys lt h.1)
    where
      by : (b : Bool) → Every (λ y. k < key y) (put_in (λ x y. nat_lt (key x) (key y)) x ys) → Every (λ y. k < key y) (cond b (y ∷ put_in (λ x y. nat_lt (key x) (key y)) x ys) (x ∷ y ∷ ys))
      by true rest = (h.0, rest)
      by false rest = (lt, h)

  -- one more, where none has its key
  pub rising_put : (x : A) (xs : List A) → good x → Every (λ y. eqb (key y) (key x) ≡ false) xs → IsRisingBy key good xs → IsRisingBy key good (put_in (λ x y. nat_lt (key x) (key y)) x xs)
  rising_put x [] fine other h = (fine, record {}, record {})
  rising_put x (y ∷ ys) fine other h = by (nat_lt (key y) (key x)) refl (rising_put x ys fine other.1 h.2)
    where
      by : (b : Bool) → nat_lt (key y) (key x) ≡ b → IsRisingBy key good (put_in (λ x y. nat_lt (key x) (key y)) x ys) → IsRisingBy key good (cond b (y ∷ put_in (λ x y. nat_lt (key x) (key y)) x ys) (x ∷ y ∷ ys))
      by true e rest = (h.0, every_put (key y) x ys (ltb-true (key y) (key x) e) h.1, rest)
      by false e rest =
          let le = ltb-false (key y) (key x) e in
          let ne = eqb-false (key y) (key x) other.0 in
          let lt : key x < key y = omega (arith, le, ne) in
          (fine, (lt, after_both (key x) (key y) ys lt h.1), h)

-- what is left has other keys
other_left : {A : Type 0} (g : A → ItemId) (id : ItemId) (xs : List A) → Every (λ a. eqb (g a).0 id.0 ≡ false) (filter (λ a. not ((g a).0 == id.0)) xs)
other_left g id [] = record {}
other_left {A} g id (x ∷ xs) = by (eqb (g x).0 id.0) refl (other_left g id xs)
  where
    by : (b : Bool) → eqb (g x).0 id.0 ≡ b → Every (λ a. eqb (g a).0 id.0 ≡ false) (filter (λ a. not ((g a).0 == id.0)) xs)
        → Every (λ a. eqb (g a).0 id.0 ≡ false) (cond (not b) (x ∷ filter (λ a. not ((g a).0 == id.0)) xs) (filter (λ a. not ((g a).0 == id.0)) xs))
    by true e rest = rest
    by false e rest = (e, rest)

-- anchors

abbrev pub AnchorsRise : List Anchor → Type 0
AnchorsRise l = IsRisingBy (λ a. a.item.0) (λ a. is_no_usn a.number ≡ false) l

pub anchors_without : (id : ItemId) (l : List Anchor) → AnchorsRise l → AnchorsRise (without_anchor id l)
anchors_without id l h = rising_kept (λ (a : Anchor). a.item.0) (λ a. is_no_usn a.number ≡ false) (λ a. not (a.item.0 == id.0)) l h

pub anchors_with : (id : ItemId) (n : Usn) (b : Book) → is_no_usn n ≡ false → AnchorsRise b.anchors → AnchorsRise (with_anchor id n b).anchors
anchors_with id n b given h =
    rising_put (λ (a : Anchor). a.item.0) (λ a. is_no_usn a.number ≡ false) (record { item = id; number = n }) (without_anchor id b.anchors) given (other_left (λ (a : Anchor). a.item) id b.anchors) (anchors_without id b.anchors h)

-- accesses

abbrev pub AccessesRise : List Access → Type 0
AccessesRise l = IsRisingBy (λ a. a.item.0) (λ a. (a.clock == 0) ≡ false) l

pub accesses_without : (id : ItemId) (l : List Access) → AccessesRise l → AccessesRise (without_access id l)
accesses_without id l h = rising_kept (λ (a : Access). a.item.0) (λ a. (a.clock == 0) ≡ false) (λ a. not (a.item.0 == id.0)) l h

pub accesses_with : (id : ItemId) (clock : ℕ) (l : List Access) → AccessesRise l → AccessesRise (put_access id clock (without_access id l))
accesses_with id clock l h = by (eqb clock 0) refl
  where
    left : List Access
    left = without_access id l

    by : (b : Bool) → eqb clock 0 ≡ b → AccessesRise (cond b left (put_in (λ x y. nat_lt x.item.0 y.item.0) (record { item = id; clock = clock }) left))
    by true e = accesses_without id l h
    by false e = rising_put (λ (a : Access). a.item.0) (λ a. (a.clock == 0) ≡ false) (record { item = id; clock = clock }) left e (other_left (λ (a : Access). a.item) id l) (accesses_without id l h)
