-- The writes above a number.
use Rattle.std.proofs.Common.{◌≡◌, ℕ, Bool, true, false, ◌&&◌, ◌||◌, not, cond, List, [], ◌∷◌, ◌++◌, refl, sym, ap, ◌∙◌, arith, ltb, eqb}
use Rattle.std.proofs.lemmas.Bool.{cond-true, cond-false}
use Rattle.std.proofs.lemmas.Bool.Decides.{nat_tests}
use Rattle.cf_base.specs.declared.ids.Usn.{Usn}
use Rattle.cf_model.specs.Effects.{later_than}
use Rattle.cf_model.specs.Numbers.{above, no_usn, same_usn}
use Rattle.cf_model.specs.Overlay.{Written, covers, is_covered}
use Rattle.cf_model.specs.Words.{is_empty}
use Rattle.cf_table.specs.Means.{AreUpTo}
use Rattle.cf_table.proofs.Meaning.{covered_push}

-- the order of numbers

-- what is not above m is not above what is above m
three : (we wp me mp ne np : ℕ) → (ltb me we || (eqb we me && ltb mp wp)) ≡ false → (ltb me ne || (eqb ne me && ltb mp np)) ≡ true → (ltb ne we || (eqb we ne && ltb np wp)) ≡ false
three we wp me mp ne np h k = grind (arith, nat_tests)

pub not_above_later : (w m n : Usn) → above w m ≡ false → above n m ≡ true → above w n ≡ false
not_above_later w m n h k = three w.epoch w.place m.epoch m.place n.epoch n.place h k

zero_two : (ae ap ne np : ℕ) → (ltb ae ne || (eqb ne ae && ltb ap np)) ≡ true → (ltb 0 ne || (eqb ne 0 && ltb 0 np)) ≡ true
zero_two ae ap ne np h = grind (arith, nat_tests)

pub above_zero : (a n : Usn) → above n a ≡ true → above n no_usn ≡ true
above_zero a n h = zero_two a.epoch a.place n.epoch n.place h

self_one : (e p : ℕ) → (ltb e e || (eqb e e && ltb p p)) ≡ false
self_one e p = grind (arith, nat_tests)

pub not_above_self : (n : Usn) → above n n ≡ false
not_above_self n = self_one n.epoch n.place

-- lists of writes

pub none_above : (n : Usn) (ws : List Written) → AreUpTo n ws → later_than n ws ≡ []
none_above n [] h = refl
none_above n (w ∷ ws) h = cond-false (above w.number n) _ _ h.1 ∙ none_above n ws h.2

pub all_above : (n : Usn) (ws : List Written) → AreUpTo n ws → later_than no_usn ws ≡ ws
all_above n [] h = refl
all_above n (w ∷ ws) h = cond-true (above w.number no_usn) _ _ h.0 ∙ ap (λ v. w ∷ v) (all_above n ws h.2)

pub above_twice : (n : Usn) (ws : List Written) → later_than n (later_than n ws) ≡ later_than n ws
above_twice n [] = refl
above_twice n (w ∷ ws) = two (above_twice n ws) (above w.number n) refl where
  two : later_than n (later_than n ws) ≡ later_than n ws → (b : Bool) → above w.number n ≡ b → later_than n (cond b (w ∷ later_than n ws) (later_than n ws)) ≡ cond b (w ∷ later_than n ws) (later_than n ws)
  two again true e = cond-true (above w.number n) _ _ e ∙ ap (λ v. w ∷ v) again
  two again false e = again

pub above_push : (n : Usn) (ws : List Written) (w : Written) → above w.number n ≡ true → later_than n (ws ++ w ∷ []) ≡ later_than n ws ++ w ∷ []
above_push n [] w h = cond-true (above w.number n) _ _ h
above_push n (v ∷ ws) w h = two (above_push n ws w h) (above v.number n) where
  two : later_than n (ws ++ w ∷ []) ≡ later_than n ws ++ w ∷ [] → (b : Bool) → cond b (v ∷ later_than n (ws ++ w ∷ [])) (later_than n (ws ++ w ∷ [])) ≡ cond b (v ∷ later_than n ws) (later_than n ws) ++ w ∷ []
  two rest true = ap (λ u. v ∷ u) rest
  two rest false = rest

pub numbers_above : (last n : Usn) (ws : List Written) → AreUpTo last ws → AreUpTo last (later_than n ws)
numbers_above last n [] h = tt
numbers_above last n (w ∷ ws) h = two (numbers_above last n ws h.2) (above w.number n) where
  two : AreUpTo last (later_than n ws) → (b : Bool) → AreUpTo last (cond b (w ∷ later_than n ws) (later_than n ws))
  two rest true = (h.0, h.1, rest)
  two rest false = rest

pub numbers_later : (last n : Usn) (ws : List Written) → above n last ≡ true → AreUpTo last ws → AreUpTo n ws
numbers_later last n [] h k = tt
numbers_later last n (w ∷ ws) h k = (k.0, not_above_later w.number last n k.1 h, numbers_later last n ws h k.2)

pub numbers_push : (last n : Usn) (ws : List Written) (w : Written) → above n last ≡ true → w.number ≡ n → AreUpTo last ws → AreUpTo n (ws ++ w ∷ [])
numbers_push last n [] w h e k = (ap (λ m. above m no_usn) e ∙ above_zero last n h, ap (λ m. above m n) e ∙ not_above_self n, tt)
numbers_push last n (v ∷ ws) w h e k = (k.0, not_above_later v.number last n k.1 h, numbers_push last n ws w h e k.2)

pub some_pushed : (ws : List Written) (w : Written) → true ≡ not (is_empty (ws ++ w ∷ []))
some_pushed [] w = refl
some_pushed (v ∷ ws) w = refl

pub some_pushed_above : (n : Usn) (ws : List Written) (w : Written) → above w.number n ≡ true → true ≡ not (is_empty (later_than n (ws ++ w ∷ [])))
some_pushed_above n ws w h = some_pushed (later_than n ws) w ∙ ap (λ v. not (is_empty v)) (sym (above_push n ws w h))

pub covered_push_above : (n : Usn) (ws : List Written) (w : Written) (p : ℕ) → above w.number n ≡ true → is_covered (later_than n (ws ++ w ∷ [])) p ≡ (is_covered (later_than n ws) p || covers w p)
covered_push_above n ws w p h = ap (λ v. is_covered v p) (above_push n ws w h) ∙ covered_push (later_than n ws) w p

-- equal numbers

first_is : (a b c d : ℕ) → (eqb a b && eqb c d) ≡ true → a ≡ b
first_is a b c d h = grind (arith, nat_tests)

second_is : (a b c d : ℕ) → (eqb a b && eqb c d) ≡ true → c ≡ d
second_is a b c d h = grind (arith, nat_tests)

pub same_is : (a b : Usn) → same_usn a b ≡ true → a ≡ b
same_is a b h =
    let e : a.epoch ≡ b.epoch = first_is a.epoch b.epoch a.place b.place h in
    let p : a.place ≡ b.place = second_is a.epoch b.epoch a.place b.place h in
    λ j. record { epoch = e j; place = p j }

-- of three tests, the one that is left
pub one_left : (a b c : Bool) → (a || b || c) ≡ true → a ≡ false → c ≡ false → b ≡ true
one_left true b c h x y = let z : true ≡ false = x in cc
one_left false true c h x y = refl
one_left false false true h x y = let z : true ≡ false = y in cc
one_left false false false h x y = h
