-- Waits that do not end may be left out.
use Rattle.std.proofs.Common.{◌≡◌, ℕ, zero, suc, ◌-◌, ◌≤◌, Bool, true, false, ◌&&◌, ◌||◌, Option, None, List, [], ◌∷◌, length, take, drop, length-drop, refl, sym, ap, ◌∙◌, arith, eqb}
use Rattle.std.specs.List.{AllByRecursion, list_any}
use Rattle.cf_ask_rule.specs.Narrowing.{AreNear, reaches_into}
use Rattle.cf_base.specs.declared.ids.ItemId.{ItemId}
use Rattle.cf_base.specs.declared.waits.Cause.{Cause}
use Rattle.cf_model.specs.Asks.{ended_of, with_end}
use Rattle.cf_model.specs.Missing.{View, Wait, needed}

pub none_behind : (p : Wait → Bool) (ws : List Wait) → list_any p (drop (length ws) ws) ≡ false
none_behind p [] = refl
none_behind p (w ∷ ws) = none_behind p ws

pub whole_waits : (ws : List Wait) (n : ℕ) → take (length ws - n) (drop n ws) ≡ drop n ws
whole_waits ws n = take-all (length ws - n) (drop n ws) (omega (arith, length-drop n ws)) where
  take-all : (m : ℕ) (xs : List Wait) → length xs ≤ m → take m xs ≡ xs
  take-all zero [] h = refl
  take-all zero (x ∷ xs) h = absurd (omega arith)
  take-all (suc m) [] h = refl
  take-all (suc m) (x ∷ xs) h = ap (λ l. x ∷ l) (take-all m xs (omega arith))

module _ (p : Wait → Bool) (f : Wait → Option Cause) (none : (w : Wait) → p w ≡ false → f w ≡ None) where
  front : (n : ℕ) (ws : List Wait) → AllByRecursion (λ w. p w ≡ false) (take n ws) → ended_of f (drop n ws) ≡ ended_of f ws
  front zero ws h = refl
  front (suc n) [] h = refl
  front (suc n) (w ∷ ws) h = front n ws h.1 ∙ ap (λ o. with_end w o (ended_of f ws)) (sym (none w h.0))

  all_far : (ws : List Wait) → list_any p ws ≡ false → ended_of f ws ≡ []
  all_far [] h = refl
  all_far (w ∷ ws) h = ap (λ o. with_end w o (ended_of f ws)) (none w (first (p w) (list_any p ws) h)) ∙ all_far ws (second (p w) (list_any p ws) h) where
    first : (a b : Bool) → (a || b) ≡ false → a ≡ false
    first true b z = let y : true ≡ false = z in cc
    first false b z = refl

    second : (a b : Bool) → (a || b) ≡ false → b ≡ false
    second true b z = let y : true ≡ false = z in cc
    second false b z = z

  back : (n : ℕ) (ws : List Wait) → list_any p (drop n ws) ≡ false → ended_of f (take n ws) ≡ ended_of f ws
  back zero ws h = sym (all_far ws h)
  back (suc n) [] h = refl
  back (suc n) (w ∷ ws) h = ap (λ l. with_end w (f w) l) (back n ws h)

module _ (item : ItemId) (v : View) (start end : ℕ) where
  abbrev needing : Wait → Bool
  needing w = (eqb w.item.0 item.0) && reaches_into (needed v w) start end

  pub near_rest : (waits rest : List Wait) (n : ℕ) → rest ≡ drop n waits → AllByRecursion (λ w. needing w ≡ false) (take n waits) → AreNear item v start end rest waits
  near_rest waits rest n e far = λ f none. ap (ended_of f) e ∙ front needing f none n waits far

  pub near_first : (waits rest one : List Wait) (n k : ℕ) → rest ≡ drop n waits → AllByRecursion (λ w. needing w ≡ false) (take n waits) → one ≡ take k rest → list_any needing (drop k rest) ≡ false → AreNear item v start end one waits
  near_first waits rest one n k e far is out = λ f none. ap (ended_of f) is ∙ back needing f none k rest out ∙ near_rest waits rest n e far f none
