-- One step of the loop over pending bytes.
use Rattle.std.proofs.Common.{◌≡◌, ℕ, zero, suc, ◌+◌, ◌<◌, ◌≤◌, List, [], ◌∷◌, ◌++◌, Bool, true, false, length, get_or, set, take, drop, refl, sym, ◌∙◌, ap, arith, append_assoc}
use Rattle.std.proofs.lemmas.List.{length-append, length-take, length-drop, drop_more, take_more, take_more_set, drop-set-lt, get_or-drop, take-append-drop, drop-drop, take_at, drop_at, take_all, drop_all, append-nil}
use Rattle.cf_disk.specs.Disk.{part}
use Rattle.cf_disk.specs.Images.{mixed, mixed_after, mixed_byte, stirred, stirs}
use Rattle.cf_disk.specs.Parts.{length-part}
use Rattle.cf_disk.specs.Splice.{over}

module _ (s i : ℕ) (b y : List ℕ) (p : List Bool) (lb : i < length b) (ly : i < length y) (lp : i < length p) where
  opened : (f : Bool) → get_or p i false ≡ f → mixed s (drop i b) (drop i y) (drop i p) ≡ mixed s (get_or b i 0 ∷ drop (i + 1) b) (get_or y i 0 ∷ drop (i + 1) y) (f ∷ drop (i + 1) p)
  opened f is = λ j. mixed s (drop_more b i 0 lb j) (drop_more y i 0 ly j) (flags j)
    where
      flags : drop i p ≡ f ∷ drop (i + 1) p
      flags = drop_more p i false lp ∙ ap (λ (g : Bool). g ∷ drop (i + 1) p) is

  pub step_synced : get_or p i false ≡ false → take (i + 1) b ++ mixed s (drop (i + 1) b) (drop (i + 1) y) (drop (i + 1) p) ≡ take i b ++ mixed s (drop i b) (drop i y) (drop i p)
  step_synced is =
      ap (λ (l : List ℕ). l ++ mixed s (drop (i + 1) b) (drop (i + 1) y) (drop (i + 1) p)) (take_more b i 0 lb)
      ∙ append_assoc (take i b) (get_or b i 0 ∷ []) (mixed s (drop (i + 1) b) (drop (i + 1) y) (drop (i + 1) p))
      ∙ ap (λ (l : List ℕ). take i b ++ l) (sym (opened false is))

  pub step_pending : (v : ℕ) → get_or p i false ≡ true → v ≡ mixed_byte (stirred s) (get_or y i 0) (get_or b i 0) → take (i + 1) (set b i v) ++ mixed (stirred s) (drop (i + 1) (set b i v)) (drop (i + 1) y) (drop (i + 1) p) ≡ take i b ++ mixed s (drop i b) (drop i y) (drop i p)
  step_pending v is value =
      (λ j. take_more_set b i v lb j ++ mixed (stirred s) (drop-set-lt (i + 1) b i v (omega arith) j) (drop (i + 1) y) (drop (i + 1) p))
      ∙ append_assoc (take i b) (v ∷ []) (mixed (stirred s) (drop (i + 1) b) (drop (i + 1) y) (drop (i + 1) p))
      ∙ ap (λ (u : ℕ). take i b ++ u ∷ mixed (stirred s) (drop (i + 1) b) (drop (i + 1) y) (drop (i + 1) p)) value
      ∙ ap (λ (l : List ℕ). take i b ++ l) (sym (opened true is))

-- the state goes on by the same steps
module _ (s i : ℕ) (p : List Bool) (lp : i < length p) where
  pub stirs_synced : get_or p i false ≡ false → stirs s (drop (i + 1) p) ≡ stirs s (drop i p)
  stirs_synced is = sym (ap (λ (l : List Bool). stirs s l) (drop_more p i false lp ∙ ap (λ (g : Bool). g ∷ drop (i + 1) p) is))

  pub stirs_pending : get_or p i false ≡ true → stirs (stirred s) (drop (i + 1) p) ≡ stirs s (drop i p)
  stirs_pending is = sym (ap (λ (l : List Bool). stirs s l) (drop_more p i false lp ∙ ap (λ (g : Bool). g ∷ drop (i + 1) p) is))

-- after the last
pub mixed_last : (i s : ℕ) (b y : List ℕ) (p : List Bool) → length b ≤ i → mixed_after i s b y p ≡ b
mixed_last i s b y p le = (λ j. take_all i b le j ++ mixed s (drop_all i b le j) (drop i y) (drop i p)) ∙ append-nil b

pub stirs_last : (i s : ℕ) (p : List Bool) → length p ≤ i → stirs s (drop i p) ≡ s
stirs_last i s p le = ap (λ (l : List Bool). stirs s l) (drop_all i p le)

-- what is not pending stays
pub mixed_stays : (s : ℕ) (b y : List ℕ) (p : List Bool) (i : ℕ) → get_or p i false ≡ false → get_or (mixed s b y p) i 0 ≡ get_or b i 0
mixed_stays s [] y p i is = refl
mixed_stays s (w ∷ b) [] p i is = refl
mixed_stays s (w ∷ b) (x ∷ y) [] i is = refl
mixed_stays s (w ∷ b) (x ∷ y) (false ∷ p) zero is = refl
mixed_stays s (w ∷ b) (x ∷ y) (false ∷ p) (suc i) is = mixed_stays s b y p i is
mixed_stays s (w ∷ b) (x ∷ y) (true ∷ p) zero is = absurd cc
mixed_stays s (w ∷ b) (x ∷ y) (true ∷ p) (suc i) is = mixed_stays (stirred s) b y p i is

pub length-mixed : (s : ℕ) (b y : List ℕ) (p : List Bool) → length (mixed s b y p) ≡ length b
length-mixed s [] y p = refl
length-mixed s (w ∷ b) [] p = refl
length-mixed s (w ∷ b) (x ∷ y) [] = refl
length-mixed s (w ∷ b) (x ∷ y) (false ∷ p) = ap suc (length-mixed s b y p)
length-mixed s (w ∷ b) (x ∷ y) (true ∷ p) = ap suc (length-mixed (stirred s) b y p)

-- where nothing is pending, all stays
pub mixed_quiet : (s : ℕ) (b y : List ℕ) (p : List Bool) → ((i : ℕ) → get_or p i false ≡ false) → mixed s b y p ≡ b
mixed_quiet s [] y p quiet = refl
mixed_quiet s (w ∷ b) [] p quiet = refl
mixed_quiet s (w ∷ b) (x ∷ y) [] quiet = refl
mixed_quiet s (w ∷ b) (x ∷ y) (false ∷ p) quiet = ap (λ (l : List ℕ). w ∷ l) (mixed_quiet s b y p (λ i. quiet (suc i)))
mixed_quiet s (w ∷ b) (x ∷ y) (true ∷ p) quiet = let no : true ≡ false = quiet zero in absurd cc

-- where nothing is pending from one place up to another, the generator goes on there
pub mixed_skips : (low at s : ℕ) (b y : List ℕ) (p : List Bool) → at ≤ low → ((i : ℕ) → at ≤ i → i < low → get_or p i false ≡ false) → length y ≡ length b → length p ≡ length b
    → mixed_after low s b y p ≡ mixed_after at s b y p
mixed_skips zero zero s b y p le quiet ly lp = refl
mixed_skips zero (suc at) s b y p le quiet ly lp = absurd (omega arith)
mixed_skips (suc low) zero s [] [] [] le quiet ly lp = refl
mixed_skips (suc low) (suc at) s [] [] [] le quiet ly lp = refl
mixed_skips (suc low) at s [] (x ∷ y) p le quiet ly lp = absurd (omega arith)
mixed_skips (suc low) at s [] [] (f ∷ p) le quiet ly lp = absurd (omega arith)
mixed_skips (suc low) at s (w ∷ b) [] p le quiet ly lp = absurd (omega arith)
mixed_skips (suc low) at s (w ∷ b) (x ∷ y) [] le quiet ly lp = absurd (omega arith)
mixed_skips (suc low) zero s (w ∷ b) (x ∷ y) (false ∷ p) le quiet ly lp =
    ap (λ (l : List ℕ). w ∷ l) (mixed_skips low zero s b y p (omega arith) (λ i from lt. quiet (suc i) (omega arith) (omega (arith, lt))) (omega arith) (omega arith))
mixed_skips (suc low) zero s (w ∷ b) (x ∷ y) (true ∷ p) le quiet ly lp = let no : true ≡ false = quiet zero (omega arith) (omega arith) in absurd cc
mixed_skips (suc low) (suc at) s (w ∷ b) (x ∷ y) (f ∷ p) le quiet ly lp =
    ap (λ (l : List ℕ). w ∷ l) (mixed_skips low at s b y p (omega arith) (λ i from lt. quiet (suc i) (omega (arith, from)) (omega (arith, lt))) (omega arith) (omega arith))

-- where nothing is pending from a place on, all is done
pub mixed_done : (at s : ℕ) (b y : List ℕ) (p : List Bool) → ((i : ℕ) → at ≤ i → get_or p i false ≡ false) → mixed_after at s b y p ≡ b
mixed_done at s b y p quiet =
    ap (λ (l : List ℕ). take at b ++ l) (mixed_quiet s (drop at b) (drop at y) (drop at p) (λ i. get_or-drop at p i false ∙ quiet (at + i) (omega arith)))
    ∙ take-append-drop at b

-- lists one behind the other
pub mixed_append : (s : ℕ) (b w y z : List ℕ) (p q : List Bool) → length y ≡ length b → length p ≡ length b
    → mixed s (b ++ w) (y ++ z) (p ++ q) ≡ mixed s b y p ++ mixed (stirs s p) w z q
mixed_append s [] w [] z [] q ly lp = refl
mixed_append s [] w (x ∷ y) z p q ly lp = absurd (omega arith)
mixed_append s [] w [] z (f ∷ p) q ly lp = absurd (omega arith)
mixed_append s (v ∷ b) w [] z p q ly lp = absurd (omega arith)
mixed_append s (v ∷ b) w (x ∷ y) z [] q ly lp = absurd (omega arith)
mixed_append s (v ∷ b) w (x ∷ y) z (false ∷ p) q ly lp = ap (λ (l : List ℕ). v ∷ l) (mixed_append s b w y z p q (omega arith) (omega arith))
mixed_append s (v ∷ b) w (x ∷ y) z (true ∷ p) q ly lp = ap (λ (l : List ℕ). mixed_byte (stirred s) x v ∷ l) (mixed_append (stirred s) b w y z p q (omega arith) (omega arith))

cut_at : {X : Type 0} (low m : ℕ) (xs : List X) → drop low xs ≡ take m (drop low xs) ++ drop (low + m) xs
cut_at {X} low m xs = sym (take-append-drop m (drop low xs)) ∙ ap (λ (l : List X). take m (drop low xs) ++ l) (drop-drop m low xs)

-- a part in the middle
module _ (low m s r : ℕ) (b y new : List ℕ) (p : List Bool) (fits : low + m ≤ length b) (ly : length y ≡ length b) (lp : length p ≡ length b)
    (new_is : new ≡ mixed s (part low m b) (part low m y) (take m (drop low p))) (r_is : r ≡ stirs s (take m (drop low p))) where
  size : length new ≡ m
  size = ap length new_is ∙ length-mixed s (part low m b) (part low m y) (take m (drop low p)) ∙ length-part low m b fits

  front : length (take low b ++ new) ≡ low + m
  front = omega (arith, length-append (take low b) new, length-take low b, size)

  before : take (low + m) (over low new b) ≡ take low b ++ new
  before = take_at (take low b ++ new) (drop (low + length new) b) (low + m) front

  behind : drop (low + m) (over low new b) ≡ drop (low + m) b
  behind = drop_at (take low b ++ new) (drop (low + length new) b) (low + m) front ∙ ap (λ (k : ℕ). drop (low + k) b) size

  whole : mixed_after low s b y p ≡ take low b ++ mixed s (part low m b ++ drop (low + m) b) (part low m y ++ drop (low + m) y) (take m (drop low p) ++ drop (low + m) p)
  whole = λ j. take low b ++ mixed s (cut_at low m b j) (cut_at low m y j) (cut_at low m p j)

  pub mixed_part : mixed_after (low + m) r (over low new b) y p ≡ mixed_after low s b y p
  mixed_part =
      (λ j. before j ++ mixed (r_is j) (behind j) (drop (low + m) y) (drop (low + m) p))
      ∙ append_assoc (take low b) new (mixed (stirs s (take m (drop low p))) (drop (low + m) b) (drop (low + m) y) (drop (low + m) p))
      ∙ ap (λ (l : List ℕ). take low b ++ (l ++ mixed (stirs s (take m (drop low p))) (drop (low + m) b) (drop (low + m) y) (drop (low + m) p))) new_is
      ∙ ap (λ (l : List ℕ). take low b ++ l) (sym (mixed_append s (part low m b) (drop (low + m) b) (part low m y) (drop (low + m) y) (take m (drop low p)) (drop (low + m) p)
      (length-part low m y (omega arith) ∙ sym (length-part low m b fits))
      (omega (arith, length-take m (drop low p), length-drop low p, length-part low m b fits))))
      ∙ sym whole
