-- How many blocks hold a byte after a change.
use Rattle.std.proofs.Common.{◌≡◌, ◌⊎◌, ◌≤◌, ◌<◌, ◌+◌, ◌-◌, ◌/◌, ◌||◌, ℕ, zero, suc, Bool, true, false, cond, filter, List, [], ◌∷◌, length, replicate, refl, sym, ◌∙◌, ap, arith, inl, inr}
use Rattle.std.specs.Prelude.{Option, None, ◌==◌}
use Rattle.std.proofs.lemmas.Bool.{cases_lt, eqb-true, true≢false}
use Rattle.cf_base.specs.declared.changes.Change.{Change}
use Rattle.cf_base.specs.declared.ids.Usn.{Usn}
use Rattle.cf_base.specs.declared.items.Pin.{Pin}
use Rattle.cf_model.proofs.Places.{passes_past}
use Rattle.cf_model.specs.Blocks.{block_has_byte, blocks_held, blocks_in}
use Rattle.cf_model.specs.Items.{Item, is_held}
use Rattle.std.specs.Option.{is_some}
use Rattle.cf_model.specs.Words.{counting}
use Rattle.cf_table.specs.Applied.{item_effect}
use Rattle.cf_volume_blocks.proofs.Elsewhere.{block_holds, elsewhere, no_block, none_held}
use Rattle.cf_volume_blocks.proofs.Laid.{is_here}
use Rattle.cf_volume_blocks.proofs.Unlaid.{none_in}
use Rattle.cf_volume_blocks.specs.Bytes.{is_among, puts_in}

-- how many of the numbers from i on, n of them, pass
abbrev passing : (ℕ → Bool) → ℕ → ℕ → ℕ
passing f i n = length (filter f (counting i n))

one_more : (f : ℕ → Bool) (i n : ℕ) (b : Bool) → f i ≡ b → passing f i (suc n) ≡ cond b 1 0 + passing f (i + 1) n
one_more f i n true e = let z : suc (passing f (i + 1) n) ≡ 1 + passing f (i + 1) n = omega arith in rw e z
one_more f i n false e = let z : passing f (i + 1) n ≡ 0 + passing f (i + 1) n = omega arith in rw e z

-- as many of both parts
passing_parts : (f : ℕ → Bool) (i n m : ℕ) → passing f i (n + m) ≡ passing f i n + passing f (i + n) m
passing_parts f i zero m =
    let e : i ≡ i + 0 = omega arith in
    let k : passing f i m ≡ passing f (i + 0) m = ap (λ (j : ℕ). passing f j m) e in
    let n : 0 + m ≡ m = omega arith in
    let l : passing f i (0 + m) ≡ passing f i m = ap (λ (j : ℕ). passing f i j) n in
    omega (arith, k, l)
passing_parts f i (suc n) m =
    let whole : suc n + m ≡ suc (n + m) = omega arith in
    let w : passing f i (suc n + m) ≡ passing f i (suc (n + m)) = ap (λ (j : ℕ). passing f i j) whole in
    let e : i + 1 + n ≡ i + suc n = omega arith in
    let h : passing f (i + 1) (n + m) ≡ passing f (i + 1) n + passing f (i + 1 + n) m = passing_parts f (i + 1) n m in
    let k : passing f (i + 1 + n) m ≡ passing f (i + suc n) m = ap (λ (j : ℕ). passing f j m) e in
    let one = one_more f i (n + m) (f i) refl in
    let two = one_more f i n (f i) refl in
    omega (arith, h, k, one, two, w)

none_passing : (f : ℕ → Bool) (i n : ℕ) → ((b : ℕ) → i ≤ b → f b ≡ false) → passing f i n ≡ 0
none_passing f i zero none = refl
none_passing f i (suc n) none =
    let one = one_more f i n false (none i (omega arith)) in
    let h = none_passing f (i + 1) n (λ b le. none b (omega (arith, le))) in
    omega (arith, one, h)

-- where none passes from m on, no more pass of n than of m
bounded : (f : ℕ → Bool) (n m : ℕ) → ((b : ℕ) → m ≤ b → f b ≡ false) → passing f 0 n ≤ passing f 0 m
bounded f n m none = elim (cases_lt n m) [
  | inl less ↦
      let e : n + (m - n) ≡ m = omega (arith, less) in
      let h : passing f 0 (n + (m - n)) ≡ passing f 0 n + passing f (0 + n) (m - n) = passing_parts f 0 n (m - n) in
      let k : passing f 0 (n + (m - n)) ≡ passing f 0 m = ap (λ (j : ℕ). passing f 0 j) e in
      omega (arith, h, k)
  | inr le ↦
      let e : m + (n - m) ≡ n = omega (arith, le) in
      let h : passing f 0 (m + (n - m)) ≡ passing f 0 m + passing f (0 + m) (n - m) = passing_parts f 0 m (n - m) in
      let k : passing f 0 (m + (n - m)) ≡ passing f 0 n = ap (λ (j : ℕ). passing f 0 j) e in
      let z : passing f (0 + m) (n - m) ≡ 0 = none_passing f (0 + m) (n - m) (λ b at. none b (omega (arith, at))) in
      omega (arith, h, k, z)
]

-- each that passes the first passes one of the others
either_passes : (f g h : ℕ → Bool) (i n : ℕ) → ((b : ℕ) → f b ≡ true → (g b ≡ true) ⊎ (h b ≡ true)) → passing f i n ≤ passing g i n + passing h i n
either_passes f g h i zero some = omega arith
either_passes f g h i (suc n) some =
    let rest = either_passes f g h (i + 1) n some in
    let one = one_more f i n (f i) refl in
    let two = one_more g i n (g i) refl in
    let three = one_more h i n (h i) refl in
    let here : cond (f i) 1 0 ≤ cond (g i) 1 0 + cond (h i) 1 0 = by (f i) (g i) (h i) (some i) in
    omega (arith, rest, one, two, three, here)
  where
    by : (x y z : Bool) → (x ≡ true → (y ≡ true) ⊎ (z ≡ true)) → cond x 1 0 ≤ cond y 1 0 + cond z 1 0
    by false y z k = omega arith
    by true true z k = omega arith
    by true false true k = omega arith
    by true false false k = elim (k refl) [ inl e ↦ absurd (true≢false (sym e)) | inr e ↦ absurd (true≢false (sym e)) ]

-- one number passes once at most

other_number : (c b : ℕ) → c < b → (t : Bool) → (c == b) ≡ t → (c == b) ≡ false
other_number c b lt false k = k
other_number c b lt true k = let same : c ≡ b = eqb-true c b k in absurd (omega (arith, lt, same))

once_here : (c i n : ℕ) → passing (λ b. c == b) (i + 1) n ≤ 1 → (t : Bool) → (c == i) ≡ t → passing (λ b. c == b) i (suc n) ≤ 1
once_here c i n h false e = let one = one_more (λ b. c == b) i n false e in omega (arith, one, h)
once_here c i n h true e =
    let at : c ≡ i = eqb-true c i e in
    let one = one_more (λ b. c == b) i n true e in
    let z : passing (λ b. c == b) (i + 1) n ≡ 0 = none_passing (λ b. c == b) (i + 1) n (λ b le. other_number c b (omega (arith, at, le)) (c == b) refl) in
    omega (arith, one, z)

once : (c i n : ℕ) → passing (λ b. c == b) i n ≤ 1
once c i zero = omega arith
once c i (suc n) = once_here c i n (once c (i + 1) n) (c == i) refl

-- the numbers of a list pass as often as it is long, at most
among_few : (cs : List ℕ) (i n : ℕ) → passing (is_among cs) i n ≤ length cs
among_few [] i n = let z = none_passing (is_among []) i n (λ b le. refl) in omega (arith, z)
among_few (c ∷ cs) i n =
    let split = either_passes (is_among (c ∷ cs)) (λ b. c == b) (is_among cs) i n (λ b e. or_so (c == b) (is_among cs b) e) in
    let one = once c i n in
    let rest = among_few cs i n in
    omega (arith, split, one, rest)
  where
    or_so : (x y : Bool) → (x || y) ≡ true → (x ≡ true) ⊎ (y ≡ true)
    or_so true y e = inl refl
    or_so false y e = inr e

-- no block behind the last holds a byte
none_behind : (held : List (Option ℕ)) (b : ℕ) → blocks_in (length held) ≤ b → block_has_byte held b ≡ false
none_behind held b high = no_block held b (λ p at. passes_past is_some held p (omega (arith, at, high)))

-- a block that holds a byte after a change of its item held one before, or the change put one into it
comes_from : (c : Change) (i : Item) (pin : Pin) (n : Usn) (b : ℕ) → block_has_byte (item_effect c pin n i).held b ≡ true → (block_has_byte i.held b ≡ true) ⊎ (is_among (puts_in c i.held) b ≡ true)
comes_from c i pin n b e = by (block_has_byte i.held b) refl (is_among (puts_in c i.held) b) refl
  where
    new : List (Option ℕ)
    new = (item_effect c pin n i).held

    by : (t : Bool) → block_has_byte i.held b ≡ t → (u : Bool) → is_among (puts_in c i.held) b ≡ u → (block_has_byte i.held b ≡ true) ⊎ (is_among (puts_in c i.held) b ≡ true)
    by true k u l = inl k
    by false k true l = inr l
    by false k false l = absurd (true≢false (sym e ∙ no_block new b (λ p at. place p at (is_held new p) refl)))
      where
        place : (p : ℕ) → p / 4096 ≡ b → (h : Bool) → is_held new p ≡ h → is_held new p ≡ false
        place p at false q = q
        place p at true q =
            let v = none_held new p q in
            let out : is_among (puts_in c i.held) (p / 4096) ≡ false = ap (is_among (puts_in c i.held)) at ∙ l in
            let before : is_held i.held p ≡ true = is_here i.held p v.0 (elsewhere c i pin n p v.0 out v.1) in
            absurd (true≢false (sym (block_holds i.held b p at before) ∙ k))

-- so a change of an item adds no more blocks than it puts bytes into
pub held_after : (c : Change) (i : Item) (pin : Pin) (n : Usn) → blocks_held (item_effect c pin n i).held ≤ blocks_held i.held + length (puts_in c i.held)
held_after c i pin n =
    let new : List (Option ℕ) = (item_effect c pin n i).held in
    let split = either_passes (block_has_byte new) (block_has_byte i.held) (is_among (puts_in c i.held)) 0 (blocks_in (length new)) (comes_from c i pin n) in
    let old = bounded (block_has_byte i.held) (blocks_in (length new)) (blocks_in (length i.held)) (none_behind i.held) in
    let few = among_few (puts_in c i.held) 0 (blocks_in (length new)) in
    omega (arith, split, old, few)

-- a file without bytes holds none
pub none_here : (size : ℕ) → blocks_held (replicate size None) ≡ 0
none_here size = none_passing (block_has_byte (replicate size None)) 0 (blocks_in (length (replicate size None))) (λ b le. no_block (replicate size None) b (λ p at. place p (is_held (replicate size None) p) refl))
  where
    place : (p : ℕ) (h : Bool) → is_held (replicate size None) p ≡ h → is_held (replicate size None) p ≡ false
    place p false q = q
    place p true q = let v = none_held (replicate size None) p q in absurd (none_in size p v.0 v.1)

pub counting_length : (first n : ℕ) → length (counting first n) ≡ n
counting_length first zero = refl
counting_length first (suc n) = ap (λ (k : ℕ). suc k) (counting_length (first + 1) n)
