-- A byte at a place, where an edit of the list spares the place or gives it that byte.
use Rattle.std.proofs.Common.{◌≡◌, ◌⊎◌, ◌<◌, ◌≤◌, ◌+◌, ◌-◌, ℕ, zero, suc, Bool, true, false, List, [], ◌∷◌, refl, sym, ◌∙◌, ap, subst, inl, inr, arith, length, eq-eqb}
use Rattle.std.specs.Prelude.{Option, Some, None, map, cond, is_some, min, slice_get, nat_le, nat_lt, ◌==◌}
use Rattle.std.proofs.lemmas.Bool.{cases_lt, eqb-true}
use Rattle.std.proofs.lemmas.Bool.Decides.{nat_tests}
use Rattle.cf_model.specs.Effects.{emptied, filled, filled_front}
use Rattle.cf_model.specs.Kept.{byte_given, put_byte}
use Rattle.cf_model.specs.Overlay.{LocalWrite, Put, Resize, after_write, covers_at, patched, resized}
use Rattle.cf_model.specs.Words.{by_place, passes_at, says, within}
use Rattle.cf_model.proofs.Laying.{map-length}
use Rattle.cf_model.proofs.Places as places
use Rattle.cf_model_laws.proofs.RightItems.{no_way, no_way_back}

-- the byte itself, and that it is held
abbrev pub is_byte : ℕ → ℕ → Bool
is_byte b x = x == b

abbrev pub has_byte : ℕ → Option ℕ → Bool
has_byte b h = says (is_byte b) h

-- a write leaves the place as it is
abbrev pub Spares : LocalWrite → ℕ → Type 0
Spares (Put at bytes) p = (p < at) ⊎ (at + length bytes ≤ p)
Spares (Resize size) p = p < size

pub passes_within : {A : Type 0} (f : A → Bool) (xs : List A) (p : ℕ) → passes_at f xs p ≡ true → p < length xs
passes_within f [] p e = no_way e
passes_within f (x ∷ xs) zero e = let z : 0 < suc (length xs) = omega arith in z
passes_within f (x ∷ xs) (suc p) e = let z : p < length xs = passes_within f xs p e in let y : suc p < suc (length xs) = omega (arith, z) in y

patched_spared : {A : Type 0} (f : A → Bool) (filler : A) (at : ℕ) (news xs : List A) (p : ℕ) → (p < at) ⊎ (at + length news ≤ p) → passes_at f xs p ≡ true → passes_at f (patched filler at news xs) p ≡ true
patched_spared f filler at news xs p (inl h) e = places.passes_patched_before f filler at news xs p h (passes_within f xs p e) ∙ e
patched_spared f filler at news xs p (inr h) e = places.passes_patched_after f filler at news xs p h ∙ e

resized_spared : {A : Type 0} (f : A → Bool) (filler : A) (size : ℕ) (xs : List A) (p : ℕ) → p < size → passes_at f xs p ≡ true → passes_at f (resized filler size xs) p ≡ true
resized_spared f filler size xs p h e = places.passes_resized_old f filler size xs p h (passes_within f xs p e) ∙ e

-- of a content

pub write_spared : (b : ℕ) (w : LocalWrite) (xs : List ℕ) (p : ℕ) → Spares w p → passes_at (is_byte b) xs p ≡ true → passes_at (is_byte b) (after_write xs w) p ≡ true
write_spared b (Put at bytes) xs p h e = patched_spared (is_byte b) 0 at bytes xs p h e
write_spared b (Resize size) xs p h e = resized_spared (is_byte b) 0 size xs p h e

-- of what is held

pub held_put : (b at : ℕ) (bytes : List ℕ) (hs : List (Option ℕ)) (p : ℕ) → Spares (Put at bytes) p → passes_at (has_byte b) hs p ≡ true → passes_at (has_byte b) (patched (Some 0) at (map Some bytes) hs) p ≡ true
held_put b at bytes hs p h e = patched_spared (has_byte b) (Some 0) at (map Some bytes) hs p (subst (λ (n : ℕ). (p < at) ⊎ (at + n ≤ p)) (sym (map-length bytes)) h) e

pub held_sized : (b size : ℕ) (hs : List (Option ℕ)) (p : ℕ) → p < size → passes_at (has_byte b) hs p ≡ true → passes_at (has_byte b) (resized (Some 0) size hs) p ≡ true
held_sized b size hs p h e = resized_spared (has_byte b) (Some 0) size hs p h e

front_held : (b : ℕ) (bytes : List ℕ) (hs : List (Option ℕ)) (p : ℕ) → passes_at (has_byte b) hs p ≡ true → passes_at (has_byte b) (filled_front bytes hs) p ≡ true
front_held b [] hs p e = e
front_held b (x ∷ xs) [] p e = e
front_held b (x ∷ xs) (None ∷ hs) zero e = no_way e
front_held b (x ∷ xs) (Some y ∷ hs) zero e = e
front_held b (x ∷ xs) (None ∷ hs) (suc p) e = front_held b xs hs p e
front_held b (x ∷ xs) (Some y ∷ hs) (suc p) e = front_held b xs hs p e

pub held_filled : (b start : ℕ) (bytes : List ℕ) (hs : List (Option ℕ)) (p : ℕ) → passes_at (has_byte b) hs p ≡ true → passes_at (has_byte b) (filled start bytes hs) p ≡ true
held_filled b zero bytes hs p e = front_held b bytes hs p e
held_filled b (suc n) bytes [] p e = no_way e
held_filled b (suc n) bytes (h ∷ hs) zero e = e
held_filled b (suc n) bytes (h ∷ hs) (suc p) e = held_filled b n bytes hs p e

leaves_on : (b : ℕ) (leaves : ℕ → Bool) (k : ℕ) (hs : List (Option ℕ)) (p q : ℕ) → k + p ≡ q → leaves q ≡ false → passes_at (has_byte b) hs p ≡ true → passes_at (has_byte b) (by_place (λ p h. cond (leaves p) None h) k hs) p ≡ true
leaves_on b leaves k [] p q at stays e = no_way e
leaves_on b leaves k (h ∷ hs) zero q at stays e = by (leaves k) (ap leaves (here k q at) ∙ stays) where
  here : (k q : ℕ) → k + 0 ≡ q → k ≡ q
  here k q e = omega (arith, e)

  by : (l : Bool) → l ≡ false → passes_at (has_byte b) (cond l None h ∷ by_place (λ p h. cond (leaves p) None h) (k + 1) hs) zero ≡ true
  by true z = no_way_back z
  by false z = e
leaves_on b leaves k (h ∷ hs) (suc p) q at stays e = leaves_on b leaves (k + 1) hs p q (there k p q at) stays e where
  there : (k p q : ℕ) → k + suc p ≡ q → k + 1 + p ≡ q
  there k p q e = omega (arith, e)

pub held_emptied : (b : ℕ) (leaves : ℕ → Bool) (hs : List (Option ℕ)) (p : ℕ) → leaves p ≡ false → passes_at (has_byte b) hs p ≡ true → passes_at (has_byte b) (emptied leaves hs) p ≡ true
held_emptied b leaves hs p stays e = leaves_on b leaves 0 hs p p (zero_plus p) stays e where
  zero_plus : (n : ℕ) → 0 + n ≡ n
  zero_plus n = omega arith

-- what a byte that is held is

pub held_here : (b : ℕ) (hs : List (Option ℕ)) (p : ℕ) → passes_at (has_byte b) hs p ≡ true → passes_at is_some hs p ≡ true
held_here b [] p e = e
held_here b (None ∷ hs) zero e = no_way e
held_here b (Some x ∷ hs) zero e = refl
held_here b (h ∷ hs) (suc p) e = held_here b hs p e

pub held_is : (b : ℕ) (hs : List (Option ℕ)) (p : ℕ) → passes_at (has_byte b) hs p ≡ true → slice_get hs p ≡ Some (Some b)
held_is b [] p e = no_way e
held_is b (None ∷ hs) zero e = no_way e
held_is b (Some x ∷ hs) zero e = ap (λ (n : ℕ). Some (Some n)) (eqb-true x b e)
held_is b (h ∷ hs) (suc p) e = held_is b hs p e

pub told_at : (b : ℕ) (xs : List ℕ) (p : ℕ) → passes_at (is_byte b) xs p ≡ true → says (λ x. x == b) (slice_get xs p) ≡ true
told_at b [] p e = e
told_at b (x ∷ xs) zero e = e
told_at b (x ∷ xs) (suc p) e = told_at b xs p e

-- the byte that a write gives

same_byte : (b x : ℕ) → Some x ≡ Some b → (x == b) ≡ true
same_byte b x e = let z : x ≡ b = cc in eq-eqb x b z

given_at : (b : ℕ) (xs : List ℕ) (p : ℕ) → slice_get xs p ≡ Some b → passes_at (is_byte b) xs p ≡ true
given_at b [] p e = cc
given_at b (x ∷ xs) zero e = same_byte b x e
given_at b (x ∷ xs) (suc p) e = given_at b xs p e

somes_at : (b : ℕ) (xs : List ℕ) (p : ℕ) → passes_at (is_byte b) xs p ≡ true → passes_at (has_byte b) (map Some xs) p ≡ true
somes_at b [] p e = e
somes_at b (x ∷ xs) zero e = e
somes_at b (x ∷ xs) (suc p) e = somes_at b xs p e

past_end : (at size p : ℕ) (k : ℕ) → within (min at size) k p ≡ true → p < at → size ≤ p
past_end at size p k h e = grind (arith, nat_tests, h, e)

below_end : (at size p : ℕ) (k : ℕ) → within (min at size) k p ≡ true → p < k
below_end at size p k h = grind (arith, nat_tests, h)

-- over a list of that length, a Put gives the place this byte
put_gives : {A : Type 0} (f : A → Bool) (filler : A) (some : ℕ → A) (b at : ℕ) (bytes : List ℕ) (news xs : List A) (size p : ℕ) → length xs ≡ size → length news ≡ length bytes → (0 ≡ b → f filler ≡ true)
    → ((q : ℕ) → passes_at (is_byte b) bytes q ≡ true → passes_at f news q ≡ true) → byte_given size (Put at bytes) p ≡ Some b → passes_at f (patched filler at news xs) p ≡ true
put_gives f filler some b at bytes news xs size p long same zeros k e = by (within (min at size) (at + length bytes) p) refl e where
  gap : p < at → size ≤ p → put_byte at bytes p ≡ Some b → passes_at f (patched filler at news xs) p ≡ true
  gap h g e = places.passes_patched_filler f filler at news xs p h (subst (λ (n : ℕ). n ≤ p) (sym long) g) ∙ zeros (zero_of (nat_lt p at) (is_below p at h) e) where
    is_below : (a b : ℕ) → a < b → nat_lt a b ≡ true
    is_below a b h = grind (arith, nat_tests, h)

    zero_of : (c : Bool) → c ≡ true → (elim c as (λ _. Option ℕ) [ true ↦ Some 0 | false ↦ slice_get bytes (p - at) ]) ≡ Some b → 0 ≡ b
    zero_of true z e = cc
    zero_of false z e = no_way z

  byte : at ≤ p → p < at + length bytes → put_byte at bytes p ≡ Some b → passes_at f (patched filler at news xs) p ≡ true
  byte h g e =
      let q : passes_at (is_byte b) bytes (p - at) ≡ true = given_at b bytes (p - at) (taken (nat_lt p at) (not_below at p h) e) in
      places.passes_patched_new f filler at news xs p (p - at) (back at p h) (subst (λ (n : ℕ). p - at < n) (sym same) (inside at p (length bytes) h g)) ∙ k (p - at) q where
        not_below : (a b : ℕ) → a ≤ b → nat_lt b a ≡ false
        not_below a b h = grind (arith, nat_tests, h)

        taken : (c : Bool) → c ≡ false → (elim c as (λ _. Option ℕ) [ true ↦ Some 0 | false ↦ slice_get bytes (p - at) ]) ≡ Some b → slice_get bytes (p - at) ≡ Some b
        taken true z e = no_way_back z
        taken false z e = e

        back : (a b : ℕ) → a ≤ b → a + (b - a) ≡ b
        back a b h = omega (arith, h)

        inside : (a b n : ℕ) → a ≤ b → b < a + n → b - a < n
        inside a b n h k = omega (arith, h, k)

  by : (c : Bool) → within (min at size) (at + length bytes) p ≡ c → (elim c as (λ _. Option ℕ) [ true ↦ put_byte at bytes p | false ↦ None ]) ≡ Some b → passes_at f (patched filler at news xs) p ≡ true
  by true z e = elim (cases_lt p at) as (λ _. passes_at f (patched filler at news xs) p ≡ true) [ inl h ↦ gap h (past_end at size p (at + length bytes) z h) e | inr h ↦ byte h (below_end at size p (at + length bytes) z) e ]
  by false z e = cc

sized_gives : {A : Type 0} (f : A → Bool) (filler : A) (b k : ℕ) (xs : List A) (size p : ℕ) → length xs ≡ size → (0 ≡ b → f filler ≡ true) → byte_given size (Resize k) p ≡ Some b → passes_at f (resized filler k xs) p ≡ true
sized_gives f filler b k xs size p long zeros e = by (within size k p) refl e where
  low : within size k p ≡ true → size ≤ p
  low z = grind (arith, nat_tests, z)

  high : within size k p ≡ true → p < k
  high z = grind (arith, nat_tests, z)

  by : (c : Bool) → within size k p ≡ c → (elim c as (λ _. Option ℕ) [ true ↦ Some 0 | false ↦ None ]) ≡ Some b → passes_at f (resized filler k xs) p ≡ true
  by true z e = places.passes_resized_new f filler k xs p (high z) (subst (λ (n : ℕ). n ≤ p) (sym long) (low z)) ∙ zeros (let y : 0 ≡ b = cc in y)
  by false z e = cc

pub content_given : (b : ℕ) (w : LocalWrite) (xs : List ℕ) (size p : ℕ) → length xs ≡ size → byte_given size w p ≡ Some b → passes_at (is_byte b) (after_write xs w) p ≡ true
content_given b (Put at bytes) xs size p long e = put_gives (is_byte b) 0 (λ x. x) b at bytes bytes xs size p long refl (λ z. eq-eqb 0 b z) (λ q k. k) e
content_given b (Resize k) xs size p long e = sized_gives (is_byte b) 0 b k xs size p long (λ z. eq-eqb 0 b z) e

pub held_given : (b at : ℕ) (bytes : List ℕ) (hs : List (Option ℕ)) (p : ℕ) → byte_given (length hs) (Put at bytes) p ≡ Some b → passes_at (has_byte b) (patched (Some 0) at (map Some bytes) hs) p ≡ true
held_given b at bytes hs p e = put_gives (has_byte b) (Some 0) Some b at bytes (map Some bytes) hs (length hs) p refl (map-length bytes) (λ z. eq-eqb 0 b z) (somes_at b bytes) e

pub held_grown : (b k : ℕ) (hs : List (Option ℕ)) (p : ℕ) → byte_given (length hs) (Resize k) p ≡ Some b → passes_at (has_byte b) (resized (Some 0) k hs) p ≡ true
held_grown b k hs p e = sized_gives (has_byte b) (Some 0) b k hs (length hs) p refl (λ z. eq-eqb 0 b z) e

-- and covers it
pub given_covers : (b : ℕ) (w : LocalWrite) (size p : ℕ) → byte_given size w p ≡ Some b → covers_at w size p ≡ true
given_covers b (Put at bytes) size p e = by (within (min at size) (at + length bytes) p) e where
  by : (c : Bool) → (elim c as (λ _. Option ℕ) [ true ↦ put_byte at bytes p | false ↦ None ]) ≡ Some b → c ≡ true
  by true e = refl
  by false e = cc
given_covers b (Resize k) size p e = by (within size k p) e where
  by : (c : Bool) → (elim c as (λ _. Option ℕ) [ true ↦ Some 0 | false ↦ None ]) ≡ Some b → c ≡ true
  by true e = refl
  by false e = cc

-- a write that takes no byte away spares the place

pub put_spares : (at : ℕ) (bytes : List ℕ) (size p : ℕ) → p < size → within (min at size) (at + length bytes) p ≡ false → Spares (Put at bytes) p
put_spares at bytes size p h e = elim (cases_lt p at) as (λ _. (p < at) ⊎ (at + length bytes ≤ p)) [ inl k ↦ inl k | inr k ↦ inr (past at size p (length bytes) k h e) ] where
  past : (at size p n : ℕ) → at ≤ p → p < size → within (min at size) (at + n) p ≡ false → at + n ≤ p
  past at size p n k h e = grind (arith, nat_tests, k, h, e)

pub size_spares : (k p : ℕ) → nat_le k p ≡ false → p < k
size_spares k p e = grind (arith, nat_tests, e)
