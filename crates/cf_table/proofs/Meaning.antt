-- What an effect leaves at a position.
use Rattle.std.proofs.Common.{◌≡◌, ℕ, zero, suc, ◌+◌, ◌-◌, ◌<◌, ◌≤◌, Bool, true, false, ◌&&◌, ◌||◌, not, cond, List, [], ◌∷◌, ◌++◌, length, take, drop, min, max, refl, sym, ap, ◌∙◌, arith, ltb, leb, inl, inr, Option, Some, None, is_some, length-drop, length-take, length-append}
use Rattle.std.specs.Prelude.{map}
use Rattle.std.proofs.lemmas.Bool.{cases_lt}
use Rattle.std.proofs.lemmas.Bool.Decides.{nat_tests}
use Rattle.std.proofs.lemmas.List.Folds.{list_any-append}
use Rattle.cf_model.specs.Overlay.{padded, resized, patched, Written, covers, is_covered, Put, Resize}
use Rattle.cf_model.specs.Words.{by_place, passes_at, within}
use Rattle.cf_model.specs.Items.{is_held, is_modified, Item}
use Rattle.cf_base.specs.declared.ids.Usn.{Usn}
use Rattle.cf_model.specs.Effects.{filled, filled_front, wrote, sized, emptied, cleared}
use Rattle.cf_model.proofs.Places.{passes_past, passes_front, passes_back, passes_take, passes_drop, passes_padded_new, length_padded, length_resized, passes_resized_old, passes_resized_new, length_patched, passes_patched_before, passes_patched_filler, passes_patched_new, passes_patched_after}

-- b, or within, by where p is
outside_before : (b : Bool) (s e p : ℕ) → p < s → b ≡ (b || within s e p)
outside_before true s e p h = refl
outside_before false s e p h = grind (arith, nat_tests)

outside_after : (b : Bool) (s e p : ℕ) → e ≤ p → b ≡ (b || within s e p)
outside_after true s e p h = refl
outside_after false s e p h = grind (arith, nat_tests)

inside : (b : Bool) (s e p : ℕ) → s ≤ p → p < e → true ≡ (b || within s e p)
inside true s e p h k = refl
inside false s e p h k = grind (arith, nat_tests)

held_map : (bytes : List ℕ) (q : ℕ) → q < length bytes → is_held (map Some bytes) q ≡ true
held_map [] q h = absurd (omega arith)
held_map (b ∷ bs) zero h = refl
held_map (b ∷ bs) (suc q) h = held_map bs q (omega arith)

length_map : (bytes : List ℕ) → (let xs : List (Option ℕ) = map Some bytes in length xs) ≡ length bytes
length_map [] = refl
length_map (b ∷ bs) = ap suc (length_map bs)

pub length_wrote : (at : ℕ) (bytes : List ℕ) (held : List (Option ℕ)) → length (patched (Some 0) at (map Some bytes) held) ≡ max (length held) (at + length bytes)
length_wrote at bytes held = omega (arith, length_patched is_some (Some 0) at (map Some bytes) held, length_map bytes)

pub held_wrote : (at : ℕ) (bytes : List ℕ) (held : List (Option ℕ)) (p : ℕ) → is_held (patched (Some 0) at (map Some bytes) held) p ≡ (is_held held p || within (min at (length held)) (at + length bytes) p)
held_wrote at bytes held p = elim (cases_lt p at) [
  | inl before ↦ elim (cases_lt p (length held)) [
    | inl old ↦ passes_patched_before is_some (Some 0) at (map Some bytes) held p before old ∙ outside_before (is_held held p) (min at (length held)) (at + length bytes) p (omega arith)
    | inr new ↦ passes_patched_filler is_some (Some 0) at (map Some bytes) held p before new ∙ inside (is_held held p) (min at (length held)) (at + length bytes) p (omega arith) (omega arith)
  ]
  | inr from ↦ elim (cases_lt p (at + length bytes)) [
    | inl to ↦ passes_patched_new is_some (Some 0) at (map Some bytes) held p (p - at) (omega arith) (omega (arith, length_map bytes)) ∙ held_map bytes (p - at) (omega arith)
        ∙ inside (is_held held p) (min at (length held)) (at + length bytes) p (omega arith) to
    | inr past ↦ passes_patched_after is_some (Some 0) at (map Some bytes) held p (omega (arith, length_map bytes)) ∙ outside_after (is_held held p) (min at (length held)) (at + length bytes) p past
  ]
]

pub covered_push : (ws : List Written) (w : Written) (p : ℕ) → is_covered (ws ++ w ∷ []) p ≡ (is_covered ws p || covers w p)
covered_push ws w p = list_any-append (λ v. covers v p) ws (w ∷ []) ∙ ap (λ b. is_covered ws p || b) (last (covers w p)) where
  last : (b : Bool) → (b || false) ≡ b
  last true = refl
  last false = refl

grown : (size at end p : ℕ) (b : Bool) → (ltb p (max size end) && (b || within (min at size) end p)) ≡ ((ltb p size && b) || within (min at size) end p)
grown size at end p true = grind (arith, nat_tests)
grown size at end p false = grind (arith, nat_tests)

pub modified_wrote : (at : ℕ) (bytes : List ℕ) (n : Usn) (i : Item) (p : ℕ) → is_modified (wrote at bytes n i) p ≡ (is_modified i p || within (min at (length i.held)) (at + length bytes) p)
modified_wrote at bytes n i p =
    ap (λ len. ltb p len && is_covered (i.writes ++ record { number = n; before = length i.held; write = Put at bytes } ∷ []) p) (length_wrote at bytes i.held)
    ∙ ap (λ b. ltb p (max (length i.held) (at + length bytes)) && b) (covered_push i.writes (record { number = n; before = length i.held; write = Put at bytes }) p)
    ∙ grown (length i.held) at (at + length bytes) p (is_covered i.writes p)

pub flag_padded : (n : ℕ) (flags : List Bool) (p : ℕ) → passes_at (λ b. b) (padded false n flags) p ≡ passes_at (λ b. b) flags p
flag_padded n flags p = elim (cases_lt p (length flags)) [
  | inl old ↦ passes_front (λ b. b) flags _ p old
  | inr new ↦ elim (cases_lt p n) [
    | inl k ↦ passes_padded_new (λ b. b) false n flags p new k ∙ sym (passes_past (λ b. b) flags p new)
    | inr k ↦ passes_past (λ b. b) (padded false n flags) p (omega (arith, length_padded (λ b. b) false n flags)) ∙ sym (passes_past (λ b. b) flags p new)
  ]
]

-- a size: what is held is cut, and grown by zeros
pub held_sized : (n : ℕ) (held : List (Option ℕ)) (p : ℕ) → is_held (resized (Some 0) n held) p ≡ (ltb p n && (is_held held p || leb (length held) p))
held_sized n held p = elim (cases_lt p n) [
  | inl below ↦ elim (cases_lt p (length held)) [
    | inl old ↦ passes_resized_old is_some (Some 0) n held p below old ∙ kept (is_held held p) n (length held) p below old
    | inr new ↦ passes_resized_new is_some (Some 0) n held p below new ∙ zeros (is_held held p) n (length held) p below new
  ]
  | inr above ↦ passes_past is_some (resized (Some 0) n held) p (omega (arith, length_resized is_some (Some 0) n held)) ∙ gone n (is_held held p || leb (length held) p) p above
] where
  kept : (b : Bool) (n size p : ℕ) → p < n → p < size → b ≡ (ltb p n && (b || leb size p))
  kept true n size p h k = grind (arith, nat_tests)
  kept false n size p h k = grind (arith, nat_tests)

  zeros : (b : Bool) (n size p : ℕ) → p < n → size ≤ p → true ≡ (ltb p n && (b || leb size p))
  zeros true n size p h k = grind (arith, nat_tests)
  zeros false n size p h k = grind (arith, nat_tests)

  gone : (n : ℕ) (b : Bool) (p : ℕ) → n ≤ p → false ≡ (ltb p n && b)
  gone n b p h = grind (arith, nat_tests)

pub flag_sized : (n : ℕ) (flags : List Bool) (p : ℕ) → passes_at (λ b. b) (resized false n flags) p ≡ (ltb p n && passes_at (λ b. b) flags p)
flag_sized n flags p = elim (cases_lt p n) [
  | inl below ↦ elim (cases_lt p (length flags)) [
    | inl old ↦ passes_resized_old (λ b. b) false n flags p below old ∙ kept (passes_at (λ b. b) flags p) n p below
    | inr new ↦ passes_resized_new (λ b. b) false n flags p below new ∙ sym (passes_past (λ b. b) flags p new) ∙ kept (passes_at (λ b. b) flags p) n p below
  ]
  | inr above ↦ passes_past (λ b. b) (resized false n flags) p (omega (arith, length_resized (λ b. b) false n flags)) ∙ gone n (passes_at (λ b. b) flags p) p above
] where
  kept : (b : Bool) (n p : ℕ) → p < n → b ≡ (ltb p n && b)
  kept b n p h = grind (arith, nat_tests)

  gone : (n : ℕ) (b : Bool) (p : ℕ) → n ≤ p → false ≡ (ltb p n && b)
  gone n b p h = grind (arith, nat_tests)

pub modified_sized : (size : ℕ) (n : Usn) (i : Item) (p : ℕ) → is_modified (sized size n i) p ≡ (ltb p size && (is_modified i p || leb (length i.held) p))
modified_sized size n i p =
    ap (λ len. ltb p len && is_covered (i.writes ++ record { number = n; before = length i.held; write = Resize size } ∷ []) p) (length_resized is_some (Some 0) size i.held)
    ∙ ap (λ b. ltb p size && b) (covered_push i.writes (record { number = n; before = length i.held; write = Resize size }) p)
    ∙ either (is_covered i.writes p) (length i.held) size p where
      either : (b : Bool) (before size p : ℕ) → (ltb p size && (b || within before size p)) ≡ (ltb p size && ((ltb p before && b) || leb before p))
      either true before size p = grind (arith, nat_tests)
      either false before size p = grind (arith, nat_tests)

-- a fill
filled_front_at : (bytes : List ℕ) (held : List (Option ℕ)) (p : ℕ) → is_held (filled_front bytes held) p ≡ (is_held held p || (ltb p (length bytes) && ltb p (length held)))
filled_front_at [] held p = none (is_held held p) p (length held) where
  none : (b : Bool) (p n : ℕ) → b ≡ (b || (ltb p 0 && ltb p n))
  none true p n = refl
  none false p n = grind (arith, nat_tests)
filled_front_at (b ∷ bs) [] p = none p (length (b ∷ bs)) where
  none : (p n : ℕ) → false ≡ (false || (ltb p n && ltb p 0))
  none p n = grind (arith, nat_tests)
filled_front_at (b ∷ bs) (None ∷ hs) zero = first (length bs) (length hs) where
  first : (m n : ℕ) → true ≡ (ltb 0 (suc m) && ltb 0 (suc n))
  first m n = grind (arith, nat_tests)
filled_front_at (b ∷ bs) (Some h ∷ hs) zero = refl
filled_front_at (b ∷ bs) (h ∷ hs) (suc p) = filled_front_at bs hs p ∙ ap (λ v. is_held hs p || v) (down p (length bs) (length hs)) where
  down : (p m n : ℕ) → (ltb p m && ltb p n) ≡ (ltb (suc p) (suc m) && ltb (suc p) (suc n))
  down p m n = grind (arith, nat_tests)

length_filled_front : (bytes : List ℕ) (held : List (Option ℕ)) → length (filled_front bytes held) ≡ length held
length_filled_front [] held = refl
length_filled_front (b ∷ bs) [] = refl
length_filled_front (b ∷ bs) (h ∷ hs) = ap suc (length_filled_front bs hs)

pub length_filled : (start : ℕ) (bytes : List ℕ) (held : List (Option ℕ)) → length (filled start bytes held) ≡ length held
length_filled start bytes held = omega (arith, length-append (take start held) (filled_front bytes (drop start held)), length-take start held, length-drop start held, length_filled_front bytes (drop start held))

pub held_filled : (start : ℕ) (bytes : List ℕ) (held : List (Option ℕ)) (p : ℕ) → is_held (filled start bytes held) p ≡ (is_held held p || (within start (start + length bytes) p && ltb p (length held)))
held_filled start bytes held p = elim (cases_lt p start) [
  | inl before ↦ elim (cases_lt p (length held)) [
    | inl old ↦ passes_front is_some (take start held) (filled_front bytes (drop start held)) p (omega (arith, length-take start held)) ∙ passes_take is_some start held p before
        ∙ below (is_held held p) start (start + length bytes) p (length held) before
    | inr past ↦ passes_past is_some (filled start bytes held) p (omega (arith, length_filled start bytes held)) ∙ sym (passes_past is_some held p past) ∙ below (is_held held p) start (start + length bytes) p (length held) before
  ]
  | inr from ↦ elim (cases_lt p (length held)) [
    | inl old ↦ passes_back is_some (take start held) (filled_front bytes (drop start held)) p (p - start) (omega (arith, length-take start held))
        ∙ filled_front_at bytes (drop start held) (p - start)
        ∙ ap (λ b. b || (ltb (p - start) (length bytes) && ltb (p - start) (length (drop start held)))) (passes_drop is_some start held p (p - start) (omega arith))
        ∙ moved (is_held held p) p start (length bytes) (length held) (length (drop start held)) from (length-drop start held)
    | inr past ↦ passes_past is_some (filled start bytes held) p (omega (arith, length_filled start bytes held)) ∙ sym (passes_past is_some held p past) ∙ above (is_held held p) start (start + length bytes) p (length held) past
  ]
] where
  below : (b : Bool) (s e p n : ℕ) → p < s → b ≡ (b || (within s e p && ltb p n))
  below true s e p n h = refl
  below false s e p n h = grind (arith, nat_tests)

  above : (b : Bool) (s e p n : ℕ) → n ≤ p → b ≡ (b || (within s e p && ltb p n))
  above true s e p n h = refl
  above false s e p n h = grind (arith, nat_tests)

  moved : (b : Bool) (p start len size rest : ℕ) → start ≤ p → rest ≡ size - start → (b || (ltb (p - start) len && ltb (p - start) rest)) ≡ (b || (within start (start + len) p && ltb p size))
  moved true p start len size rest h e = refl
  moved false p start len size rest h e = grind (arith, nat_tests)

-- an Emptied
length_by_place : {A B : Type 0} (f : ℕ → A → B) (at : ℕ) (xs : List A) → length (by_place f at xs) ≡ length xs
length_by_place f at [] = refl
length_by_place f at (x ∷ xs) = ap suc (length_by_place f (at + 1) xs)

held_emptied_from : (leaves : ℕ → Bool) (at : ℕ) (held : List (Option ℕ)) (p q : ℕ) → q ≡ at + p → is_held (by_place (λ p h. cond (leaves p) None h) at held) p ≡ (is_held held p && not (leaves q))
held_emptied_from leaves at [] p q h = refl
held_emptied_from leaves at (x ∷ xs) zero q h = one x (leaves at) ∙ ap (λ n. is_some x && not (leaves n)) (omega arith) where
  one : (x : Option ℕ) (b : Bool) → is_some (cond b None x) ≡ (is_some x && not b)
  one None true = refl
  one None false = refl
  one (Some v) true = refl
  one (Some v) false = refl
held_emptied_from leaves at (x ∷ xs) (suc p) q h = held_emptied_from leaves (at + 1) xs p q (omega arith)

pub held_emptied : (leaves : ℕ → Bool) (held : List (Option ℕ)) (p : ℕ) → is_held (emptied leaves held) p ≡ (is_held held p && not (leaves p))
held_emptied leaves held p = held_emptied_from leaves 0 held p p (omega arith)

flag_cleared_from : (leaves : ℕ → Bool) (at : ℕ) (flags : List Bool) (p q : ℕ) → q ≡ at + p → passes_at (λ b. b) (by_place (λ p b. not (leaves p) && b) at flags) p ≡ (passes_at (λ b. b) flags p && not (leaves q))
flag_cleared_from leaves at [] p q h = refl
flag_cleared_from leaves at (x ∷ xs) zero q h = one x (leaves at) ∙ ap (λ n. x && not (leaves n)) (omega arith) where
  one : (x b : Bool) → (not b && x) ≡ (x && not b)
  one true true = refl
  one true false = refl
  one false true = refl
  one false false = refl
flag_cleared_from leaves at (x ∷ xs) (suc p) q h = flag_cleared_from leaves (at + 1) xs p q (omega arith)

pub flag_cleared : (leaves : ℕ → Bool) (flags : List Bool) (p : ℕ) → passes_at (λ b. b) (cleared leaves flags) p ≡ (passes_at (λ b. b) flags p && not (leaves p))
flag_cleared leaves flags p = flag_cleared_from leaves 0 flags p p (omega arith)

pub length_emptied : (leaves : ℕ → Bool) (held : List (Option ℕ)) → length (emptied leaves held) ≡ length held
length_emptied leaves held = length_by_place (λ p h. cond (leaves p) None h) 0 held

pub length_cleared : (leaves : ℕ → Bool) (flags : List Bool) → length (cleared leaves flags) ≡ length flags
length_cleared leaves flags = length_by_place (λ p b. not (leaves p) && b) 0 flags
