-- What was written stays here.
use Rattle.std.proofs.Common.{◌≡◌, ◌⊎◌, inl, inr, ⊎_elim, ℕ, zero, suc, ◌+◌, ◌-◌, ◌<◌, ◌≤◌, Bool, true, false, ◌&&◌, ◌||◌, not, cond, List, [], ◌∷◌, ◌++◌, length, map, min, Option, Some, None, refl, sym, ◌∙◌, ap, arith, is_some}
use Rattle.std.specs.List.{list_all}
use Rattle.std.proofs.lemmas.Bool.{and_parts, cases_lt, true≢false}
use Rattle.std.proofs.lemmas.Bool.Decides.{nat_tests}
use Rattle.cf_base.specs.declared.ids.Usn.{Usn}
use Rattle.cf_filter_machine.specs.Keeping.{IsWrittenHere}
use Rattle.cf_model.specs.Effects.{emptied, filled, filled_front, later_than, leaves_at}
use Rattle.cf_model.specs.Items.{is_held}
use Rattle.cf_model.specs.Overlay.{Put, Resize, Written, covers, is_covered, patched, resized}
use Rattle.cf_model.specs.Words.{by_place, passes_at, within}
use Rattle.cf_model.proofs.Places.{length_patched, length_resized, passes_patched_after, passes_patched_before, passes_patched_filler, passes_patched_new, passes_resized_new, passes_resized_old}
use Rattle.cf_filter_machine.proofs.Keepable.{fewer_cover}

-- a position that is covered with one more write

pub covered_by : (ws : List Written) (w : Written) (p : ℕ) → is_covered (ws ++ w ∷ []) p ≡ true → (is_covered ws p ≡ true) ⊎ (covers w p ≡ true)
covered_by [] w p h = inr (by (covers w p) h)
  where
    by : (b : Bool) → (b || false) ≡ true → b ≡ true
    by true k = refl
    by false k = k
covered_by (v ∷ ws) w p h = by (covers v p) h (covered_by ws w p)
  where
    by : (b : Bool) → (b || is_covered (ws ++ w ∷ []) p) ≡ true → (is_covered (ws ++ w ∷ []) p ≡ true → (is_covered ws p ≡ true) ⊎ (covers w p ≡ true)) → ((b || is_covered ws p) ≡ true) ⊎ (covers w p ≡ true)
    by true k rest = inl refl
    by false k rest = rest k

within_low : (start end p : ℕ) → within start end p ≡ true → start ≤ p
within_low start end p h = grind (arith, nat_tests)

pub within_high : (start end p : ℕ) → within start end p ≡ true → p < end
within_high start end p h = grind (arith, nat_tests)

some_bytes : (bytes : List ℕ) → length (map Some bytes) ≡ length bytes
some_bytes [] = refl
some_bytes (b ∷ bs) = ap suc (some_bytes bs)

some_held : (bytes : List ℕ) (p : ℕ) → p < length bytes → passes_at is_some (map Some bytes) p ≡ true
some_held [] p h = absurd (omega (arith, h))
some_held (b ∷ bs) zero h = refl
some_held (b ∷ bs) (suc p) h = some_held bs p (omega (arith, h))

-- a write

pub wrote_here : (at : ℕ) (bytes : List ℕ) (n : Usn) (ws : List Written) (held : List (Option ℕ)) → IsWrittenHere ws held
    → IsWrittenHere (ws ++ record { number = n; before = length held; write = Put at bytes } ∷ []) (patched (Some 0) at (map Some bytes) held)
wrote_here at bytes n ws held h p low covered =
    elim (cases_lt p at) [
      | inl before ↦ elim (cases_lt p (length held)) [
        | inl old ↦ passes_patched_before is_some (Some 0) at (map Some bytes) held p before old ∙ h p old (⊎_elim (λ c. c) (λ c. absurd (early before old c)) (covered_by ws new p covered))
        | inr gap ↦ passes_patched_filler is_some (Some 0) at (map Some bytes) held p before gap
      ]
      | inr after ↦ elim (cases_lt p (at + length bytes)) [
        | inl inside ↦ passes_patched_new is_some (Some 0) at (map Some bytes) held p (p - at) (omega (arith, after)) (omega (arith, after, inside, some_bytes bytes)) ∙ some_held bytes (p - at) (omega (arith, after, inside))
        | inr past ↦ passes_patched_after is_some (Some 0) at (map Some bytes) held p (omega (arith, past, some_bytes bytes)) ∙ h p (shorter past) (⊎_elim (λ c. c) (λ c. absurd (late past c)) (covered_by ws new p covered))
      ]
    ]
  where
    new : Written
    new = record { number = n; before = length held; write = Put at bytes }

    early : p < at → p < length held → covers new p ≡ true → ⊥
    early a b c = let k = within_low (min at (length held)) (at + length bytes) p c in omega (arith, a, b, k)

    late : at + length bytes ≤ p → covers new p ≡ true → ⊥
    late a c = let k = within_high (min at (length held)) (at + length bytes) p c in omega (arith, a, k)

    shorter : at + length bytes ≤ p → p < length held
    shorter a = omega (arith, a, low, length_patched is_some (Some 0) at (map Some bytes) held, some_bytes bytes)

pub sized_here : (size : ℕ) (n : Usn) (ws : List Written) (held : List (Option ℕ)) → IsWrittenHere ws held
    → IsWrittenHere (ws ++ record { number = n; before = length held; write = Resize size } ∷ []) (resized (Some 0) size held)
sized_here size n ws held h p low covered =
    let short : p < size = omega (arith, low, length_resized is_some (Some 0) size held) in
    elim (cases_lt p (length held)) [
      | inl old ↦ passes_resized_old is_some (Some 0) size held p short old ∙ h p old (⊎_elim (λ c. c) (λ c. absurd (early old c)) (covered_by ws new p covered))
      | inr gap ↦ passes_resized_new is_some (Some 0) size held p short gap
    ]
  where
    new : Written
    new = record { number = n; before = length held; write = Resize size }

    early : p < length held → covers new p ≡ true → ⊥
    early a c = let k = within_low (length held) size p c in omega (arith, a, k)

-- a copy covers no position

pub copied_here : (n : Usn) (ws : List Written) (held : List (Option ℕ)) → IsWrittenHere ws held → IsWrittenHere (ws ++ record { number = n; before = length held; write = Resize (length held) } ∷ []) held
copied_here n ws held h p low covered = h p low (⊎_elim (λ c. c) (λ c. absurd (none c)) (covered_by ws (record { number = n; before = length held; write = Resize (length held) }) p covered))
  where
    none : within (length held) (length held) p ≡ true → ⊥
    none c = let a = within_low (length held) (length held) p c in let b = within_high (length held) (length held) p c in omega (arith, a, b)

pub rebased_here : (at : Usn) (ws : List Written) (held : List (Option ℕ)) → IsWrittenHere ws held → IsWrittenHere (later_than at ws) held
rebased_here at ws held h p low covered = h p low (fewer_cover at ws p covered)

pub none_here : (held : List (Option ℕ)) → IsWrittenHere [] held
none_here held p low covered = absurd (true≢false (sym covered))

pub all_here : (ws : List Written) (held : List (Option ℕ)) → list_all is_some held ≡ true → IsWrittenHere ws held
all_here ws held all p low covered = by held p all low
  where
    by : (hs : List (Option ℕ)) (q : ℕ) → list_all is_some hs ≡ true → q < length hs → is_held hs q ≡ true
    by [] q a l = absurd (omega (arith, l))
    by (x ∷ hs) zero a l = (and_parts (is_some x) (list_all is_some hs) a).0
    by (x ∷ hs) (suc q) a l = by hs q (and_parts (is_some x) (list_all is_some hs) a).1 (omega (arith, l))

-- bytes that come

front_length : (bs : List ℕ) (held : List (Option ℕ)) → length (filled_front bs held) ≡ length held
front_length [] held = refl
front_length (b ∷ bs) [] = refl
front_length (b ∷ bs) (h ∷ hs) = ap suc (front_length bs hs)

pub filled_length : (start : ℕ) (bs : List ℕ) (held : List (Option ℕ)) → length (filled start bs held) ≡ length held
filled_length zero bs held = front_length bs held
filled_length (suc n) bs [] = front_length bs []
filled_length (suc n) bs (h ∷ hs) = ap suc (filled_length n bs hs)

front_held : (bs : List ℕ) (held : List (Option ℕ)) (p : ℕ) → is_held held p ≡ true → is_held (filled_front bs held) p ≡ true
front_held [] held p h = h
front_held (b ∷ bs) [] p h = absurd (true≢false (sym h))
front_held (b ∷ bs) (x ∷ hs) (suc p) h = front_held bs hs p h
front_held (b ∷ bs) (x ∷ hs) zero h = by x h
  where
    by : (y : Option ℕ) → is_some y ≡ true → is_some (cond (is_some y) y (Some b)) ≡ true
    by None k = refl
    by (Some z) k = refl

filled_held : (start : ℕ) (bs : List ℕ) (held : List (Option ℕ)) (p : ℕ) → is_held held p ≡ true → is_held (filled start bs held) p ≡ true
filled_held zero bs held p h = front_held bs held p h
filled_held (suc n) bs [] p h = absurd (true≢false (sym h))
filled_held (suc n) bs (x ∷ hs) zero h = h
filled_held (suc n) bs (x ∷ hs) (suc p) h = filled_held n bs hs p h

pub got_here : (start : ℕ) (bytes : List ℕ) (ws : List Written) (held : List (Option ℕ)) → IsWrittenHere ws held → IsWrittenHere ws (filled start bytes held)
got_here start bytes ws held h p low covered = filled_held start bytes held p (h p (omega (arith, low, filled_length start bytes held)) covered)

-- bytes that leave

pub emptied_length : (leaves : ℕ → Bool) (at : ℕ) (held : List (Option ℕ)) → length (by_place (λ p h. cond (leaves p) None h) at held) ≡ length held
emptied_length leaves at [] = refl
emptied_length leaves at (h ∷ hs) = ap suc (emptied_length leaves (at + 1) hs)

emptied_held : (leaves : ℕ → Bool) (at : ℕ) (held : List (Option ℕ)) (p q : ℕ) → q ≡ at + p → leaves q ≡ false → is_held (by_place (λ p h. cond (leaves p) None h) at held) p ≡ is_held held p
emptied_held leaves at [] p q e stays = refl
emptied_held leaves at (h ∷ hs) zero q e stays = ap (λ (b : Bool). is_some (cond b None h)) (ap leaves (omega (arith, e)) ∙ stays)
emptied_held leaves at (h ∷ hs) (suc p) q e stays = emptied_held leaves (at + 1) hs p q (omega (arith, e)) stays

pub left_here : (start len : ℕ) (ws : List Written) (held : List (Option ℕ)) → IsWrittenHere ws held → IsWrittenHere ws (emptied (leaves_at start len ws) held)
left_here start len ws held h p low covered =
    emptied_held (leaves_at start len ws) 0 held p p (omega arith) (ap (λ (b : Bool). within start (start + len) p && not b) covered ∙ neither (within start (start + len) p))
    ∙ h p (omega (arith, low, emptied_length (leaves_at start len ws) 0 held)) covered
  where
    neither : (b : Bool) → (b && false) ≡ false
    neither true = refl
    neither false = refl
