-- What each change makes of a sound item is sound.
use Rattle.std.proofs.Common.{◌≡◌, ℕ, zero, suc, ◌+◌, ◌-◌, ◌<◌, ◌≤◌, Bool, true, false, ◌&&◌, ◌||◌, cond, List, [], ◌∷◌, ◌++◌, length, min, refl, sym, ◌∙◌, subst, arith, inl, inr, Option, Some, None, is_some}
use Rattle.std.specs.Prelude.{map, not}
use Rattle.std.proofs.lemmas.Bool.{cases_lt, lt-ltb, le-leb}
use Rattle.std.proofs.lemmas.Bool.Decides.{nat_tests}
use Rattle.cf_base.specs.declared.ids.Usn.{Usn}
use Rattle.cf_model.specs.Effects.{filled, filled_front, got, leaves_at, left_out, sized, validated, validated_in, wrote}
use Rattle.cf_model.specs.Items.{Item, base_of, is_held, size_of}
use Rattle.cf_model.specs.Numbers.{above, is_no_usn}
use Rattle.cf_model.specs.Overlay.{Put, Resize, Written, covers, is_covered, padded, patched, resized}
use Rattle.cf_model.specs.Soundness.{AreUpTo, IsBare, IsLater, IsPlain, IsSound}
use Rattle.cf_model.specs.Words.{by_place, passes_at, within}
use Rattle.cf_model.proofs.Places.{length_padded, length_patched, length_resized, passes_front, passes_padded_new, passes_past, passes_patched_after, passes_patched_before, passes_patched_new, passes_resized_new, passes_resized_old}

-- numbers

pub above-refl : (n : Usn) → above n n ≡ false
above-refl n = grind (arith, nat_tests)

pub above-trans : (a b c : Usn) → above a b ≡ false → above b c ≡ false → above a c ≡ false
above-trans a b c h k = grind (arith, nat_tests, h, k)

pub upto-later : (m n : Usn) (ws : List Written) → above m n ≡ false → AreUpTo m ws → AreUpTo n ws
upto-later m n [] h u = tt
upto-later m n (w ∷ ws) h u = (above-trans w.number m n u.0 h, u.1, upto-later m n ws h u.2)

pub upto-more : (n : Usn) (ws : List Written) (w : Written) → above w.number n ≡ false → is_no_usn w.number ≡ false → AreUpTo n ws → AreUpTo n (ws ++ w ∷ [])
upto-more n [] w h k u = (h, k, tt)
upto-more n (v ∷ ws) w h k u = (u.0, u.1, upto-more n ws w h k u.2)

-- covers

pub covered-more : (ws vs : List Written) (p : ℕ) → is_covered ws p ≡ true → is_covered (ws ++ vs) p ≡ true
covered-more [] vs p h = cc
covered-more (w ∷ ws) vs p h = by (covers w p) h (covered-more ws vs p) where
  by : (b : Bool) → (b || is_covered ws p) ≡ true → (is_covered ws p ≡ true → is_covered (ws ++ vs) p ≡ true) → (b || is_covered (ws ++ vs) p) ≡ true
  by true h k = refl
  by false h k = k h

covered-last : (ws : List Written) (w : Written) (p : ℕ) → covers w p ≡ true → is_covered (ws ++ w ∷ []) p ≡ true
covered-last [] w p h = rw h refl
covered-last (v ∷ ws) w p h = by (covers v p) (covered-last ws w p h) where
  by : (b : Bool) → is_covered (ws ++ w ∷ []) p ≡ true → (b || is_covered (ws ++ w ∷ []) p) ≡ true
  by true h = refl
  by false h = h

pub in-span : (start end p : ℕ) → start ≤ p → p < end → within start end p ≡ true
in-span start end p h k = rw (le-leb start p h, lt-ltb p end k) refl

-- Write

length-some : (bs : List ℕ) → length {A = Option ℕ} (map Some bs) ≡ length bs
length-some [] = refl
length-some (b ∷ bs) = λ i. suc (length-some bs i)

all-some : (bs : List ℕ) (q : ℕ) → q < length bs → passes_at is_some (map Some bs) q ≡ true
all-some [] q h = absurd (omega arith)
all-some (b ∷ bs) zero h = refl
all-some (b ∷ bs) (suc q) h = all-some bs q (omega arith)

held-patched : (at : ℕ) (bytes : List ℕ) (held : List (Option ℕ)) (p : ℕ) → p < length held → is_held held p ≡ true → is_held (patched (Some 0) at (map Some bytes) held) p ≡ true
held-patched at bytes held p l h = elim (cases_lt p at) [
  | inl a ↦ passes_patched_before is_some (Some 0) at (map Some bytes) held p a l ∙ h
  | inr a ↦ elim (cases_lt p (at + length bytes)) [
    | inl b ↦ passes_patched_new is_some (Some 0) at (map Some bytes) held p (p - at) (omega (arith, a)) (omega (arith, a, b, length-some bytes)) ∙ all-some bytes (p - at) (omega (arith, a, b))
    | inr b ↦ passes_patched_after is_some (Some 0) at (map Some bytes) held p (omega (arith, b, length-some bytes)) ∙ h
  ]
]

held-in : (held : List (Option ℕ)) (p : ℕ) → is_held held p ≡ true → p < length held
held-in [] p h = cc
held-in (x ∷ held) zero h = omega arith
held-in (x ∷ held) (suc p) h = let l : p < length held = held-in held p h in omega (arith, l)

flag-in : (flags : List Bool) (p : ℕ) → passes_at (λ b. b) flags p ≡ true → p < length flags
flag-in [] p h = cc
flag-in (x ∷ flags) zero h = omega arith
flag-in (x ∷ flags) (suc p) h = let l : p < length flags = flag-in flags p h in omega (arith, l)

-- a flag that padding leaves set was set before
flag-padded : (n : ℕ) (flags : List Bool) (p : ℕ) → passes_at (λ b. b) (padded false n flags) p ≡ true → passes_at (λ b. b) flags p ≡ true
flag-padded n flags p h = elim (cases_lt p (length flags)) [
  | inl a ↦ sym (passes_front (λ b. b) flags _ p a) ∙ h
  | inr a ↦ elim (cases_lt p n) [
    | inl b ↦ let z : false ≡ true = sym (passes_padded_new (λ b. b) false n flags p a b) ∙ h in cc
    | inr b ↦ let z : false ≡ true = sym (passes_past (λ b. b) (padded false n flags) p (omega (arith, a, b, length_padded (λ (b : Bool). b) false n flags))) ∙ h in cc
  ]
]

pub wrote_sound : (at : ℕ) (bytes : List ℕ) (n : Usn) (i : Item) → IsSound i → IsLater n i → is_no_usn n ≡ false → i.directory ≡ false → IsSound (wrote at bytes n i)
wrote_sound at bytes n i s later given file = record {
  as_long = length_padded (λ (b : Bool). b) false (at + length bytes) i.valid ∙ omega (arith, s.as_long, length_patched is_some (Some 0) at (map Some bytes) i.held, length-some bytes);
  valid = λ p h. held-patched at bytes i.held p (held-in i.held p (s.valid p (flag-padded (at + length bytes) i.valid p h))) (s.valid p (flag-padded (at + length bytes) i.valid p h));
  past_base = λ p h k. past p h k;
  numbers = upto-more n i.writes (record { number = n; before = length i.held; write = Put at bytes }) (above-refl n) given (upto-later i.number n i.writes later s.numbers);
  directory = λ d. let z : true ≡ false = sym d ∙ file in cc;
  file = s.file;
  in_sync = λ e. cc;
  plain = λ e. let q : IsPlain i = s.plain e in (q.0, q.1, refl, q.3);
  kept = s.kept;
} where
  past : (p : ℕ) → base_of i ≤ p → p < size_of (wrote at bytes n i) → is_covered (wrote at bytes n i).writes p ≡ true
  past p h k = elim (cases_lt p (length i.held)) [
    | inl a ↦ covered-more i.writes _ p (s.past_base p h a)
    | inr a ↦ covered-last i.writes (record { number = n; before = length i.held; write = Put at bytes }) p
        (in-span (min at (length i.held)) (at + length bytes) p (omega (arith, a)) (omega (arith, a, k, length_patched is_some (Some 0) at (map Some bytes) i.held, length-some bytes)))
  ]

-- Size

flag-resized : (n : ℕ) (flags : List Bool) (p : ℕ) → passes_at (λ b. b) (resized false n flags) p ≡ true → (p < n) × (passes_at (λ b. b) flags p ≡ true)
flag-resized n flags p h =
    let l : p < n = omega (arith, flag-in (resized false n flags) p h, length_resized (λ (b : Bool). b) false n flags) in
    elim (cases_lt p (length flags)) [
      | inl a ↦ (l, sym (passes_resized_old (λ b. b) false n flags p l a) ∙ h)
      | inr a ↦ let z : false ≡ true = sym (passes_resized_new (λ b. b) false n flags p l a) ∙ h in cc
    ]

pub sized_sound : (size : ℕ) (n : Usn) (i : Item) → IsSound i → IsLater n i → is_no_usn n ≡ false → i.directory ≡ false → IsSound (sized size n i)
sized_sound size n i s later given file = record {
  as_long = length_resized (λ (b : Bool). b) false size i.valid ∙ sym (length_resized is_some (Some 0) size i.held);
  valid = λ p h. let q : (p < size) × (passes_at (λ b. b) i.valid p ≡ true) = flag-resized size i.valid p h in
      passes_resized_old is_some (Some 0) size i.held p q.0 (held-in i.held p (s.valid p q.1)) ∙ s.valid p q.1;
  past_base = λ p h k. past p h k;
  numbers = upto-more n i.writes (record { number = n; before = length i.held; write = Resize size }) (above-refl n) given (upto-later i.number n i.writes later s.numbers);
  directory = λ d. let z : true ≡ false = sym d ∙ file in cc;
  file = s.file;
  in_sync = λ e. cc;
  plain = λ e. let q : IsPlain i = s.plain e in (q.0, q.1, refl, q.3);
  kept = s.kept;
} where
  past : (p : ℕ) → base_of i ≤ p → p < size_of (sized size n i) → is_covered (sized size n i).writes p ≡ true
  past p h k = elim (cases_lt p (length i.held)) [
    | inl a ↦ covered-more i.writes _ p (s.past_base p h a)
    | inr a ↦ covered-last i.writes (record { number = n; before = length i.held; write = Resize size }) p
        (in-span (length i.held) size p a (omega (arith, k, length_resized is_some (Some 0) size i.held)))
  ]

-- Filled

filled_front-length : (bs : List ℕ) (held : List (Option ℕ)) → length (filled_front bs held) ≡ length held
filled_front-length [] held = refl
filled_front-length (b ∷ bs) [] = refl
filled_front-length (b ∷ bs) (h ∷ hs) = λ i. suc (filled_front-length bs hs i)

filled-length : (start : ℕ) (bs : List ℕ) (held : List (Option ℕ)) → length (filled start bs held) ≡ length held
filled-length zero bs held = filled_front-length bs held
filled-length (suc n) bs [] = filled_front-length bs []
filled-length (suc n) bs (h ∷ hs) = λ i. suc (filled-length n bs hs i)

filled_front-held : (bs : List ℕ) (held : List (Option ℕ)) (p : ℕ) → is_held held p ≡ true → is_held (filled_front bs held) p ≡ true
filled_front-held [] held p h = h
filled_front-held (b ∷ bs) [] p h = cc
filled_front-held (b ∷ bs) (x ∷ hs) (suc p) h = filled_front-held bs hs p h
filled_front-held (b ∷ bs) (x ∷ hs) zero h = by x h where
  by : (x : Option ℕ) → is_some x ≡ true → is_some (cond (is_some x) x (Some b)) ≡ true
  by None h = refl
  by (Some y) h = refl

filled-held : (start : ℕ) (bs : List ℕ) (held : List (Option ℕ)) (p : ℕ) → is_held held p ≡ true → is_held (filled start bs held) p ≡ true
filled-held zero bs held p h = filled_front-held bs held p h
filled-held (suc n) bs [] p h = cc
filled-held (suc n) bs (x ∷ hs) zero h = h
filled-held (suc n) bs (x ∷ hs) (suc p) h = filled-held n bs hs p h

filled-none : (start : ℕ) (bs : List ℕ) (held : List (Option ℕ)) → held ≡ [] → filled start bs held ≡ []
filled-none start bs held e = subst (λ (xs : List (Option ℕ)). filled start bs xs ≡ []) (sym e) (by start bs) where
  by : (start : ℕ) (bs : List ℕ) → filled start bs [] ≡ []
  by zero [] = refl
  by zero (b ∷ bs) = refl
  by (suc n) [] = refl
  by (suc n) (b ∷ bs) = refl

pub got_sound : (start : ℕ) (bytes : List ℕ) (i : Item) → IsSound i → IsSound (got start bytes i)
got_sound start bytes i s = record {
  as_long = s.as_long ∙ sym (filled-length start bytes i.held);
  valid = λ p h. filled-held start bytes i.held p (s.valid p h);
  past_base = λ p h k. s.past_base p h (omega (arith, k, filled-length start bytes i.held));
  numbers = s.numbers;
  directory = λ d. let b : IsBare i = s.directory d in (filled-none start bytes i.held b.0, b.1, b.2);
  file = s.file;
  in_sync = s.in_sync;
  plain = s.plain;
  kept = s.kept;
}

-- Validated

validated-length : (start end at : ℕ) (held : List (Option ℕ)) (flags : List Bool) → length flags ≡ length held → length (validated start end at held flags) ≡ length held
validated-length start end at [] flags h = h
validated-length start end at (x ∷ hs) [] h = h
validated-length start end at (x ∷ hs) (b ∷ bs) h = λ i. suc (validated-length start end (at + 1) hs bs (omega (arith, h)) i)

validated-held : (start end at : ℕ) (held : List (Option ℕ)) (flags : List Bool) → ((p : ℕ) → passes_at (λ b. b) flags p ≡ true → is_held held p ≡ true)
    → (p : ℕ) → passes_at (λ b. b) (validated start end at held flags) p ≡ true → is_held held p ≡ true
validated-held start end at [] flags h p k = h p k
validated-held start end at (x ∷ hs) [] h p k = cc
validated-held start end at (x ∷ hs) (b ∷ bs) h (suc p) k = validated-held start end (at + 1) hs bs (λ q. h (suc q)) p k
validated-held start end at (x ∷ hs) (b ∷ bs) h zero k = by b (is_some x) (within start end at) (h zero) k where
  by : (b y w : Bool) → (b ≡ true → y ≡ true) → (b || (w && y)) ≡ true → y ≡ true
  by true y w h k = h refl
  by false true w h k = refl
  by false false true h k = k
  by false false false h k = k

validated-none : (start end : ℕ) (held : List (Option ℕ)) (flags : List Bool) → held ≡ [] → validated start end 0 held flags ≡ flags
validated-none start end held flags e = subst (λ (xs : List (Option ℕ)). validated start end 0 xs flags ≡ flags) (sym e) refl

pub validated_sound : (start len : ℕ) (i : Item) → IsSound i → IsSound (validated_in start len i)
validated_sound start len i s = record {
  as_long = validated-length start (start + len) 0 i.held i.valid s.as_long;
  valid = validated-held start (start + len) 0 i.held i.valid s.valid;
  past_base = s.past_base;
  numbers = s.numbers;
  directory = s.directory;
  file = s.file;
  in_sync = s.in_sync;
  plain = s.plain;
  kept = s.kept;
}

-- Emptied

by_place-length : {A B : Type 0} (f : ℕ → A → B) (at : ℕ) (xs : List A) → length (by_place f at xs) ≡ length xs
by_place-length f at [] = refl
by_place-length f at (x ∷ xs) = λ i. suc (by_place-length f (at + 1) xs i)

left-held : (leaves : ℕ → Bool) (at : ℕ) (held : List (Option ℕ)) (flags : List Bool) → ((p : ℕ) → passes_at (λ b. b) flags p ≡ true → is_held held p ≡ true)
    → (p : ℕ) → passes_at (λ b. b) (by_place (λ q b. not (leaves q) && b) at flags) p ≡ true → passes_at is_some (by_place (λ q h. cond (leaves q) None h) at held) p ≡ true
left-held leaves at held [] h p k = cc
left-held leaves at [] (b ∷ bs) h zero k = by (leaves at) b (h zero) k where
  by : (l b : Bool) → (b ≡ true → false ≡ true) → (not l && b) ≡ true → false ≡ true
  by true b h k = k
  by false b h k = h k
left-held leaves at [] (b ∷ bs) h (suc p) k = left-held leaves (at + 1) [] bs (λ q. h (suc q)) p k
left-held leaves at (x ∷ hs) (b ∷ bs) h (suc p) k = left-held leaves (at + 1) hs bs (λ q. h (suc q)) p k
left-held leaves at (x ∷ hs) (b ∷ bs) h zero k = by (leaves at) b (h zero) k where
  by : (l b : Bool) → (b ≡ true → is_some x ≡ true) → (not l && b) ≡ true → is_some (cond l None x) ≡ true
  by true b h k = k
  by false b h k = h k

left-none : (f : ℕ → Option ℕ → Option ℕ) (held : List (Option ℕ)) → held ≡ [] → by_place f 0 held ≡ []
left-none f held e = subst (λ (xs : List (Option ℕ)). by_place f 0 xs ≡ []) (sym e) refl

pub left_sound : (start len : ℕ) (i : Item) → IsSound i → IsSound (left_out start len i)
left_sound start len i s = record {
  as_long = by_place-length _ 0 i.valid ∙ s.as_long ∙ sym (by_place-length (λ p h. cond (leaves_at start len i.writes p) None h) 0 i.held);
  valid = left-held (leaves_at start len i.writes) 0 i.held i.valid s.valid;
  past_base = λ p h k. s.past_base p h (omega (arith, k, by_place-length (λ (p : ℕ) (h : Option ℕ). cond (leaves_at start len i.writes p) None h) 0 i.held));
  numbers = s.numbers;
  directory = λ d. let b : IsBare i = s.directory d in (left-none _ i.held b.0, b.1, b.2);
  file = s.file;
  in_sync = s.in_sync;
  plain = s.plain;
  kept = s.kept;
}
