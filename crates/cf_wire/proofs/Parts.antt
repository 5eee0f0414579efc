-- The fields of frames are read exactly.
use Rattle.std.proofs.Common.{◌≡◌, ℕ, ◌+◌, ◌-◌, ◌<◌, ◌≤◌, ◌^◌, Bool, true, false, cond, List, [], ◌∷◌, ◌++◌, length, take, drop, Ok, Err, inl, inr, refl, sym, ap, ◌∙◌, subst, arith, length-append, ltb}
use Rattle.std.proofs.lemmas.Bool.{le-ltb, ltb-false, ltb-true}
use Rattle.std.proofs.lemmas.List.{drop_at, length-take, nil_from_length, take-append-drop, take_at}
use Rattle.std.proofs.lemmas.Nat.{be_bytes_4, be_bytes_8, from_be_bytes-to_be_bytes_4, from_be_bytes-to_be_bytes_8}
use Rattle.std.specs.Int.{w32, w64, from_be_bytes}
use Rattle.cf_base.specs.declared.ids.Key.{Key}
use Rattle.cf_codec.specs.Left.{Left, Takes}
use Rattle.cf_codec.specs.declared.failures.CodecError.TheVariants.{BadField, Short}
use Rattle.cf_model.specs.Books.{key_bytes}
use Rattle.cf_model.specs.Frames.{blob_bytes, name_bytes}
use Rattle.cf_model.specs.Words.{in_bytes}
use Rattle.cf_wire.specs.Faults.{Begins, total}
use Rattle.cf_wire.specs.Reading.{◌>>=◌, Step, blob_at, byte_at, bytes_at, eight_at, first_of, four_at, key_at, name_at, rest_of}
use Rattle.cf_wire.specs.Spelled.{FitsBlob, FitsKey, FitsName, IsBytes}
use Rattle.cf_wire.proofs.Bytes.{IsBytes-append, IsBytes-before, IsBytes-cons, IsBytes-in_bytes, IsBytes-nil, eight_bytes, four_bytes, some_bytes}
use Rattle.cf_wire.proofs.Exact.{Breaks, IsExact, Took, Within, bind_err, bind_ok, both_exact, left, ok_is}

-- a value made of what was read

module _ {X Z : Type 0} (s w : X → List ℕ) (F : X → Type 0) (P : Left → Step X) (make : X → Z) (A : IsExact s w F (λ x. x) P) where
  abbrev made_read : Left → Step Z
  made_read l = P l >>= λ r. Ok (make r.0, r.1)

  made_again : (x : X) (place : ℕ) (rest : List ℕ) → F x → made_read (left place (s x ++ rest)) ≡ Ok (make x, left (place + length (s x)) rest)
  made_again x place rest f = rw (A.again x place rest f) refl

  made_takes : (l m : Left) (z : Z) → IsBytes l.rest → made_read l ≡ Ok (z, m) → Took s F make l m z
  made_takes l m z bytes e =
      let b = bind_ok (P l) (λ r. Ok (make r.0, r.1)) (z, m) e in
      let a = A.takes l b.0.1 b.0.0 bytes b.1 in
      let p = ok_is (make b.0.0, b.0.1) (z, m) b.2 in
      let here : make b.0.0 ≡ z = ap (λ (r : Z × Left). r.0) p in
      let after : b.0.1 ≡ m = ap (λ (r : Z × Left). r.1) p in
      record { value = a.value; made = sym here ∙ ap make a.made; fits = a.fits; takes = subst (λ (n : Left). Takes (s a.value) l n) after a.takes }

  made_short : (l : Left) (p : ℕ) → IsBytes l.rest → made_read l ≡ Err (Short p) → Within s w F l p
  made_short l p bytes e = elim (bind_err (P l) (λ r. Ok (make r.0, r.1)) (Short p) e) [ inl h ↦ A.short l p bytes h | inr h ↦ absurd (let z = h.2 in cc) ]

  made_bad : (l : Left) (p : ℕ) → IsBytes l.rest → made_read l ≡ Err (BadField p) → Breaks s F made_read l p
  made_bad l p bytes e = elim (bind_err (P l) (λ r. Ok (make r.0, r.1)) (BadField p) e) [
    | inl h ↦ (let a = A.bad l p bytes h in record {
      front = a.front;
      byte = a.byte;
      after = a.after;
      parts = a.parts;
      place = a.place;
      value = a.value;
      fits = a.fits;
      more = a.more;
      good = a.good;
      stays = λ other. rw (a.stays other) refl;
    })
    | inr h ↦ absurd (let z = h.2 in cc)
  ]

  pub made_exact : IsExact s w F make made_read
  made_exact = record { some = A.some; sized = A.sized; again = made_again; takes = made_takes; short = made_short; bad = made_bad }

-- the same values in another form

module _ {X Y Z : Type 0} (s w : X → List ℕ) (F : X → Type 0) (make : X → Z) (P : Left → Step Z) (t v : Y → List ℕ) (G : Y → Type 0) (make' : Y → Z) (A : IsExact s w F make P)
    (form : X → Y) (spelled : (x : X) → F x → s x ≡ t (form x)) (wide : (x : X) → F x → w x ≡ v (form x)) (made : (x : X) → F x → make x ≡ make' (form x)) (fit : (x : X) → F x → G (form x))
    (back : (y : Y) → G y → (x : X) × (F x) × (form x ≡ y)) where
  form_again : (y : Y) (place : ℕ) (rest : List ℕ) → G y → P (left place (t y ++ rest)) ≡ Ok (make' y, left (place + length (t y)) rest)
  form_again y place rest g =
      let b = back y g in
      let e : s b.0 ≡ t y = spelled b.0 b.1 ∙ ap t b.2 in
      let m : make b.0 ≡ make' y = made b.0 b.1 ∙ ap make' b.2 in
      ap (λ (x : List ℕ). P (left place (x ++ rest))) (sym e) ∙ A.again b.0 place rest b.1 ∙ ap (λ (x : List ℕ). Ok (make b.0, left (place + length x) rest)) e ∙ ap (λ (z : Z). Ok (z, left (place + length (t y)) rest)) m

  form_takes : (l m : Left) (z : Z) → IsBytes l.rest → P l ≡ Ok (z, m) → Took t G make' l m z
  form_takes l m z bytes e =
      let a = A.takes l m z bytes e in
      let x = a.value in
      record { value = form x; made = a.made ∙ made x a.fits; fits = fit x a.fits; takes = subst (λ (y : List ℕ). Takes y l m) (spelled x a.fits) a.takes }

  form_short : (l : Left) (p : ℕ) → IsBytes l.rest → P l ≡ Err (Short p) → Within t v G l p
  form_short l p bytes e =
      let a = A.short l p bytes e in
      let x = a.value in
      record {
        value = form x;
        fits = fit x a.fits;
        more = a.more;
        front = sym (spelled x a.fits) ∙ a.front;
        width = a.width;
        before = a.before;
        begins = subst (Begins a.before a.width) (wide x a.fits) a.begins;
        place = a.place;
        reaches = a.reaches;
        lacks = a.lacks;
      }

  form_bad : (l : Left) (p : ℕ) → IsBytes l.rest → P l ≡ Err (BadField p) → Breaks t G P l p
  form_bad l p bytes e =
      let a = A.bad l p bytes e in
      let x = a.value in
      record {
        front = a.front;
        byte = a.byte;
        after = a.after;
        parts = a.parts;
        place = a.place;
        value = form x;
        fits = fit x a.fits;
        more = a.more;
        good = sym (spelled x a.fits) ∙ a.good;
        stays = a.stays;
      }

  form_sized : (y : Y) → G y → total (v y) ≡ length (t y)
  form_sized y g = let b = back y g in subst (λ (z : Y). total (v z) ≡ length (t z)) b.2 (ap total (sym (wide b.0 b.1)) ∙ A.sized b.0 b.1 ∙ ap length (spelled b.0 b.1))

  pub form_exact : IsExact t v G make' P
  form_exact =
      let x = A.some in
      record { some = (form x.0, fit x.0 x.1); sized = form_sized; again = form_again; takes = form_takes; short = form_short; bad = form_bad }

-- n bytes

abbrev fits_bytes : ℕ → List ℕ → Type 0
fits_bytes n bs = (length bs ≡ n) × IsBytes bs

abbrev same_bytes : List ℕ → List ℕ
same_bytes bs = bs

abbrev one_width : List ℕ → List ℕ
one_width bs = length bs ∷ []

bytes_again : (n : ℕ) (bs : List ℕ) (place : ℕ) (rest : List ℕ) → fits_bytes n bs → bytes_at n (left place (bs ++ rest)) ≡ Ok (bs, left (place + length bs) rest)
unfolding bytes_at
bytes_again n bs place rest f =
    let long : ltb (length (bs ++ rest)) n ≡ false = le-ltb _ _ (omega (arith, f.0, length-append bs rest)) in
    rw (long, take_at bs rest n f.0, drop_at bs rest n f.0, f.0) refl

guarded : {A : Type 0} (b : Bool) (p : ℕ) (x y : A) → cond b (Err (Short p)) (Ok x) ≡ Ok y → (b ≡ false) × (x ≡ y)
guarded true p x y e = absurd cc
guarded false p x y e = (refl, cc)

stopped : {A : Type 0} (b : Bool) (p q : ℕ) (x : A) → cond b (Err (Short p)) (Ok x) ≡ Err (Short q) → (b ≡ true) × (p ≡ q)
stopped true p q x e = (refl, cc)
stopped false p q x e = absurd cc

never_bad : {A : Type 0} (b : Bool) (p q : ℕ) (x : A) → cond b (Err (Short p)) (Ok x) ≡ Err (BadField q) → ⊥
never_bad true p q x e = cc
never_bad false p q x e = cc

bytes_takes : (n : ℕ) (l m : Left) (z : List ℕ) → IsBytes l.rest → bytes_at n l ≡ Ok (z, m) → Took same_bytes (fits_bytes n) (λ x. x) l m z
unfolding bytes_at
bytes_takes n l m z bytes e =
    let g = guarded (ltb (length l.rest) n) l.place (take n l.rest, rest_of n l) (z, m) e in
    let long : n ≤ length l.rest = ltb-false _ _ g.0 in
    let size : length (take n l.rest) ≡ n = omega (arith, length-take n l.rest) in
    let whole : l.rest ≡ take n l.rest ++ drop n l.rest = sym (take-append-drop n l.rest) in
    let before : IsBytes (take n l.rest) = IsBytes-before (take n l.rest) (drop n l.rest) (subst IsBytes whole bytes) in
    let here : take n l.rest ≡ z = ap (λ (r : List ℕ × Left). r.0) g.1 in
    let after : rest_of n l ≡ m = ap (λ (r : List ℕ × Left). r.1) g.1 in
    let t : Took same_bytes (fits_bytes n) (λ x. x) l (rest_of n l) (take n l.rest) =
    record { value = take n l.rest; made = refl; fits = (size, before); takes = record { parts = whole; place = ap (λ (k : ℕ). l.place + k) (sym size) } } in
    subst (λ (y : Left). Took same_bytes (fits_bytes n) (λ x. x) l y z) after (subst (λ (y : List ℕ). Took same_bytes (fits_bytes n) (λ x. x) l (rest_of n l) y) here t)

bytes_short : (n : ℕ) (l : Left) (p : ℕ) → IsBytes l.rest → bytes_at n l ≡ Err (Short p) → Within same_bytes one_width (fits_bytes n) l p
unfolding bytes_at
bytes_short n l p bytes e =
    let g = stopped (ltb (length l.rest) n) l.place p (take n l.rest, rest_of n l) e in
    let lack : length l.rest < n = ltb-true _ _ g.0 in
    let more = some_bytes (n - length l.rest) in
    let size : length (l.rest ++ more.0) ≡ n = omega (arith, length-append l.rest more.0, more.1) in
    record {
      value = l.rest ++ more.0;
      fits = (size, IsBytes-append l.rest more.0 bytes more.2);
      more = more.0;
      front = refl;
      width = n;
      before = 0;
      begins = ([], [], ap (λ (k : ℕ). k ∷ []) size, refl);
      place = omega (arith, g.1);
      reaches = omega arith;
      lacks = omega arith;
    }

pub bytes_exact : (n : ℕ) → IsExact same_bytes one_width (fits_bytes n) (λ x. x) (bytes_at n)
unfolding bytes_at
bytes_exact n = record {
  some = let b = some_bytes n in (b.0, (b.1, b.2));
  sized = λ bs f. omega arith;
  again = bytes_again n;
  takes = bytes_takes n;
  short = bytes_short n;
  bad = λ l p bytes e. absurd (never_bad (ltb (length l.rest) n) l.place p (take n l.rest, rest_of n l) e);
}

-- numbers

abbrev pub wide_1 : ℕ → List ℕ
wide_1 n = 1 ∷ []

abbrev pub spell_1 : ℕ → List ℕ
spell_1 b = b ∷ []

byte_of : (bs : List ℕ) → fits_bytes 1 bs → (bs ≡ first_of bs ∷ []) × (first_of bs < 256)
byte_of [] f = absurd (omega (arith, f.0))
byte_of (b ∷ []) f = (refl, f.1 0)
byte_of (b ∷ c ∷ bs) f = absurd (omega (arith, f.0))

pub byte_exact : IsExact spell_1 wide_1 (λ b. b < 256) (λ b. b) byte_at
unfolding byte_at
byte_exact = form_exact same_bytes one_width (fits_bytes 1) first_of (λ l. bytes_at 1 l >>= λ b. Ok (first_of b.0, b.1)) spell_1 wide_1 (λ b. b < 256) (λ b. b)
    (made_exact same_bytes one_width (fits_bytes 1) (bytes_at 1) first_of (bytes_exact 1))
    first_of (λ bs f. (byte_of bs f).0) (λ bs f. ap (λ (k : ℕ). k ∷ []) f.0) (λ bs f. refl) (λ bs f. (byte_of bs f).1)
    (λ b small. (b ∷ [], (refl, IsBytes-cons b [] small IsBytes-nil), refl))

abbrev pub wide_4 : ℕ → List ℕ
wide_4 n = 4 ∷ []

four_of : (bs : List ℕ) → fits_bytes 4 bs → bs ≡ in_bytes 4 (from_be_bytes w32 bs)
four_of bs f = sym (be_bytes_4 bs (from_be_bytes w32 bs) f.0 f.1 refl) ∙ four_bytes (from_be_bytes w32 bs)

four_small : (bs : List ℕ) → fits_bytes 4 bs → from_be_bytes w32 bs < 2 ^ 32
four_small bs f = omega (arith, f.1 0, f.1 1, f.1 2, f.1 3)

pub four_exact : IsExact (in_bytes 4) wide_4 (λ n. n < 2 ^ 32) (λ n. n) four_at
unfolding four_at
four_exact = form_exact same_bytes one_width (fits_bytes 4) (from_be_bytes w32) (λ l. bytes_at 4 l >>= λ b. Ok (from_be_bytes w32 b.0, b.1)) (in_bytes 4) wide_4 (λ n. n < 2 ^ 32) (λ n. n)
    (made_exact same_bytes one_width (fits_bytes 4) (bytes_at 4) (from_be_bytes w32) (bytes_exact 4))
    (from_be_bytes w32) four_of (λ bs f. ap (λ (k : ℕ). k ∷ []) f.0) (λ bs f. refl) four_small
    (λ n small. (in_bytes 4 n, (refl, IsBytes-in_bytes 4 n), ap (from_be_bytes w32) (sym (four_bytes n)) ∙ from_be_bytes-to_be_bytes_4 n small))

abbrev pub wide_8 : ℕ → List ℕ
wide_8 n = 8 ∷ []

eight_of : (bs : List ℕ) → fits_bytes 8 bs → bs ≡ in_bytes 8 (from_be_bytes w64 bs)
eight_of bs f = sym (be_bytes_8 bs (from_be_bytes w64 bs) f.0 f.1 refl) ∙ eight_bytes (from_be_bytes w64 bs)

eight_small : (bs : List ℕ) → fits_bytes 8 bs → from_be_bytes w64 bs < 2 ^ 64
eight_small bs f = omega (arith, f.1 0, f.1 1, f.1 2, f.1 3, f.1 4, f.1 5, f.1 6, f.1 7)

pub eight_exact : IsExact (in_bytes 8) wide_8 (λ n. n < 2 ^ 64) (λ n. n) eight_at
unfolding eight_at
eight_exact = form_exact same_bytes one_width (fits_bytes 8) (from_be_bytes w64) (λ l. bytes_at 8 l >>= λ b. Ok (from_be_bytes w64 b.0, b.1)) (in_bytes 8) wide_8 (λ n. n < 2 ^ 64) (λ n. n)
    (made_exact same_bytes one_width (fits_bytes 8) (bytes_at 8) (from_be_bytes w64) (bytes_exact 8))
    (from_be_bytes w64) eight_of (λ bs f. ap (λ (k : ℕ). k ∷ []) f.0) (λ bs f. refl) eight_small
    (λ n small. (in_bytes 8 n, (refl, IsBytes-in_bytes 8 n), ap (from_be_bytes w64) (sym (eight_bytes n)) ∙ from_be_bytes-to_be_bytes_8 n small))

-- keys

abbrev pub wide_key : Key → List ℕ
wide_key k = 4 ∷ 4 ∷ []

abbrev key_of : ℕ × ℕ → Key
key_of p = record { epoch = p.0; number = p.1 }

pub key_exact : IsExact key_bytes wide_key FitsKey (λ k. k) key_at
unfolding key_at
key_exact = form_exact _ _ _ _ _ key_bytes wide_key FitsKey (λ k. k)
    (both_exact (in_bytes 4) wide_4 (λ n. n < 2 ^ 32) four_at (λ m n. in_bytes 4 n) (λ m n. wide_4 n) (λ m n. n < 2 ^ 32) (λ m n. key_of (m, n)) (λ m l. four_at l >>= λ r. Ok (key_of (m, r.0), r.1))
    four_exact (λ m f. made_exact (in_bytes 4) wide_4 (λ n. n < 2 ^ 32) four_at (λ n. key_of (m, n)) four_exact))
    key_of (λ p f. refl) (λ p f. refl) (λ p f. refl) (λ p f. f) (λ k f. ((k.epoch, k.number), f, refl))

-- texts

abbrev pub wide_name : List ℕ → List ℕ
wide_name name = 1 ∷ length name ∷ []

pub name_exact : IsExact name_bytes wide_name FitsName (λ n. n) name_at
unfolding name_at
name_exact = form_exact _ _ _ _ _ name_bytes wide_name FitsName (λ n. n)
    (both_exact spell_1 wide_1 (λ b. b < 256) byte_at (λ n. same_bytes) (λ n. one_width) fits_bytes (λ n bs. bs) bytes_at byte_exact (λ n f. bytes_exact n))
    (λ p. p.1) (λ p f. ap (λ (k : ℕ). k ∷ p.1) (sym f.1.0)) (λ p f. refl) (λ p f. refl) (λ p f. (omega (arith, f.0, f.1.0), f.1.1))
    (λ bs f. ((length bs, bs), (f.0, (refl, f.1)), refl))

abbrev pub wide_blob : List ℕ → List ℕ
wide_blob bytes = 4 ∷ length bytes ∷ []

pub blob_exact : IsExact blob_bytes wide_blob FitsBlob (λ b. b) blob_at
unfolding blob_at
blob_exact = form_exact _ _ _ _ _ blob_bytes wide_blob FitsBlob (λ b. b)
    (both_exact (in_bytes 4) wide_4 (λ n. n < 2 ^ 32) four_at (λ n. same_bytes) (λ n. one_width) fits_bytes (λ n bs. bs) bytes_at four_exact (λ n f. bytes_exact n))
    (λ p. p.1) (λ p f. ap (λ (k : ℕ). in_bytes 4 k ++ p.1) (sym f.1.0)) (λ p f. refl) (λ p f. refl) (λ p f. (omega (arith, f.0, f.1.0), f.1.1))
    (λ bs f. ((length bs, bs), (f.0, (refl, f.1)), refl))

-- where no byte is left
pub byte_missing : (l : Left) (p : ℕ) → byte_at l ≡ Err (Short p) → (l.rest ≡ []) × (p ≡ l.place)
unfolding byte_at bytes_at
byte_missing l p e = elim (bind_err (bytes_at 1 l) (λ b. Ok (first_of b.0, b.1)) (Short p) e) [
  | inl h ↦ (let g = stopped (ltb (length l.rest) 1) l.place p (take 1 l.rest, rest_of 1 l) h in (nil_from_length l.rest (omega (arith, ltb-true _ _ g.0)), sym g.1))
  | inr h ↦ absurd (let z = h.2 in cc)
]

pub byte_never_bad : (l : Left) (p : ℕ) → byte_at l ≡ Err (BadField p) → ⊥
unfolding byte_at bytes_at
byte_never_bad l p e = elim (bind_err (bytes_at 1 l) (λ b. Ok (first_of b.0, b.1)) (BadField p) e) [
  | inl h ↦ never_bad (ltb (length l.rest) 1) l.place p (take 1 l.rest, rest_of 1 l) h
  | inr h ↦ (let z = h.2 in cc)
]

-- a field, and then more, or nothing more

pub then_key : {Y Z : Type 0} {t v : Key → Y → List ℕ} {G : Key → Y → Type 0} {make : Key → Y → Z} {K : Key → Left → Step Z} → ((x : Key) → FitsKey x → IsExact (t x) (v x) (G x) (make x) (K x))
    → IsExact (λ (p : Key × Y). key_bytes p.0 ++ t p.0 p.1) (λ p. wide_key p.0 ++ v p.0 p.1) (λ p. FitsKey p.0 × G p.0 p.1) (λ p. make p.0 p.1) (λ l. key_at l >>= λ r. K r.0 r.1)
then_key next = both_exact (key_bytes) (wide_key) (λ x. FitsKey x) key_at _ _ _ _ _ key_exact next

pub last_key : {Z : Type 0} (make : Key → Z) → IsExact (key_bytes) (wide_key) (λ x. FitsKey x) make (λ l. key_at l >>= λ r. Ok (make r.0, r.1))
last_key make = made_exact (key_bytes) (wide_key) (λ x. FitsKey x) key_at make key_exact

pub then_eight : {Y Z : Type 0} {t v : ℕ → Y → List ℕ} {G : ℕ → Y → Type 0} {make : ℕ → Y → Z} {K : ℕ → Left → Step Z} → ((x : ℕ) → (x < 2 ^ 64) → IsExact (t x) (v x) (G x) (make x) (K x))
    → IsExact (λ (p : ℕ × Y). in_bytes 8 p.0 ++ t p.0 p.1) (λ p. wide_8 p.0 ++ v p.0 p.1) (λ p. (p.0 < 2 ^ 64) × G p.0 p.1) (λ p. make p.0 p.1) (λ l. eight_at l >>= λ r. K r.0 r.1)
then_eight next = both_exact (in_bytes 8) (wide_8) (λ x. (x < 2 ^ 64)) eight_at _ _ _ _ _ eight_exact next

pub last_eight : {Z : Type 0} (make : ℕ → Z) → IsExact (in_bytes 8) (wide_8) (λ x. (x < 2 ^ 64)) make (λ l. eight_at l >>= λ r. Ok (make r.0, r.1))
last_eight make = made_exact (in_bytes 8) (wide_8) (λ x. (x < 2 ^ 64)) eight_at make eight_exact

pub then_four : {Y Z : Type 0} {t v : ℕ → Y → List ℕ} {G : ℕ → Y → Type 0} {make : ℕ → Y → Z} {K : ℕ → Left → Step Z} → ((x : ℕ) → (x < 2 ^ 32) → IsExact (t x) (v x) (G x) (make x) (K x))
    → IsExact (λ (p : ℕ × Y). in_bytes 4 p.0 ++ t p.0 p.1) (λ p. wide_4 p.0 ++ v p.0 p.1) (λ p. (p.0 < 2 ^ 32) × G p.0 p.1) (λ p. make p.0 p.1) (λ l. four_at l >>= λ r. K r.0 r.1)
then_four next = both_exact (in_bytes 4) (wide_4) (λ x. (x < 2 ^ 32)) four_at _ _ _ _ _ four_exact next

pub last_four : {Z : Type 0} (make : ℕ → Z) → IsExact (in_bytes 4) (wide_4) (λ x. (x < 2 ^ 32)) make (λ l. four_at l >>= λ r. Ok (make r.0, r.1))
last_four make = made_exact (in_bytes 4) (wide_4) (λ x. (x < 2 ^ 32)) four_at make four_exact

pub then_name : {Y Z : Type 0} {t v : List ℕ → Y → List ℕ} {G : List ℕ → Y → Type 0} {make : List ℕ → Y → Z} {K : List ℕ → Left → Step Z} → ((x : List ℕ) → FitsName x → IsExact (t x) (v x) (G x) (make x) (K x))
    → IsExact (λ (p : List ℕ × Y). name_bytes p.0 ++ t p.0 p.1) (λ p. wide_name p.0 ++ v p.0 p.1) (λ p. FitsName p.0 × G p.0 p.1) (λ p. make p.0 p.1) (λ l. name_at l >>= λ r. K r.0 r.1)
then_name next = both_exact (name_bytes) (wide_name) (λ x. FitsName x) name_at _ _ _ _ _ name_exact next

pub last_name : {Z : Type 0} (make : List ℕ → Z) → IsExact (name_bytes) (wide_name) (λ x. FitsName x) make (λ l. name_at l >>= λ r. Ok (make r.0, r.1))
last_name make = made_exact (name_bytes) (wide_name) (λ x. FitsName x) name_at make name_exact

pub then_blob : {Y Z : Type 0} {t v : List ℕ → Y → List ℕ} {G : List ℕ → Y → Type 0} {make : List ℕ → Y → Z} {K : List ℕ → Left → Step Z} → ((x : List ℕ) → FitsBlob x → IsExact (t x) (v x) (G x) (make x) (K x))
    → IsExact (λ (p : List ℕ × Y). blob_bytes p.0 ++ t p.0 p.1) (λ p. wide_blob p.0 ++ v p.0 p.1) (λ p. FitsBlob p.0 × G p.0 p.1) (λ p. make p.0 p.1) (λ l. blob_at l >>= λ r. K r.0 r.1)
then_blob next = both_exact (blob_bytes) (wide_blob) (λ x. FitsBlob x) blob_at _ _ _ _ _ blob_exact next

pub last_blob : {Z : Type 0} (make : List ℕ → Z) → IsExact (blob_bytes) (wide_blob) (λ x. FitsBlob x) make (λ l. blob_at l >>= λ r. Ok (make r.0, r.1))
last_blob make = made_exact (blob_bytes) (wide_blob) (λ x. FitsBlob x) blob_at make blob_exact
