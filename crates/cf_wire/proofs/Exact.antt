-- What it means that a part of a frame is read exactly, and how such parts are joined.
use Rattle.std.proofs.Common.{◌≡◌, ℕ, ◌+◌, ◌<◌, ◌≤◌, List, ◌∷◌, ◌++◌, length, Result, Ok, Err, ◌⊎◌, inl, inr, refl, sym, ap, ◌∙◌, subst, arith, append_assoc, length-append}
use Rattle.cf_codec.specs.Left.{Left, Takes}
use Rattle.cf_codec.specs.declared.failures.CodecError.{CodecError}
use Rattle.cf_codec.specs.declared.failures.CodecError.TheVariants.{BadField, Short}
use Rattle.cf_wire.specs.Faults.{Begins, total}
use Rattle.cf_wire.specs.Reading.{◌>>=◌, Step}
use Rattle.cf_wire.specs.Spelled.{IsBytes}
use Rattle.cf_wire.proofs.Bytes.{IsBytes-after, total-append}

abbrev pub left : ℕ → List ℕ → Left
left place rest = record { place = place; rest = rest }

-- what is left is the front of a value's spelling, and ends within the field that begins at p
pub record Within {X : Type 0} (spell widths : X → List ℕ) (Fits : X → Type 0) (l : Left) (p : ℕ) : Type 0 where
  pub value : X
  pub fits : Fits value
  pub more : List ℕ
  pub front : spell value ≡ l.rest ++ more
  pub width : ℕ
  pub before : ℕ
  pub begins : Begins before width (widths value)
  pub place : p ≡ l.place + before
  pub reaches : before ≤ length l.rest
  pub lacks : length l.rest < before + width

-- up to p stands the front of a value's spelling, and the byte there stops the reading, whatever follows
pub record Breaks {X Z : Type 0} (spell : X → List ℕ) (Fits : X → Type 0) (read : Left → Step Z) (l : Left) (p : ℕ) : Type 0 where
  pub front : List ℕ
  pub byte : ℕ
  pub after : List ℕ
  pub parts : l.rest ≡ front ++ byte ∷ after
  pub place : p ≡ l.place + length front
  pub value : X
  pub fits : Fits value
  pub more : List ℕ
  pub good : spell value ≡ front ++ more
  pub stays : (other : List ℕ) → read (left l.place (front ++ byte ∷ other)) ≡ Err (BadField p)

-- what was taken is the spelling of a value
pub record Took {X Z : Type 0} (spell : X → List ℕ) (Fits : X → Type 0) (make : X → Z) (l m : Left) (z : Z) : Type 0 where
  pub value : X
  pub made : z ≡ make value
  pub fits : Fits value
  pub takes : Takes (spell value) l m

-- The reading takes the spellings of the values that fit, and no others, and else names the first fault.
pub record IsExact {X Z : Type 0} (spell widths : X → List ℕ) (Fits : X → Type 0) (make : X → Z) (read : Left → Step Z) : Type 0 where
  pub some : (x : X) × Fits x
  pub sized : (x : X) → Fits x → total (widths x) ≡ length (spell x)
  pub again : (x : X) (place : ℕ) (rest : List ℕ) → Fits x → read (left place (spell x ++ rest)) ≡ Ok (make x, left (place + length (spell x)) rest)
  pub takes : (l m : Left) (z : Z) → IsBytes l.rest → read l ≡ Ok (z, m) → Took spell Fits make l m z
  pub short : (l : Left) (p : ℕ) → IsBytes l.rest → read l ≡ Err (Short p) → Within spell widths Fits l p
  pub bad : (l : Left) (p : ℕ) → IsBytes l.rest → read l ≡ Err (BadField p) → Breaks spell Fits read l p

-- results

pub bind_ok : {A B : Type 0} (r : Result A CodecError) (f : A → Result B CodecError) (y : B) → (r >>= f) ≡ Ok y → (x : A) × (r ≡ Ok x) × (f x ≡ Ok y)
bind_ok (Ok x) f y e = (x, refl, e)
bind_ok (Err d) f y e = absurd cc

abbrev done : {A : Type 0} → A → Result A CodecError
done x = Ok x

pub ok_is : {A : Type 0} (x y : A) → done x ≡ done y → x ≡ y
ok_is x y e = cc

abbrev failing : {A : Type 0} → CodecError → Result A CodecError
failing d = Err d

pub bind_err : {A B : Type 0} (r : Result A CodecError) (f : A → Result B CodecError) (d : CodecError) → (r >>= f) ≡ Err d → (r ≡ Err d) ⊎ ((x : A) × (r ≡ Ok x) × (f x ≡ Err d))
bind_err (Ok x) f d e = inr (x, refl, e)
bind_err (Err c) f d e = let h : c ≡ d = cc in inl (ap failing h)

pub takes_then : (xs ys : List ℕ) (l m n : Left) → Takes xs l m → Takes ys m n → Takes (xs ++ ys) l n
takes_then xs ys l m n a b = record {
  parts = a.parts ∙ ap (λ (t : List ℕ). xs ++ t) b.parts ∙ sym (append_assoc xs ys n.rest);
  place = omega (arith, a.place, b.place, length-append xs ys);
}

-- one part, and then another that may depend on it

module _ {X Y Z : Type 0} (s w : X → List ℕ) (F : X → Type 0) (P : Left → Step X) (t v : X → Y → List ℕ) (G : X → Y → Type 0) (make : X → Y → Z) (K : X → Left → Step Z)
    (A : IsExact s w F (λ x. x) P) (B : (x : X) → F x → IsExact (t x) (v x) (G x) (make x) (K x)) where
  abbrev pub both_spell : X × Y → List ℕ
  both_spell p = s p.0 ++ t p.0 p.1

  abbrev pub both_wide : X × Y → List ℕ
  both_wide p = w p.0 ++ v p.0 p.1

  abbrev pub both_fit : X × Y → Type 0
  both_fit p = F p.0 × G p.0 p.1

  abbrev pub both_make : X × Y → Z
  both_make p = make p.0 p.1

  abbrev pub both_read : Left → Step Z
  both_read l = P l >>= λ r. K r.0 r.1

  -- after the first part
  read_on : (x : X) (place : ℕ) (rest : List ℕ) → F x → both_read (left place (s x ++ rest)) ≡ K x (left (place + length (s x)) rest)
  read_on x place rest f = rw (A.again x place rest f) refl

  both_again : (p : X × Y) (place : ℕ) (rest : List ℕ) → both_fit p → both_read (left place (both_spell p ++ rest)) ≡ Ok (both_make p, left (place + length (both_spell p)) rest)
  both_again p place rest f =
      let far : (place + length (s p.0)) + length (t p.0 p.1) ≡ place + length (s p.0 ++ t p.0 p.1) = omega (arith, length-append (s p.0) (t p.0 p.1)) in
      ap (λ (r : List ℕ). both_read (left place r)) (append_assoc (s p.0) (t p.0 p.1) rest) ∙ read_on p.0 place (t p.0 p.1 ++ rest) f.0
      ∙ (B p.0 f.0).again p.1 (place + length (s p.0)) rest f.1 ∙ ap (λ (n : ℕ). Ok (make p.0 p.1, left n rest)) far

  -- what was read of the first part, and how the reading goes on
  record First (l : Left) (d : Step Z) : Type 0 where
    value : X
    fits : F value
    after : Left
    takes : Takes (s value) l after
    next : K value after ≡ d

  first : (l : Left) (r : X × Left) (d : Step Z) → IsBytes l.rest → P l ≡ Ok r → K r.0 r.1 ≡ d → First l d
  first l r d bytes e k =
      let a = A.takes l r.1 r.0 bytes e in
      record { value = a.value; fits = a.fits; after = r.1; takes = a.takes; next = subst (λ (x : X). K x r.1 ≡ d) a.made k }

  bytes_after : (l : Left) (d : Step Z) → IsBytes l.rest → (a : First l d) → IsBytes a.after.rest
  bytes_after l d bytes a = IsBytes-after (s a.value) a.after.rest (subst IsBytes a.takes.parts bytes)

  both_takes : (l m : Left) (z : Z) → IsBytes l.rest → both_read l ≡ Ok (z, m) → Took both_spell both_fit both_make l m z
  both_takes l m z bytes e =
      let b = bind_ok (P l) (λ r. K r.0 r.1) (z, m) e in
      let a = first l b.0 (Ok (z, m)) bytes b.1 b.2 in
      let c = (B a.value a.fits).takes a.after m z (bytes_after l (Ok (z, m)) bytes a) a.next in
      record { value = (a.value, c.value); made = c.made; fits = (a.fits, c.fits); takes = takes_then (s a.value) (t a.value c.value) l a.after m a.takes c.takes }

  short_first : (l : Left) (p : ℕ) → IsBytes l.rest → P l ≡ Err (Short p) → Within both_spell both_wide both_fit l p
  short_first l p bytes e =
      let a = A.short l p bytes e in
      let b = (B a.value a.fits).some in
      record {
        value = (a.value, b.0);
        fits = (a.fits, b.1);
        more = a.more ++ t a.value b.0;
        front = ap (λ (x : List ℕ). x ++ t a.value b.0) a.front ∙ append_assoc l.rest a.more (t a.value b.0);
        width = a.width;
        before = a.before;
        begins = (a.begins.0, a.begins.1 ++ v a.value b.0, ap (λ (x : List ℕ). x ++ v a.value b.0) a.begins.2 ∙ append_assoc a.begins.0 (a.width ∷ a.begins.1) (v a.value b.0), a.begins.3);
        place = a.place;
        reaches = a.reaches;
        lacks = a.lacks;
      }

  short_next : (l : Left) (p : ℕ) → IsBytes l.rest → First l (Err (Short p)) → Within both_spell both_wide both_fit l p
  short_next l p bytes a =
      let x = a.value in
      let c = (B x a.fits).short a.after p (bytes_after l (Err (Short p)) bytes a) a.next in
      let size : length l.rest ≡ length (s x) + length a.after.rest = ap length a.takes.parts ∙ length-append (s x) a.after.rest in
      let wide = A.sized x a.fits in
      record {
        value = (x, c.value);
        fits = (a.fits, c.fits);
        more = c.more;
        front = ap (λ (y : List ℕ). s x ++ y) c.front ∙ sym (append_assoc (s x) a.after.rest c.more) ∙ ap (λ (y : List ℕ). y ++ c.more) (sym a.takes.parts);
        width = c.width;
        before = length (s x) + c.before;
        begins = (w x ++ c.begins.0, c.begins.1, ap (λ (y : List ℕ). w x ++ y) c.begins.2 ∙ sym (append_assoc (w x) c.begins.0 (c.width ∷ c.begins.1)), omega (arith, total-append (w x) c.begins.0, wide, c.begins.3));
        place = omega (arith, c.place, a.takes.place);
        reaches = omega (arith, c.reaches, size);
        lacks = omega (arith, c.lacks, size);
      }

  both_short : (l : Left) (p : ℕ) → IsBytes l.rest → both_read l ≡ Err (Short p) → Within both_spell both_wide both_fit l p
  both_short l p bytes e = elim (bind_err (P l) (λ r. K r.0 r.1) (Short p) e) [
    | inl h ↦ short_first l p bytes h
    | inr h ↦ short_next l p bytes (first l h.0 (Err (Short p)) bytes h.1 h.2)
  ]

  bad_first : (l : Left) (p : ℕ) → IsBytes l.rest → P l ≡ Err (BadField p) → Breaks both_spell both_fit both_read l p
  bad_first l p bytes e =
      let a = A.bad l p bytes e in
      let b = (B a.value a.fits).some in
      record {
        front = a.front;
        byte = a.byte;
        after = a.after;
        parts = a.parts;
        place = a.place;
        value = (a.value, b.0);
        fits = (a.fits, b.1);
        more = a.more ++ t a.value b.0;
        good = ap (λ (x : List ℕ). x ++ t a.value b.0) a.good ∙ append_assoc a.front a.more (t a.value b.0);
        stays = λ other. rw (a.stays other) refl;
      }

  bad_next : (l : Left) (p : ℕ) → IsBytes l.rest → First l (Err (BadField p)) → Breaks both_spell both_fit both_read l p
  bad_next l p bytes a =
      let x = a.value in
      let c = (B x a.fits).bad a.after p (bytes_after l (Err (BadField p)) bytes a) a.next in
      record {
        front = s x ++ c.front;
        byte = c.byte;
        after = c.after;
        parts = a.takes.parts ∙ ap (λ (y : List ℕ). s x ++ y) c.parts ∙ sym (append_assoc (s x) c.front (c.byte ∷ c.after));
        place = omega (arith, c.place, a.takes.place, length-append (s x) c.front);
        value = (x, c.value);
        fits = (a.fits, c.fits);
        more = c.more;
        good = ap (λ (y : List ℕ). s x ++ y) c.good ∙ sym (append_assoc (s x) c.front c.more);
        stays = λ (other : List ℕ). ap (λ (y : List ℕ). both_read (left l.place y)) (append_assoc (s x) c.front (c.byte ∷ other)) ∙ read_on x l.place (c.front ++ c.byte ∷ other) a.fits
            ∙ ap (λ (n : ℕ). K x (left n (c.front ++ c.byte ∷ other))) (sym a.takes.place) ∙ c.stays other;
      }

  both_bad : (l : Left) (p : ℕ) → IsBytes l.rest → both_read l ≡ Err (BadField p) → Breaks both_spell both_fit both_read l p
  both_bad l p bytes e = elim (bind_err (P l) (λ r. K r.0 r.1) (BadField p) e) [
    | inl h ↦ bad_first l p bytes h
    | inr h ↦ bad_next l p bytes (first l h.0 (Err (BadField p)) bytes h.1 h.2)
  ]

  both_sized : (p : X × Y) → both_fit p → total (both_wide p) ≡ length (both_spell p)
  both_sized p f = omega (arith, total-append (w p.0) (v p.0 p.1), length-append (s p.0) (t p.0 p.1), A.sized p.0 f.0, (B p.0 f.0).sized p.1 f.1)

  pub both_exact : IsExact both_spell both_wide both_fit both_make both_read
  both_exact =
      let x = A.some in
      let y = (B x.0 x.1).some in
      record { some = ((x.0, y.0), (x.1, y.1)); sized = both_sized; again = both_again; takes = both_takes; short = both_short; bad = both_bad }
