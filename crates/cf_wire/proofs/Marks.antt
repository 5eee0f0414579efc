-- A byte that says what follows it, or that is a value itself.
use Rattle.std.proofs.Common.{◌≡◌, ℕ, suc, ◌+◌, ◌<◌, ◌≤◌, ◌==◌, false, cond, List, [], ◌∷◌, ◌++◌, length, Option, Some, None, Ok, Err, ◌⊎◌, inl, inr, refl, sym, ap, ◌∙◌, subst, arith}
use Rattle.std.proofs.lemmas.Bool.{cases_Bool, eq-eqb, eqb-true}
use Rattle.cf_codec.specs.Left.{Left, Takes}
use Rattle.cf_codec.specs.declared.failures.CodecError.TheVariants.{BadField, Short}
use Rattle.cf_wire.specs.Faults.{total}
use Rattle.cf_wire.specs.Reading.{◌>>=◌, Step, byte_at, known_at, marked_at}
use Rattle.cf_wire.specs.Spelled.{IsBytes}
use Rattle.cf_wire.proofs.Bytes.{IsBytes-after}
use Rattle.cf_wire.proofs.Exact.{Breaks, IsExact, Took, Within, bind_err, bind_ok, left, ok_is, takes_then}
use Rattle.cf_wire.proofs.Parts.{byte_exact, byte_missing, byte_never_bad}

-- a byte that is a value

known_ok : {X : Type 0} (o : Option X) (place : ℕ) (after m : Left) (z : X) → known_at place o after ≡ Ok (z, m) → (o ≡ Some z) × (after ≡ m)
known_ok {X = X} (Some x) place after m z e = let p = ok_is (x, after) (z, m) e in (ap (λ (r : X × Left). Some r.0) p, ap (λ (r : X × Left). r.1) p)
known_ok None place after m z e = absurd cc

known_short : {X : Type 0} (o : Option X) (place p : ℕ) (after : Left) → known_at place o after ≡ Err (Short p) → ⊥
known_short (Some x) place p after e = cc
known_short None place p after e = cc

known_bad : {X : Type 0} (o : Option X) (place p : ℕ) (after : Left) → known_at place o after ≡ Err (BadField p) → (o ≡ None) × (place ≡ p)
known_bad (Some x) place p after e = absurd cc
known_bad None place p after e = (refl, cc)

module _ {X : Type 0} (number : X → ℕ) (value_of : ℕ → Option X) (one : X) (small : (x : X) → number x < 256) (back : (x : X) → value_of (number x) ≡ Some x) (forth : (b : ℕ) (x : X) → value_of b ≡ Some x → number x ≡ b) where
  abbrev pub mark : X → List ℕ
  mark x = number x ∷ []

  abbrev pub wide_mark : X → List ℕ
  wide_mark x = 1 ∷ []

  abbrev pub any : X → Type 0
  any x = Unit {0}

  abbrev read : Left → Step X
  read l = byte_at l >>= λ b. known_at l.place (value_of b.0) b.1

  mark_again : (x : X) (place : ℕ) (rest : List ℕ) → any x → read (left place (mark x ++ rest)) ≡ Ok (x, left (place + length (mark x)) rest)
  mark_again x place rest f = rw (byte_exact.again (number x) place rest (small x), back x) refl

  mark_takes : (l m : Left) (z : X) → IsBytes l.rest → read l ≡ Ok (z, m) → Took mark any (λ x. x) l m z
  mark_takes l m z bytes e =
      let b = bind_ok (byte_at l) (λ b. known_at l.place (value_of b.0) b.1) (z, m) e in
      let a = byte_exact.takes l b.0.1 b.0.0 bytes b.1 in
      let k = known_ok (value_of b.0.0) l.place b.0.1 m z b.2 in
      let same : a.value ≡ number z = sym a.made ∙ sym (forth b.0.0 z k.0) in
      record { value = z; made = refl; fits = tt; takes = subst (λ (n : ℕ). Takes (n ∷ []) l m) same (subst (λ (r : Left). Takes (a.value ∷ []) l r) k.1 a.takes) }

  mark_short : (l : Left) (p : ℕ) → IsBytes l.rest → read l ≡ Err (Short p) → Within mark wide_mark any l p
  mark_short l p bytes e = elim (bind_err (byte_at l) (λ b. known_at l.place (value_of b.0) b.1) (Short p) e) [
    | inl h ↦ (let m = byte_missing l p h in record {
      value = one;
      fits = tt;
      more = mark one;
      front = ap (λ (r : List ℕ). r ++ mark one) (sym m.0);
      width = 1;
      before = 0;
      begins = ([], [], refl, refl);
      place = omega (arith, m.1);
      reaches = omega arith;
      lacks = omega (arith, ap length m.0);
    })
    | inr h ↦ absurd (known_short (value_of h.0.0) l.place p h.0.1 h.2)
  ]

  mark_bad : (l : Left) (p : ℕ) → IsBytes l.rest → read l ≡ Err (BadField p) → Breaks mark any read l p
  mark_bad l p bytes e = elim (bind_err (byte_at l) (λ b. known_at l.place (value_of b.0) b.1) (BadField p) e) [
    | inl h ↦ absurd (byte_never_bad l p h)
    | inr h ↦ (let a = byte_exact.takes l h.0.1 h.0.0 bytes h.1 in
        let k = known_bad (value_of h.0.0) l.place p h.0.1 h.2 in
        let none : value_of a.value ≡ None = ap value_of (sym a.made) ∙ k.0 in
        record {
          front = [];
          byte = a.value;
          after = h.0.1.rest;
          parts = a.takes.parts;
          place = omega (arith, k.1);
          value = one;
          fits = tt;
          more = mark one;
          good = refl;
          stays = λ (other : List ℕ). rw (byte_exact.again a.value l.place other a.fits, none, k.1) refl;
        })
  ]

  pub marked_exact : IsExact mark wide_mark any (λ x. x) (marked_at value_of)
  unfolding marked_at
  marked_exact = record { some = (one, tt); sized = λ x f. refl; again = mark_again; takes = mark_takes; short = mark_short; bad = mark_bad }

-- A byte that says which of several parts follows. Each kind is at least this number.
pub record IsChoice {X Z : Type 0} (low : ℕ) (kind : X → ℕ) (spell widths : X → List ℕ) (Fits : X → Type 0) (make : X → Z) (read : ℕ → ℕ → Left → Step Z) : Type 0 where
  pub above : (x : X) → low ≤ kind x
  pub sized : (x : X) → Fits x → total (widths x) ≡ length (spell x)
  pub again : (x : X) (at place : ℕ) (rest : List ℕ) → Fits x → read at (kind x) (left place (spell x ++ rest)) ≡ Ok (make x, left (place + length (spell x)) rest)
  pub takes : (at b : ℕ) (l m : Left) (z : Z) → IsBytes l.rest → read at b l ≡ Ok (z, m) → (t : Took spell Fits make l m z) × (b ≡ kind t.value)
  pub short : (at b : ℕ) (l : Left) (p : ℕ) → IsBytes l.rest → read at b l ≡ Err (Short p) → (t : Within spell widths Fits l p) × (b ≡ kind t.value)
  pub bad : (at b : ℕ) (l : Left) (p : ℕ) → IsBytes l.rest → read at b l ≡ Err (BadField p)
      → ((p ≡ at) × ((other : Left) → read at b other ≡ Err (BadField at))) ⊎ ((t : Breaks spell Fits (read at b) l p) × (b ≡ kind t.value))

-- no kind is known
pub none_choice : {Z : Type 0} (low : ℕ) → IsChoice {X = ⊥} {Z = Z} low (λ x. absurd x) (λ x. absurd x) (λ x. absurd x) (λ x. Unit {0}) (λ x. absurd x) (λ at b l. Err (BadField at))
none_choice {Z = Z} low = record {
  above = λ x. absurd x;
  sized = λ x f. absurd x;
  again = λ x at place rest f. absurd x;
  takes = λ at b l m z bytes e. absurd cc;
  short = λ at b l p bytes e. absurd cc;
  bad = λ at b l p bytes e. inl (let h : at ≡ p = cc in sym h, λ other. refl);
}

abbrev pub either : {X Y A : Type 0} → (X → A) → (Y → A) → X ⊎ Y → A
either f g (inl x) = f x
either f g (inr y) = g y

abbrev pub either_fits : {X Y : Type 0} → (X → Type 0) → (Y → Type 0) → X ⊎ Y → Type 0
either_fits F G (inl x) = F x
either_fits F G (inr y) = G y

-- this kind, or one of those above it
module _ {X Y Z : Type 0} (k : ℕ) (s w : X → List ℕ) (F : X → Type 0) (make : X → Z) (P : Left → Step Z) (kind : Y → ℕ) (t v : Y → List ℕ) (G : Y → Type 0) (other : Y → Z) (D : ℕ → ℕ → Left → Step Z)
    (A : IsExact s w F make P) (B : IsChoice (suc k) kind t v G other D) where
  abbrev or_kind : X ⊎ Y → ℕ
  or_kind x = either (λ _. k) kind x

  abbrev or_spell : X ⊎ Y → List ℕ
  or_spell x = either s t x

  abbrev or_wide : X ⊎ Y → List ℕ
  or_wide x = either w v x

  abbrev or_fit : X ⊎ Y → Type 0
  or_fit x = either_fits F G x

  abbrev or_make : X ⊎ Y → Z
  or_make x = either make other x

  abbrev or_read : ℕ → ℕ → Left → Step Z
  or_read at b l = cond (b == k) (P l) (D at b l)

  here : (at b : ℕ) (l : Left) → b ≡ k → or_read at b l ≡ P l
  here at b l e = rw (eq-eqb b k e) refl

  apart : (y : Y) → (kind y == k) ≡ false
  apart y = elim (cases_Bool (kind y == k)) [
    | inl e ↦ (let a = B.above y in absurd (omega (arith, eqb-true _ _ e)))
    | inr e ↦ e
  ]

  there : (y : Y) (at : ℕ) (l : Left) → or_read at (kind y) l ≡ D at (kind y) l
  there y at l = rw (apart y) refl

  or_again : (x : X ⊎ Y) (at place : ℕ) (rest : List ℕ) → or_fit x → or_read at (or_kind x) (left place (or_spell x ++ rest)) ≡ Ok (or_make x, left (place + length (or_spell x)) rest)
  or_again (inl x) at place rest f = here at k (left place (s x ++ rest)) refl ∙ A.again x place rest f
  or_again (inr y) at place rest f = there y at (left place (t y ++ rest)) ∙ B.again y at place rest f

  took_here : (b : ℕ) (l m : Left) (z : Z) → b ≡ k → Took s F make l m z → (r : Took or_spell or_fit or_make l m z) × (b ≡ or_kind r.value)
  took_here b l m z e a = (record { value = inl a.value; made = a.made; fits = a.fits; takes = a.takes }, e)

  took_there : (b : ℕ) (l m : Left) (z : Z) → (a : Took t G other l m z) × (b ≡ kind a.value) → (r : Took or_spell or_fit or_make l m z) × (b ≡ or_kind r.value)
  took_there b l m z a = (record { value = inr a.0.value; made = a.0.made; fits = a.0.fits; takes = a.0.takes }, a.1)

  -- what this kind is followed by, or what the others are
  which : (at b : ℕ) (l : Left) (d : Step Z) → or_read at b l ≡ d → ((b ≡ k) × (P l ≡ d)) ⊎ (((b == k) ≡ false) × (D at b l ≡ d))
  which at b l d e = elim (cases_Bool (b == k)) [
    | inl yes' ↦ inl (eqb-true b k yes', (rw yes' at e))
    | inr no' ↦ inr (no', (rw no' at e))
  ]

  or_takes : (at b : ℕ) (l m : Left) (z : Z) → IsBytes l.rest → or_read at b l ≡ Ok (z, m) → (r : Took or_spell or_fit or_make l m z) × (b ≡ or_kind r.value)
  or_takes at b l m z bytes e = elim (which at b l (Ok (z, m)) e) [
    | inl h ↦ took_here b l m z h.0 (A.takes l m z bytes h.1)
    | inr h ↦ took_there b l m z (B.takes at b l m z bytes h.1)
  ]

  within_here : (b : ℕ) (l : Left) (p : ℕ) → b ≡ k → Within s w F l p → (r : Within or_spell or_wide or_fit l p) × (b ≡ or_kind r.value)
  within_here b l p e a =
      (record { value = inl a.value; fits = a.fits; more = a.more; front = a.front; width = a.width; before = a.before; begins = a.begins; place = a.place; reaches = a.reaches; lacks = a.lacks }, e)

  within_there : (b : ℕ) (l : Left) (p : ℕ) → (a : Within t v G l p) × (b ≡ kind a.value) → (r : Within or_spell or_wide or_fit l p) × (b ≡ or_kind r.value)
  within_there b l p c =
      let a = c.0 in
      (record { value = inr a.value; fits = a.fits; more = a.more; front = a.front; width = a.width; before = a.before; begins = a.begins; place = a.place; reaches = a.reaches; lacks = a.lacks }, c.1)

  or_short : (at b : ℕ) (l : Left) (p : ℕ) → IsBytes l.rest → or_read at b l ≡ Err (Short p) → (r : Within or_spell or_wide or_fit l p) × (b ≡ or_kind r.value)
  or_short at b l p bytes e = elim (which at b l (Err (Short p)) e) [
    | inl h ↦ within_here b l p h.0 (A.short l p bytes h.1)
    | inr h ↦ within_there b l p (B.short at b l p bytes h.1)
  ]

  breaks_here : (at b : ℕ) (l : Left) (p : ℕ) → b ≡ k → Breaks s F P l p → (r : Breaks or_spell or_fit (or_read at b) l p) × (b ≡ or_kind r.value)
  breaks_here at b l p e a = (
    record {
      front = a.front;
      byte = a.byte;
      after = a.after;
      parts = a.parts;
      place = a.place;
      value = inl a.value;
      fits = a.fits;
      more = a.more;
      good = a.good;
      stays = λ (more : List ℕ). here at b (left l.place (a.front ++ a.byte ∷ more)) e ∙ a.stays more;
    },
    e,
  )

  breaks_there : (at b : ℕ) (l : Left) (p : ℕ) → (b == k) ≡ false → (a : Breaks t G (D at b) l p) × (b ≡ kind a.value) → (r : Breaks or_spell or_fit (or_read at b) l p) × (b ≡ or_kind r.value)
  breaks_there at b l p no' c =
      let a = c.0 in (
        record {
          front = a.front;
          byte = a.byte;
          after = a.after;
          parts = a.parts;
          place = a.place;
          value = inr a.value;
          fits = a.fits;
          more = a.more;
          good = a.good;
          stays = λ (more : List ℕ). rw no' (a.stays more);
        },
        c.1,
      )

  or_bad : (at b : ℕ) (l : Left) (p : ℕ) → IsBytes l.rest → or_read at b l ≡ Err (BadField p)
      → ((p ≡ at) × ((any : Left) → or_read at b any ≡ Err (BadField at))) ⊎ ((r : Breaks or_spell or_fit (or_read at b) l p) × (b ≡ or_kind r.value))
  or_bad at b l p bytes e = elim (which at b l (Err (BadField p)) e) [
    | inl h ↦ inr (breaks_here at b l p h.0 (A.bad l p bytes h.1))
    | inr h ↦ elim (B.bad at b l p bytes h.1) [
      | inl g ↦ inl (g.0, λ (any : Left). (let no' = h.0 in rw no' (g.1 any)))
      | inr g ↦ inr (breaks_there at b l p h.0 g)
    ]
  ]

  or_above : (x : X ⊎ Y) → k ≤ or_kind x
  or_above (inl x) = omega arith
  or_above (inr y) = let a = B.above y in omega arith

  or_sized : (x : X ⊎ Y) → or_fit x → total (or_wide x) ≡ length (or_spell x)
  or_sized (inl x) f = A.sized x f
  or_sized (inr y) f = B.sized y f

  pub or_choice : IsChoice k or_kind or_spell or_wide or_fit or_make or_read
  or_choice = record { above = or_above; sized = or_sized; again = or_again; takes = or_takes; short = or_short; bad = or_bad }

-- the kind, and what it says
module _ {X Z : Type 0} (low : ℕ) (kind : X → ℕ) (s w : X → List ℕ) (F : X → Type 0) (make : X → Z) (D : ℕ → ℕ → Left → Step Z) (A : IsChoice low kind s w F make D) (one : X) (fits : F one) (small : (x : X) → kind x < 256) where
  abbrev pub kind_spell : X → List ℕ
  kind_spell x = kind x ∷ s x

  abbrev pub kind_wide : X → List ℕ
  kind_wide x = 1 ∷ w x

  abbrev pub kind_read : Left → Step Z
  kind_read l = byte_at l >>= λ b. D l.place b.0 b.1

  read_on : (b place : ℕ) (rest : List ℕ) → b < 256 → kind_read (left place (b ∷ rest)) ≡ D place b (left (place + 1) rest)
  read_on b place rest lt = rw (byte_exact.again b place rest lt) refl

  kind_again : (x : X) (place : ℕ) (rest : List ℕ) → F x → kind_read (left place (kind_spell x ++ rest)) ≡ Ok (make x, left (place + length (kind_spell x)) rest)
  kind_again x place rest f =
      let far : (place + 1) + length (s x) ≡ place + length (kind_spell x) = omega arith in
      read_on (kind x) place (s x ++ rest) (small x) ∙ A.again x place (place + 1) rest f ∙ ap (λ (n : ℕ). Ok (make x, left n rest)) far

  -- the kind that was read
  record Head (l : Left) (d : Step Z) : Type 0 where
    byte : ℕ
    below : byte < 256
    after : Left
    takes : Takes (byte ∷ []) l after
    next : D l.place byte after ≡ d

  head : (l : Left) (b : ℕ × Left) (d : Step Z) → IsBytes l.rest → byte_at l ≡ Ok b → D l.place b.0 b.1 ≡ d → Head l d
  head l b d bytes e k =
      let a = byte_exact.takes l b.1 b.0 bytes e in
      record { byte = a.value; below = a.fits; after = b.1; takes = a.takes; next = subst (λ (n : ℕ). D l.place n b.1 ≡ d) a.made k }

  bytes_after : (l : Left) (d : Step Z) → IsBytes l.rest → (h : Head l d) → IsBytes h.after.rest
  bytes_after l d bytes h = IsBytes-after (h.byte ∷ []) h.after.rest (subst IsBytes h.takes.parts bytes)

  kind_takes : (l m : Left) (z : Z) → IsBytes l.rest → kind_read l ≡ Ok (z, m) → Took kind_spell F make l m z
  kind_takes l m z bytes e =
      let b = bind_ok (byte_at l) (λ b. D l.place b.0 b.1) (z, m) e in
      let h = head l b.0 (Ok (z, m)) bytes b.1 b.2 in
      let c = A.takes l.place h.byte h.after m z (bytes_after l (Ok (z, m)) bytes h) h.next in
      let x = c.0.value in
      record { value = x; made = c.0.made; fits = c.0.fits; takes = subst (λ (n : ℕ). Takes (n ∷ s x) l m) c.1 (takes_then (h.byte ∷ []) (s x) l h.after m h.takes c.0.takes) }

  short_here : (l : Left) (p : ℕ) → byte_at l ≡ Err (Short p) → Within kind_spell kind_wide F l p
  short_here l p e =
      let m = byte_missing l p e in
      record {
        value = one;
        fits = fits;
        more = kind_spell one;
        front = ap (λ (r : List ℕ). r ++ kind_spell one) (sym m.0);
        width = 1;
        before = 0;
        begins = ([], w one, refl, refl);
        place = omega (arith, m.1);
        reaches = omega arith;
        lacks = omega (arith, ap length m.0);
      }

  short_next : (l : Left) (p : ℕ) → IsBytes l.rest → Head l (Err (Short p)) → Within kind_spell kind_wide F l p
  short_next l p bytes h =
      let c = A.short l.place h.byte h.after p (bytes_after l (Err (Short p)) bytes h) h.next in
      let a = c.0 in
      let size : length l.rest ≡ suc (length h.after.rest) = ap length h.takes.parts in
      record {
        value = a.value;
        fits = a.fits;
        more = a.more;
        front = ap (λ (n : ℕ). n ∷ s a.value) (sym c.1) ∙ ap (λ (r : List ℕ). h.byte ∷ r) a.front ∙ ap (λ (r : List ℕ). r ++ a.more) (sym h.takes.parts);
        width = a.width;
        before = suc a.before;
        begins = (1 ∷ a.begins.0, a.begins.1, ap (λ (r : List ℕ). 1 ∷ r) a.begins.2, omega (arith, a.begins.3));
        place = omega (arith, a.place, h.takes.place);
        reaches = omega (arith, a.reaches, size);
        lacks = omega (arith, a.lacks, size);
      }

  kind_short : (l : Left) (p : ℕ) → IsBytes l.rest → kind_read l ≡ Err (Short p) → Within kind_spell kind_wide F l p
  kind_short l p bytes e = elim (bind_err (byte_at l) (λ b. D l.place b.0 b.1) (Short p) e) [
    | inl h ↦ short_here l p h
    | inr h ↦ short_next l p bytes (head l h.0 (Err (Short p)) bytes h.1 h.2)
  ]

  bad_kind : (l : Left) (p : ℕ) (h : Head l (Err (BadField p))) → p ≡ l.place → ((other : Left) → D l.place h.byte other ≡ Err (BadField l.place)) → Breaks kind_spell F kind_read l p
  bad_kind l p h at stops = record {
    front = [];
    byte = h.byte;
    after = h.after.rest;
    parts = h.takes.parts;
    place = omega (arith, at);
    value = one;
    fits = fits;
    more = kind_spell one;
    good = refl;
    stays = λ (other : List ℕ). read_on h.byte l.place other h.below ∙ stops (left (l.place + 1) other) ∙ ap (λ (n : ℕ). Err (BadField n)) (sym at);
  }

  bad_part : (l : Left) (p : ℕ) (h : Head l (Err (BadField p))) → (a : Breaks s F (D l.place h.byte) h.after p) × (h.byte ≡ kind a.value) → Breaks kind_spell F kind_read l p
  bad_part l p h c =
      let a = c.0 in
      record {
        front = h.byte ∷ a.front;
        byte = a.byte;
        after = a.after;
        parts = h.takes.parts ∙ ap (λ (r : List ℕ). h.byte ∷ r) a.parts;
        place = omega (arith, a.place, h.takes.place);
        value = a.value;
        fits = a.fits;
        more = a.more;
        good = ap (λ (n : ℕ). n ∷ s a.value) (sym c.1) ∙ ap (λ (r : List ℕ). h.byte ∷ r) a.good;
        stays = λ (other : List ℕ). read_on h.byte l.place (a.front ++ a.byte ∷ other) h.below ∙ ap (λ (n : ℕ). D l.place h.byte (left n (a.front ++ a.byte ∷ other))) (sym h.takes.place) ∙ a.stays other;
      }

  bad_next : (l : Left) (p : ℕ) → IsBytes l.rest → Head l (Err (BadField p)) → Breaks kind_spell F kind_read l p
  bad_next l p bytes h = elim (A.bad l.place h.byte h.after p (bytes_after l (Err (BadField p)) bytes h) h.next) [
    | inl g ↦ bad_kind l p h g.0 g.1
    | inr g ↦ bad_part l p h g
  ]

  kind_bad : (l : Left) (p : ℕ) → IsBytes l.rest → kind_read l ≡ Err (BadField p) → Breaks kind_spell F kind_read l p
  kind_bad l p bytes e = elim (bind_err (byte_at l) (λ b. D l.place b.0 b.1) (BadField p) e) [
    | inl h ↦ absurd (byte_never_bad l p h)
    | inr h ↦ bad_next l p bytes (head l h.0 (Err (BadField p)) bytes h.1 h.2)
  ]

  kind_sized : (x : X) → F x → total (kind_wide x) ≡ length (kind_spell x)
  kind_sized x f = omega (arith, A.sized x f)

  pub kind_exact : IsExact kind_spell kind_wide F make kind_read
  kind_exact = record { some = (one, fits); sized = kind_sized; again = kind_again; takes = kind_takes; short = kind_short; bad = kind_bad }
