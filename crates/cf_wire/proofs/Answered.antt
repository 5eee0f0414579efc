-- What reading a whole text answers.
use Rattle.std.proofs.Common.{◌≡◌, ℕ, ◌+◌, List, [], ◌∷◌, ◌++◌, length, Result, Ok, Err, inl, inr, refl, sym, ap, ◌∙◌, subst, arith}
use Rattle.std.proofs.lemmas.List.{append-nil}
use Rattle.std.specs.Prelude.{MatchResult}
use Rattle.cf_codec.specs.Left.{Left}
use Rattle.cf_codec.specs.declared.failures.CodecError.{CodecError}
use Rattle.cf_codec.specs.declared.failures.CodecError.TheVariants.{BadField, Short}
use Rattle.cf_wire.specs.declared.failures.WireError.{WireError}
use Rattle.cf_wire.specs.declared.failures.WireError.TheVariants as fail
use Rattle.cf_wire.specs.Faults.{Answers, Begins, BreaksAt, EndsWithin}
use Rattle.cf_wire.specs.Reading.{GivesAll, Step, ended, whole}
use Rattle.cf_wire.specs.Spelled.{IsBytes}
use Rattle.cf_wire.proofs.Exact.{Breaks, IsExact, Within, bind_err, bind_ok, left, ok_is}

ended_ok : {X : Type 0} (x y : X) (place : ℕ) (rest : List ℕ) → ended x place rest ≡ Ok y → (rest ≡ []) × (x ≡ y)
ended_ok x y place [] e = (refl, ok_is x y e)
ended_ok x y place (b ∷ bs) e = absurd cc

ended_short : {X : Type 0} (x : X) (place p : ℕ) (rest : List ℕ) → ended x place rest ≡ Err (Short p) → ⊥
ended_short x place p [] e = cc
ended_short x place p (b ∷ bs) e = cc

ended_bad : {X : Type 0} (x : X) (place p : ℕ) (rest : List ℕ) → ended x place rest ≡ Err (BadField p) → (b : ℕ) × (bs : List ℕ) × (rest ≡ b ∷ bs) × (place ≡ p)
ended_bad x place p [] e = absurd cc
ended_bad x place p (b ∷ bs) e = (b, bs, refl, cc)

module _ {X : Type 0} (s w : X → List ℕ) (F : X → Type 0) (P : Left → Step X) (A : IsExact s w F (λ x. x) P) (Spells : List ℕ → X → Type 0)
    (make : (text : List ℕ) (x : X) → F x → text ≡ s x → Spells text x) (fits : (text : List ℕ) (x : X) → Spells text x → F x) (same : (text : List ℕ) (x : X) → Spells text x → text ≡ s x) where
  -- a text that begins with a spelling is read so
  read_front : (x : X) (rest : List ℕ) → F x → P (left 0 (s x ++ rest)) ≡ Ok (x, left (0 + length (s x)) rest)
  read_front x rest f = A.again x 0 rest f

  read_spelled : (text : List ℕ) (x : X) → Spells text x → P (left 0 text) ≡ Ok (x, left (0 + length (s x)) [])
  read_spelled text x h = ap (λ (t : List ℕ). P (left 0 t)) (same text x h ∙ sym (append-nil (s x))) ∙ read_front x [] (fits text x h)

  pub read_whole : (text : List ℕ) (x : X) → Spells text x → whole P text ≡ Ok x
  read_whole text x h = rw (read_spelled text x h) refl

  -- no spelling is the front of another
  pub no_front : (x y : X) (b : ℕ) (rest text : List ℕ) → Spells text x → Spells (text ++ b ∷ rest) y → ⊥
  no_front x y b rest text g h =
      let first : P (left 0 (text ++ b ∷ rest)) ≡ Ok (x, left (0 + length (s x)) (b ∷ rest)) = ap (λ (t : List ℕ). P (left 0 (t ++ b ∷ rest))) (same text x g) ∙ read_front x (b ∷ rest) (fits text x g) in
      let second = read_spelled (text ++ b ∷ rest) y h in
      let both = ok_is (x, left (0 + length (s x)) (b ∷ rest)) (y, left (0 + length (s y)) []) (sym first ∙ second) in
      let lists : ◌≡◌ {A = List ℕ} (b ∷ rest) [] = ap (λ (p : X × Left). p.1.rest) both in cc

  pub one_value : (text : List ℕ) (x y : X) → Spells text x → Spells text y → x ≡ y
  one_value text x y g h = ok_is x y (sym (read_whole text x g) ∙ read_whole text y h)

  given : (text : List ℕ) (x : X) → IsBytes text → whole P text ≡ Ok x → Spells text x
  given text x bytes e =
      let b = bind_ok (P (left 0 text)) (λ x. ended x.0 x.1.place x.1.rest) x e in
      let g = ended_ok b.0.0 x b.0.1.place b.0.1.rest b.2 in
      let a = A.takes (left 0 text) b.0.1 b.0.0 bytes b.1 in
      let all : text ≡ s a.value = a.takes.parts ∙ ap (λ (t : List ℕ). s a.value ++ t) g.0 ∙ append-nil (s a.value) in
      subst (Spells text) (sym a.made ∙ g.1) (make text a.value a.fits all)

  within : (text : List ℕ) (p : ℕ) → Within s w F (left 0 text) p → EndsWithin Spells w text p
  within text p a =
      let here : a.before ≡ p = omega (arith, a.place) in
      record {
        value = a.value;
        more = a.more;
        front = make (text ++ a.more) a.value a.fits (sym a.front);
        width = a.width;
        begins = subst (λ (n : ℕ). Begins n a.width (w a.value)) here a.begins;
        reaches = omega (arith, a.reaches);
        lacks = omega (arith, a.lacks);
      }

  breaks : (text : List ℕ) (p : ℕ) → Breaks s F P (left 0 text) p → BreaksAt Spells text p
  breaks text p a = record {
    front = a.front;
    byte = a.byte;
    after = a.after;
    parts = a.parts;
    place_is = omega (arith, a.place);
    value = a.value;
    more = a.more;
    good = make (a.front ++ a.more) a.value a.fits (sym a.good);
    bad = λ (y : X) (rest : List ℕ) (h : Spells (a.front ++ a.byte ∷ rest) y).
        (let z : ◌≡◌ {A = Step X} (Ok (y, left (0 + length (s y)) [])) (Err (BadField p)) = sym (read_spelled (a.front ++ a.byte ∷ rest) y h) ∙ a.stays rest in cc);
  }

  over : (text : List ℕ) (p : ℕ) (r : X × Left) → IsBytes text → P (left 0 text) ≡ Ok r → ended r.0 r.1.place r.1.rest ≡ Err (BadField p) → BreaksAt Spells text p
  over text p r bytes e g =
      let a = A.takes (left 0 text) r.1 r.0 bytes e in
      let b = ended_bad r.0 r.1.place p r.1.rest g in
      let all : text ≡ s a.value ++ b.0 ∷ b.1 = a.takes.parts ∙ ap (λ (t : List ℕ). s a.value ++ t) b.2 in
      let spelled = make (s a.value) a.value a.fits refl in
      record {
        front = s a.value;
        byte = b.0;
        after = b.1;
        parts = all;
        place_is = omega (arith, a.takes.place, b.3);
        value = a.value;
        more = [];
        good = make (s a.value ++ []) a.value a.fits (append-nil (s a.value));
        bad = λ (y : X) (rest : List ℕ) (h : Spells (s a.value ++ b.0 ∷ rest) y). no_front a.value y b.0 rest (s a.value) spelled h;
      }

  pub answered : (text : List ℕ) (r : Result X WireError) → IsBytes text → GivesAll r (whole P text) → Answers Spells w text r
  answered text (Ok x) bytes e = given text x bytes e
  answered text (Err (fail.Short p)) bytes e = elim (bind_err (P (left 0 text)) (λ x. ended x.0 x.1.place x.1.rest) (Short p) e) [
    | inl h ↦ within text p (A.short (left 0 text) p bytes h)
    | inr h ↦ absurd (ended_short h.0.0 h.0.1.place p h.0.1.rest h.2)
  ]
  answered text (Err (fail.BadField p)) bytes e = elim (bind_err (P (left 0 text)) (λ x. ended x.0 x.1.place x.1.rest) (BadField p) e) [
    | inl h ↦ breaks text p (A.bad (left 0 text) p bytes h)
    | inr h ↦ over text p h.0 bytes h.1 h.2
  ]
  answered text (Err fail.OutOfMemory) bytes e = tt

  pub only : (text : List ℕ) (r : Result X WireError) (x : X) → Spells text x → GivesAll r (whole P text) → MatchResult r (λ y. y ≡ x) (λ e. e ≡ fail.OutOfMemory)
  only text (Ok y) x h e = ok_is y x (sym e ∙ read_whole text x h)
  only text (Err (fail.Short p)) x h e = absurd (let z : ◌≡◌ {A = Result X CodecError} (Err (Short p)) (Ok x) = sym e ∙ read_whole text x h in cc)
  only text (Err (fail.BadField p)) x h e = absurd (let z : ◌≡◌ {A = Result X CodecError} (Err (BadField p)) (Ok x) = sym e ∙ read_whole text x h in cc)
  only text (Err fail.OutOfMemory) x h e = refl
