-- How a path and a name are written.
use Rattle.std.proofs.Common.{◌≡◌, ℕ, ◌<◌, true, false, List, [], ◌∷◌, ◌++◌, length, refl, sym, ap, subst, ◌∙◌, inl, inr, arith, append_assoc, length-append}
use Rattle.std.specs.Prelude.{◌⊎◌, ◌==◌, ◌≢◌, Some}
use Rattle.std.specs.Str.{IsUtf8}
use Rattle.std.proofs.lemmas.List.{append-nil}
use Rattle.std.proofs.lemmas.Bool.{cases_Bool, eqb-true}
use Rattle.cf_script_words.specs.Words.{Reads, escape_byte, written, escaped, IsPath, has_slash}
use Rattle.cf_script_words.specs.Entries.{escape_name_byte, escaped_name, IsEntryName}
use Rattle.cf_script_words.specs.Escapes.{code_of}
use Rattle.cf_script_words.specs.declared.escapes.Escapes.{Escapes}
use Rattle.cf_script_words.specs.declared.escapes.Escapes.TheVariants as escapes

pub code_cases : (b : ℕ) → ((b ≡ 32) × (escape_byte b ≡ 37 ∷ 50 ∷ 48 ∷ [])) ⊎ (((b ≡ 37) × (escape_byte b ≡ 37 ∷ 50 ∷ 53 ∷ [])) ⊎ ((b ≢ 37) × (escape_byte b ≡ b ∷ [])))
code_cases b = elim (cases_Bool (b == 32)) [
  | inl hit ↦ inl (eqb-true _ _ hit, rw hit refl)
  | inr miss ↦ elim (cases_Bool (b == 37)) [
    | inl hit ↦ inr (inl (eqb-true _ _ hit, rw (miss, hit) refl))
    | inr other ↦ inr (inr ((λ e. let h : (37 == 37) ≡ false = subst (λ n. (n == 37) ≡ false) e other in cc), rw (miss, other) refl))
  ]
]

-- no byte's text begins another's
pub codes_apart : (a b : ℕ) (x y : List ℕ) → escape_byte a ++ x ≡ escape_byte b ++ y → (a ≡ b) × (x ≡ y)
codes_apart a b x y e =
    elim (code_cases a) [
      | inl p ↦
          elim (code_cases b) [
            | inl q ↦ let h : 37 ∷ 50 ∷ 48 ∷ x ≡ 37 ∷ 50 ∷ 48 ∷ y = rw (p.1, q.1) at e in (p.0 ∙ sym q.0, cc)
            | inr (inl q) ↦ let h : 37 ∷ 50 ∷ 48 ∷ x ≡ 37 ∷ 50 ∷ 53 ∷ y = rw (p.1, q.1) at e in let k : ◌≡◌ {A = ℕ} 48 53 = cc in absurd (omega arith)
            | inr (inr q) ↦ let h : 37 ∷ 50 ∷ 48 ∷ x ≡ b ∷ y = rw (p.1, q.1) at e in let k : b ≡ 37 = cc in absurd (q.0 k)
          ]
      | inr (inl p) ↦
          elim (code_cases b) [
            | inl q ↦ let h : 37 ∷ 50 ∷ 53 ∷ x ≡ 37 ∷ 50 ∷ 48 ∷ y = rw (p.1, q.1) at e in let k : ◌≡◌ {A = ℕ} 53 48 = cc in absurd (omega arith)
            | inr (inl q) ↦ let h : 37 ∷ 50 ∷ 53 ∷ x ≡ 37 ∷ 50 ∷ 53 ∷ y = rw (p.1, q.1) at e in (p.0 ∙ sym q.0, cc)
            | inr (inr q) ↦ let h : 37 ∷ 50 ∷ 53 ∷ x ≡ b ∷ y = rw (p.1, q.1) at e in let k : b ≡ 37 = cc in absurd (q.0 k)
          ]
      | inr (inr p) ↦
          elim (code_cases b) [
            | inl q ↦ let h : a ∷ x ≡ 37 ∷ 50 ∷ 48 ∷ y = rw (p.1, q.1) at e in let k : a ≡ 37 = cc in absurd (p.0 k)
            | inr (inl q) ↦ let h : a ∷ x ≡ 37 ∷ 50 ∷ 53 ∷ y = rw (p.1, q.1) at e in let k : a ≡ 37 = cc in absurd (p.0 k)
            | inr (inr q) ↦ let h : a ∷ x ≡ b ∷ y = rw (p.1, q.1) at e in (cc, cc)
          ]
    ]

-- a way to write bytes of which no byte's text begins another's
pub record IsApart (f : ℕ → List ℕ) : Type 0 where
  pub some : (b : ℕ) → 0 < length (f b)
  pub apart : (a b : ℕ) (x y : List ℕ) → f a ++ x ≡ f b ++ y → (a ≡ b) × (x ≡ y)

pub written-append : (f : ℕ → List ℕ) (p q : List ℕ) → written f (p ++ q) ≡ written f p ++ written f q
written-append f [] q = refl
written-append f (b ∷ bs) q = ap (λ t. f b ++ t) (written-append f bs q) ∙ sym (append_assoc (f b) (written f bs) (written f q))

pub written_more : (f : ℕ → List ℕ) (word p rest after : List ℕ) (b : ℕ) → word ≡ written f p ++ rest → rest ≡ f b ++ after → word ≡ written f (p ++ b ∷ []) ++ after
written_more f word p rest after b h e =
    let one : written f (b ∷ []) ≡ f b = append-nil (f b) in
    h ∙ ap (λ r. written f p ++ r) e ∙ sym (append_assoc (written f p) (f b) after) ∙ ap (λ t. (written f p ++ t) ++ after) (sym one) ∙ ap (λ t. t ++ after) (sym (written-append f p (b ∷ [])))

-- a text whose rest is no byte's spells nothing
pub written_stops : (f : ℕ → List ℕ) → IsApart f → (p q rest : List ℕ) → 0 < length rest → ((b : ℕ) (more : List ℕ) → rest ≡ f b ++ more → ⊥) → written f p ++ rest ≡ written f q → ⊥
written_stops f is [] [] rest some stuck e = let n : length rest ≡ 0 = ap length e in absurd (omega arith)
written_stops f is [] (b ∷ bs) rest some stuck e = stuck b (written f bs) e
written_stops f is (a ∷ as') [] rest some stuck e =
    let n : length ((f a ++ written f as') ++ rest) ≡ 0 = ap length e in
    let m = is.some a in
    absurd (omega (arith, simp length-append at n))
written_stops f is (a ∷ as') (b ∷ bs) rest some stuck e =
    let h = is.apart a b (written f as' ++ rest) (written f bs) (sym (append_assoc (f a) (written f as') rest) ∙ e) in
    written_stops f is as' bs rest some stuck h.1

pub written_once : (f : ℕ → List ℕ) → IsApart f → (p q : List ℕ) → written f p ≡ written f q → p ≡ q
written_once f is [] [] e = refl
written_once f is [] (b ∷ bs) e = let n : 0 ≡ length (f b ++ written f bs) = ap length e in let m = is.some b in absurd (omega (arith, simp length-append at n))
written_once f is (a ∷ as') [] e = let n : length (f a ++ written f as') ≡ 0 = ap length e in let m = is.some a in absurd (omega (arith, simp length-append at n))
written_once f is (a ∷ as') (b ∷ bs) e =
    let h = is.apart a b (written f as') (written f bs) e in
    let rest = written_once f is as' bs h.1 in cc

pub written_whole : (f : ℕ → List ℕ) (word p rest : List ℕ) → length rest ≡ 0 → word ≡ written f p ++ rest → word ≡ written f p
written_whole f word p [] e h = h ∙ append-nil (written f p)
written_whole f word p (b ∷ bs) e h = absurd (omega arith)

pub written_reads : (f : ℕ → List ℕ) → IsApart f → (word p : List ℕ) → word ≡ written f p → Reads (λ x. word ≡ written f x) (Some p)
written_reads f is word p e = (e, λ y h. written_once f is y p (sym h ∙ e))

some_code : (b : ℕ) → 0 < length (escape_byte b)
some_code b = elim (cases_Bool (b == 32)) [
  | inl hit ↦ rw hit (omega arith)
  | inr miss ↦ elim (cases_Bool (b == 37)) [ inl hit ↦ rw (miss, hit) (omega arith) | inr other ↦ rw (miss, other) (omega arith) ]
]

pub paths_apart : IsApart escape_byte
paths_apart = record { some = some_code; apart = codes_apart }

-- what is written as a text that is no path's is none's
pub not_path : (word p bytes : List ℕ) → word ≡ escaped p → bytes ≡ p → (IsUtf8 bytes → ⊥) → (x : List ℕ) → IsPath word x → ⊥
not_path word p bytes e same bad x is =
    let one : x ≡ bytes = written_once escape_byte paths_apart x p (sym is.2 ∙ e) ∙ sym same in bad (subst IsUtf8 one is.0)

pub path_reads : (word p path : List ℕ) → Reads (λ path. word ≡ escaped path) (Some p) → path ≡ p → IsUtf8 path → has_slash path ≡ true → Reads (IsPath word) (Some path)
path_reads word p path h e utf8 slash = ((utf8, slash, h.0 ∙ ap escaped (sym e)), λ y is. h.1 y is.2 ∙ sym e)

pub name_code : (b : ℕ) → ((b ≡ 44) × (escape_name_byte b ≡ 37 ∷ 50 ∷ 99 ∷ [])) ⊎ ((b ≢ 44) × (escape_name_byte b ≡ escape_byte b))
name_code b = elim (cases_Bool (b == 44)) [
  | inl hit ↦ inl (eqb-true _ _ hit, rw hit refl)
  | inr miss ↦ inr (λ e. let h : (44 == 44) ≡ false = subst (λ n. (n == 44) ≡ false) e miss in cc, rw miss refl)
]

-- no byte is written as a comma is
comma_apart : (b : ℕ) (x y : List ℕ) → 37 ∷ 50 ∷ 99 ∷ x ≡ escape_byte b ++ y → ⊥
comma_apart b x y e = elim (code_cases b) [
  | inl q ↦ let h : 37 ∷ 50 ∷ 99 ∷ x ≡ 37 ∷ 50 ∷ 48 ∷ y = rw q.1 at e in let k : ◌≡◌ {A = ℕ} 99 48 = cc in absurd (omega arith)
  | inr (inl q) ↦ let h : 37 ∷ 50 ∷ 99 ∷ x ≡ 37 ∷ 50 ∷ 53 ∷ y = rw q.1 at e in let k : ◌≡◌ {A = ℕ} 99 53 = cc in absurd (omega arith)
  | inr (inr q) ↦ let h : 37 ∷ 50 ∷ 99 ∷ x ≡ b ∷ y = rw q.1 at e in let k : b ≡ 37 = cc in absurd (q.0 k)
]

names_once : (a b : ℕ) (x y : List ℕ) → escape_name_byte a ++ x ≡ escape_name_byte b ++ y → (a ≡ b) × (x ≡ y)
names_once a b x y e = elim (name_code a) [
  | inl p ↦ elim (name_code b) [
    | inl q ↦ let h : 37 ∷ 50 ∷ 99 ∷ x ≡ 37 ∷ 50 ∷ 99 ∷ y = rw (p.1, q.1) at e in (p.0 ∙ sym q.0, cc)
    | inr q ↦ absurd (comma_apart b x y (rw (p.1, q.1) at e))
  ]
  | inr p ↦ elim (name_code b) [
    | inl q ↦ absurd (comma_apart a y x (sym (rw (p.1, q.1) at e)))
    | inr q ↦ codes_apart a b x y (rw (p.1, q.1) at e)
  ]
]

some_name_code : (b : ℕ) → 0 < length (escape_name_byte b)
some_name_code b = elim (name_code b) [
  | inl p ↦ rw p.1 (omega arith)
  | inr p ↦ rw p.1 (some_code b)
]

pub names_apart : IsApart escape_name_byte
names_apart = record { some = some_name_code; apart = names_once }

-- what is written as a text that is not UTF-8 is no name
pub not_name : (word p bytes : List ℕ) → word ≡ escaped_name p → bytes ≡ p → (IsUtf8 bytes → ⊥) → (x : List ℕ) → IsEntryName word x → ⊥
not_name word p bytes e same bad x is =
    let one : x ≡ bytes = written_once escape_name_byte names_apart x p (sym is.1 ∙ e) ∙ sym same in bad (subst IsUtf8 one is.0)

pub name_reads : (word name : List ℕ) → Reads (λ x. word ≡ escaped_name x) (Some name) → IsUtf8 name → Reads (IsEntryName word) (Some name)
name_reads word name h utf8 = ((utf8, h.0), λ y is. h.1 y is.1)

-- in both ways
pub codes_stand_apart : (e : Escapes) → IsApart (code_of e)
codes_stand_apart escapes.Path = paths_apart
codes_stand_apart escapes.Name = names_apart
