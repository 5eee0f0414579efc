-- A text is taken apart at the first line that is the mark.
use Rattle.std.proofs.Common.{◌≡◌, ◌⊎◌, inl, inr, ◌+◌, ◌-◌, ◌<◌, ◌≤◌, ℕ, zero, suc, Bool, true, false, List, [], ◌∷◌, ◌++◌, length, take, drop, refl, sym, ◌∙◌, ap, subst, arith, append_assoc, append-nil, length-append, length-drop, add-one, cond, Some, None, ltb-true, ltb-false}
use Rattle.std.specs.Prelude.{◌≢◌, All, bytes_eq, position, nat_lt, ◌==◌}
use Rattle.std.specs.List.{position_or_len}
use Rattle.std.proofs.Math.Seq.{take-append_seam, take-length}
use Rattle.std.proofs.lemmas.Bool.{eqb-true}
use Rattle.std.proofs.lemmas.Slice.Eq.{bytes_eq-Decides}
use Rattle.std.proofs.lemmas.List.Elements.{All-head, All-push, All-tail}
use Rattle.cf_script.proofs.LinesRead.{lines_found, lines_not_found}
use Rattle.cf_script.specs.Script.{lines_of}
use Rattle.cf_world.specs.Checks.{HasNoMark, IsParted, mark}
use Rattle.cf_world.specs.Recordings.{IsFirstLine}

abbrev is_ten : ℕ → Bool
is_ten b = b == 10

-- the first line

either : (b : Bool) → (b ≡ true) ⊎ (b ≡ false)
either true = inl refl
either false = inr refl

cut_at : (text : List ℕ) (n : ℕ) → n ≡ position_or_len is_ten text → n < length text → text ≡ take n text ++ 10 ∷ drop (suc n) text
cut_at [] n e lt = absurd (omega arith)
cut_at (b ∷ bs) zero e lt = elim (either (is_ten b)) [
  | inl hit ↦ ap (λ (x : ℕ). x ∷ bs) (eqb-true b 10 hit)
  | inr miss ↦ let h = rw miss at e in absurd (omega arith)
]
cut_at (b ∷ bs) (suc m) e lt = elim (either (is_ten b)) [
  | inl hit ↦ let h = rw hit at e in absurd (omega arith)
  | inr miss ↦
      let h = rw miss at e in
      ap (λ (xs : List ℕ). b ∷ xs) (cut_at bs m (omega arith) (omega arith))
]

-- what stands before the first byte 10 is one line, whatever follows
ends_at : (text : List ℕ) (n : ℕ) → n ≤ position_or_len is_ten text → (more : List ℕ) → lines_of (take n text ++ 10 ∷ more) ≡ take n text ∷ lines_of more
ends_at [] zero le more = refl
ends_at [] (suc m) le more = refl
ends_at (b ∷ bs) zero le more = refl
ends_at (b ∷ bs) (suc m) le more = elim (either (is_ten b)) [
  | inl hit ↦ let h = rw hit at le in absurd (omega arith)
  | inr miss ↦
      let h = rw miss at le in
      let rest : lines_of (take m bs ++ 10 ∷ more) ≡ take m bs ∷ lines_of more = ends_at bs m (omega arith) more in
      rw (miss, rest) refl
]

at_some : (b : Bool) (n m : ℕ) → cond b (Some n) None ≡ Some m → (b ≡ true) × (n ≡ m)
at_some true n m e = (refl, cc)
at_some false n m e = absurd cc

at_none : (b : Bool) (n : ℕ) → cond b (Some n) None ≡ None → b ≡ false
at_none true n e = absurd cc
at_none false n e = refl

pub line_found : (text : List ℕ) (n : ℕ) → position is_ten text ≡ Some n → IsFirstLine text (take n text) (take (length text - (n + 1)) (drop (n + 1) text))
line_found text n e =
    let h = at_some (nat_lt (position_or_len is_ten text) (length text)) (position_or_len is_ten text) n e in
    let lt : position_or_len is_ten text < length text = ltb-true _ _ h.0 in
    let same : position_or_len is_ten text ≡ n = h.1 in
    let rest : take (length text - (n + 1)) (drop (n + 1) text) ≡ drop (suc n) text = rw (add-one, ← length-drop (suc n) text) (take-length (drop (suc n) text)) in
    record {
      parts = inl (subst (λ (r : List ℕ). text ≡ take n text ++ 10 ∷ r) (sym rest) (cut_at text n (sym same) (omega (arith, lt, same))));
      ends = ends_at text n (omega (arith, same));
      lines = lines_found text n e;
    }

pub line_whole : (text : List ℕ) → 0 < length text → position is_ten text ≡ None → IsFirstLine text text []
line_whole text some e =
    let le : length text ≤ position_or_len is_ten text = ltb-false _ _ (at_none (nat_lt (position_or_len is_ten text) (length text)) (position_or_len is_ten text) e) in
    record {
      parts = inr (refl, refl);
      ends = λ more. subst (λ (xs : List ℕ). lines_of (xs ++ 10 ∷ more) ≡ xs ∷ lines_of more) (take-length text) (ends_at text (length text) le more);
      lines = lines_not_found text some e;
    }

-- Lines without the mark were passed, and the rest is left.
pub record HasPassed (text left : List ℕ) (place : ℕ) : Type 0 where
  pub done : List ℕ
  pub parts : text ≡ done ++ left
  pub long : place ≡ length done
  pub lines : lines_of text ≡ lines_of done ++ lines_of left
  pub none : HasNoMark done
  pub closed : ((more : List ℕ) → lines_of (done ++ more) ≡ lines_of done ++ lines_of more) ⊎ (left ≡ [])

not_empty : (xs : List ℕ) → 0 < length xs → xs ≡ [] → ⊥
not_empty [] some is = absurd (omega (arith, some))
not_empty (x ∷ xs) some is = absurd cc

module _ (text left line after : List ℕ) (place : ℕ) (h : HasPassed text left place) (some : 0 < length left) (first : IsFirstLine left line after) where
  all_lines : lines_of text ≡ (lines_of h.done ++ line ∷ []) ++ lines_of after
  all_lines = h.lines ∙ ap (λ (ls : List (List ℕ)). lines_of h.done ++ ls) first.lines ∙ sym (append_assoc (lines_of h.done) (line ∷ []) (lines_of after))

  module _ (other : line ≢ mark) where
    without : All (λ (l : List ℕ). l ≢ mark) (lines_of h.done ++ line ∷ [])
    without = All-push (λ (l : List ℕ). l ≢ mark) (lines_of h.done) line h.none other

    by : ((more : List ℕ) → lines_of (h.done ++ more) ≡ lines_of h.done ++ lines_of more) ⊎ (left ≡ []) → (left ≡ line ++ 10 ∷ after) ⊎ ((left ≡ line) × (after ≡ [])) → HasPassed text after (length text - length after)
    by (inr none) p = absurd (not_empty left some none)
    by (inl closed) (inl whole) =
        let one : (more : List ℕ) → lines_of (h.done ++ (line ++ 10 ∷ more)) ≡ (lines_of h.done ++ line ∷ []) ++ lines_of more
        = λ more. closed (line ++ 10 ∷ more) ∙ ap (λ (ls : List (List ℕ)). lines_of h.done ++ ls) (first.ends more) ∙ sym (append_assoc (lines_of h.done) (line ∷ []) (lines_of more)) in
        let own : lines_of (h.done ++ (line ++ 10 ∷ [])) ≡ lines_of h.done ++ line ∷ [] = one [] ∙ append-nil (lines_of h.done ++ line ∷ []) in
        let again : (more : List ℕ) → (h.done ++ (line ++ 10 ∷ [])) ++ more ≡ h.done ++ (line ++ 10 ∷ more)
        = λ more. append_assoc h.done (line ++ 10 ∷ []) more ∙ ap (λ (xs : List ℕ). h.done ++ xs) (append_assoc line (10 ∷ []) more) in
        let whole_text : text ≡ (h.done ++ (line ++ 10 ∷ [])) ++ after = h.parts ∙ ap (λ (xs : List ℕ). h.done ++ xs) whole ∙ sym (again after) in
        let count : length text ≡ length (h.done ++ (line ++ 10 ∷ [])) + length after = ap (λ (xs : List ℕ). length xs) whole_text ∙ length-append (h.done ++ (line ++ 10 ∷ [])) after in
        record {
          done = h.done ++ (line ++ 10 ∷ []);
          parts = whole_text;
          long = omega (arith, count);
          lines = all_lines ∙ ap (λ (ls : List (List ℕ)). ls ++ lines_of after) (sym own);
          none = subst (λ (ls : List (List ℕ)). All (λ (l : List ℕ). l ≢ mark) ls) (sym own) without;
          closed = inl (λ more. ap (λ (xs : List ℕ). lines_of xs) (again more) ∙ one more ∙ ap (λ (ls : List (List ℕ)). ls ++ lines_of more) (sym own));
        }
    by (inl closed) (inr whole) =
        let own : lines_of text ≡ lines_of h.done ++ line ∷ [] = all_lines ∙ ap (λ (xs : List ℕ). (lines_of h.done ++ line ∷ []) ++ lines_of xs) whole.1 ∙ append-nil (lines_of h.done ++ line ∷ []) in
        subst (λ (r : List ℕ). HasPassed text r (length text - length r)) (sym whole.1) (record {
          done = text;
          parts = sym (append-nil text);
          long = omega arith;
          lines = sym (append-nil (lines_of text));
          none = subst (λ (ls : List (List ℕ)). All (λ (l : List ℕ). l ≢ mark) ls) (sym own) without;
          closed = inr refl;
        })

    pub passed : HasPassed text after (length text - length after)
    passed = by h.closed first.parts

  pub parted : line ≡ mark → IsParted text (take place text) after
  parted is =
      let front : take place text ≡ h.done = ap (λ (n : ℕ). take n text) h.long ∙ ap (λ (xs : List ℕ). take (length h.done) xs) h.parts ∙ take-append_seam h.done left in
      subst (λ (s : List ℕ). IsParted text s after) (sym front) (record {
        parts = by_parts first.parts;
        lines = h.lines ∙ ap (λ (ls : List (List ℕ)). lines_of h.done ++ ls) (first.lines ∙ ap (λ (l : List ℕ). l ∷ lines_of after) is);
        first = h.none;
      })
    where
      by_parts : (left ≡ line ++ 10 ∷ after) ⊎ ((left ≡ line) × (after ≡ [])) → (text ≡ h.done ++ (mark ++ 10 ∷ after)) ⊎ ((text ≡ h.done ++ mark) × (after ≡ []))
      by_parts (inl whole) = inl (h.parts ∙ ap (λ (xs : List ℕ). h.done ++ xs) (whole ∙ ap (λ (l : List ℕ). l ++ 10 ∷ after) is))
      by_parts (inr whole) = inr (h.parts ∙ ap (λ (xs : List ℕ). h.done ++ xs) (whole.0 ∙ is), whole.1)

pub is_the_mark : (line : List ℕ) → bytes_eq line mark ≡ true → line ≡ mark
is_the_mark line is = (bytes_eq-Decides line mark).0 is

pub is_no_mark : (line : List ℕ) → bytes_eq line mark ≡ false → line ≢ mark
is_no_mark line is same = let z : true ≡ false = sym ((bytes_eq-Decides line mark).1 same) ∙ is in absurd cc

-- the first mark alone takes the text apart

before_first : (m : List ℕ) (xs ys zs ws : List (List ℕ)) → All (λ (l : List ℕ). l ≢ m) xs → All (λ (l : List ℕ). l ≢ m) ys → xs ++ m ∷ zs ≡ ys ++ m ∷ ws → xs ≡ ys
before_first m [] [] zs ws a b e = refl
before_first m [] (y ∷ ys) zs ws a b e = let same : m ≡ y = cc in absurd (All-head (λ (l : List ℕ). l ≢ m) y ys b (sym same))
before_first m (x ∷ xs) [] zs ws a b e = let same : x ≡ m = cc in absurd (All-head (λ (l : List ℕ). l ≢ m) x xs a same)
before_first m (x ∷ xs) (y ∷ ys) zs ws a b e =
    let one : x ≡ y = cc in
    let more : xs ++ m ∷ zs ≡ ys ++ m ∷ ws = cc in
    let rest : xs ≡ ys = before_first m xs ys zs ws (All-tail (λ (l : List ℕ). l ≢ m) x xs a) (All-tail (λ (l : List ℕ). l ≢ m) y ys b) more in
    (λ j. one j ∷ rest j)

pub one_script : (text s r t q : List ℕ) → IsParted text s r → IsParted text t q → lines_of s ≡ lines_of t
one_script text s r t q a b = before_first mark (lines_of s) (lines_of t) (lines_of r) (lines_of q) a.first b.first (sym a.lines ∙ b.lines)

has_mark : (m : List ℕ) (xs zs : List (List ℕ)) → All (λ (l : List ℕ). l ≢ m) (xs ++ m ∷ zs) → ⊥
has_mark m [] zs a = All-head (λ (l : List ℕ). l ≢ m) m zs a refl
has_mark m (x ∷ xs) zs a = has_mark m xs zs (All-tail (λ (l : List ℕ). l ≢ m) x (xs ++ m ∷ zs) a)

pub not_both : (text s r : List ℕ) → HasNoMark text → IsParted text s r → ⊥
not_both text s r none p = has_mark mark (lines_of s) (lines_of r) (subst (λ (ls : List (List ℕ)). All (λ (l : List ℕ). l ≢ mark) ls) p.lines none)
