-- A text is the spelling of one row, and of one list of rows, and the rest behind it is one too.
use Rattle.std.proofs.Common.{◌≡◌, ℕ, ◌+◌, ◌^◌, ◌<◌, List, [], ◌∷◌, ◌++◌, length, refl, sym, ap, subst, ◌∙◌, append_assoc, arith, Option, Some, None}
use Rattle.std.specs.List.{flat_map}
use Rattle.cf_base.specs.declared.spans.Span.{Span}
use Rattle.cf_codec.specs.declared.formats.Format.{Format}
use Rattle.cf_codec.specs.declared.formats.Format.TheVariants.{First, Second}
use Rattle.cf_model.specs.FirstRows as first
use Rattle.cf_model.specs.Rows.{Extent, spell_extent, spell_extents, spell_head, spell_run, spell_runs}
use Rattle.cf_model.specs.Rows as model
use Rattle.cf_model.specs.Words.{in_bytes}
use Rattle.cf_table.specs.Faults.{AreTable}
use Rattle.cf_table.specs.Reading.{AreExtents, AreExtentsFrom, AreRowsIn, AreRunsFrom, IsExtent, IsRowIn, IsRun, IsSet, head_bytes, head_of, identity_bytes, name_bytes}
use Rattle.cf_table.specs.Spelling.{spell_row_in, spell_rows_in}
use Rattle.cf_table.specs.declared.heads.Head.{Head}
use Rattle.cf_table.proofs.OneText.{OneOf, one_4, one_head, one_identity, one_name}

-- sets

pub one_run : (low : ℕ) → OneOf (IsRun low) spell_run
one_run low m n a b h k e =
    let s : m.start < 2 ^ 32 = omega (arith, h.2) in
    let t : n.start < 2 ^ 32 = omega (arith, k.2) in
    let u : m.len < 2 ^ 32 = omega (arith, h.2) in
    let v : n.len < 2 ^ 32 = omega (arith, k.2) in
    let p = one_4 m.start n.start (in_bytes 4 m.len ++ a) (in_bytes 4 n.len ++ b) s t e in
    let q = one_4 m.len n.len a b u v p.1 in
    (same m.start n.start m.len n.len p.0 q.0, q.1) where
      same : (a b c d : ℕ) → a ≡ b → c ≡ d → ◌≡◌ {A = Span} (record { start = a; len = c }) (record { start = b; len = d })
      same a b c d e f = ap (λ x. record { start = x; len = c }) e ∙ ap (λ x. record { start = b; len = x }) f

one_spans : (low : ℕ) (xs ys : List Span) (a b : List ℕ) → length xs ≡ length ys → AreRunsFrom low xs → AreRunsFrom low ys → flat_map spell_run xs ++ a ≡ flat_map spell_run ys ++ b → (xs ≡ ys) × (a ≡ b)
one_spans low [] [] a b l h k e = (refl, e)
one_spans low [] (y ∷ ys) a b l h k e = absurd (omega arith)
one_spans low (x ∷ xs) [] a b l h k e = absurd (omega arith)
one_spans low (x ∷ xs) (y ∷ ys) a b l h k e =
    let p = one_run low x y (flat_map spell_run xs ++ a) (flat_map spell_run ys ++ b) h.0 k.0 e in
    let q = one_spans (x.start + x.len + 1) xs ys a b (omega arith) h.1 (subst (λ (z : Span). AreRunsFrom (z.start + z.len + 1) ys) (sym p.0) k.1) p.1 in
    (ap (λ v. v ∷ xs) p.0 ∙ ap (λ v. y ∷ v) q.0, q.1)

pub one_set : OneOf IsSet spell_runs
one_set m n a b h k e =
    let p = one_4 (length m) (length n) (flat_map spell_run m ++ a) (flat_map spell_run n ++ b) h.0 k.0 e in
    one_spans 0 m n a b p.0 h.1 k.1 p.1

pub one_extent : (low : ℕ) → OneOf (IsExtent low) spell_extent
one_extent low m n a b h k e =
    let p = one_4 m.block n.block (in_bytes 4 m.cluster ++ a) (in_bytes 4 n.cluster ++ b) h.1 k.1 e in
    let q = one_4 m.cluster n.cluster a b h.2 k.2 p.1 in
    (same m.block n.block m.cluster n.cluster p.0 q.0, q.1) where
      same : (a b c d : ℕ) → a ≡ b → c ≡ d → ◌≡◌ {A = Extent} (record { block = a; cluster = c }) (record { block = b; cluster = d })
      same a b c d e f = ap (λ x. record { block = x; cluster = c }) e ∙ ap (λ x. record { block = b; cluster = x }) f

one_extent_list : (low : ℕ) (xs ys : List Extent) (a b : List ℕ) → length xs ≡ length ys → AreExtentsFrom low xs → AreExtentsFrom low ys → flat_map spell_extent xs ++ a ≡ flat_map spell_extent ys ++ b → (xs ≡ ys) × (a ≡ b)
one_extent_list low [] [] a b l h k e = (refl, e)
one_extent_list low [] (y ∷ ys) a b l h k e = absurd (omega arith)
one_extent_list low (x ∷ xs) [] a b l h k e = absurd (omega arith)
one_extent_list low (x ∷ xs) (y ∷ ys) a b l h k e =
    let p = one_extent low x y (flat_map spell_extent xs ++ a) (flat_map spell_extent ys ++ b) h.0 k.0 e in
    let q = one_extent_list (x.block + 1) xs ys a b (omega arith) h.1 (subst (λ (z : Extent). AreExtentsFrom (z.block + 1) ys) (sym p.0) k.1) p.1 in
    (ap (λ v. v ∷ xs) p.0 ∙ ap (λ v. y ∷ v) q.0, q.1)

pub one_map : OneOf AreExtents spell_extents
one_map m n a b h k e =
    let p = one_4 (length m) (length n) (flat_map spell_extent m ++ a) (flat_map spell_extent n ++ b) h.0 k.0 e in
    one_extent_list 0 m n a b p.0 h.1 k.1 p.1

-- rows

-- the parts of a spelled row, each in front of those behind it
abbrev pub in_parts : List ℕ → List ℕ → List ℕ → List Span → List Span → List Span → List Span → List Extent → List ℕ → List ℕ
in_parts head name identity here valid modified since extents more =
    head ++ (name_bytes name ++ (identity_bytes identity ++ (spell_runs here ++ (spell_runs valid ++ (spell_runs modified ++ (spell_runs since ++ (spell_extents extents ++ more)))))))

eight_parts : (head n c i p q r s t more : List ℕ) → (head ++ ((n ++ c) ++ i) ++ ((((p ++ q) ++ r) ++ s) ++ t)) ++ more ≡ head ++ (n ++ ((c ++ i) ++ (p ++ (q ++ (r ++ (s ++ (t ++ more)))))))
eight_parts head n c i p q r s t more = simp append_assoc

parts_of : (head n i p q s t x more : List ℕ) → (head ++ ((length n ∷ n) ++ in_bytes 2 (length i) ++ i) ++ (p ++ q ++ s ++ t ++ x)) ++ more
    ≡ head ++ (name_bytes n ++ (identity_bytes i ++ (p ++ (q ++ (s ++ (t ++ (x ++ more)))))))
parts_of head n i p q s t x more = eight_parts head (length n ∷ n) (in_bytes 2 (length i)) i p q s t x more

pub row_parts : (f : Format) (r : model.Row) (more : List ℕ) → spell_row_in f r ++ more ≡ in_parts (head_bytes f (head_of r)) r.name r.identity r.here r.valid r.modified r.modified_since r.extents more
row_parts First r more = parts_of (first.spell_head r) r.name r.identity (spell_runs r.here) (spell_runs r.valid) (spell_runs r.modified) (spell_runs r.modified_since) (spell_extents r.extents) more
row_parts Second r more = parts_of (spell_head r) r.name r.identity (spell_runs r.here) (spell_runs r.valid) (spell_runs r.modified) (spell_runs r.modified_since) (spell_extents r.extents) more

abbrev row_from : Head → List ℕ → List ℕ → List Span → List Span → List Span → List Span → List Extent → model.Row
row_from h name identity here valid modified since extents = record {
  id = h.who.id;
  parent = h.who.parent;
  directory = h.basics.flags.dir;
  placeholder = h.basics.flags.placeholder;
  populated = h.basics.flags.populated;
  in_sync = h.basics.flags.in_sync;
  dirty = h.basics.flags.dirty;
  dirty_since = h.basics.flags.dirty_since;
  keep = h.basics.flags.keep;
  pin = h.basics.pin;
  size = h.basics.lengths.size;
  base = h.basics.lengths.base;
  number = h.numbers.number;
  anchor = h.numbers.anchor;
  last = h.numbers.last;
  name = name;
  identity = identity;
  here = here;
  valid = valid;
  modified = modified;
  modified_since = since;
  extents = extents;
}

same_row : (h h' : Head) (n n' i i' : List ℕ) (p p' q q' r r' s s' : List Span) (t t' : List Extent) → h ≡ h' → n ≡ n' → i ≡ i' → p ≡ p' → q ≡ q' → r ≡ r' → s ≡ s' → t ≡ t' →
    row_from h n i p q r s t ≡ row_from h' n' i' p' q' r' s' t'
same_row h h' n n' i i' p p' q q' r r' s s' t t' a b c d e f g j =
    ap (λ x. row_from x n i p q r s t) a ∙ ap (λ x. row_from h' x i p q r s t) b ∙ ap (λ x. row_from h' n' x p q r s t) c ∙ ap (λ x. row_from h' n' i' x q r s t) d
    ∙ ap (λ x. row_from h' n' i' p' x r s t) e ∙ ap (λ x. row_from h' n' i' p' q' x s t) f ∙ ap (λ x. row_from h' n' i' p' q' r' x t) g ∙ ap (λ x. row_from h' n' i' p' q' r' s' x) j

-- a row is made of its parts
same_parts : (r s : model.Row) → head_of r ≡ head_of s → r.name ≡ s.name → r.identity ≡ s.identity → r.here ≡ s.here → r.valid ≡ s.valid → r.modified ≡ s.modified → r.modified_since ≡ s.modified_since → r.extents ≡ s.extents → r ≡ s
same_parts r s a b c d e f g j =
    same_row (head_of r) (head_of s) r.name s.name r.identity s.identity r.here s.here r.valid s.valid r.modified s.modified r.modified_since s.modified_since r.extents s.extents a b c d e f g j

pub one_row : (f : Format) (before : Option ℕ) → OneOf (IsRowIn f before) (spell_row_in f)
one_row f before m n a b h k e =
    let z : in_parts (head_bytes f (head_of m)) m.name m.identity m.here m.valid m.modified m.modified_since m.extents a
    ≡ in_parts (head_bytes f (head_of n)) n.name n.identity n.here n.valid n.modified n.modified_since n.extents b = sym (row_parts f m a) ∙ e ∙ row_parts f n b in
    let p = one_head f before (head_of m) (head_of n) _ _ h.head k.head z in
    let q = one_name m.name n.name _ _ h.name k.name p.1 in
    let r = one_identity m.identity n.identity _ _ h.identity k.identity q.1 in
    let s = one_set m.here n.here _ _ h.here k.here r.1 in
    let t = one_set m.valid n.valid _ _ h.valid k.valid s.1 in
    let u = one_set m.modified n.modified _ _ h.modified k.modified t.1 in
    let v = one_set m.modified_since n.modified_since _ _ h.modified_since k.modified_since u.1 in
    let w = one_map m.extents n.extents a b h.extents k.extents v.1 in
    (same_parts m n p.0 q.0 r.0 s.0 t.0 u.0 v.0 w.0, w.1)

pub one_row_list : (f : Format) (before : Option ℕ) (xs ys : List model.Row) (a b : List ℕ) → length xs ≡ length ys → AreRowsIn f before xs → AreRowsIn f before ys → flat_map (spell_row_in f) xs ++ a ≡ flat_map (spell_row_in f) ys ++ b → (xs ≡ ys) × (a ≡ b)
one_row_list f before [] [] a b l h k e = (refl, e)
one_row_list f before [] (y ∷ ys) a b l h k e = absurd (omega arith)
one_row_list f before (x ∷ xs) [] a b l h k e = absurd (omega arith)
one_row_list f before (x ∷ xs) (y ∷ ys) a b l h k e =
    let z : spell_row_in f x ++ (flat_map (spell_row_in f) xs ++ a) ≡ spell_row_in f y ++ (flat_map (spell_row_in f) ys ++ b) = sym (append_assoc (spell_row_in f x) (flat_map (spell_row_in f) xs) a) ∙ e ∙ append_assoc (spell_row_in f y) (flat_map (spell_row_in f) ys) b in
    let p = one_row f before x y (flat_map (spell_row_in f) xs ++ a) (flat_map (spell_row_in f) ys ++ b) h.0 k.0 z in
    let q = one_row_list f (Some x.id.0) xs ys a b (omega arith) h.1 (subst (λ (z : model.Row). AreRowsIn f (Some z.id.0) ys) (sym p.0) k.1) p.1 in
    (ap (λ v. v ∷ xs) p.0 ∙ ap (λ v. y ∷ v) q.0, q.1)

pub one_table : (f : Format) → OneOf (AreTable f) (spell_rows_in f)
one_table f m n a b h k e =
    let p = one_4 (length m) (length n) (flat_map (spell_row_in f) m ++ a) (flat_map (spell_row_in f) n ++ b) h.0 k.0 e in
    one_row_list f None m n a b p.0 h.1 k.1 p.1
