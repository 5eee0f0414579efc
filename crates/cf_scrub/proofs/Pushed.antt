-- Lists of damages that grow.
use Rattle.std.proofs.Common.{◌≡◌, ℕ, ◌+◌, ◌<◌, ◌≤◌, Bool, true, false, ◌&&◌, List, [], ◌∷◌, ◌++◌, length, get_or, drop, refl, sym, ap, subst, ◌∙◌, append_assoc, arith, leb}
use Rattle.std.proofs.lemmas.Bool.{le-leb, leb-true}
use Rattle.std.proofs.lemmas.List.{append-nil}
use Rattle.std.specs.Bool.{Decides}
use Rattle.std.specs.Prelude.{OnOk, Result, Ok, Err, is_some, map, nat_le}
use Rattle.cf_model.specs.Formats.{Image}
use Rattle.cf_model.specs.Numbers.{root_id}
use Rattle.cf_model.specs.Rows as model
use Rattle.cf_scrub.specs.Blocks.{AreMarks, are_blocks_of, is_free, with_held}
use Rattle.cf_scrub.specs.RowTests.{has_sound_runs, is_sound_row}
use Rattle.cf_scrub.specs.States.{cluster_damages, damages, is_within, row_damages, rows_damages, unless}
use Rattle.cf_scrub.specs.Ways.{is_in_tree}
use Rattle.cf_scrub.specs.declared.damages.Damage.{Damage}
use Rattle.cf_scrub.specs.declared.damages.DamageKind.TheVariants as kind
use Rattle.cf_codec.specs.declared.formats.Format.{Format}
use Rattle.cf_table.specs.Spelling.{extent_of, row_value}
use Rattle.cf_table.specs.declared.rows.Row.{Row}
use Rattle.cf_volume_image.specs.Contents.{row_at}
use Rattle.cf_volume_image.proofs.Loops.{drop_at, drop_end, drop_get}

pub join : (x y z s : List Damage) → x ≡ y ++ z → x ++ s ≡ y ++ (z ++ s)
join x y z s h = ap (λ (o : List Damage). o ++ s) h ∙ append_assoc y z s

pub within_is : (a b n m : ℕ) (t : Bool) → Decides t ((a ≤ 10000) × (n ≤ m)) → b ≡ a → t ≡ (nat_le b 10000 && nat_le n m)
within_is a b n m true d e = let p = d.0 refl in sym (two (leb b 10000) (leb n m) (le-leb b 10000 (omega (arith, e, p.0))) (le-leb n m p.1)) where
  two : (x y : Bool) → x ≡ true → y ≡ true → (x && y) ≡ true
  two x y h k = ap (λ v. v && y) h ∙ k
within_is a b n m false d e = by (leb b 10000) (leb n m) (λ h k. d.1 (omega (arith, e, leb-true b 10000 h), leb-true n m k)) where
  by : (x y : Bool) → (x ≡ true → y ≡ true → false ≡ true) → false ≡ (x && y)
  by true true f = f refl refl
  by true false f = refl
  by false y f = refl

-- clusters

pub clusters_step : (clusters i : ℕ) (ps : List (ℕ × ℕ)) (now : List ℕ) (old new all : List Damage) (free : Bool) → i < length ps → free ≡ is_free clusters now (get_or ps i (0, 0)).1
    → new ≡ old ++ unless free kind.Cluster (get_or ps i (0, 0)).1 → old ++ cluster_damages clusters now (map extent_of (drop i ps)) ≡ all
    → new ++ cluster_damages clusters ((get_or ps i (0, 0)).1 ∷ now) (map extent_of (drop (i + 1) ps)) ≡ all
clusters_step clusters i ps now old new all free lt is puts so =
    let n : ℕ = (get_or ps i (0, 0)).1 in
    let rest : List Damage = cluster_damages clusters (n ∷ now) (map extent_of (drop (i + 1) ps)) in
    join new old (unless free kind.Cluster n) rest puts
    ∙ ap (λ v. old ++ (unless v kind.Cluster n ++ rest)) is
    ∙ ap (λ (l : List (ℕ × ℕ)). old ++ cluster_damages clusters now (map extent_of l)) (sym (drop_get ps i (0, 0) lt)) ∙ so

pub held_step : (i : ℕ) (ps : List (ℕ × ℕ)) (now all : List ℕ) → i < length ps → with_held now (map extent_of (drop i ps)) ≡ all → with_held ((get_or ps i (0, 0)).1 ∷ now) (map extent_of (drop (i + 1) ps)) ≡ all
held_step i ps now all lt so = ap (λ (l : List (ℕ × ℕ)). with_held now (map extent_of l)) (sym (drop_get ps i (0, 0) lt)) ∙ so

pub clusters_end : (clusters i : ℕ) (ps : List (ℕ × ℕ)) (now : List ℕ) (out all : List Damage) → length ps ≤ i → out ++ cluster_damages clusters now (map extent_of (drop i ps)) ≡ all → out ≡ all
clusters_end clusters i ps now out all le so = sym (append-nil out) ∙ ap (λ (l : List (ℕ × ℕ)). out ++ cluster_damages clusters now (map extent_of l)) (sym (drop_end ps i le)) ∙ so

pub held_end : (clusters i : ℕ) (ps : List (ℕ × ℕ)) (now all : List ℕ) (marks : List Bool) → length ps ≤ i → AreMarks clusters now marks → with_held now (map extent_of (drop i ps)) ≡ all → AreMarks clusters all marks
held_end clusters i ps now all marks le m so = subst (λ (h : List ℕ). AreMarks clusters h marks) (ap (λ (l : List (ℕ × ℕ)). with_held now (map extent_of l)) (sym (drop_end ps i le)) ∙ so) m

-- a row

pub row_pushed : (i : Image) (clusters : ℕ) (held : List ℕ) (r : model.Row) (old x1 x2 x3 x4 x5 : List Damage) (t1 t2 t3 t4 : Bool) → t1 ≡ is_in_tree i.rows r → t2 ≡ is_sound_row i.rows i.header.next i.header.last r
    → t3 ≡ has_sound_runs r → t4 ≡ are_blocks_of r.extents r.here → x1 ≡ old ++ unless t1 kind.Tree r.id.0 → x2 ≡ x1 ++ unless t2 kind.Row r.id.0 → x3 ≡ x2 ++ unless t3 kind.Runs r.id.0
    → x4 ≡ x3 ++ unless t4 kind.Extents r.id.0 → x5 ≡ x4 ++ cluster_damages clusters held r.extents → x5 ≡ old ++ row_damages i clusters held r
row_pushed i clusters held r old x1 x2 x3 x4 x5 t1 t2 t3 t4 e1 e2 e3 e4 h1 h2 h3 h4 h5 =
    let e : List Damage = cluster_damages clusters held r.extents in
    let d : List Damage = unless (are_blocks_of r.extents r.here) kind.Extents r.id.0 ++ e in
    let b : List Damage = unless (has_sound_runs r) kind.Runs r.id.0 ++ d in
    let a : List Damage = unless (is_sound_row i.rows i.header.next i.header.last r) kind.Row r.id.0 ++ b in
    h5
    ∙ join x4 x3 (unless (are_blocks_of r.extents r.here) kind.Extents r.id.0) e (h4 ∙ ap (λ v. x3 ++ unless v kind.Extents r.id.0) e4)
    ∙ join x3 x2 (unless (has_sound_runs r) kind.Runs r.id.0) d (h3 ∙ ap (λ v. x2 ++ unless v kind.Runs r.id.0) e3)
    ∙ join x2 x1 (unless (is_sound_row i.rows i.header.next i.header.last r) kind.Row r.id.0) b (h2 ∙ ap (λ v. x1 ++ unless v kind.Row r.id.0) e2)
    ∙ join x1 old (unless (is_in_tree i.rows r) kind.Tree r.id.0) a (h1 ∙ ap (λ v. old ++ unless v kind.Tree r.id.0) e1)

pub on_ok : {T E : Type 0} {P Q : Type 0} (r : Result T E) → (P → Q) → OnOk r P → OnOk r Q
on_ok (Ok x) f h = f h
on_ok (Err e) f h = tt

pub rows_step : (i : Image) (clusters k : ℕ) (rows : List Row) (r : Row) (now : List ℕ) (old new all : List Damage) → k < length rows → r ≡ get_or rows k r → new ≡ old ++ row_damages i clusters now (row_value r)
    → old ++ rows_damages i clusters now (map row_value (drop k rows)) ≡ all → new ++ rows_damages i clusters (with_held now (map extent_of r.extents)) (map row_value (drop (k + 1) rows)) ≡ all
rows_step i clusters k rows r now old new all lt is puts so =
    join new old (row_damages i clusters now (row_value r)) (rows_damages i clusters (with_held now (map extent_of r.extents)) (map row_value (drop (k + 1) rows))) puts
    ∙ ap (λ (l : List Row). old ++ rows_damages i clusters now (map row_value l)) (sym (drop_at rows k r lt is)) ∙ so

pub rows_end : (i : Image) (clusters k : ℕ) (rows : List Row) (now : List ℕ) (out all : List Damage) → length rows ≤ k → out ++ rows_damages i clusters now (map row_value (drop k rows)) ≡ all → out ≡ all
rows_end i clusters k rows now out all le so = sym (append-nil out) ∙ ap (λ (l : List Row). out ++ rows_damages i clusters now (map row_value l)) (sym (drop_end rows k le)) ∙ so

pub all_pushed : (f : Format) (clusters : ℕ) (i : Image) (rows : List model.Row) (none x1 x2 x3 : List Damage) (t1 t2 : Bool) → none ≡ [] → rows ≡ i.rows → t1 ≡ is_within f i → t2 ≡ is_some (row_at i.rows root_id)
    → x1 ≡ none ++ unless t1 kind.Large 0 → x2 ≡ x1 ++ unless t2 kind.Tree 1 → x3 ≡ x2 ++ rows_damages i clusters [] rows → x3 ≡ damages f clusters i
all_pushed f clusters i rows none x1 x2 x3 t1 t2 n r e1 e2 h1 h2 h3 =
    let c : List Damage = rows_damages i clusters [] i.rows in
    h3 ∙ ap (λ (l : List model.Row). x2 ++ rows_damages i clusters [] l) r
    ∙ join x2 x1 (unless (is_some (row_at i.rows root_id)) kind.Tree 1) c (h2 ∙ ap (λ v. x1 ++ unless v kind.Tree 1) e2)
    ∙ ap (λ (l : List Damage). l ++ (unless (is_some (row_at i.rows root_id)) kind.Tree 1 ++ c)) (h1 ∙ ap (λ (l : List Damage). l ++ unless t1 kind.Large 0) n ∙ ap (λ v. unless v kind.Large 0) e1)
