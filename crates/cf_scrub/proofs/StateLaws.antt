-- A state without a damage is that of a volume.
use Rattle.std.proofs.Common.{◌≡◌, ℕ, ◌≤◌, true, false, List, [], ◌∷◌, ◌++◌, length, refl, sym, ap, subst, ◌∙◌, leb, inl, inr}
use Rattle.std.proofs.lemmas.Bool.{le-leb, leb-true}
use Rattle.std.specs.Prelude.{is_some, map}
use Rattle.cf_base.specs.declared.limits.TheConstants.{MOST_ITEMS}
use Rattle.cf_codec.specs.declared.formats.Format.{Format}
use Rattle.cf_model.specs.Formats.{Header, Image}
use Rattle.cf_model.specs.Numbers.{root_id}
use Rattle.cf_model.specs.Rows as model
use Rattle.cf_model.specs.Rows.{IsSoundRow}
use Rattle.cf_model.specs.Standing.{AreSound, clusters_of}
use Rattle.cf_scrub.specs.Blocks.{are_blocks_of, with_held}
use Rattle.cf_scrub.specs.RowTests.{has_sound_runs, is_sound_row}
use Rattle.cf_scrub.specs.States.{cluster_damages, damages, is_within, row_damages, rows_damages, unless}
use Rattle.cf_scrub.specs.Ways.{is_in_tree}
use Rattle.cf_scrub.specs.declared.damages.Damage.{Damage}
use Rattle.cf_scrub.specs.declared.damages.DamageKind.TheVariants as kind
use Rattle.cf_scrub.proofs.Bools.{both, two}
use Rattle.cf_scrub.proofs.ClusterLaws.{all_free, apart_from, apart_told, back_none, free_from, free_told, front_none, passed}
use Rattle.cf_scrub.proofs.RowLaws.{kind_in, row_from, row_told}
use Rattle.cf_scrub.proofs.SetLaws.{holds_from, holds_told}
use Rattle.cf_scrub.proofs.TreeLaws.{Has, childless, in_tree_told, is_tree_from, of_tree, root_some}
use Rattle.cf_table.specs.Spelling.{row_value}
use Rattle.cf_table.specs.Tables.{AreTableRows, IsTableRow, RisesFrom}
use Rattle.cf_table.specs.declared.rows.Row.{Row}
use Rattle.cf_volume_image.specs.Contents.{header_of, image_of, row_at}
use Rattle.cf_volume_image.specs.Sound.{AllHoldBytes, HoldsBytes, IsSoundIn, most_image_in}
use Rattle.cf_volume_image.specs.Spelled.{spell_image_in}
use Rattle.cf_volume_image.specs.declared.contents.Contents.{Contents}
use Rattle.cf_volume_image.proofs.SoundTests.{tree_from, tree_told}
use Rattle.cf_volume_image.proofs.WholeSound.{IsSmall, same_length, small_of, sound_of, tree_of}

-- a row passes all tests
pub record Passes (i : Image) (r : model.Row) : Type 0 where
  pub placed : is_in_tree i.rows r ≡ true
  pub sound : is_sound_row i.rows i.header.next i.header.last r ≡ true
  pub runs : has_sound_runs r ≡ true
  pub extents : are_blocks_of r.extents r.here ≡ true

row_parts : (i : Image) (clusters : ℕ) (held : List ℕ) (r : model.Row) → row_damages i clusters held r ≡ [] → Passes i r × (cluster_damages clusters held r.extents ≡ [])
row_parts i clusters held r h =
    let e : List Damage = cluster_damages clusters held r.extents in
    let d1 : List Damage = unless (are_blocks_of r.extents r.here) kind.Extents r.id.0 in
    let c1 : List Damage = unless (has_sound_runs r) kind.Runs r.id.0 in
    let b1 : List Damage = unless (is_sound_row i.rows i.header.next i.header.last r) kind.Row r.id.0 in
    let a1 : List Damage = unless (is_in_tree i.rows r) kind.Tree r.id.0 in
    let hb = back_none a1 (b1 ++ (c1 ++ (d1 ++ e))) h in
    let hc = back_none b1 (c1 ++ (d1 ++ e)) hb in
    let hd = back_none c1 (d1 ++ e) hc in (
      record {
        placed = passed (is_in_tree i.rows r) kind.Tree r.id.0 (front_none a1 (b1 ++ (c1 ++ (d1 ++ e))) h);
        sound = passed (is_sound_row i.rows i.header.next i.header.last r) kind.Row r.id.0 (front_none b1 (c1 ++ (d1 ++ e)) hb);
        runs = passed (has_sound_runs r) kind.Runs r.id.0 (front_none c1 (d1 ++ e) hc);
        extents = passed (are_blocks_of r.extents r.here) kind.Extents r.id.0 (front_none d1 e hd);
      },
      back_none d1 e hd,
    )

each_passes : (i : Image) (clusters : ℕ) (held : List ℕ) (rows : List Row) → rows_damages i clusters held (map row_value rows) ≡ [] → (r : Row) → Has rows r → Passes i (row_value r)
each_passes i clusters held [] h r m = absurd m
each_passes i clusters held (x ∷ xs) h r m =
    let first = row_damages i clusters held (row_value x) in
    let rest = rows_damages i clusters (with_held held (row_value x).extents) (map row_value xs) in
    elim m [
      | inl e ↦ subst (λ (y : Row). Passes i (row_value y)) e (row_parts i clusters held (row_value x) (front_none first rest h)).0
      | inr t ↦ each_passes i clusters (with_held held (row_value x).extents) xs (back_none first rest h) r t
    ]

rows_free : (i : Image) (clusters : ℕ) (held : List ℕ) (rows : List model.Row) → rows_damages i clusters held rows ≡ [] → all_free clusters held (clusters_of rows) ≡ true
rows_free i clusters held [] h = refl
rows_free i clusters held (r ∷ rs) h =
    free_from clusters held (clusters_of rs) r.extents (row_parts i clusters held r (front_none (row_damages i clusters held r) (rows_damages i clusters (with_held held r.extents) rs) h)).1
    (rows_free i clusters (with_held held r.extents) rs (back_none (row_damages i clusters held r) (rows_damages i clusters (with_held held r.extents) rs) h))

pub kept_row : (rows : List Row) (r : Row) → AreTableRows rows → Has rows r → IsTableRow r
kept_row [] r k m = absurd m
kept_row (x ∷ xs) r k m = elim m [ inl e ↦ subst (λ (y : Row). IsTableRow y) e k.0 | inr t ↦ kept_row xs r k.1 t ]

sound_all : (h : Header) (rows : List Row) → ((r : Row) → Has rows r → IsSoundRow h.next h.last (row_value r)) → AreSound h (map row_value rows)
sound_all h [] f = tt
sound_all h (r ∷ rs) f = (f r (inl refl), sound_all h rs (λ x m. f x (inr m)))

hold_all : (rows : List Row) → ((r : Row) → Has rows r → HoldsBytes (row_value r)) → AllHoldBytes (map row_value rows)
hold_all [] f = tt
hold_all (r ∷ rs) f = (f r (inl refl), hold_all rs (λ x m. f x (inr m)))

small_from : (f : Format) (c : Contents) → is_within f (image_of c) ≡ true → IsSmall f c
small_from f c h =
    let w = two (leb (length (map row_value c.rows.rows)) MOST_ITEMS) (leb (length (spell_image_in f (image_of c))) (most_image_in f)) h in
    (subst (λ (n : ℕ). n ≤ 10000) (same_length c.rows.rows) (leb-true (length (map row_value c.rows.rows)) MOST_ITEMS w.0), leb-true (length (spell_image_in f (image_of c))) (most_image_in f) w.1)

pub sound_from : (f : Format) (clusters : ℕ) (c : Contents) → RisesFrom 0 c.rows.rows → AreTableRows c.rows.rows → damages f clusters (image_of c) ≡ [] → IsSoundIn f clusters (image_of c)
sound_from f clusters c rises kept h =
    let i : Image = image_of c in
    let rows : List Row = c.rows.rows in
    let large : List Damage = unless (is_within f i) kind.Large 0 in
    let root : List Damage = unless (is_some (row_at i.rows root_id)) kind.Tree 1 in
    let each : List Damage = rows_damages i clusters [] i.rows in
    let h2 = back_none large (root ++ each) h in
    let h3 = back_none root each h2 in
    let passes : (r : Row) → Has rows r → Passes i (row_value r) = each_passes i clusters [] rows h3 in
    sound_of f clusters c (small_from f c (passed (is_within f i) kind.Large 0 (front_none large (root ++ each) h)))
    (sound_all (header_of c) rows (λ r m. row_from i.rows c.rows.next c.last r (passes r m).sound (passes r m).runs))
    (tree_from rows rises (is_tree_from rows rises (passed (is_some (row_at i.rows root_id)) kind.Tree 1 (front_none root each h2)) (λ r m. (passes r m).placed) (λ r m. kind_in i.rows c.rows.next c.last (row_value r) (passes r m).sound)))
    (hold_all rows (λ r m. holds_from r (kept_row rows r kept m).stored.here (passes r m).extents))
    (apart_from clusters [] (clusters_of i.rows) (rows_free i clusters [] i.rows h3))

-- and back

row_none : (i : Image) (clusters : ℕ) (held : List ℕ) (r : model.Row) → Passes i r → cluster_damages clusters held r.extents ≡ [] → row_damages i clusters held r ≡ []
row_none i clusters held r p h =
    let e : List Damage = cluster_damages clusters held r.extents in
    let d : List Damage = unless (are_blocks_of r.extents r.here) kind.Extents r.id.0 ++ e in
    let c : List Damage = unless (has_sound_runs r) kind.Runs r.id.0 ++ d in
    let b : List Damage = unless (is_sound_row i.rows i.header.next i.header.last r) kind.Row r.id.0 ++ c in
    ap (λ t. unless t kind.Tree r.id.0 ++ b) p.placed ∙ ap (λ t. unless t kind.Row r.id.0 ++ c) p.sound ∙ ap (λ t. unless t kind.Runs r.id.0 ++ d) p.runs ∙ ap (λ t. unless t kind.Extents r.id.0 ++ e) p.extents ∙ h

rows_none : (i : Image) (clusters : ℕ) (held : List ℕ) (rows : List Row) → ((r : Row) → Has rows r → Passes i (row_value r)) → all_free clusters held (clusters_of (map row_value rows)) ≡ true → rows_damages i clusters held (map row_value rows) ≡ []
rows_none i clusters held [] f h = refl
rows_none i clusters held (r ∷ rs) f h =
    let w = free_told clusters held (clusters_of (map row_value rs)) (row_value r).extents h in
    ap (λ (l : List Damage). l ++ rows_damages i clusters (with_held held (row_value r).extents) (map row_value rs)) (row_none i clusters held (row_value r) (f r (inl refl)) w.0)
    ∙ rows_none i clusters (with_held held (row_value r).extents) rs (λ x m. f x (inr m)) w.1

row_sound : (h : Header) (rows : List Row) (r : Row) → AreSound h (map row_value rows) → Has rows r → IsSoundRow h.next h.last (row_value r)
row_sound h [] r s m = absurd m
row_sound h (x ∷ xs) r s m = elim m [ inl e ↦ subst (λ (y : Row). IsSoundRow h.next h.last (row_value y)) e s.0 | inr t ↦ row_sound h xs r s.1 t ]

row_holds : (rows : List Row) (r : Row) → AllHoldBytes (map row_value rows) → Has rows r → HoldsBytes (row_value r)
row_holds [] r s m = absurd m
row_holds (x ∷ xs) r s m = elim m [ inl e ↦ subst (λ (y : Row). HoldsBytes (row_value y)) e s.0 | inr t ↦ row_holds xs r s.1 t ]

within_told : (f : Format) (c : Contents) → IsSmall f c → is_within f (image_of c) ≡ true
within_told f c s =
    both (leb (length (map row_value c.rows.rows)) MOST_ITEMS) (leb (length (spell_image_in f (image_of c))) (most_image_in f))
    (le-leb (length (map row_value c.rows.rows)) MOST_ITEMS (subst (λ (n : ℕ). n ≤ 10000) (sym (same_length c.rows.rows)) s.0)) (le-leb (length (spell_image_in f (image_of c))) (most_image_in f) s.1)

pub none_told : (f : Format) (clusters : ℕ) (c : Contents) → RisesFrom 0 c.rows.rows → AreTableRows c.rows.rows → IsSoundIn f clusters (image_of c) → damages f clusters (image_of c) ≡ []
none_told f clusters c rises kept s =
    let i : Image = image_of c in
    let rows : List Row = c.rows.rows in
    let t = of_tree rows (tree_told rows rises (tree_of f clusters c s)) in
    let root : List Damage = unless (is_some (row_at i.rows root_id)) kind.Tree 1 in
    let each : List Damage = rows_damages i clusters [] i.rows in
    let passes : (r : Row) → Has rows r → Passes i (row_value r) = λ r m.
    let stored = (kept_row rows r kept m).stored in
    let w = row_told i.rows c.rows.next c.last r stored (row_sound (header_of c) rows r s.rows m) (λ d unlisted. childless rows r rises t m unlisted) in
    record { placed = in_tree_told rows r rises t m; sound = w.0; runs = w.1; extents = holds_told r stored.here (row_holds rows r s.blocks m) } in
    ap (λ b. unless b kind.Large 0 ++ (root ++ each)) (within_told f c (small_of f clusters c s))
    ∙ ap (λ b. unless b kind.Tree 1 ++ each) (root_some (row_at i.rows root_id) t.root)
    ∙ rows_none i clusters [] rows passes (apart_told clusters [] (clusters_of i.rows) s.apart (λ n h. let z : false ≡ true = h in absurd cc))
