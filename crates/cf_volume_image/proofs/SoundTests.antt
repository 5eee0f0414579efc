-- Contents that pass their tests are sound, and sound ones pass them.
use Rattle.std.proofs.Common.{◌≡◌, ℕ, ◌+◌, ◌/◌, ◌<◌, Bool, true, false, ◌||◌, ◌&&◌, not, cond, List, [], ◌∷◌, refl, sym, ap, subst, ◌∙◌, arith, eqb, inl, inr, Option, Some, None}
use Rattle.std.proofs.lemmas.Bool.{cases_Bool, eqb-true, eq-eqb, ne_eqb}
use Rattle.std.specs.Prelude.{find, is_some, map}
use Rattle.std.specs.List.{list_all, list_any}
use Rattle.cf_base.specs.declared.spans.Span.{Span}
use Rattle.cf_model.specs.Numbers.{no_item, root_id}
use Rattle.cf_model.specs.Rows as model
use Rattle.cf_model.specs.Words.{same, says}
use Rattle.cf_ranges.specs.Pairs.{cluster_at}
use Rattle.cf_ranges.specs.Positions.{HasBlock}
use Rattle.cf_table.specs.Spelling.{extent_of, row_value}
use Rattle.cf_table.specs.Tables.{RisesFrom, id_of, is_child_row}
use Rattle.cf_table.specs.declared.rows.Row.{Row}
use Rattle.cf_table.proofs.NamedEntries.{first_of_both, second_of_both, same_itself}
use Rattle.cf_volume_image.specs.Contents.{row_at}
use Rattle.cf_volume_image.specs.Sets.{HasBlocksOf, HaveBytes}
use Rattle.cf_volume_image.specs.Sound.{ArePlaced, HasRoot, HoldsBytes, IsPlaced, are_named, has_block, is_namesake, reaches_root, takes_children}
use Rattle.cf_volume_image.specs.Trees.{IsTree, has_id, is_named, is_placed, is_root, is_tree}
use Rattle.cf_volume_image.proofs.SoundRows.{has_place_is}

-- blocks

block_is : (ps : List (ℕ × ℕ)) (b : ℕ) → has_block (map extent_of ps) b ≡ is_some (cluster_at ps b)
block_is [] b = refl
block_is (p ∷ ps) b = by (eqb p.0 b) (block_is ps b) where
  by : (a : Bool) → has_block (map extent_of ps) b ≡ is_some (cluster_at ps b) → (a || has_block (map extent_of ps) b) ≡ is_some (cond a (Some p.1) (cluster_at ps b))
  by true h = refl
  by false h = h

blocks_hold : (ps : List (ℕ × ℕ)) (here : List Span) → HaveBytes ps here → (b : ℕ) → has_block (map extent_of ps) b ≡ true → HasBlock here b
blocks_hold [] here h b at = let z : false ≡ true = at in absurd cc
blocks_hold (p ∷ ps) here h b at = elim (cases_Bool (eqb p.0 b)) [
  | inl hit ↦ subst (HasBlock here) (eqb-true p.0 b hit) h.0
  | inr miss ↦ blocks_hold ps here h.1 b (sym (ap (λ v. v || has_block (map extent_of ps) b) miss) ∙ at)
]

hold_blocks : (ps all : List (ℕ × ℕ)) (here : List Span) → ((b : ℕ) → has_block (map extent_of ps) b ≡ true → has_block (map extent_of all) b ≡ true) → ((b : ℕ) → has_block (map extent_of all) b ≡ true → HasBlock here b) → HaveBytes ps here
hold_blocks [] all here part h = tt
hold_blocks (p ∷ ps) all here part h =
    (h p.0 (part p.0 (ap (λ v. v || has_block (map extent_of ps) p.0) (eq-eqb p.0 p.0 refl))), hold_blocks ps all here (λ b at. part b (right (eqb p.0 b) (has_block (map extent_of ps) b) at)) h) where
      right : (a b : Bool) → b ≡ true → (a || b) ≡ true
      right true b h = refl
      right false b h = h

pub holds_bytes : (r : Row) → HasBlocksOf r.extents r.here → HaveBytes r.extents r.here → HoldsBytes (row_value r)
holds_bytes r h k = record {
  each_byte = λ p at. block_is r.extents (p / 4096) ∙ h p (sym (has_place_is r.here p) ∙ at);
  each_block = λ b at. let f = blocks_hold r.extents r.here k b at in (f.0, has_place_is r.here f.0 ∙ f.1, f.2);
}

pub has_blocks : (r : Row) → HoldsBytes (row_value r) → HasBlocksOf r.extents r.here
has_blocks r h p at = sym (block_is r.extents (p / 4096)) ∙ h.each_byte p (has_place_is r.here p ∙ at)

pub have_bytes : (r : Row) → HoldsBytes (row_value r) → HaveBytes r.extents r.here
have_bytes r h = hold_blocks r.extents r.extents r.here (λ b at. at) (λ b at. let f = h.each_block b at in (f.0, sym (has_place_is r.here f.0) ∙ f.1, f.2))

-- the root

has_root_from : (o : Option model.Row) → says is_root o ≡ true → (r : model.Row) × (o ≡ Some r) × (r.directory ≡ true) × (r.parent.0 ≡ 0)
has_root_from None h = let z : false ≡ true = h in absurd cc
has_root_from (Some r) h = (r, refl, first_of_both r.directory (eqb r.parent.0 0) h, eqb-true r.parent.0 0 (second_of_both r.directory (eqb r.parent.0 0) h))

pub root_found : (rows : List model.Row) → says is_root (row_at rows root_id) ≡ true → HasRoot rows
root_found rows h = let f = has_root_from (row_at rows root_id) h in (f.0, f.1, (f.2, f.3))

both : (a b : Bool) → a ≡ true → b ≡ true → (a && b) ≡ true
both a b h k = ap (λ v. v && b) h ∙ k

pub root_told : (rows : List model.Row) → HasRoot rows → says is_root (row_at rows root_id) ≡ true
root_told rows h = ap (says is_root) h.1 ∙ both h.0.directory (eqb h.0.parent.0 0) h.2.0 (eq-eqb h.0.parent.0 0 h.2.1)

top_found : (o : Option model.Row) → not (is_some o) ≡ true → o ≡ None
top_found None h = refl
top_found (Some r) h = let z : false ≡ true = h in absurd cc

-- places

placed_from : (rows : List model.Row) (r : model.Row) → is_placed rows r ≡ true → IsPlaced rows r
placed_from rows r h other =
    let k : (takes_children rows r.parent && reaches_root rows 32 r.id) ≡ true = sym (ap (λ v. v || (takes_children rows r.parent && reaches_root rows 32 r.id)) (ne_eqb r.id.0 1 other)) ∙ h in
    (first_of_both (takes_children rows r.parent) (reaches_root rows 32 r.id) k, second_of_both (takes_children rows r.parent) (reaches_root rows 32 r.id) k)

placed_told : (rows : List model.Row) (r : model.Row) → IsPlaced rows r → is_placed rows r ≡ true
placed_told rows r h = elim (cases_Bool (eqb r.id.0 1)) [
  | inl hit ↦ ap (λ v. v || (takes_children rows r.parent && reaches_root rows 32 r.id)) hit
  | inr miss ↦
      let k = h (λ e. let z : true ≡ false = sym (eq-eqb r.id.0 1 e) ∙ miss in cc) in
      ap (λ v. v || (takes_children rows r.parent && reaches_root rows 32 r.id)) miss ∙ both (takes_children rows r.parent) (reaches_root rows 32 r.id) k.0 k.1
]

all_placed : (rows : List model.Row) (list : List Row) → list_all (λ r. is_placed rows (row_value r)) list ≡ true → ArePlaced rows (map row_value list)
all_placed rows [] h = tt
all_placed rows (r ∷ rs) h =
    (placed_from rows (row_value r) (first_of_both (is_placed rows (row_value r)) (list_all (λ x. is_placed rows (row_value x)) rs) h), all_placed rows rs (second_of_both (is_placed rows (row_value r)) (list_all (λ x. is_placed rows (row_value x)) rs) h))

all_told : (rows : List model.Row) (list : List Row) → ArePlaced rows (map row_value list) → list_all (λ r. is_placed rows (row_value r)) list ≡ true
all_told rows [] h = refl
all_told rows (r ∷ rs) h = both (is_placed rows (row_value r)) (list_all (λ x. is_placed rows (row_value x)) rs) (placed_told rows (row_value r) h.0) (all_told rows rs h.1)

-- names

names_step : (x : Row) (xs sub : List Row) (low : ℕ) → x.id.0 < low → RisesFrom low sub →
    list_all (is_named (x ∷ xs)) sub ≡ (not (list_any (is_namesake (row_value x)) (map row_value sub)) && list_all (is_named xs) sub)
names_step x xs [] low lt h = refl
names_step x xs (r ∷ rs) low lt h =
    by (is_child_row r.parent r.name x) (list_all (is_named (x ∷ xs)) rs) (list_any (is_namesake (row_value x)) (map row_value rs)) (list_all (is_named xs) rs) (ne_eqb x.id.0 r.id.0 (λ e. absurd (omega (arith, e, h.0, lt))))
    (names_step x xs rs (r.id.0 + 1) (omega (arith, lt, h.0)) h.1) where
      by : (b rest any all : Bool) → eqb x.id.0 r.id.0 ≡ false → rest ≡ (not any && all) →
          (has_id r.id (id_of (cond b (Some x) (find (is_child_row r.parent r.name) xs))) && rest) ≡ (not (b || any) && (is_named xs r && all))
      by true rest any all e so = ap (λ v. v && rest) e
      by false rest any all e so = ap (λ v. is_named xs r && v) so ∙ swap (is_named xs r) any all where
        swap : (n any all : Bool) → (n && (not any && all)) ≡ (not any && (n && all))
        swap true true all = refl
        swap true false all = refl
        swap false true all = refl
        swap false false all = refl

names_are : (low : ℕ) (rows : List Row) → RisesFrom low rows → list_all (is_named rows) rows ≡ are_named (map row_value rows)
names_are low [] h = refl
names_are low (x ∷ xs) h =
    ap (λ v. v && list_all (is_named (x ∷ xs)) xs) (itself x xs)
    ∙ names_step x xs xs (x.id.0 + 1) (omega arith) h.1
    ∙ ap (λ v. not (list_any (is_namesake (row_value x)) (map row_value xs)) && v) (names_are (x.id.0 + 1) xs h.1) where
      itself : (x : Row) (xs : List Row) → is_named (x ∷ xs) x ≡ true
      itself x xs = ap (λ b. has_id x.id (id_of (cond b (Some x) (find (is_child_row x.parent x.name) xs)))) (both (eqb x.parent.0 x.parent.0) (same x.name x.name) (eq-eqb x.parent.0 x.parent.0 refl) (same_itself x.name)) ∙ eq-eqb x.id.0 x.id.0 refl

pub tree_from : (rows : List Row) → RisesFrom 0 rows → is_tree rows ≡ true → IsTree (map row_value rows)
tree_from rows h t =
    let top = not (is_some (row_at (map row_value rows) no_item)) in
    let one = says is_root (row_at (map row_value rows) root_id) in
    let two = list_all (λ r. is_placed (map row_value rows) (row_value r)) rows in
    let three = list_all (is_named rows) rows in
    let first = first_of_both ((top && one) && two) three t in
    let start = first_of_both (top && one) two first in
    record {
      root = root_found (map row_value rows) (second_of_both top one start);
      top = top_found (row_at (map row_value rows) no_item) (first_of_both top one start);
      placed = all_placed (map row_value rows) rows (second_of_both (top && one) two first);
      named = sym (names_are 0 rows h) ∙ second_of_both ((top && one) && two) three t;
    }

pub tree_told : (rows : List Row) → RisesFrom 0 rows → IsTree (map row_value rows) → is_tree rows ≡ true
tree_told rows h t =
    let top = not (is_some (row_at (map row_value rows) no_item)) in
    let one = says is_root (row_at (map row_value rows) root_id) in
    let two = list_all (λ r. is_placed (map row_value rows) (row_value r)) rows in
    both ((top && one) && two) (list_all (is_named rows) rows)
    (both (top && one) two (both top one (ap (λ o. not (is_some o)) t.top) (root_told (map row_value rows) t.root)) (all_told (map row_value rows) rows t.placed))
    (names_are 0 rows h ∙ t.named)
