-- The image of a volume that can be kept is sound.
use Rattle.std.proofs.Common.{◌≡◌, ◌≢◌, ℕ, zero, suc, ◌+◌, ◌/◌, ◌<◌, ◌≤◌, Bool, true, false, ◌&&◌, ◌||◌, not, cond, eqb, List, [], ◌∷◌, map, Option, Some, None, refl, sym, ◌∙◌, ap, subst, arith}
use Rattle.std.specs.Prelude.{All, find, option_map}
use Rattle.std.specs.List.{list_any}
use Rattle.std.proofs.lemmas.Bool.{cond-true, cond-false, eq-eqb, ne_eqb, true≢false}
use Rattle.std.proofs.lemmas.List.Elements.{All-head, All-tail, All-nil, All-cons, All-weaker}
use Rattle.cf_base.specs.declared.ids.ItemId.{ItemId}
use Rattle.cf_base.specs.declared.ids.Usn.{Usn}
use Rattle.cf_volume_blocks.proofs.Elsewhere.{among_holding, touches_block}
use Rattle.cf_volume_blocks.specs.Bytes.{is_among}
use Rattle.cf_volume_image.proofs.SoundRows.{has_place_is}
use Rattle.cf_volume_image.proofs.TreeSteps.{root_reached}
use Rattle.cf_volume_image.specs.Contents.{row_at}
use Rattle.cf_volume_image.specs.Sound.{AllHoldBytes, ArePlaced, HasRoot, HoldsBytes, are_named, has_block, is_namesake, reaches_root, takes_children}
use Rattle.cf_model.specs.Books.{Book}
use Rattle.cf_model.specs.Formats.{Header}
use Rattle.cf_model.specs.Items.{Item, item_of}
use Rattle.cf_model.specs.LookUp.{child_of, is_child_named, root_of}
use Rattle.cf_model.specs.Numbers.{no_item, root_id}
use Rattle.cf_model.specs.Rows.{Extent, IsSoundRow, has_place}
use Rattle.cf_model.specs.Rows as model
use Rattle.cf_model.specs.Standing.{AreSound}
use Rattle.cf_model.specs.Words.{same, says}
use Rattle.cf_volume_points.specs.Holding.{HoldRows, HoldsRow}
use Rattle.cf_ranges.proofs.Blocks.{touches_means}
use Rattle.cf_ranges.specs.Positions.{IsRuns, touches}
use Rattle.cf_table.proofs.RowOfItem.{row_is_of_item}
use Rattle.cf_table.specs.Means.{Means}
use Rattle.cf_table.specs.Spelling.{extent_of, row_value}
use Rattle.cf_table.specs.Tables.{AreTableRows, MeansAll, row_of}
use Rattle.cf_table.specs.declared.rows.Row.{Row}
use Rattle.cf_tree.proofs.Alike.{BothMean, rows_by_id}
use Rattle.cf_tree.proofs.Depths.{some_of}
use Rattle.cf_tree.proofs.Walks.{found_from, own_id, root_found}
use Rattle.cf_tree.specs.Trees.{AreOpen, IsTree, IsUnder, RiseFrom}
use Rattle.cf_tree.specs.Trees as tree

pub means_all : (cluster : ℕ → List ℕ) (b : Book) (rows : List Row) (items : List Item) → HoldRows cluster b rows items → MeansAll rows items
means_all cluster b [] [] h = tt
means_all cluster b [] (i ∷ is) h = absurd h
means_all cluster b (r ∷ rs) [] h = absurd h
means_all cluster b (r ∷ rs) (i ∷ is) h = (h.0.means, means_all cluster b rs is h.1)

-- each item is found by its id

pub all_there : (low : ℕ) (items : List Item) → RiseFrom low items → All (λ i. item_of items i.id ≡ Some i) items
all_there low [] h = All-nil (λ (i : Item). item_of [] i.id ≡ Some i)
all_there low (x ∷ xs) h =
    All-cons (λ (i : Item). item_of (x ∷ xs) i.id ≡ Some i) x xs (cond-true (eqb x.id.0 x.id.0) _ _ (eq-eqb x.id.0 x.id.0 refl))
    (All-weaker (λ (i : Item). item_of xs i.id ≡ Some i) (λ (i : Item). item_of (x ∷ xs) i.id ≡ Some i) later xs (all_there (x.id.0 + 1) xs h.1))
  where
    later : (i : Item) → item_of xs i.id ≡ Some i → item_of (x ∷ xs) i.id ≡ Some i
    later i e = cond-false (eqb x.id.0 i.id.0) _ _ (ne_eqb x.id.0 i.id.0 (λ at. let low = found_from (x.id.0 + 1) (λ j. eqb j.id.0 i.id.0) xs i h.1 e in omega (arith, low, at))) ∙ e

-- rows

same_sound : (next : ItemId) (last : Usn) (b : Book) (i : Item) (es : List Extent) → IsSoundRow next last (model.row_of b [] i) → IsSoundRow next last (model.row_of b es i)
same_sound next last b i es h = record {
  id = h.id;
  numbers = h.numbers;
  root_name = h.root_name;
  name = h.name;
  lengths = h.lengths;
  in_size = h.in_size;
  valid = h.valid;
  modified = h.modified;
  modified_since = h.modified_since;
  past_base = h.past_base;
  directory = λ d. let bare = h.directory d in record {
    size = bare.size;
    base = bare.base;
    here = bare.here;
    valid = bare.valid;
    modified = bare.modified;
    modified_since = bare.modified_since;
    clean = bare.clean;
    keep = bare.keep;
    last = bare.last;
    placeholder = bare.placeholder;
  };
  file = h.file;
  plain = h.plain;
  in_sync = h.in_sync;
  clean = h.clean;
}

abbrev SoundItem : ItemId → Usn → Book → Item → Type 0
SoundItem next last b i = IsSoundRow next last (model.row_of b [] i)

pub rows_sound : (h : Header) (cluster : ℕ → List ℕ) (b : Book) (rows : List Row) (items : List Item) → AreTableRows rows → HoldRows cluster b rows items → All (SoundItem h.next h.last b) items → AreSound h (map row_value rows)
rows_sound h cluster b [] [] t m s = tt
rows_sound h cluster b [] (i ∷ is) t m s = absurd m
rows_sound h cluster b (r ∷ rs) [] t m s = absurd m
rows_sound h cluster b (r ∷ rs) (i ∷ is) t m s = (
  subst (λ (x : model.Row). IsSoundRow h.next h.last x) (sym (row_is_of_item b r i t.0.stored m.0.means m.0.anchor m.0.last))
      (same_sound h.next h.last b i (map extent_of r.extents) (All-head (SoundItem h.next h.last b) i is s)),
  rows_sound h cluster b rs is t.1 m.1 (All-tail (SoundItem h.next h.last b) i is s),
)

-- clusters

blocks_are : (es : List (ℕ × ℕ)) (b : ℕ) → has_block (map extent_of es) b ≡ is_among (map (λ (e : ℕ × ℕ). e.0) es) b
blocks_are [] b = refl
blocks_are (e ∷ es) b = ap (λ (t : Bool). eqb e.0 b || t) (blocks_are es b)

row_bytes : (cluster : ℕ → List ℕ) (b : Book) (r : Row) (i : Item) → IsRuns r.here → HoldsRow cluster b r i → HoldsBytes (row_value r)
row_bytes cluster b r i runs h = record {
  each_byte = λ p is. touched (p / 4096) ∙ (touches_means r.here (p / 4096) runs).1 (p, sym (has_place_is r.here p) ∙ is, refl);
  each_block = λ k is. let found = (touches_means r.here k runs).0 (sym (touched k) ∙ is) in (found.0, has_place_is r.here found.0 ∙ found.1, found.2);
}
  where
    touched : (k : ℕ) → has_block (map extent_of r.extents) k ≡ touches r.here k
    touched k = blocks_are r.extents k ∙ ap (λ (l : List ℕ). is_among l k) h.blocks ∙ among_holding i.held k ∙ sym (touches_block r.here i.held runs h.means.bytes.here k)

pub rows_bytes : (cluster : ℕ → List ℕ) (b : Book) (rows : List Row) (items : List Item) → AreTableRows rows → HoldRows cluster b rows items → AllHoldBytes (map row_value rows)
rows_bytes cluster b [] [] t m = tt
rows_bytes cluster b [] (i ∷ is) t m = absurd m
rows_bytes cluster b (r ∷ rs) [] t m = absurd m
rows_bytes cluster b (r ∷ rs) (i ∷ is) t m = (row_bytes cluster b r i t.0.stored.here m.0, rows_bytes cluster b rs is t.1 m.1)

-- names

-- an item that passes comes not before the first that does
first_found : (low : ℕ) (f : Item → Bool) (items : List Item) (i j : Item) → RiseFrom low items → item_of items i.id ≡ Some i → f i ≡ true → find f items ≡ Some j → j.id.0 ≤ i.id.0
first_found low f [] i j h there passes e = absurd (let z : ◌≡◌ {A = Option Item} None (Some i) = there in cc)
first_found low f (x ∷ xs) i j h there passes e = by (f x) refl e (eqb x.id.0 i.id.0) refl there (first_found (x.id.0 + 1) f xs i j h.1)
  where
    by : (t : Bool) → f x ≡ t → cond t (Some x) (find f xs) ≡ Some j → (u : Bool) → eqb x.id.0 i.id.0 ≡ u → cond u (Some x) (item_of xs i.id) ≡ Some i
        → (item_of xs i.id ≡ Some i → f i ≡ true → find f xs ≡ Some j → j.id.0 ≤ i.id.0) → j.id.0 ≤ i.id.0
    by true p e u q th rest = let one : x ≡ j = cc in let low = found_from x.id.0 (λ k. eqb k.id.0 i.id.0) (x ∷ xs) i (omega arith, h.1) there in omega (arith, low, ap (λ (k : Item). k.id.0) one)
    by false p e true q th rest = let one : x ≡ i = cc in absurd (true≢false (sym passes ∙ ap f (sym one) ∙ p))
    by false p e false q th rest = rest th passes e

abbrev Alone : List Item → Item → Type 0
Alone items i = (item_of items i.id ≡ Some i) × (child_of items i.parent i.name ≡ Some i)

both_true : (a b : Bool) → (a && b) ≡ true → (a ≡ true) × (b ≡ true)
both_true true true e = (refl, refl)
both_true true false e = absurd (true≢false (sym e))
both_true false b e = absurd (true≢false (sym e))

same_back : (a b : List ℕ) → same a b ≡ true → same a a ≡ true
same_back [] b e = refl
same_back (x ∷ xs) [] e = absurd (true≢false (sym e))
same_back (x ∷ xs) (y ∷ ys) e = let parts = both_true (eqb x y) (same xs ys) e in ap (λ (t : Bool). t && same xs xs) (eq-eqb x x refl) ∙ same_back xs ys parts.1

no_namesake : (items : List Item) (low : ℕ) (r : Row) (i : Item) (rs : List Row) (is : List Item) → RiseFrom 1 items → Means r i → Alone items i → MeansAll rs is → RiseFrom low is → i.id.0 < low → All (Alone items) is
    → list_any (is_namesake (row_value r)) (map row_value rs) ≡ false
no_namesake items low r i [] [] rise m alone ms h lt all = refl
no_namesake items low r i [] (j ∷ js) rise m alone ms h lt all = absurd ms
no_namesake items low r i (s ∷ ss) [] rise m alone ms h lt all = absurd ms
no_namesake items low r i (s ∷ ss) (j ∷ js) rise m alone ms h lt all =
    by (is_namesake (row_value r) (row_value s)) refl
    (no_namesake items (j.id.0 + 1) r i ss js rise m alone ms.1 h.1 (omega (arith, lt, h.0)) (All-tail (Alone items) j js all))
  where
    named : is_namesake (row_value r) (row_value s) ≡ is_child_named j.parent j.name i
    named = λ k. eqb (m.parent k).0 (ms.0.parent k).0 && same (m.name k) (ms.0.name k)

    by : (t : Bool) → is_namesake (row_value r) (row_value s) ≡ t → list_any (is_namesake (row_value r)) (map row_value ss) ≡ false → (t || list_any (is_namesake (row_value r)) (map row_value ss)) ≡ false
    by true e rest =
        let first = first_found 1 (is_child_named j.parent j.name) items i j rise alone.0 (sym named ∙ e) (All-head (Alone items) j js all).1 in
        absurd (omega (arith, first, lt, h.0))
    by false e rest = rest

all_named : (items : List Item) (low : ℕ) (rows : List Row) (is : List Item) → RiseFrom 1 items → MeansAll rows is → RiseFrom low is → All (Alone items) is → are_named (map row_value rows) ≡ true
all_named items low [] [] rise m h all = refl
all_named items low [] (i ∷ is) rise m h all = absurd m
all_named items low (r ∷ rs) [] rise m h all = absurd m
all_named items low (r ∷ rs) (i ∷ is) rise m h all =
    both (list_any (is_namesake (row_value r)) (map row_value rs)) (are_named (map row_value rs))
    (no_namesake items (i.id.0 + 1) r i rs is rise m.0 (All-head (Alone items) i is all) m.1 h.1 (omega arith) (All-tail (Alone items) i is all))
    (all_named items (i.id.0 + 1) rs is rise m.1 h.1 (All-tail (Alone items) i is all))
  where
    both : (a b : Bool) → a ≡ false → b ≡ true → (not a && b) ≡ true
    both a b p q = ap (λ (x : Bool). not x && b) p ∙ q

-- the tree

pub rows_found : (rows : List Row) (id : ItemId) → row_at (map row_value rows) id ≡ option_map row_value (row_of rows id)
rows_found [] id = refl
rows_found (r ∷ rs) id = by (eqb r.id.0 id.0) (rows_found rs id)
  where
    by : (b : Bool) → row_at (map row_value rs) id ≡ option_map row_value (row_of rs id)
        → cond b (Some (row_value r)) (row_at (map row_value rs) id) ≡ option_map row_value (cond b (Some r) (row_of rs id))
    by true e = refl
    by false e = e

row_there : (rows : List Row) (items : List Item) (id : ItemId) (i : Item) → MeansAll rows items → item_of items id ≡ Some i → (r : Row) × (row_at (map row_value rows) id ≡ Some (row_value r)) × Means r i
row_there rows items id i m there = by (row_of rows id) refl (subst (λ (o : Option Item). BothMean (row_of rows id) o) there (rows_by_id rows items id m))
  where
    by : (o : Option Row) → row_of rows id ≡ o → BothMean o (Some i) → (r : Row) × (row_at (map row_value rows) id ≡ Some (row_value r)) × Means r i
    by None e h = absurd h
    by (Some r) e h = (r, rows_found rows id ∙ ap (option_map row_value) e, h)

same_id : (a b : ItemId) → a.0 ≡ b.0 → a ≡ b
same_id a b h = ap (λ (n : ℕ). record { 0 = n }) h

comes_to_root : (rows : List Row) (items : List Item) (n m : ℕ) (id : ItemId) (i : Item) → MeansAll rows items → item_of items id ≡ Some i → IsUnder n items i → n ≤ m → reaches_root (map row_value rows) m id ≡ true
unfolding reaches_root
comes_to_root rows items zero m id i means there under le = sym (root_reached (map row_value rows) m id (ap (λ (k : ItemId). k.0) (own_id items id i there) ∙ under))
comes_to_root rows items (suc n) zero id i means there under le = absurd (omega (arith, le))
comes_to_root rows items (suc n) (suc m) id i means there under le =
    let found = row_there rows items id i means there in
    let up = some_of (item_of items i.parent) (λ p. (p.directory ≡ true) × IsUnder n items p) under.1 in
    let rest : reaches_root (map row_value rows) m i.parent ≡ true = comes_to_root rows items n m i.parent up.0 means up.1 up.2.1 (omega (arith, le)) in
    or_right (eqb id.0 1) (says (λ r. reaches_root (map row_value rows) m r.parent) (row_at (map row_value rows) id))
    (ap (says (λ r. reaches_root (map row_value rows) m r.parent)) found.1 ∙ ap (reaches_root (map row_value rows) m) found.2.parent ∙ rest)
  where
    or_right : (a b : Bool) → b ≡ true → (a || b) ≡ true
    or_right true b e = refl
    or_right false b e = e

-- no row has an id below those of the items
none_below : (low : ℕ) (rows : List Row) (items : List Item) → MeansAll rows items → RiseFrom low items → (id : ItemId) → id.0 < low → row_at (map row_value rows) id ≡ None
none_below low [] [] m h id lt = refl
none_below low [] (i ∷ is) m h id lt = absurd m
none_below low (r ∷ rs) [] m h id lt = absurd m
none_below low (r ∷ rs) (i ∷ is) m h id lt =
    cond-false (eqb r.id.0 id.0) (Some (row_value r)) (row_at (map row_value rs) id) (ne_eqb r.id.0 id.0 (λ e. let same = ap (λ (k : ItemId). k.0) m.0.id in omega (arith, e, lt, h.0, same)))
    ∙ none_below (i.id.0 + 1) rs is m.1 h.1 id (omega (arith, lt, h.0))

pub no_top : (rows : List Row) (items : List Item) → MeansAll rows items → RiseFrom 1 items → row_at (map row_value rows) no_item ≡ None
no_top rows items m h = none_below 1 rows items m h no_item (omega arith)

module _ (rows : List Row) (items : List Item) (means : MeansAll rows items) (is_tree : IsTree items) (are_open : AreOpen items) where
  abbrev Standing : Item → Type 0
  Standing i = (item_of items i.id ≡ Some i) × tree.Stands items i

  all_stand : All Standing items
  all_stand = All-weaker (λ (i : Item). item_of items i.id ≡ Some i) Standing (λ i e. (e, is_tree.places i.id i e)) items (all_there 1 items is_tree.order)

  all_alone : All (Alone items) items
  all_alone = All-weaker Standing (Alone items) (λ i h. (h.0, h.1.alone)) items all_stand

  pub names_apart : are_named (map row_value rows) ≡ true
  names_apart = all_named items 1 rows items is_tree.order means is_tree.order all_alone

  placed_in_parent : (r : Row) (i : Item) → Means r i → item_of items i.id ≡ Some i → (d : ℕ) → IsUnder d items i → d ≤ 32 → r.id.0 ≢ 1 → (takes_children (map row_value rows) r.parent ≡ true) × (reaches_root (map row_value rows) 32 r.id ≡ true)
  placed_in_parent r i m there zero under le other = absurd (other (ap (λ (k : ItemId). k.0) m.id ∙ under))
  placed_in_parent r i m there (suc d) under le other =
      let up = some_of (item_of items i.parent) (λ p. (p.directory ≡ true) × IsUnder d items p) under.1 in
      let found = row_there rows items i.parent up.0 means up.1 in (
        ap (takes_children (map row_value rows)) m.parent ∙ ap (says (λ r. r.directory && r.populated)) found.1 ∙ two (found.0).dir (found.0).populated (found.2.directory ∙ up.2.0) (found.2.populated ∙ are_open i.id i up.0 there up.1),
        ap (reaches_root (map row_value rows) 32) m.id ∙ comes_to_root rows items (suc d) 32 i.id i means there under le,
      )
    where
      two : (a b : Bool) → a ≡ true → b ≡ true → (a && b) ≡ true
      two a b p q = ap (λ (x : Bool). x && b) p ∙ q

  placed_from : (rs : List Row) (is : List Item) → MeansAll rs is → All Standing is → ArePlaced (map row_value rows) (map row_value rs)
  placed_from [] [] m s = tt
  placed_from [] (i ∷ is) m s = absurd m
  placed_from (r ∷ rs) [] m s = absurd m
  placed_from (r ∷ rs) (i ∷ is) m s =
      let here = All-head Standing i is s in
      (placed_in_parent r i m.0 here.0 here.1.depth here.1.under here.1.few, placed_from rs is m.1 (All-tail Standing i is s))

  pub all_placed : ArePlaced (map row_value rows) (map row_value rows)
  all_placed = placed_from rows items means all_stand

  pub root_there : HasRoot (map row_value rows)
  root_there =
      let there : item_of items root_id ≡ Some (root_of items) = root_found items root_id refl is_tree.root in
      let found = row_there rows items root_id (root_of items) means there in
      let first = begins items is_tree.root in
      (row_value found.0, found.1, (found.2.directory ∙ first.0, ap (λ (k : ItemId). k.0) found.2.parent ∙ first.1))
    where
      begins : (is : List Item) → tree.BeginWithRoot is → ((root_of is).directory ≡ true) × ((root_of is).parent.0 ≡ 0)
      begins [] h = absurd h
      begins (r ∷ is) h = (h.1, h.2)
