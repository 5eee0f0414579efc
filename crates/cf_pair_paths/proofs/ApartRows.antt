-- No path stands twice where the items form a tree.
use Rattle.std.proofs.Common.{◌≡◌, ℕ, zero, suc, ◌+◌, ◌≤◌, ◌<◌, Bool, true, false, not, cond, List, [], ◌∷◌, ◌++◌, eqb, map, refl, sym, ap, ◌∙◌, arith}
use Rattle.std.specs.Prelude.{Option, Some, None, Result, Ok, Err, filter, bytes_eq, sum_by}
use Rattle.std.proofs.lemmas.Bool.{cond-false, cond-true, eq-eqb, ne_eqb}
use Rattle.std.proofs.lemmas.List.Sums.{sum_by-cons}
use Rattle.cf_base.specs.declared.codes.Code.{Code}
use Rattle.cf_base.specs.declared.ids.ItemId.{ItemId}
use Rattle.cf_model.specs.Items.{Item, item_of}
use Rattle.cf_model.specs.LookUp.{find_path}
use Rattle.cf_model.specs.State.{State, items_now}
use Rattle.cf_pair_compare.proofs.Firsts.{equal_text}
use Rattle.cf_pair_compare.specs.declared.path_rows.PathRow.{PathRow}
use Rattle.cf_pair_paths.proofs.PathsAlike.{paths_alike}
use Rattle.cf_pair_paths.specs.PathsByRows as table
use Rattle.cf_pair_traces.specs.Pairs as pairs
use Rattle.cf_pair_traces.specs.Pairs.{path_row, path_rows}
use Rattle.cf_pair_trees.specs.Trees.{AreApart, at_path}
use Rattle.cf_table.specs.Tables.{MeansAll, row_of}
use Rattle.cf_table.specs.declared.rows.Row.{Row}
use Rattle.cf_tree.proofs.Alike.{rows_by_id}
use Rattle.cf_tree.proofs.Depths.{some_of}
use Rattle.cf_tree.proofs.PathsBack.{ends_at_root, goes_down, leads_back, no_names}
use Rattle.cf_tree.specs.Lines.{name_in, parent_in}
use Rattle.cf_tree.specs.Lines as lines
use Rattle.cf_tree.specs.Trees.{AreOpen, HaveNames, IsTree, IsUnder, RiseFrom}

-- one path of a row, in two forms
lines_are : (n : ℕ) (rows : List Row) (id : ItemId) → lines.path_in n rows id ≡ table.path_in n rows (row_of rows id)
lines_are zero rows id = no_names rows id
lines_are (suc n) rows id = one (λ parent. lines_are n rows parent) (row_of rows id) refl where
  one : ((parent : ItemId) → lines.path_in n rows parent ≡ table.path_in n rows (row_of rows parent)) → (o : Option Row) → row_of rows id ≡ o → lines.path_in (suc n) rows id ≡ table.path_in (suc n) rows o
  one up None e = ends_at_root (suc n) rows id (ap parent_in e)
  one up (Some r) e = two (eqb r.id.0 1) refl where
    two : (b : Bool) → eqb r.id.0 1 ≡ b → lines.path_in (suc n) rows id ≡ cond (eqb r.id.0 1) [] (table.path_in n rows (row_of rows r.parent) ++ 47 ∷ r.name)
    two true t = ends_at_root (suc n) rows id (ap parent_in e ∙ cond-true (eqb r.id.0 1) _ _ t) ∙ sym (cond-true (eqb r.id.0 1) _ _ t)
    two false t =
        goes_down n rows id r.parent (ap parent_in e ∙ cond-false (eqb r.id.0 1) _ _ t)
        ∙ (λ j. up r.parent j ++ 47 ∷ name_in (e j))
        ∙ sym (cond-false (eqb r.id.0 1) _ _ t)

-- more steps than there are names lead no further
steady : (d n : ℕ) (items : List Item) (i : Item) → IsUnder d items i → d ≤ n → pairs.path_in n items (Some i) ≡ pairs.path_in d items (Some i)
steady zero zero items i u le = refl
steady zero (suc n) items i u le = cond-true (eqb i.id.0 1) _ _ (eq-eqb i.id.0 1 u)
steady (suc d) zero items i u le = absurd (omega (le, arith))
steady (suc d) (suc n) items i u le =
    let p = some_of (item_of items i.parent) (λ p. (p.directory ≡ true) × IsUnder d items p) u.1 in
    let up : pairs.path_in n items (item_of items i.parent) ≡ pairs.path_in d items (item_of items i.parent) =
    ap (pairs.path_in n items) p.1 ∙ steady d n items p.0 p.2.1 (omega (le, arith)) ∙ sym (ap (pairs.path_in d items) p.1) in
    ap (λ (path : List ℕ). cond (eqb i.id.0 1) [] (path ++ 47 ∷ i.name)) up

abbrev item_in : Item → Result Item Code → Item
item_in d (Ok i) = i
item_in d (Err c) = d

module _ (rows : List Row) (items : List Item) (m : MeansAll rows items) (t : IsTree items) (o : AreOpen items) (names : HaveNames rows) where
  -- a look-up of the path leads to the item
  leads : (j : Item) → item_of items j.id ≡ Some j → eqb j.id.0 1 ≡ false → find_path items (pairs.path_in 33 items (Some j)) ≡ Ok j
  leads j there other =
      let s = t.places j.id j there in
      let fewer : pairs.path_in 33 items (Some j) ≡ pairs.path_in 32 items (Some j) = steady s.depth 33 items j s.under (omega (s.few, arith)) ∙ sym (steady s.depth 32 items j s.under s.few) in
      let known : pairs.path_in 32 items (Some j) ≡ lines.path_in 32 rows j.id =
      ap (pairs.path_in 32 items) (sym there) ∙ sym (paths_alike 32 rows items (row_of rows j.id) (item_of items j.id) m (rows_by_id rows items j.id m)) ∙ sym (lines_are 32 rows j.id) in
      ap (find_path items) (fewer ∙ known) ∙ leads_back rows items j.id j m t o names there other

  abbrev is_below : Item → Bool
  is_below i = not (eqb i.id.0 1)

  abbrev rows_of : List Item → List PathRow
  rows_of js = map (path_row items) (filter is_below js)

  abbrev many : List ℕ → List Item → ℕ
  many path js = sum_by (at_path path) (rows_of js)

  -- from this id on the items are these
  abbrev Ends : ℕ → List Item → Type 0
  Ends low js = (id : ItemId) → low ≤ id.0 → item_of items id ≡ item_of js id

  ends_next : (low : ℕ) (j : Item) (js : List Item) → low ≤ j.id.0 → Ends low (j ∷ js) → Ends (j.id.0 + 1) js
  ends_next low j js le e id more = e id (omega (le, more, arith)) ∙ cond-false (eqb j.id.0 id.0) _ _ (ne_eqb j.id.0 id.0 (λ same. omega (same, more, arith)))

  first_there : (low : ℕ) (j : Item) (js : List Item) → low ≤ j.id.0 → Ends low (j ∷ js) → item_of items j.id ≡ Some j
  first_there low j js le e = e j.id le ∙ cond-true (eqb j.id.0 j.id.0) _ _ (eq-eqb j.id.0 j.id.0 refl)

  -- how often the path stands among the first and the rest
  counted : (path : List ℕ) (j : Item) (js : List Item) (n k : ℕ) → (eqb j.id.0 1 ≡ true → many path js ≤ k) → (eqb j.id.0 1 ≡ false → bytes_eq (pairs.path_in 33 items (Some j)) path ≡ true → 1 + many path js ≤ k)
      → (eqb j.id.0 1 ≡ false → bytes_eq (pairs.path_in 33 items (Some j)) path ≡ false → many path js ≤ k) → many path (j ∷ js) ≤ k
  counted path j js n k top hit miss = two (eqb j.id.0 1) refl where
    two : (b : Bool) → eqb j.id.0 1 ≡ b → sum_by (at_path path) (map (path_row items) (cond (not b) (j ∷ filter is_below js) (filter is_below js))) ≤ k
    two true e = top e
    two false e = three (bytes_eq (pairs.path_in 33 items (Some j)) path) refl where
      three : (b : Bool) → bytes_eq (pairs.path_in 33 items (Some j)) path ≡ b → sum_by (at_path path) (path_row items j ∷ rows_of js) ≤ k
      three true h =
          let first : at_path path (path_row items j) ≡ 1 = ap (λ (b : Bool). cond b 1 0) h in
          omega (sum_by-cons (at_path path) (path_row items j) (rows_of js), first, hit e h, arith)
      three false h =
          let first : at_path path (path_row items j) ≡ 0 = ap (λ (b : Bool). cond b 1 0) h in
          omega (sum_by-cons (at_path path) (path_row items j) (rows_of js), first, miss e h, arith)

  -- the item to which the path leads
  is_led : (path : List ℕ) (j : Item) → item_of items j.id ≡ Some j → eqb j.id.0 1 ≡ false → bytes_eq (pairs.path_in 33 items (Some j)) path ≡ true → find_path items path ≡ Ok j
  is_led path j there other h = ap (find_path items) (sym (equal_text (pairs.path_in 33 items (Some j)) path h)) ∙ leads j there other

  -- no later item has the path
  none_later : (path : List ℕ) (i : Item) (low : ℕ) (js : List Item) → find_path items path ≡ Ok i → i.id.0 < low → RiseFrom low js → Ends low js → many path js ≤ 0
  none_later path i low [] led lt rises ends = omega arith
  none_later path i low (j ∷ js) led lt rises ends =
      let rest : many path js ≤ 0 = none_later path i (j.id.0 + 1) js led (omega (lt, rises.0, arith)) rises.1 (ends_next low j js rises.0 ends) in
      counted path j js 0 0 (λ e. rest) (λ e h.
      let same : i ≡ j = ap (item_in j) (sym led ∙ is_led path j (first_there low j js rises.0 ends) e h) in
      let id : i.id.0 ≡ j.id.0 = ap (λ (x : Item). x.id.0) same in
      absurd (omega (id, lt, rises.0, arith))) (λ e h. rest)

  one_most : (path : List ℕ) (low : ℕ) (js : List Item) → RiseFrom low js → Ends low js → many path js ≤ 1
  one_most path low [] rises ends = omega arith
  one_most path low (j ∷ js) rises ends =
      let next = ends_next low j js rises.0 ends in
      let rest : many path js ≤ 1 = one_most path (j.id.0 + 1) js rises.1 next in
      counted path j js 0 1 (λ e. rest) (λ e h.
      let none : many path js ≤ 0 = none_later path j (j.id.0 + 1) js (is_led path j (first_there low j js rises.0 ends) e h) (omega arith) rises.1 next in
      omega (none, arith)) (λ e h. rest)

pub apart : (rows : List Row) (s : State) → MeansAll rows (items_now s) → IsTree (items_now s) → AreOpen (items_now s) → HaveNames rows → AreApart (path_rows s)
apart rows s m t o names = λ path. one_most rows (items_now s) m t o names path 1 (items_now s) t.order (λ id le. refl)
