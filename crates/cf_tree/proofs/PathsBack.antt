-- The path of an item leads back to it.
use Rattle.std.proofs.Common.{◌≡◌, ℕ, zero, suc, ◌≤◌, ◌<◌, Bool, true, false, cond, not, List, [], ◌∷◌, ◌++◌, length, get_or, refl, sym, ap, subst, ◌∙◌, arith, eqb, Some, None, Option, Ok, Err, Result, length-append, append_assoc}
use Rattle.std.specs.Prelude.{◌≢◌}
use Rattle.std.specs.List.{list_all}
use Rattle.std.proofs.lemmas.Bool.{and_from, and_parts, cond-false, cond-true, eq-eqb, eqb-false, le-ltb, ltb-true}
use Rattle.std.proofs.lemmas.List.{append-nil}
use Rattle.std.proofs.lemmas.List.Folds.{list_all-append}
use Rattle.cf_base.specs.Names.{is_name_byte}
use Rattle.cf_base.specs.declared.codes.Code.{Code}
use Rattle.cf_base.specs.declared.codes.Code.TheVariants as code
use Rattle.cf_base.specs.declared.ids.ItemId.{ItemId}
use Rattle.cf_model.specs.Items.{Item, item_of}
use Rattle.cf_model.specs.LookUp.{bad_names, child_of, find_names, find_path, names_of, refused_or, root_of, walk}
use Rattle.cf_model.specs.Texts.{is_name}
use Rattle.cf_model.specs.Words.{first_of, split_at}
use Rattle.cf_table.specs.Means.{Means}
use Rattle.cf_table.specs.Tables.{MeansAll, row_of}
use Rattle.cf_table.specs.declared.rows.Row.{Row}
use Rattle.cf_model.proofs.NameLaws.{name_is}
use Rattle.cf_tree.specs.Lines.{name_in, parent_in, path_in}
use Rattle.cf_tree.specs.Trees.{AreOpen, HaveNames, IsTree, IsUnder}
use Rattle.cf_tree.proofs.Alike.{BothMean, rows_by_id}
use Rattle.cf_tree.proofs.Cuts.{cut_at, more_names, uncut}
use Rattle.cf_tree.proofs.Depths.{only, some_of}
use Rattle.cf_tree.proofs.NumberedNames.{parts_of}
use Rattle.cf_tree.proofs.Walks.{own_id, root_found}

-- the names that lead to an item

names_to : (d : ℕ) (items : List Item) (i : Item) → IsUnder d items i → List (List ℕ)
names_to zero items i h = []
names_to (suc d) items i h = let p = some_of (item_of items i.parent) (λ p. (p.directory ≡ true) × IsUnder d items p) h.1 in names_to d items p.0 p.2.1 ++ i.name ∷ []

names_count : (d : ℕ) (items : List Item) (i : Item) (h : IsUnder d items i) → length (names_to d items i h) ≡ d
unfolding names_to
names_count zero items i h = refl
names_count (suc d) items i h =
    let p = some_of (item_of items i.parent) (λ p. (p.directory ≡ true) × IsUnder d items p) h.1 in
    omega (arith, length-append (names_to d items p.0 p.2.1) (i.name ∷ []), names_count d items p.0 p.2.1)

-- a walk by more names

walk_on : (items : List Item) (at p : Item) (ns : List (List ℕ)) (n : List ℕ) → walk items at ns ≡ Ok p → walk items at (ns ++ n ∷ []) ≡ walk items p (n ∷ [])
walk_on items at p [] n e = let same : at ≡ p = cc in ap (λ v. walk items v (n ∷ [])) same
walk_on items at p (m ∷ ms) n e = three at.directory at.populated (child_of items at.id m) e (λ j k. walk_on items j p ms n k) where
  three : (d q : Bool) (o : Option Item) →
      cond (not d) (Err code.NotDirectory) (cond (not q) (Err code.NotPopulated) (elim o as (λ _. Result Item Code) [ None ↦ Err code.NotFound | Some next ↦ walk items next ms ])) ≡ Ok p →
      ((j : Item) → walk items j ms ≡ Ok p → walk items j (ms ++ n ∷ []) ≡ walk items p (n ∷ [])) →
      cond (not d) (Err code.NotDirectory) (cond (not q) (Err code.NotPopulated) (elim o as (λ _. Result Item Code) [ None ↦ Err code.NotFound | Some next ↦ walk items next (ms ++ n ∷ []) ])) ≡ walk items p (n ∷ [])
  three false q o k rest = let z : ◌≡◌ {A = Result Item Code} (Err code.NotDirectory) (Ok p) = k in absurd cc
  three true false o k rest = let z : ◌≡◌ {A = Result Item Code} (Err code.NotPopulated) (Ok p) = k in absurd cc
  three true true None k rest = let z : ◌≡◌ {A = Result Item Code} (Err code.NotFound) (Ok p) = k in absurd cc
  three true true (Some j) k rest = rest j k

one_step : (items : List Item) (p i : Item) → p.directory ≡ true → p.populated ≡ true → child_of items p.id i.name ≡ Some i → walk items p (i.name ∷ []) ≡ Ok i
one_step items p i d q c = λ k. cond (not (d k)) (Err code.NotDirectory) (cond (not (q k)) (Err code.NotPopulated) (elim (c k) as (λ _. Result Item Code) [ None ↦ Err code.NotFound | Some next ↦ Ok next ]))

walks_to : (d : ℕ) (items : List Item) (i : Item) (h : IsUnder d items i) → IsTree items → AreOpen items → item_of items i.id ≡ Some i → walk items (root_of items) (names_to d items i h) ≡ Ok i
unfolding names_to
walks_to zero items i h t opened there = ap (λ v. Ok v) (only (root_of items) i (sym (root_found items i.id h t.root) ∙ there))
walks_to (suc d) items i h t opened there =
    let p = some_of (item_of items i.parent) (λ p. (p.directory ≡ true) × IsUnder d items p) h.1 in
    let own : i.parent ≡ p.0.id = own_id items i.parent p.0 p.1 in
    let up : item_of items p.0.id ≡ Some p.0 = subst (λ v. item_of items v ≡ Some p.0) own p.1 in
    walk_on items (root_of items) p.0 (names_to d items p.0 p.2.1) i.name (walks_to d items p.0 p.2.1 t opened up)
    ∙ one_step items p.0 i p.2.0 (opened i.id i p.0 there p.1) (subst (λ (v : ItemId). child_of items v i.name ≡ Some i) own (t.places i.id i there).alone)

-- names are the parts of a path

joined : List (List ℕ) → List ℕ
joined [] = []
joined (n ∷ ns) = 47 ∷ (n ++ joined ns)

no_slash_in : (n : List ℕ) → list_all is_name_byte n ≡ true → (i : ℕ) → i < length n → get_or n i 0 ≢ 47
no_slash_in [] all i lt e = omega arith
no_slash_in (b ∷ bs) all zero lt e = let z : false ≡ true = ap is_name_byte (sym e) ∙ (and_parts (is_name_byte b) (list_all is_name_byte bs) all).0 in cc
no_slash_in (b ∷ bs) all (suc i) lt e = no_slash_in bs (and_parts (is_name_byte b) (list_all is_name_byte bs) all).1 i (omega arith) e

name_has_none : (n : List ℕ) → is_name n ≡ true → (i : ℕ) → i < length n → get_or n i 0 ≢ 47
name_has_none n h = no_slash_in n (parts_of n h).bytes

parts_back : (n : List ℕ) (ns : List (List ℕ)) → list_all is_name (n ∷ ns) ≡ true → split_at 47 (n ++ joined ns) ≡ n ∷ ns
unfolding joined
parts_back n [] all = ap (split_at 47) (append-nil n) ∙ uncut n (name_has_none n (and_parts (is_name n) true all).0)
parts_back n (m ∷ ms) all =
    let parts = and_parts (is_name n) (list_all is_name (m ∷ ms)) all in
    cut_at n (m ++ joined ms) (name_has_none n parts.0) ∙ ap (λ l. n ∷ l) (parts_back m ms parts.1)

names_back : (ns : List (List ℕ)) → list_all is_name ns ≡ true → 0 < length ns → names_of (joined ns) ≡ ns
unfolding joined
names_back [] all some = absurd (omega arith)
names_back (n ∷ ns) all some =
    let first = and_parts (is_name n) (list_all is_name ns) all in
    let long : 0 < length n = ltb-true 0 (length n) (parts_of n first.0).some in
    more_names (n ++ joined ns) (omega (arith, length-append n (joined ns))) ∙ parts_back n ns all

joined_more : (ns : List (List ℕ)) (n : List ℕ) → joined (ns ++ n ∷ []) ≡ joined ns ++ 47 ∷ n
unfolding joined
joined_more [] n = ap (λ l. 47 ∷ l) (append-nil n)
joined_more (m ∷ ms) n = ap (λ l. 47 ∷ (m ++ l)) (joined_more ms n) ∙ ap (λ l. 47 ∷ l) (sym (append_assoc m (joined ms) (47 ∷ n)))

-- the code's path

abbrev Named : List Item → Type 0
Named items = (i : Item) → item_of items i.id ≡ Some i → (eqb i.id.0 1) ≡ false → is_name i.name ≡ true

all_named : (d : ℕ) (items : List Item) (i : Item) (h : IsUnder d items i) → Named items → item_of items i.id ≡ Some i → list_all is_name (names_to d items i h) ≡ true
unfolding names_to
all_named zero items i h named there = refl
all_named (suc d) items i h named there =
    let p = some_of (item_of items i.parent) (λ p. (p.directory ≡ true) × IsUnder d items p) h.1 in
    let own : i.parent ≡ p.0.id = own_id items i.parent p.0 p.1 in
    let up : item_of items p.0.id ≡ Some p.0 = subst (λ v. item_of items v ≡ Some p.0) own p.1 in
    list_all-append is_name (names_to d items p.0 p.2.1) (i.name ∷ []) ∙ and_from _ _ (all_named d items p.0 p.2.1 named up) (and_from _ _ (named i there h.0) refl)

pub record RowOf (rows : List Row) (i : Item) : Type 0 where
  pub row : Row
  pub there : row_of rows i.id ≡ Some row
  pub means : Means row i

row_of_item : (rows : List Row) (items : List Item) (i : Item) → MeansAll rows items → item_of items i.id ≡ Some i → RowOf rows i
row_of_item rows items i m e = cases (row_of rows i.id) refl (subst (λ v. BothMean (row_of rows i.id) v) e (rows_by_id rows items i.id m)) where
  cases : (o : Option Row) → row_of rows i.id ≡ o → BothMean o (Some i) → RowOf rows i
  cases None f b = absurd b
  cases (Some r) f b = record { row = r; there = f; means = b }

named_items : (rows : List Row) (items : List Item) → MeansAll rows items → HaveNames rows → Named items
named_items rows items m names i e other =
    let r = row_of_item rows items i m e in
    ap is_name (sym r.means.name) ∙ name_is r.row.name ∙ names i.id r.row r.there (ap (λ v. eqb v.0 1) r.means.id ∙ other)

pub ends_at_root : (n : ℕ) (rows : List Row) (id : ItemId) → parent_in (row_of rows id) ≡ None → path_in n rows id ≡ []
unfolding path_in
ends_at_root zero rows id e = refl
ends_at_root (suc n) rows id e = ap (λ o. elim o as (λ _. List ℕ) [ None ↦ [] | Some p ↦ path_in n rows p ++ 47 ∷ name_in (row_of rows id) ]) e

pub goes_down : (n : ℕ) (rows : List Row) (id parent : ItemId) → parent_in (row_of rows id) ≡ Some parent → path_in (suc n) rows id ≡ path_in n rows parent ++ 47 ∷ name_in (row_of rows id)
unfolding path_in
goes_down n rows id parent e = ap (λ o. elim o as (λ _. List ℕ) [ None ↦ [] | Some p ↦ path_in n rows p ++ 47 ∷ name_in (row_of rows id) ]) e

pub no_names : (rows : List Row) (id : ItemId) → path_in 0 rows id ≡ []
unfolding path_in
no_names rows id = refl

path_is : (d n : ℕ) (rows : List Row) (items : List Item) (i : Item) (h : IsUnder d items i) → MeansAll rows items → item_of items i.id ≡ Some i → d ≤ n → path_in n rows i.id ≡ joined (names_to d items i h)
unfolding joined names_to
path_is zero n rows items i h m there le =
    let r = row_of_item rows items i m there in
    ends_at_root n rows i.id (ap parent_in r.there ∙ cond-true (eqb r.row.id.0 1) _ _ (eq-eqb r.row.id.0 1 (ap (λ v. v.0) r.means.id ∙ h)))
path_is (suc d) zero rows items i h m there le = absurd (omega arith)
path_is (suc d) (suc n) rows items i h m there le =
    let p = some_of (item_of items i.parent) (λ p. (p.directory ≡ true) × IsUnder d items p) h.1 in
    let own : i.parent ≡ p.0.id = own_id items i.parent p.0 p.1 in
    let up : item_of items p.0.id ≡ Some p.0 = subst (λ v. item_of items v ≡ Some p.0) own p.1 in
    let r = row_of_item rows items i m there in
    let parent : parent_in (row_of rows i.id) ≡ Some p.0.id = ap parent_in r.there ∙ cond-false (eqb r.row.id.0 1) _ _ (ap (λ v. eqb v.0 1) r.means.id ∙ h.0) ∙ ap (λ v. Some v) (r.means.parent ∙ own) in
    goes_down n rows i.id p.0.id parent
    ∙ (λ k. path_is d n rows items p.0 p.2.1 m up (omega arith) k ++ 47 ∷ (ap name_in r.there ∙ r.means.name) k)
    ∙ sym (joined_more (names_to d items p.0 p.2.1) i.name)

few_and_named : (ns : List (List ℕ)) → length ns ≤ 32 → list_all is_name ns ≡ true → bad_names ns ≡ None
few_and_named ns few all = λ k. first_of ((le-ltb 32 (length ns) few k, code.TooDeep) ∷ (not (all k), code.BadPath) ∷ [])

pub leads_back : (rows : List Row) (items : List Item) (id : ItemId) (i : Item) → MeansAll rows items → IsTree items → AreOpen items → HaveNames rows → item_of items id ≡ Some i → (eqb id.0 1) ≡ false → find_path items (path_in 32 rows id) ≡ Ok i
leads_back rows items id i m t opened names e other =
    let own : id ≡ i.id = own_id items id i e in
    let there : item_of items i.id ≡ Some i = subst (λ v. item_of items v ≡ Some i) own e in
    let s = t.places id i e in
    let ns : List (List ℕ) = names_to s.depth items i s.under in
    let all : list_all is_name ns ≡ true = all_named s.depth items i s.under (named_items rows items m names) there in
    let few : length ns ≤ 32 = omega (arith, names_count s.depth items i s.under, s.few) in
    let some : 0 < length ns = omega (arith, names_count s.depth items i s.under, below s.depth s.under) in
    let path : names_of (path_in 32 rows id) ≡ ns = ap names_of (ap (path_in 32 rows) own ∙ path_is s.depth 32 rows items i s.under m there s.few) ∙ names_back ns all some in
    ap (find_names items) path ∙ ap (λ b. refused_or b (walk items (root_of items) ns)) (few_and_named ns few all) ∙ walks_to s.depth items i s.under t opened there where
      below : (d : ℕ) → IsUnder d items i → 0 < d
      below zero h = absurd (eqb-false id.0 1 other (ap (λ v. v.0) (own_id items id i e) ∙ h))
      below (suc d) h = omega arith

pub root_path : (items : List Item) (id : ItemId) (i : Item) → IsTree items → id.0 ≡ 1 → item_of items id ≡ Some i → find_path items (47 ∷ []) ≡ Ok i
root_path items id i t one e = ap (λ v. Ok v) (only (root_of items) i (sym (root_found items id one t.root) ∙ e))
