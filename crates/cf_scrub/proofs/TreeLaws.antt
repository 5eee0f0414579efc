-- Rows that pass the tests of the tree form one, and those of a tree pass them.
use Rattle.std.proofs.Common.{◌≡◌, ℕ, zero, suc, ◌+◌, ◌<◌, ◌≤◌, Bool, true, false, ◌||◌, ◌&&◌, not, cond, List, [], ◌∷◌, refl, sym, ap, subst, ◌∙◌, arith, eqb, ltb, inl, inr, ◌⊎◌, Option, Some, None}
use Rattle.std.proofs.lemmas.Bool.{cases_Bool, eq-eqb, eqb-true, lt-ltb, ltb-true, ne_eqb}
use Rattle.std.specs.Prelude.{is_some, map, option_map}
use Rattle.std.specs.List.{list_all}
use Rattle.cf_base.specs.declared.ids.ItemId.{ItemId}
use Rattle.cf_model.specs.Numbers.{no_item, root_id}
use Rattle.cf_model.specs.Rows as model
use Rattle.cf_model.specs.Words.{says}
use Rattle.cf_scrub.specs.RowTests.{has_child, has_sound_kind}
use Rattle.cf_scrub.specs.Ways.{above, above_in, climbs, is_first, is_in_tree, is_placed}
use Rattle.cf_scrub.proofs.Bools.{both, either, left, neither, never, right, two}
use Rattle.cf_scrub.proofs.RowLaws.{listed_from}
use Rattle.cf_scrub.proofs.UpWays.{first_is}
use Rattle.cf_table.specs.Spelling.{row_value}
use Rattle.cf_table.specs.Tables.{RisesFrom, row_of}
use Rattle.cf_table.specs.declared.rows.Row.{Row}
use Rattle.cf_volume_image.specs.Contents.{row_at}
use Rattle.cf_volume_image.specs.Sound.{reaches_root, takes_children}
use Rattle.cf_volume_image.specs.Trees.{is_root}
use Rattle.cf_volume_image.specs.Trees as tree
use Rattle.cf_volume_image.proofs.RowLookups.{at_some, row_at_is}

-- a row of a list

abbrev pub Has : List Row → Row → Type 0
Has [] r = ⊥
Has (x ∷ xs) r = (x ≡ r) ⊎ Has xs r

pub all_has : (f : Row → Bool) (rows : List Row) (r : Row) → list_all f rows ≡ true → Has rows r → f r ≡ true
all_has f [] r h m = absurd m
all_has f (x ∷ xs) r h m = let w = two (f x) (list_all f xs) h in elim m [ inl e ↦ subst (λ (y : Row). f y ≡ true) e w.0 | inr t ↦ all_has f xs r w.1 t ]

pub all_of : (f : Row → Bool) (rows : List Row) → ((r : Row) → Has rows r → f r ≡ true) → list_all f rows ≡ true
all_of f [] h = refl
all_of f (x ∷ xs) h = both (f x) (list_all f xs) (h x (inl refl)) (all_of f xs (λ r m. h r (inr m)))

child_has : (rows : List Row) (r : Row) (id : ItemId) → Has rows r → r.parent.0 ≡ id.0 → has_child (map row_value rows) id ≡ true
child_has [] r id m e = absurd m
child_has (x ∷ xs) r id m e = elim m [
  | inl is ↦ left (eqb x.parent.0 id.0) (has_child (map row_value xs) id) (eq-eqb x.parent.0 id.0 (subst (λ (y : Row). y.parent.0 ≡ id.0) (sym is) e))
  | inr t ↦ right (eqb x.parent.0 id.0) (has_child (map row_value xs) id) (child_has xs r id t e)
]

has_child_of : (rows : List Row) (id : ItemId) → has_child (map row_value rows) id ≡ true → (r : Row) × Has rows r × (r.parent.0 ≡ id.0)
has_child_of [] id h = let z : false ≡ true = h in absurd cc
has_child_of (x ∷ xs) id h = elim (either (eqb x.parent.0 id.0) (has_child (map row_value xs) id) h) [
  | inl hit ↦ (x, inl refl, eqb-true x.parent.0 id.0 hit)
  | inr more ↦ let f = has_child_of xs id more in (f.0, inr f.1, f.2)
]

low_of : (low : ℕ) (rows : List Row) (r : Row) → RisesFrom low rows → Has rows r → low ≤ r.id.0
low_of low [] r h m = absurd m
low_of low (x ∷ xs) r h m = elim m [ inl e ↦ subst (λ (y : Row). low ≤ y.id.0) e h.0 | inr t ↦ omega (arith, h.0, low_of (x.id.0 + 1) xs r h.1 t) ]

has_found : (low : ℕ) (rows : List Row) (r : Row) (id : ItemId) → RisesFrom low rows → Has rows r → r.id.0 ≡ id.0 → Some r ≡ row_of rows id
has_found low [] r id h m same = absurd m
has_found low (x ∷ xs) r id h m same = elim m [
  | inl e ↦ sym (ap (λ b. cond b (Some x) (row_of xs id)) (eq-eqb x.id.0 id.0 (subst (λ (y : Row). y.id.0 ≡ id.0) (sym e) same)) ∙ ap Some e)
  | inr t ↦ has_found (x.id.0 + 1) xs r id h.1 t same ∙ sym (ap (λ b. cond b (Some x) (row_of xs id)) (ne_eqb x.id.0 id.0 (λ e. absurd (omega (arith, e, same, low_of (x.id.0 + 1) xs r h.1 t)))))
]

found_has : (rows : List Row) (r : Row) (id : ItemId) → row_of rows id ≡ Some r → Has rows r × (r.id.0 ≡ id.0)
found_has [] r id h = let z : None ≡ Some r = h in absurd cc
found_has (x ∷ xs) r id h = by (eqb x.id.0 id.0) refl (λ k. found_has xs r id k) h where
  by : (b : Bool) → eqb x.id.0 id.0 ≡ b → (row_of xs id ≡ Some r → Has xs r × (r.id.0 ≡ id.0)) → cond b (Some x) (row_of xs id) ≡ Some r → ((x ≡ r) ⊎ Has xs r) × (r.id.0 ≡ id.0)
  by true e more k = let z : Some x ≡ Some r = k in let is : x ≡ r = cc in (inl is, subst (λ (y : Row). y.id.0 ≡ id.0) is (eqb-true x.id.0 id.0 e))
  by false e more k = let f = more k in (inr f.0, f.1)

at_row : (rows : List Row) (id : ItemId) (v : model.Row) → row_at (map row_value rows) id ≡ Some v → (r : Row) × (row_value r ≡ v) × Has rows r × (r.id.0 ≡ id.0)
at_row rows id v h = by (row_of rows id) refl (sym (row_at_is rows id) ∙ h) where
  by : (o : Option Row) → row_of rows id ≡ o → option_map row_value o ≡ Some v → (r : Row) × (row_value r ≡ v) × Has rows r × (r.id.0 ≡ id.0)
  by None e k = let z : None ≡ Some v = k in absurd cc
  by (Some r) e k = let z : Some (row_value r) ≡ Some v = k in let f = found_has rows r id e in (r, cc, f.0, f.1)

said : {A : Type 0} (f : A → Bool) (o : Option A) → says f o ≡ true → (x : A) × (o ≡ Some x) × (f x ≡ true)
said f None h = let z : false ≡ true = h in absurd cc
said f (Some x) h = (x, refl, h)

above_row : (o : Option model.Row) (p : ItemId) → above_in o ≡ Some p → (v : model.Row) × (o ≡ Some v) × (v.directory ≡ true) × (v.parent ≡ p)
above_row None p h = let z : None ≡ Some p = h in absurd cc
above_row (Some v) p h = by v.directory refl h where
  by : (b : Bool) → v.directory ≡ b → cond b (Some v.parent) None ≡ Some p → (w : model.Row) × (Some v ≡ Some w) × (w.directory ≡ true) × (w.parent ≡ p)
  by true e k = let z : Some v.parent ≡ Some p = k in (v, refl, e, cc)
  by false e k = let z : None ≡ Some p = k in absurd cc

-- ways

climbs_on : (rows : List model.Row) (n : ℕ) (id : ItemId) → climbs rows (suc n) id ≡ true → (v : model.Row) × (row_at rows id ≡ Some v) × (v.directory ≡ true) × ((eqb id.0 1 || climbs rows n v.parent) ≡ true)
unfolding climbs
climbs_on rows n id h =
    let s = said (λ parent. eqb id.0 1 || climbs rows n parent) (above rows id) h in
    let a = above_row (row_at rows id) s.0 s.1 in
    (a.0, a.1, a.2, subst (λ (p : ItemId). (eqb id.0 1 || climbs rows n p) ≡ true) (sym a.3) s.2)

climbs_none : (rows : List model.Row) (id : ItemId) → climbs rows 0 id ≡ false
unfolding climbs
climbs_none rows id = refl

reach_more : (rows : List model.Row) (m : ℕ) (id : ItemId) (v : model.Row) → row_at rows id ≡ Some v → reaches_root rows m v.parent ≡ true → reaches_root rows (suc m) id ≡ true
unfolding reaches_root
reach_more rows m id v h k = right (eqb id.0 1) (says (λ r. reaches_root rows m r.parent) (row_at rows id)) (ap (says (λ r. reaches_root rows m r.parent)) h ∙ k)

reach_now : (rows : List model.Row) (n : ℕ) (id : ItemId) → eqb id.0 1 ≡ true → reaches_root rows n id ≡ true
unfolding reaches_root
reach_now rows zero id h = h
reach_now rows (suc n) id h = left (eqb id.0 1) (says (λ r. reaches_root rows n r.parent) (row_at rows id)) h

climbs_reach : (rows : List model.Row) (n : ℕ) (id : ItemId) → climbs rows (suc n) id ≡ true → reaches_root rows n id ≡ true
climbs_reach rows zero id h =
    let c = climbs_on rows 0 id h in
    elim (either (eqb id.0 1) (climbs rows 0 c.0.parent) c.3) [ inl hit ↦ reach_now rows 0 id hit | inr more ↦ never (climbs rows 0 c.0.parent) more (climbs_none rows c.0.parent) ]
climbs_reach rows (suc m) id h =
    let c = climbs_on rows (suc m) id h in
    elim (either (eqb id.0 1) (climbs rows (suc m) c.0.parent) c.3) [
      | inl hit ↦ reach_now rows (suc m) id hit
      | inr more ↦ reach_more rows m id c.0 c.1 (climbs_reach rows m c.0.parent more)
    ]

-- each row in its place

placed_parts : (rows : List model.Row) (r : model.Row) (b : Bool) → eqb r.id.0 1 ≡ b → is_placed rows r ≡ true → cond b (is_root r) (ltb 0 r.id.0 && climbs rows 32 r.parent) ≡ true
placed_parts rows r b e h = sym (ap (λ c. cond c (is_root r) (ltb 0 r.id.0 && climbs rows 32 r.parent)) e) ∙ h

pub placed_from : (rows : List Row) (r : Row) → RisesFrom 0 rows → Has rows r → ((q : Row) → Has rows q → has_sound_kind (map row_value rows) (row_value q) ≡ true) → is_placed (map row_value rows) (row_value r) ≡ true
    → tree.is_placed (map row_value rows) (row_value r) ≡ true
placed_from rows r rises m sound h = elim (cases_Bool (eqb r.id.0 1)) [
  | inl hit ↦ left (eqb r.id.0 1) (takes_children (map row_value rows) r.parent && reaches_root (map row_value rows) 32 r.id) hit
  | inr miss ↦
      let w = two (ltb 0 r.id.0) (climbs (map row_value rows) 32 r.parent) (placed_parts (map row_value rows) (row_value r) false miss h) in
      let c = climbs_on (map row_value rows) 31 r.parent w.1 in
      let q = at_row rows r.parent c.0 c.1 in
      let dir : q.0.dir ≡ true = ap (λ (v : model.Row). v.directory) q.1 ∙ c.2 in
      let full : q.0.populated ≡ true = listed_from (map row_value rows) q.0 (sound q.0 q.2) dir (child_has rows r q.0.id m (sym q.3)) in
      let full_v : c.0.populated ≡ true = sym (ap (λ (v : model.Row). v.populated) q.1) ∙ full in
      right (eqb r.id.0 1) (takes_children (map row_value rows) r.parent && reaches_root (map row_value rows) 32 r.id)
      (both (takes_children (map row_value rows) r.parent) (reaches_root (map row_value rows) 32 r.id)
      (ap (says (λ x. x.directory && x.populated)) c.1 ∙ both c.0.directory c.0.populated c.2 full_v)
      (reach_more (map row_value rows) 31 r.id (row_value r) (at_some rows r.id r (has_found 0 rows r r.id rises m refl)) (climbs_reach (map row_value rows) 31 r.parent w.1)))
]

above_zero : (rows : List Row) (r : Row) → is_placed (map row_value rows) (row_value r) ≡ true → 0 < r.id.0
above_zero rows r h = elim (cases_Bool (eqb r.id.0 1)) [
  | inl hit ↦ omega (arith, eqb-true r.id.0 1 hit)
  | inr miss ↦ ltb-true 0 r.id.0 (two (ltb 0 r.id.0) (climbs (map row_value rows) 32 r.parent) (placed_parts (map row_value rows) (row_value r) false miss h)).0
]

lacks_top : (rows : List Row) → ((r : Row) → Has rows r → 0 < r.id.0) → not (is_some (row_at (map row_value rows) no_item)) ≡ true
lacks_top rows h = by (row_of rows no_item) refl where
  by : (o : Option Row) → row_of rows no_item ≡ o → not (is_some (row_at (map row_value rows) no_item)) ≡ true
  by None e = ap (λ o. not (is_some o)) (row_at_is rows no_item ∙ ap (option_map row_value) e)
  by (Some r) e = let f = found_has rows r no_item e in absurd (omega (arith, h r f.0, f.1))

pub root_from : (rows : List Row) → is_some (row_at (map row_value rows) root_id) ≡ true → ((r : Row) → Has rows r → is_placed (map row_value rows) (row_value r) ≡ true) → says is_root (row_at (map row_value rows) root_id) ≡ true
root_from rows h placed = by (row_at (map row_value rows) root_id) refl h where
  by : (o : Option model.Row) → row_at (map row_value rows) root_id ≡ o → is_some o ≡ true → says is_root (row_at (map row_value rows) root_id) ≡ true
  by None e k = let z : false ≡ true = k in absurd cc
  by (Some v) e k =
      let q = at_row rows root_id v e in
      let is : is_root (row_value q.0) ≡ true = placed_parts (map row_value rows) (row_value q.0) true (eq-eqb q.0.id.0 1 q.3) (placed q.0 q.2) in
      ap (says is_root) e ∙ sym (ap is_root q.1) ∙ is

pub is_tree_from : (rows : List Row) → RisesFrom 0 rows → is_some (row_at (map row_value rows) root_id) ≡ true → ((r : Row) → Has rows r → is_in_tree (map row_value rows) (row_value r) ≡ true)
    → ((q : Row) → Has rows q → has_sound_kind (map row_value rows) (row_value q) ≡ true) → tree.is_tree rows ≡ true
is_tree_from rows rises root all sound =
    let ms : List model.Row = map row_value rows in
    let placed : (r : Row) → Has rows r → is_placed ms (row_value r) ≡ true = λ r m. (two (is_placed ms (row_value r)) (is_first ms (row_value r)) (all r m)).0 in
    let top = not (is_some (row_at ms no_item)) in let one = says is_root (row_at ms root_id) in let each = list_all (λ r. tree.is_placed ms (row_value r)) rows in let named = list_all (tree.is_named rows) rows in
    both ((top && one) && each) named
    (both (top && one) each (both top one (lacks_top rows (λ r m. above_zero rows r (placed r m))) (root_from rows root placed))
    (all_of (λ r. tree.is_placed ms (row_value r)) rows (λ r m. placed_from rows r rises m sound (placed r m))))
    (all_of (tree.is_named rows) rows (λ r m. sym (first_is rows r.parent r.id r.name) ∙ (two (is_placed ms (row_value r)) (is_first ms (row_value r)) (all r m)).1))

-- and back

climbs_now : (rows : List model.Row) (n : ℕ) (id : ItemId) (v : model.Row) → row_at rows id ≡ Some v → v.directory ≡ true → (eqb id.0 1 || climbs rows n v.parent) ≡ true → climbs rows (suc n) id ≡ true
unfolding climbs
climbs_now rows n id v h d k = ap (says (λ parent. eqb id.0 1 || climbs rows n parent)) (ap above_in h ∙ ap (λ b. cond b (Some v.parent) None) d) ∙ k

reach_on : (rows : List model.Row) (m : ℕ) (id : ItemId) (v : model.Row) → row_at rows id ≡ Some v → eqb id.0 1 ≡ false → reaches_root rows (suc m) id ≡ true → reaches_root rows m v.parent ≡ true
unfolding reaches_root
reach_on rows m id v h miss k = sym (ap (says (λ r. reaches_root rows m r.parent)) h) ∙ neither (eqb id.0 1) (says (λ r. reaches_root rows m r.parent) (row_at rows id)) miss k

reach_zero : (rows : List model.Row) (id : ItemId) → reaches_root rows 0 id ≡ true → eqb id.0 1 ≡ true
unfolding reaches_root
reach_zero rows id h = h

in_open : (rows : List model.Row) (r : model.Row) → tree.is_placed rows r ≡ true → eqb r.id.0 1 ≡ false → (takes_children rows r.parent ≡ true) × (reaches_root rows 32 r.id ≡ true)
in_open rows r h miss = two (takes_children rows r.parent) (reaches_root rows 32 r.id) (neither (eqb r.id.0 1) (takes_children rows r.parent && reaches_root rows 32 r.id) miss h)

pub reach_climbs : (rows : List Row) (n : ℕ) (id : ItemId) → ((r : Row) → Has rows r → tree.is_placed (map row_value rows) (row_value r) ≡ true) → takes_children (map row_value rows) id ≡ true → reaches_root (map row_value rows) n id ≡ true
    → climbs (map row_value rows) (suc n) id ≡ true
reach_climbs rows zero id placed taking way =
    let s = said (λ x. x.directory && x.populated) (row_at (map row_value rows) id) taking in
    climbs_now (map row_value rows) 0 id s.0 s.1 (two s.0.directory s.0.populated s.2).0 (left (eqb id.0 1) (climbs (map row_value rows) 0 s.0.parent) (reach_zero (map row_value rows) id way))
reach_climbs rows (suc m) id placed taking way =
    let s = said (λ x. x.directory && x.populated) (row_at (map row_value rows) id) taking in
    let q = at_row rows id s.0 s.1 in
    climbs_now (map row_value rows) (suc m) id s.0 s.1 (two s.0.directory s.0.populated s.2).0 (elim (cases_Bool (eqb id.0 1)) [
      | inl hit ↦ left (eqb id.0 1) (climbs (map row_value rows) (suc m) s.0.parent) hit
      | inr miss ↦
          right (eqb id.0 1) (climbs (map row_value rows) (suc m) s.0.parent) (reach_climbs rows m s.0.parent placed
          (subst (λ (x : model.Row). takes_children (map row_value rows) x.parent ≡ true) q.1 (in_open (map row_value rows) (row_value q.0) (placed q.0 q.2) (ap (λ (k : ℕ). eqb k 1) q.3 ∙ miss)).0)
          (reach_on (map row_value rows) m id s.0 s.1 miss way))
    ])

-- what is known of the rows of a tree
pub record OfTree (rows : List Row) : Type 0 where
  pub top : row_at (map row_value rows) no_item ≡ None
  pub root : says is_root (row_at (map row_value rows) root_id) ≡ true
  pub placed : (r : Row) → Has rows r → tree.is_placed (map row_value rows) (row_value r) ≡ true
  pub named : (r : Row) → Has rows r → tree.is_named rows r ≡ true

no_top : (o : Option model.Row) → not (is_some o) ≡ true → o ≡ None
no_top None h = refl
no_top (Some r) h = let z : false ≡ true = h in absurd cc

pub of_tree : (rows : List Row) → tree.is_tree rows ≡ true → OfTree rows
of_tree rows h =
    let ms : List model.Row = map row_value rows in
    let top = not (is_some (row_at ms no_item)) in let one = says is_root (row_at ms root_id) in let each = list_all (λ r. tree.is_placed ms (row_value r)) rows in let named = list_all (tree.is_named rows) rows in
    let a = two ((top && one) && each) named h in
    let b = two (top && one) each a.0 in
    let d = two top one b.0 in
    record {
      top = no_top (row_at ms no_item) d.0;
      root = d.1;
      placed = λ r m. all_has (λ x. tree.is_placed ms (row_value x)) rows r b.1 m;
      named = λ r m. all_has (tree.is_named rows) rows r a.1 m;
    }

not_zero : (rows : List Row) (r : Row) → RisesFrom 0 rows → OfTree rows → Has rows r → 0 < r.id.0
not_zero rows r rises t m = elim (cases_Bool (eqb r.id.0 0)) [
  | inl hit ↦ let z : None ≡ Some (row_value r) = sym t.top ∙ at_some rows no_item r (has_found 0 rows r no_item rises m (eqb-true r.id.0 0 hit)) in absurd cc
  | inr miss ↦ positive r.id.0 miss
] where
  positive : (n : ℕ) → eqb n 0 ≡ false → 0 < n
  positive zero h = let z : true ≡ false = h in absurd cc
  positive (suc n) h = omega arith

is_root_at : (rows : List Row) (r : Row) → RisesFrom 0 rows → OfTree rows → Has rows r → r.id.0 ≡ 1 → is_root (row_value r) ≡ true
is_root_at rows r rises t m e = sym (ap (says is_root) (at_some rows root_id r (has_found 0 rows r root_id rises m e))) ∙ t.root

pub in_tree_told : (rows : List Row) (r : Row) → RisesFrom 0 rows → OfTree rows → Has rows r → is_in_tree (map row_value rows) (row_value r) ≡ true
in_tree_told rows r rises t m =
    let ms : List model.Row = map row_value rows in
    both (is_placed ms (row_value r)) (is_first ms (row_value r)) (elim (cases_Bool (eqb r.id.0 1)) [
      | inl hit ↦ ap (λ c. cond c (is_root (row_value r)) (ltb 0 r.id.0 && climbs ms 32 r.parent)) hit ∙ is_root_at rows r rises t m (eqb-true r.id.0 1 hit)
      | inr miss ↦
          let w = in_open ms (row_value r) (t.placed r m) miss in
          ap (λ c. cond c (is_root (row_value r)) (ltb 0 r.id.0 && climbs ms 32 r.parent)) miss
          ∙ both (ltb 0 r.id.0) (climbs ms 32 r.parent) (lt-ltb 0 r.id.0 (not_zero rows r rises t m))
          (reach_climbs rows 31 r.parent t.placed w.0 (reach_on ms 31 r.id (row_value r) (at_some rows r.id r (has_found 0 rows r r.id rises m refl)) miss w.1))
    ]) (first_is rows r.parent r.id r.name ∙ t.named r m)

-- the entries of each directory in which there is an item have come
pub childless : (rows : List Row) (r : Row) → RisesFrom 0 rows → OfTree rows → Has rows r → r.populated ≡ false → has_child (map row_value rows) r.id ≡ false
childless rows r rises t m unlisted = elim (cases_Bool (has_child (map row_value rows) r.id)) [
  | inl hit ↦
      let q = has_child_of rows r.id hit in
      elim (cases_Bool (eqb q.0.id.0 1)) [
        | inl one ↦
            let w = two q.0.dir (eqb q.0.parent.0 0) (is_root_at rows q.0 rises t q.1 (eqb-true q.0.id.0 1 one)) in
            absurd (omega (arith, not_zero rows r rises t m, eqb-true q.0.parent.0 0 w.1, q.2))
        | inr miss ↦
            let w = in_open (map row_value rows) (row_value q.0) (t.placed q.0 q.1) miss in
            let full : (r.dir && r.populated) ≡ true = sym (ap (says (λ x. x.directory && x.populated)) (at_some rows q.0.parent r (has_found 0 rows r q.0.parent rises m (sym q.2)))) ∙ w.0 in
            never r.populated (two r.dir r.populated full).1 unlisted
      ]
  | inr miss ↦ miss
]

pub root_some : (o : Option model.Row) → says is_root o ≡ true → is_some o ≡ true
root_some None h = h
root_some (Some r) h = refl
