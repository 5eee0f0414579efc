-- The ids of the children of items that stand in order of id.
use Rattle.std.proofs.Common.{◌≡◌, ℕ, ◌+◌, ◌≤◌, ◌<◌, Bool, true, false, cond, List, [], ◌∷◌, ◌++◌, refl, sym, ap, ◌∙◌, arith, eqb, ltb, Some, None, Option}
use Rattle.std.specs.Prelude.{filter, map, ◌||◌}
use Rattle.std.specs.List.{list_any}
use Rattle.std.proofs.lemmas.Bool.{cond-false, cond-true, eqb-true, ne_eqb}
use Rattle.std.proofs.lemmas.List.Elements.{filter-append}
use Rattle.cf_base.specs.declared.ids.ItemId.{ItemId}
use Rattle.cf_model.specs.Items.{Item, item_of}
use Rattle.cf_model.specs.LookUp.{by_name, children, is_child}
use Rattle.cf_model.specs.Words.{comes_before, put_in, sorted}
use Rattle.cf_table.specs.Tables.{MeansAll}
use Rattle.cf_table.specs.declared.rows.Row.{Row}
use Rattle.cf_table.proofs.ChildrenOf.{children_mean}
use Rattle.cf_tree.specs.Levels.{children_in, level_below}
use Rattle.cf_tree.specs.Trees.{RiseFrom}
use Rattle.cf_tree.proofs.Depths.{only}
use Rattle.cf_tree.proofs.FoundLater.{fewer_rise}
use Rattle.cf_tree.proofs.Stable.{Rises, one_sorted, sorted_keeps, sorted_rises}
use Rattle.cf_tree.proofs.Walks.{same_item_id}

abbrev pub ids : List Item → List ItemId
ids list = map (λ i. i.id) list

abbrev number : ItemId → ℕ
number id = id.0

abbrev has_id : ℕ → ItemId → Bool
has_id k id = eqb id.0 k

-- the children of each, by name
abbrev children_of : List Item → List ItemId → List ItemId
children_of items [] = []
children_of items (id ∷ list) = ids (by_name (children items id)) ++ children_of items list

children_are : (rows : List Row) (items : List Item) (list : List ItemId) → MeansAll rows items → children_in rows list ≡ children_of items list
children_are rows items [] m = refl
children_are rows items (id ∷ list) m = λ k. children_mean rows items id m k ++ children_are rows items list m k

-- an order by another key moves no id in or out

swapped : (k : ℕ) (a b : ItemId) (list : List ItemId) → cond (has_id k a) (a ∷ cond (has_id k b) (b ∷ list) list) (cond (has_id k b) (b ∷ list) list) ≡ cond (has_id k b) (b ∷ cond (has_id k a) (a ∷ list) list) (cond (has_id k a) (a ∷ list) list)
swapped k a b list = four (has_id k a) (has_id k b) refl refl where
  four : (p q : Bool) → has_id k a ≡ p → has_id k b ≡ q → cond p (a ∷ cond q (b ∷ list) list) (cond q (b ∷ list) list) ≡ cond q (b ∷ cond p (a ∷ list) list) (cond p (a ∷ list) list)
  four true true e f = let same : a ≡ b = same_item_id a b (eqb-true a.0 k e ∙ sym (eqb-true b.0 k f)) in λ i. same i ∷ sym same i ∷ list
  four true false e f = refl
  four false q e f = refl

put_ids : (before : Item → Item → Bool) (k : ℕ) (i : Item) (list : List Item) → filter (has_id k) (ids (put_in before i list)) ≡ filter (has_id k) (ids (i ∷ list))
put_ids before k i [] = refl
put_ids before k i (j ∷ js) = two (before j i) (put_ids before k i js) where
  two : (b : Bool) → filter (has_id k) (ids (put_in before i js)) ≡ filter (has_id k) (ids (i ∷ js)) → filter (has_id k) (ids (cond b (j ∷ put_in before i js) (i ∷ j ∷ js))) ≡ filter (has_id k) (ids (i ∷ j ∷ js))
  two true rest = ap (λ l. cond (has_id k j.id) (j.id ∷ l) l) rest ∙ swapped k j.id i.id (filter (has_id k) (ids js))
  two false rest = refl

sorted_ids : (before : Item → Item → Bool) (k : ℕ) (list : List Item) → filter (has_id k) (ids (sorted before list)) ≡ filter (has_id k) (ids list)
sorted_ids before k [] = refl
sorted_ids before k (i ∷ is) = put_ids before k i (sorted before is) ∙ ap (λ l. cond (has_id k i.id) (i.id ∷ l) l) (sorted_ids before k is)

-- an id stands once where its item passes

pub none_below : (low : ℕ) (id : ItemId) (items : List Item) → RiseFrom low items → id.0 < low → item_of items id ≡ None
none_below low id [] r lt = refl
none_below low id (x ∷ xs) r lt = cond-false (eqb x.id.0 id.0) _ _ (ne_eqb x.id.0 id.0 (λ e. omega (arith, r.0))) ∙ none_below (x.id.0 + 1) id xs r.1 (omega (arith, r.0))

absent : (g : Item → Bool) (id : ItemId) (items : List Item) → item_of items id ≡ None → filter (has_id id.0) (ids (filter g items)) ≡ []
absent g id [] e = refl
absent g id (x ∷ xs) e = four (eqb x.id.0 id.0) (g x) refl e (λ k. absent g id xs k) where
  four : (b c : Bool) → eqb x.id.0 id.0 ≡ b → cond b (Some x) (item_of xs id) ≡ None → (item_of xs id ≡ None → filter (has_id id.0) (ids (filter g xs)) ≡ []) → filter (has_id id.0) (ids (cond c (x ∷ filter g xs) (filter g xs))) ≡ []
  four true c h k rest = let z : ◌≡◌ {A = Option Item} (Some x) None = k in absurd cc
  four false true h k rest = cond-false (eqb x.id.0 id.0) _ _ h ∙ rest k
  four false false h k rest = rest k

present : (low : ℕ) (g : Item → Bool) (id : ItemId) (items : List Item) (i : Item) → RiseFrom low items → item_of items id ≡ Some i → filter (has_id id.0) (ids (filter g items)) ≡ cond (g i) (i.id ∷ []) []
present low g id [] i r e = let z : ◌≡◌ {A = Option Item} None (Some i) = e in absurd cc
present low g id (x ∷ xs) i r e = four (eqb x.id.0 id.0) (g x) refl refl e (λ k. present (x.id.0 + 1) g id xs i r.1 k) where
  four : (b c : Bool) → eqb x.id.0 id.0 ≡ b → g x ≡ c → cond b (Some x) (item_of xs id) ≡ Some i → (item_of xs id ≡ Some i → filter (has_id id.0) (ids (filter g xs)) ≡ cond (g i) (i.id ∷ []) []) →
      filter (has_id id.0) (ids (cond c (x ∷ filter g xs) (filter g xs))) ≡ cond (g i) (i.id ∷ []) []
  four false true h f k rest = cond-false (eqb x.id.0 id.0) _ _ h ∙ rest k
  four false false h f k rest = rest k
  four true true h f k rest =
      let same : x ≡ i = only x i k in
      let own : x.id.0 ≡ id.0 = eqb-true x.id.0 id.0 h in
      let none : filter (has_id id.0) (ids (filter g xs)) ≡ [] = absent g id xs (none_below (x.id.0 + 1) id xs r.1 (omega arith)) in
      cond-true (eqb x.id.0 id.0) _ _ h ∙ (λ q. (same q).id ∷ none q) ∙ sym (cond-true (g i) _ _ (ap g (sym same) ∙ f))
  four true false h f k rest =
      let same : x ≡ i = only x i k in
      let own : x.id.0 ≡ id.0 = eqb-true x.id.0 id.0 h in
      absent g id xs (none_below (x.id.0 + 1) id xs r.1 (omega arith)) ∙ sym (cond-false (g i) _ _ (ap g (sym same) ∙ f))

-- the item is a child of one of these
abbrev pub is_child_of_any : List Item → Item → Bool
is_child_of_any level i = list_any (λ j. is_child j.id i) level

pub none_above : (low n : ℕ) (level : List Item) → RiseFrom low level → n < low → list_any (λ j. eqb n j.id.0) level ≡ false
none_above low n [] r lt = refl
none_above low n (j ∷ js) r lt = (λ k. ne_eqb n j.id.0 (λ e. omega (arith, r.0)) k || none_above (j.id.0 + 1) n js r.1 (omega (arith, r.0)) k)

one_of_two : {A : Type 0} (p q : Bool) (x : A) → (p ≡ true → q ≡ false) → cond p (x ∷ []) [] ++ cond q (x ∷ []) [] ≡ cond (p || q) (x ∷ []) []
one_of_two true true x apart = let z : true ≡ false = apart refl in absurd cc
one_of_two true false x apart = refl
one_of_two false q x apart = refl

child_once : (low : ℕ) (id : ItemId) (items level : List Item) (i : Item) → RiseFrom 1 items → RiseFrom low level → item_of items id ≡ Some i → filter (has_id id.0) (children_of items (ids level)) ≡ cond (is_child_of_any level i) (i.id ∷ []) []
child_once low id items [] i t r e = refl
child_once low id items (j ∷ js) i t r e =
    filter-append (has_id id.0) (ids (by_name (children items j.id))) (children_of items (ids js))
    ∙ (λ k. (sorted_ids (λ i j. comes_before i.name j.name) id.0 (children items j.id) ∙ present 1 (is_child j.id) id items i t e) k ++ child_once (j.id.0 + 1) id items js i t r.1 e k)
    ∙ one_of_two (eqb i.parent.0 j.id.0) (is_child_of_any js i) i.id (λ h. let own = eqb-true i.parent.0 j.id.0 h in none_above (j.id.0 + 1) i.parent.0 js r.1 (omega arith))

no_child : (id : ItemId) (items level : List Item) → item_of items id ≡ None → filter (has_id id.0) (children_of items (ids level)) ≡ []
no_child id items [] e = refl
no_child id items (j ∷ js) e =
    filter-append (has_id id.0) (ids (by_name (children items j.id))) (children_of items (ids js))
    ∙ (λ k. (sorted_ids (λ i j. comes_before i.name j.name) id.0 (children items j.id) ∙ absent (is_child j.id) id items e) k ++ no_child id items js e k)

-- sorted by id, they are the items that are children of one of these

ids_rise : (low high : ℕ) (list : List Item) → low ≤ high → RiseFrom high list → Rises number low (ids list)
ids_rise low high [] le r = tt
ids_rise low high (i ∷ is) le r = (omega (arith, r.0), ids_rise i.id.0 (i.id.0 + 1) is (omega arith) r.1)

abbrev lower : ItemId → ItemId → Bool
lower a b = ltb a.0 b.0

children_by_id : (items level : List Item) → RiseFrom 1 items → RiseFrom 1 level → sorted lower (children_of items (ids level)) ≡ ids (filter (is_child_of_any level) items)
children_by_id items level t r =
    one_sorted number 0 (sorted lower (children_of items (ids level))) (ids (filter (is_child_of_any level) items)) (sorted_rises number (children_of items (ids level)))
    (ids_rise 0 1 (filter (is_child_of_any level) items) (omega arith) (fewer_rise (is_child_of_any level) 1 items t))
    (λ k. sorted_keeps number k (children_of items (ids level)) ∙ each k (item_of items (record { 0 = k })) refl) where
      each : (k : ℕ) (o : Option Item) → item_of items (record { 0 = k }) ≡ o → filter (has_id k) (children_of items (ids level)) ≡ filter (has_id k) (ids (filter (is_child_of_any level) items))
      each k None e = no_child (record { 0 = k }) items level e ∙ sym (absent (is_child_of_any level) (record { 0 = k }) items e)
      each k (Some i) e = child_once 1 (record { 0 = k }) items level i t r e ∙ sym (present 1 (is_child_of_any level) (record { 0 = k }) items i t e)

pub below_is : (rows : List Row) (items level : List Item) → MeansAll rows items → RiseFrom 1 items → RiseFrom 1 level → level_below rows (ids level) ≡ ids (filter (is_child_of_any level) items)
below_is rows items level m t r = ap (λ l. sorted lower l) (children_are rows items (ids level) m) ∙ children_by_id items level t r
