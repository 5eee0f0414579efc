-- The rows that differ are those noted that are still there, and the new ones behind them.
use Rattle.std.proofs.Common.{◌≡◌, ℕ, zero, suc, ◌+◌, ◌-◌, ◌<◌, ◌≤◌, Bool, true, false, ◌||◌, ◌&&◌, not, cond, eqb, ltb, List, [], ◌∷◌, ◌++◌, length, map, drop, get_or, refl, sym, ◌∙◌, ap, subst, arith, inl, inr}
use Rattle.std.specs.Prelude.{All, filter, is_some, slice_range}
use Rattle.std.specs.List.Sorted.{IsNonDecreasingBy, IsPartitionPoint, IsPartitionedBy}
use Rattle.std.proofs.lemmas.List.Sorted.{IsPartitionedBy-ltb}
use Rattle.std.proofs.lemmas.Bool.{cases_eq, eq-eqb, le-ltb, ltb-false, ltb-true, ne_eqb, true≢false}
use Rattle.std.proofs.lemmas.List.{length-drop, take_all}
use Rattle.std.proofs.lemmas.List.Elements.{All-head, All-tail, All-nil, All-cons}
use Rattle.std.proofs.lemmas.List.Folds.{list_any-append}
use Rattle.cf_base.specs.declared.ids.ItemId.{ItemId}
use Rattle.cf_volume_points.proofs.Lookups.{has_filtered, same_id}
use Rattle.cf_volume_commit.specs.Differing.{changed_rows, is_new, is_row_changed, is_row_left, rows_left}
use Rattle.cf_volume_points.specs.declared.earlier.Earlier.{Earlier}
use Rattle.cf_volume_image.specs.Enough.{has_id}
use Rattle.cf_table.proofs.Searched.{from_low}
use Rattle.cf_table.specs.Tables.{RisesFrom, row_of}
use Rattle.cf_table.specs.declared.rows.Row.{Row}

-- ids in order

abbrev IdsRise : ℕ → List ItemId → Type 0
IdsRise low [] = Unit {0}
IdsRise low (i ∷ is) = (low ≤ i.0) × IdsRise (i.0 + 1) is

below_none : (low : ℕ) (ids : List ItemId) (id : ItemId) → IdsRise low ids → id.0 < low → has_id ids id ≡ false
below_none low [] id h lt = refl
below_none low (x ∷ xs) id h lt = (λ j. ne_eqb x.0 id.0 (λ e. omega (arith, e, h.0, lt)) j || below_none (x.0 + 1) xs id h.1 (omega (arith, h.0, lt)) j)

has_first : (x : ItemId) (xs : List ItemId) → has_id (x ∷ xs) x ≡ true
has_first x xs = ap (λ (b : Bool). b || has_id xs x) (eq-eqb x.0 x.0 refl)

not_first : (x : ItemId) (xs : List ItemId) (id : ItemId) → (x.0 ≡ id.0 → ⊥) → has_id (x ∷ xs) id ≡ has_id xs id
not_first x xs id apart = ap (λ (b : Bool). b || has_id xs id) (ne_eqb x.0 id.0 apart)

-- two such lists with the same ids are the same
ids_same : (low : ℕ) (xs ys : List ItemId) → IdsRise low xs → IdsRise low ys → ((id : ItemId) → has_id xs id ≡ has_id ys id) → xs ≡ ys
ids_same low [] [] p q h = refl
ids_same low [] (y ∷ ys) p q h = absurd (true≢false (sym (h y ∙ has_first y ys)))
ids_same low (x ∷ xs) [] p q h = absurd (true≢false (sym (has_first x xs) ∙ h x))
ids_same low (x ∷ xs) (y ∷ ys) p q h =
    let is : x.0 ≡ y.0 = by_first (ltb x.0 y.0) refl (ltb y.0 x.0) refl in
    (λ j. same_id x y is j ∷ ids_same (x.0 + 1) xs ys p.1 (subst (λ (n : ℕ). IdsRise (n + 1) ys) (sym is) q.1) (rest is) j)
  where
    by_first : (t : Bool) → ltb x.0 y.0 ≡ t → (u : Bool) → ltb y.0 x.0 ≡ u → x.0 ≡ y.0
    by_first true e u f = let lt = ltb-true x.0 y.0 e in absurd (true≢false (sym (has_first x xs) ∙ h x ∙ below_none y.0 (y ∷ ys) x (omega arith, q.1) lt))
    by_first false e true f = let lt = ltb-true y.0 x.0 f in absurd (true≢false (sym (sym (below_none x.0 (x ∷ xs) y (omega arith, p.1) lt) ∙ h y ∙ has_first y ys)))
    by_first false e false f = omega (arith, ltb-false x.0 y.0 e, ltb-false y.0 x.0 f)

    rest : x.0 ≡ y.0 → (id : ItemId) → has_id xs id ≡ has_id ys id
    rest is id = elim (cases_eq x.0 id.0) [
      | inl hit ↦ below_none (x.0 + 1) xs id p.1 (omega (arith, hit)) ∙ sym (below_none (y.0 + 1) ys id q.1 (omega (arith, hit, is)))
      | inr miss ↦ sym (not_first x xs id miss) ∙ h id ∙ not_first y ys id (λ e. miss (is ∙ e))
    ]

-- ids of rows that pass a test

weaker : (low high : ℕ) (ids : List ItemId) → low ≤ high → IdsRise high ids → IdsRise low ids
weaker low high [] le h = tt
weaker low high (x ∷ xs) le h = (omega (arith, le, h.0), h.1)

ids_rise : (p : Row → Bool) (low : ℕ) (rows : List Row) → RisesFrom low rows → IdsRise low (map (λ (r : Row). r.id) (filter p rows))
ids_rise p low [] h = tt
ids_rise p low (r ∷ rs) h = by (p r) (ids_rise p (r.id.0 + 1) rs h.1)
  where
    by : (t : Bool) → IdsRise (r.id.0 + 1) (map (λ (x : Row). x.id) (filter p rs)) → IdsRise low (map (λ (x : Row). x.id) (cond t (r ∷ filter p rs) (filter p rs)))
    by true rest = (h.0, rest)
    by false rest = weaker low (r.id.0 + 1) (map (λ (x : Row). x.id) (filter p rs)) (omega (arith, h.0)) rest

-- the new ones come after all others

raised : (next : ItemId) (low : ℕ) (rows : List Row) → RisesFrom low rows → IdsRise next.0 (map (λ (r : Row). r.id) (filter (is_new next) rows))
raised next low [] h = tt
raised next low (r ∷ rs) h = by (ltb r.id.0 next.0) refl (raised next (r.id.0 + 1) rs h.1)
  where
    by : (t : Bool) → ltb r.id.0 next.0 ≡ t → IdsRise next.0 (map (λ (x : Row). x.id) (filter (is_new next) rs)) → IdsRise next.0 (map (λ (x : Row). x.id) (cond (not t) (r ∷ filter (is_new next) rs) (filter (is_new next) rs)))
    by true e rest = rest
    by false e rest = (ltb-false r.id.0 next.0 e, ids_rise (is_new next) (r.id.0 + 1) rs h.1)

all_below : (then : Earlier) (now rows : List Row) → All (λ (i : ItemId). i.0 < then.next.0) (map (λ (r : Row). r.id) (filter (is_row_left then now) rows))
all_below then now [] = All-nil (λ (i : ItemId). i.0 < then.next.0)
all_below then now (r ∷ rs) = by (ltb r.id.0 then.next.0) refl (is_some (row_of now r.id)) (all_below then now rs)
  where
    by : (t : Bool) → ltb r.id.0 then.next.0 ≡ t → (u : Bool) → All (λ (i : ItemId). i.0 < then.next.0) (map (λ (x : Row). x.id) (filter (is_row_left then now) rs))
        → All (λ (i : ItemId). i.0 < then.next.0) (map (λ (x : Row). x.id) (cond (t && u) (r ∷ filter (is_row_left then now) rs) (filter (is_row_left then now) rs)))
    by true e true rest = All-cons (λ (i : ItemId). i.0 < then.next.0) r.id (map (λ (x : Row). x.id) (filter (is_row_left then now) rs)) (ltb-true r.id.0 then.next.0 e) rest
    by true e false rest = rest
    by false e u rest = rest

joined : (low next : ℕ) (xs ys : List ItemId) → IdsRise low xs → All (λ (i : ItemId). i.0 < next) xs → low ≤ next → IdsRise next ys → IdsRise low (xs ++ ys)
joined low next [] ys p all le q = weaker low next ys le q
joined low next (x ∷ xs) ys p all le q = (
  p.0,
  joined (x.0 + 1) next xs ys p.1 (All-tail (λ (i : ItemId). i.0 < next) x xs all) (let lt = All-head (λ (i : ItemId). i.0 < next) x xs all in omega (arith, lt)) q,
)

-- both say the same of each id

decided : (now noted below : Bool) → ((noted && (below && now)) || (now && not below)) ≡ (now && (not below || noted))
decided true true true = refl
decided true true false = refl
decided true false true = refl
decided true false false = refl
decided false true true = refl
decided false true false = refl
decided false false true = refl
decided false false false = refl

pub differing : (then : Earlier) (rows : List Row) → RisesFrom 0 rows → RisesFrom 0 then.rows.rows → rows_left then rows ++ map (λ (r : Row). r.id) (filter (is_new then.next) rows) ≡ changed_rows then rows
differing then rows rise noted =
    ids_same 0 (rows_left then rows ++ map (λ (r : Row). r.id) (filter (is_new then.next) rows)) (changed_rows then rows)
    (joined 0 then.next.0 (rows_left then rows) (map (λ (r : Row). r.id) (filter (is_new then.next) rows)) (ids_rise (is_row_left then rows) 0 then.rows.rows noted) (all_below then rows then.rows.rows) (omega arith) (raised then.next 0 rows rise))
    (ids_rise (is_row_changed then) 0 rows rise) same_ids
  where
    same_ids : (id : ItemId) → has_id (rows_left then rows ++ map (λ (r : Row). r.id) (filter (is_new then.next) rows)) id ≡ has_id (changed_rows then rows) id
    same_ids id =
        list_any-append (λ (i : ItemId). eqb i.0 id.0) (rows_left then rows) (map (λ (r : Row). r.id) (filter (is_new then.next) rows))
        ∙ (λ j. has_filtered (λ (k : ItemId). ltb k.0 then.next.0 && is_some (row_of rows k)) then.rows.rows id j || has_filtered (λ (k : ItemId). not (ltb k.0 then.next.0)) rows id j)
        ∙ decided (is_some (row_of rows id)) (is_some (row_of then.rows.rows id)) (ltb id.0 then.next.0)
        ∙ sym (has_filtered (λ (k : ItemId). not (ltb k.0 then.next.0) || is_some (row_of then.rows.rows k)) rows id)

-- the new rows are those from a place on

all_pass : (next : ItemId) (low : ℕ) (rows : List Row) → RisesFrom low rows → next.0 ≤ low → filter (is_new next) rows ≡ rows
all_pass next low [] h le = refl
all_pass next low (r ∷ rs) h le = (λ j. cond (not (le-ltb r.id.0 next.0 (omega (arith, h.0, le)) j)) (r ∷ filter (is_new next) rs) (filter (is_new next) rs)) ∙ ap (λ (l : List Row). r ∷ l) (all_pass next (r.id.0 + 1) rs h.1 (omega (arith, h.0, le)))

pub dropped_before : (next : ItemId) (low place : ℕ) (rows : List Row) → RisesFrom low rows → ((k : ℕ) (d : Row) → k < place → ltb (get_or rows k d).id.0 next.0 ≡ true) → ((k : ℕ) (d : Row) → place ≤ k → k < length rows → ltb (get_or rows k d).id.0 next.0 ≡ false)
    → drop place rows ≡ filter (is_new next) rows
dropped_before next low zero [] h before from = refl
dropped_before next low (suc n) [] h before from = refl
dropped_before next low zero (r ∷ rs) h before from =
    let first : ltb r.id.0 next.0 ≡ false = from 0 r (omega arith) (omega arith) in
    sym ((λ j. cond (not (first j)) (r ∷ filter (is_new next) rs) (filter (is_new next) rs)) ∙ ap (λ (l : List Row). r ∷ l) (all_pass next (r.id.0 + 1) rs h.1 (let n = ltb-false r.id.0 next.0 first in omega (arith, n))))
dropped_before next low (suc n) (r ∷ rs) h before from =
    let first : ltb r.id.0 next.0 ≡ true = before 0 r (omega arith) in
    dropped_before next (r.id.0 + 1) n rs h.1 (λ k d lt. before (suc k) d (omega (arith, lt))) (λ k d le lt. from (suc k) d (omega (arith, le)) (omega (arith, lt)))
    ∙ sym (λ j. cond (not (first j)) (r ∷ filter (is_new next) rs) (filter (is_new next) rs))

rising_ids : (rows : List Row) → RisesFrom 0 rows → IsNonDecreasingBy (λ (r : Row). r.id.0) rows
rising_ids rows h = by 0 rows h
  where
    by : (low : ℕ) (rs : List Row) → RisesFrom low rs → IsNonDecreasingBy (λ (r : Row). r.id.0) rs
    by low [] h i j d le lt = absurd (omega arith)
    by low (r ∷ rs) h zero zero d le lt = omega arith
    by low (r ∷ rs) h zero (suc j) d le lt = let m : r.id.0 + 1 ≤ (get_or rs j d).id.0 = from_low (r.id.0 + 1) j rs d h.1 (omega arith) in omega arith
    by low (r ∷ rs) h (suc i) zero d le lt = absurd (omega arith)
    by low (r ∷ rs) h (suc i) (suc j) d le lt = by (r.id.0 + 1) rs h.1 i j d (omega arith) (omega arith)

pub rest_from : (rows : List Row) (place : ℕ) → slice_range rows place (length rows) ≡ drop place rows
rest_from rows place = take_all (length rows - place) (drop place rows) (omega (arith, length-drop place rows))

pub parted : (next : ItemId) (rows : List Row) → RisesFrom 0 rows → IsPartitionedBy (λ r. ltb r.id.0 next.0) rows
parted next rows h = IsPartitionedBy-ltb (λ r. r.id.0) rows next.0 (rising_ids rows h)

pub new_from : (next : ItemId) (place : ℕ) (rows : List Row) → RisesFrom 0 rows → IsPartitionPoint (λ r. ltb r.id.0 next.0 ≡ true) (λ r. ltb r.id.0 next.0 ≡ false) rows place → drop place rows ≡ filter (is_new next) rows
new_from next place rows h point = dropped_before next 0 place rows h (λ k d lt. point.0 k d (omega arith) lt) (λ k d le lt. point.1 k d le lt)
