-- One row of a table put in place of another, added or taken out.
use Rattle.std.proofs.Common.{◌≡◌, inl, inr, ℕ, ◌+◌, ◌<◌, ◌≤◌, ◌==◌, Bool, true, false, not, cond, eqb, ltb, List, [], ◌∷◌, refl, sym, ◌∙◌, ap, subst, arith, Option, Some, None}
use Rattle.std.proofs.lemmas.Bool.{cases_eq, cases_lt, cases_order, cond-true, cond-false, eq-eqb, eqb-true, le-ltb, lt-ltb, ne_eqb, true≢false}
use Rattle.std.proofs.lemmas.Option.{none-some, same_Some}
use Rattle.cf_base.specs.declared.ids.ItemId.{ItemId}
use Rattle.cf_model.specs.Books.{Book}
use Rattle.cf_model.specs.Effects.{changed}
use Rattle.cf_model.specs.Items.{Item}
use Rattle.cf_volume_points.specs.Clusters.{clusters_in_row, clusters_in_rows, times}
use Rattle.cf_volume_points.specs.Holding.{HoldRows, HoldsRow}
use Rattle.cf_volume_points.proofs.Apart.{times-append}
use Rattle.cf_volume_points.proofs.Frames.{clusters_more}
use Rattle.cf_table.specs.Tables.{RisesFrom, row_of, with_row, without_row}
use Rattle.cf_table.specs.declared.rows.Row.{Row}

-- how often the rows of other ids name a cluster
abbrev pub rest_of : ItemId → List Row → ℕ → ℕ
rest_of id [] k = 0
rest_of id (r ∷ rs) k = cond (r.id.0 == id.0) 0 (times k (clusters_in_row r)) + rest_of id rs k

-- how often a row names a cluster that may be there
abbrev pub named_by : Option Row → ℕ → ℕ
named_by None k = 0
named_by (Some r) k = times k (clusters_in_row r)

times_more : (r : Row) (rs : List Row) (k : ℕ) → times k (clusters_in_rows (r ∷ rs)) ≡ times k (clusters_in_row r) + times k (clusters_in_rows rs)
times_more r rs k = ap (times k) (clusters_more r rs) ∙ times-append k (clusters_in_row r) (clusters_in_rows rs)

lower : (low high : ℕ) (rs : List Row) → low ≤ high → RisesFrom high rs → RisesFrom low rs
lower low high [] le h = tt
lower low high (r ∷ rs) le h = (omega (arith, h.0, le), h.1)

-- rows above an id have not this id
rest_above : (id : ItemId) (low : ℕ) (rs : List Row) (k : ℕ) → id.0 < low → RisesFrom low rs → rest_of id rs k ≡ times k (clusters_in_rows rs)
rest_above id low [] k lt h = refl
rest_above id low (r ∷ rs) k lt h =
    let e : cond (eqb r.id.0 id.0) 0 (times k (clusters_in_row r)) ≡ times k (clusters_in_row r) = cond-false (eqb r.id.0 id.0) 0 (times k (clusters_in_row r)) (ne_eqb r.id.0 id.0 (λ s. omega (arith, s, h.0, lt))) in
    let t = rest_above id (r.id.0 + 1) rs k (omega (arith, h.0, lt)) h.1 in
    let m = times_more r rs k in
    omega (arith, e, t, m)

absent_above : (id : ItemId) (low : ℕ) (rs : List Row) → id.0 < low → RisesFrom low rs → row_of rs id ≡ None
absent_above id low [] lt h = refl
absent_above id low (r ∷ rs) lt h = cond-false (eqb r.id.0 id.0) (Some r) (row_of rs id) (ne_eqb r.id.0 id.0 (λ s. omega (arith, s, h.0, lt))) ∙ absent_above id (r.id.0 + 1) rs (omega (arith, h.0, lt)) h.1

-- all rows are those of other ids, and that of the id
pub times_split : (id : ItemId) (low : ℕ) (rows : List Row) (k : ℕ) → RisesFrom low rows → times k (clusters_in_rows rows) ≡ rest_of id rows k + named_by (row_of rows id) k
times_split id low [] k h = refl
times_split id low (r ∷ rs) k h = elim (cases_eq r.id.0 id.0) [
  | inl same ↦
      let t = eq-eqb r.id.0 id.0 same in
      let e : cond (eqb r.id.0 id.0) 0 (times k (clusters_in_row r)) ≡ 0 = cond-true (eqb r.id.0 id.0) 0 (times k (clusters_in_row r)) t in
      let f : named_by (row_of (r ∷ rs) id) k ≡ times k (clusters_in_row r) = ap (λ (o : Option Row). named_by o k) (cond-true (eqb r.id.0 id.0) (Some r) (row_of rs id) t) in
      let g = rest_above id (r.id.0 + 1) rs k (omega (arith, same)) h.1 in
      let m = times_more r rs k in
      omega (arith, e, f, g, m)
  | inr apart ↦
      let t = ne_eqb r.id.0 id.0 apart in
      let e : cond (eqb r.id.0 id.0) 0 (times k (clusters_in_row r)) ≡ times k (clusters_in_row r) = cond-false (eqb r.id.0 id.0) 0 (times k (clusters_in_row r)) t in
      let f : named_by (row_of (r ∷ rs) id) k ≡ named_by (row_of rs id) k = ap (λ (o : Option Row). named_by o k) (cond-false (eqb r.id.0 id.0) (Some r) (row_of rs id) t) in
      let g = times_split id (r.id.0 + 1) rs k h.1 in
      let m = times_more r rs k in
      omega (arith, e, f, g, m)
]

-- a row put in
pub times_with : (p : Row) (id : ItemId) (low : ℕ) (rows : List Row) (k : ℕ) → p.id.0 ≡ id.0 → RisesFrom low rows → times k (clusters_in_rows (with_row p rows)) ≡ rest_of id rows k + times k (clusters_in_row p)
times_with p id low [] k is h = let m = times_more p [] k in omega (arith, m)
times_with p id low (r ∷ rs) k is h = elim (cases_order r.id.0 p.id.0) [
  | inl same ↦
      let shape : with_row p (r ∷ rs) ≡ p ∷ rs = cond-false (ltb r.id.0 p.id.0) _ _ (le-ltb r.id.0 p.id.0 (omega (arith, same))) ∙ cond-true (eqb r.id.0 p.id.0) _ _ (eq-eqb r.id.0 p.id.0 same) in
      let n : times k (clusters_in_rows (with_row p (r ∷ rs))) ≡ times k (clusters_in_rows (p ∷ rs)) = ap (λ (l : List Row). times k (clusters_in_rows l)) shape in
      let e : cond (eqb r.id.0 id.0) 0 (times k (clusters_in_row r)) ≡ 0 = cond-true (eqb r.id.0 id.0) 0 (times k (clusters_in_row r)) (eq-eqb r.id.0 id.0 (same ∙ is)) in
      let g = rest_above id (r.id.0 + 1) rs k (omega (arith, same, is)) h.1 in
      let m = times_more p rs k in
      omega (arith, n, e, g, m)
  | inr other ↦ elim other [
    | inl less ↦
        let shape : with_row p (r ∷ rs) ≡ r ∷ with_row p rs = cond-true (ltb r.id.0 p.id.0) _ _ (lt-ltb r.id.0 p.id.0 less) in
        let n : times k (clusters_in_rows (with_row p (r ∷ rs))) ≡ times k (clusters_in_rows (r ∷ with_row p rs)) = ap (λ (l : List Row). times k (clusters_in_rows l)) shape in
        let e : cond (eqb r.id.0 id.0) 0 (times k (clusters_in_row r)) ≡ times k (clusters_in_row r) = cond-false (eqb r.id.0 id.0) 0 (times k (clusters_in_row r)) (ne_eqb r.id.0 id.0 (λ s. omega (arith, s, is, less))) in
        let g = times_with p id (r.id.0 + 1) rs k is h.1 in
        let m = times_more r (with_row p rs) k in
        omega (arith, n, e, g, m)
    | inr more ↦
        let shape : with_row p (r ∷ rs) ≡ p ∷ r ∷ rs = cond-false (ltb r.id.0 p.id.0) _ _ (le-ltb r.id.0 p.id.0 (omega (arith, more))) ∙ cond-false (eqb r.id.0 p.id.0) _ _ (ne_eqb r.id.0 p.id.0 (λ s. omega (arith, s, more))) in
        let n : times k (clusters_in_rows (with_row p (r ∷ rs))) ≡ times k (clusters_in_rows (p ∷ r ∷ rs)) = ap (λ (l : List Row). times k (clusters_in_rows l)) shape in
        let g = rest_above id (id.0 + 1) (r ∷ rs) k (omega arith) (omega (arith, more, is), h.1) in
        let m = times_more p (r ∷ rs) k in
        omega (arith, n, g, m)
  ]
]

pub times_without : (id : ItemId) (rows : List Row) (k : ℕ) → times k (clusters_in_rows (without_row id rows)) ≡ rest_of id rows k
times_without id [] k = refl
times_without id (r ∷ rs) k = elim (cases_eq r.id.0 id.0) [
  | inl same ↦
      let t = eq-eqb r.id.0 id.0 same in
      let shape : without_row id (r ∷ rs) ≡ without_row id rs = cond-false (not (eqb r.id.0 id.0)) (r ∷ without_row id rs) (without_row id rs) (ap not t) in
      let n : times k (clusters_in_rows (without_row id (r ∷ rs))) ≡ times k (clusters_in_rows (without_row id rs)) = ap (λ (l : List Row). times k (clusters_in_rows l)) shape in
      let e : cond (eqb r.id.0 id.0) 0 (times k (clusters_in_row r)) ≡ 0 = cond-true (eqb r.id.0 id.0) 0 (times k (clusters_in_row r)) t in
      let g = times_without id rs k in
      omega (arith, n, e, g)
  | inr apart ↦
      let t = ne_eqb r.id.0 id.0 apart in
      let shape : without_row id (r ∷ rs) ≡ r ∷ without_row id rs = cond-true (not (eqb r.id.0 id.0)) (r ∷ without_row id rs) (without_row id rs) (ap not t) in
      let n : times k (clusters_in_rows (without_row id (r ∷ rs))) ≡ times k (clusters_in_rows (r ∷ without_row id rs)) = ap (λ (l : List Row). times k (clusters_in_rows l)) shape in
      let e : cond (eqb r.id.0 id.0) 0 (times k (clusters_in_row r)) ≡ times k (clusters_in_row r) = cond-false (eqb r.id.0 id.0) 0 (times k (clusters_in_row r)) t in
      let g = times_without id rs k in
      let m = times_more r (without_row id rs) k in
      omega (arith, n, e, g, m)
]

-- look-ups

pub found_with : (p : Row) (low : ℕ) (rows : List Row) (id : ItemId) → RisesFrom low rows → row_of (with_row p rows) id ≡ cond (p.id.0 == id.0) (Some p) (row_of rows id)
found_with p low [] id h = refl
found_with p low (r ∷ rs) id h = elim (cases_order r.id.0 p.id.0) [
  | inl same ↦
      ap (λ (l : List Row). row_of l id) (cond-false (ltb r.id.0 p.id.0) _ _ (le-ltb r.id.0 p.id.0 (omega (arith, same))) ∙ cond-true (eqb r.id.0 p.id.0) _ _ (eq-eqb r.id.0 p.id.0 same))
      ∙ replaced (eqb p.id.0 id.0) (eqb r.id.0 id.0) (ap (λ (n : ℕ). eqb n id.0) same) (row_of rs id)
  | inr other ↦ elim other [
    | inl less ↦
        ap (λ (l : List Row). row_of l id) (cond-true (ltb r.id.0 p.id.0) _ _ (lt-ltb r.id.0 p.id.0 less))
        ∙ ap (λ (o : Option Row). cond (eqb r.id.0 id.0) (Some r) o) (found_with p (r.id.0 + 1) rs id h.1)
        ∙ first (eqb r.id.0 id.0) refl (eqb p.id.0 id.0) refl less (row_of rs id)
    | inr more ↦ ap (λ (l : List Row). row_of l id) (cond-false (ltb r.id.0 p.id.0) _ _ (le-ltb r.id.0 p.id.0 (omega (arith, more))) ∙ cond-false (eqb r.id.0 p.id.0) _ _ (ne_eqb r.id.0 p.id.0 (λ s. omega (arith, s, more))))
  ]
]
  where
    replaced : (a b : Bool) → b ≡ a → (o : Option Row) → cond a (Some p) o ≡ cond a (Some p) (cond b (Some r) o)
    replaced true b e o = refl
    replaced false b e o = ap (λ (t : Bool). cond t (Some r) o) (sym e)

    first : (a : Bool) → eqb r.id.0 id.0 ≡ a → (b : Bool) → eqb p.id.0 id.0 ≡ b → r.id.0 < p.id.0 → (o : Option Row) → cond a (Some r) (cond b (Some p) o) ≡ cond b (Some p) (cond a (Some r) o)
    first true e true f less o = absurd (omega (arith, eqb-true r.id.0 id.0 e, eqb-true p.id.0 id.0 f, less))
    first true e false f less o = refl
    first false e b f less o = refl

pub found_without : (key : ItemId) (rows : List Row) (id : ItemId) → row_of (without_row key rows) id ≡ cond (key.0 == id.0) None (row_of rows id)
found_without key [] id = none (eqb key.0 id.0)
  where
    none : (b : Bool) → ◌≡◌ {A = Option Row} None (cond b None None)
    none true = refl
    none false = refl
found_without key (r ∷ rs) id = by (eqb r.id.0 key.0) refl (eqb r.id.0 id.0) refl (eqb key.0 id.0) refl (found_without key rs id)
  where
    by : (a : Bool) → eqb r.id.0 key.0 ≡ a → (b : Bool) → eqb r.id.0 id.0 ≡ b → (c : Bool) → eqb key.0 id.0 ≡ c → row_of (without_row key rs) id ≡ cond c None (row_of rs id)
        → row_of (cond (not a) (r ∷ without_row key rs) (without_row key rs)) id ≡ cond c None (cond b (Some r) (row_of rs id))
    by true e true f true g h = h
    by true e true f false g h = absurd (true≢false (sym (eq-eqb key.0 id.0 (sym (eqb-true r.id.0 key.0 e) ∙ eqb-true r.id.0 id.0 f)) ∙ g))
    by true e false f true g h = h
    by true e false f false g h = h
    by false e true f true g h = absurd (true≢false (sym (eq-eqb r.id.0 key.0 (eqb-true r.id.0 id.0 f ∙ sym (eqb-true key.0 id.0 g))) ∙ e))
    by false e true f false g h = cond-true (eqb r.id.0 id.0) (Some r) (row_of (without_row key rs) id) f
    by false e false f c g h = cond-false (eqb r.id.0 id.0) (Some r) (row_of (without_row key rs) id) f ∙ h

-- what the rows hold

module _ (old new : ℕ → List ℕ) (b c : Book) (id : ItemId) (f : Item → Item) (p : Row) (is : p.id.0 ≡ id.0) (others : (r : Row) (i : Item) → (r.id.0 ≡ id.0 → ⊥) → HoldsRow old b r i → ((k : ℕ) → 1 ≤ times k (clusters_in_row r) → new k ≡ old k) → HoldsRow new c r i) where
  keep_above : (low : ℕ) (rows : List Row) (items : List Item) → id.0 < low → RisesFrom low rows → ((k : ℕ) → 1 ≤ rest_of id rows k → new k ≡ old k) → HoldRows old b rows items → HoldRows new c rows (changed id f items)
  keep_above low [] [] lt h same holds = tt
  keep_above low [] (i ∷ is) lt h same holds = absurd holds
  keep_above low (r ∷ rs) [] lt h same holds = absurd holds
  keep_above low (r ∷ rs) (i ∷ is) lt h same holds =
      let apart : r.id.0 ≡ id.0 → ⊥ = λ (s : r.id.0 ≡ id.0). omega (arith, s, h.0, lt) in
      let item_apart : eqb i.id.0 id.0 ≡ false = ne_eqb i.id.0 id.0 (λ s. apart (ap (λ (x : ItemId). x.0) holds.0.means.id ∙ s)) in
      subst (λ (j : Item). HoldsRow new c r j × HoldRows new c rs (changed id f is)) (sym (cond-false (eqb i.id.0 id.0) (f i) i item_apart)) (
        others r i apart holds.0 (λ k some. same k (omega (arith, front k apart, some))),
        keep_above (r.id.0 + 1) rs is (omega (arith, h.0, lt)) h.1 (λ k some. same k (omega (arith, some))) holds.1,
      )
    where
      front : (k : ℕ) → (r.id.0 ≡ id.0 → ⊥) → cond (eqb r.id.0 id.0) 0 (times k (clusters_in_row r)) ≡ times k (clusters_in_row r)
      front k apart = cond-false (eqb r.id.0 id.0) 0 (times k (clusters_in_row r)) (ne_eqb r.id.0 id.0 apart)

  -- another row for an item that is there
  pub with_holds : (low : ℕ) (rows : List Row) (items : List Item) (r : Row) → RisesFrom low rows → row_of rows id ≡ Some r → ((i : Item) → HoldsRow old b r i → HoldsRow new c p (f i)) → ((k : ℕ) → 1 ≤ rest_of id rows k → new k ≡ old k) → HoldRows old b rows items → HoldRows new c (with_row p rows) (changed id f items)
  with_holds low [] [] q h found here same holds = absurd (none-some q found)
  with_holds low [] (i ∷ is) q h found here same holds = absurd holds
  with_holds low (r ∷ rs) [] q h found here same holds = absurd holds
  with_holds low (r ∷ rs) (i ∷ items) q h found here same holds = elim (cases_eq r.id.0 id.0) [
    | inl at ↦
        let shape : with_row p (r ∷ rs) ≡ p ∷ rs = cond-false (ltb r.id.0 p.id.0) _ _ (le-ltb r.id.0 p.id.0 (omega (arith, at, is))) ∙ cond-true (eqb r.id.0 p.id.0) _ _ (eq-eqb r.id.0 p.id.0 (at ∙ sym is)) in
        let item_at : eqb i.id.0 id.0 ≡ true = eq-eqb i.id.0 id.0 (sym (ap (λ (x : ItemId). x.0) holds.0.means.id) ∙ at) in
        subst (λ (l : List Row). HoldRows new c l (changed id f (i ∷ items))) (sym shape)
        (subst (λ (j : Item). HoldsRow new c p j × HoldRows new c rs (changed id f items)) (sym (cond-true (eqb i.id.0 id.0) (f i) i item_at))
        (here i (subst (λ (x : Row). HoldsRow old b x i) (is_found at) holds.0), keep_above (r.id.0 + 1) rs items (omega (arith, at)) h.1 (λ k some. same k (omega (arith, some))) holds.1))
    | inr apart ↦
        let t = ne_eqb r.id.0 id.0 apart in
        let later : row_of rs id ≡ Some q = sym (cond-false (eqb r.id.0 id.0) (Some r) (row_of rs id) t) ∙ found in
        let less : r.id.0 < p.id.0 = before rs q later h.1 in
        let shape : with_row p (r ∷ rs) ≡ r ∷ with_row p rs = cond-true (ltb r.id.0 p.id.0) _ _ (lt-ltb r.id.0 p.id.0 less) in
        let item_apart : eqb i.id.0 id.0 ≡ false = ne_eqb i.id.0 id.0 (λ s. apart (ap (λ (x : ItemId). x.0) holds.0.means.id ∙ s)) in
        subst (λ (l : List Row). HoldRows new c l (changed id f (i ∷ items))) (sym shape)
        (subst (λ (j : Item). HoldsRow new c r j × HoldRows new c (with_row p rs) (changed id f items)) (sym (cond-false (eqb i.id.0 id.0) (f i) i item_apart))
        (others r i apart holds.0 (λ k some. same k (omega (arith, front k apart, some))), with_holds (r.id.0 + 1) rs items q h.1 later here (λ k some. same k (omega (arith, some))) holds.1))
  ]
    where
      is_found : r.id.0 ≡ id.0 → r ≡ q
      is_found at = same_Some r q (sym (cond-true (eqb r.id.0 id.0) (Some r) (row_of rs id) (eq-eqb r.id.0 id.0 at)) ∙ found)

      front : (k : ℕ) → (r.id.0 ≡ id.0 → ⊥) → cond (eqb r.id.0 id.0) 0 (times k (clusters_in_row r)) ≡ times k (clusters_in_row r)
      front k apart = cond-false (eqb r.id.0 id.0) 0 (times k (clusters_in_row r)) (ne_eqb r.id.0 id.0 apart)

      above_low : (low : ℕ) (l : List Row) (q : Row) → row_of l id ≡ Some q → RisesFrom low l → low ≤ id.0
      above_low low [] q e h = absurd (none-some q e)
      above_low low (x ∷ xs) q e h = elim (cases_lt id.0 low) [
        | inl lt ↦ absurd (none-some q (sym (absent_above id low (x ∷ xs) lt h) ∙ e))
        | inr le ↦ le
      ]

      before : (l : List Row) (q : Row) → row_of l id ≡ Some q → RisesFrom (r.id.0 + 1) l → r.id.0 < p.id.0
      before l q e h = omega (arith, above_low (r.id.0 + 1) l q e h, is)
