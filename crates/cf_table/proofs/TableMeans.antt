-- What is done to one row of a list is done to the item with its id.
use Rattle.std.proofs.Common.{◌≡◌, ℕ, zero, suc, ◌+◌, ◌<◌, ◌≤◌, Bool, true, false, not, cond, List, [], ◌∷◌, ◌++◌, length, get_or, set, refl, sym, ap, subst, ◌∙◌, arith, eqb, ltb, Some, None, Option, Ok, Err, Result, inl, inr}
use Rattle.std.specs.Prelude.{All, IfOk, MatchOption, OnOk, insert, remove}
use Rattle.std.proofs.lemmas.Bool.{cond-true, cond-false, eq-eqb, ne_eqb, lt-ltb, le-ltb, cases_lt}
use Rattle.std.proofs.lemmas.List.Elements.{All-head, All-tail}
use Rattle.cf_base.specs.declared.ids.ItemId.{ItemId}
use Rattle.cf_base.specs.declared.items.Pin.TheVariants as pin
use Rattle.cf_model.specs.Effects.{changed, without}
use Rattle.cf_model.specs.Items.{Item, pin_of}
use Rattle.cf_ranges.specs.Pairs.{cluster_at}
use Rattle.cf_table.specs.Means.{Means}
use Rattle.cf_table.specs.Tables.{IsRowAt, IsRowGap, MeansAll, RisesFrom, SetsAt, SetsRow, pin_at, row_of, with_row, without_row}
use Rattle.cf_table.specs.declared.rows.Row.{Row}
use Rattle.cf_table.proofs.Searched.{from_low}

pub same_id : (r : Row) (i : Item) → Means r i → r.id.0 ≡ i.id.0
same_id r i m = ap (λ v. v.0) m.id

-- in the tail, a row is one place lower
pub at_tail : (r : Row) (rs : List Row) (id k : ℕ) → IsRowAt (r ∷ rs) id (suc k) → IsRowAt rs id k
at_tail r rs id k h = record { in_range = omega (arith, h.in_range); has_id = λ d. h.has_id d }

pub gap_tail : (r : Row) (rs : List Row) (id k : ℕ) → IsRowGap (r ∷ rs) id (suc k) → IsRowGap rs id k
gap_tail r rs id k h = record {
  in_range = omega (arith, h.in_range);
  lower_before = λ j d lt. h.lower_before (suc j) d (omega arith);
  higher_after = λ j d le lt. h.higher_after (suc j) d (omega arith) (omega arith);
}

-- the first row comes before that of a later place
pub before : (low : ℕ) (r : Row) (rs : List Row) (id k : ℕ) → RisesFrom low (r ∷ rs) → IsRowAt (r ∷ rs) id (suc k) → r.id.0 < id
before low r rs id k h at = omega (arith, at.has_id r, from_low (r.id.0 + 1) k rs r h.1 (omega (arith, at.in_range)))

-- another row in place of one

pub rises_set : (low : ℕ) (rows : List Row) (k : ℕ) (new d : Row) → k < length rows → new.id.0 ≡ (get_or rows k d).id.0 → RisesFrom low rows → RisesFrom low (set rows k new)
rises_set low [] k new d h e r = absurd (omega arith)
rises_set low (x ∷ xs) zero new d h e r = (omega (arith, r.0), subst (λ n. RisesFrom (n + 1) xs) (sym e) r.1)
rises_set low (x ∷ xs) (suc k) new d h e r = (r.0, rises_set (x.id.0 + 1) xs k new d (omega arith) e r.1)

pub set_is_with : (low : ℕ) (rows : List Row) (k : ℕ) (new : Row) → RisesFrom low rows → IsRowAt rows new.id.0 k → set rows k new ≡ with_row new rows
set_is_with low [] k new h at = absurd (omega (arith, at.in_range))
set_is_with low (x ∷ xs) zero new h at =
    sym (cond-false (ltb x.id.0 new.id.0) _ _ (le-ltb x.id.0 new.id.0 (omega (arith, at.has_id new))) ∙ cond-true (eqb x.id.0 new.id.0) _ _ (eq-eqb x.id.0 new.id.0 (at.has_id new)))
set_is_with low (x ∷ xs) (suc k) new h at =
    ap (λ v. x ∷ v) (set_is_with (x.id.0 + 1) xs k new h.1 (at_tail x xs new.id.0 k at)) ∙ sym (cond-true (ltb x.id.0 new.id.0) _ _ (lt-ltb x.id.0 new.id.0 (before low x xs new.id.0 k h at)))

-- no item below low has the id
above_unchanged : (low id : ℕ) (key : ItemId) (f : Item → Item) (rows : List Row) (items : List Item) → key.0 ≡ id → id < low → RisesFrom low rows → MeansAll rows items → changed key f items ≡ items
above_unchanged low id key f [] [] e h r m = refl
above_unchanged low id key f [] (i ∷ is) e h r m = absurd m
above_unchanged low id key f (x ∷ xs) [] e h r m = absurd m
above_unchanged low id key f (x ∷ xs) (i ∷ is) e h r m =
    ap (λ v. v ∷ changed key f is) (cond-false (eqb i.id.0 key.0) (f i) i (ne_eqb i.id.0 key.0 (λ same. omega (arith, same_id x i m.0, r.0))))
    ∙ ap (λ v. i ∷ v) (above_unchanged (x.id.0 + 1) id key f xs is e (omega (arith, r.0)) r.1 m.1)

item_changed : (key : ItemId) (f : Item → Item) (new : Row) (i : Item) (is : List Item) (xs : List Row) → i.id.0 ≡ key.0 → Means new (f i) → MeansAll xs (changed key f is) → MeansAll (new ∷ xs) (changed key f (i ∷ is))
item_changed key f new i is xs e m ms = subst (λ v. MeansAll (new ∷ xs) (v ∷ changed key f is)) (sym (cond-true (eqb i.id.0 key.0) (f i) i (eq-eqb i.id.0 key.0 e))) (m, ms)

item_kept : (key : ItemId) (f : Item → Item) (x : Row) (i : Item) (is : List Item) (xs : List Row) → (i.id.0 ≡ key.0 → ⊥) → Means x i → MeansAll xs (changed key f is) → MeansAll (x ∷ xs) (changed key f (i ∷ is))
item_kept key f x i is xs e m ms = subst (λ v. MeansAll (x ∷ xs) (v ∷ changed key f is)) (sym (cond-false (eqb i.id.0 key.0) (f i) i (ne_eqb i.id.0 key.0 e))) (m, ms)

pub changed_means : (low : ℕ) (key : ItemId) (f : Item → Item) (rows : List Row) (items : List Item) (k : ℕ) (new d : Row) → IsRowAt rows key.0 k → RisesFrom low rows →
    ((i : Item) → Means (get_or rows k d) i → Means new (f i)) → MeansAll rows items → MeansAll (set rows k new) (changed key f items)
changed_means low key f [] items k new d at r step m = absurd (omega (arith, at.in_range))
changed_means low key f (x ∷ xs) [] k new d at r step m = absurd m
changed_means low key f (x ∷ xs) (i ∷ is) zero new d at r step m =
    item_changed key f new i is xs (sym (same_id x i m.0) ∙ at.has_id d) (step i m.0) (subst (λ v. MeansAll xs v) (sym (above_unchanged (x.id.0 + 1) key.0 key f xs is refl (omega (arith, at.has_id d)) r.1 m.1)) m.1)
changed_means low key f (x ∷ xs) (i ∷ is) (suc k) new d at r step m =
    item_kept key f x i is (set xs k new) (λ same. omega (arith, same_id x i m.0, before low x xs key.0 k r at)) m.0 (changed_means (x.id.0 + 1) key f xs is k new d (at_tail x xs key.0 k at) r.1 step m.1)

-- a row that is not there

pub not_there : (rows : List Row) (id k : ℕ) → IsRowGap rows id k → (j : ℕ) (d : Row) → j < length rows → (get_or rows j d).id.0 ≡ id → ⊥
not_there rows id k gap j d lt e = elim (cases_lt j k) [
  | inl h ↦ omega (arith, gap.lower_before j d h)
  | inr h ↦ omega (arith, gap.higher_after j d h lt)
]

pub absent_means : (key : ItemId) (f : Item → Item) (rows : List Row) (items : List Item) → ((j : ℕ) (d : Row) → j < length rows → (get_or rows j d).id.0 ≡ key.0 → ⊥) → MeansAll rows items → MeansAll rows (changed key f items)
absent_means key f [] [] a m = tt
absent_means key f [] (i ∷ is) a m = absurd m
absent_means key f (x ∷ xs) [] a m = absurd m
absent_means key f (x ∷ xs) (i ∷ is) a m =
    item_kept key f x i is xs (λ e. a zero x (omega arith) (same_id x i m.0 ∙ e)) m.0 (absent_means key f xs is (λ j d lt e. a (suc j) d (omega arith) e) m.1)

-- a row that goes

pub kept_above : (low : ℕ) (id : ItemId) (rows : List Row) → id.0 < low → RisesFrom low rows → without_row id rows ≡ rows
kept_above low id [] h r = refl
kept_above low id (x ∷ xs) h r =
    cond-true (not (eqb x.id.0 id.0)) _ _ (ap not (ne_eqb x.id.0 id.0 (λ e. omega (arith, r.0)))) ∙ ap (λ v. x ∷ v) (kept_above (x.id.0 + 1) id xs (omega (arith, r.0)) r.1)

pub remove_is_without : (low : ℕ) (id : ItemId) (rows : List Row) (k : ℕ) → RisesFrom low rows → IsRowAt rows id.0 k → remove rows k ≡ without_row id rows
remove_is_without low id [] k h at = absurd (omega (arith, at.in_range))
remove_is_without low id (x ∷ xs) zero h at =
    sym (cond-false (not (eqb x.id.0 id.0)) _ _ (ap not (eq-eqb x.id.0 id.0 (at.has_id x))) ∙ kept_above (x.id.0 + 1) id xs (omega (arith, at.has_id x)) h.1)
remove_is_without low id (x ∷ xs) (suc k) h at =
    ap (λ v. x ∷ v) (remove_is_without (x.id.0 + 1) id xs k h.1 (at_tail x xs id.0 k at))
    ∙ sym (cond-true (not (eqb x.id.0 id.0)) _ _ (ap not (ne_eqb x.id.0 id.0 (λ e. omega (arith, before low x xs id.0 k h at)))))

pub gap_is_without : (id : ItemId) (rows : List Row) → ((j : ℕ) (d : Row) → j < length rows → (get_or rows j d).id.0 ≡ id.0 → ⊥) → without_row id rows ≡ rows
gap_is_without id [] a = refl
gap_is_without id (x ∷ xs) a =
    cond-true (not (eqb x.id.0 id.0)) _ _ (ap not (ne_eqb x.id.0 id.0 (a zero x (omega arith)))) ∙ ap (λ v. x ∷ v) (gap_is_without id xs (λ j d lt e. a (suc j) d (omega arith) e))

pub lower : (low high : ℕ) (rows : List Row) → low ≤ high → RisesFrom high rows → RisesFrom low rows
lower low high [] h r = tt
lower low high (x ∷ xs) h r = (omega (arith, r.0), r.1)

pub rises_without : (low : ℕ) (id : ItemId) (rows : List Row) → RisesFrom low rows → RisesFrom low (without_row id rows)
rises_without low id [] h = tt
rises_without low id (x ∷ xs) h = two (not (eqb x.id.0 id.0)) (rises_without (x.id.0 + 1) id xs h.1) where
  two : (b : Bool) → RisesFrom (x.id.0 + 1) (without_row id xs) → RisesFrom low (cond b (x ∷ without_row id xs) (without_row id xs))
  two true rest = (h.0, rest)
  two false rest = lower low (x.id.0 + 1) (without_row id xs) (omega (arith, h.0)) rest

pub without_means : (id : ItemId) (rows : List Row) (items : List Item) → MeansAll rows items → MeansAll (without_row id rows) (without id items)
without_means id [] [] m = tt
without_means id [] (i ∷ is) m = absurd m
without_means id (x ∷ xs) [] m = absurd m
without_means id (x ∷ xs) (i ∷ is) m = two (not (eqb x.id.0 id.0)) (not (eqb i.id.0 id.0)) (ap (λ n. not (eqb n id.0)) (same_id x i m.0)) (without_means id xs is m.1) where
  two : (b c : Bool) → b ≡ c → MeansAll (without_row id xs) (without id is) → MeansAll (cond b (x ∷ without_row id xs) (without_row id xs)) (cond c (i ∷ without id is) (without id is))
  two true true e rest = (m.0, rest)
  two true false e rest = let z : true ≡ false = e in cc
  two false true e rest = let z : false ≡ true = e in cc
  two false false e rest = rest

-- a row that comes

pub rises_push : (low : ℕ) (rows : List Row) (new : Row) → low ≤ new.id.0 → All (λ r. r.id.0 < new.id.0) rows → RisesFrom low rows → RisesFrom low (rows ++ new ∷ [])
rises_push low [] new h a r = (h, tt)
rises_push low (x ∷ xs) new h a r =
    (r.0, rises_push (x.id.0 + 1) xs new (omega (arith, All-head (λ r. r.id.0 < new.id.0) x xs a)) (All-tail (λ r. r.id.0 < new.id.0) x xs a) r.1)

pub push_means : (rows : List Row) (items : List Item) (new : Row) (i : Item) → Means new i → MeansAll rows items → MeansAll (rows ++ new ∷ []) (items ++ i ∷ [])
push_means [] [] new i n m = (n, tt)
push_means [] (j ∷ js) new i n m = absurd m
push_means (x ∷ xs) [] new i n m = absurd m
push_means (x ∷ xs) (j ∷ js) new i n m = (m.0, push_means xs js new i n m.1)

pub insert_is_with : (rows : List Row) (k : ℕ) (new : Row) → IsRowGap rows new.id.0 k → insert rows k new ≡ with_row new rows
insert_is_with [] zero new gap = refl
insert_is_with [] (suc k) new gap = absurd (omega (arith, gap.in_range))
insert_is_with (x ∷ xs) zero new gap =
    let less : new.id.0 < x.id.0 = gap.higher_after 0 x (omega arith) (omega arith) in
    sym (cond-false (ltb x.id.0 new.id.0) _ _ (le-ltb x.id.0 new.id.0 (omega arith)) ∙ cond-false (eqb x.id.0 new.id.0) _ _ (ne_eqb x.id.0 new.id.0 (λ e. omega arith)))
insert_is_with (x ∷ xs) (suc k) new gap =
    ap (λ v. x ∷ v) (insert_is_with xs k new (gap_tail x xs new.id.0 k gap)) ∙ sym (cond-true (ltb x.id.0 new.id.0) _ _ (lt-ltb x.id.0 new.id.0 (gap.lower_before 0 x (omega arith))))

pub rises_insert : (low : ℕ) (rows : List Row) (k : ℕ) (new : Row) → low ≤ new.id.0 → IsRowGap rows new.id.0 k → RisesFrom low rows → RisesFrom low (insert rows k new)
rises_insert low [] zero new h gap r = (h, tt)
rises_insert low [] (suc k) new h gap r = absurd (omega (arith, gap.in_range))
rises_insert low (x ∷ xs) zero new h gap r = (h, (omega (arith, gap.higher_after 0 x (omega arith) (omega arith)), r.1))
rises_insert low (x ∷ xs) (suc k) new h gap r = (r.0, rises_insert (x.id.0 + 1) xs k new (omega (arith, gap.lower_before 0 x (omega arith))) (gap_tail x xs new.id.0 k gap) r.1)

-- look-ups

pub found_row : (low : ℕ) (rows : List Row) (id : ItemId) (k : ℕ) (d : Row) → RisesFrom low rows → IsRowAt rows id.0 k → row_of rows id ≡ Some (get_or rows k d)
found_row low [] id k d h at = absurd (omega (arith, at.in_range))
found_row low (x ∷ xs) id zero d h at = cond-true (eqb x.id.0 id.0) _ _ (eq-eqb x.id.0 id.0 (at.has_id d))
found_row low (x ∷ xs) id (suc k) d h at =
    cond-false (eqb x.id.0 id.0) _ _ (ne_eqb x.id.0 id.0 (λ e. omega (arith, before low x xs id.0 k h at))) ∙ found_row (x.id.0 + 1) xs id k d h.1 (at_tail x xs id.0 k at)

pub no_row : (rows : List Row) (id : ItemId) → ((j : ℕ) (d : Row) → j < length rows → (get_or rows j d).id.0 ≡ id.0 → ⊥) → row_of rows id ≡ None
no_row [] id a = refl
no_row (x ∷ xs) id a = cond-false (eqb x.id.0 id.0) _ _ (ne_eqb x.id.0 id.0 (a zero x (omega arith))) ∙ no_row xs id (λ j d lt e. a (suc j) d (omega arith) e)

pub found_pin : (low : ℕ) (rows : List Row) (id : ItemId) (k : ℕ) (d : Row) → RisesFrom low rows → IsRowAt rows id.0 k → (get_or rows k d).pin ≡ pin_at rows id
found_pin low [] id k d h at = absurd (omega (arith, at.in_range))
found_pin low (x ∷ xs) id zero d h at = sym (cond-true (eqb x.id.0 id.0) _ _ (eq-eqb x.id.0 id.0 (at.has_id d)))
found_pin low (x ∷ xs) id (suc k) d h at =
    found_pin (x.id.0 + 1) xs id k d h.1 (at_tail x xs id.0 k at) ∙ sym (cond-false (eqb x.id.0 id.0) _ _ (ne_eqb x.id.0 id.0 (λ e. omega (arith, before low x xs id.0 k h at))))

pub no_pin : (rows : List Row) (id : ItemId) → ((j : ℕ) (d : Row) → j < length rows → (get_or rows j d).id.0 ≡ id.0 → ⊥) → pin.Unspecified ≡ pin_at rows id
no_pin [] id a = refl
no_pin (x ∷ xs) id a = no_pin xs id (λ j d lt e. a (suc j) d (omega arith) e) ∙ sym (cond-false (eqb x.id.0 id.0) _ _ (ne_eqb x.id.0 id.0 (a zero x (omega arith))))

pub same_pin : (rows : List Row) (items : List Item) (id : ItemId) → MeansAll rows items → pin_at rows id ≡ pin_of items id
same_pin [] [] id m = refl
same_pin [] (i ∷ is) id m = absurd m
same_pin (x ∷ xs) [] id m = absurd m
same_pin (x ∷ xs) (i ∷ is) id m = two (eqb x.id.0 id.0) (eqb i.id.0 id.0) (ap (λ n. eqb n id.0) (same_id x i m.0)) (same_pin xs is id m.1) where
  two : (b c : Bool) → b ≡ c → pin_at xs id ≡ pin_of is id → cond b x.pin (pin_at xs id) ≡ cond c i.pin (pin_of is id)
  two true true e rest = m.0.pin
  two true false e rest = let z : true ≡ false = e in cc
  two false true e rest = let z : false ≡ true = e in cc
  two false false e rest = rest

-- a row set at its place

pub sets_row : (P : Row → Row → Type 0) → ((r s : Row) → P r s → s.id.0 ≡ r.id.0) → (id : ItemId) (k : ℕ) (old new : List Row) → RisesFrom 0 old → IsRowAt old id.0 k → SetsAt P k old new → SetsRow P id old new
sets_row P keeps id k old new h at sets =
    let same : sets.0.id.0 ≡ id.0 = keeps (get_or old k sets.0) sets.0 sets.1 ∙ at.has_id sets.0 in
    subst (λ (o : Option Row). MatchOption o (new ≡ old) (λ r. (s : Row) × P r s × (new ≡ with_row s old))) (sym (found_row 0 old id k sets.0 h at))
    (sets.0, sets.1, sets.2 ∙ set_is_with 0 old k sets.0 h (record { in_range = at.in_range; has_id = λ d. at.has_id d ∙ sym same }))

pub sets_none : (P : Row → Row → Type 0) (id : ItemId) (k : ℕ) (old : List Row) → IsRowGap old id.0 k → SetsRow P id old old
sets_none P id k old gap =
    subst (λ (o : Option Row). MatchOption o (old ≡ old) (λ r. (s : Row) × P r s × (old ≡ with_row s old))) (sym (no_row old id (not_there old id.0 k gap))) refl

pub on_ok_map : {A E : Type 0} (r : Result A E) (P Q : Type 0) → (P → Q) → OnOk r P → OnOk r Q
on_ok_map (Ok x) P Q f p = f p
on_ok_map (Err e) P Q f p = p

pub if_ok_map : {A E : Type 0} (r : Result A E) (P Q : A → Type 0) → ((x : A) → P x → Q x) → IfOk r P → IfOk r Q
if_ok_map (Ok x) P Q f p = f x p
if_ok_map (Err e) P Q f p = p

-- the cluster that the row of the item had
pub extent_before : {E : Type 0} (r : Result (Option ℕ) E) (block : ℕ) (id : ItemId) (k : ℕ) (old : List Row) → RisesFrom 0 old → IsRowAt old id.0 k →
    ((d : Row) → IfOk r (λ b. b ≡ cluster_at (get_or old k d).extents block)) → IfOk r (λ b. MatchOption (row_of old id) (b ≡ None) (λ x. b ≡ cluster_at x.extents block))
extent_before r block id k [] h at before = absurd (omega (arith, at.in_range))
extent_before (Err e) block id k (x ∷ xs) h at before = tt
extent_before (Ok b) block id k (x ∷ xs) h at before =
    subst (λ (o : Option Row). MatchOption o (b ≡ None) (λ y. b ≡ cluster_at y.extents block)) (sym (found_row 0 (x ∷ xs) id k x h at)) (before x)

pub extent_none : (block : ℕ) (id : ItemId) (k : ℕ) (old : List Row) → IsRowGap old id.0 k → MatchOption (row_of old id) (◌≡◌ {A = Option ℕ} None None) (λ x. None ≡ cluster_at x.extents block)
extent_none block id k old gap =
    subst (λ (o : Option Row). MatchOption o (◌≡◌ {A = Option ℕ} None None) (λ x. None ≡ cluster_at x.extents block)) (sym (no_row old id (not_there old id.0 k gap))) refl
