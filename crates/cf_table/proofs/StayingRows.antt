-- A change of an item that stays, as what it makes of that item.
use Rattle.std.proofs.Common.{◌≡◌, ℕ, zero, suc, ◌+◌, ◌≤◌, true, false, List, [], ◌∷◌, ◌++◌, length, get_or, drop, refl, sym, ap, subst, ◌∙◌, arith, eqb, Some, Option, length-append, length-drop}
use Rattle.std.specs.Prelude.{MatchOption, replicate}
use Rattle.std.proofs.lemmas.Bool.{cond-true, cond-false, eq-eqb, ne_eqb}
use Rattle.cf_base.specs.declared.changes.Change.{Change}
use Rattle.cf_base.specs.declared.changes.Change.TheVariants as change
use Rattle.cf_base.specs.declared.ids.ItemId.{ItemId}
use Rattle.cf_base.specs.declared.ids.Usn.{Usn}
use Rattle.cf_base.specs.declared.items.Kind.{Kind}
use Rattle.cf_base.specs.declared.items.Pin.{Pin}
use Rattle.cf_model.specs.Effects.{changed, copied, copies, effect, made, moved, untargeted}
use Rattle.cf_model.specs.Items.{Item, item_of, pin_of}
use Rattle.cf_table.specs.Applied.{Steps, item_effect}
use Rattle.cf_table.specs.Changing.{Leaves, item_of_change, pin_for, stays}
use Rattle.cf_table.specs.Means.{KeepsRest, Means}
use Rattle.cf_table.specs.Tables.{IsRowAt, IsRowGap, MeansAll, RisesFrom, SetsAt, SetsRow, pin_at, row_of}
use Rattle.cf_table.specs.declared.rows.Row.{Row}
use Rattle.cf_table.proofs.TableMeans.{absent_means, at_tail, before, changed_means, found_row, no_row, not_there, push_means, same_id, same_pin, sets_row}

pub effect_is : (c : Change) (n : Usn) (rows : List Row) (items : List Item) → stays c ≡ true → MeansAll rows items → changed (item_of_change c) (item_effect c (pin_for c rows) n) items ≡ effect items c n
effect_is (change.Move item parent name) n rows items h m = ap (λ p. changed item (moved parent name p n) items) (same_pin rows items parent m)
effect_is (change.Write item at bytes) n rows items h m = refl
effect_is (change.Size item size) n rows items h m = refl
effect_is (change.Filled item start bytes) n rows items h m = refl
effect_is (change.Validated item start len) n rows items h m = refl
effect_is (change.Emptied item start len) n rows items h m = refl
effect_is (change.SetPin item state) n rows items h m = refl
effect_is (change.Mark item number) n rows items h m = refl
effect_is (change.Clear item) n rows items h m = refl
effect_is (change.Convert item identity) n rows items h m = refl
effect_is (change.Revert item) n rows items h m = refl
effect_is (change.Rebase item identity len at) n rows items h m = refl
effect_is (change.Take item identity size) n rows items h m = refl
effect_is (change.Populated item) n rows items h m = refl
effect_is (change.Keep item on) n rows items h m = refl
effect_is (change.Make item parent name kind size identity) n rows items h m = let z : false ≡ true = h in cc
effect_is (change.Remove item) n rows items h m = let z : false ≡ true = h in cc
effect_is (change.Copy item from parent name) n rows items h m = let z : false ≡ true = h in cc

pub leaves_is : (c : Change) (old new : List Row) → stays c ≡ true → SetsRow KeepsRest (item_of_change c) old new → Leaves c old new
leaves_is (change.Move item parent name) old new h sets = sets
leaves_is (change.Write item at bytes) old new h sets = sets
leaves_is (change.Size item size) old new h sets = sets
leaves_is (change.Filled item start bytes) old new h sets = sets
leaves_is (change.Validated item start len) old new h sets = sets
leaves_is (change.Emptied item start len) old new h sets = sets
leaves_is (change.SetPin item state) old new h sets = sets
leaves_is (change.Mark item number) old new h sets = sets
leaves_is (change.Clear item) old new h sets = sets
leaves_is (change.Convert item identity) old new h sets = sets
leaves_is (change.Revert item) old new h sets = sets
leaves_is (change.Rebase item identity len at) old new h sets = sets
leaves_is (change.Take item identity size) old new h sets = sets
leaves_is (change.Populated item) old new h sets = sets
leaves_is (change.Keep item on) old new h sets = sets
leaves_is (change.Make item parent name kind size identity) old new h sets = let z : false ≡ true = h in absurd cc
leaves_is (change.Remove item) old new h sets = let z : false ≡ true = h in absurd cc
leaves_is (change.Copy item from parent name) old new h sets = let z : false ≡ true = h in absurd cc

-- the source of a copy

pub source_is : (P : Row → Type 0) (id : ItemId) (k : ℕ) (rows : List Row) (d : Row) → RisesFrom 0 rows → IsRowAt rows id.0 k → MatchOption (row_of rows id) ⊥ P → P (get_or rows k d)
source_is P id k rows d h at p = subst (λ (o : Option Row). MatchOption o ⊥ P) (found_row 0 rows id k d h at) p

pub no_source : (P : Row → Type 0) (id : ItemId) (k : ℕ) (rows : List Row) → IsRowGap rows id.0 k → MatchOption (row_of rows id) ⊥ P → ⊥
no_source P id k rows gap p = subst (λ (o : Option Row). MatchOption o ⊥ P) (no_row rows id (not_there rows id.0 k gap)) p

pub found_item : (low : ℕ) (rows : List Row) (items : List Item) (id : ItemId) (k : ℕ) (d : Row) → RisesFrom low rows → IsRowAt rows id.0 k → MeansAll rows items →
    (i : Item) × (item_of items id ≡ Some i) × Means (get_or rows k d) i
found_item low [] items id k d h at m = absurd (omega (arith, at.in_range))
found_item low (x ∷ xs) [] id k d h at m = absurd m
found_item low (x ∷ xs) (i ∷ is) id zero d h at m = (i, cond-true (eqb i.id.0 id.0) _ _ (eq-eqb i.id.0 id.0 (sym (same_id x i m.0) ∙ at.has_id d)), m.0)
found_item low (x ∷ xs) (i ∷ is) id (suc k) d h at m =
    let rest = found_item (x.id.0 + 1) xs is id k d h.1 (at_tail x xs id.0 k at) m.1 in
    (rest.0, cond-false (eqb i.id.0 id.0) _ _ (ne_eqb i.id.0 id.0 (λ e. omega (arith, same_id x i m.0, before low x xs id.0 k h at))) ∙ rest.1, rest.2)

pub untargeted_len : (identity : List ℕ) → 8 ≤ length identity → length (untargeted identity) ≡ length identity
untargeted_len identity h = omega (arith, length-append (replicate 8 0) (drop 8 identity), length-drop 8 identity)

-- a change of an item that stays, on all rows

pub changed_by : (c : Change) (n : Usn) (id : ItemId) (pin : Pin) (k : ℕ) (old new : List Row) (items : List Item) → id ≡ item_of_change c → stays c ≡ true → pin ≡ pin_for c old →
    RisesFrom 0 old → IsRowAt old id.0 k → SetsAt (Steps c pin n) k old new → MeansAll old items → MeansAll new (effect items c n)
changed_by c n id pin k old new items e h p rises at sets m =
    subst (λ (l : List Item). MeansAll new l)
    (ap (λ (j : ItemId). changed j (item_effect c pin n) items) e ∙ ap (λ (q : Pin). changed (item_of_change c) (item_effect c q n) items) p ∙ effect_is c n old items h m)
    (subst (λ (l : List Row). MeansAll l (changed id (item_effect c pin n) items)) (sym sets.2) (changed_means 0 id (item_effect c pin n) old items k sets.0 sets.0 at rises sets.1.means m))

pub unchanged_by : (c : Change) (n : Usn) (id : ItemId) (k : ℕ) (old : List Row) (items : List Item) → id ≡ item_of_change c → stays c ≡ true → IsRowGap old id.0 k → MeansAll old items → MeansAll old (effect items c n)
unchanged_by c n id k old items e h gap m =
    subst (λ (l : List Item). MeansAll old l) (ap (λ (j : ItemId). changed j (item_effect c (pin_for c old) n) items) e ∙ effect_is c n old items h m)
    (absent_means id (item_effect c (pin_for c old) n) old items (not_there old id.0 k gap) m)

pub left_by : (c : Change) (n : Usn) (id : ItemId) (pin : Pin) (k : ℕ) (old new : List Row) → id ≡ item_of_change c → stays c ≡ true →
    RisesFrom 0 old → IsRowAt old id.0 k → SetsAt (Steps c pin n) k old new → Leaves c old new
left_by c n id pin k old new e h rises at sets =
    leaves_is c old new h (subst (λ (j : ItemId). SetsRow KeepsRest j old new) e (sets_row KeepsRest (λ r s p. ap (λ v. v.0) p.id) id k old new rises at (sets.0, sets.1.rest, sets.2)))

-- new items

pub made_joins : (row : Row) (rows new : List Row) (items : List Item) (item parent : ItemId) (blob name ident identity : List ℕ) (k : Kind) (size : ℕ) (pin : Pin) (n : Usn) →
    Means row (made item parent blob k size ident pin n) → blob ≡ name → ident ≡ identity → pin ≡ pin_at rows parent → new ≡ rows ++ row ∷ [] → MeansAll rows items →
    MeansAll new (items ++ made item parent name k size identity (pin_of items parent) n ∷ [])
made_joins row rows new items item parent blob name ident identity k size pin n m same_name same_identity p e all =
    subst (λ (l : List Row). MeansAll l (items ++ made item parent name k size identity (pin_of items parent) n ∷ [])) (sym e)
    (push_means rows items row (made item parent name k size identity (pin_of items parent) n)
    (subst (λ (i : Item). Means row i) (ap (λ (t : List ℕ). made item parent t k size ident pin n) same_name ∙ ap (λ (t : List ℕ). made item parent name k size t pin n) same_identity
    ∙ ap (λ (q : Pin). made item parent name k size identity q n) (p ∙ same_pin rows items parent all)) m) all)

pub copy_joins : (row : Row) (rows new : List Row) (items : List Item) (item from parent : ItemId) (k : ℕ) (blob name : List ℕ) (pin : Pin) (n : Usn) →
    RisesFrom 0 rows → IsRowAt rows from.0 k → ((i : Item) → Means (get_or rows k row) i → Means row (copied item parent blob pin n i)) →
    blob ≡ name → pin ≡ pin_at rows parent → new ≡ rows ++ row ∷ [] → MeansAll rows items → MeansAll new (items ++ copies item parent name (pin_of items parent) n (item_of items from))
copy_joins row rows new items item from parent k blob name pin n rises at step same_name p e all =
    let found = found_item 0 rows items from k row rises at all in
    subst (λ (o : Option Item). MeansAll new (items ++ copies item parent name (pin_of items parent) n o)) (sym found.1)
    (subst (λ (l : List Row). MeansAll l (items ++ copied item parent name (pin_of items parent) n found.0 ∷ [])) (sym e)
    (push_means rows items row (copied item parent name (pin_of items parent) n found.0)
    (subst (λ (i : Item). Means row i) (ap (λ (t : List ℕ). copied item parent t pin n found.0) same_name ∙ ap (λ (q : Pin). copied item parent name q n found.0) (p ∙ same_pin rows items parent all))
    (step found.0 found.2)) all))
