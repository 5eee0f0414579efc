-- Where no item has anything to do, all turns are nothing.
use Rattle.std.proofs.Common.{◌≡◌, ℕ, zero, suc, ◌+◌, ◌<◌, Bool, true, false, cond, List, [], ◌∷◌, length, get_or, refl, ap, subst, ◌∙◌, arith, ◌==◌, inl, inr}
use Rattle.std.specs.Prelude.{Ok, Option, Some, None, map}
use Rattle.std.proofs.lemmas.Bool.{cases_lt, eqb-true}
use Rattle.cf_base.specs.declared.ids.ItemId.{ItemId}
use Rattle.cf_engine_queue.specs.Books.{tombstone_value}
use Rattle.cf_engine_queue.specs.declared.uploads.Tombstone.{Tombstone}
use Rattle.cf_engine_steps.specs.Answering.{Answers, Any, Whole}
use Rattle.cf_engine_steps.specs.States.{Own, whole}
use Rattle.cf_engine_steps.proofs.Laws.{returned}
use Rattle.cf_engine_uploads.proofs.Trees.{same_at}
use Rattle.cf_engine_uploads.proofs.Turned.{turn_gone}
use Rattle.cf_engine_uploads.specs.Turns.{AreIdle, IsDone, IsIdle, PlansTurn, push_with}
use Rattle.cf_engine_uploads.specs.declared.turns.Course.TheVariants.{Nothing}
use Rattle.cf_filter_steps.specs.Answering as steps
use Rattle.cf_filter_steps.specs.Finding.{HasRows}
use Rattle.cf_model.specs.Arrows.{each, ret, unit}
use Rattle.cf_model.specs.LookUp.{by_depth}
use Rattle.cf_model.specs.Pushes.{push_turn}
use Rattle.cf_model.specs.State.{State, items_now}
use Rattle.cf_model.specs.Trees.{bind}
use Rattle.cf_remote.specs.Told.{Told}
use Rattle.cf_table.specs.Tables.{Table, row_of}
use Rattle.cf_table.specs.declared.rows.Row.{Row}

-- a row that is found stands somewhere
found_at : (rows : List Row) (id : ItemId) (r : Row) → row_of rows id ≡ Some r → (k : ℕ) × (k < length rows) × ((d : Row) → (get_or rows k d).id ≡ id)
found_at [] id r e = let z : ◌≡◌ {A = Option Row} None (Some r) = e in cc
found_at (x ∷ xs) id r e = by (x.id.0 == id.0) refl (found_at xs id r) e where
  by : (b : Bool) → (x.id.0 == id.0) ≡ b → (row_of xs id ≡ Some r → (k : ℕ) × (k < length xs) × ((d : Row) → (get_or xs k d).id ≡ id))
      → cond b (Some x) (row_of xs id) ≡ Some r → (k : ℕ) × (k < length (x ∷ xs)) × ((d : Row) → (get_or (x ∷ xs) k d).id ≡ id)
  by true h more e = (zero, omega arith, λ d i. record { 0 = eqb-true x.id.0 id.0 h i })
  by false h more e = let m = more e in (suc m.0, omega (arith, m.1), m.2)

-- all rows have nothing to do, so all items
all_idle : {X R : Type 0} (S : steps.Sense X) (told : R → Told) (x : X) (e : Own R) (t : Table) → HasRows S x t
    → ((k : ℕ) (d : Row) → k < length t.rows → PlansTurn (whole S told) (get_or t.rows k d).id (x, e) Nothing) → (id : ItemId) → PlansTurn (whole S told) id (x, e) Nothing
all_idle S told x e t rows idle id = by (row_of t.rows id) refl where
  by : (o : Option Row) → row_of t.rows id ≡ o → PlansTurn (whole S told) id (x, e) Nothing
  by None h = turn_gone S told x e t id rows h
  by (Some r) h =
      let at = found_at t.rows id r h in
      subst (λ (i : ItemId). PlansTurn (whole S told) i (x, e) Nothing) (at.2 r) (idle at.0 r at.1)

pub rows_idle : {X R : Type 0} (S : steps.Sense X) (told : R → Told) (x : X) (e : Own R) (t : Table) → HasRows S x t → (rows : List Row) → rows ≡ t.rows
    → (b : Bool) → AreIdle (whole S told) rows (x, e) b → IsIdle (whole S told) (x, e) b
rows_idle S told x e t has rows same true idle = all_idle S told x e t has (subst (λ (rs : List Row). (k : ℕ) (d : Row) → k < length rs → PlansTurn (whole S told) (get_or rs k d).id (x, e) Nothing) same idle)
rows_idle S told x e t has rows same false turn = turn

-- one more row has nothing to do
pub idle_more : {X : Type 0} (W : Whole X) (rows : List Row) (x : X) (n : ℕ) (id : ItemId) → ((d : Row) → id ≡ (get_or rows n d).id) → PlansTurn W id x Nothing
    → ((k : ℕ) (d : Row) → k < n → PlansTurn W (get_or rows k d).id x Nothing) → (k : ℕ) (d : Row) → k < n + 1 → PlansTurn W (get_or rows k d).id x Nothing
idle_more W rows x n id is plan before k d lt = elim (cases_lt k n) [
  | inl less ↦ before k d less
  | inr le ↦
      let same : n ≡ k = omega (arith, le, lt) in
      subst (λ (j : ℕ). PlansTurn W (get_or rows j d).id x Nothing) same (subst (λ (i : ItemId). PlansTurn W i x Nothing) (is d) plan)
]

module _ {X : Type 0} (W : Whole X) (x : X) (idle : (id : ItemId) → PlansTurn W id x Nothing) where
  no_turns : (s : State) → W.means x s → (ids : List ItemId) → ret unit s ≡ each push_turn ids s
  no_turns s m [] = refl
  no_turns s m (id ∷ ids) = no_turns s m ids ∙ ap (λ t. bind t (λ _ u. each push_turn ids u)) ((idle id).is s m)

  -- without tombstones nothing is done at all
  pub none_pushed : (ts : List Tombstone) → length ts ≡ 0 → Answers W Any (push_with (map tombstone_value ts)) x (Ok unit) x
  none_pushed [] e = same_at W x (Ok unit) x Any (ret unit) (push_with []) (λ s m p. no_turns s m (map (λ i. i.id) (by_depth (items_now s) (items_now s)))) (returned W Any unit x)
  none_pushed (t ∷ ts) e = absurd (omega (arith, e))

pub done_without : {X : Type 0} (W : Whole X) (ts : List Tombstone) (x : X) → (length ts == 0) ≡ true → (b : Bool) → IsIdle W x b → IsDone W ts x b
done_without W ts x none true idle = (eqb-true (length ts) 0 none, idle)
done_without W ts x none false turn = inr turn

pub not_done : {X : Type 0} (W : Whole X) (ts : List Tombstone) (x : X) → (length ts == 0) ≡ false → IsDone W ts x false
not_done W [] x none = let z : true ≡ false = none in cc
not_done W (t ∷ ts) x some = inl (omega arith)
