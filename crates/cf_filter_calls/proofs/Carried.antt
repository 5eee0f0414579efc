-- Plans that are carried out, and look-ups that lead to them.
use Rattle.std.proofs.Common.{◌≡◌, Bool, true, false, List, [], ◌∷◌, refl, sym, ◌∙◌, ap, subst, ℕ}
use Rattle.std.specs.Prelude.{Result, Ok, Err, Option, Some, None, not, unwrap_or, ◌&&◌, ◌||◌, ◌==◌}
use Rattle.std.specs.List.{list_any}
use Rattle.cf_base.specs.declared.answers.Shown.{Shown}
use Rattle.cf_base.specs.declared.answers.Shown.TheVariants as shown
use Rattle.cf_base.specs.declared.changes.Change.{Change}
use Rattle.cf_base.specs.declared.codes.Code.{Code}
use Rattle.cf_base.specs.declared.codes.CallError.{CallError}
use Rattle.cf_base.specs.declared.codes.CallError.TheVariants as fail
use Rattle.cf_base.specs.declared.ids.ItemId.{ItemId}
use Rattle.cf_base.specs.declared.ids.Usn.{Usn}
use Rattle.cf_filter_calls.specs.Executing.{base_at}
use Rattle.cf_filter_calls.specs.Moved.{is_unlisted, is_unlisted_at}
use Rattle.cf_filter_calls.specs.Planned.{Plan, PlansSuit, refusal_of}
use Rattle.cf_model.specs.Arrows.{Arrow, reading}
use Rattle.cf_base.specs.declared.policies.Policy.{Policy}
use Rattle.cf_model.specs.Calls.{changing, number_at, number_of, show_number, size_at}
use Rattle.cf_model.specs.Dehydration.{in_use}
use Rattle.cf_model.specs.Items.{Item, base_of, item_of, size_of}
use Rattle.cf_model.specs.Missing.{Wait}
use Rattle.cf_model.specs.Numbers.{no_key, no_usn, same_key}
use Rattle.cf_model.specs.Placements.{planned_on, revert_plan, update_plan}
use Rattle.cf_model.specs.Plans.{plan_revert, plan_update}
use Rattle.cf_model.specs.Requests.{Waiting, is_busy_beside}
use Rattle.cf_model.specs.State.{Filter}
use Rattle.cf_model.specs.Trees.{Does}
use Rattle.cf_model.specs.Waits.{on_ok}
use Rattle.cf_item_rules.specs.PlaceholderPlans.{IsPlan}
use Rattle.cf_waits.specs.Told.{is_busy}
use Rattle.cf_filter_steps.specs.Answering.{After, Answers, Any, IsAt, Reads, Sense}
use Rattle.cf_filter_steps.specs.Finding.{Finds, HasRows, Plans}
use Rattle.cf_filter_steps.specs.Good.{Every}
use Rattle.cf_filter_steps.specs.Readings.{has_handle, policy_of, waiting_of}
use Rattle.cf_filter_steps.specs.Suiting.{Suiting}
use Rattle.cf_filter_steps.specs.Making.{Made}
use Rattle.cf_filter_steps.proofs.Laws.{no_memory, reads_on, returned}
use Rattle.cf_filter_steps.proofs.MakingRoom.{made_on}
use Rattle.cf_filter_steps.proofs.RowReads.{row_read}
use Rattle.cf_table.specs.Means.{Means}
use Rattle.cf_table.specs.Tables.{MeansAll, Table, row_of}
use Rattle.cf_table.specs.declared.rows.Row.{Row}
use Rattle.cf_tree.proofs.Alike.{BothMean, rows_by_id}
use Rattle.cf_tree.proofs.Walks.{own_id}

-- rows of items

pub row_means : (rows : List Row) (items : List Item) (id : ItemId) (r : Row) (i : Item) → MeansAll rows items → row_of rows id ≡ Some r → item_of items id ≡ Some i → Means r i
row_means rows items id r i m p q = subst (λ (o : Option Row). BothMean o (Some i)) p (subst (λ (o : Option Item). BothMean (row_of rows id) o) q (rows_by_id rows items id m))

pub no_row : (rows : List Row) (items : List Item) (id : ItemId) (i : Item) → MeansAll rows items → row_of rows id ≡ None → item_of items id ≡ Some i → ⊥
no_row rows items id i m p q = subst (λ (o : Option Row). BothMean o (Some i)) p (subst (λ (o : Option Item). BothMean (row_of rows id) o) q (rows_by_id rows items id m))

-- a plan by the row is one by the item
pub plans_by : {X : Type 0} (S : Sense X) (x : X) (t : Table) (id : ItemId) (row : Row) (f : Plan) (r : Result (List Change) CallError)
    → HasRows S x t → row_of t.rows id ≡ Some row → ((s : Filter) (i : Item) → S.means x s → IsAt id i s → Means row i → IsPlan r (f i s)) → Plans S id f x r
plans_by S x t id row f r rows e h = record { is = λ s i m at. h s i m at (row_means t.rows s.volume.items id row i (rows.rows s m) e at) }

pub plans_none : {X : Type 0} (S : Sense X) (x : X) (t : Table) (id : ItemId) (f : Plan) (r : Result (List Change) CallError)
    → HasRows S x t → row_of t.rows id ≡ None → Plans S id f x r
plans_none S x t id f r rows e = record { is = λ s i m at. absurd (no_row t.rows s.volume.items id i (rows.rows s m) e at) }

-- a plan is carried out

pub plan_made : {X : Type 0} (S : Sense X) (id : ItemId) (f : Plan) (cs : List Change) (x new : X) (r : Result Shown CallError)
    → Plans S id f x (Ok cs) → PlansSuit id f → Answers S (Suiting cs) (planned_on id cs) x r new → (i : Item) → Answers S (IsAt id i) (reading (f i) (on_ok (planned_on i.id))) x r new
plan_made S id f cs x new r plans suit a i = record {
  leads = λ s h at.
      let e : f i s ≡ Ok cs = plans.is s i h at in
      subst (λ (q : Result (List Change) Code). (t : Filter) × Does (on_ok (planned_on i.id) q s) r t × S.moved x new s t × After S x r new t) (sym e)
      (subst (λ (k : ItemId). (t : Filter) × Does (planned_on k cs s) r t × S.moved x new s t × After S x r new t) (own_id s.volume.items id i at)
      (a.leads s h (suit.suits s i cs (S.good x s h) at e)));
}

pub plan_refused : {X : Type 0} (S : Sense X) (id : ItemId) (f : Plan) (g : List Change → Arrow Filter Shown) (c : Code) (x : X) (i : Item)
    → Plans S id f x (Err (fail.No c)) → Answers S (IsAt id i) (reading (f i) (on_ok g)) x (Ok (shown.Refused c)) x
plan_refused S id f g c x i plans = record {
  leads = λ s h at.
      subst (λ (q : Result (List Change) Code). (t : Filter) × Does {A = Shown} (on_ok g q s) (Ok (shown.Refused c)) t × S.moved x x s t × After {A = Shown} S x (Ok (shown.Refused c)) x t) (sym (plans.is s i h at))
      (s, (refl, refl), S.stays x s h, h);
}

-- look-ups

pub on_found : {X : Type 0} (S : Sense X) (v : Filter → Result Item Code) (f : Item → Arrow Filter Shown) (id : ItemId) (x new : X) (r : Result Shown CallError)
    → Finds S v x (Ok id) → ((i : Item) → Answers S (IsAt id i) (f i) x r new) → Answers S Any (reading v (on_ok f)) x r new
on_found S v f id x new r finds a = record {
  leads = λ s h p.
      let z = finds.is s h in
      subst (λ (q : Result Item Code). (t : Filter) × Does (on_ok f q s) r t × S.moved x new s t × After S x r new t) (sym z.1) ((a z.0).leads s h z.2);
}

pub on_lost : {X : Type 0} (S : Sense X) (v : Filter → Result Item Code) (f : Item → Arrow Filter Shown) (c : Code) (x : X)
    → Finds S v x (Err c) → Answers S Any (reading v (on_ok f)) x (Ok (shown.Refused c)) x
on_lost S v f c x finds = record {
  leads = λ s h p.
      subst (λ (q : Result Item Code). (t : Filter) × Does {A = Shown} (on_ok f q s) (Ok (shown.Refused c)) t × S.moved x x s t × After {A = Shown} S x (Ok (shown.Refused c)) x t) (sym (finds.is s h))
      (s, (refl, refl), S.stays x s h, h);
}

pub found_on : {X : Type 0} (S : Sense X) (v : Filter → Result Item Code) (f : Item → Arrow Filter Shown) (q : Result ItemId Code) (id : ItemId) (x new : X) (r : Result Shown CallError)
    → Finds S v x q → q ≡ Ok id → ((i : Item) → Answers S (IsAt id i) (f i) x r new) → Answers S Any (reading v (on_ok f)) x r new
found_on S v f q id x new r finds e a = on_found S v f id x new r (subst (λ (y : Result ItemId Code). Finds S v x y) e finds) a

pub lost_on : {X : Type 0} (S : Sense X) (v : Filter → Result Item Code) (f : Item → Arrow Filter Shown) (q : Result ItemId Code) (c : Code) (x : X)
    → Finds S v x q → q ≡ Err c → Answers S Any (reading v (on_ok f)) x (Ok (shown.Refused c)) x
lost_on S v f q c x finds e = on_lost S v f c x (subst (λ (y : Result ItemId Code). Finds S v x y) e finds)

-- a plan by cases

pub planned_ok : {X : Type 0} (S : Sense X) (id : ItemId) (plan : Result (List Change) CallError) (cs ds : List Change) (x new : X) (r : Result Shown CallError)
    → plan ≡ Ok cs → ds ≡ cs → Answers S (Suiting ds) (planned_on id ds) x r new
    → (f : Plan) → Plans S id f x plan → PlansSuit id f → (i : Item) → Answers S (IsAt id i) (reading (f i) (on_ok (planned_on i.id))) x r new
planned_ok S id plan cs ds x new r e same a f plans suit i =
    plan_made S id f cs x new r (subst (λ (q : Result (List Change) CallError). Plans S id f x q) e plans) suit (subst (λ (l : List Change). Answers S (Suiting l) (planned_on id l) x r new) same a) i

pub planned_err : {X : Type 0} (S : Sense X) (id : ItemId) (plan : Result (List Change) CallError) (h : CallError) (r : Result Shown CallError) (x : X)
    → plan ≡ Err h → r ≡ refusal_of h → (f : Plan) → Plans S id f x plan → PlansSuit id f → (i : Item) → Answers S (IsAt id i) (reading (f i) (on_ok (planned_on i.id))) x r x
planned_err S id plan (fail.No c) r x e q f plans suit i =
    subst (λ (y : Result Shown CallError). Answers S (IsAt id i) (reading (f i) (on_ok (planned_on i.id))) x y x) (sym q)
    (plan_refused S id f (planned_on i.id) c x i (subst (λ (p : Result (List Change) CallError). Plans S id f x p) e plans))
planned_err S id plan fail.OutOfMemory r x e q f plans suit i =
    subst (λ (y : Result Shown CallError). Answers S (IsAt id i) (reading (f i) (on_ok (planned_on i.id))) x y x) (sym q) (no_memory S (IsAt id i) (reading (f i) (on_ok (planned_on i.id))) x)

-- changes that were made

pub made_done : {X : Type 0} (S : Sense X) (cs : List Change) (answer : Arrow Filter Shown) (o : Option Code) (x mid new : X) (r : Result Shown CallError)
    → Made S cs x (Ok o) mid → o ≡ None → Answers S Any answer mid r new → Answers S (Suiting cs) (changing cs answer) x r new
made_done S cs answer o x mid new r m e k = made_on S cs answer x mid new r (subst (λ (p : Option Code). Made S cs x (Ok p) mid) e m) k

pub numbered : {X : Type 0} (S : Sense X) (id : ItemId) (n : Usn) (x : X) → Reads S Any (number_at id) x n → Answers S Any (number_of id) x (Ok (shown.Number n)) x
numbered S id n x reads = reads_on S Any (number_at id) show_number x x n (Ok (shown.Number n)) reads (returned S Any (shown.Number n) x)

-- plans that look at more than the row

pub reverts_by : {X : Type 0} (S : Sense X) (x : X) (id : ItemId) (used : Bool) (r : Result (List Change) CallError) → Reads S Any (in_use id) x used
    → (s : Filter) (i : Item) → S.means x s → IsAt id i s → IsPlan r (plan_revert i used) → IsPlan r (revert_plan i s)
reverts_by S x id used r reads s i h at p =
    subst (λ (k : ItemId). IsPlan r (plan_revert i (in_use k s))) (own_id s.volume.items id i at) (subst (λ (b : Bool). IsPlan r (plan_revert i b)) (reads.is s h (record {})) p)

pub updates_by : {X : Type 0} (S : Sense X) (x : X) (id : ItemId) (used : Bool) (policy : Policy) (identity : List ℕ) (size : Option ℕ) (r : Result (List Change) CallError)
    → Reads S Any (in_use id) x used → Reads S Any policy_of x policy
    → (s : Filter) (i : Item) → S.means x s → IsAt id i s → IsPlan r (plan_update policy i identity size used) → IsPlan r (update_plan identity size i s)
updates_by S x id used policy identity size r reads pol s i h at p =
    subst (λ (k : ItemId). IsPlan r (plan_update s.policy i identity size (in_use k s))) (own_id s.volume.items id i at)
    (subst (λ (b : Bool). IsPlan r (plan_update s.policy i identity size b)) (reads.is s h (record {})) (subst (λ (q : Policy). IsPlan r (plan_update q i identity size used)) (pol.is s h (record {})) p))

-- what an item's row says

pub number_some : {X : Type 0} (S : Sense X) (x : X) (t : Table) (id : ItemId) (row : Row) → HasRows S x t → row_of t.rows id ≡ Some row → Reads S Any (number_at id) x row.number
number_some S x t id row rows e = row_read S x t id rows (λ r. r.number) (λ i. i.number) no_usn (λ r i m. m.number) (Some row) row.number e refl

pub number_none : {X : Type 0} (S : Sense X) (x : X) (t : Table) (id : ItemId) → HasRows S x t → row_of t.rows id ≡ None → Reads S Any (number_at id) x no_usn
number_none S x t id rows e = row_read S x t id rows (λ r. r.number) (λ i. i.number) no_usn (λ r i m. m.number) None no_usn e refl

pub size_some : {X : Type 0} (S : Sense X) (x : X) (t : Table) (id : ItemId) (row : Row) → HasRows S x t → row_of t.rows id ≡ Some row → Reads S Any (size_at id) x row.size
size_some S x t id row rows e = row_read S x t id rows (λ r. r.size) size_of 0 (λ r i m. m.bytes.size) (Some row) row.size e refl

pub size_none : {X : Type 0} (S : Sense X) (x : X) (t : Table) (id : ItemId) → HasRows S x t → row_of t.rows id ≡ None → Reads S Any (size_at id) x 0
size_none S x t id rows e = row_read S x t id rows (λ r. r.size) size_of 0 (λ r i m. m.bytes.size) None 0 e refl

base_same : (r : Row) (i : Item) → Means r i → unwrap_or r.base 0 ≡ base_of i
base_same r i m = ap (λ (b : Option ℕ). unwrap_or b 0) m.base

pub base_some : {X : Type 0} (S : Sense X) (x : X) (t : Table) (id : ItemId) (row : Row) (n : ℕ) → HasRows S x t → row_of t.rows id ≡ Some row → n ≡ unwrap_or row.base 0 → Reads S Any (base_at id) x n
base_some S x t id row n rows e q = row_read S x t id rows (λ r. unwrap_or r.base 0) base_of 0 base_same (Some row) n e q

pub base_none : {X : Type 0} (S : Sense X) (x : X) (t : Table) (id : ItemId) → HasRows S x t → row_of t.rows id ≡ None → Reads S Any (base_at id) x 0
base_none S x t id rows e = row_read S x t id rows (λ r. unwrap_or r.base 0) base_of 0 base_same None 0 e refl

unlisted_same : (r : Row) (i : Item) → Means r i → (r.dir && not r.populated) ≡ is_unlisted i
unlisted_same r i m = λ j. m.directory j && not (m.populated j)

pub unlisted_some : {X : Type 0} (S : Sense X) (x : X) (t : Table) (id : ItemId) (row : Row) (b : Bool) → HasRows S x t → row_of t.rows id ≡ Some row → b ≡ (row.dir && not row.populated) → Reads S Any (is_unlisted_at id) x b
unlisted_some S x t id row b rows e q = row_read S x t id rows (λ r. r.dir && not r.populated) is_unlisted false unlisted_same (Some row) b e q

pub unlisted_none : {X : Type 0} (S : Sense X) (x : X) (t : Table) (id : ItemId) → HasRows S x t → row_of t.rows id ≡ None → Reads S Any (is_unlisted_at id) x false
unlisted_none S x t id rows e = row_read S x t id rows (λ r. r.dir && not r.populated) is_unlisted false unlisted_same None false e refl

-- use

pub used_open : {X : Type 0} (S : Sense X) (x : X) (id : ItemId) (b : Bool) → Reads S Any (has_handle id) x b → b ≡ true → Reads S Any (in_use id) x true
used_open S x id b reads e = record { is = λ s h p. one (has_handle id s) (is_busy_beside id (record { 0 = no_key }) s.waiting) (sym (reads.is s h p) ∙ e) } where
  one : (a c : Bool) → a ≡ true → true ≡ (a || c)
  one true c q = refl
  one false c q = let z : false ≡ true = q in cc

-- each wait has a number
pub waited : (id : ItemId) (ws : List Wait) → Every (λ w. same_key w.id.0 no_key ≡ false) ws → list_any (λ w. w.item.0 == id.0) ws ≡ list_any (λ w. (w.item.0 == id.0) && not (same_key w.id.0 no_key)) ws
waited id [] h = refl
waited id (w ∷ ws) h = one (w.item.0 == id.0) (same_key w.id.0 no_key) h.0 (waited id ws h.1) where
  one : (a b : Bool) {c d : Bool} → b ≡ false → c ≡ d → (a || c) ≡ ((a && not b) || d)
  one true false q r = refl
  one true true q r = let z : true ≡ false = q in cc
  one false b q r = r

pub used_else : {X : Type 0} (S : Sense X) (x : X) (id : ItemId) (b busy : Bool) (w : Waiting) → Reads S Any (has_handle id) x b → b ≡ false → Reads S Any waiting_of x w → busy ≡ is_busy id w → Reads S Any (in_use id) x busy
used_else S x id b busy w reads e waits q = record {
  is = λ s h p.
      q ∙ ap (λ (u : Waiting). is_busy id u) (waits.is s h p) ∙ waited id s.waiting.waits (S.good x s h).numbered
      ∙ one (has_handle id s) (is_busy_beside id (record { 0 = no_key }) s.waiting) (sym (reads.is s h p) ∙ e);
} where
  one : (a c : Bool) → a ≡ false → c ≡ (a || c)
  one false c q = refl
  one true c q = let z : true ≡ false = q in cc
