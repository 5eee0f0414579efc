-- A turn that is planned on the rows is the entry's, and what is done of it is what the rules of feeds say.
use Rattle.std.proofs.Common.{◌≡◌, ℕ, ◌≤◌, ◌<◌, Bool, true, false, not, List, [], ◌∷◌, ◌++◌, refl, sym, ◌∙◌, ap, subst, arith, get_or, length}
use Rattle.std.specs.Prelude.{Option, Some, None, Result, Ok, Err, IfOk, slice_get, nat_lt, ◌||◌}
use Rattle.std.proofs.lemmas.Bool.{ltb-true}
use Rattle.std.proofs.lemmas.Option.{slice_get_read}
use Rattle.cf_base.specs.declared.codes.CallError.{CallError}
use Rattle.cf_base.specs.declared.ids.ItemId.{ItemId}
use Rattle.cf_base.specs.declared.items.SeenPath.{SeenPath}
use Rattle.cf_base.specs.declared.messages.Entry.{Entry}
use Rattle.cf_base.specs.declared.policies.Policy.{Policy}
use Rattle.cf_engine_feed.specs.Plans.{IsFound, PlansTurn, SeenAt}
use Rattle.cf_engine_feed.specs.Indexed.{indexed}
use Rattle.cf_engine_feed.specs.Indexes.{Indexes}
use Rattle.cf_engine_feed.specs.Targets.{IsFirstBy, is_parent_of}
use Rattle.cf_engine_feed.specs.declared.indexes.Targets.{Targets}
use Rattle.cf_engine_feed.specs.Turns.{before, comes_again, entries_at, fed, planned, planned_by, turn_at}
use Rattle.cf_engine_feed.proofs.StepRuns.{same_where}
use Rattle.cf_engine_feed_plan.specs.Premises.{IsOf, id_of}
use Rattle.cf_engine_feed_plan.specs.Turns.{IsTurn, turn_of}
use Rattle.cf_engine_feed_plan.specs.declared.entry_steps.Turn.{Turn}
use Rattle.cf_engine_feed_plan.specs.declared.entry_steps.Turn.TheVariants.{Nothing, Postponed, Later, Do}
use Rattle.cf_engine_steps.specs.Answering.{Answers, Any, Whole}
use Rattle.cf_engine_steps.specs.States.{Own, whole}
use Rattle.cf_engine_steps.proofs.Laws.{fails_first, goes_any, returned}
use Rattle.cf_filter_steps.specs.Answering.{Sense}
use Rattle.cf_filter_steps.specs.Answering as filter
use Rattle.cf_filter_steps.specs.Finding.{HasRows}
use Rattle.cf_filter_steps.specs.Good.{Every, IsGoodVolume}
use Rattle.cf_filter_steps.specs.Readings.{policy_of}
use Rattle.cf_model.specs.Arrows.{ret, seq}
use Rattle.cf_model.specs.Feeds.{Fed, first_turn, first_turn_by, is_later, second_turn, take_turn, with_turn}
use Rattle.cf_model.specs.Identities.{has_target}
use Rattle.cf_model.specs.Items.{Item}
use Rattle.cf_model.specs.State.{State, items_now}
use Rattle.cf_model.specs.Trees.{Tree, bind}
use Rattle.cf_remote.specs.Told.{Told}
use Rattle.cf_table.specs.Tables.{MeansAll, Table}
use Rattle.cf_tree.specs.Trees.{BeginWithRoot}

-- what is known of the rows and the policy

past_one : (k : ℕ) (items : List Item) → BeginWithRoot items → Every (λ i. i.id.0 < k) items → 2 ≤ k
past_one k [] r h = absurd r
past_one k (i ∷ is) r h = omega (arith, r.0, h.0)

pub is_of : {X : Type 0} (S : Sense X) (x : X) (t : Table) (p : Policy) (s : State) → HasRows S x t → filter.Reads S filter.Any policy_of x p → S.means x s.filter → IsOf t p s
is_of S x t p s rows policy m =
    let v : IsGoodVolume s.filter.volume = (S.good x s.filter m).volume in record {
      rows = rows.rows s.filter m;
      tree = v.tree;
      next = rows.next s.filter m;
      some = subst (λ (n : ItemId). 2 ≤ n.0) (sym (rows.next s.filter m)) (past_one s.filter.volume.next_item.0 (items_now s) v.tree.root v.below);
      ruled = policy.is s.filter m (record {});
    }

-- what holds of each where the call succeeds
pub if_ok_on : {A E : Type 0} (P Q : A → Type 0) (r : Result A E) → ((a : A) → P a → Q a) → IfOk r P → IfOk r Q
if_ok_on P Q (Ok a) f h = f a h
if_ok_on P Q (Err e) f h = record {}

pub found_of : {X : Type 0} (S : Sense X) (x : X) (t : Table) (targets : Targets) (item parent : Option ItemId) (path seen : Option SeenPath) (e : Entry) (s : State) → HasRows S x t
    → IsFirstBy (λ i. has_target i e.rid) targets t.rows item → IsFirstBy (is_parent_of e.parent) targets t.rows parent → SeenAt S x item path → seen ≡ path → S.means x s.filter → Indexes targets s → IsFound item parent seen e s
found_of S x t targets item parent path seen e s has first above at is m index =
    let all : MeansAll t.rows (items_now s) = has.rows s.filter m in
    let rises = (S.good x s.filter m).volume.tree.order in record {
      item = first (items_now s) all rises index;
      parent = above (items_now s) all rises index;
      path = λ i h. is ∙ at.is s i.id m (first (items_now s) all rises index ∙ ap id_of h);
    }

-- the entry at a place
pub entry_there : (es : List Entry) (k : ℕ) (e : Entry) → true ≡ nat_lt k (length es) → e ≡ get_or es k e → slice_get es k ≡ Some e
entry_there es k e small is = slice_get_read es (length es) k e refl (ltb-true k (length es) (sym small)) is

-- the first turn

entries_more : (es : List Entry) (ks : List ℕ) (k : ℕ) (e : Entry) → slice_get es k ≡ Some e → entries_at es (ks ++ k ∷ []) ≡ entries_at es ks ++ e ∷ []
entries_more es [] k e h = ap (λ (o : Option Entry). before o []) h
entries_more es (j ∷ ks) k e h = ap (before (slice_get es j)) (entries_more es ks k e h) ∙ grown (slice_get es j) where
  grown : (o : Option Entry) → before o (entries_at es ks ++ e ∷ []) ≡ before o (entries_at es ks) ++ e ∷ []
  grown None = refl
  grown (Some d) = refl

not_so : (b : Bool) → (false || not b) ≡ true → b ≡ false
not_so false h = refl
not_so true h = let z : false ≡ true = h in cc

taken : (e : Entry) (t : Turn) (f : Fed) (s : State) → ((false || not (is_later s e)) ≡ true) × (turn_of t s ≡ take_turn e s) → seq (turn_of t) (with_turn f) s ≡ first_turn e f s
taken e t f s h = ap (λ (q : Tree State Bool). bind q (with_turn f)) h.1 ∙ sym (ap (λ (b : Bool). first_turn_by b e f s) (not_so (is_later s e) h.0))

planned_is : (es : List Entry) (t : Turn) (k : ℕ) (p : Bool) (l : List ℕ) (e : Entry) (s : State) → slice_get es k ≡ Some e → IsTurn false e s t → planned es t k p l s ≡ first_turn e (fed es p l) s
planned_is es Nothing k p l e s at h = taken e Nothing (fed es p l) s h
planned_is es Postponed k p l e s at h = taken e Postponed (fed es p l) s h
planned_is es Later k p l e s at h = ap (λ (xs : List Entry). ret (record { postponed = p; later = xs }) s) (entries_more es l k e at) ∙ sym (ap (λ (b : Bool). first_turn_by b e (fed es p l) s) h.1)
planned_is es (Do xs) k p l e s at h = taken e (Do xs) (fed es p l) s h

pub first_by : {X R : Type 0} (S : Sense X) (told : R → Told) (es : List Entry) (t : Turn) (k : ℕ) (p : Bool) (l : List ℕ) (e : Entry) (x y : X) (d f : Own R) (m n : Targets) (r : Result Fed CallError) → slice_get es k ≡ Some e → PlansTurn S false e x m t
    → Answers (indexed (whole S told)) Any (planned es t k p l) ((x, d), m) r ((y, f), n) → Answers (indexed (whole S told)) Any (turn_at first_turn (slice_get es k) (fed es p l)) ((x, d), m) r ((y, f), n)
first_by S told es t k p l e x y d f m n r at plan h =
    subst (λ (o : Option Entry). Answers (indexed (whole S told)) Any (turn_at first_turn o (fed es p l)) ((x, d), m) r ((y, f), n)) (sym at)
    (same_where (indexed (whole S told)) (planned es t k p l) (first_turn e (fed es p l)) ((x, d), m) ((y, f), n) r (λ s i. planned_is es t k p l e s at (plan.is s i.0.filter i.1)) h)

-- as it was planned

module _ {X : Type 0} (W : Whole X) (es : List Entry) (t : Turn) (k : ℕ) (p : Bool) (l : List ℕ) (old new : X) where
  by_plan : (b : Bool) (r : Result Fed CallError) → comes_again t ≡ b → Answers W Any (planned_by b es t k p l) old r new → Answers W Any (planned es t k p l) old r new
  by_plan b r is h = subst (λ (c : Bool). Answers W Any (planned_by c es t k p l) old r new) (sym is) h

  pub planned_now : (now : Bool) → comes_again t ≡ false → Answers W Any (turn_of t) old (Ok now) new → Answers W Any (planned es t k p l) old (Ok (fed es (p || now) l)) new
  planned_now now is h = by_plan false (Ok (fed es (p || now) l)) is (goes_any W Any (turn_of t) (with_turn (fed es p l)) old new new now (Ok (fed es (p || now) l)) h (returned W Any (fed es (p || now) l) new))

  pub planned_fails : (e : CallError) → comes_again t ≡ false → Answers W Any (turn_of t) old (Err e) new → Answers W Any (planned es t k p l) old (Err e) new
  planned_fails e is h = by_plan false (Err e) is (fails_first W Any (turn_of t) (with_turn (fed es p l)) old new e h)

-- the second turn

second_is : (t : Turn) (e : Entry) (s : State) → IsTurn true e s t → turn_of t s ≡ take_turn e s
second_is Nothing e s h = h.1
second_is Postponed e s h = h.1
second_is Later e s h = let z : true ≡ false = h.0 in cc
second_is (Do xs) e s h = h.1

pub second_by : {X R : Type 0} (S : Sense X) (told : R → Told) (t : Turn) (e : Entry) (x y : X) (d f : Own R) (m n : Targets) (r : Result Bool CallError) → PlansTurn S true e x m t
    → Answers (indexed (whole S told)) Any (turn_of t) ((x, d), m) r ((y, f), n) → Answers (indexed (whole S told)) Any (take_turn e) ((x, d), m) r ((y, f), n)
second_by S told t e x y d f m n r plan h = same_where (indexed (whole S told)) (turn_of t) (take_turn e) ((x, d), m) ((y, f), n) r (λ s i. second_is t e s (plan.is s i.0.filter i.1)) h

module _ {X : Type 0} (W : Whole X) (es : List Entry) (k : ℕ) (p : Bool) (l : List ℕ) (e : Entry) (old new : X) (at : slice_get es k ≡ Some e) where
  of_entry : (r : Result Fed CallError) → Answers W Any (second_turn e (fed es p l)) old r new → Answers W Any (turn_at second_turn (slice_get es k) (fed es p l)) old r new
  of_entry r h = subst (λ (o : Option Entry). Answers W Any (turn_at second_turn o (fed es p l)) old r new) (sym at) h

  pub second_now : (now : Bool) → Answers W Any (take_turn e) old (Ok now) new → Answers W Any (turn_at second_turn (slice_get es k) (fed es p l)) old (Ok (fed es (p || now) l)) new
  second_now now h = of_entry (Ok (fed es (p || now) l)) (goes_any W Any (take_turn e) (with_turn (fed es p l)) old new new now (Ok (fed es (p || now) l)) h (returned W Any (fed es (p || now) l) new))

  pub second_fails : (c : CallError) → Answers W Any (take_turn e) old (Err c) new → Answers W Any (turn_at second_turn (slice_get es k) (fed es p l)) old (Err c) new
  second_fails c h = of_entry (Err c) (fails_first W Any (take_turn e) (with_turn (fed es p l)) old new c h)
