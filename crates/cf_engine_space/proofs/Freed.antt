-- Files that are dehydrated one after the other, as parts of the whole.
use Rattle.std.proofs.Common.{◌≡◌, ℕ, zero, suc, ◌-◌, ◌<◌, Bool, true, false, not, List, [], ◌∷◌, arith, get_or, length, refl, sym, ◌∙◌, ap, subst}
use Rattle.std.specs.Prelude.{Result, Ok, Err, Option, Some, None}
use Rattle.std.specs.Result.{IsErrAnd}
use Rattle.cf_base.specs.declared.answers.Shown.{Shown}
use Rattle.cf_base.specs.declared.answers.Shown.TheVariants as shown
use Rattle.cf_base.specs.declared.codes.CallError.{CallError}
use Rattle.cf_base.specs.declared.codes.Code.TheVariants as code
use Rattle.cf_base.specs.declared.ids.ItemId.{ItemId}
use Rattle.cf_base.specs.declared.policies.Policy.{Policy}
use Rattle.cf_engine_space.specs.Candidates.{plan_there}
use Rattle.cf_engine_space.specs.Spaces.{allowed, carried_out, dehydrated, free_from, freed, lacks_for, unless_lacking, used_now}
use Rattle.cf_engine_steps.specs.Answering.{After, Answers, Any, On, Reads}
use Rattle.cf_engine_steps.specs.Quiet.{Quiet}
use Rattle.cf_engine_steps.specs.States.{Own, whole}
use Rattle.cf_engine_steps.proofs.Laws.{fails_first, goes_any, reads_on, returned, same_as, with_err}
use Rattle.cf_engine_steps.proofs.Lifting.{lift_filter}
use Rattle.cf_engine_steps.proofs.QuietParts.{quiet_filter}
use Rattle.cf_filter_steps.proofs.RowReads.{row_gone, row_there}
use Rattle.cf_filter_steps.specs.Answering as steps
use Rattle.cf_filter_steps.specs.Answering.{IsAt}
use Rattle.cf_filter_steps.specs.Finding.{HasRows}
use Rattle.cf_filter_steps.specs.Readings.{policy_of, used_blocks}
use Rattle.cf_model.specs.Arrows.{Arrow, ret, unit, unless}
use Rattle.cf_model.specs.Callbacks.{calling, finish_call}
use Rattle.cf_model.specs.Dehydration.{dehydrate_range}
use Rattle.cf_model.specs.Fetching.{nothing_more}
use Rattle.cf_model.specs.Items.{Item, item_of}
use Rattle.cf_model.specs.Space.{dehydrate_now, dehydrate_whole, free, free_all, no_numbers, plan_now, show_freed, space}
use Rattle.cf_model.specs.State.{State, in_filter, items_now}
use Rattle.cf_model.specs.Trees.{Does}
use Rattle.cf_model.specs.Words.{first_of}
use Rattle.cf_model.proofs.DehydrationKeep.{dehydrate_range_keeps}
use Rattle.cf_remote.specs.Told.{Told}
use Rattle.cf_table.specs.Tables.{Table, row_of}
use Rattle.cf_table.specs.declared.rows.Row.{Row}

-- the same element for each other value that stands for none
pub there : {A : Type 0} (xs : List A) (i : ℕ) (d e : A) → i < length xs → get_or xs i d ≡ get_or xs i e
there [] i d e h = absurd (omega (arith, h))
there (x ∷ xs) zero d e h = refl
there (x ∷ xs) (suc i) d e h = there xs i d e (omega (arith, h))

quiet_dehydrate : (i : Item) → Quiet (dehydrate_range None i)
quiet_dehydrate i = record { keeps = λ n. dehydrate_range_keeps _ (quiet_filter n) None i }

-- one file

module _ {X R : Type 0} (S : steps.Sense X) (told : R → Told) (id : ItemId) (i : Item) (x y : X) (e : Own R) where
  pub called : (z : X) (f : Own R) (a : Shown) (r : Result Shown CallError) → steps.Answers S (IsAt id i) (dehydrate_range None i) x (Ok a) y → Answers (whole S told) Any (finish_call a) (y, e) r (z, f) → Answers (whole S told) (On (IsAt id i)) (calling (dehydrate_range None i)) (x, e) r (z, f)
  called z f a r h k = goes_any (whole S told) (On (IsAt id i)) (in_filter (dehydrate_range None i)) finish_call (x, e) (y, e) (z, f) a r (lift_filter S told (IsAt id i) (dehydrate_range None i) x y e (Ok a) (quiet_dehydrate i) h) k

  pub not_called : (c : CallError) (r : Result Shown CallError) → IsErrAnd r (λ q. q ≡ c) → steps.Answers S (IsAt id i) (dehydrate_range None i) x (Err c) y → Answers (whole S told) (On (IsAt id i)) (calling (dehydrate_range None i)) (x, e) r (y, e)
  not_called c r is h = with_err (whole S told) (On (IsAt id i)) (calling (dehydrate_range None i)) (x, e) (y, e) c r is
      (fails_first (whole S told) (On (IsAt id i)) (in_filter (dehydrate_range None i)) finish_call (x, e) (y, e) c (lift_filter S told (IsAt id i) (dehydrate_range None i) x y e (Err c) (quiet_dehydrate i) h))

module _ {X R : Type 0} (S : steps.Sense X) (told : R → Told) (x y : X) (e f : Own R) where
  module _ (id : ItemId) (i : Item) where
    pub answered : (a : Shown) → Answers (whole S told) (On (IsAt id i)) (calling (dehydrate_range None i)) (x, e) (Ok a) (y, f) → Answers (whole S told) (On (IsAt id i)) (dehydrated i) (x, e) (Ok unit) (y, f)
    answered a h = goes_any (whole S told) (On (IsAt id i)) (calling (dehydrate_range None i)) nothing_more (x, e) (y, f) (y, f) a (Ok unit) h (returned (whole S told) Any unit (y, f))

    pub not_answered : (c : CallError) (r : Result (Unit {0}) CallError) → IsErrAnd r (λ q. q ≡ c) → Answers (whole S told) (On (IsAt id i)) (calling (dehydrate_range None i)) (x, e) (Err c) (y, f) → Answers (whole S told) (On (IsAt id i)) (dehydrated i) (x, e) r (y, f)
    not_answered c r is h = with_err (whole S told) (On (IsAt id i)) (dehydrated i) (x, e) (y, f) c r is
        (fails_first (whole S told) (On (IsAt id i)) (calling (dehydrate_range None i)) nothing_more (x, e) (y, f) c h)

  pub file_there : (t : Table) (id : ItemId) (row : Row) (r : Result (Unit {0}) CallError) → HasRows S x t → row_of t.rows id ≡ Some row → ((i : Item) → Answers (whole S told) (On (IsAt id i)) (dehydrated i) (x, e) r (y, f)) → Answers (whole S told) Any (dehydrate_whole id) (x, e) r (y, f)
  file_there t id row r rows is h = record {
    leads = λ s m p.
        let w = row_there t.rows (items_now s) id row (rows.rows s.filter m.filter) is in
        subst (λ (o : Option Item). (u : State) × Does (dehydrate_now o s) r u × (whole S told).moved (x, e) (y, f) s u × After (whole S told) (x, e) r (y, f) s u) (sym w.1) ((h w.0).leads s m w.1);
  }

pub file_gone : {X R : Type 0} (S : steps.Sense X) (told : R → Told) (x : X) (e : Own R) (t : Table) (id : ItemId) → HasRows S x t → row_of t.rows id ≡ None → Answers (whole S told) Any (dehydrate_whole id) (x, e) (Ok unit) (x, e)
file_gone S told x e t id rows is = reads_on (whole S told) Any (λ s. item_of (items_now s) id) dehydrate_now (x, e) (x, e) None (Ok unit)
    (record { is = λ s m p. sym (row_gone t.rows (items_now s) id (rows.rows s.filter m.filter) is) }) (returned (whole S told) Any unit (x, e))

-- the blocks that are used

module _ {X R : Type 0} (S : steps.Sense X) (told : R → Told) (x : X) (e : Own R) (blocks : ℕ × ℕ) (reads : steps.Reads S steps.Any used_blocks x blocks) where
  used_is : Reads (whole S told) Any used_now (x, e) blocks.0
  used_is = record { is = λ s m p. ap (λ (q : ℕ × ℕ). q.0) (reads.is s.filter m.filter (record {})) }

  pub shows_freed : (before n : ℕ) → n ≡ before - blocks.0 → Answers (whole S told) Any (show_freed before) (x, e) (Ok (shown.Freed n)) (x, e)
  shows_freed before n is = reads_on (whole S told) Any used_now (λ used. ret (shown.Freed (before - used))) (x, e) (x, e) blocks.0 (Ok (shown.Freed n)) used_is
      (subst (λ (k : ℕ). Answers (whole S told) Any (ret (shown.Freed k)) (x, e) (Ok (shown.Freed n)) (x, e)) is (returned (whole S told) Any (shown.Freed n) (x, e)))

  pub frees : (y : X) (f : Own R) (ids : List ItemId) (r : Result Shown CallError) → Answers (whole S told) Any (free_all blocks.0 ids) (x, e) r (y, f) → Answers (whole S told) Any (freed ids) (x, e) r (y, f)
  frees y f ids r h = reads_on (whole S told) Any used_now (free_from ids) (x, e) (y, f) blocks.0 r used_is h

-- the plan

module _ {X R : Type 0} (S : steps.Sense X) (told : R → Told) (x : X) (e : Own R) (ids : List ItemId) (b : Bool) (reads : steps.Reads S steps.Any (no_numbers (length ids)) x b) where
  lacks_is : (c : Bool) → b ≡ c → Reads (whole S told) Any (lacks_for ids) (x, e) c
  lacks_is c is = record { is = λ s m p. sym is ∙ reads.is s.filter m.filter (record {}) }

  pub lacking : b ≡ true → Answers (whole S told) Any (carried_out ids) (x, e) (Ok (shown.Refused code.Exhausted)) (x, e)
  lacking is = reads_on (whole S told) Any (lacks_for ids) (unless_lacking ids) (x, e) (x, e) true (Ok (shown.Refused code.Exhausted)) (lacks_is true is) (returned (whole S told) Any (shown.Refused code.Exhausted) (x, e))

  pub has_numbers : (y : X) (f : Own R) (r : Result Shown CallError) → b ≡ false → Answers (whole S told) Any (freed ids) (x, e) r (y, f) → Answers (whole S told) Any (carried_out ids) (x, e) r (y, f)
  has_numbers y f r is h = reads_on (whole S told) Any (lacks_for ids) (unless_lacking ids) (x, e) (y, f) false r (lacks_is false is) h

pub planned_by : {X R : Type 0} (S : steps.Sense X) (told : R → Told) (x y : X) (e f : Own R) (budget : ℕ) (plan ids : List ItemId) (r : Result Shown CallError) → steps.Reads S steps.Any (plan_there budget) x plan → ids ≡ plan → Answers (whole S told) Any (carried_out ids) (x, e) r (y, f) → Answers (whole S told) Any (allowed budget) (x, e) r (y, f)
planned_by S told x y e f budget plan ids r reads same h = reads_on (whole S told) Any (plan_now budget) carried_out (x, e) (y, f) ids r (record { is = λ s m p. same ∙ reads.is s.filter m.filter (record {}) }) h

-- the policy

abbrev is_auto : State → Bool
is_auto s = s.filter.policy.auto

abbrev under : ℕ → Bool → Arrow State Shown
under budget auto s = unless shown.Refused (first_of ((not auto, code.PolicyDenied) ∷ (no_numbers (length (plan_now budget s)) s.filter, code.Exhausted) ∷ [])) (free budget) s

allowed_is : (budget : ℕ) (s : State) → allowed budget s ≡ under budget true s
allowed_is budget s = by (no_numbers (length (plan_now budget s)) s.filter)
  where
    by : (b : Bool) → unless_lacking (plan_now budget s) b s ≡ unless shown.Refused (first_of ((false, code.PolicyDenied) ∷ (b, code.Exhausted) ∷ [])) (free budget) s
    by true = refl
    by false = refl

flip : (b c : Bool) → not b ≡ c → b ≡ not c
flip true c e = ap not e
flip false c e = ap not e

module _ {X R : Type 0} (S : steps.Sense X) (told : R → Told) (x : X) (e : Own R) (budget : ℕ) (policy : Policy) (reads : steps.Reads S steps.Any policy_of x policy) where
  auto_is : (b : Bool) → policy.auto ≡ b → Reads (whole S told) Any is_auto (x, e) b
  auto_is b is = record { is = λ s m p. sym is ∙ ap (λ (q : Policy). q.auto) (reads.is s.filter m.filter (record {})) }

  pub denied : not policy.auto ≡ true → Answers (whole S told) Any (space budget) (x, e) (Ok (shown.Refused code.PolicyDenied)) (x, e)
  denied is = reads_on (whole S told) Any is_auto (under budget) (x, e) (x, e) false (Ok (shown.Refused code.PolicyDenied)) (auto_is false (flip policy.auto true is)) (returned (whole S told) Any (shown.Refused code.PolicyDenied) (x, e))

  pub not_denied : (y : X) (f : Own R) (r : Result Shown CallError) → not policy.auto ≡ false → Answers (whole S told) Any (allowed budget) (x, e) r (y, f) → Answers (whole S told) Any (space budget) (x, e) r (y, f)
  not_denied y f r is h = reads_on (whole S told) Any is_auto (under budget) (x, e) (y, f) true r (auto_is true (flip policy.auto false is)) (same_as (whole S told) Any (allowed budget) (under budget true) (x, e) (y, f) r (allowed_is budget) h)
