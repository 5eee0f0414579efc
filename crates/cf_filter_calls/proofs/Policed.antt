-- The policy that stands, and what is told of accesses and blocks.
use Rattle.std.proofs.Common.{◌≡◌, ℕ, Bool, true, false, not, refl, sym, ◌∙◌, ap, subst, Option, Some, None}
use Rattle.std.specs.Prelude.{Result, Ok, Err, OnOk, OnErr, is_err, ◌&&◌, ◌||◌}
use Rattle.cf_base.specs.Policies.{is_allowed}
use Rattle.cf_base.specs.declared.answers.Shown.{Shown}
use Rattle.cf_base.specs.declared.answers.Shown.TheVariants as shown
use Rattle.cf_base.specs.declared.codes.Code.{Code}
use Rattle.cf_base.specs.declared.ids.ItemId.{ItemId}
use Rattle.cf_base.specs.declared.policies.Mode.{Mode}
use Rattle.cf_base.specs.declared.policies.Policy.{Policy}
use Rattle.cf_filter_calls.specs.Told.{policy_code, policy_refusal, used_by}
use Rattle.cf_model.specs.Arrows.{noted, ret, then_do, unit, unless}
use Rattle.cf_model.specs.Calls.{blocks_now, df, is_always_population, set_policy, used_now, with_policy}
use Rattle.cf_model.specs.Operations.{done}
use Rattle.cf_model.specs.State.{Filter}
use Rattle.cf_model.specs.Trees.{Does}
use Rattle.cf_model.specs.Words.{is_empty}
use Rattle.cf_filter_steps.specs.Answering.{After, Answers, Any, Reads, Sense}
use Rattle.cf_filter_steps.specs.Readings.{has_unlisted, is_idle, last_access, used_blocks}
use Rattle.cf_filter_steps.proofs.Laws.{any_on, reads_on, returned}

-- the refusals

pub bad_by : (r : Result (Unit {0}) Code) (a b : Bool) → OnOk r (a ≡ true) → OnErr r (a ≡ false) → b ≡ is_err r → b ≡ not a
bad_by (Ok u) a b p q e = e ∙ ap not (sym p)
bad_by (Err c) a b p q e = e ∙ ap not (sym q)

not_both : (a b : Bool) → not (a && b) ≡ (not a || not b)
not_both true b = refl
not_both false b = refl

pub refused_by : {X : Type 0} (S : Sense X) (m : Mode) (p : Policy) (bad idle always lists : Bool) (why : Option Code) (x : X)
    → bad ≡ not (is_allowed m p) → Reads S Any is_idle x idle → always ≡ is_always_population p.population → Reads S Any has_unlisted x lists → why ≡ policy_code bad (not idle) always lists
    → Reads S Any (policy_refusal m p) x why
refused_by S m p bad idle always lists why x b reads a more e = record {
  is = λ s h q.
      e ∙ ap (λ (v : Bool). policy_code v (not idle) always lists) b
      ∙ ap (λ (v : Bool). policy_code (not (is_allowed m p)) v always lists) (ap not (reads.is s h q) ∙ not_both (is_empty s.handles) (is_empty s.waiting.waits))
      ∙ ap (λ (v : Bool). policy_code (not (is_allowed m p)) (not (is_empty s.handles) || not (is_empty s.waiting.waits)) v lists) a
      ∙ ap (λ (v : Bool). policy_code (not (is_allowed m p)) (not (is_empty s.handles) || not (is_empty s.waiting.waits)) (is_always_population p.population) v) (more.is s h q);
}

pub policy_off : {X : Type 0} (S : Sense X) (m : Mode) (p : Policy) (o : Option Code) (k : Code) (x : X)
    → Reads S Any (policy_refusal m p) x o → o ≡ Some k → Answers S Any (set_policy m p) x (Ok (shown.Refused k)) x
policy_off S m p o k x reads e = record {
  leads = λ s i q.
      subst (λ (c : Option Code). (t : Filter) × Does {A = Shown} (unless shown.Refused c (then_do (noted (with_policy p)) done) s) (Ok (shown.Refused k)) t × S.moved x x s t × After {A = Shown} S x (Ok (shown.Refused k)) x t) (sym e ∙ reads.is s i q)
      (s, (refl, refl), S.stays x s i, i);
}

pub policy_on : {X : Type 0} (S : Sense X) (m : Mode) (p : Policy) (o : Option Code) (x new : X)
    → Reads S Any (policy_refusal m p) x o → o ≡ None → Answers S Any (noted (with_policy p)) x (Ok unit) new → Answers S Any (set_policy m p) x (Ok shown.Done) new
policy_on S m p o x new reads e h =
    let a = any_on S (noted (with_policy p)) done x new new unit (Ok shown.Done) h (returned S Any shown.Done new) in record {
      leads = λ s i q.
          subst (λ (c : Option Code). (t : Filter) × Does {A = Shown} (unless shown.Refused c (then_do (noted (with_policy p)) done) s) (Ok shown.Done) t × S.moved x new s t × After {A = Shown} S x (Ok shown.Done) new t) (sym e ∙ reads.is s i q)
          (a.leads s i q);
    }

-- what is told

pub told_access : {X : Type 0} (S : Sense X) (id : ItemId) (n : ℕ) (x : X) → Reads S Any (last_access id) x n → Answers S Any (used_by id) x (Ok (shown.Used n)) x
told_access S id n x reads =
    reads_on S Any (used_now id) ret x x (shown.Used n) (Ok (shown.Used n)) (record { is = λ s i q. ap (λ (v : ℕ). shown.Used v) (reads.is s i q) }) (returned S Any (shown.Used n) x)

pub told_blocks : {X : Type 0} (S : Sense X) (b : ℕ × ℕ) (x : X) → Reads S Any used_blocks x b → Answers S Any df x (Ok (shown.Blocks b.0 b.1)) x
told_blocks S b x reads =
    reads_on S Any blocks_now ret x x (shown.Blocks b.0 b.1) (Ok (shown.Blocks b.0 b.1)) (record { is = λ s i q. ap (λ (v : ℕ × ℕ). shown.Blocks v.0 v.1) (reads.is s i q) })
    (returned S Any (shown.Blocks b.0 b.1) x)
