-- The passes of a sync, one after the other.
use Rattle.std.proofs.Common.{◌≡◌, ◌<◌, ◌-◌, ◌*◌, ℕ, suc, Bool, true, false, not, min, arith, ◌+◌, refl, ap, ◌∙◌, subst}
use Rattle.std.specs.Prelude.{◌&&◌, ◌||◌, ◌==◌, Result, Ok, Err, nat_le, unwrap_or}
use Rattle.std.specs.Result.{IsErrAnd}
use Rattle.cf_base.specs.declared.codes.CallError.{CallError}
use Rattle.cf_base.specs.declared.codes.CallError.TheVariants.{OutOfMemory}
use Rattle.cf_engine_passes.specs.Syncs.{one_pass, unless_last}
use Rattle.cf_engine_steps.specs.Answering.{Answers, Any, Reads, Whole}
use Rattle.cf_engine_steps.specs.States.{Means, Own, whole, with_took_done}
use Rattle.cf_engine_steps.proofs.Laws.{fails_first, goes_any, reads_on, returned, same_as, then_both, with_err}
use Rattle.cf_engine_steps.proofs.Noted.{no_memory, noted_undone}
use Rattle.cf_filter_steps.specs.Answering as steps
use Rattle.cf_model.specs.Arrows.{Arrow, choose, noted, seq, unit}
use Rattle.cf_model.specs.Calls.{count_now}
use Rattle.cf_model.specs.Messages.{is_inline}
use Rattle.cf_model.specs.Numbers.{most}
use Rattle.cf_model.specs.Passes.{is_last, pass, pass_anew, passes, sync_passes, things, without_done}
use Rattle.cf_model.specs.State.{State}
use Rattle.cf_model.specs.Trees.{Asked, Fork, Ret, Step, Tree, bind}
use Rattle.cf_model.proofs.TreeLaws.{ends_then}
use Rattle.cf_remote.specs.Told.{Told}

-- trees one after the other, in either grouping
bind_both : {S A B C : Type 0} (p : Tree S A) (f : A → S → Tree S B) (g : B → S → Tree S C) → bind (bind p f) g ≡ bind p (λ a s. bind (f a s) g)
bind_both (Ret a s) f g = refl
bind_both (Step s p) f g = ap (Step s) (bind_both p f g)
bind_both (Fork p q) f g = λ j. Fork (bind_both p f g j) (bind_both q f g j)
bind_both (Asked k) f g = λ j. Asked (λ x. bind_both (k x) f g j)

left_after : (fuel l made : ℕ) (b : Bool) (t : State) → unless_last fuel l made b t ≡ elim b as (λ _. Tree State (Unit {0})) [ true ↦ Ret unit t | false ↦ passes fuel l (made + 1) t ]
left_after fuel l made true t = refl
left_after fuel l made false t = refl

pub passes_are : (fuel l made : ℕ) (s : State) → seq (one_pass l made) (unless_last fuel l made) s ≡ passes (suc fuel) l made s
passes_are fuel l made s =
    bind_both (pass_anew s) (λ u t. Ret (is_last l made s t) t) (unless_last fuel l made)
    ∙ (λ j. bind (pass_anew s) (λ u t. left_after fuel l made (is_last l made s t) t j))

-- one pass

abbrev judge : ℕ → ℕ → State → Arrow State Bool
judge l made before t = Ret (is_last l made before t) t

module _ {X : Type 0} (W : Whole X) (l made : ℕ) (x y : X) where
  pub judged : (u : Unit {0}) (b : Bool) → ((s t : State) → W.means x s → W.means y t → b ≡ is_last l made s t) → Answers W Any pass_anew x (Ok u) y → Answers W Any (one_pass l made) x (Ok b) y
  judged u b is h = record { leads = λ s i p. let d = h.leads s i p in (d.0, ends_then (pass_anew s) (λ _. judge l made s) u d.0 b d.0 d.1 (is s d.0 i d.3.0, refl), d.2, d.3) }

  pub not_judged : (u : Unit {0}) (r : Result Bool CallError) → IsErrAnd r (λ q. q ≡ OutOfMemory) → Answers W Any pass_anew x (Ok u) y → Answers W Any (one_pass l made) x r y
  not_judged u r is h = with_err W Any (one_pass l made) x y OutOfMemory r is (record {
    leads = λ s i p.
        (goes_any W Any pass_anew (λ _. judge l made s) x y y u (Err OutOfMemory) h (no_memory W Any (judge l made s) y)).leads s i p;
  })

  pub not_passed : (q : CallError) (r : Result Bool CallError) → IsErrAnd r (λ z. z ≡ q) → Answers W Any pass_anew x (Err q) y → Answers W Any (one_pass l made) x r y
  not_passed q r is h = with_err W Any (one_pass l made) x y q r is (record { leads = λ s i p. (fails_first W Any pass_anew (λ _. judge l made s) x y q h).leads s i p })

-- whether it was the last
pub last_by : {X R : Type 0} (S : steps.Sense X) (told : R → Told) (x y : X) (e f : Own R) (l made began ended : ℕ) (b : Bool) → steps.Reads S steps.Any count_now x began → steps.Reads S steps.Any count_now y ended
    → b ≡ (((began == ended) && not f.took_done) || nat_le (16 * (l + min 100000 (unwrap_or f.first_clock 0) + 4)) (made + 1)) → (s t : State) → Means S told x e s → Means S told y f t → b ≡ is_last l made s t
last_by S told x y e f l made began ended b first then is s t i k =
    is ∙ (λ j. ((first.is s.filter i.filter (record {}) j == then.is t.filter k.filter (record {}) j) && not (k.took_done j)) || nat_le (16 * (l + min 100000 (unwrap_or (k.first_clock j) 0) + 4)) (made + 1))

-- all passes

module _ {X : Type 0} (W : Whole X) (fuel l made : ℕ) (x y : X) (b : Bool) (h : Answers W Any (one_pass l made) x (Ok b) y) where
  pub last : b ≡ true → Answers W Any (passes (suc fuel) l made) x (Ok unit) y
  last is = same_as W Any (seq (one_pass l made) (unless_last fuel l made)) (passes (suc fuel) l made) x y (Ok unit) (passes_are fuel l made)
      (goes_any W Any (one_pass l made) (unless_last fuel l made) x y y true (Ok unit) (subst (λ (c : Bool). Answers W Any (one_pass l made) x (Ok c) y) is h) (returned W Any unit y))

  pub more : (z : X) (r : Result (Unit {0}) CallError) → b ≡ false → Answers W Any (passes fuel l (made + 1)) y r z → Answers W Any (passes (suc fuel) l made) x r z
  more z r is k = same_as W Any (seq (one_pass l made) (unless_last fuel l made)) (passes (suc fuel) l made) x z r (passes_are fuel l made)
      (goes_any W Any (one_pass l made) (unless_last fuel l made) x y z false r (subst (λ (c : Bool). Answers W Any (one_pass l made) x (Ok c) y) is h) k)

module _ {X : Type 0} (W : Whole X) (fuel l made : ℕ) (x : X) where
  pub fails : (z : X) (q : CallError) (r : Result (Unit {0}) CallError) → IsErrAnd r (λ p. p ≡ q) → Answers W Any (one_pass l made) x (Err q) z → Answers W Any (passes (suc fuel) l made) x r z
  fails z q r is k = with_err W Any (passes (suc fuel) l made) x z q r is
      (same_as W Any (seq (one_pass l made) (unless_last fuel l made)) (passes (suc fuel) l made) x z (Err q) (passes_are fuel l made) (fails_first W Any (one_pass l made) (unless_last fuel l made) x z q k))

module _ {X : Type 0} (W : Whole X) (l : ℕ) (first : X) where
  -- what the passes that are left answer all answer
  abbrev pub Rest : ℕ → X → Type 0
  Rest made x = (fuel : ℕ) (r : Result (Unit {0}) CallError) (z : X) → fuel + made ≡ most → Answers W Any (passes fuel l made) x r z → Answers W Any (passes most l 0) first r z

  pub all_left : Rest 0 first
  all_left fuel r z e h = let same : fuel ≡ most = omega (arith, e) in subst (λ (n : ℕ). Answers W Any (passes n l 0) first r z) same h

  module _ (made : ℕ) (x : X) (rest : Rest made x) where
    pub none_left : made ≡ most → Answers W Any (passes most l 0) first (Ok unit) x
    none_left e = rest 0 (Ok unit) x (omega (arith, e)) (returned W Any unit x)

    pub goes_out : (y : X) (q : CallError) (r : Result (Unit {0}) CallError) → made < most → IsErrAnd r (λ p. p ≡ q) → Answers W Any (one_pass l made) x (Err q) y → Answers W Any (passes most l 0) first r y
    goes_out y q r small is h = rest (suc (most - (made + 1))) r y (omega (arith, small)) (fails W (most - (made + 1)) l made x y q r is h)

    module _ (y : X) (b : Bool) (h : Answers W Any (one_pass l made) x (Ok b) y) where
      pub was_last : made < most → b ≡ true → Answers W Any (passes most l 0) first (Ok unit) y
      was_last small is = rest (suc (most - (made + 1))) (Ok unit) y (omega (arith, small)) (last W (most - (made + 1)) l made x y b h is)

      pub goes_on : b ≡ false → Rest (made + 1) y
      goes_on is fuel r z e k = rest (suc fuel) r z (omega (arith, e)) (more W fuel l made x y b h z r is k)

-- under either link

abbrev by_link : Bool → Arrow State (Unit {0})
by_link inline s = choose inline (passes most (things s) 0) pass s

module _ {X R : Type 0} (S : steps.Sense X) (told : R → Told) (x y : X) (e f : Own R) (r : Result (Unit {0}) CallError) (b : Bool) (reads : Reads (whole S told) Any is_inline (x, e) b) where
  link_is : (c : Bool) → b ≡ c → Reads (whole S told) Any is_inline (x, e) c
  link_is c is = subst (λ (d : Bool). Reads (whole S told) Any is_inline (x, e) d) is reads

  pub queued : b ≡ false → Answers (whole S told) Any pass (x, e) r (y, f) → Answers (whole S told) Any sync_passes (x, e) r (y, f)
  queued is h = reads_on (whole S told) Any is_inline by_link (x, e) (y, f) false r (link_is false is) h

  pub at_once : (l : ℕ) → b ≡ true → Reads (whole S told) Any things (x, e) l → Answers (whole S told) Any (passes most l 0) (x, e) r (y, f) → Answers (whole S told) Any sync_passes (x, e) r (y, f)
  at_once l is all h = reads_on (whole S told) Any is_inline by_link (x, e) (y, f) true r (link_is true is) (reads_on (whole S told) Any things (λ n. passes most n 0) (x, e) (y, f) l r all h)

-- a pass of which it is known whether a Done was taken in it
pub anew : {X R : Type 0} (S : steps.Sense X) (told : R → Told) (x y : X) (e d f : Own R) (r : Result (Unit {0}) CallError) → d ≡ with_took_done false e → Answers (whole S told) Any pass (x, d) r (y, f) → Answers (whole S told) Any pass_anew (x, e) r (y, f)
anew S told x y e d f r is h = then_both (whole S told) (noted without_done) pass x x y e d f unit r (noted_undone S told Any x e d is) h
