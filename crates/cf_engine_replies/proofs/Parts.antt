-- Parts of a reply, one after the other, in the form in which the code comes to them.
use Rattle.std.proofs.Common.{◌≡◌, Bool, sym, subst}
use Rattle.std.specs.Prelude.{Result, Ok, Err}
use Rattle.std.specs.Result.{IsErrAnd}
use Rattle.cf_base.specs.declared.codes.CallError.{CallError}
use Rattle.cf_base.specs.declared.codes.CallError.TheVariants.{OutOfMemory}
use Rattle.cf_engine_steps.specs.Answering.{Answers, Any, Reads, Whole}
use Rattle.cf_engine_steps.proofs.Laws.{fails_first, goes_any, reads_on, returned, stops_first, with_err}
use Rattle.cf_engine_steps.proofs.Noted.{no_memory}
use Rattle.cf_model.specs.Arrows.{Arrow, reading, seq, then_do, unit}
use Rattle.cf_model.specs.PushReplies.{whatever}
use Rattle.cf_model.specs.State.{State}

-- at an exit by `?`
pub stops_by : {X A B : Type 0} (W : Whole X) (f : Arrow State A) (g : Arrow State B) (old new : X) (q : CallError) (r : Result B CallError) → IsErrAnd r (λ y. y ≡ q) → Answers W Any f old (Err q) new → Answers W Any (then_do f g) old r new
stops_by W f g old new q r is h = with_err W Any (then_do f g) old new q r is (stops_first W Any f g old new q h)

pub fails_by : {X A B : Type 0} (W : Whole X) (f : Arrow State A) (g : A → Arrow State B) (old new : X) (q : CallError) (r : Result B CallError) → IsErrAnd r (λ y. y ≡ q) → Answers W Any f old (Err q) new → Answers W Any (seq f g) old r new
fails_by W f g old new q r is h = with_err W Any (seq f g) old new q r is (fails_first W Any f g old new q h)

-- whether it was done is of no matter
pub whatever_done : {X : Type 0} (W : Whole X) (P : State → Type 0) (f : Arrow State Bool) (old new : X) (b : Bool) → Answers W P f old (Ok b) new → Answers W P (seq f whatever) old (Ok unit) new
whatever_done W P f old new b h = goes_any W P f whatever old new new b (Ok unit) h (returned W Any unit new)

-- what is read is this value
pub reads_as : {X A V : Type 0} (W : Whole X) (v : State → V) (h : V → Arrow State A) (old new : X) (x y : V) (r : Result A CallError) → x ≡ y → Reads W Any v old x → Answers W Any (h y) old r new → Answers W Any (reading v h) old r new
reads_as W v h old new x y r same e k = reads_on W Any v h old new x r e (subst (λ (z : _). Answers W Any (h z) old r new) (sym same) k)

-- by a value that is known
pub by_known : {X A V : Type 0} (W : Whole X) (h : V → Arrow State A) (old new : X) (x y : V) (r : Result A CallError) → x ≡ y → Answers W Any (h y) old r new → Answers W Any (h x) old r new
by_known W h old new x y r same k = subst (λ (z : _). Answers W Any (h z) old r new) (sym same) k

-- without memory for what the engine has of its own
pub unchanged : {X Y A : Type 0} (W : Whole (X × Y)) (P : State → Type 0) (f : Arrow State A) (x : X) (e d : Y) → d ≡ e → Answers W P f (x, e) (Err OutOfMemory) (x, d)
unchanged W P f x e d same = subst (λ (z : _). Answers W P f (x, e) (Err OutOfMemory) (x, z)) (sym same) (no_memory W P f (x, e))
