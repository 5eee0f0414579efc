-- A reply that is handed to the engine, as a part of the whole.
use Rattle.std.proofs.Common.{◌≡◌, Bool, true, false, sym, subst}
use Rattle.std.specs.Prelude.{Result, Ok, ℕ}
use Rattle.cf_base.specs.declared.answers.Shown.{Shown}
use Rattle.cf_base.specs.declared.answers.Shown.TheVariants as shown
use Rattle.cf_base.specs.declared.codes.CallError.{CallError}
use Rattle.cf_base.specs.declared.codes.Code.TheVariants as code
use Rattle.cf_base.specs.declared.messages.Reply.{Reply}
use Rattle.cf_engine_passes.specs.Deliveries.{delivered, unless_stale}
use Rattle.cf_engine_steps.specs.Answering.{After, Answers, Any, Whole}
use Rattle.cf_engine_steps.specs.States.{Own, whole}
use Rattle.cf_engine_steps.proofs.Laws.{returned}
use Rattle.cf_filter_steps.specs.Answering as steps
use Rattle.cf_link.specs.Linked.{Delivers, IsLink, Linked}
use Rattle.cf_link.specs.declared.replies.Replied.{Replied}
use Rattle.cf_model.specs.Arrows.{Arrow}
use Rattle.cf_model.specs.Passes.{deliver_now, deliver_unless}
use Rattle.cf_model.specs.State.{State}
use Rattle.cf_model.specs.Trees.{Does, Tree}
use Rattle.cf_remote.specs.Told.{Told}

-- the same tree in each state that it stands for
same_there : {X A : Type 0} (W : Whole X) (f g : Arrow State A) (x y : X) (r : Result A CallError) → ((s : State) → W.means x s → g s ≡ f s) → Answers W Any f x r y → Answers W Any g x r y
same_there W f g x y r same h = record {
  leads = λ s i any. subst (λ (p : Tree State _). (t : State) × Does p r t × W.moved x y s t × After W x r y s t) (sym (same s i)) (h.leads s i any);
}

module _ {X : Type 0} (W : Whole X) (r : Reply) (x : X) where
  pub fresh : (y : X) (b : Bool) (a : Result Shown CallError) → b ≡ false → Answers W Any (delivered r) x a y → Answers W Any (deliver_unless r b) x a y
  fresh y b a is h = subst (λ (c : Bool). Answers W Any (deliver_unless r c) x a y) (sym is) h

  pub stale : (b : Bool) → b ≡ true → Answers W Any (deliver_unless r b) x (Ok (shown.Refused code.Stale)) x
  stale b is = subst (λ (c : Bool). Answers W Any (deliver_unless r c) x (Ok (shown.Refused code.Stale)) x) (sym is) (returned W Any (shown.Refused code.Stale) x)

module _ {X R : Type 0} (S : steps.Sense X) (told : R → Told) (m : ℕ) (x : X) (e : Own R) (l : Linked R) (o : Result Replied CallError) (h : (s : State) → IsLink told l s.link → Delivers m s o) (same : l ≡ e.agent.link) where
  known : (p : Result Replied CallError) → o ≡ p → (s : State) → IsLink told e.agent.link s.link → Delivers m s p
  known p is s i = subst (Delivers m s) is (h s (subst (λ (k : Linked R). IsLink told k s.link) (sym same) i))

  pub kept : (d : Replied) (y : X) (f : Own R) (r : Result Shown CallError) → o ≡ Ok d → Answers (whole S told) Any (unless_stale d.request d.reply) (x, e) r (y, f) → Answers (whole S told) Any (deliver_now m) (x, e) r (y, f)
  kept d y f r is k = same_there (whole S told) (unless_stale d.request d.reply) (deliver_now m) (x, e) (y, f) r (λ s i. known (Ok d) is s i.sees.link) k
