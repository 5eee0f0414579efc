-- How an event may come to its answer, and the event at a place of a report.
use Rattle.std.proofs.Common.{◌≡◌, ◌⊎◌, ℕ, ◌∷◌, refl, subst, inl, inr}
use Rattle.std.specs.Prelude.{Option, Some, None}
use Rattle.cf_base.specs.declared.answers.Answer.{Answer}
use Rattle.cf_base.specs.declared.answers.Shown.{Shown}
use Rattle.cf_base.specs.declared.answers.Shown.TheVariants as shown
use Rattle.cf_base.specs.declared.codes.Code.{Code}
use Rattle.cf_base.specs.declared.codes.Code.TheVariants as code
use Rattle.cf_base.specs.declared.events.Event.{Event}
use Rattle.cf_base.specs.declared.policies.Mode.{Mode}
use Rattle.cf_model.specs.Events.{answer_in, answered, broken, choices_in, may_stop, needs_volume, no_volume, outcome, refusal, tree_of}
use Rattle.cf_model.specs.Lawful.{IsStep, Runs}
use Rattle.cf_model.specs.State.{State, start}
use Rattle.cf_model.specs.Store.{Held}
use Rattle.cf_model.specs.Trees.{Asked, Ends, Fork, Ret, Step, Stops, Tree, play}
use Rattle.cf_model.proofs.TraceLaws.{runs_split}
use Rattle.cf_model_laws.proofs.Leading.{Ended, Leads, led}
use Rattle.cf_model_headline.specs.Reports.{IsAnswered, Report}

leads_more : {S A : Type 0} (I J : S → Type 0) (Q R : A → S → Type 0) (p : Tree S A) → ((s : S) → I s → J s) → ((a : A) (s : S) → Q a s → R a s) → Leads I Q p → Leads J R p
leads_more I J Q R (Ret a s) i k h = k a s h
leads_more I J Q R (Step s p) i k h = (i s h.0, leads_more I J Q R p i k h.1)
leads_more I J Q R (Fork p q) i k h = (leads_more I J Q R p i k h.0, leads_more I J Q R q i k h.1)
leads_more I J Q R (Asked g) i k h = λ x. leads_more I J Q R (g x) i k (h x)

-- a tree leads to where it stops and to where it ends
leads_itself : {S A : Type 0} (p : Tree S A) → Leads (Stops p) (Ends p) p
leads_itself (Ret a s) = (refl, refl)
leads_itself (Step s p) = (inl refl, leads_more (Stops p) (Stops (Step s p)) (Ends p) (Ends (Step s p)) p (λ t h. inr h) (λ a t h. h) (leads_itself p))
leads_itself (Fork p q) = (
  leads_more (Stops p) (Stops (Fork p q)) (Ends p) (Ends (Fork p q)) p (λ t h. inl h) (λ a t h. inl h) (leads_itself p),
  leads_more (Stops q) (Stops (Fork p q)) (Ends q) (Ends (Fork p q)) q (λ t h. inr h) (λ a t h. inr h) (leads_itself q),
)
leads_itself (Asked g) = λ x. leads_more (Stops (g x)) (Stops (Asked g)) (Ends (g x)) (Ends (Asked g)) (g x) (λ t h. (x, h)) (λ a t h. (x, h)) (leads_itself (g x))

-- it ended with this result, or the device stopped it
abbrev pub IsOver : State → Event → State × Answer → Type 0
IsOver s e x = ((r : Shown) × Ends (tree_of e s) r x.0 × (x.1 ≡ answer_in r x.0)) ⊎ ((u : State) × Stops (tree_of e s) u × (x.0 ≡ broken u) × (x.1 ≡ answer_in (shown.Refused code.Device) u))

-- or it was refused before all else
abbrev pub IsCase : State → Event → State × Answer → Type 0
IsCase s e x = ((c : Code) × (no_volume (needs_volume e) s.power ≡ Some c) × (x.0 ≡ s) × (x.1 ≡ refusal c)) ⊎ ((no_volume (needs_volume e) s.power ≡ None) × IsOver s e x)

over_case : (s : State) (e : Event) (x : Option Shown × State) → Ended (Stops (tree_of e s)) (Ends (tree_of e s)) x → IsOver s e (outcome x)
over_case s e (Some r, t) h = inl (r, h, refl)
over_case s e (None, t) h = inr (t, h, refl, refl)

pub step_case : (m : Mode) (s : State) (e : Event) (a : Answer) (t : State) → IsStep m s e a t → IsCase s e (t, a)
step_case m s e a t is = subst (IsCase s e) is.2 (by (no_volume (needs_volume e) s.power) refl) where
  by : (why : Option Code) → no_volume (needs_volume e) s.power ≡ why → IsCase s e (answered why is.1 s e)
  by (Some c) z = inl (c, z, refl, refl)
  by None z = inr (z, over_case s e (play (choices_in (may_stop e) is.1) (tree_of e s)) (led (Stops (tree_of e s)) (Ends (tree_of e s)) (choices_in (may_stop e) is.1) (tree_of e s) (leads_itself (tree_of e s))))

-- the event of a run at a place of its report
pub record Moment (m : Mode) (remote : Held) (clusters : ℕ) (before : Report) (e : Event) (a : Answer) (rest : Report) (last : State) : Type 0 where
  pub old : State
  pub new : State
  pub runs : Runs m (start m remote clusters) before old
  pub step : IsStep m old e a new
  pub on : Runs m new rest last

pub moment : (m : Mode) (remote : Held) (clusters : ℕ) (report : Report) (last : State) (before : Report) (e : Event) (a : Answer) → Runs m (start m remote clusters) report last → (is : IsAnswered report before e a) → Moment m remote clusters before e a is.0 last
moment m remote clusters report last before e a runs is =
    let x = runs_split m (start m remote clusters) last before ((e, a) ∷ is.0) (subst (λ (r : Report). Runs m (start m remote clusters) r last) is.1 runs) in
    record { old = x.0; new = x.2.0; runs = x.1; step = x.2.1; on = x.2.2 }
