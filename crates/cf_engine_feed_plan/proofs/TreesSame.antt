-- Parts joined in another way are the same part.
use Rattle.std.proofs.Common.{◌≡◌, Bool, true, false, List, [], ◌∷◌, refl, sym, ◌∙◌, inl, inr}
use Rattle.std.specs.Prelude.{◌++◌}
use Rattle.cf_model.specs.Arrows.{Arrow, and_then, ret, when_ok}
use Rattle.cf_model.specs.State.{State}
use Rattle.cf_model.specs.Trees.{Asked, Ends, Fork, Ret, Step, Tree, bind}
use Rattle.cf_engine_feed_plan.specs.Turns.{do_step, do_steps}
use Rattle.cf_engine_feed_plan.specs.declared.entry_steps.Step as declared

-- two ways to go on that agree wherever the first part ends
pub bind_same : {S A B : Type 0} (p : Tree S A) (g h : A → S → Tree S B) → ((a : A) (t : S) → Ends p a t → g a t ≡ h a t) → bind p g ≡ bind p h
bind_same (Ret a s) g h e = e a s (refl, refl)
bind_same (Step s p) g h e = λ k. Step s (bind_same p g h e k)
bind_same (Fork p q) g h e = λ k. Fork (bind_same p g h (λ a t i. e a t (inl i)) k) (bind_same q g h (λ a t i. e a t (inr i)) k)
bind_same (Asked f) g h e = λ k. Asked (λ x. bind_same (f x) g h (λ a t i. e a t (x, i)) k)

pub bind_bind : {S A B C : Type 0} (p : Tree S A) (f : A → S → Tree S B) (g : B → S → Tree S C) → bind (bind p f) g ≡ bind p (λ a t. bind (f a t) g)
bind_bind (Ret a s) f g = refl
bind_bind (Step s p) f g = λ k. Step s (bind_bind p f g k)
bind_bind (Fork p q) f g = λ k. Fork (bind_bind p f g k) (bind_bind q f g k)
bind_bind (Asked h) f g = λ k. Asked (λ x. bind_bind (h x) f g k)

pub bind_done : {S : Type 0} (p : Tree S Bool) → bind p (when_ok false (ret true)) ≡ p
bind_done (Ret true s) = refl
bind_done (Ret false s) = refl
bind_done (Step s p) = λ k. Step s (bind_done p k)
bind_done (Fork p q) = λ k. Fork (bind_done p k) (bind_done q k)
bind_done (Asked f) = λ k. Asked (λ x. bind_done (f x) k)

-- after a part that was done
pub and_same : (f g h : Arrow State Bool) (s : State) → ((t : State) → Ends (f s) true t → g t ≡ h t) → and_then f g s ≡ and_then f h s
and_same f g h s e = bind_same (f s) (when_ok false g) (when_ok false h) two where
  two : (a : Bool) (t : State) → Ends (f s) a t → when_ok false g a t ≡ when_ok false h a t
  two true t i = e t i
  two false t i = refl

pub and_and : (f g h : Arrow State Bool) (s : State) → and_then (and_then f g) h s ≡ and_then f (and_then g h) s
and_and f g h s = bind_bind (f s) (when_ok false g) (when_ok false h) ∙ bind_same (f s) (λ a t. bind (when_ok false g a t) (when_ok false h)) (when_ok false (and_then g h)) two where
  two : (a : Bool) (t : State) → Ends (f s) a t → bind (when_ok false g a t) (when_ok false h) ≡ when_ok false (and_then g h) a t
  two true t i = refl
  two false t i = refl

pub last_step : (x : declared.Step) (s : State) → do_steps (x ∷ []) s ≡ do_step x s
last_step x s = bind_done (do_step x s)

pub steps_append : (xs ys : List declared.Step) (s : State) → do_steps (xs ++ ys) s ≡ and_then (do_steps xs) (do_steps ys) s
steps_append [] ys s = refl
steps_append (x ∷ xs) ys s =
    and_same (do_step x) (do_steps (xs ++ ys)) (and_then (do_steps xs) (do_steps ys)) s (λ t i. steps_append xs ys t)
    ∙ sym (and_and (do_step x) (do_steps xs) (do_steps ys) s)

-- three steps
pub three_steps : (x y z : declared.Step) (s : State) → do_steps (x ∷ y ∷ z ∷ []) s ≡ and_then (do_step x) (and_then (do_step y) (do_step z)) s
three_steps x y z s =
    and_same (do_step x) (do_steps (y ∷ z ∷ [])) (and_then (do_step y) (do_step z)) s
    (λ t i. and_same (do_step y) (do_steps (z ∷ [])) (do_step z) t (λ u j. last_step z u))
