-- Parts of an event on the whole state, one after the other.
use Rattle.std.proofs.Common.{◌≡◌, Bool, true, false, refl, sym, ◌∙◌, ap, subst}
use Rattle.std.proofs.lemmas.Result.{err_from_is_err_and}
use Rattle.std.specs.Prelude.{Result, Ok, Err}
use Rattle.std.specs.Result.{IsErrAnd}
use Rattle.cf_base.specs.declared.codes.CallError.{CallError}
use Rattle.cf_base.specs.declared.codes.CallError.TheVariants.{No, OutOfMemory}
use Rattle.cf_engine_steps.specs.Answering.{After, Answers, Any, Reads, Whole}
use Rattle.cf_model.specs.Arrows.{Arrow, reading, ret, seq, then_do, when_ok}
use Rattle.cf_model.specs.State.{State}
use Rattle.cf_model.specs.Trees.{Does, Ends}
use Rattle.cf_model.proofs.TreeLaws as trees

pub returned : {X A : Type 0} (W : Whole X) (P : State → Type 0) (a : A) (x : X) → Answers W P (ret a) x (Ok a) x
returned W P a x = record { leads = λ s h p. (s, (refl, refl), W.stays x s h, (h, W.counts_none x s)) }

after_err : {X : Type 0} (A B : Type 0) (W : Whole X) (e : CallError) (x y : X) (s t : State) → After {A = A} W x (Err e) y s t → After {A = B} W x (Err e) y s t
after_err A B W (No c) x y s t h = h
after_err A B W OutOfMemory x y s t h = h

-- seen from further back
pub after_on : {X A : Type 0} (W : Whole X) (x y z : X) (s t u : State) (r : Result A CallError) → W.moved x y s t → W.counted x y s t → After W y r z t u → After W x r z s u
after_on W x y z s t u (Ok a) m c h = (h.0, W.counts_on x y z s t u c h.1)
after_on W x y z s t u (Err (No e)) m c h = (W.stops_on x y z s t u m h.0, W.counts_on x y z s t u c h.1)
after_on W x y z s t u (Err OutOfMemory) m c h = h

pub fails_first : {X A B : Type 0} (W : Whole X) (P : State → Type 0) (f : Arrow State A) (g : A → Arrow State B) (old new : X) (e : CallError)
    → Answers W P f old (Err e) new → Answers W P (seq f g) old (Err e) new
fails_first {X} {A} {B} W P f g old new e h = record { leads = λ s i p. let x = h.leads s i p in (x.0, trees.fails_first (f s) g e x.0 x.1, x.2, after_err A B W e old new s x.0 x.3) }

pub goes_on : {X A B : Type 0} (W : Whole X) (P Q : State → Type 0) (f : Arrow State A) (g : A → Arrow State B) (old mid new : X) (a : A) (r : Result B CallError)
    → ((s t : State) → P s → Ends (f s) a t → Q t) → Answers W P f old (Ok a) mid → Answers W Q (g a) mid r new → Answers W P (seq f g) old r new
goes_on W P Q f g old mid new a r q h k = record {
  leads = λ s i p.
      let x = h.leads s i p in let y = k.leads x.0 x.3.0 (q s x.0 p x.1) in
      (y.0, trees.goes_on (f s) g a x.0 r y.0 x.1 y.1, W.goes_on old mid new s x.0 y.0 x.2 y.2, after_on W old mid new s x.0 y.0 r x.2 x.3.1 y.3);
}

-- where nothing is to be known in between: what a search finds
pub goes_any : {X A B : Type 0} (W : Whole X) (P : State → Type 0) (f : Arrow State A) (g : A → Arrow State B) (old mid new : X) (a : A) (r : Result B CallError)
    → Answers W P f old (Ok a) mid → Answers W Any (g a) mid r new → Answers W P (seq f g) old r new
goes_any W P f g old mid new a r h k = goes_on W P Any f g old mid new a r (λ s t p e. record {}) h k

pub reads_on : {X A V : Type 0} (W : Whole X) (P : State → Type 0) (v : State → V) (h : V → Arrow State A) (old new : X) (x : V) (r : Result A CallError)
    → Reads W P v old x → Answers W P (h x) old r new → Answers W P (reading v h) old r new
reads_on W P v h old new x r e k = record {
  leads = λ s i p.
      subst (λ (y : _). (t : State) × Does (h y s) r t × W.moved old new s t × After W old r new s t) (e.is s i p) (k.leads s i p);
}

-- under a stronger property
pub weaker : {X A : Type 0} (W : Whole X) (P Q : State → Type 0) (f : Arrow State A) (old new : X) (r : Result A CallError) → ((s : State) → Q s → P s) → Answers W P f old r new → Answers W Q f old r new
weaker W P Q f old new r w h = record { leads = λ s i q. h.leads s i (w s q) }

-- what is known of each state that it stands for
pub known : {X A : Type 0} (W : Whole X) (P : State → Type 0) (f : Arrow State A) (old new : X) (r : Result A CallError) → ((s : State) → W.means old s → P s) → Answers W P f old r new → Answers W Any f old r new
known W P f old new r w h = record { leads = λ s i p. h.leads s i (w s i) }

pub stops_first : {X A B : Type 0} (W : Whole X) (P : State → Type 0) (f : Arrow State A) (g : Arrow State B) (old new : X) (e : CallError)
    → Answers W P f old (Err e) new → Answers W P (then_do f g) old (Err e) new
stops_first W P f g old new e h = fails_first W P f (λ _. g) old new e h

pub then_on : {X A B : Type 0} (W : Whole X) (P Q : State → Type 0) (f : Arrow State A) (g : Arrow State B) (old mid new : X) (a : A) (r : Result B CallError)
    → ((s t : State) → P s → Ends (f s) a t → Q t) → Answers W P f old (Ok a) mid → Answers W Q g mid r new → Answers W P (then_do f g) old r new
then_on W P Q f g old mid new a r q h k = goes_on W P Q f (λ _. g) old mid new a r q h k

-- after a step that was done, and after one that was not
pub ok_on : {X A : Type 0} (W : Whole X) (P : State → Type 0) (f : Arrow State Bool) (v : A) (g : Arrow State A) (old mid new : X) (a : Bool) (r : Result A CallError)
    → Answers W P f old (Ok a) mid → a ≡ true → Answers W Any g mid r new → Answers W P (seq f (when_ok v g)) old r new
ok_on W P f v g old mid new true r h e k = goes_any W P f (when_ok v g) old mid new true r h k
ok_on W P f v g old mid new false r h e k = let z : false ≡ true = e in cc

pub ok_off : {X A : Type 0} (W : Whole X) (P : State → Type 0) (f : Arrow State Bool) (v : A) (g : Arrow State A) (old mid : X) (a : Bool)
    → Answers W P f old (Ok a) mid → a ≡ false → Answers W P (seq f (when_ok v g)) old (Ok v) mid
ok_off W P f v g old mid false h e = goes_any W P f (when_ok v g) old mid mid false (Ok v) h (returned W Any v mid)
ok_off W P f v g old mid true h e = let z : true ≡ false = e in cc

-- the same tree by another name
pub same_as : {X A : Type 0} (W : Whole X) (P : State → Type 0) (f g : Arrow State A) (old new : X) (r : Result A CallError)
    → ((s : State) → f s ≡ g s) → Answers W P f old r new → Answers W P g old r new
same_as W P f g old new r same h = record {
  leads = λ s i p.
      subst (λ (q : _). (t : State) × Does q r t × W.moved old new s t × After W old r new s t) (same s) (h.leads s i p);
}

-- at an exit by `?`
pub with_err : {X A : Type 0} (W : Whole X) (P : State → Type 0) (f : Arrow State A) (old new : X) (e : CallError) (r : Result A CallError) → IsErrAnd r (λ y. y ≡ e) → Answers W P f old (Err e) new → Answers W P f old r new
with_err {X} {A} W P f old new e r is h = let p = err_from_is_err_and r is in subst (λ (q : Result A CallError). Answers W P f old q new) (sym (p.1 ∙ ap (λ (z : CallError). Err z) p.2)) h

-- the same where nothing is to be known in between
pub then_any : {X A B : Type 0} (W : Whole X) (P : State → Type 0) (f : Arrow State A) (g : Arrow State B) (old mid new : X) (a : A) (r : Result B CallError)
    → Answers W P f old (Ok a) mid → Answers W Any g mid r new → Answers W P (then_do f g) old r new
then_any W P f g old mid new a r h k = goes_any W P f (λ _. g) old mid new a r h k

-- the same for what a filter and an engine's own part stand for, in the form that a search finds
pub then_both : {X Y A B : Type 0} (W : Whole (X × Y)) (f : Arrow State A) (g : Arrow State B) (x y z : X) (d e h : Y) (a : A) (r : Result B CallError)
    → Answers W Any f (x, d) (Ok a) (y, e) → Answers W Any g (y, e) r (z, h) → Answers W Any (then_do f g) (x, d) r (z, h)
then_both W f g x y z d e h a r k l = then_any W Any f g (x, d) (y, e) (z, h) a r k l

pub ok_both : {X Y A : Type 0} (W : Whole (X × Y)) (f : Arrow State Bool) (v : A) (g : Arrow State A) (x y z : X) (d e h : Y) (a : Bool) (r : Result A CallError)
    → Answers W Any f (x, d) (Ok a) (y, e) → a ≡ true → Answers W Any g (y, e) r (z, h) → Answers W Any (seq f (when_ok v g)) (x, d) r (z, h)
ok_both W f v g x y z d e h a r k is l = ok_on W Any f v g (x, d) (y, e) (z, h) a r k is l
