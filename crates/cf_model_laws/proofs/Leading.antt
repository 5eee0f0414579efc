-- What holds of the states and results of a tree.
use Rattle.std.proofs.Common.{ℕ, zero, suc, Bool, true, false, List, [], ◌∷◌}
use Rattle.std.specs.Prelude.{Option, Some, None}
use Rattle.cf_model.specs.Trees.{AsItKeeps, Asked, Choices, Fork, Keeps, Ret, Step, Telling, Tree, bind, mapped, play, walk}

-- each state that a stop leaves has the one property, each result with its state the other
abbrev pub Leads : {S A : Type 0} → (S → Type 0) → (A → S → Type 0) → Tree S A → Type 0
Leads I Q (Ret a s) = Q a s
Leads I Q (Step s p) = I s × Leads I Q p
Leads I Q (Fork p q) = Leads I Q p × Leads I Q q
Leads I Q (Asked k) = (x : Telling) → Leads I Q (k x)

pub leads_bind : {S A B : Type 0} (I : S → Type 0) (R : A → S → Type 0) (Q : B → S → Type 0) (p : Tree S A) (g : A → S → Tree S B)
    → Leads I R p → ((a : A) (s : S) → R a s → Leads I Q (g a s)) → Leads I Q (bind p g)
leads_bind I R Q (Ret a s) g h k = k a s h
leads_bind I R Q (Step s p) g h k = (h.0, leads_bind I R Q p g h.1 k)
leads_bind I R Q (Fork p q) g h k = (leads_bind I R Q p g h.0 k, leads_bind I R Q q g h.1 k)
leads_bind I R Q (Asked f) g h k = λ x. leads_bind I R Q (f x) g (h x) k

pub leads_mapped : {S T A : Type 0} (I : S → Type 0) (Q : A → S → Type 0) (J : T → Type 0) (R : A → T → Type 0) (f : S → T) (p : Tree S A)
    → ((s : S) → I s → J (f s)) → ((a : A) (s : S) → Q a s → R a (f s)) → Leads I Q p → Leads J R (mapped f p)
leads_mapped I Q J R f (Ret a s) i k h = k a s h
leads_mapped I Q J R f (Step s p) i k h = (i s h.0, leads_mapped I Q J R f p i k h.1)
leads_mapped I Q J R f (Fork p q) i k h = (leads_mapped I Q J R f p i k h.0, leads_mapped I Q J R f q i k h.1)
leads_mapped I Q J R f (Asked g) i k h = λ x. leads_mapped I Q J R f (g x) i k (h x)

pub leads_weaker : {S A : Type 0} (I : S → Type 0) (Q R : A → S → Type 0) (p : Tree S A) → ((a : A) (s : S) → Q a s → R a s) → Leads I Q p → Leads I R p
leads_weaker I Q R (Ret a s) k h = k a s h
leads_weaker I Q R (Step s p) k h = (h.0, leads_weaker I Q R p k h.1)
leads_weaker I Q R (Fork p q) k h = (leads_weaker I Q R p k h.0, leads_weaker I Q R q k h.1)
leads_weaker I Q R (Asked g) k h = λ x. leads_weaker I Q R (g x) k (h x)

pub leads_kept : {S A : Type 0} (P : S → Type 0) (p : Tree S A) → Keeps P p → Leads P (λ a s. P s) p
leads_kept P (Ret a s) h = h
leads_kept P (Step s p) h = (h.0, leads_kept P p h.1)
leads_kept P (Fork p q) h = (leads_kept P p h.0, leads_kept P q h.1)
leads_kept P (Asked g) h = λ x. leads_kept P (g x) (h x)

pub kept_leads : {S A : Type 0} (P : S → Type 0) (p : Tree S A) → Leads P (λ a s. P s) p → Keeps P p
kept_leads P (Ret a s) h = h
kept_leads P (Step s p) h = (h.0, kept_leads P p h.1)
kept_leads P (Fork p q) h = (kept_leads P p h.0, kept_leads P q h.1)
kept_leads P (Asked g) h = λ x. kept_leads P (g x) (h x)

-- nothing is claimed of stops, and of a result only what holds of all
pub leads_any : {S A : Type 0} (Q : A → S → Type 0) (p : Tree S A) → ((a : A) (s : S) → Q a s) → Leads (λ s. Unit {0}) Q p
leads_any Q (Ret a s) h = h a s
leads_any Q (Step s p) h = (tt, leads_any Q p h)
leads_any Q (Fork p q) h = (leads_any Q p h, leads_any Q q h)
leads_any Q (Asked g) h = λ x. leads_any Q (g x) h

-- what any choices lead to
abbrev pub Ended : {S A : Type 0} → (S → Type 0) → (A → S → Type 0) → Option A × S → Type 0
Ended I Q (Some a, s) = Q a s
Ended I Q (None, s) = I s

pub led_by_walk : {S A : Type 0} (I : S → Type 0) (Q : A → S → Type 0) (stop : Option ℕ) (forks : List Bool) (tellings : List Telling) (p : Tree S A)
    → Leads I Q p → Ended I Q (walk stop forks tellings p)
led_by_walk I Q stop forks tellings (Ret a s) h = h
led_by_walk I Q None forks tellings (Step s p) h = led_by_walk I Q None forks tellings p h.1
led_by_walk I Q (Some zero) forks tellings (Step s p) h = h.0
led_by_walk I Q (Some (suc n)) forks tellings (Step s p) h = led_by_walk I Q (Some n) forks tellings p h.1
led_by_walk I Q stop [] tellings (Fork p q) h = led_by_walk I Q stop [] tellings p h.0
led_by_walk I Q stop (false ∷ forks) tellings (Fork p q) h = led_by_walk I Q stop forks tellings p h.0
led_by_walk I Q stop (true ∷ forks) tellings (Fork p q) h = led_by_walk I Q stop forks tellings q h.1
led_by_walk I Q stop forks [] (Asked k) h = led_by_walk I Q stop forks [] (k AsItKeeps) (h AsItKeeps)
led_by_walk I Q stop forks (t ∷ ts) (Asked k) h = led_by_walk I Q stop forks ts (k t) (h t)

pub led : {S A : Type 0} (I : S → Type 0) (Q : A → S → Type 0) (c : Choices) (p : Tree S A) → Leads I Q p → Ended I Q (play c p)
led I Q c p h = led_by_walk I Q c.stop c.forks c.tellings p h
