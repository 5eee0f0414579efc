-- Trees one after the other, in a larger state, by choices, and what each state in them keeps.
use Rattle.std.proofs.Common.{◌≡◌, ℕ, zero, suc, Bool, true, false, List, [], ◌∷◌, refl, sym, ap, inl, inr}
use Rattle.std.specs.Prelude.{Result, Ok, Err, Option, Some, None}
use Rattle.cf_base.specs.declared.codes.CallError.{CallError}
use Rattle.cf_base.specs.declared.codes.CallError.TheVariants.{No, OutOfMemory}
use Rattle.cf_model.specs.Trees.{AsItKeeps, Asked, Does, Ends, Fork, Keeps, Ret, Step, Stops, Telling, Tree, bind, mapped, walk}

-- one after the other

pub stops_first : {S A B : Type 0} (p : Tree S A) (g : A → S → Tree S B) (t : S) → Stops p t → Stops (bind p g) t
stops_first (Ret a s) g t h = elim h as (λ _. Stops (bind (Ret a s) g) t) [ ]
stops_first (Step s p) g t (inl e) = inl e
stops_first (Step s p) g t (inr h) = inr (stops_first p g t h)
stops_first (Fork p q) g t (inl h) = inl (stops_first p g t h)
stops_first (Fork p q) g t (inr h) = inr (stops_first q g t h)
stops_first (Asked k) g t h = (h.0, stops_first (k h.0) g t h.1)

pub stops_then : {S A B : Type 0} (p : Tree S A) (g : A → S → Tree S B) (a : A) (m t : S) → Ends p a m → Stops (g a m) t → Stops (bind p g) t
stops_then (Ret b s) g a m t (e, f) h = rw (sym e) (rw (sym f) h)
stops_then (Step s p) g a m t e h = inr (stops_then p g a m t e h)
stops_then (Fork p q) g a m t (inl e) h = inl (stops_then p g a m t e h)
stops_then (Fork p q) g a m t (inr e) h = inr (stops_then q g a m t e h)
stops_then (Asked k) g a m t e h = (e.0, stops_then (k e.0) g a m t e.1 h)

pub ends_then : {S A B : Type 0} (p : Tree S A) (g : A → S → Tree S B) (a : A) (m : S) (b : B) (t : S) → Ends p a m → Ends (g a m) b t → Ends (bind p g) b t
ends_then (Ret c s) g a m b t (e, f) h = rw (sym e) (rw (sym f) h)
ends_then (Step s p) g a m b t e h = ends_then p g a m b t e h
ends_then (Fork p q) g a m b t (inl e) h = inl (ends_then p g a m b t e h)
ends_then (Fork p q) g a m b t (inr e) h = inr (ends_then q g a m b t e h)
ends_then (Asked k) g a m b t e h = (e.0, ends_then (k e.0) g a m b t e.1 h)

-- the first fails
pub fails_first : {S A B : Type 0} (p : Tree S A) (g : A → S → Tree S B) (e : CallError) (t : S) → Does p (Err e) t → Does (bind p g) (Err e) t
fails_first p g (No c) t h = (h.0, stops_first p g t h.1)
fails_first p g OutOfMemory t h = record {}

-- the first is done, and the second answers
pub goes_on : {S A B : Type 0} (p : Tree S A) (g : A → S → Tree S B) (a : A) (m : S) (r : Result B CallError) (t : S) → Ends p a m → Does (g a m) r t → Does (bind p g) r t
goes_on p g a m (Ok b) t e h = ends_then p g a m b t e h
goes_on p g a m (Err (No c)) t e h = (h.0, stops_then p g a m t e h.1)
goes_on p g a m (Err OutOfMemory) t e h = record {}

-- in a larger state

pub ends_mapped : {S T A : Type 0} (f : S → T) (p : Tree S A) (a : A) (t : S) → Ends p a t → Ends (mapped f p) a (f t)
ends_mapped f (Ret a s) b t (d, e) = (d, ap f e)
ends_mapped f (Step s p) b t h = ends_mapped f p b t h
ends_mapped f (Fork p q) b t (inl h) = inl (ends_mapped f p b t h)
ends_mapped f (Fork p q) b t (inr h) = inr (ends_mapped f q b t h)
ends_mapped f (Asked k) b t h = (h.0, ends_mapped f (k h.0) b t h.1)

pub stops_mapped : {S T A : Type 0} (f : S → T) (p : Tree S A) (t : S) → Stops p t → Stops (mapped f p) (f t)
stops_mapped {S} {T} {A} f (Ret a s) t h = elim h as (λ _. Stops {S = T} {A = A} (Ret a (f s)) (f t)) [ ]
stops_mapped f (Step s p) t (inl e) = inl (ap f e)
stops_mapped f (Step s p) t (inr h) = inr (stops_mapped f p t h)
stops_mapped f (Fork p q) t (inl h) = inl (stops_mapped f p t h)
stops_mapped f (Fork p q) t (inr h) = inr (stops_mapped f q t h)
stops_mapped f (Asked k) t h = (h.0, stops_mapped f (k h.0) t h.1)

pub does_mapped : {S T A : Type 0} (f : S → T) (p : Tree S A) (r : Result A CallError) (t : S) → Does p r t → Does (mapped f p) r (f t)
does_mapped f p (Ok a) t h = ends_mapped f p a t h
does_mapped f p (Err (No c)) t h = (h.0, stops_mapped f p t h.1)
does_mapped f p (Err OutOfMemory) t h = record {}

-- by choices

pub ends_played : {S A : Type 0} (p : Tree S A) (a : A) (t : S) → Ends p a t
    → (forks : List Bool) × (tellings : List Telling) × (◌≡◌ {A = Option A × S} (walk None forks tellings p) (Some a, t))
ends_played (Ret a s) b t (d, e) = ([], [], rw d (rw e refl))
ends_played (Step s p) b t h = ends_played p b t h
ends_played (Fork p q) b t (inl h) = let x = ends_played p b t h in (false ∷ x.0, x.1, x.2)
ends_played (Fork p q) b t (inr h) = let x = ends_played q b t h in (true ∷ x.0, x.1, x.2)
ends_played (Asked k) b t h = let x = ends_played (k h.0) b t h.1 in (x.0, h.0 ∷ x.1, x.2)

pub stops_played : {S A : Type 0} (p : Tree S A) (t : S) → Stops p t
    → (n : ℕ) × (forks : List Bool) × (tellings : List Telling) × (◌≡◌ {A = Option A × S} (walk (Some n) forks tellings p) (None, t))
stops_played {S} {A} (Ret a s) t h =
    elim h as (λ _. (n : ℕ) × (forks : List Bool) × (tellings : List Telling) × (◌≡◌ {A = Option A × S} (walk (Some n) forks tellings (Ret a s)) (None, t))) [ ]
stops_played (Step s p) t (inl e) = (zero, [], [], rw e refl)
stops_played (Step s p) t (inr h) = let x = stops_played p t h in (suc x.0, x.1, x.2, x.3)
stops_played (Fork p q) t (inl h) = let x = stops_played p t h in (x.0, false ∷ x.1, x.2, x.3)
stops_played (Fork p q) t (inr h) = let x = stops_played q t h in (x.0, true ∷ x.1, x.2, x.3)
stops_played (Asked k) t h = let x = stops_played (k h.0) t h.1 in (x.0, x.1, h.0 ∷ x.2, x.3)

-- what each state in them keeps

pub keeps_bind : {S A B : Type 0} (P : S → Type 0) (p : Tree S A) (g : A → S → Tree S B) → Keeps P p → ((a : A) (s : S) → P s → Keeps P (g a s)) → Keeps P (bind p g)
keeps_bind P (Ret a s) g h k = k a s h
keeps_bind P (Step s p) g h k = (h.0, keeps_bind P p g h.1 k)
keeps_bind P (Fork p q) g h k = (keeps_bind P p g h.0 k, keeps_bind P q g h.1 k)
keeps_bind P (Asked f) g h k = λ x. keeps_bind P (f x) g (h x) k

pub keeps_mapped : {S T A : Type 0} (P : S → Type 0) (Q : T → Type 0) (f : S → T) (p : Tree S A) → ((s : S) → P s → Q (f s)) → Keeps P p → Keeps Q (mapped f p)
keeps_mapped P Q f (Ret a s) k h = k s h
keeps_mapped P Q f (Step s p) k h = (k s h.0, keeps_mapped P Q f p k h.1)
keeps_mapped P Q f (Fork p q) k h = (keeps_mapped P Q f p k h.0, keeps_mapped P Q f q k h.1)
keeps_mapped P Q f (Asked g) k h = λ x. keeps_mapped P Q f (g x) k (h x)

pub kept_at_end : {S A : Type 0} (P : S → Type 0) (p : Tree S A) (a : A) (t : S) → Keeps P p → Ends p a t → P t
kept_at_end P (Ret b s) a t h (d, e) = rw e h
kept_at_end P (Step s p) a t h e = kept_at_end P p a t h.1 e
kept_at_end P (Fork p q) a t h (inl e) = kept_at_end P p a t h.0 e
kept_at_end P (Fork p q) a t h (inr e) = kept_at_end P q a t h.1 e
kept_at_end P (Asked k) a t h e = kept_at_end P (k e.0) a t (h e.0) e.1

pub kept_at_stop : {S A : Type 0} (P : S → Type 0) (p : Tree S A) (t : S) → Keeps P p → Stops p t → P t
kept_at_stop P (Ret b s) t h e = elim e as (λ _. P t) [ ]
kept_at_stop P (Step s p) t h (inl e) = rw e h.0
kept_at_stop P (Step s p) t h (inr e) = kept_at_stop P p t h.1 e
kept_at_stop P (Fork p q) t h (inl e) = kept_at_stop P p t h.0 e
kept_at_stop P (Fork p q) t h (inr e) = kept_at_stop P q t h.1 e
kept_at_stop P (Asked k) t h e = kept_at_stop P (k e.0) t (h e.0) e.1

-- the state to which any choices lead
pub kept_by_walk : {S A : Type 0} (P : S → Type 0) (stop : Option ℕ) (forks : List Bool) (tellings : List Telling) (p : Tree S A) → Keeps P p → P (walk stop forks tellings p).1
kept_by_walk P stop forks tellings (Ret a s) h = h
kept_by_walk P None forks tellings (Step s p) h = kept_by_walk P None forks tellings p h.1
kept_by_walk P (Some zero) forks tellings (Step s p) h = h.0
kept_by_walk P (Some (suc n)) forks tellings (Step s p) h = kept_by_walk P (Some n) forks tellings p h.1
kept_by_walk P stop [] tellings (Fork p q) h = kept_by_walk P stop [] tellings p h.0
kept_by_walk P stop (false ∷ forks) tellings (Fork p q) h = kept_by_walk P stop forks tellings p h.0
kept_by_walk P stop (true ∷ forks) tellings (Fork p q) h = kept_by_walk P stop forks tellings q h.1
kept_by_walk P stop forks [] (Asked k) h = kept_by_walk P stop forks [] (k AsItKeeps) (h AsItKeeps)
kept_by_walk P stop forks (t ∷ ts) (Asked k) h = kept_by_walk P stop forks ts (k t) (h t)
