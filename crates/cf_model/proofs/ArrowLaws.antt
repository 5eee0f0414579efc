-- Arrows one after the other: what a program answers, and what each state keeps.
use Rattle.std.proofs.Common.{◌≡◌, Bool, true, false, List, [], ◌∷◌, refl, sym, ◌∙◌, ap, subst, ℕ, ◌+◌, ◌<◌, ◌≤◌, length, drop, get_or}
use Rattle.std.proofs.lemmas.List.{drop_more}
use Rattle.std.proofs.Math.ListN.{drop_of_length-le}
use Rattle.std.proofs.lemmas.Result.{err_from_is_err_and}
use Rattle.std.specs.Prelude.{Result, Ok, Err, Option, Some, None}
use Rattle.std.specs.Result.{IsErrAnd}
use Rattle.cf_base.specs.declared.codes.Code.{Code}
use Rattle.cf_base.specs.declared.codes.CallError.{CallError}
use Rattle.cf_model.specs.Arrows.{Answers, Arrow, Preserves, Tells, and_then, attempt, choose, each, either, lifted, noted, one, one_or, only_if, reading, ret, seq, then_do, unit, unless, unless_done, when_ok}
use Rattle.cf_base.specs.declared.answers.Shown.{Shown}
use Rattle.cf_model.specs.State.{Filter, State, in_filter, with_filter}
use Rattle.cf_model.specs.Trees.{Asked, Does, Fork, Keeps, Ret, Step, Tree}
use Rattle.cf_model.proofs.TreeLaws as trees

-- what a program answers

pub returned : {X S A : Type 0} (R : X → S → Type 0) (a : A) (x : X) → Answers R (ret a) x (Ok a) x
returned R a x = record { leads = λ s h. (s, (refl, refl), h) }

pub fails_first : {X S A B : Type 0} (R : X → S → Type 0) (f : Arrow S A) (g : A → Arrow S B) (old new : X) (e : CallError) → Answers R f old (Err e) new → Answers R (seq f g) old (Err e) new
fails_first R f g old new e h = record { leads = λ s i. let x = h.leads s i in (x.0, trees.fails_first (f s) g e x.0 x.1, x.2) }

pub goes_on : {X S A B : Type 0} (R : X → S → Type 0) (f : Arrow S A) (g : A → Arrow S B) (old mid new : X) (a : A) (r : Result B CallError) → Answers R f old (Ok a) mid → Answers R (g a) mid r new → Answers R (seq f g) old r new
goes_on R f g old mid new a r h k = record { leads = λ s i. let x = h.leads s i in let y = k.leads x.0 x.2 in (y.0, trees.goes_on (f s) g a x.0 r y.0 x.1 y.1, y.2) }

pub stops_first : {X S A B : Type 0} (R : X → S → Type 0) (f : Arrow S A) (g : Arrow S B) (old new : X) (e : CallError) → Answers R f old (Err e) new → Answers R (then_do f g) old (Err e) new
stops_first R f g old new e h = fails_first R f (λ _. g) old new e h

pub then_on : {X S A B : Type 0} (R : X → S → Type 0) (f : Arrow S A) (g : Arrow S B) (old mid new : X) (a : A) (r : Result B CallError) → Answers R f old (Ok a) mid → Answers R g mid r new → Answers R (then_do f g) old r new
then_on R f g old mid new a r h k = goes_on R f (λ _. g) old mid new a r h k

pub reads_on : {X S A V : Type 0} (R : X → S → Type 0) (v : S → V) (h : V → Arrow S A) (old new : X) (x : V) (r : Result A CallError) → Tells R v old x → Answers R (h x) old r new → Answers R (reading v h) old r new
reads_on R v h old new x r e k = record { leads = λ s i. subst (λ (y : _). (t : _) × Does (h y s) r t × R new t) (e.is s i) (k.leads s i) }

-- after a step that was done, and after one that was not
pub ok_on : {X S A : Type 0} (R : X → S → Type 0) (f : Arrow S Bool) (v : A) (g : Arrow S A) (old mid new : X) (a : Bool) (r : Result A CallError) → Answers R f old (Ok a) mid → a ≡ true → Answers R g mid r new → Answers R (seq f (when_ok v g)) old r new
ok_on R f v g old mid new true r h e k = goes_on R f (when_ok v g) old mid new true r h k
ok_on R f v g old mid new false r h e k = let z : false ≡ true = e in cc

pub ok_off : {X S A : Type 0} (R : X → S → Type 0) (f : Arrow S Bool) (v : A) (g : Arrow S A) (old mid : X) (a : Bool) → Answers R f old (Ok a) mid → a ≡ false → Answers R (seq f (when_ok v g)) old (Ok v) mid
ok_off R f v g old mid false h e = goes_on R f (when_ok v g) old mid mid false (Ok v) h (returned R v mid)
ok_off R f v g old mid true h e = let z : true ≡ false = e in cc

-- a loop's step: what answers the rest answers all
pub each_more : {X S V : Type 0} (R : X → S → Type 0) (f : V → Arrow S (Unit {0})) (xs : List V) (i : ℕ) (d : V) (old mid : X) (v : Unit {0}) (r : Result (Unit {0}) CallError) (new : X)
    → i < length xs → Answers R (f (get_or xs i d)) old (Ok v) mid → Answers R (each f (drop (i + 1) xs)) mid r new → Answers R (each f (drop i xs)) old r new
each_more R f xs i d old mid v r new small a rest =
    subst (λ (ys : List _). Answers R (each f ys) old r new) (sym (drop_more xs i d small)) (then_on R (f (get_or xs i d)) (each f (drop (i + 1) xs)) old mid new v r a rest)

-- an exit of a loop by `?`, under the invariant by continuation
pub each_exits : {X S V : Type 0} (R : X → S → Type 0) (f : V → Arrow S (Unit {0})) (all xs : List V) (i : ℕ) (d : V) (first old : X) (e : CallError) (r : Result (Unit {0}) CallError) (new : X)
    → ((q : Result (Unit {0}) CallError) (v : X) → Answers R (each f (drop i xs)) old q v → Answers R (each f all) first q v)
    → i < length xs → Answers R (f (get_or xs i d)) old (Err e) new → IsErrAnd r (λ y. y ≡ e) → Answers R (each f all) first r new
each_exits R f all xs i d first old e r new inv small a is =
    let p = err_from_is_err_and r is in
    let fail : Answers R (each f (drop i xs)) old (Err e) new = subst (λ (ys : List _). Answers R (each f ys) old (Err e) new) (sym (drop_more xs i d small)) (stops_first R (f (get_or xs i d)) (each f (drop (i + 1) xs)) old new e a) in
    subst (λ (q : Result (Unit {0}) CallError). Answers R (each f all) first q new) (sym (p.1 ∙ ap (λ (z : CallError). Err z) p.2)) (inv (Err e) new fail)

-- a loop's end
pub each_ends : {X S V : Type 0} (R : X → S → Type 0) (f : V → Arrow S (Unit {0})) (all xs : List V) (i : ℕ) (first last : X)
    → ((q : Result (Unit {0}) CallError) (v : X) → Answers R (each f (drop i xs)) last q v → Answers R (each f all) first q v)
    → length xs ≤ i → Answers R (each f all) first (Ok unit) last
each_ends R f all xs i first last inv h = inv (Ok unit) last (subst (λ (ys : List _). Answers R (each f ys) last (Ok unit) last) (sym (drop_of_length-le xs h)) (returned R unit last))

-- in a larger state
pub does_lifted : {S T A : Type 0} (get : T → S) (put : S → T → T) (f : Arrow S A) (t : T) (r : Result A CallError) (u : S) → Does (f (get t)) r u → Does (lifted get put f t) r (put u t)
does_lifted get put f t r u h = trees.does_mapped (λ s. put s t) (f (get t)) r u h

-- what each state keeps

pub keeps_ret : {S A : Type 0} (P : S → Type 0) (a : A) → Preserves P (ret {S = S} a)
keeps_ret P a = record { keeps = λ s h. h }

pub keeps_seq : {S A B : Type 0} (P : S → Type 0) (f : Arrow S A) (g : A → Arrow S B) → Preserves P f → ((a : A) → Preserves P (g a)) → Preserves P (seq f g)
keeps_seq P f g h k = record { keeps = λ s i. trees.keeps_bind P (f s) g (h.keeps s i) (λ a t j. (k a).keeps t j) }

pub keeps_then : {S A B : Type 0} (P : S → Type 0) (f : Arrow S A) (g : Arrow S B) → Preserves P f → Preserves P g → Preserves P (then_do f g)
keeps_then P f g h k = keeps_seq P f (λ _. g) h (λ a. k)

pub keeps_reading : {S A V : Type 0} (P : S → Type 0) (v : S → V) (h : V → Arrow S A) → ((x : V) → Preserves P (h x)) → Preserves P (reading v h)
keeps_reading P v h k = record { keeps = λ s i. (k (v s)).keeps s i }

pub keeps_one : {S : Type 0} (P : S → Type 0) (f : S → S) → ((s : S) → P s → P (f s)) → Preserves P (one f)
keeps_one P f k = record { keeps = λ s i. (i, k s i) }

pub keeps_one_or : {S : Type 0} (P : S → Type 0) (stop f : S → S) → ((s : S) → P s → P (stop s)) → ((s : S) → P s → P (f s)) → Preserves P (one_or stop f)
keeps_one_or P stop f j k = record { keeps = λ s i. (j s i, k s i) }

pub keeps_noted : {S : Type 0} (P : S → Type 0) (f : S → S) → ((s : S) → P s → P (f s)) → Preserves P (noted f)
keeps_noted P f k = record { keeps = λ s i. k s i }

pub keeps_either : {S A : Type 0} (P : S → Type 0) (f g : Arrow S A) → Preserves P f → Preserves P g → Preserves P (either f g)
keeps_either P f g h k = record { keeps = λ s i. (h.keeps s i, k.keeps s i) }

pub keeps_choose : {S A : Type 0} (P : S → Type 0) (b : Bool) (f g : Arrow S A) → Preserves P f → Preserves P g → Preserves P (choose b f g)
keeps_choose P true f g h k = h
keeps_choose P false f g h k = k

pub keeps_unless : {S A : Type 0} (P : S → Type 0) (refused : Code → A) (c : Option Code) (f : Arrow S A) → Preserves P f → Preserves P (unless refused c f)
keeps_unless P refused None f h = h
keeps_unless P refused (Some c) f h = keeps_ret P (refused c)

pub keeps_when_ok : {S A : Type 0} (P : S → Type 0) (a : A) (f : Arrow S A) (b : Bool) → Preserves P f → Preserves P (when_ok a f b)
keeps_when_ok P a f true h = h
keeps_when_ok P a f false h = keeps_ret P a

pub keeps_each : {S X : Type 0} (P : S → Type 0) (f : X → Arrow S (Unit {0})) (xs : List X) → ((x : X) → Preserves P (f x)) → Preserves P (each f xs)
keeps_each P f [] h = keeps_ret P unit
keeps_each P f (x ∷ xs) h = keeps_then P (f x) (each f xs) (h x) (keeps_each P f xs h)

-- a part of a smaller state keeps the property of the larger one
pub keeps_lifted : {S T A : Type 0} (P : T → Type 0) (get : T → S) (put : S → T → T) (f : Arrow S A)
    → ((t : T) → P t → P (put (get t) t)) → ((t : T) → P t → Preserves (λ s. P (put s t)) f) → Preserves P (lifted get put f)
keeps_lifted P get put f same h = record { keeps = λ t i. trees.keeps_mapped (λ s. P (put s t)) P (λ s. put s t) (f (get t)) (λ s j. j) ((h t i).keeps (get t) (same t i)) }

pub filter_in_whole : (f : Arrow Filter Shown) (s : State) (r : Result Shown CallError) (t : Filter) → Does (f s.filter) r t → Does (in_filter f s) r (with_filter t s)
filter_in_whole f s r t h = trees.does_mapped (λ (x : Filter). with_filter x s) (f s.filter) r t h

pub keeps_only_if : {S : Type 0} (P : S → Type 0) (b : Bool) (f : Arrow S Bool) → Preserves P f → Preserves P (only_if b f)
keeps_only_if P true f h = h
keeps_only_if P false f h = keeps_ret P true

pub keeps_and_then : {S : Type 0} (P : S → Type 0) (f g : Arrow S Bool) → Preserves P f → Preserves P g → Preserves P (and_then f g)
keeps_and_then P f g h k = keeps_seq P f (when_ok false g) h (λ a. keeps_when_ok P false g a k)

keeps_unless_done : {S : Type 0} (P : S → Type 0) (f : Arrow S (Unit {0})) (c : Option Code) → Preserves P f → Preserves P (unless_done f c)
keeps_unless_done P f None h = keeps_seq P f (λ _. ret None) h (λ a. keeps_ret P None)
keeps_unless_done P f (Some c) h = keeps_ret P (Some c)

pub keeps_attempt : {S : Type 0} (P : S → Type 0) (why : S → Option Code) (f : Arrow S (Unit {0})) → Preserves P f → Preserves P (attempt why f)
keeps_attempt P why f h = keeps_reading P why (unless_done f) (λ c. keeps_unless_done P f c h)

-- a property that does not hang on the state
const_keeps : {S A : Type 0} (C : Type 0) (p : Tree S A) → C → Keeps (λ _. C) p
const_keeps C (Ret a s) h = h
const_keeps C (Step s p) h = (h, const_keeps C p h)
const_keeps C (Fork p q) h = (const_keeps C p h, const_keeps C q h)
const_keeps C (Asked k) h = λ x. const_keeps C (k x) h

pub keeps_const : {S A : Type 0} (C : Type 0) (f : Arrow S A) → Preserves (λ _. C) f
keeps_const C f = record { keeps = λ s h. const_keeps C (f s) h }
