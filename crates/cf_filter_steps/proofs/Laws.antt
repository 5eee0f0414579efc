-- Parts one after the other.
use Rattle.std.proofs.Common.{◌≡◌, List, [], ◌∷◌, refl, sym, ◌∙◌, ap, subst, ℕ, ◌+◌, ◌<◌, ◌≤◌, length, drop, get_or}
use Rattle.std.proofs.lemmas.List.{drop_more}
use Rattle.std.proofs.Math.ListN.{drop_of_length-le}
use Rattle.std.proofs.lemmas.Result.{err_from_is_err_and}
use Rattle.std.specs.Prelude.{Result, Ok, Err, IfOk}
use Rattle.std.specs.Result.{IsErrAnd}
use Rattle.cf_base.specs.declared.codes.CallError.{CallError}
use Rattle.cf_base.specs.declared.codes.CallError.TheVariants.{No, OutOfMemory}
use Rattle.cf_model.specs.Arrows.{Arrow, each, noted, reading, ret, seq, then_do, unit}
use Rattle.cf_model.specs.State.{Filter}
use Rattle.cf_model.specs.Trees.{Does, Ends, Ret}
use Rattle.cf_model.proofs.TreeLaws as trees
use Rattle.cf_filter_steps.specs.Answering.{After, Answers, Any, Reads, Sense}
use Rattle.cf_filter_steps.specs.Good.{Every}

pub returned : {X A : Type 0} (S : Sense X) (P : Filter → Type 0) (a : A) (x : X) → Answers S P (ret a) x (Ok a) x
returned S P a x = record { leads = λ s h p. (s, (refl, refl), S.stays x s h, h) }

-- out of memory before anything was done
pub no_memory : {X A : Type 0} (S : Sense X) (P : Filter → Type 0) (f : Arrow Filter A) (x : X) → Answers S P f x (Err OutOfMemory) x
no_memory S P f x = record { leads = λ s h p. (s, record {}, S.stays x s h, S.endures x s h) }

pub after_err : {X : Type 0} (A B : Type 0) (S : Sense X) (e : CallError) (x y : X) (t : Filter) → After {A = A} S x (Err e) y t → After {A = B} S x (Err e) y t
after_err A B S (No c) x y t h = h
after_err A B S OutOfMemory x y t h = h

-- seen from further back
pub after_on : {X A : Type 0} (S : Sense X) (x y z : X) (s t u : Filter) (r : Result A CallError) → S.moved x y s t → After S y r z u → After S x r z u
after_on S x y z s t u (Ok a) m h = h
after_on S x y z s t u (Err (No c)) m h = S.stops_on x y z s t u m h
after_on S x y z s t u (Err OutOfMemory) m h = h

pub fails_first : {X A B : Type 0} (S : Sense X) (P : Filter → Type 0) (f : Arrow Filter A) (g : A → Arrow Filter B) (old new : X) (e : CallError)
    → Answers S P f old (Err e) new → Answers S P (seq f g) old (Err e) new
fails_first {X} {A} {B} S P f g old new e h = record { leads = λ s i p. let x = h.leads s i p in (x.0, trees.fails_first (f s) g e x.0 x.1, x.2, after_err A B S e old new x.0 x.3) }

pub goes_on : {X A B : Type 0} (S : Sense X) (P Q : Filter → Type 0) (f : Arrow Filter A) (g : A → Arrow Filter B) (old mid new : X) (a : A) (r : Result B CallError)
    → ((s t : Filter) → P s → Ends (f s) a t → Q t) → Answers S P f old (Ok a) mid → Answers S Q (g a) mid r new → Answers S P (seq f g) old r new
goes_on S P Q f g old mid new a r q h k = record {
  leads = λ s i p.
      let x = h.leads s i p in let y = k.leads x.0 x.3 (q s x.0 p x.1) in
      (y.0, trees.goes_on (f s) g a x.0 r y.0 x.1 y.1, S.goes_on old mid new s x.0 y.0 x.2 y.2, after_on S old mid new s x.0 y.0 r x.2 y.3);
}

pub reads_on : {X A V : Type 0} (S : Sense X) (P : Filter → Type 0) (v : Filter → V) (h : V → Arrow Filter A) (old new : X) (x : V) (r : Result A CallError)
    → Reads S P v old x → Answers S P (h x) old r new → Answers S P (reading v h) old r new
reads_on S P v h old new x r e k = record {
  leads = λ s i p.
      subst (λ (y : _). (t : Filter) × Does (h y s) r t × S.moved old new s t × After S old r new t) (e.is s i p) (k.leads s i p);
}

-- under a weaker property
pub weaker : {X A : Type 0} (S : Sense X) (P Q : Filter → Type 0) (f : Arrow Filter A) (old new : X) (r : Result A CallError) → ((s : Filter) → Q s → P s) → Answers S P f old r new → Answers S Q f old r new
weaker S P Q f old new r w h = record { leads = λ s i q. h.leads s i (w s q) }

-- the first, then the second, whatever the first gave
pub stops_first : {X A B : Type 0} (S : Sense X) (P : Filter → Type 0) (f : Arrow Filter A) (g : Arrow Filter B) (old new : X) (e : CallError)
    → Answers S P f old (Err e) new → Answers S P (then_do f g) old (Err e) new
stops_first S P f g old new e h = fails_first S P f (λ _. g) old new e h

pub then_on : {X A B : Type 0} (S : Sense X) (P Q : Filter → Type 0) (f : Arrow Filter A) (g : Arrow Filter B) (old mid new : X) (a : A) (r : Result B CallError)
    → ((s t : Filter) → P s → Ends (f s) a t → Q t) → Answers S P f old (Ok a) mid → Answers S Q g mid r new → Answers S P (then_do f g) old r new
then_on S P Q f g old mid new a r q h k = goes_on S P Q f (λ _. g) old mid new a r q h k

-- where nothing is known beforehand
pub any_on : {X A B : Type 0} (S : Sense X) (f : Arrow Filter A) (g : Arrow Filter B) (old mid new : X) (a : A) (r : Result B CallError)
    → Answers S Any f old (Ok a) mid → Answers S Any g mid r new → Answers S Any (then_do f g) old r new
any_on S f g old mid new a r h k = then_on S Any Any f g old mid new a r (λ s t p e. record {}) h k

-- the same without a step
pub noted_as : {X : Type 0} (S : Sense X) (P : Filter → Type 0) (f g : Filter → Filter) (old new : X) (r : Result (Unit {0}) CallError)
    → ((s : Filter) → S.means old s → P s → f s ≡ g s) → Answers S P (noted f) old r new → Answers S P (noted g) old r new
noted_as S P f g old new r same h = record {
  leads = λ s i p.
      subst (λ (y : Filter). (t : Filter) × Does (Ret unit y) r t × S.moved old new s t × After S old r new t) (same s i p) (h.leads s i p);
}

-- at an exit by `?`
pub with_err : {X A : Type 0} (S : Sense X) (P : Filter → Type 0) (f : Arrow Filter A) (old new : X) (e : CallError) (r : Result A CallError) → IsErrAnd r (λ y. y ≡ e) → Answers S P f old (Err e) new → Answers S P f old r new
with_err {X} {A} S P f old new e r is h = let p = err_from_is_err_and r is in subst (λ (q : Result A CallError). Answers S P f old q new) (sym (p.1 ∙ ap (λ (z : CallError). Err z) p.2)) h

-- loops

-- the rest of a list from an element on
pub drop_at : {V : Type 0} (xs : List V) (i : ℕ) (x : V) → i < length xs → x ≡ get_or xs i x → drop i xs ≡ x ∷ drop (i + 1) xs
drop_at xs i x small is = drop_more xs i x small ∙ ap (λ (r : _). r ∷ drop (i + 1) xs) (sym is)

pub each_more : {X V : Type 0} (S : Sense X) (f : V → Arrow Filter (Unit {0})) (xs : List V) (i : ℕ) (x : V) (old mid : X) (v : Unit {0}) (r : Result (Unit {0}) CallError) (new : X)
    → i < length xs → x ≡ get_or xs i x → Answers S Any (f x) old (Ok v) mid → Answers S Any (each f (drop (i + 1) xs)) mid r new → Answers S Any (each f (drop i xs)) old r new
each_more S f xs i x old mid v r new small is a rest =
    subst (λ (ys : List _). Answers S Any (each f ys) old r new) (sym (drop_at xs i x small is)) (any_on S (f x) (each f (drop (i + 1) xs)) old mid new v r a rest)

-- the same where each needs a property of its own, which what was done before it leaves
abbrev pub All : {V : Type 0} → (V → Filter → Type 0) → List V → Filter → Type 0
All P xs s = Every (λ x. P x s) xs

pub all_more : {X V : Type 0} (S : Sense X) (P : V → Filter → Type 0) (f : V → Arrow Filter (Unit {0})) (xs : List V) (i : ℕ) (x : V) (old mid : X) (v : Unit {0}) (r : Result (Unit {0}) CallError) (new : X)
    → ((y : V) (ys : List V) (s t : Filter) → All P ys s → Ends (f y s) v t → All P ys t)
    → i < length xs → x ≡ get_or xs i x → Answers S (P x) (f x) old (Ok v) mid → Answers S (All P (drop (i + 1) xs)) (each f (drop (i + 1) xs)) mid r new → Answers S (All P (drop i xs)) (each f (drop i xs)) old r new
all_more S P f xs i x old mid v r new stays small is a rest =
    subst (λ (ys : List _). Answers S (All P ys) (each f ys) old r new) (sym (drop_at xs i x small is))
    (then_on S (All P (x ∷ drop (i + 1) xs)) (All P (drop (i + 1) xs)) (f x) (each f (drop (i + 1) xs)) old mid new v r (λ s t p e. stays x (drop (i + 1) xs) s t p.1 e)
    (weaker S (P x) (All P (x ∷ drop (i + 1) xs)) (f x) old mid (Ok v) (λ s p. p.0) a) rest)

pub all_exits : {X V : Type 0} (S : Sense X) (P : V → Filter → Type 0) (f : V → Arrow Filter (Unit {0})) (all xs : List V) (i : ℕ) (x : V) (first old : X) (e : CallError) (r : Result (Unit {0}) CallError) (new : X)
    → ((q : Result (Unit {0}) CallError) (v : X) → Answers S (All P (drop i xs)) (each f (drop i xs)) old q v → Answers S (All P all) (each f all) first q v)
    → i < length xs → x ≡ get_or xs i x → Answers S (P x) (f x) old (Err e) new → IsErrAnd r (λ y. y ≡ e) → Answers S (All P all) (each f all) first r new
all_exits S P f all xs i x first old e r new inv small at a is =
    let fail : Answers S (All P (drop i xs)) (each f (drop i xs)) old (Err e) new = subst (λ (ys : List _). Answers S (All P ys) (each f ys) old (Err e) new) (sym (drop_at xs i x small at))
    (stops_first S (All P (x ∷ drop (i + 1) xs)) (f x) (each f (drop (i + 1) xs)) old new e (weaker S (P x) (All P (x ∷ drop (i + 1) xs)) (f x) old new (Err e) (λ s p. p.0) a)) in
    with_err S (All P all) (each f all) first new e r is (inv (Err e) new fail)

pub all_ends : {X V : Type 0} (S : Sense X) (P : V → Filter → Type 0) (f : V → Arrow Filter (Unit {0})) (all xs : List V) (i : ℕ) (first last : X)
    → ((q : Result (Unit {0}) CallError) (v : X) → Answers S (All P (drop i xs)) (each f (drop i xs)) last q v → Answers S (All P all) (each f all) first q v)
    → length xs ≤ i → Answers S (All P all) (each f all) first (Ok unit) last
all_ends S P f all xs i first last inv h =
    inv (Ok unit) last (subst (λ (ys : List _). Answers S (All P ys) (each f ys) last (Ok unit) last) (sym (drop_of_length-le xs h)) (returned S (All P []) unit last))

pub each_exits : {X V : Type 0} (S : Sense X) (f : V → Arrow Filter (Unit {0})) (all xs : List V) (i : ℕ) (x : V) (first old : X) (e : CallError) (r : Result (Unit {0}) CallError) (new : X)
    → ((q : Result (Unit {0}) CallError) (v : X) → Answers S Any (each f (drop i xs)) old q v → Answers S Any (each f all) first q v)
    → i < length xs → x ≡ get_or xs i x → Answers S Any (f x) old (Err e) new → IsErrAnd r (λ y. y ≡ e) → Answers S Any (each f all) first r new
each_exits S f all xs i x first old e r new inv small at a is =
    let p = err_from_is_err_and r is in
    let fail : Answers S Any (each f (drop i xs)) old (Err e) new = subst (λ (ys : List _). Answers S Any (each f ys) old (Err e) new) (sym (drop_at xs i x small at)) (stops_first S Any (f x) (each f (drop (i + 1) xs)) old new e a) in
    subst (λ (q : Result (Unit {0}) CallError). Answers S Any (each f all) first q new) (sym (p.1 ∙ ap (λ (z : CallError). Err z) p.2)) (inv (Err e) new fail)

pub each_ends : {X V : Type 0} (S : Sense X) (f : V → Arrow Filter (Unit {0})) (all xs : List V) (i : ℕ) (first last : X)
    → ((q : Result (Unit {0}) CallError) (v : X) → Answers S Any (each f (drop i xs)) last q v → Answers S Any (each f all) first q v)
    → length xs ≤ i → Answers S Any (each f all) first (Ok unit) last
each_ends S f all xs i first last inv h = inv (Ok unit) last (subst (λ (ys : List _). Answers S Any (each f ys) last (Ok unit) last) (sym (drop_of_length-le xs h)) (returned S Any unit last))

-- what is known of each state that it stands for
pub known : {X A : Type 0} (S : Sense X) (P : Filter → Type 0) (f : Arrow Filter A) (old new : X) (r : Result A CallError) → ((s : Filter) → S.means old s → P s) → Answers S P f old r new → Answers S Any f old r new
known S P f old new r w h = record { leads = λ s i p. h.leads s i (w s i) }

-- of what a call gives where it gives something
pub ok_map : {A E : Type 0} (r : Result A E) (P Q : A → Type 0) → ((x : A) → P x → Q x) → IfOk r P → IfOk r Q
ok_map (Ok x) P Q f h = f x h
ok_map (Err e) P Q f h = h

pub ok_both : {A E : Type 0} (r : Result A E) (P Q R : A → Type 0) → ((x : A) → P x → Q x → R x) → IfOk r P → IfOk r Q → IfOk r R
ok_both (Ok x) P Q R f h g = f x h g
ok_both (Err e) P Q R f h g = h
