-- Loops over a list, each turn of which is a part of the whole.
use Rattle.std.proofs.Common.{◌≡◌, List, sym, ◌∙◌, ap, subst, ℕ, ◌+◌, ◌<◌, ◌≤◌, length, drop, get_or}
use Rattle.std.proofs.Math.ListN.{drop_of_length-le}
use Rattle.std.proofs.lemmas.Result.{err_from_is_err_and}
use Rattle.std.specs.Prelude.{Result, Ok, Err}
use Rattle.std.specs.Result.{IsErrAnd}
use Rattle.cf_base.specs.declared.codes.CallError.{CallError}
use Rattle.cf_engine_steps.specs.Answering.{Answers, Any, Whole}
use Rattle.cf_engine_steps.proofs.Laws.{returned, stops_first, then_any}
use Rattle.cf_model.specs.Arrows.{Arrow, each, unit}
use Rattle.cf_model.specs.State.{State}
use Rattle.cf_filter_steps.proofs.Laws.{drop_at}

pub each_more : {X V : Type 0} (W : Whole X) (f : V → Arrow State (Unit {0})) (xs : List V) (i : ℕ) (x : V) (old mid : X) (v : Unit {0}) (r : Result (Unit {0}) CallError) (new : X)
    → i < length xs → x ≡ get_or xs i x → Answers W Any (f x) old (Ok v) mid → Answers W Any (each f (drop (i + 1) xs)) mid r new → Answers W Any (each f (drop i xs)) old r new
each_more W f xs i x old mid v r new small is a rest =
    subst (λ (ys : List _). Answers W Any (each f ys) old r new) (sym (drop_at xs i x small is)) (then_any W Any (f x) (each f (drop (i + 1) xs)) old mid new v r a rest)

pub each_exits : {X V : Type 0} (W : Whole X) (f : V → Arrow State (Unit {0})) (all xs : List V) (i : ℕ) (x : V) (first old : X) (e : CallError) (r : Result (Unit {0}) CallError) (new : X)
    → ((q : Result (Unit {0}) CallError) (v : X) → Answers W Any (each f (drop i xs)) old q v → Answers W Any (each f all) first q v)
    → i < length xs → x ≡ get_or xs i x → Answers W Any (f x) old (Err e) new → IsErrAnd r (λ y. y ≡ e) → Answers W Any (each f all) first r new
each_exits W f all xs i x first old e r new inv small at a is =
    let p = err_from_is_err_and r is in
    let fail : Answers W Any (each f (drop i xs)) old (Err e) new = subst (λ (ys : List _). Answers W Any (each f ys) old (Err e) new) (sym (drop_at xs i x small at)) (stops_first W Any (f x) (each f (drop (i + 1) xs)) old new e a) in
    subst (λ (q : Result (Unit {0}) CallError). Answers W Any (each f all) first q new) (sym (p.1 ∙ ap (λ (z : CallError). Err z) p.2)) (inv (Err e) new fail)

pub each_ends : {X V : Type 0} (W : Whole X) (f : V → Arrow State (Unit {0})) (all xs : List V) (i : ℕ) (first last : X)
    → ((q : Result (Unit {0}) CallError) (v : X) → Answers W Any (each f (drop i xs)) last q v → Answers W Any (each f all) first q v)
    → length xs ≤ i → Answers W Any (each f all) first (Ok unit) last
each_ends W f all xs i first last inv h = inv (Ok unit) last (subst (λ (ys : List _). Answers W Any (each f ys) last (Ok unit) last) (sym (drop_of_length-le xs h)) (returned W Any unit last))
