-- Changes one after the other, each of which finds what it needs.
use Rattle.std.proofs.Common.{◌≡◌, ◌⊎◌, inl, inr, Bool, true, false, List, [], ◌∷◌, sym, ◌∙◌, ap, subst, ℕ, ◌+◌, ◌<◌, ◌≤◌, length, drop, get_or}
use Rattle.std.proofs.Math.ListN.{drop_of_length-le}
use Rattle.std.proofs.lemmas.Result.{err_from_is_err_and}
use Rattle.std.specs.Prelude.{Result, Ok, Err}
use Rattle.std.specs.Result.{IsErrAnd}
use Rattle.cf_base.specs.declared.changes.Change.{Change}
use Rattle.cf_base.specs.declared.codes.CallError.{CallError}
use Rattle.cf_model.specs.Arrows.{unit}
use Rattle.cf_model.specs.Blocks.{puts_into}
use Rattle.cf_model.specs.Changes.{change, changes, may_need_room, put_after_room, put_change, same_book, tell_change}
use Rattle.cf_model.specs.Items.{Item}
use Rattle.cf_model.specs.Points.{with_room_point}
use Rattle.cf_model.specs.State.{Filter, Point, Volume, with_volume}
use Rattle.cf_model.specs.Trees.{Ends, bind, mapped}
use Rattle.cf_filter_steps.specs.Answering.{Answers, Sense}
use Rattle.cf_filter_steps.specs.Suiting.{AreReady, Ready, ReadyAll}
use Rattle.cf_filter_steps.proofs.Laws.{drop_at, returned, stops_first, then_on, weaker}

-- a change may come after a commit for room
pub change_ends : (c : Change) (s : Filter) (a : Unit {0}) (t : Filter) → Ends (change c s) a t → (t.volume ≡ put_change c s.volume) ⊎ (t.volume ≡ put_change c (with_room_point s.volume))
change_ends c s a t h = one (may_need_room c s.volume) h where
  one : (b : Bool) → Ends (bind (mapped (λ v. with_volume v s) (put_after_room same_book c b s.volume)) (tell_change c)) a t → (t.volume ≡ put_change c s.volume) ⊎ (t.volume ≡ put_change c (with_room_point s.volume))
  one false h = inl (ap (λ (x : Filter). x.volume) h.1)
  one true (inl h) = inl (ap (λ (x : Filter). x.volume) h.1)
  one true (inr h) = inr (ap (λ (x : Filter). x.volume) h.1)

-- no change asks for the points
pub ready_still : (cs : List Change) (v : Volume) (ps : List Point) (items : List Item) (n : ℕ) → AreReady cs v → AreReady cs (record v { points = ps; items_then = items; put_since = n })
ready_still [] v ps items n h = record {}
ready_still (c ∷ cs) v ps items n h =
    (record { room = h.0.room; suits = record { fits = h.0.suits.fits; needs = h.0.suits.needs; plants = h.0.suits.plants; lasts = h.0.suits.lasts } }, ready_still cs (put_change c v) ps items (n + length (puts_into v.items c)) h.1)

pub ready_next : (c : Change) (cs : List Change) (s t : Filter) (a : Unit {0}) → ReadyAll (c ∷ cs) s → Ends (change c s) a t → ReadyAll cs t
ready_next c cs s t a h e = one (change_ends c s a t e) where
  one : (t.volume ≡ put_change c s.volume) ⊎ (t.volume ≡ put_change c (with_room_point s.volume)) → AreReady cs t.volume
  one (inl q) = subst (λ (v : Volume). AreReady cs v) (sym q) h.1
  one (inr q) = subst (λ (v : Volume). AreReady cs v) (sym q) (ready_still cs (put_change c s.volume) _ s.volume.items _ h.1)

pub change_first : {X : Type 0} (S : Sense X) (c : Change) (cs : List Change) (old mid : X) (v : Unit {0}) (r : Result (Unit {0}) CallError) (new : X)
    → Answers S (Ready c) (change c) old (Ok v) mid → Answers S (ReadyAll cs) (changes cs) mid r new → Answers S (ReadyAll (c ∷ cs)) (changes (c ∷ cs)) old r new
change_first S c cs old mid v r new h k =
    then_on S (ReadyAll (c ∷ cs)) (ReadyAll cs) (change c) (changes cs) old mid new v r (λ s t p e. ready_next c cs s t v p e) (weaker S (Ready c) (ReadyAll (c ∷ cs)) (change c) old mid (Ok v) (λ s p. p.0) h) k

-- a step of the loop
pub changes_more : {X : Type 0} (S : Sense X) (cs : List Change) (i : ℕ) (x : Change) (old mid : X) (v : Unit {0}) (r : Result (Unit {0}) CallError) (new : X)
    → i < length cs → x ≡ get_or cs i x → Answers S (Ready x) (change x) old (Ok v) mid → Answers S (ReadyAll (drop (i + 1) cs)) (changes (drop (i + 1) cs)) mid r new
    → Answers S (ReadyAll (drop i cs)) (changes (drop i cs)) old r new
changes_more S cs i x old mid v r new small is a rest =
    subst (λ (ys : List Change). Answers S (ReadyAll ys) (changes ys) old r new) (sym (drop_at cs i x small is)) (change_first S x (drop (i + 1) cs) old mid v r new a rest)

-- its exit
pub changes_exit : {X : Type 0} (S : Sense X) (all cs : List Change) (i : ℕ) (x : Change) (first old : X) (e : CallError) (r : Result (Unit {0}) CallError) (new : X)
    → ((q : Result (Unit {0}) CallError) (v : X) → Answers S (ReadyAll (drop i cs)) (changes (drop i cs)) old q v → Answers S (ReadyAll all) (changes all) first q v)
    → i < length cs → x ≡ get_or cs i x → Answers S (Ready x) (change x) old (Err e) new → IsErrAnd r (λ y. y ≡ e) → Answers S (ReadyAll all) (changes all) first r new
changes_exit S all cs i x first old e r new inv small at a is =
    let p = err_from_is_err_and r is in
    let fail : Answers S (ReadyAll (drop i cs)) (changes (drop i cs)) old (Err e) new =
    subst (λ (ys : List Change). Answers S (ReadyAll ys) (changes ys) old (Err e) new) (sym (drop_at cs i x small at))
    (stops_first S (ReadyAll (x ∷ drop (i + 1) cs)) (change x) (changes (drop (i + 1) cs)) old new e
    (weaker S (Ready x) (ReadyAll (x ∷ drop (i + 1) cs)) (change x) old new (Err e) (λ s p. p.0) a)) in
    subst (λ (q : Result (Unit {0}) CallError). Answers S (ReadyAll all) (changes all) first q new) (sym (p.1 ∙ ap (λ (z : CallError). Err z) p.2)) (inv (Err e) new fail)

-- its end
pub changes_end : {X : Type 0} (S : Sense X) (all cs : List Change) (i : ℕ) (first last : X)
    → ((q : Result (Unit {0}) CallError) (v : X) → Answers S (ReadyAll (drop i cs)) (changes (drop i cs)) last q v → Answers S (ReadyAll all) (changes all) first q v)
    → length cs ≤ i → Answers S (ReadyAll all) (changes all) first (Ok unit) last
changes_end S all cs i first last inv h =
    inv (Ok unit) last (subst (λ (ys : List Change). Answers S (ReadyAll ys) (changes ys) last (Ok unit) last) (sym (drop_of_length-le cs h)) (returned S (ReadyAll []) unit last))
