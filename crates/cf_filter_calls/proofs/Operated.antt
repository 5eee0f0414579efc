-- A change of an operation, and the step after it.
use Rattle.std.proofs.Common.{◌≡◌, inl, inr, Bool, true, false, List, [], ◌∷◌, refl, sym, ◌∙◌, ap, subst, Option, Some, None}
use Rattle.std.proofs.lemmas.Bool.{or_parts}
use Rattle.std.specs.Prelude.{Result, Ok, Err, ◌&&◌, ◌||◌}
use Rattle.cf_ask_rule.specs.Plans.{Planned}
use Rattle.cf_base.specs.declared.answers.Shown.{Shown}
use Rattle.cf_base.specs.declared.answers.Shown.TheVariants as shown
use Rattle.cf_base.specs.declared.changes.Change.{Change}
use Rattle.cf_base.specs.declared.changes.Change.TheVariants as change
use Rattle.cf_base.specs.declared.codes.Code.{Code}
use Rattle.cf_base.specs.declared.codes.Code.TheVariants as code
use Rattle.cf_base.specs.declared.codes.CallError.{CallError}
use Rattle.cf_base.specs.declared.ids.ItemId.{ItemId}
use Rattle.cf_filter_calls.specs.Operating.{IsOperable, IsOperableBy, MayChangeBy, change_code, change_refusal, changed_then, operated}
use Rattle.cf_model.specs.Arrows.{then_do, unless}
use Rattle.cf_model.specs.Changes.{change as one_change, lacks_numbers, may_need_room, needs_id, no_blocks, no_places, no_table, put_after_room, same_book, tell_change}
use Rattle.cf_model.specs.Operations.{done, waiting_after, with_changes}
use Rattle.cf_model.specs.Requests.{Deed, Waiting, no_numbers, too_many_asks}
use Rattle.cf_model.specs.Settling.{settle}
use Rattle.cf_model.specs.State.{Filter, with_volume}
use Rattle.cf_model.specs.Trees.{Does, Ends, bind, mapped}
use Rattle.cf_model.specs.Words.{first_of}
use Rattle.cf_waits.specs.Steps.{carried}
use Rattle.cf_filter_steps.specs.Answering.{After, Answers, Any, Reads, Sense}
use Rattle.cf_filter_steps.specs.Looking.{IsSeen}
use Rattle.cf_filter_steps.specs.Readings.{room_of, waiting_of}
use Rattle.cf_filter_steps.specs.Settled.{IsStepAfter, IsStepNow, LooksAfter}
use Rattle.cf_filter_steps.specs.Suiting.{Ready, Suiting}
use Rattle.cf_filter_steps.specs.declared.rooms.Room.{Room}
use Rattle.cf_filter_steps.proofs.Laws.{returned, stops_first, then_on}
use Rattle.cf_filter_calls.proofs.Suited.{first_none}

-- it makes no item
seen_plain : (c : Change) (item : ItemId) → IsSeen c item → needs_id c ≡ false
seen_plain (change.Filled item start bytes) id h = refl
seen_plain (change.Validated item start len) id h = refl
seen_plain (change.Emptied item start len) id h = refl
seen_plain (change.Mark item number) id h = refl
seen_plain (change.Keep item on) id h = refl
seen_plain (change.Make item parent name kind size identity) id h = absurd h
seen_plain (change.Remove item) id h = absurd h
seen_plain (change.Move item parent name) id h = absurd h
seen_plain (change.Write item at bytes) id h = absurd h
seen_plain (change.Size item size) id h = absurd h
seen_plain (change.SetPin item pin) id h = absurd h
seen_plain (change.Clear item) id h = absurd h
seen_plain (change.Convert item identity) id h = absurd h
seen_plain (change.Revert item) id h = absurd h
seen_plain (change.Rebase item identity len at) id h = absurd h
seen_plain (change.Take item identity size) id h = absurd h
seen_plain (change.Copy item from parent name) id h = absurd h
seen_plain (change.Populated item) id h = absurd h

numbers_is : (c : Change) (item : ItemId) (s : Filter) → IsSeen c item → lacks_numbers s.volume (c ∷ []) ≡ no_places s.volume 1
numbers_is c item s h = one (no_places s.volume 1) (needs_id c) (seen_plain c item h) where
  one : (a b : Bool) → b ≡ false → (a || (b || false)) ≡ a
  one true b e = refl
  one false true e = e
  one false false e = refl

-- why it is refused

pub refusal_is : {X : Type 0} (S : Sense X) (x : X) (c : Change) (cs : List Change) (p : Planned) (w v : Waiting) (room : Room) (counts many none : Bool) (why : Option Code)
    → cs ≡ c ∷ [] → Reads S (Suiting cs) (room_of cs) x room → Reads S Any waiting_of x w → many ≡ too_many_asks (carried p w).1 → Reads S Any waiting_of x v → none ≡ no_numbers (carried p v).1
    → why ≡ change_code room.no_table room.no_blocks (counts && many) (room.no_numbers || none)
    → (item : ItemId) (d : Deed) → Reads S (IsOperableBy item c d p) (change_refusal counts item c d) x why
refusal_is S x c cs p w v room counts many none why same rooms waits m waits2 n e item d = record {
  is = λ s h q.
      let r : room ≡ room_of (c ∷ []) s = (subst (λ (ds : List Change). Reads S (Suiting ds) (room_of ds) x room) same rooms).is s h (q.operable.suits, record {}) in
      let step : (carried p s.waiting).1 ≡ waiting_after item d (with_changes (c ∷ []) s) = ap (λ (t : _ × Waiting). t.1) q.step in
      let many_is : many ≡ too_many_asks (waiting_after item d (with_changes (c ∷ []) s)) = m ∙ ap (λ (u : Waiting). too_many_asks (carried p u).1) (waits.is s h (record {})) ∙ ap too_many_asks step in
      let none_is : none ≡ no_numbers (waiting_after item d (with_changes (c ∷ []) s)) = n ∙ ap (λ (u : Waiting). no_numbers (carried p u).1) (waits2.is s h (record {})) ∙ ap no_numbers step in
      let numbers : room.no_numbers ≡ no_places s.volume 1 = ap (λ (y : Room). y.no_numbers) r ∙ numbers_is c item s q.operable.seen in
      e ∙ (λ j. change_code (r j).no_table (r j).no_blocks (counts && many_is j) (numbers j || none_is j));
}

-- nothing refuses it

three_none : (a b d : Bool) → a ≡ false → b ≡ false → d ≡ false → first_of ((a, code.Exhausted) ∷ (b, code.TableFull) ∷ (d, code.Full) ∷ []) ≡ None
three_none false false false p q r = refl
three_none true b d p q r = let z : true ≡ false = p in absurd cc
three_none false true d p q r = let z : true ≡ false = q in absurd cc
three_none false false true p q r = let z : true ≡ false = r in absurd cc

change_ready : (counts : Bool) (item : ItemId) (c : Change) (d : Deed) (s : Filter) → IsOperable item c s → change_refusal counts item c d s ≡ None → Ready c s
change_ready counts item c d s h e =
    let after : Waiting = waiting_after item d (with_changes (c ∷ []) s) in
    let t3 : List (Bool × Code) = (no_places s.volume 1 || no_numbers after, code.Exhausted) ∷ [] in
    let t2 : List (Bool × Code) = (counts && too_many_asks after, code.TooManyAsks) ∷ t3 in
    let t1 : List (Bool × Code) = (no_blocks s.volume (c ∷ []), code.Full) ∷ t2 in
    let a = first_none (no_table s.volume (c ∷ [])) code.TableFull t1 e in
    let b = first_none (no_blocks s.volume (c ∷ [])) code.Full t2 a.1 in
    let f = first_none (counts && too_many_asks after) code.TooManyAsks t3 b.1 in
    let g = first_none (no_places s.volume 1 || no_numbers after) code.Exhausted [] f.1 in
    record {
      room = three_none (lacks_numbers s.volume (c ∷ [])) (no_table s.volume (c ∷ [])) (no_blocks s.volume (c ∷ [])) (numbers_is c item s h.seen ∙ (or_parts (no_places s.volume 1) (no_numbers after) g.0).0) a.0 b.0;
      suits = h.suits;
    }

-- the change, and the step after it

step_next : (c : Change) (item : ItemId) (d : Deed) (p : Planned) (s : Filter) (a : Unit {0}) (t : Filter) → IsStepAfter item (c ∷ []) d p s → Ends (one_change c s) a t → IsStepNow item d p t
step_next c item d p s a t e h = one (may_need_room c s.volume) h where
  one : (b : Bool) → Ends (bind (mapped (λ v. with_volume v s) (put_after_room same_book c b s.volume)) (tell_change c)) a t → IsStepNow item d p t
  one false h = subst (λ (u : Filter). IsStepNow item d p u) (sym h.1) e
  one true (inl h) = subst (λ (u : Filter). IsStepNow item d p u) (sym h.1) e
  one true (inr h) = subst (λ (u : Filter). IsStepNow item d p u) (sym h.1) e

then_settle : {X : Type 0} (S : Sense X) (x mid new : X) (c : Change) (p : Planned) (u : Unit {0}) (item : ItemId) (d : Deed) (r : Result Shown CallError)
    → Answers S (Ready c) (one_change c) x (Ok u) mid → Answers S (IsStepNow item d p) (then_do (settle item d) done) mid r new → Answers S (MayChangeBy item c d p) (changed_then item c d) x r new
then_settle S x mid new c p u item d r a b =
    then_on S (MayChangeBy item c d p) (IsStepNow item d p) (one_change c) (then_do (settle item d) done) x mid new u r (λ s t q e. step_next c item d p s u t q.step e)
    (record { leads = λ s h q. a.leads s h q.ready }) b

pub changed_on : {X : Type 0} (S : Sense X) (x mid new : X) (c : Change) (p : Planned) (u v : Unit {0})
    → Answers S (Ready c) (one_change c) x (Ok u) mid → ((item : ItemId) (d : Deed) → Answers S (IsStepNow item d p) (settle item d) mid (Ok v) new)
    → (item : ItemId) (d : Deed) → Answers S (MayChangeBy item c d p) (changed_then item c d) x (Ok shown.Done) new
changed_on S x mid new c p u v a b item d = then_settle S x mid new c p u item d (Ok shown.Done) a
    (then_on S (IsStepNow item d p) Any (settle item d) done mid new new v (Ok shown.Done) (λ s t q e. record {}) (b item d) (returned S Any shown.Done new))

pub changed_not : {X : Type 0} (S : Sense X) (x mid new : X) (c : Change) (p : Planned) (u : Unit {0}) (e : CallError)
    → Answers S (Ready c) (one_change c) x (Ok u) mid → ((item : ItemId) (d : Deed) → Answers S (IsStepNow item d p) (settle item d) mid (Err e) new)
    → (item : ItemId) (d : Deed) → Answers S (MayChangeBy item c d p) (changed_then item c d) x (Err e) new
changed_not S x mid new c p u e a b item d = then_settle S x mid new c p u item d (Err e) a (stops_first S (IsStepNow item d p) (settle item d) done mid new e (b item d))

pub change_fails : {X : Type 0} (S : Sense X) (x new : X) (c : Change) (p : Planned) (e : CallError)
    → Answers S (Ready c) (one_change c) x (Err e) new → (item : ItemId) (d : Deed) → Answers S (MayChangeBy item c d p) (changed_then item c d) x (Err e) new
change_fails S x new c p e a item d = stops_first S (MayChangeBy item c d p) (one_change c) (then_do (settle item d) done) x new e (record { leads = λ s h q. a.leads s h q.ready })

-- both, or why not

pub operated_off : {X : Type 0} (S : Sense X) (x : X) (item : ItemId) (c : Change) (d : Deed) (p : Planned) (counts : Bool) (why : Option Code) (k : Code)
    → LooksAfter S item c d p x → ((i : ItemId) (e : Deed) → Reads S (IsOperableBy i c e p) (change_refusal counts i c e) x why) → why ≡ Some k → Answers S (IsOperable item c) (operated counts item c d) x (Ok (shown.Refused k)) x
operated_off S x item c d p counts why k looks reads e = record {
  leads = λ s h q.
      subst (λ (o : Option Code). (t : Filter) × Does {A = Shown} (unless shown.Refused o (changed_then item c d) s) (Ok (shown.Refused k)) t × S.moved x x s t × After {A = Shown} S x (Ok (shown.Refused k)) x t)
      (sym e ∙ (reads item d).is s h (record { operable = q; step = looks.is s h q.seen })) (s, (refl, refl), S.stays x s h, h);
}

pub operated_on : {X : Type 0} (S : Sense X) (x new : X) (item : ItemId) (c : Change) (d : Deed) (p : Planned) (counts : Bool) (why : Option Code) (r : Result Shown CallError)
    → LooksAfter S item c d p x → ((i : ItemId) (e : Deed) → Reads S (IsOperableBy i c e p) (change_refusal counts i c e) x why) → why ≡ None
    → ((i : ItemId) (e : Deed) → Answers S (MayChangeBy i c e p) (changed_then i c e) x r new) → Answers S (IsOperable item c) (operated counts item c d) x r new
operated_on S x new item c d p counts why r looks reads e a = record {
  leads = λ s h q.
      let step : IsStepAfter item (c ∷ []) d p s = looks.is s h q.seen in
      let free : None ≡ change_refusal counts item c d s = sym e ∙ (reads item d).is s h (record { operable = q; step = step }) in
      subst (λ (o : Option Code). (t : Filter) × Does (unless shown.Refused o (changed_then item c d) s) r t × S.moved x new s t × After S x r new t) free
      ((a item d).leads s h (record { ready = change_ready counts item c d s q (sym free); step = step }));
}
