-- Items that are removed, or left out.
use Rattle.std.proofs.Common.{◌≡◌, ◌∷◌, Bool, true, false, not, List, [], refl, sym, ◌∙◌, ap, subst}
use Rattle.std.proofs.lemmas.Bool.{or_parts}
use Rattle.std.specs.Prelude.{Result, Ok, Err, Option, Some, None, ◌==◌, ◌||◌}
use Rattle.cf_base.specs.declared.changes.Change.TheVariants as change
use Rattle.cf_base.specs.declared.codes.Code.TheVariants as code
use Rattle.cf_base.specs.declared.codes.CallError.{CallError}
use Rattle.cf_base.specs.declared.ids.ItemId.{ItemId}
use Rattle.cf_base.specs.declared.ids.Usn.{Usn}
use Rattle.cf_engine_steps.specs.Answering.{Answers, Any, On}
use Rattle.cf_engine_steps.specs.Readings.{is_here}
use Rattle.cf_engine_steps.specs.Removals.{CanGo, GoesIf, GoesNow}
use Rattle.cf_engine_steps.specs.States.{Own, whole}
use Rattle.cf_engine_steps.proofs.Laws.{known}
use Rattle.cf_engine_steps.proofs.Lifting.{lift_filter, quiet_change}
use Rattle.cf_engine_steps.proofs.SuitedMoves.{there_is}
use Rattle.cf_engine_steps.proofs.Tried.{tried_done, tried_fails, tried_skips}
use Rattle.cf_filter_calls.proofs.Carried.{waited}
use Rattle.cf_filter_calls.proofs.Moved.{place_left, place_none}
use Rattle.cf_filter_calls.proofs.Suited.{not_false}
use Rattle.cf_filter_calls.specs.Moved.{has_children}
use Rattle.cf_filter_steps.specs.Answering as steps
use Rattle.cf_filter_steps.specs.Putting.{MayGo, removed}
use Rattle.cf_filter_steps.specs.Readings.{has_handle, next_place}
use Rattle.cf_model.specs.Arrows.{seq}
use Rattle.cf_model.specs.Changes.{change as one_change, no_places}
use Rattle.cf_model.specs.Dehydration.{in_use}
use Rattle.cf_model.specs.Items.{Item, item_of}
use Rattle.cf_model.specs.LookUp.{children}
use Rattle.cf_model.specs.Numbers.{no_key}
use Rattle.cf_model.specs.Requests.{is_busy_beside}
use Rattle.cf_model.specs.Skips.{change_refused, do_change, not_done, or_else, skip, try_change, why_no_change}
use Rattle.cf_model.specs.State.{Filter, State, Volume}
use Rattle.cf_model.specs.Trees.{Does}
use Rattle.cf_model.specs.Words.{first_of, is_empty}
use Rattle.cf_remote.specs.Told.{Told}
use Rattle.cf_tree.proofs.Walks.{own_id}

pub never_goes : {X : Type 0} (S : steps.Sense X) (item : ItemId) (x : X) → GoesIf S item x false
never_goes S item x = record { goes = λ e. let z : false ≡ true = e in absurd cc }

-- what was tested

empty_is : (xs : List Item) → is_empty xs ≡ true → xs ≡ []
empty_is [] e = refl
empty_is (x ∷ xs) e = let z : false ≡ true = e in absurd cc

full_not : (b c : Bool) → not b ≡ true → b ≡ c → c ≡ false
full_not false c h e = sym e
full_not true c h e = let z : false ≡ true = h in absurd cc

pub goes_by : {X : Type 0} (S : steps.Sense X) (item : ItemId) (x : X) (h u b : Bool) → (item.0 == 1) ≡ false → h ≡ true → steps.Reads S steps.Any (is_here item) x h → u ≡ false → steps.Reads S steps.Any (in_use item) x u → steps.Reads S steps.Any (has_children item) x b
    → GoesIf S item x (not b)
goes_by S item x h u b below hi here ui used full = record {
  goes = λ bi. record {
    goes = λ s m.
        let free = or_parts (has_handle item s) (is_busy_beside item (record { 0 = no_key }) s.waiting) (sym (used.is s m (record {})) ∙ ui) in record {
          below = below;
          there = sym (here.is s m (record {})) ∙ hi;
          empty = empty_is (children s.volume.items item) (not_false (is_empty (children s.volume.items item)) (full_not b (has_children item s) bi (full.is s m (record {}))));
          closed = free.0;
          idle = waited item s.waiting.waits (S.good x s m).numbered ∙ free.1;
        };
  };
}

-- the step is the change

pub removed_as_change : {X : Type 0} (S : steps.Sense X) (id : ItemId) (x y : X) (r : Result (Unit {0}) CallError) → ((i : Item) → steps.Answers S (MayGo id i) (removed false i) x r y) → steps.Answers S (GoesNow id) (one_change (change.Remove id)) x r y
removed_as_change S id x y r h = record {
  leads = λ s m p.
      subst (λ (k : ItemId). (t : Filter) × Does (one_change (change.Remove k) s) r t × S.moved x y s t × steps.After S x r y t) (sym (own_id s.volume.items id p.0 p.1.there)) ((h p.0).leads s m p.1);
}

-- why it is refused

room : (id : ItemId) (v : Volume) (b : Bool) → no_places v 1 ≡ b → change_refused (change.Remove id) v ≡ first_of ((b, code.Exhausted) ∷ [])
room id v b e = ap (λ (c : Bool). or_else None (first_of ((c || false, code.Exhausted) ∷ (false, code.TableFull) ∷ (false, code.Full) ∷ []))) e ∙ two b where
  two : (c : Bool) → or_else None (first_of ((c || false, code.Exhausted) ∷ (false, code.TableFull) ∷ (false, code.Full) ∷ [])) ≡ first_of ((c, code.Exhausted) ∷ [])
  two true = refl
  two false = refl

module _ {X R : Type 0} (S : steps.Sense X) (told : R → Told) (id : ItemId) (x y : X) (e : Own R) where
  goes_so : (s : State) → (whole S told).means (x, e) s → On (GoesNow id) s → (why_no_change (change.Remove id) s ≡ None) × On (GoesNow id) s
  goes_so s i p = (room id s.filter.volume false p.1.left, p)

  pub removal_done : (u : Unit {0}) → ((i : Item) → steps.Answers S (MayGo id i) (removed false i) x (Ok u) y) → Answers (whole S told) (On (GoesNow id)) (try_change (change.Remove id)) (x, e) (Ok true) (y, e)
  removal_done u h = tried_done (whole S told) (On (GoesNow id)) (On (GoesNow id)) (why_no_change (change.Remove id)) (do_change (change.Remove id)) (x, e) (y, e) u goes_so
      (lift_filter S told (GoesNow id) (one_change (change.Remove id)) x y e (Ok u) (quiet_change (change.Remove id)) (removed_as_change S id x y (Ok u) h))

  pub removal_fails : (f : CallError) → ((i : Item) → steps.Answers S (MayGo id i) (removed false i) x (Err f) y) → Answers (whole S told) (On (GoesNow id)) (try_change (change.Remove id)) (x, e) (Err f) (y, e)
  removal_fails f h = tried_fails (whole S told) (On (GoesNow id)) (On (GoesNow id)) (why_no_change (change.Remove id)) (do_change (change.Remove id)) (x, e) (y, e) f goes_so
      (lift_filter S told (GoesNow id) (one_change (change.Remove id)) x y e (Err f) (quiet_change (change.Remove id)) (removed_as_change S id x y (Err f) h))

module _ {X R : Type 0} (S : steps.Sense X) (told : R → Told) (id : ItemId) (x y : X) (e f : Own R) (o : Option Usn) (r : Result Bool CallError) where
  pub removal_on : (n : Usn) → CanGo S id x → steps.Reads S steps.Any next_place x o → o ≡ Some n → Answers (whole S told) (On (GoesNow id)) (try_change (change.Remove id)) (x, e) r (y, f)
      → Answers (whole S told) Any (try_change (change.Remove id)) (x, e) r (y, f)
  removal_on n can reads is k = known (whole S told) (On (GoesNow id)) (try_change (change.Remove id)) (x, e) (y, f) r
      (λ s i.
      let h = can.goes s.filter i.filter in let j = there_is (item_of s.filter.volume.items id) h.there in
      (j.0, record { there = j.1; below = h.below; empty = h.empty; closed = h.closed; idle = h.idle; left = sym ((place_left S x o n reads is).is s.filter i.filter (record {})) }))
      k

  pub removal_skipped : steps.Reads S steps.Any next_place x o → o ≡ None → Answers (whole S told) Any (seq (skip code.Exhausted) not_done) (x, e) r (y, f) → Answers (whole S told) Any (try_change (change.Remove id)) (x, e) r (y, f)
  removal_skipped reads is k = tried_skips (whole S told) Any Any (why_no_change (change.Remove id)) (do_change (change.Remove id)) (x, e) (y, f) code.Exhausted r
      (λ s i p. room id s.filter.volume true (sym ((place_none S x o reads is).is s.filter i.filter (record {})))) k
