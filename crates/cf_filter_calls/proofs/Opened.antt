-- Handles, and ends from outside.
use Rattle.std.proofs.Common.{◌≡◌, Bool, true, false, not, refl, sym, ◌∙◌, ap, subst, Option, Some, None}
use Rattle.std.specs.Prelude.{Result, Ok, Err, option_map}
use Rattle.cf_base.specs.declared.answers.Shown.{Shown}
use Rattle.cf_base.specs.declared.answers.Shown.TheVariants as shown
use Rattle.cf_base.specs.declared.codes.Code.{Code}
use Rattle.cf_base.specs.declared.codes.Code.TheVariants as code
use Rattle.cf_base.specs.declared.codes.CallError.{CallError}
use Rattle.cf_base.specs.declared.ids.Handle.{Handle}
use Rattle.cf_base.specs.declared.ids.ItemId.{ItemId}
use Rattle.cf_base.specs.declared.ids.WaitId.{WaitId}
use Rattle.cf_filter_calls.specs.Handles.{cancel_item, open_by, opened_next}
use Rattle.cf_model.specs.Arrows.{noted, reading, ret, then_do, unit, unless}
use Rattle.cf_model.specs.Calls.{next_handle, open_tests, opened_as, with_handle}
use Rattle.cf_model.specs.Missing.{Wait}
use Rattle.cf_model.specs.Operations.{done}
use Rattle.cf_model.specs.Requests.{Waiting}
use Rattle.cf_model.specs.Settling.{tell}
use Rattle.cf_model.specs.State.{Filter}
use Rattle.cf_model.specs.Trees.{Does}
use Rattle.cf_model.specs.Waits.{all_down, cancel, cancel_wait, close_item, connect, end_handle, is_last, waiting_by, without_handle}
use Rattle.cf_model.specs.Words.{first_of}
use Rattle.cf_model.proofs.TreeLaws as trees
use Rattle.cf_waits.specs.Told.{wait_of}
use Rattle.cf_filter_steps.specs.Answering.{After, Answers, Any, Reads, Sense}
use Rattle.cf_filter_steps.specs.Needing.{MayOpen, MayOpenFile, with_link}
use Rattle.cf_filter_steps.specs.Putting.{IsFile}
use Rattle.cf_filter_steps.specs.Readings.{has_handle, open_refusal, waiting_of}
use Rattle.cf_filter_steps.proofs.Laws.{after_err, any_on, reads_on, returned, stops_first, then_on}

-- the next handle

pub opened : {X : Type 0} (S : Sense X) (id : ItemId) (h : Handle) (x new : X)
    → Answers S (MayOpenFile id) (noted (with_handle id)) x (Ok unit) new → Reads S MayOpen next_handle x h → Answers S (MayOpenFile id) (opened_next id) x (Ok (shown.Opened h)) new
opened S id h x new a reads =
    reads_on S (MayOpenFile id) next_handle (opened_as id) x new h (Ok (shown.Opened h)) (record { is = λ s i p. reads.is s i p.room })
    (then_on S (MayOpenFile id) Any (noted (with_handle id)) (ret (shown.Opened h)) x new new unit (Ok (shown.Opened h)) (λ s t p q. record {}) a (returned S Any (shown.Opened h) new))

pub opened_not : {X : Type 0} (S : Sense X) (id : ItemId) (e : CallError) (x new : X) → Answers S (MayOpenFile id) (noted (with_handle id)) x (Err e) new → Answers S (MayOpenFile id) (opened_next id) x (Err e) new
opened_not S id e x new a = record {
  leads = λ s i p.
      let z = a.leads s i p in (z.0, trees.fails_first (noted (with_handle id) s) (λ _ t. ret (shown.Opened (next_handle s)) t) e z.0 z.1, z.2, after_err (Unit {0}) Shown S e x new z.0 z.3);
}

pub open_on : {X : Type 0} (S : Sense X) (id : ItemId) (o : Option Code) (x new : X) (r : Result Shown CallError)
    → Reads S Any open_refusal x o → o ≡ None → Answers S (MayOpenFile id) (opened_next id) x r new → Answers S (IsFile id) (open_by id) x r new
open_on S id o x new r reads e a = record {
  leads = λ s i p.
      let free : None ≡ first_of (open_tests s) = sym e ∙ reads.is s i (record {}) in
      subst (λ (c : Option Code). (t : Filter) × Does (unless shown.Refused c (opened_next id) s) r t × S.moved x new s t × After S x r new t) free (a.leads s i (record { room = sym free; file = p }));
}

pub open_off : {X : Type 0} (S : Sense X) (id : ItemId) (o : Option Code) (k : Code) (x : X)
    → Reads S Any open_refusal x o → o ≡ Some k → Answers S (IsFile id) (open_by id) x (Ok (shown.Refused k)) x
open_off S id o k x reads e = record {
  leads = λ s i p.
      subst (λ (c : Option Code). (t : Filter) × Does {A = Shown} (unless shown.Refused c (opened_next id) s) (Ok (shown.Refused k)) t × S.moved x x s t × After {A = Shown} S x (Ok (shown.Refused k)) x t) (sym e ∙ reads.is s i (record {}))
      (s, (refl, refl), S.stays x s i, i);
}

-- the end of a handle

pub ended : {X : Type 0} (S : Sense X) (h : Handle) (item : ItemId) (b last : Bool) (x new : X) (r : Result (Unit {0}) CallError)
    → Reads S Any (has_handle item) x b → last ≡ not b → Answers S Any (end_handle h item last) x r new → Answers S Any (reading (is_last item) (end_handle h item)) x r new
ended S h item b last x new r reads e a = reads_on S Any (is_last item) (end_handle h item) x new last r (record { is = λ s i p. e ∙ ap not (reads.is s i p) }) a

pub closed : {X : Type 0} (S : Sense X) (h : Handle) (item : ItemId) (x mid new : X) (u : Unit {0})
    → Answers S Any (noted (without_handle h)) x (Ok unit) mid → Answers S Any (reading (is_last item) (end_handle h item)) mid (Ok u) new → Answers S Any (close_item h item) x (Ok shown.Done) new
closed S h item x mid new u a b =
    any_on S (noted (without_handle h)) (then_do (reading (is_last item) (end_handle h item)) done) x mid new unit (Ok shown.Done) a
    (any_on S (reading (is_last item) (end_handle h item)) done mid new new u (Ok shown.Done) b (returned S Any shown.Done new))

pub closed_not : {X : Type 0} (S : Sense X) (h : Handle) (item : ItemId) (x mid new : X) (e : CallError)
    → Answers S Any (noted (without_handle h)) x (Ok unit) mid → Answers S Any (reading (is_last item) (end_handle h item)) mid (Err e) new → Answers S Any (close_item h item) x (Err e) new
closed_not S h item x mid new e a b =
    any_on S (noted (without_handle h)) (then_do (reading (is_last item) (end_handle h item)) done) x mid new unit (Err e) a
    (stops_first S Any (reading (is_last item) (end_handle h item)) done mid new e b)

-- a wait

pub cancel_at : {X : Type 0} (S : Sense X) (id : WaitId) (w : Waiting) (o : Option ItemId) (item : ItemId) (x new : X) (r : Result Shown CallError)
    → Reads S Any waiting_of x w → o ≡ option_map (λ (v : Wait). v.item) (wait_of w.waits id) → o ≡ Some item → Answers S Any (cancel_item id item) x r new → Answers S Any (cancel id) x r new
cancel_at {X} S id w o item x new r reads q e a = record {
  leads = λ s i p. one (waiting_by id s) (sym e ∙ q ∙ ap (λ (v : Waiting). option_map (λ (u : Wait). u.item) (wait_of v.waits id)) (reads.is s i p)) s i;
} where
  one : (k : Option Wait) → Some item ≡ option_map (λ (u : Wait). u.item) k → (s : Filter) → S.means x s → (t : Filter) × Does (cancel_wait id k s) r t × S.moved x new s t × After S x r new t
  one None z s i = let y : ◌≡◌ {A = Option ItemId} (Some item) None = z in absurd cc
  one (Some v) z s i =
      let same : item ≡ v.item = cc in
      subst (λ (k : ItemId). (t : Filter) × Does (cancel_item id k s) r t × S.moved x new s t × After S x r new t) same (a.leads s i (record {}))

pub cancel_none : {X : Type 0} (S : Sense X) (id : WaitId) (w : Waiting) (o : Option ItemId) (x : X)
    → Reads S Any waiting_of x w → o ≡ option_map (λ (v : Wait). v.item) (wait_of w.waits id) → o ≡ None → Answers S Any (cancel id) x (Ok (shown.Refused code.NoWait)) x
cancel_none {X} S id w o x reads q e = record {
  leads = λ s i p. one (waiting_by id s) (sym e ∙ q ∙ ap (λ (v : Waiting). option_map (λ (u : Wait). u.item) (wait_of v.waits id)) (reads.is s i p)) s i;
} where
  one : (k : Option Wait) → None ≡ option_map (λ (u : Wait). u.item) k → (s : Filter) → S.means x s
      → (t : Filter) × Does {A = Shown} (cancel_wait id k s) (Ok (shown.Refused code.NoWait)) t × S.moved x x s t × After {A = Shown} S x (Ok (shown.Refused code.NoWait)) x t
  one None z s i = (s, (refl, refl), S.stays x s i, i)
  one (Some v) z s i = let y : ◌≡◌ {A = Option ItemId} None (Some v.item) = z in absurd cc

-- the link

pub up : {X : Type 0} (S : Sense X) (x new : X) → Answers S Any (noted (with_link true)) x (Ok unit) new → Answers S Any (connect true) x (Ok shown.Done) new
up S x new a = any_on S (noted (with_link true)) done x new new unit (Ok shown.Done) a (returned S Any shown.Done new)

pub down : {X : Type 0} (S : Sense X) (x mid new : X) (u : Unit {0})
    → Answers S Any (noted (with_link false)) x (Ok unit) mid → Answers S Any (reading all_down tell) mid (Ok u) new → Answers S Any (connect false) x (Ok shown.Done) new
down S x mid new u a b =
    any_on S (noted (with_link false)) (then_do (reading all_down tell) done) x mid new unit (Ok shown.Done) a
    (any_on S (reading all_down tell) done mid new new u (Ok shown.Done) b (returned S Any shown.Done new))

pub down_not : {X : Type 0} (S : Sense X) (x mid new : X) (e : CallError)
    → Answers S Any (noted (with_link false)) x (Ok unit) mid → Answers S Any (reading all_down tell) mid (Err e) new → Answers S Any (connect false) x (Err e) new
down_not S x mid new e a b =
    any_on S (noted (with_link false)) (then_do (reading all_down tell) done) x mid new unit (Err e) a (stops_first S Any (reading all_down tell) done mid new e b)

pub linked : {X : Type 0} (S : Sense X) (on b : Bool) (x new : X) (r : Result Shown CallError) → on ≡ b → Answers S Any (connect b) x r new → Answers S Any (connect on) x r new
linked S on b x new r e a = subst (λ (c : Bool). Answers S Any (connect c) x r new) (sym e) a
