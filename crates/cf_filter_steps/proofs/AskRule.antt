-- A step that was worked out, carried out and told, is the step of the rule.
use Rattle.std.proofs.Common.{◌≡◌, Bool, true, false, if◌then◌else◌, List, [], ◌∷◌, ◌++◌, refl, sym, ◌∙◌, ap, subst, map}
use Rattle.std.specs.Prelude.{Result, Ok, Err, Option, Some, None, ◌==◌}
use Rattle.cf_ask_rule.specs.Plans.{Planned}
use Rattle.cf_base.specs.declared.codes.CallError.{CallError}
use Rattle.cf_base.specs.declared.ids.ItemId.{ItemId}
use Rattle.cf_base.specs.declared.ids.Key.{Key}
use Rattle.cf_base.specs.declared.notices.Notice.{Notice}
use Rattle.cf_base.specs.declared.policies.Policy.{Policy}
use Rattle.cf_base.specs.declared.waits.Ask.{Ask}
use Rattle.cf_base.specs.declared.waits.Cause.{Cause}
use Rattle.cf_base.specs.declared.waits.Cause.TheVariants as cause
use Rattle.cf_model.specs.Arrows.{each, noted, reading, then_do, unit}
use Rattle.cf_model.specs.Asks.{downed, ended_of, step_of, with_end}
use Rattle.cf_model.specs.Items.{Item, item_of}
use Rattle.cf_model.specs.Missing.{View, Wait, view_of}
use Rattle.cf_model.specs.Requests.{Deed, Live, Told, Waiting}
use Rattle.cf_model.specs.Settling.{accessed, ask_line, cancel_line, end_of, end_wait, is_access, is_own, no_view, settle, tell, tell_end, told_at, with_asks_told, with_ended, with_waiting}
use Rattle.cf_model.specs.State.{Filter}
use Rattle.cf_model.specs.Trees.{Does, Ends}
use Rattle.cf_model.specs.Waits.{all_down}
use Rattle.cf_model.specs.Words.{part}
use Rattle.cf_waits.specs.Steps.{IsPlanned, carried, moved_of}
use Rattle.cf_waits.specs.declared.moves.Moves.{Moves}
use Rattle.cf_filter_steps.specs.Answering.{After, Answers, Any, Reads, Sense}
use Rattle.cf_filter_steps.specs.Finding.{HasRows}
use Rattle.cf_filter_steps.specs.Good.{Every, IsOnFile, IsSmall}
use Rattle.cf_filter_steps.specs.Readings.{asked_line, policy_of, waiting_of, with_asks}
use Rattle.cf_filter_steps.specs.Settled.{AreOnFiles, IsEndOnFile, IsStepNow, Looks, LooksGone, LooksNow, tell_moves}
use Rattle.cf_table.specs.Means.{Means}
use Rattle.cf_table.specs.Tables.{Table, row_of}
use Rattle.cf_table.specs.declared.rows.Row.{Row}
use Rattle.cf_filter_steps.proofs.Laws.{All, stops_first, then_on, weaker}
use Rattle.cf_filter_steps.proofs.LookUps.{of_found}
use Rattle.cf_filter_steps.proofs.RowReads.{row_gone, row_there}

lines_are : (made : List Live) → map asked_line (map (λ a. a.ask) made) ≡ map ask_line made
lines_are [] = refl
lines_are (a ∷ as') = ap (λ (ls : List Notice). ask_line a ∷ ls) (lines_are as')

told_as : {X : Type 0} (S : Sense X) (t : Told) (old new : X) (r : Result (Unit {0}) CallError)
    → Answers S (AreOnFiles t.ended) (tell_moves t.ended t.cancelled (map (λ a. a.ask) t.made)) old r new → Answers S (AreOnFiles t.ended) (then_do (each end_wait t.ended) (noted (with_asks_told t))) old r new
told_as S t old new r h =
    subst (λ (ls : List Notice). Answers S (AreOnFiles t.ended) (then_do (each end_wait t.ended) (noted (λ s. record s { notes = s.notes ++ map cancel_line t.cancelled ++ ls; outbox = s.outbox ++ map (λ a. a.ask) t.made }))) old r new)
    (lines_are t.made) h

-- the moves tell it
moves_tell : {X : Type 0} (S : Sense X) (t : Told) (m : Moves) (old new : X) (r : Result (Unit {0}) CallError)
    → m ≡ moved_of None t → Answers S (AreOnFiles m.ended) (tell_moves m.ended m.cancelled m.asks) old r new → Answers S (AreOnFiles t.ended) (then_do (each end_wait t.ended) (noted (with_asks_told t))) old r new
moves_tell S t m old new r e h = told_as S t old new r (subst (λ (n : Moves). Answers S (AreOnFiles n.ended) (tell_moves n.ended n.cancelled n.asks) old r new) e h)

-- what ends was waiting
pub ended_have : (P : Wait → Type 0) (why : Wait → Option Cause) (ws : List Wait) → Every P ws → Every (λ (e : Wait × Cause). P e.0) (ended_of why ws)
ended_have P why [] h = record {}
ended_have P why (w ∷ ws) h = one (why w) (ended_have P why ws h.1) where
  one : (o : Option Cause) → Every (λ (e : Wait × Cause). P e.0) (ended_of why ws) → Every (λ (e : Wait × Cause). P e.0) (with_end w o (ended_of why ws))
  one None rest = rest
  one (Some c) rest = (h.0, rest)

-- a part that the state itself names
same_part : {X : Type 0} (S : Sense X) (item : ItemId) (d : Deed) (p : Planned) (w : Waiting) (old new : X) (r : Result (Unit {0}) CallError)
    → ((s : Filter) → S.means old s → w ≡ s.waiting) → Answers S (AreOnFiles (carried p w).0.ended) (tell (carried p w)) old r new → Answers S (IsStepNow item d p) (settle item d) old r new
same_part S item d p w old new r waits h = record {
  leads = λ s i q.
      let e : carried p w ≡ told_at item d s = ap (λ (v : Waiting). carried p v) (waits s i) ∙ q in
      let files : AreOnFiles (told_at item d s).0.ended s = ended_have (λ x. IsOnFile x.kind s.volume.items x.item) _ s.waiting.waits (S.good old s i).reads in
      subst (λ (y : Told × Waiting). (t : Filter) × Does (tell y s) r t × S.moved old new s t × After S old r new t) e
      (h.leads s i (subst (λ (y : Told × Waiting). AreOnFiles y.0.ended s) (sym e) files));
}

-- with what waits then
told_next : {X : Type 0} (S : Sense X) (y : Told × Waiting) (m : Moves) (old mid new : X) (r : Result (Unit {0}) CallError)
    → Answers S Any (noted (with_waiting y.1)) old (Ok unit) mid → m ≡ moved_of None y.0 → Answers S (AreOnFiles m.ended) (tell_moves m.ended m.cancelled m.asks) mid r new → Answers S (AreOnFiles y.0.ended) (tell y) old r new
told_next S y m old mid new r h e k =
    then_on S (AreOnFiles y.0.ended) (AreOnFiles y.0.ended) (noted (with_waiting y.1)) (then_do (each end_wait y.0.ended) (noted (with_asks_told y.0))) old mid new unit r
    (λ s t p z. subst (λ (u : Filter). AreOnFiles y.0.ended u) (sym z.1) p) (weaker S Any (AreOnFiles y.0.ended) (noted (with_waiting y.1)) old mid (Ok unit) (λ s p. record {}) h) (moves_tell S y.0 m mid new r e k)

pub settled : {X : Type 0} (S : Sense X) (item : ItemId) (d : Deed) (p : Planned) (w : Waiting) (m : Moves) (old mid new : X) (r : Result (Unit {0}) CallError)
    → ((s : Filter) → S.means old s → w ≡ s.waiting) → Answers S Any (noted (with_waiting (carried p w).1)) old (Ok unit) mid → m ≡ moved_of None (carried p w).0
    → Answers S (AreOnFiles m.ended) (tell_moves m.ended m.cancelled m.asks) mid r new → Answers S (IsStepNow item d p) (settle item d) old r new
settled S item d p w m old mid new r waits h e k = same_part S item d p w old new r waits (told_next S (carried p w) m old mid new r h e k)

pub settled_not : {X : Type 0} (S : Sense X) (item : ItemId) (d : Deed) (p : Planned) (w : Waiting) (old new : X) (e : CallError)
    → ((s : Filter) → S.means old s → w ≡ s.waiting) → Answers S Any (noted (with_waiting (carried p w).1)) old (Err e) new → Answers S (IsStepNow item d p) (settle item d) old (Err e) new
settled_not S item d p w old new e waits h =
    same_part S item d p w old new (Err e) waits (weaker S Any (AreOnFiles (carried p w).0.ended) (tell (carried p w)) old new (Err e) (λ s q. record {})
    (stops_first S Any (noted (with_waiting (carried p w).1)) (then_do (each end_wait (carried p w).0.ended) (noted (with_asks_told (carried p w).0))) old new e h))

-- what was looked at

pub looks_is : {X : Type 0} (S : Sense X) (x : X) (w : Waiting) (item : ItemId) (d : Deed) (p : Planned) (v : View) (u : View)
    → Reads S Any waiting_of x w → carried p w ≡ step_of item v d w → (s : Filter) → S.means x s → v ≡ u → carried p s.waiting ≡ step_of item u d s.waiting
looks_is S x w item d p v u reads e s h same =
    subst (λ (y : Waiting). carried p y ≡ step_of item u d y) (reads.is s h (record {})) (e ∙ ap (λ (y : View). step_of item y d w) same)

pub planned_of : (p : Planned) (w u : Waiting) (item : ItemId) (v : View) (d : Deed) → w ≡ u → carried p w ≡ step_of item v d w → (p.item ≡ item) × (p.view ≡ v) → IsPlanned p u
planned_of p w u item v d same e seen = subst (λ (x : Waiting). IsPlanned p x) same (item, v, d, e, seen.0, seen.1)

pub looked : {X : Type 0} (S : Sense X) (x : X) (w : Waiting) (item : ItemId) (d : Deed) (p : Planned) (row : Row) (policy : Policy) (v : View)
    → Reads S Any waiting_of x w → Reads S Any policy_of x policy → ((i : Item) → Means row i → IsSmall i → v ≡ view_of policy i) → carried p w ≡ step_of item v d w → Looks S item row d p x
looked S x w item d p row policy v waits pol shows e = record {
  is = λ st i h m small. looks_is S x w item d p v (view_of st.policy i) waits e st h (shows i m small ∙ ap (λ (q : Policy). view_of q i) (pol.is st h (record {})));
}

pub looked_gone : {X : Type 0} (S : Sense X) (x : X) (w : Waiting) (item : ItemId) (d : Deed) (p : Planned)
    → Reads S Any waiting_of x w → carried p w ≡ step_of item no_view d w → LooksGone S item d p x
looked_gone S x w item d p waits e = record { is = λ st h. looks_is S x w item d p no_view no_view waits e st h refl }

-- an item by its row

step_by : (item : ItemId) (d : Deed) (s : Filter) (o : Option Item) (v : View) → item_of s.volume.items item ≡ o → part (view_of s.policy) no_view o ≡ v → step_of item v d s.waiting ≡ told_at item d s
step_by item d s o v e q = ap (λ (y : View). step_of item y d s.waiting) (sym (ap (λ (p : Option Item). part (view_of s.policy) no_view p) e ∙ q))

pub looks_now : {X : Type 0} (S : Sense X) (x : X) (t : Table) (item : ItemId) (row : Row) (d : Deed) (p : Planned)
    → HasRows S x t → row_of t.rows item ≡ Some row → Looks S item row d p x → LooksNow S item d p x
looks_now S x t item row d p rows e looks = record {
  is = λ s h.
      let b = row_there t.rows s.volume.items item row (rows.rows s h) e in
      looks.is s b.0 h b.2 (of_found IsSmall (λ j. j.id.0 == item.0) s.volume.items b.0 (S.good x s h).volume.small b.1) ∙ step_by item d s (Some b.0) (view_of s.policy b.0) b.1 refl;
}

pub gone_now : {X : Type 0} (S : Sense X) (x : X) (t : Table) (item : ItemId) (d : Deed) (p : Planned)
    → HasRows S x t → row_of t.rows item ≡ None → LooksGone S item d p x → LooksNow S item d p x
gone_now S x t item d p rows e looks = record {
  is = λ s h.
      let b = row_gone t.rows s.volume.items item (rows.rows s h) e in
      looks.is s h ∙ step_by item d s None no_view b refl;
}

-- what is told, as lists

pub told_moves : {X : Type 0} (S : Sense X) (m : Moves) (es : List (Wait × Cause)) (ks : List Key) (as' : List Ask) (old mid new : X) (u : Unit {0}) (r : Result (Unit {0}) CallError)
    → es ≡ m.ended → ks ≡ m.cancelled → as' ≡ m.asks → Answers S (AreOnFiles es) (each end_wait es) old (Ok u) mid → Answers S Any (noted (with_asks ks as')) mid r new → Answers S (AreOnFiles m.ended) (tell_moves m.ended m.cancelled m.asks) old r new
told_moves S m es ks as' old mid new u r p q t h k =
    then_on S (AreOnFiles m.ended) Any (each end_wait m.ended) (noted (with_asks m.cancelled m.asks)) old mid new u r (λ s z i j. record {}) (subst (λ (ys : List (Wait × Cause)). Answers S (AreOnFiles ys) (each end_wait ys) old (Ok u) mid) p h)
    (subst (λ (ys : List Key). Answers S Any (noted (with_asks ys m.asks)) mid r new) q (subst (λ (ys : List Ask). Answers S Any (noted (with_asks ks ys)) mid r new) t k))

pub told_not : {X : Type 0} (S : Sense X) (m : Moves) (es : List (Wait × Cause)) (old new : X) (e : CallError)
    → es ≡ m.ended → Answers S (AreOnFiles es) (each end_wait es) old (Err e) new → Answers S (AreOnFiles m.ended) (tell_moves m.ended m.cancelled m.asks) old (Err e) new
told_not S m es old new e p h = stops_first S (AreOnFiles m.ended) (each end_wait m.ended) (noted (with_asks m.cancelled m.asks)) old new e (subst (λ (ys : List (Wait × Cause)). Answers S (AreOnFiles ys) (each end_wait ys) old (Err e) new) p h)

-- the ends of waits leave the items

items_left : (e : Wait × Cause) (s : Filter) → (with_ended e s).volume.items ≡ s.volume.items
items_left e s = two (is_access e.0.kind e.1) (is_own e.0.id s) where
  two : (b own : Bool) → (if b then accessed e.0.item (tell_end e.0.id (end_of s.volume.items e.0 e.1) own s) else tell_end e.0.id (end_of s.volume.items e.0 e.1) own s).volume.items ≡ s.volume.items
  two true true = refl
  two true false = refl
  two false true = refl
  two false false = refl

pub files_left : (e : Wait × Cause) (es : List (Wait × Cause)) (s t : Filter) → All IsEndOnFile es s → Ends (end_wait e s) unit t → All IsEndOnFile es t
files_left e es s t h z = subst (λ (items : List Item). Every (λ (x : Wait × Cause). IsOnFile x.0.kind items x.0.item) es) (sym (ap (λ (u : Filter). u.volume.items) z.1 ∙ items_left e s)) h

-- all at once

downs_have : (P : Wait → Type 0) (ws : List Wait) → Every P ws → Every (λ (e : Wait × Cause). P e.0) (map (λ (w : Wait). (w, cause.Down)) ws)
downs_have P [] h = record {}
downs_have P (w ∷ ws) h = (h.0, downs_have P ws h.1)

pub hung_up : {X : Type 0} (S : Sense X) (w : Waiting) (m : Moves) (old mid new : X) (u : Unit {0}) (r : Result (Unit {0}) CallError)
    → ((s : Filter) → S.means old s → w ≡ s.waiting) → Answers S Any (noted (with_waiting (downed w).1)) old (Ok u) mid → m ≡ moved_of None (downed w).0
    → Answers S (AreOnFiles m.ended) (tell_moves m.ended m.cancelled m.asks) mid r new → Answers S Any (reading all_down tell) old r new
hung_up S w m old mid new u r waits h e k =
    let a = told_next S (downed w) m old mid new r h e k in record {
      leads = λ s i p.
          let files = downs_have (λ x. IsOnFile x.kind s.volume.items x.item) s.waiting.waits (S.good old s i).reads in
          subst (λ (y : Waiting). (t : Filter) × Does (tell (downed y) s) r t × S.moved old new s t × After S old r new t) (waits s i)
          (a.leads s i (subst (λ (y : Waiting). AreOnFiles (downed y).0.ended s) (sym (waits s i)) files));
    }

pub hung_not : {X : Type 0} (S : Sense X) (w : Waiting) (old new : X) (e : CallError)
    → ((s : Filter) → S.means old s → w ≡ s.waiting) → Answers S Any (noted (with_waiting (downed w).1)) old (Err e) new → Answers S Any (reading all_down tell) old (Err e) new
hung_not S w old new e waits h =
    let a = stops_first S Any (noted (with_waiting (downed w).1)) (then_do (each end_wait (downed w).0.ended) (noted (with_asks_told (downed w).0))) old new e h in record {
      leads = λ s i p. subst (λ (y : Waiting). (t : Filter) × Does {A = Unit {0}} (tell (downed y) s) (Err e) t × S.moved old new s t × After {A = Unit {0}} S old (Err e) new t) (waits s i) (a.leads s i (record {}));
    }
