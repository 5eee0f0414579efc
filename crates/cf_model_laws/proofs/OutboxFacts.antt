-- What is kept of the callbacks that are still to be called and of what waits and is asked, by each part of the filter.
use Rattle.std.proofs.Common.{◌≡◌, Bool, true, false, List, [], ◌∷◌, ◌++◌, append-nil, refl, sym, subst, if◌then◌else◌}
use Rattle.std.specs.Prelude.{ℕ, map}
use Rattle.cf_base.specs.declared.answers.Shown.TheVariants as shown
use Rattle.cf_base.specs.declared.changes.Change.{Change}
use Rattle.cf_base.specs.declared.ids.ItemId.{ItemId}
use Rattle.cf_base.specs.declared.ids.WaitId.{WaitId}
use Rattle.cf_base.specs.declared.waits.Ask.{Ask}
use Rattle.cf_base.specs.declared.waits.Cause.{Cause}
use Rattle.cf_base.specs.declared.waits.Cause.TheVariants as cause
use Rattle.cf_base.specs.declared.waits.End.{End}
use Rattle.cf_model.specs.Arrows.{Preserves, each, reading, then_do}
use Rattle.cf_model.specs.Asks.{downed, step_of}
use Rattle.cf_model.specs.Books.{Book}
use Rattle.cf_model.specs.Changes.{apply, change_with, may_need_room, put_after_room, put_now, tell_change}
use Rattle.cf_model.specs.Missing.{View, Wait}
use Rattle.cf_model.specs.Points.{commit_for_room}
use Rattle.cf_model.specs.Requests.{Deed, Nothing, Told, Waiting, none_waiting, ticked, with_waits}
use Rattle.cf_model.specs.Settling.{accessed, end_of, end_wait, is_access, is_own, tell, tell_end, told_at, with_asks_told, with_ended, with_waiting, view_at}
use Rattle.cf_model.specs.State.{Filter, Volume, in_volume, with_volume}
use Rattle.cf_model.specs.Trees.{Asked, Fork, Keeps, Ret, Step, Tree, bind}
use Rattle.cf_model.specs.Waits.{Need, all_down, begun, beside, own_id, wait_for, with_new_waits, with_own}
use Rattle.cf_model.proofs.ArrowLaws.{keeps_each, keeps_either, keeps_lifted, keeps_one, keeps_reading, keeps_seq, keeps_then}
use Rattle.cf_model.proofs.Closed.{ClosedFilter}
use Rattle.cf_model.proofs.TreeLaws.{keeps_bind}

-- of the callbacks, and of what waits and is asked
abbrev pub Fact : Type 1
Fact = List Ask → Waiting → Type 0

-- what keeps it
pub record Boxing (F : Fact) : Type 0 where
  -- a step of the ask rule, before the callbacks of its asks have come and after
  pub steps : (o : List Ask) (w : Waiting) (item : ItemId) (v : View) (d : Deed) → F o w → F o (step_of item v d w).1 × F (o ++ map (λ a. a.ask) (step_of item v d w).0.made) (step_of item v d w).1
  pub begins : (o : List Ask) (w : Waiting) (ws : List Wait) → F o w → F o (with_waits ws w)
  pub downs : (o : List Ask) (w : Waiting) → F o w → F o (downed w).1
  pub ticks : (o : List Ask) (w : Waiting) (n : ℕ) → F o w → F o (ticked n w)
  -- the first callback is called
  pub pops : (a : Ask) (o : List Ask) (w : Waiting) → F (a ∷ o) w → F o w

-- and over whole runs
pub record BoxingRuns (F : Fact) : Type 0 where
  pub boxing : Boxing F
  pub crashes : (o : List Ask) (w : Waiting) → F o w → F [] (record w { waits = []; asks = [] })
  pub opens : (epoch : ℕ) → F [] (none_waiting epoch)

abbrev pub Holds : Fact → Filter → Type 0
Holds F x = F x.outbox x.waiting

-- what the first part keeps is more than what is to be kept
keeps_from : {S A B : Type 0} (P M : S → Type 0) (p : Tree S A) (g : A → S → Tree S B) → ((s : S) → M s → P s) → Keeps M p → ((a : A) (s : S) → M s → Keeps P (g a s)) → Keeps P (bind p g)
keeps_from P M (Ret a s) g w h k = k a s h
keeps_from P M (Step s p) g w h k = (w s h.0, keeps_from P M p g w h.1 k)
keeps_from P M (Fork p q) g w h k = (keeps_from P M p g w h.0 k, keeps_from P M q g w h.1 k)
keeps_from P M (Asked f) g w h k = λ x. keeps_from P M (f x) g w (h x) k

-- the lines of a step, before the callbacks of its asks come

abbrev Between : List Ask → Waiting → Filter → Type 0
Between o w x = (x.outbox ≡ o) × (x.waiting ≡ w)

tell_end_keeps : (o : List Ask) (w : Waiting) (id : WaitId) (e : End) (own : Bool) (x : Filter) → Between o w x → Between o w (tell_end id e own x)
tell_end_keeps o w id e true x h = h
tell_end_keeps o w id e false x h = h

access_keeps : (o : List Ask) (w : Waiting) (item : ItemId) (is : Bool) (x : Filter) → Between o w x → Between o w (if is then accessed item x else x)
access_keeps o w item true x h = h
access_keeps o w item false x h = h

ended_keeps : (o : List Ask) (w : Waiting) (e : Wait × Cause) (x : Filter) → Between o w x → Between o w (with_ended e x)
ended_keeps o w e x h =
    access_keeps o w e.0.item (is_access e.0.kind e.1) (tell_end e.0.id (end_of x.volume.items e.0 e.1) (is_own e.0.id x) x)
    (tell_end_keeps o w e.0.id (end_of x.volume.items e.0 e.1) (is_own e.0.id x) x h)

ends_keep : (o : List Ask) (w : Waiting) (es : List (Wait × Cause)) → Preserves (Between o w) (each end_wait es)
ends_keep o w es = keeps_each (Between o w) end_wait es (λ e. keeps_one (Between o w) (with_ended e) (ended_keeps o w e))

module _ (F : Fact) where
  at_between : (o : List Ask) (w : Waiting) (os : List Ask) (v : Waiting) → os ≡ o → v ≡ w → F o w → F os v
  at_between o w os v e f h = subst (λ (x : List Ask). F x v) (sym e) (subst (λ (y : Waiting). F o y) (sym f) h)

  pub told_keeps : (x : Filter) (r : Told × Waiting) → F x.outbox r.1 → F (x.outbox ++ map (λ a. a.ask) r.0.made) r.1 → Keeps (Holds F) (tell r x)
  told_keeps x r h k =
      keeps_from (Holds F) (Between x.outbox r.1) (each end_wait r.0.ended (with_waiting r.1 x)) (λ _ u. Ret (record {}) (with_asks_told r.0 u))
      (λ u b. at_between x.outbox r.1 u.outbox u.waiting b.0 b.1 h)
      ((ends_keep x.outbox r.1 r.0.ended).keeps (with_waiting r.1 x) (refl, refl))
      (λ a u b. subst (λ (o : List Ask). F (o ++ map (λ c. c.ask) r.0.made) u.waiting) (sym b.0) (subst (λ (w : Waiting). F (x.outbox ++ map (λ c. c.ask) r.0.made) w) (sym b.1) k))

  abbrev InVolume : Filter → Volume → Type 0
  InVolume x v = Holds F (with_volume v x)

  after_room_keeps : (x : Filter) (f : Book → Book) (c : Change) (room : Bool) → Preserves (InVolume x) (put_after_room f c room)
  after_room_keeps x f c false = record { keeps = λ v h. (h, h) }
  after_room_keeps x f c true =
      keeps_either (InVolume x) (put_now f c) (then_do commit_for_room (put_now f c)) (record { keeps = λ v h. (h, h) })
      (keeps_then (InVolume x) commit_for_room (put_now f c) (record { keeps = λ v h. (h, h) }) (record { keeps = λ v h. (h, h) }))

  pub change_keeps : (f : Book → Book) (c : Change) → Preserves (Holds F) (change_with f c)
  change_keeps f c =
      keeps_seq (Holds F) (in_volume (apply f c)) (tell_change c)
      (keeps_lifted (Holds F) (λ x. x.volume) with_volume (apply f c) (λ x h. h)
      (λ x h. keeps_reading (InVolume x) (may_need_room c) (put_after_room f c) (after_room_keeps x f c)))
      (λ n. record { keeps = λ x h. h })

  accessed_keeps : (item : ItemId) (is : Bool) (x : Filter) → Holds F x → Holds F (if is then accessed item x else x)
  accessed_keeps item true x h = h
  accessed_keeps item false x h = h

  pub downs_keep : ((o : List Ask) (w : Waiting) → F o w → F o (downed w).1) → Preserves (Holds F) (reading all_down tell)
  downs_keep downs = record {
    keeps = λ x h.
        let k : F x.outbox (downed x.waiting).1 = downs x.outbox x.waiting h in
        told_keeps x (all_down x) k (subst (λ (o : List Ask). F o (downed x.waiting).1) (sym (append-nil x.outbox)) k);
  }

  module _ (b : Boxing F) where
    settled_keeps : (item : ItemId) (d : Deed) (x : Filter) → Holds F x → Keeps (Holds F) (tell (told_at item d x) x)
    settled_keeps item d x h = let k = b.steps x.outbox x.waiting item (view_at x item) d h in told_keeps x (told_at item d x) k.0 k.1

    begun_keeps : (n : Need) (x : Filter) → Holds F x → Keeps (Holds F) (tell (begun n x) (with_own n x))
    begun_keeps n x h =
        let k = b.steps x.outbox (with_new_waits n x) n.item (view_at x n.item) Nothing (b.begins x.outbox x.waiting (wait_for n x ∷ beside n x) h) in
        told_keeps (with_own n x) (begun n x) k.0 k.1

    pub filter_closed : ClosedFilter (Holds F)
    filter_closed = record {
      change = change_keeps;
      commits = record { keeps = λ x h. (h, h) };
      settled = λ item d. record { keeps = λ x h. settled_keeps item d x h };
      begins = λ n. record { keeps = λ x h. keeps_bind (Holds F) (tell (begun n x) (with_own n x)) (λ _ t. Ret (shown.Pending (own_id n x)) t) (begun_keeps n x h) (λ a t j. j) };
      downs = downs_keep b.downs;
      keeps_begin_call = λ x h. h;
      keeps_with_handle = λ item x h. h;
      keeps_with_policy = λ p x h. h;
      keeps_as_it_is = λ x h. h;
      keeps_accessed = λ item x h. h;
      keeps_accessed_now = λ n x h. accessed_keeps n.item (is_access n.kind cause.Met) x h;
      keeps_connected_again = λ x h. h;
      keeps_disconnected = λ x h. h;
      keeps_with_time = λ n x h. b.ticks x.outbox x.waiting n h;
      keeps_without_handle = λ handle x h. h;
    }
