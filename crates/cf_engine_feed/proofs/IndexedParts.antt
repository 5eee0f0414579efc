-- Parts of a whole with an index beside it.
use Rattle.std.proofs.Common.{◌≡◌, ℕ, ◌+◌, List, Bool, true, false, refl, sym, ◌∙◌, ap, inl, inr}
use Rattle.std.specs.Prelude.{Option, Some, None, Result, Ok, Err, ◌==◌}
use Rattle.cf_base.specs.declared.changes.Change.{Change}
use Rattle.cf_base.specs.declared.changes.Change.TheVariants as change
use Rattle.cf_base.specs.declared.codes.CallError.{CallError}
use Rattle.cf_base.specs.declared.codes.CallError.TheVariants.{No, OutOfMemory}
use Rattle.cf_base.specs.declared.codes.Code.{Code}
use Rattle.cf_base.specs.declared.ids.ItemId.{ItemId}
use Rattle.cf_base.specs.declared.items.SeenPath.{SeenPath}
use Rattle.cf_engine_feed.specs.Indexed.{indexed}
use Rattle.cf_engine_feed.specs.Indexes.{Indexes, target_at}
use Rattle.cf_engine_feed.specs.Targets.{Refreshes}
use Rattle.cf_engine_feed.specs.Named.{item_of_step}
use Rattle.cf_engine_feed.specs.declared.indexes.Targets.{Targets}
use Rattle.cf_engine_feed.proofs.IndexSteps.{differ, turned}
use Rattle.cf_engine_feed_plan.specs.Turns.{copy_if, do_step}
use Rattle.cf_engine_feed_plan.specs.declared.entry_steps.Step.{Step}
use Rattle.cf_engine_feed_plan.specs.declared.entry_steps.Step.TheVariants.{Apply, Mark, Seen, CopyOff}
use Rattle.cf_engine_feed_plan.proofs.ChangesEnd.{change_ends}
use Rattle.cf_engine_steps.specs.Answering.{Answers, Any, Whole}
use Rattle.cf_engine_steps.specs.States.{Own, whole}
use Rattle.cf_filter_steps.specs.Answering.{Sense}
use Rattle.cf_filter_steps.specs.Finding.{HasRows}
use Rattle.cf_model.specs.Arrows.{Arrow, only_if, unless_done}
use Rattle.cf_model.specs.Books.{with_seen}
use Rattle.cf_model.specs.ConflictNames.{conflict_name}
use Rattle.cf_model.specs.Changes.{may_need_room, next_number, put_after_room, same_book, tell_change}
use Rattle.cf_model.specs.Given.{named_by}
use Rattle.cf_model.specs.Identities.{target_of}
use Rattle.cf_model.specs.Items.{Item, item_of}
use Rattle.cf_model.specs.Skips.{do_change, in_book, is_markable, is_there, left_out, number_of_item, seen_if, skip_line, try_change, try_seen, why_no_change, why_no_record}
use Rattle.cf_model.specs.State.{Filter, State, Volume, items_now, with_filter, with_volume}
use Rattle.cf_model.specs.Trees.{Ends, Ret, Tree, bind, mapped}
use Rattle.cf_model.specs.Words.{part}
use Rattle.cf_model.proofs.GivenLaws.{others_stay}
use Rattle.cf_remote.specs.Told.{Told}
use Rattle.cf_table.specs.Tables.{MeansAll, Table}

module _ {X A : Type 0} (W : Whole X) (f : Arrow State A) (x y : X) (m : Targets) where
  pub with_index : (n : Targets) (a : A) → ((s t : State) → W.means x s → Ends (f s) a t → W.means y t → Indexes m s → Indexes n t) → Answers W Any f x (Ok a) y → Answers (indexed W) Any f (x, m) (Ok a) (y, n)
  with_index n a keeps h = record { leads = λ s i p. let l = h.leads s i.0 p in (l.0, l.1, l.2, ((l.3.0, keeps s l.0 i.0 l.1 l.3.0 i.1), l.3.1)) }

  pub failed_beside : (n : Targets) (e : CallError) → Answers W Any f x (Err e) y → Answers (indexed W) Any f (x, m) (Err e) (y, n)
  failed_beside n (No c) h = record { leads = λ s i p. h.leads s i.0 p }
  failed_beside n OutOfMemory h = record { leads = λ s i p. h.leads s i.0 p }

  -- without memory for the index nothing is said of what was done
  pub lost : (n : Targets) (a : A) → Answers W Any f x (Ok a) y → Answers (indexed W) Any f (x, m) (Err OutOfMemory) (y, n)
  lost n a h = record { leads = λ s i p. let l = h.leads s i.0 p in (l.0, record {}, l.2, W.endures y l.0 l.3.0) }

  -- the whole alone
  pub beside : (n : Targets) (r : Result A CallError) → ((s : State) → W.means x s → Indexes m s) → Answers (indexed W) Any f (x, m) r (y, n) → Answers W Any f x r y
  beside n (Ok a) is h = record { leads = λ s i p. let l = h.leads s (i, is s i) p in (l.0, l.1, l.2, (l.3.0.0, l.3.1)) }
  beside n (Err (No c)) is h = record { leads = λ s i p. h.leads s (i, is s i) p }
  beside n (Err OutOfMemory) is h = record { leads = λ s i p. h.leads s (i, is s i) p }

-- a step gives no other item another target

skip_keeps : (b : Bool) (c : Code) (s : State) → items_now (skip_line b c s) ≡ items_now s
skip_keeps true c s = refl
skip_keeps false c s = refl

abbrev made : Change → State → Bool → Tree State (Unit {0})
made c s b = mapped (λ (x : Filter). with_filter x s) (bind (mapped (λ (v : Volume). with_volume v s.filter) (put_after_room same_book c b s.filter.volume)) (tell_change c))

made_not : (c : Change) (s t : State) (b : Bool) → Ends (bind (bind (made c s b) (λ _ u. Ret None u)) left_out) false t → items_now t ≡ items_now s
made_not c s t false e = differ (sym e.0)
made_not c s t true (inl e) = differ (sym e.0)
made_not c s t true (inr e) = differ (sym e.0)

left_same : (c : Change) (s t : State) → Ends (try_change c s) false t → items_now t ≡ items_now s
left_same c s t h = cases (why_no_change c s) h where
  cases : (why : Option Code) → Ends (bind (unless_done (do_change c) why s) left_out) false t → items_now t ≡ items_now s
  cases (Some d) e = ap (λ (v : State). items_now v) e.1 ∙ skip_keeps s.running.shows_skips d (record s { running = record s.running { skips = s.running.skips + 1 } })
  cases None e = made_not c s t (may_need_room c s.filter.volume) e

same_target : (s t : State) (d : ItemId) → items_now t ≡ items_now s → target_at (items_now t) d ≡ target_at (items_now s) d
same_target s t d e = ap (λ (l : List Item). target_at l d) e

change_others : (c : Change) (s t : State) (b : Bool) → Ends (try_change c s) b t → (d : ItemId) → (d.0 == (named_by c).0) ≡ false → target_at (items_now t) d ≡ target_at (items_now s) d
change_others c s t true e d apart =
    let after = change_ends c s t e in
    ap (λ (l : List Item). target_at l d) after.items ∙ ap (part (λ (i : Item). (target_of i).0) 0) (others_stay (items_now s) c (next_number s.filter.volume) d (turned (named_by c).0 d.0 ∙ apart))
change_others c s t false e d apart = same_target s t d (left_same c s t e)

mark_others : (item : ItemId) (s t : State) (b may : Bool) → Ends (only_if may (try_change (change.Mark item (number_of_item item s))) s) b t → (d : ItemId) → (d.0 == item.0) ≡ false → target_at (items_now t) d ≡ target_at (items_now s) d
mark_others item s t b true e d apart = change_others (change.Mark item (number_of_item item s)) s t b e d apart
mark_others item s t b false e d apart = same_target s t d (ap (λ (v : State). items_now v) e.1)

seen_same : (p : SeenPath) (s t : State) (b : Bool) → Ends (try_seen p s) b t → items_now t ≡ items_now s
seen_same p s t b h = cases (is_there p.item s) h where
  put : (why : Option Code) → Ends (bind (unless_done (in_book (with_seen p)) why s) left_out) b t → items_now t ≡ items_now s
  put (Some d) e = ap (λ (v : State). items_now v) e.1 ∙ skip_keeps s.running.shows_skips d (record s { running = record s.running { skips = s.running.skips + 1 } })
  put None e = ap (λ (v : State). items_now v) e.1

  cases : (here : Bool) → Ends (seen_if p here s) b t → items_now t ≡ items_now s
  cases true e = put (why_no_record (with_seen p) s) e
  cases false e = ap (λ (v : State). items_now v) e.1

copy_others : (s t : State) (b : Bool) (o : Option Item) → Ends (copy_if o s) b t → (d : ItemId) → (d.0 == s.filter.volume.next_item.0) ≡ false → target_at (items_now t) d ≡ target_at (items_now s) d
copy_others s t b None e d apart = same_target s t d (ap (λ (v : State). items_now v) e.1)
copy_others s t b (Some i) e d apart = change_others (change.Copy s.filter.volume.next_item i.id i.parent (conflict_name (items_now s) i.parent i.name)) s t b e d apart

step_others : (x : Step) (s t : State) (b : Bool) → Ends (do_step x s) b t → (d : ItemId) → (d.0 == (item_of_step s.filter.volume.next_item x).0) ≡ false → target_at (items_now t) d ≡ target_at (items_now s) d
step_others (Apply c) s t b e d apart = change_others c s t b e d apart
step_others (Mark item) s t b e d apart = mark_others item s t b (is_markable item (number_of_item item s) s) e d apart
step_others (Seen p) s t b e d apart = same_target s t d (seen_same p s t b e)
step_others (CopyOff item) s t b e d apart = copy_others s t b (item_of (items_now s) item) e d apart

-- a step, after which the index has the new target of its item
pub step_indexed : {X R : Type 0} (S : Sense X) (told : R → Told) (step : Step) (t u v : Table) (item next : ItemId) (before : ℕ) (x y : X) (d e : Own R) (m n : Targets) (b : Bool) → HasRows S x t → HasRows S x v → HasRows S y u → item ≡ item_of_step next step → next ≡ v.next
    → ((items : List Item) → MeansAll t.rows items → before ≡ target_at items item) → Refreshes item before u.rows m n
    → Answers (whole S told) Any (do_step step) (x, d) (Ok b) (y, e) → Answers (indexed (whole S told)) Any (do_step step) ((x, d), m) (Ok b) ((y, e), n)
step_indexed S told step t u v item next before x y d e m n b old first new named following was refreshes h =
    with_index (whole S told) (do_step step) (x, d) (y, e) m n b
    (λ s w i ends j index. refreshes (items_now w) (target_at (items_now s)) (new.rows w.filter j.filter) (sym (was (items_now s) (old.rows s.filter i.filter)))
    (λ k apart. step_others step s w b ends k (ap (λ (q : ItemId). k.0 == q.0) (ap (λ (q : ItemId). item_of_step q step) (sym (following ∙ first.next s.filter i.filter)) ∙ sym named) ∙ apart)) index)
    h
