-- After each event that the device does not stop no callback is left, where the epoch had keys for all.
use Rattle.cf_base.specs.declared.answers.Shown.TheVariants as shown
use Rattle.cf_base.specs.declared.calls.Call.{Call}
use Rattle.cf_base.specs.declared.calls.Call.TheVariants as call
use Rattle.cf_base.specs.declared.events.ProviderEvent.{ProviderEvent}
use Rattle.cf_base.specs.declared.events.ProviderEvent.TheVariants as provider
use Rattle.cf_model.specs.Calls.{delete, df, flush, info, open_file, ranges, rename, set_pin, set_policy, set_size, used, write}
use Rattle.cf_model.specs.Placements.{convert, create, keep_full, mark, revert, unmark, update}
use Rattle.cf_model.specs.Dehydration.{dehydrate}
use Rattle.cf_model.specs.Missing.{span_of}
use Rattle.cf_model.specs.Operations.{execute}
use Rattle.cf_model.specs.Plans.{NewDir, NewFile, NewPlaceholder, NewPlaceholderDir}
use Rattle.cf_model.specs.Waits.{cancel, close, connect, get, hydrate, list, read, tick}
use Rattle.cf_model.proofs.CallsKeep as calls_keep
use Rattle.cf_model.proofs.DehydrationKeep as dehydration_keep
use Rattle.cf_model.proofs.OperationsKeep as operations_keep
use Rattle.cf_model.proofs.PlacementsKeep as placements_keep
use Rattle.cf_model.proofs.WaitsKeep as waits_keep
use Rattle.std.proofs.Common.{◌≡◌, ◌≤◌, ℕ, Bool, true, false, List, [], ◌∷◌, refl, sym, ◌∙◌, subst}
use Rattle.std.specs.Prelude.{Option, Some, None}
use Rattle.cf_base.specs.declared.answers.Shown.{Shown}
use Rattle.cf_base.specs.declared.codes.Code.{Code}
use Rattle.cf_base.specs.declared.ids.ItemId.{ItemId}
use Rattle.cf_base.specs.declared.messages.Reply.{Reply}
use Rattle.cf_base.specs.declared.messages.Request.{Request}
use Rattle.cf_base.specs.declared.notices.Frame.{Frame}
use Rattle.cf_base.specs.declared.notices.Frame.TheVariants as frame
use Rattle.cf_base.specs.declared.policies.Mode.{Mode}
use Rattle.cf_model.specs.Arrows.{Arrow, Preserves, each, ret, then_do, unless}
use Rattle.cf_model.specs.Callbacks.{calling, drain, finish, finish_call}
use Rattle.cf_model.specs.Dehydration.{dehydrate_range}
use Rattle.cf_model.specs.Events.{call_in, provider_event}
use Rattle.cf_model.specs.Fetching.{nothing_more}
use Rattle.cf_model.specs.Items.{Item, item_of}
use Rattle.cf_model.specs.Messages.{act_on, is_stale, message_at}
use Rattle.cf_model.specs.Numbers.{most}
use Rattle.cf_model.specs.Passes.{connected, deliver_frame, deliver_now, deliver_reply, deliver_unless, is_down, pass, show_unsettled, showing, sync_now, sync_passes, unless_down, work_now}
use Rattle.cf_model.specs.Space.{dehydrate_now, dehydrate_whole, free, plan_now, show_freed, space, why_no_space}
use Rattle.cf_model.specs.Blocks.{blocks_used}
use Rattle.cf_model.specs.State.{Filter, State, in_filter, items_now, with_filter}
use Rattle.cf_model.specs.Trees.{Ends, Keeps}
use Rattle.cf_model.proofs.ArrowLaws.{keeps_lifted}
use Rattle.cf_model.proofs.Closed.{ClosedFilter}
use Rattle.cf_model.proofs.TreeLaws.{kept_at_end}
use Rattle.cf_model_laws.proofs.EventsGuarded.{Whole}
use Rattle.cf_model_laws.proofs.MessagesGuarded.{acts_at}
use Rattle.cf_model_laws.proofs.OutboxCallbacks.{calling_keeps, part_keeps}
use Rattle.cf_model_laws.proofs.OutboxFacts.{Fact, Holds, downs_keep, filter_closed}
use Rattle.cf_model_laws.proofs.OutboxRuns.{Kept, kept_whole}
use Rattle.cf_model_laws.proofs.OutboxStill.{connect_still, convert_still, create_still, delete_still, df_still, flush_still, info_still, open_still, pin_still, policy_still, ranges_still, rename_still, revert_still, unmark_still, update_still, used_still}
use Rattle.cf_model_laws.proofs.PassesGuarded.{is_message, pass_keeps, sound_of, sync_passes_keeps, told_by}
use Rattle.cf_model_laws.proofs.SpentKeys.{Spent, ends_parts, none_left, of_spent, spent_boxing, spent_runs}

-- none is left, where the epoch gave no key past the greatest
abbrev pub Out : Fact
Out o w = w.key_count ≤ most → o ≡ []

abbrev pub Outs : State → Type 0
Outs s = Holds Out s.filter

abbrev pub First : Fact
First = Spent 0 0

abbrev pub Boxed : State → Type 0
Boxed s = Holds First s.filter

first_closed : ClosedFilter (Holds First)
first_closed = filter_closed First (spent_boxing 0 0)

-- with none left before it
abbrev pub Over : Arrow State Shown → Type 0
Over f = (s t : State) (r : Shown) → Boxed s → Outs s → Ends (f s) r t → Outs t

still_over : (part : Arrow Filter Shown) → Preserves (Holds Out) part → Over (in_filter part)
still_over part k s t r h o e = kept_at_end Outs (in_filter part s) r t ((keeps_lifted Outs (λ x. x.filter) with_filter part (λ x i. i) (λ x i. k)).keeps s o) e

drain_over : (s t : State) (u : Unit {0}) → Boxed s → Ends (drain s) u t → Outs t
drain_over s t u h e within = none_left s t u (of_spent s h) within e

-- a call with callbacks, whatever was left before it
called_over : (part : Arrow Filter Shown) → Preserves (Holds First) part → (s t : State) (r : Shown) → Boxed s → Ends (calling part s) r t → Outs t
called_over part k s t r h e =
    let x = ends_parts (in_filter part s) finish_call r t e in
    let y = ends_parts (drain x.1) (λ _ u. in_filter (finish x.0) u) r t x.3 in
    let boxed : Boxed x.1 = kept_at_end Boxed (in_filter part s) x.0 x.1 ((part_keeps First (spent_boxing 0 0) part k).keeps s h) x.2 in
    subst Outs (sym y.3.1) (drain_over x.1 y.1 y.0 boxed y.2)

calling_over : (part : Arrow Filter Shown) → Preserves (Holds First) part → Over (calling part)
calling_over part k s t r h o e = called_over part k s t r h e

pub call_over : (m : Mode) (c : Call) → Over (call_in m c)
call_over m (call.Open path) = still_over (open_file path) (open_still Out path)
call_over m (call.Close handle) = calling_over (close handle) (waits_keep.close_keeps (Holds First) first_closed handle)
call_over m (call.Cancel wait) = calling_over (cancel wait) (waits_keep.cancel_keeps (Holds First) first_closed wait)
call_over m (call.Tick ticks) = calling_over (tick ticks) (waits_keep.tick_keeps (Holds First) first_closed ticks)
call_over m (call.Read handle offset len) = calling_over (read handle (span_of offset len)) (waits_keep.read_keeps (Holds First) first_closed handle (span_of offset len))
call_over m (call.Get path offset len) = calling_over (get path (span_of offset len)) (waits_keep.get_keeps (Holds First) first_closed path (span_of offset len))
call_over m (call.Write handle offset bytes) = calling_over (write handle offset bytes) (calls_keep.write_keeps (Holds First) first_closed handle offset bytes)
call_over m (call.Size handle size) = calling_over (set_size handle size) (calls_keep.set_size_keeps (Holds First) first_closed handle size)
call_over m call.Flush = still_over flush (flush_still Out)
call_over m (call.Create path) = still_over (create path NewFile) (create_still Out path NewFile)
call_over m (call.Mkdir path) = still_over (create path NewDir) (create_still Out path NewDir)
call_over m (call.Delete path) = still_over (delete m path) (delete_still Out m path)
call_over m (call.Rename from to) = still_over (rename from to) (rename_still Out from to)
call_over m (call.List path) = calling_over (list path) (waits_keep.list_keeps (Holds First) first_closed path)
call_over m (call.Pin path pin reach) = still_over (set_pin path pin reach) (pin_still Out path pin reach)
call_over m (call.Hydrate path) = calling_over (hydrate path) (waits_keep.hydrate_keeps (Holds First) first_closed path)
call_over m (call.Dehydrate path range) = calling_over (dehydrate path range) (dehydration_keep.dehydrate_keeps (Holds First) first_closed path range)
call_over m (call.Info path) = still_over (info path) (info_still Out path)
call_over m (call.Ranges path class) = still_over (ranges path class) (ranges_still Out path class)
call_over m call.Df = still_over df (df_still Out)
call_over m (call.Policy policy) = still_over (set_policy m policy) (policy_still Out m policy)
call_over m (call.Keep path on) = calling_over (keep_full path on) (placements_keep.keep_full_keeps (Holds First) first_closed path on)
call_over m (call.Used path) = still_over (used path) (used_still Out path)
call_over m (call.Connect on) = still_over (connect on) (connect_still Out (downs_keep Out (λ o w h. h)) on)

pub provider_over : (e : ProviderEvent) → Over (provider_event e)
provider_over (provider.Place path size identity in_sync) = still_over (create path (NewPlaceholder size identity in_sync)) (create_still Out path (NewPlaceholder size identity in_sync))
provider_over (provider.PlaceDir path identity in_sync) = still_over (create path (NewPlaceholderDir identity in_sync)) (create_still Out path (NewPlaceholderDir identity in_sync))
provider_over (provider.Convert path identity) = still_over (convert path identity) (convert_still Out path identity)
provider_over (provider.Revert path) = still_over (revert path) (revert_still Out path)
provider_over (provider.Update path identity size) = still_over (update path identity size) (update_still Out path identity size)
provider_over (provider.Mark path number) = calling_over (mark path number) (placements_keep.mark_keeps (Holds First) first_closed path number)
provider_over (provider.Unmark path) = still_over (unmark path) (unmark_still Out path)
provider_over (provider.Do operation) = calling_over (execute operation) (operations_keep.execute_keeps (Holds First) first_closed operation)
provider_over (provider.Plan own operation) = λ s t r h o e. subst Outs (sym e.1) o

-- events of the engine, beside the invariant

abbrev pub Beside : State → Type 0
Beside = Kept First spent_runs

pub beside : Whole Beside
beside = kept_whole First spent_runs

abbrev pub OverBeside : Arrow State Shown → Type 0
OverBeside f = (s t : State) (r : Shown) → Beside s → Outs s → Ends (f s) r t → Outs t

-- a part, all callbacks, and what only reads
drained_over : (f : Arrow State (Unit {0})) (g : Arrow State Shown) (s t : State) (r : Shown) → Keeps Beside (f s) → ((x y : State) (q : Shown) → Ends (g x) q y → y ≡ x) → Ends (then_do f (then_do drain g) s) r t → Outs t
drained_over f g s t r k reads e =
    let x = ends_parts (f s) (λ _ v. then_do drain g v) r t e in
    let y = ends_parts (drain x.1) (λ _ v. g v) r t x.3 in
    subst Outs (sym (reads y.1 t r y.3)) (drain_over x.1 y.1 y.0 (kept_at_end Beside (f s) x.0 x.1 k x.2).1 y.2)

pub connected_over : (f : Arrow State Shown) → OverBeside f → OverBeside (connected f)
connected_over f k s t r h o e = by (is_down s) e where
  by : (down : Bool) → Ends (unless_down f down s) r t → Outs t
  by true i = subst Outs (sym i.1) o
  by false i = k s t r h o i

pub work_over : OverBeside work_now
work_over s t r h o e = drained_over pass (ret shown.Done) (showing s) t r ((pass_keeps Beside beside.closed beside.entering).keeps (showing s) (beside.closed.keeps_showing s h)) (λ x y q i. i.1) e

pub sync_over : OverBeside sync_now
sync_over s t r h o e = drained_over sync_passes show_unsettled (showing s) t r ((sync_passes_keeps Beside beside.closed beside.entering).keeps (showing s) (beside.closed.keeps_showing s h)) (λ x y q i. i.1) e

delivered_over : (m answers : ℕ) (q : Request) (p : Reply) (s t : State) (r : Shown) → message_at s m ≡ Some (frame.Reply answers p) → message_at s answers ≡ Some (frame.Request q) → Beside s → Outs s → Ends (deliver_unless p (is_stale q p s) s) r t → Outs t
delivered_over m answers q p s t r at asked h o e = by (is_stale q p s) refl e where
  by : (old : Bool) → is_stale q p s ≡ old → Ends (deliver_unless p old s) r t → Outs t
  by true k i = subst Outs (sym i.1) o
  by false k i =
      drained_over (act_on p) (ret shown.Done) (showing s) t r
      (acts_at Beside beside.closed answers q p (showing s) k (λ fair. told_by s m answers q p (sound_of Beside beside.closed s h fair) (sym (is_message s m) ∙ at) (sym (is_message s answers) ∙ asked)) (m, sym (is_message s m) ∙ at) (beside.closed.keeps_showing s h))
      (λ x y z j. j.1) i

replied_over : (m answers : ℕ) (p : Reply) (f : Option Frame) (s t : State) (r : Shown) → message_at s m ≡ Some (frame.Reply answers p) → message_at s answers ≡ f → Beside s → Outs s → Ends (deliver_reply p f s) r t → Outs t
replied_over m answers p (Some (frame.Request q)) s t r at asked h o e = delivered_over m answers q p s t r at asked h o e
replied_over m answers p (Some (frame.Reply other q)) s t r at asked h o e = subst Outs (sym e.1) o
replied_over m answers p None s t r at asked h o e = subst Outs (sym e.1) o

framed_over : (m : ℕ) (f : Option Frame) (s t : State) (r : Shown) → message_at s m ≡ f → Beside s → Outs s → Ends (deliver_frame f s) r t → Outs t
framed_over m (Some (frame.Reply answers p)) s t r at h o e = replied_over m answers p (message_at s answers) s t r at refl h o e
framed_over m (Some (frame.Request q)) s t r at h o e = subst Outs (sym e.1) o
framed_over m None s t r at h o e = subst Outs (sym e.1) o

pub deliver_over : (m : ℕ) → OverBeside (deliver_now m)
deliver_over m s t r h o e = framed_over m (message_at s m) s t r refl h o e

-- room that is made: one call after the other

emptied_over : (i : Option Item) (s t : State) (u : Unit {0}) → Boxed s → Outs s → Ends (dehydrate_now i s) u t → Boxed t × Outs t
emptied_over None s t u h o e = (subst Boxed (sym e.1) h, subst Outs (sym e.1) o)
emptied_over (Some i) s t u h o e =
    let x = ends_parts (calling (dehydrate_range None i) s) nothing_more u t e in
    let k : Preserves (Holds First) (dehydrate_range None i) = dehydration_keep.dehydrate_range_keeps (Holds First) first_closed None i in
    (subst Boxed (sym x.3.1) (kept_at_end Boxed (calling (dehydrate_range None i) s) x.0 x.1 ((calling_keeps First (spent_boxing 0 0) (dehydrate_range None i) k).keeps s h) x.2), subst Outs (sym x.3.1) (called_over (dehydrate_range None i) k s x.1 x.0 h x.2))

all_emptied : (items : List ItemId) (s t : State) (u : Unit {0}) → Boxed s → Outs s → Ends (each dehydrate_whole items s) u t → Outs t
all_emptied [] s t u h o e = subst Outs (sym e.1) o
all_emptied (item ∷ items) s t u h o e =
    let x = ends_parts (dehydrate_whole item s) (λ _ v. each dehydrate_whole items v) u t e in
    let k = emptied_over (item_of (items_now s) item) s x.1 x.0 h o x.2 in
    all_emptied items x.1 t u k.0 k.1 x.3

pub space_over : (budget : ℕ) → Over (space budget)
space_over budget s t r h o e = by (why_no_space budget s) e where
  by : (why : Option Code) → Ends (unless shown.Refused why (free budget) s) r t → Outs t
  by (Some c) i = subst Outs (sym i.1) o
  by None i =
      let x = ends_parts (each dehydrate_whole (plan_now budget s) s) (λ _ v. show_freed (blocks_used (items_now s)) v) r t i in
      subst Outs (sym x.3.1) (all_emptied (plan_now budget s) s x.1 x.0 h o x.2)
