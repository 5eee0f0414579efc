-- A fact on the filter that the machine keeps within an event in `filter`, whatever the provider does.
use Rattle.std.proofs.Common.{◌≡◌, ℕ, zero, suc, Bool, true, false, List, [], ◌∷◌, refl}
use Rattle.cf_base.specs.declared.answers.Shown.{Shown}
use Rattle.cf_base.specs.declared.answers.Shown.TheVariants as shown
use Rattle.cf_base.specs.declared.calls.Call.{Call}
use Rattle.cf_base.specs.declared.calls.Call.TheVariants as call
use Rattle.cf_base.specs.declared.events.Event.{Event}
use Rattle.cf_base.specs.declared.events.Event.TheVariants as event
use Rattle.cf_base.specs.declared.events.ProviderEvent.{ProviderEvent}
use Rattle.cf_base.specs.declared.events.ProviderEvent.TheVariants as provider
use Rattle.cf_base.specs.declared.ids.Key.{Key}
use Rattle.cf_base.specs.declared.notices.Notice.TheVariants as notice
use Rattle.cf_base.specs.declared.operations.Operation.{Operation}
use Rattle.cf_base.specs.declared.policies.Mode.{Mode}
use Rattle.cf_base.specs.declared.policies.Mode.TheVariants as mode
use Rattle.cf_base.specs.declared.waits.Ask.{Ask}
use Rattle.cf_model.specs.Arrows.{Arrow, Preserves, each, noted, ret}
use Rattle.cf_model.specs.Callbacks.{call_back, calling, carry_out, carry_out_all, drain, drained, finish, finish_call, note_operation, operation_line, plan_of, planned_on, provider_on, with_operation_told, with_outbox, without_plan}
use Rattle.cf_model.specs.Calls.{delete, df, flush, info, open_file, ranges, rename, set_pin, set_policy, set_size, used, write}
use Rattle.cf_model.specs.Dehydration.{dehydrate}
use Rattle.cf_model.specs.Events.{call_in, event_now, is_of, provider_event, with_planned}
use Rattle.cf_model.specs.Missing.{span_of}
use Rattle.cf_model.specs.Numbers.{most}
use Rattle.cf_model.specs.Operations.{execute}
use Rattle.cf_model.specs.Placements.{convert, create, keep_full, mark, revert, unmark, update}
use Rattle.cf_model.specs.Plans.{NewDir, NewFile, NewPlaceholder, NewPlaceholderDir}
use Rattle.cf_model.specs.State.{Filter, State, in_filter, with_filter}
use Rattle.cf_model.specs.Trees.{Keeps, Ret, Tree, bind}
use Rattle.cf_model.specs.Waits.{cancel, close, connect, get, hydrate, list, read, tick}
use Rattle.cf_model.proofs.ArrowLaws.{keeps_const, keeps_each, keeps_noted, keeps_reading, keeps_ret, keeps_seq, keeps_then}
use Rattle.cf_model.proofs.CallsKeep as calls_keep
use Rattle.cf_model.proofs.DehydrationKeep as dehydration_keep
use Rattle.cf_model.proofs.OperationsKeep as operations_keep
use Rattle.cf_model.proofs.PlacementsKeep as placements_keep
use Rattle.cf_model.proofs.TreeLaws.{keeps_bind, keeps_mapped}
use Rattle.cf_model.proofs.WaitsKeep as waits_keep
use Rattle.cf_model_laws.proofs.RightItems.{no_way, no_way_back}
use Rattle.cf_model_laws.proofs.SkipsGuarded.{keeps_both}
use Rattle.cf_model_headline.specs.Reports.{is_device}
use Rattle.cf_model_headline.proofs.ShownChanges.{Noticed}

module _ (Q : Filter → Type 0) (q : Noticed Q) where
  -- the command is `filter`, and the fact holds
  abbrev pub In : State → Type 0
  In s = (s.mode ≡ mode.Filter) × Q s.filter

  part_keeps : {A : Type 0} (f : Arrow Filter A) → Preserves Q f → Preserves In (in_filter f)
  part_keeps f k = record {
    keeps = λ s h. keeps_mapped (λ x. (s.mode ≡ mode.Filter) × Q x) In (λ x. with_filter x s) (f s.filter) (λ x j. j)
        (keeps_both (λ _. s.mode ≡ mode.Filter) Q (f s.filter) ((keeps_const (s.mode ≡ mode.Filter) f).keeps s.filter h.0) (k.keeps s.filter h.1));
  }

  -- callbacks

  carry_out_keeps : (own : Key) (p : Bool × Operation) → Preserves In (carry_out own p)
  carry_out_keeps own p =
      keeps_seq In (in_filter (execute (planned_on own p))) note_operation (part_keeps (execute (planned_on own p)) (operations_keep.execute_keeps Q q.closed (planned_on own p)))
      (λ answer. keeps_noted In (with_operation_told answer) (λ s h. (h.0, q.notes (notice.Operation (operation_line answer)) s.filter refl refl h.1)))

  planned_keeps : (own : Key) (ops : List (Bool × Operation)) → Preserves In (carry_out_all own ops)
  planned_keeps own ops = keeps_then In (noted without_plan) (each (carry_out own) ops) (keeps_noted In without_plan (λ s h. h)) (keeps_each In (carry_out own) ops (carry_out_keeps own))

  call_back_keeps : (a : Ask) → Preserves In (call_back a)
  call_back_keeps a = record { keeps = λ s h. by s h s.mode h.0 } where
    by : (s : State) → In s → (m : Mode) → m ≡ mode.Filter → Keeps In (provider_on a m s)
    by s h mode.Filter e = (keeps_reading In plan_of (carry_out_all a.key) (planned_keeps a.key)).keeps s h
    by s h mode.Replay e = let z : ◌≡◌ {A = Mode} mode.Replay mode.Filter = e in cc

  drained_keeps : (n : ℕ) → Preserves In (drained n)
  drained_keeps zero = record { keeps = λ s h. h }
  drained_keeps (suc n) = record { keeps = λ s h. popped s h (drained_keeps n) s.filter.outbox } where
    popped : (s : State) → In s → Preserves In (drained n) → (asks : List Ask)
        → Keeps In (elim asks as (λ _. Tree State (Unit {0})) [ [] ↦ Ret (record {}) s | a ∷ rest ↦ bind (call_back a (with_outbox rest s)) (λ _ t. drained n t) ])
    popped s h k [] = h
    popped s h k (a ∷ rest) = keeps_bind In (call_back a (with_outbox rest s)) (λ _ t. drained n t) ((call_back_keeps a).keeps (with_outbox rest s) (h.0, q.boxes rest s.filter h.1)) (λ u t j. k.keeps t j)

  calling_keeps : (part : Arrow Filter Shown) → Preserves Q part → Preserves In (calling part)
  calling_keeps part k =
      keeps_seq In (in_filter part) finish_call (part_keeps part k)
      (λ answer. keeps_then In drain (in_filter (finish answer)) (drained_keeps most) (part_keeps (finish answer) (record { keeps = λ x h. q.closed.keeps_begin_call x h })))

  -- events

  call_in_keeps : (m : Mode) (c : Call) → Preserves In (call_in m c)
  call_in_keeps m (call.Open path) = part_keeps (open_file path) (calls_keep.open_file_keeps Q q.closed path)
  call_in_keeps m (call.Close handle) = calling_keeps (close handle) (waits_keep.close_keeps Q q.closed handle)
  call_in_keeps m (call.Cancel wait) = calling_keeps (cancel wait) (waits_keep.cancel_keeps Q q.closed wait)
  call_in_keeps m (call.Tick ticks) = calling_keeps (tick ticks) (waits_keep.tick_keeps Q q.closed ticks)
  call_in_keeps m (call.Read handle offset len) = calling_keeps (read handle (span_of offset len)) (waits_keep.read_keeps Q q.closed handle (span_of offset len))
  call_in_keeps m (call.Get path offset len) = calling_keeps (get path (span_of offset len)) (waits_keep.get_keeps Q q.closed path (span_of offset len))
  call_in_keeps m (call.Write handle offset bytes) = calling_keeps (write handle offset bytes) (calls_keep.write_keeps Q q.closed handle offset bytes)
  call_in_keeps m (call.Size handle size) = calling_keeps (set_size handle size) (calls_keep.set_size_keeps Q q.closed handle size)
  call_in_keeps m call.Flush = part_keeps flush (calls_keep.flush_keeps Q q.closed)
  call_in_keeps m (call.Create path) = part_keeps (create path NewFile) (placements_keep.create_keeps Q q.closed path NewFile)
  call_in_keeps m (call.Mkdir path) = part_keeps (create path NewDir) (placements_keep.create_keeps Q q.closed path NewDir)
  call_in_keeps m (call.Delete path) = part_keeps (delete m path) (calls_keep.delete_keeps Q q.closed m path)
  call_in_keeps m (call.Rename from to) = part_keeps (rename from to) (calls_keep.rename_keeps Q q.closed from to)
  call_in_keeps m (call.List path) = calling_keeps (list path) (waits_keep.list_keeps Q q.closed path)
  call_in_keeps m (call.Pin path pin reach) = part_keeps (set_pin path pin reach) (calls_keep.set_pin_keeps Q q.closed path pin reach)
  call_in_keeps m (call.Hydrate path) = calling_keeps (hydrate path) (waits_keep.hydrate_keeps Q q.closed path)
  call_in_keeps m (call.Dehydrate path range) = calling_keeps (dehydrate path range) (dehydration_keep.dehydrate_keeps Q q.closed path range)
  call_in_keeps m (call.Info path) = part_keeps (info path) (calls_keep.info_keeps Q q.closed path)
  call_in_keeps m (call.Ranges path class) = part_keeps (ranges path class) (calls_keep.ranges_keeps Q q.closed path class)
  call_in_keeps m call.Df = part_keeps df (calls_keep.df_keeps Q q.closed)
  call_in_keeps m (call.Policy policy) = part_keeps (set_policy m policy) (calls_keep.set_policy_keeps Q q.closed m policy)
  call_in_keeps m (call.Keep path on) = calling_keeps (keep_full path on) (placements_keep.keep_full_keeps Q q.closed path on)
  call_in_keeps m (call.Used path) = part_keeps (used path) (calls_keep.used_keeps Q q.closed path)
  call_in_keeps m (call.Connect on) = part_keeps (connect on) (waits_keep.connect_keeps Q q.closed on)

  provider_event_keeps : (e : ProviderEvent) → Preserves In (provider_event e)
  provider_event_keeps (provider.Place path size identity in_sync) = part_keeps (create path (NewPlaceholder size identity in_sync)) (placements_keep.create_keeps Q q.closed path (NewPlaceholder size identity in_sync))
  provider_event_keeps (provider.PlaceDir path identity in_sync) = part_keeps (create path (NewPlaceholderDir identity in_sync)) (placements_keep.create_keeps Q q.closed path (NewPlaceholderDir identity in_sync))
  provider_event_keeps (provider.Convert path identity) = part_keeps (convert path identity) (placements_keep.convert_keeps Q q.closed path identity)
  provider_event_keeps (provider.Revert path) = part_keeps (revert path) (placements_keep.revert_keeps Q q.closed path)
  provider_event_keeps (provider.Update path identity size) = part_keeps (update path identity size) (placements_keep.update_keeps Q q.closed path identity size)
  provider_event_keeps (provider.Mark path number) = calling_keeps (mark path number) (placements_keep.mark_keeps Q q.closed path number)
  provider_event_keeps (provider.Unmark path) = part_keeps (unmark path) (placements_keep.unmark_keeps Q q.closed path)
  provider_event_keeps (provider.Do operation) = calling_keeps (execute operation) (operations_keep.execute_keeps Q q.closed operation)
  provider_event_keeps (provider.Plan own operation) = keeps_then In (noted (with_planned own operation)) (ret shown.Done) (keeps_noted In (with_planned own operation) (λ s h. h)) (keeps_ret In shown.Done)

  -- an event other than those of the device
  pub filter_event_keeps : (e : Event) → is_of mode.Filter e ≡ true → is_device e ≡ false → Preserves In (event_now e)
  filter_event_keeps (event.Call c) is off = record { keeps = λ s h. (call_in_keeps s.mode c).keeps s h }
  filter_event_keeps (event.Device e) is off = no_way_back off
  filter_event_keeps (event.Peer e) is off = no_way is
  filter_event_keeps (event.Engine e) is off = no_way is
  filter_event_keeps (event.Provider e) is off = provider_event_keeps e
