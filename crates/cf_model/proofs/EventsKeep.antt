-- What the parts of `Events` keep, each by what its own parts keep.
use Rattle.cf_base.specs.declared.answers.Shown.TheVariants as shown
use Rattle.cf_base.specs.declared.calls.Call.{Call}
use Rattle.cf_base.specs.declared.calls.Call.TheVariants as call
use Rattle.cf_base.specs.declared.events.DeviceEvent.{DeviceEvent}
use Rattle.cf_base.specs.declared.events.DeviceEvent.TheVariants as device
use Rattle.cf_base.specs.declared.events.Event.{Event}
use Rattle.cf_base.specs.declared.events.Event.TheVariants as event
use Rattle.cf_base.specs.declared.events.ProviderEvent.{ProviderEvent}
use Rattle.cf_base.specs.declared.events.ProviderEvent.TheVariants as provider
use Rattle.cf_base.specs.declared.policies.Mode.{Mode}
use Rattle.cf_model.specs.Arrows.{noted, ret}
use Rattle.cf_model.specs.Callbacks.{mode_of}
use Rattle.cf_model.specs.Calls.{delete, df, flush, info, open_file, ranges, rename, set_pin, set_policy, set_size, used, write}
use Rattle.cf_model.specs.Placements.{convert, create, keep_full, mark, revert, unmark, update}
use Rattle.cf_model.specs.Dehydration.{dehydrate}
use Rattle.cf_model.specs.Missing.{span_of}
use Rattle.cf_model.specs.Operations.{execute}
use Rattle.cf_model.specs.Plans.{NewDir, NewFile, NewPlaceholder, NewPlaceholderDir}
use Rattle.cf_model.specs.State.{State, with_filter}
use Rattle.cf_model.specs.Waits.{cancel, close, connect, get, hydrate, list, read, tick}
use Rattle.cf_model.proofs.CallbacksKeep as callbacks_keep
use Rattle.cf_model.proofs.CallsKeep as calls_keep
use Rattle.cf_model.proofs.DehydrationKeep as dehydration_keep
use Rattle.cf_model.proofs.EngineEventsKeep as engine_events_keep
use Rattle.cf_model.proofs.OperationsKeep as operations_keep
use Rattle.cf_model.proofs.PeersKeep as peers_keep
use Rattle.cf_model.proofs.PlacementsKeep as placements_keep
use Rattle.cf_model.proofs.RestartsKeep as restarts_keep
use Rattle.cf_model.proofs.WaitsKeep as waits_keep
use Rattle.cf_model.specs.Events.{call_by, call_in, call_now, device_event, event_now, provider_event, with_planned}
use Rattle.cf_model.proofs.Closed.{Closed, ClosedToPeers}
use Rattle.cf_model.proofs.ArrowLaws.{keeps_lifted, keeps_noted, keeps_reading, keeps_ret, keeps_then}
use Rattle.cf_model.specs.Arrows.{Preserves}

pub call_in_keeps : (P : State → Type 0) → Closed P → (x1 : Mode) → (x2 : Call) → Preserves P (call_in x1 x2)
call_in_keeps P closed m (call.Open path) = keeps_lifted P (λ s. s.filter) with_filter (open_file path) (λ t i. i) (λ t1 i2. (calls_keep.open_file_keeps (λ x. P (with_filter x t1)) (closed.on_filter t1 i2) path))
call_in_keeps P closed m (call.Close handle) = callbacks_keep.calling_keeps P closed (close handle) (λ t1 i2. (waits_keep.close_keeps (λ x. P (with_filter x t1)) (closed.on_filter t1 i2) handle))
call_in_keeps P closed m (call.Cancel wait) = callbacks_keep.calling_keeps P closed (cancel wait) (λ t1 i2. (waits_keep.cancel_keeps (λ x. P (with_filter x t1)) (closed.on_filter t1 i2) wait))
call_in_keeps P closed m (call.Tick ticks) = callbacks_keep.calling_keeps P closed (tick ticks) (λ t1 i2. (waits_keep.tick_keeps (λ x. P (with_filter x t1)) (closed.on_filter t1 i2) ticks))
call_in_keeps P closed m (call.Read handle offset len) = callbacks_keep.calling_keeps P closed (read handle (span_of offset len)) (λ t1 i2. (waits_keep.read_keeps (λ x. P (with_filter x t1)) (closed.on_filter t1 i2) handle (span_of offset len)))
call_in_keeps P closed m (call.Get path offset len) = callbacks_keep.calling_keeps P closed (get path (span_of offset len)) (λ t1 i2. (waits_keep.get_keeps (λ x. P (with_filter x t1)) (closed.on_filter t1 i2) path (span_of offset len)))
call_in_keeps P closed m (call.Write handle offset bytes) = callbacks_keep.calling_keeps P closed (write handle offset bytes) (λ t1 i2. (calls_keep.write_keeps (λ x. P (with_filter x t1)) (closed.on_filter t1 i2) handle offset bytes))
call_in_keeps P closed m (call.Size handle size) = callbacks_keep.calling_keeps P closed (set_size handle size) (λ t1 i2. (calls_keep.set_size_keeps (λ x. P (with_filter x t1)) (closed.on_filter t1 i2) handle size))
call_in_keeps P closed m call.Flush = keeps_lifted P (λ s. s.filter) with_filter flush (λ t i. i) (λ t1 i2. (calls_keep.flush_keeps (λ x. P (with_filter x t1)) (closed.on_filter t1 i2)))
call_in_keeps P closed m (call.Create path) = keeps_lifted P (λ s. s.filter) with_filter (create path NewFile) (λ t i. i) (λ t1 i2. (placements_keep.create_keeps (λ x. P (with_filter x t1)) (closed.on_filter t1 i2) path NewFile))
call_in_keeps P closed m (call.Mkdir path) = keeps_lifted P (λ s. s.filter) with_filter (create path NewDir) (λ t i. i) (λ t1 i2. (placements_keep.create_keeps (λ x. P (with_filter x t1)) (closed.on_filter t1 i2) path NewDir))
call_in_keeps P closed m (call.Delete path) = keeps_lifted P (λ s. s.filter) with_filter (delete m path) (λ t i. i) (λ t1 i2. (calls_keep.delete_keeps (λ x. P (with_filter x t1)) (closed.on_filter t1 i2) m path))
call_in_keeps P closed m (call.Rename from to) = keeps_lifted P (λ s. s.filter) with_filter (rename from to) (λ t i. i) (λ t1 i2. (calls_keep.rename_keeps (λ x. P (with_filter x t1)) (closed.on_filter t1 i2) from to))
call_in_keeps P closed m (call.List path) = callbacks_keep.calling_keeps P closed (list path) (λ t1 i2. (waits_keep.list_keeps (λ x. P (with_filter x t1)) (closed.on_filter t1 i2) path))
call_in_keeps P closed m (call.Pin path pin reach) = keeps_lifted P (λ s. s.filter) with_filter (set_pin path pin reach) (λ t i. i) (λ t1 i2. (calls_keep.set_pin_keeps (λ x. P (with_filter x t1)) (closed.on_filter t1 i2) path pin reach))
call_in_keeps P closed m (call.Hydrate path) = callbacks_keep.calling_keeps P closed (hydrate path) (λ t1 i2. (waits_keep.hydrate_keeps (λ x. P (with_filter x t1)) (closed.on_filter t1 i2) path))
call_in_keeps P closed m (call.Dehydrate path range) = callbacks_keep.calling_keeps P closed (dehydrate path range) (λ t1 i2. (dehydration_keep.dehydrate_keeps (λ x. P (with_filter x t1)) (closed.on_filter t1 i2) path range))
call_in_keeps P closed m (call.Info path) = keeps_lifted P (λ s. s.filter) with_filter (info path) (λ t i. i) (λ t1 i2. (calls_keep.info_keeps (λ x. P (with_filter x t1)) (closed.on_filter t1 i2) path))
call_in_keeps P closed m (call.Ranges path class) = keeps_lifted P (λ s. s.filter) with_filter (ranges path class) (λ t i. i) (λ t1 i2. (calls_keep.ranges_keeps (λ x. P (with_filter x t1)) (closed.on_filter t1 i2) path class))
call_in_keeps P closed m call.Df = keeps_lifted P (λ s. s.filter) with_filter df (λ t i. i) (λ t1 i2. (calls_keep.df_keeps (λ x. P (with_filter x t1)) (closed.on_filter t1 i2)))
call_in_keeps P closed m (call.Policy policy) = keeps_lifted P (λ s. s.filter) with_filter (set_policy m policy) (λ t i. i) (λ t1 i2. (calls_keep.set_policy_keeps (λ x. P (with_filter x t1)) (closed.on_filter t1 i2) m policy))
call_in_keeps P closed m (call.Keep path on) = callbacks_keep.calling_keeps P closed (keep_full path on) (λ t1 i2. (placements_keep.keep_full_keeps (λ x. P (with_filter x t1)) (closed.on_filter t1 i2) path on))
call_in_keeps P closed m (call.Used path) = keeps_lifted P (λ s. s.filter) with_filter (used path) (λ t i. i) (λ t1 i2. (calls_keep.used_keeps (λ x. P (with_filter x t1)) (closed.on_filter t1 i2) path))
call_in_keeps P closed m (call.Connect on) = keeps_lifted P (λ s. s.filter) with_filter (connect on) (λ t i. i) (λ t1 i2. (waits_keep.connect_keeps (λ x. P (with_filter x t1)) (closed.on_filter t1 i2) on))

pub call_by_keeps : (P : State → Type 0) → Closed P → (x1 : Call) → (x2 : Mode) → Preserves P (call_by x1 x2)
call_by_keeps P closed c m = call_in_keeps P closed m c

pub call_now_keeps : (P : State → Type 0) → Closed P → (x1 : Call) → Preserves P (call_now x1)
call_now_keeps P closed c = keeps_reading P mode_of (call_by c) (call_by_keeps P closed c)

pub provider_event_keeps : (P : State → Type 0) → Closed P → (x1 : ProviderEvent) → Preserves P (provider_event x1)
provider_event_keeps P closed (provider.Place path size identity in_sync) = keeps_lifted P (λ s. s.filter) with_filter (create path (NewPlaceholder size identity in_sync)) (λ t i. i) (λ t1 i2. (placements_keep.create_keeps (λ x. P (with_filter x t1)) (closed.on_filter t1 i2) path (NewPlaceholder size identity in_sync)))
provider_event_keeps P closed (provider.PlaceDir path identity in_sync) = keeps_lifted P (λ s. s.filter) with_filter (create path (NewPlaceholderDir identity in_sync)) (λ t i. i) (λ t1 i2. (placements_keep.create_keeps (λ x. P (with_filter x t1)) (closed.on_filter t1 i2) path (NewPlaceholderDir identity in_sync)))
provider_event_keeps P closed (provider.Convert path identity) = keeps_lifted P (λ s. s.filter) with_filter (convert path identity) (λ t i. i) (λ t1 i2. (placements_keep.convert_keeps (λ x. P (with_filter x t1)) (closed.on_filter t1 i2) path identity))
provider_event_keeps P closed (provider.Revert path) = keeps_lifted P (λ s. s.filter) with_filter (revert path) (λ t i. i) (λ t1 i2. (placements_keep.revert_keeps (λ x. P (with_filter x t1)) (closed.on_filter t1 i2) path))
provider_event_keeps P closed (provider.Update path identity size) = keeps_lifted P (λ s. s.filter) with_filter (update path identity size) (λ t i. i) (λ t1 i2. (placements_keep.update_keeps (λ x. P (with_filter x t1)) (closed.on_filter t1 i2) path identity size))
provider_event_keeps P closed (provider.Mark path number) = callbacks_keep.calling_keeps P closed (mark path number) (λ t1 i2. (placements_keep.mark_keeps (λ x. P (with_filter x t1)) (closed.on_filter t1 i2) path number))
provider_event_keeps P closed (provider.Unmark path) = keeps_lifted P (λ s. s.filter) with_filter (unmark path) (λ t i. i) (λ t1 i2. (placements_keep.unmark_keeps (λ x. P (with_filter x t1)) (closed.on_filter t1 i2) path))
provider_event_keeps P closed (provider.Do operation) = callbacks_keep.calling_keeps P closed (execute operation) (λ t1 i2. (operations_keep.execute_keeps (λ x. P (with_filter x t1)) (closed.on_filter t1 i2) operation))
provider_event_keeps P closed (provider.Plan own operation) = keeps_then P (noted (with_planned own operation)) (ret shown.Done) (keeps_noted P (with_planned own operation) (closed.keeps_with_planned own operation)) (keeps_ret P shown.Done)

pub device_event_keeps : (P : State → Type 0) → Closed P → (x1 : DeviceEvent) → Preserves P (device_event x1)
device_event_keeps P closed (device.Stop calls) = keeps_ret P shown.Done
device_event_keeps P closed (device.Crash choice) = restarts_keep.crash_keeps P closed
device_event_keeps P closed device.Restart = restarts_keep.restart_keeps P closed

pub event_now_keeps : (P : State → Type 0) → Closed P → ClosedToPeers P → (x1 : Event) → Preserves P (event_now x1)
event_now_keeps P closed peers (event.Call c) = call_now_keeps P closed c
event_now_keeps P closed peers (event.Device e) = device_event_keeps P closed e
event_now_keeps P closed peers (event.Peer e) = peers_keep.peer_event_keeps P closed.asks peers.keeps_with_token_used peers.keeps_with_stray e
event_now_keeps P closed peers (event.Engine e) = engine_events_keep.engine_event_keeps P closed e
event_now_keeps P closed peers (event.Provider e) = provider_event_keeps P closed e
