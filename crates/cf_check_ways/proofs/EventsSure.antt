-- The parts of `Events` are sure, each by its own parts.
use Rattle.std.proofs.Common.{refl}
use Rattle.cf_base.specs.declared.answers.Shown.TheVariants as shown
use Rattle.cf_base.specs.declared.calls.Call.{Call}
use Rattle.cf_base.specs.declared.calls.Call.TheVariants as call
use Rattle.cf_base.specs.declared.events.ProviderEvent.{ProviderEvent}
use Rattle.cf_base.specs.declared.events.ProviderEvent.TheVariants as provider
use Rattle.cf_base.specs.declared.policies.Mode.{Mode}
use Rattle.cf_model.specs.Arrows.{noted, ret}
use Rattle.cf_model.specs.Callbacks.{mode_of}
use Rattle.cf_model.specs.Calls.{delete, df, flush, info, open_file, ranges, rename, set_pin, set_policy, set_size, used, write}
use Rattle.cf_model.specs.Placements.{convert, create, keep_full, mark, revert, unmark, update}
use Rattle.cf_model.specs.Dehydration.{dehydrate}
use Rattle.cf_model.specs.Missing.{span_of}
use Rattle.cf_model.specs.Operations.{execute}
use Rattle.cf_model.specs.Plans.{NewDir, NewFile, NewPlaceholder, NewPlaceholderDir}
use Rattle.cf_model.specs.Waits.{cancel, close, connect, get, hydrate, list, read, tick}
use Rattle.cf_model.specs.Events.{call_by, call_in, call_now, provider_event, with_planned}
use Rattle.cf_check_ways.specs.Ways.{IsSure, of_state}
use Rattle.cf_check_ways.proofs.Sure.{plain_quiet, reads_fixed, sure_noted, sure_reading, sure_ret, sure_then}
use Rattle.cf_check_ways.proofs.VolumeSteps.{sure_in_filter}
use Rattle.cf_check_ways.proofs.CallbacksSure as callbacks_sure
use Rattle.cf_check_ways.proofs.CallsSure as calls_sure
use Rattle.cf_check_ways.proofs.DehydrationSure as dehydration_sure
use Rattle.cf_check_ways.proofs.OperationsSure as operations_sure
use Rattle.cf_check_ways.proofs.PlacementsSure as placements_sure
use Rattle.cf_check_ways.proofs.WaitsSure as waits_sure

pub call_in_sure : (x1 : Mode) → (x2 : Call) → IsSure of_state (call_in x1 x2)
call_in_sure m (call.Open path) = sure_in_filter (open_file path) (calls_sure.open_file_sure path)
call_in_sure m (call.Close handle) = callbacks_sure.calling_sure (close handle) (waits_sure.close_sure handle)
call_in_sure m (call.Cancel wait) = callbacks_sure.calling_sure (cancel wait) (waits_sure.cancel_sure wait)
call_in_sure m (call.Tick ticks) = callbacks_sure.calling_sure (tick ticks) (waits_sure.tick_sure ticks)
call_in_sure m (call.Read handle offset len) = callbacks_sure.calling_sure (read handle (span_of offset len)) (waits_sure.read_sure handle (span_of offset len))
call_in_sure m (call.Get path offset len) = callbacks_sure.calling_sure (get path (span_of offset len)) (waits_sure.get_sure path (span_of offset len))
call_in_sure m (call.Write handle offset bytes) = callbacks_sure.calling_sure (write handle offset bytes) (calls_sure.write_sure handle offset bytes)
call_in_sure m (call.Size handle size) = callbacks_sure.calling_sure (set_size handle size) (calls_sure.set_size_sure handle size)
call_in_sure m call.Flush = sure_in_filter flush (calls_sure.flush_sure)
call_in_sure m (call.Create path) = sure_in_filter (create path NewFile) (placements_sure.create_sure path NewFile)
call_in_sure m (call.Mkdir path) = sure_in_filter (create path NewDir) (placements_sure.create_sure path NewDir)
call_in_sure m (call.Delete path) = sure_in_filter (delete m path) (calls_sure.delete_sure m path)
call_in_sure m (call.Rename from to) = sure_in_filter (rename from to) (calls_sure.rename_sure from to)
call_in_sure m (call.List path) = callbacks_sure.calling_sure (list path) (waits_sure.list_sure path)
call_in_sure m (call.Pin path pin reach) = sure_in_filter (set_pin path pin reach) (calls_sure.set_pin_sure path pin reach)
call_in_sure m (call.Hydrate path) = callbacks_sure.calling_sure (hydrate path) (waits_sure.hydrate_sure path)
call_in_sure m (call.Dehydrate path range) = callbacks_sure.calling_sure (dehydrate path range) (dehydration_sure.dehydrate_sure path range)
call_in_sure m (call.Info path) = sure_in_filter (info path) (calls_sure.info_sure path)
call_in_sure m (call.Ranges path class) = sure_in_filter (ranges path class) (calls_sure.ranges_sure path class)
call_in_sure m call.Df = sure_in_filter df (calls_sure.df_sure)
call_in_sure m (call.Policy policy) = sure_in_filter (set_policy m policy) (calls_sure.set_policy_sure m policy)
call_in_sure m (call.Keep path on) = callbacks_sure.calling_sure (keep_full path on) (placements_sure.keep_full_sure path on)
call_in_sure m (call.Used path) = sure_in_filter (used path) (calls_sure.used_sure path)
call_in_sure m (call.Connect on) = sure_in_filter (connect on) (waits_sure.connect_sure on)

pub call_by_sure : (x1 : Call) → (x2 : Mode) → IsSure of_state (call_by x1 x2)
call_by_sure c m = call_in_sure m c

pub call_now_sure : (x1 : Call) → IsSure of_state (call_now x1)
call_now_sure c = sure_reading of_state mode_of (call_by c) (reads_fixed of_state mode_of (λ s. refl)) (call_by_sure c)

pub provider_event_sure : (x1 : ProviderEvent) → IsSure of_state (provider_event x1)
provider_event_sure (provider.Place path size identity in_sync) = sure_in_filter (create path (NewPlaceholder size identity in_sync)) (placements_sure.create_sure path (NewPlaceholder size identity in_sync))
provider_event_sure (provider.PlaceDir path identity in_sync) = sure_in_filter (create path (NewPlaceholderDir identity in_sync)) (placements_sure.create_sure path (NewPlaceholderDir identity in_sync))
provider_event_sure (provider.Convert path identity) = sure_in_filter (convert path identity) (placements_sure.convert_sure path identity)
provider_event_sure (provider.Revert path) = sure_in_filter (revert path) (placements_sure.revert_sure path)
provider_event_sure (provider.Update path identity size) = sure_in_filter (update path identity size) (placements_sure.update_sure path identity size)
provider_event_sure (provider.Mark path number) = callbacks_sure.calling_sure (mark path number) (placements_sure.mark_sure path number)
provider_event_sure (provider.Unmark path) = sure_in_filter (unmark path) (placements_sure.unmark_sure path)
provider_event_sure (provider.Do operation) = callbacks_sure.calling_sure (execute operation) (operations_sure.execute_sure operation)
provider_event_sure (provider.Plan own operation) = sure_then of_state (noted (with_planned own operation)) (ret shown.Done) (sure_noted of_state (with_planned own operation) (plain_quiet of_state (with_planned own operation) (λ s. refl) (λ s. refl) (λ s. refl) (λ s. refl) (λ s. refl) (λ s. refl))) (sure_ret of_state shown.Done)
