-- The parts of `Events` keep identities named, in `replay`.
use Rattle.std.proofs.Common.{◌≡◌, ℕ, Bool, true, false, [], ◌∷◌, refl, sym}
use Rattle.cf_base.specs.declared.answers.Answer.{Answer}
use Rattle.cf_base.specs.declared.answers.Shown.TheVariants as shown
use Rattle.cf_base.specs.declared.calls.Call.{Call}
use Rattle.cf_base.specs.declared.calls.Call.TheVariants as call
use Rattle.cf_base.specs.declared.events.DeviceEvent.{DeviceEvent}
use Rattle.cf_base.specs.declared.events.DeviceEvent.TheVariants as device
use Rattle.cf_base.specs.declared.events.Event.{Event}
use Rattle.cf_base.specs.declared.events.Event.TheVariants as event
use Rattle.cf_base.specs.declared.policies.Mode.{Mode}
use Rattle.cf_base.specs.declared.policies.Mode.TheVariants as mode
use Rattle.cf_model.specs.Arrows.{Preserves}
use Rattle.cf_model.specs.Calls.{delete, df, flush, info, open_file, ranges, rename, set_pin, set_policy, set_size, used, write}
use Rattle.cf_model.specs.Dehydration.{dehydrate}
use Rattle.cf_model.specs.Events.{begun, call_in, call_now, device_event, event_now, is_of}
use Rattle.cf_model.specs.Items.{root}
use Rattle.cf_model.specs.Lawful.{IsStep}
use Rattle.cf_model.specs.Missing.{span_of}
use Rattle.cf_model.specs.Placements.{create, keep_full}
use Rattle.cf_model.specs.Plans.{NewDir, NewFile}
use Rattle.cf_model.specs.Restarts.{restart_by}
use Rattle.cf_model.specs.State.{start, State, with_filter}
use Rattle.cf_model.specs.Store.{Held}
use Rattle.cf_model.specs.Waits.{cancel, close, connect, get, hydrate, list, read, tick}
use Rattle.cf_model.proofs.ArrowLaws.{keeps_ret}
use Rattle.cf_model.proofs.PeersKeep.{peer_event_keeps}
use Rattle.cf_model.proofs.TreeLaws.{keeps_mapped}
use Rattle.cf_model_laws.specs.Uses.{is_ruling, sets_policy}
use Rattle.cf_model_laws.proofs.EventsGuarded.{step_by}
use Rattle.cf_model_laws.proofs.Leading.{kept_leads}
use Rattle.cf_model_laws.proofs.OpeningLaws.{Opening, restart_leads}
use Rattle.cf_model_laws.proofs.RightItems.{no_way}
use Rattle.cf_pair_identities.specs.Named.{Named, NamedState, NamedVolume}
use Rattle.cf_pair_identities.proofs.CallbacksNamed as callbacks_named
use Rattle.cf_pair_identities.proofs.CallsNamed as calls_named
use Rattle.cf_pair_identities.proofs.DehydrationNamed as dehydration_named
use Rattle.cf_pair_identities.proofs.EngineEventsNamed as engine_events_named
use Rattle.cf_pair_identities.proofs.MessagesNamed.{ask_keeps}
use Rattle.cf_pair_identities.proofs.NamedItems.{along_front, root_named}
use Rattle.cf_pair_identities.proofs.NamedSteps.{in_filter_keeps}
use Rattle.cf_pair_identities.proofs.PlacementsNamed as placements_named
use Rattle.cf_pair_identities.proofs.WaitsNamed as waits_named

pub call_in_keeps : (full : Bool) → (m : Mode) → (c : Call) → is_ruling c ≡ false → Preserves (Named full) (call_in m c)
call_in_keeps full m (call.Open path) plain = in_filter_keeps full (open_file path) (calls_named.open_file_keeps full path)
call_in_keeps full m (call.Close handle) plain = callbacks_named.calling_keeps full (close handle) (waits_named.close_keeps full handle)
call_in_keeps full m (call.Cancel wait) plain = callbacks_named.calling_keeps full (cancel wait) (waits_named.cancel_keeps full wait)
call_in_keeps full m (call.Tick ticks) plain = callbacks_named.calling_keeps full (tick ticks) (waits_named.tick_keeps full ticks)
call_in_keeps full m (call.Read handle offset len) plain = callbacks_named.calling_keeps full (read handle (span_of offset len)) (waits_named.read_keeps full handle (span_of offset len))
call_in_keeps full m (call.Get path offset len) plain = callbacks_named.calling_keeps full (get path (span_of offset len)) (waits_named.get_keeps full path (span_of offset len))
call_in_keeps full m (call.Write handle offset bytes) plain = callbacks_named.calling_keeps full (write handle offset bytes) (calls_named.write_keeps full handle offset bytes)
call_in_keeps full m (call.Size handle size) plain = callbacks_named.calling_keeps full (set_size handle size) (calls_named.set_size_keeps full handle size)
call_in_keeps full m call.Flush plain = in_filter_keeps full flush (calls_named.flush_keeps full)
call_in_keeps full m (call.Create path) plain = in_filter_keeps full (create path NewFile) (placements_named.create_keeps full path NewFile tt)
call_in_keeps full m (call.Mkdir path) plain = in_filter_keeps full (create path NewDir) (placements_named.create_keeps full path NewDir tt)
call_in_keeps full m (call.Delete path) plain = in_filter_keeps full (delete m path) (calls_named.delete_keeps full m path)
call_in_keeps full m (call.Rename from to) plain = in_filter_keeps full (rename from to) (calls_named.rename_keeps full from to)
call_in_keeps full m (call.List path) plain = callbacks_named.calling_keeps full (list path) (waits_named.list_keeps full path)
call_in_keeps full m (call.Pin path pin reach) plain = in_filter_keeps full (set_pin path pin reach) (calls_named.set_pin_keeps full path pin reach)
call_in_keeps full m (call.Hydrate path) plain = callbacks_named.calling_keeps full (hydrate path) (waits_named.hydrate_keeps full path)
call_in_keeps full m (call.Dehydrate path range) plain = callbacks_named.calling_keeps full (dehydrate path range) (dehydration_named.dehydrate_keeps full path range)
call_in_keeps full m (call.Info path) plain = in_filter_keeps full (info path) (calls_named.info_keeps full path)
call_in_keeps full m (call.Ranges path class) plain = in_filter_keeps full (ranges path class) (calls_named.ranges_keeps full path class)
call_in_keeps full m call.Df plain = in_filter_keeps full df (calls_named.df_keeps full)
call_in_keeps full m (call.Policy policy) plain = no_way (sym plain)
call_in_keeps full m (call.Keep path on) plain = callbacks_named.calling_keeps full (keep_full path on) (placements_named.keep_full_keeps full path on)
call_in_keeps full m (call.Used path) plain = in_filter_keeps full (used path) (calls_named.used_keeps full path)
call_in_keeps full m (call.Connect on) plain = in_filter_keeps full (connect on) (waits_named.connect_keeps full on)

call_now_keeps : (full : Bool) → (c : Call) → is_ruling c ≡ false → Preserves (Named full) (call_now c)
call_now_keeps full c plain = record { keeps = λ s h. (call_in_keeps full s.mode c plain).keeps s h }

-- a restart keeps some first changes
opening : (full : Bool) (s : State) → Named full s → Opening (Named full) (λ r t. Named full t) s
opening full s h = record {
  opens = λ p skipped is small. (((along_front full (root ∷ []) s.filter.volume.log p.count h.0.0.0, refl), h.0.1), h.1);
  refused = λ r none. h;
  fails = h;
}

device_event_keeps : (full : Bool) → (e : DeviceEvent) → Preserves (Named full) (device_event e)
device_event_keeps full (device.Stop calls) = keeps_ret (Named full) shown.Done
device_event_keeps full (device.Crash choice) = record { keeps = λ s h. h }
device_event_keeps full device.Restart = record { keeps = λ s h. kept_leads (Named full) (restart_by s.power s) (restart_leads (Named full) (λ r t. Named full t) s (opening full s h) s.power) }

event_now_keeps : (full : Bool) → (e : Event) → is_of mode.Replay e ≡ true → sets_policy e ≡ false → Preserves (Named full) (event_now e)
event_now_keeps full (event.Call c) is plain = call_now_keeps full c plain
event_now_keeps full (event.Device e) is plain = device_event_keeps full e
event_now_keeps full (event.Peer e) is plain = peer_event_keeps (Named full) (ask_keeps full) (λ s h. h) (λ r s h. h) e
event_now_keeps full (event.Engine e) is plain = engine_events_named.engine_event_keeps full e
event_now_keeps full (event.Provider e) is plain = no_way is

-- a policy that is set leaves the volume
policy_keeps : (full : Bool) → (c : Call) → is_ruling c ≡ true → Preserves (NamedState full) (call_now c)
policy_keeps full (call.Policy p) rules = record {
  keeps = λ s h. keeps_mapped (λ x. NamedVolume full x.volume) (NamedState full) (λ x. with_filter x s) (set_policy s.mode p s.filter) (λ x k. (k, h.1)) ((calls_named.set_policy_keeps full s.mode p).keeps s.filter h.0);
}
policy_keeps full c rules = no_way rules

-- one event
pub step_named : (full : Bool) (s : State) (e : Event) (a : Answer) (t : State) → IsStep mode.Replay s e a t → Named full s → NamedState full t
step_named full s e a t is h = by (sets_policy e) refl where
  rules : (x : Event) → sets_policy x ≡ true → Preserves (NamedState full) (event_now x)
  rules (event.Call c) q = policy_keeps full c q
  rules (event.Device d) q = no_way q
  rules (event.Peer p) q = no_way q
  rules (event.Engine n) q = no_way q
  rules (event.Provider p) q = no_way q

  by : (b : Bool) → sets_policy e ≡ b → NamedState full t
  by true q = step_by (NamedState full) (λ r k. k) s e a t is (h.0.0, h.1) ((rules e q).keeps (begun s) (h.0.0, h.1))
  by false q = let k : Named full t = step_by (Named full) (λ r k. k) s e a t is h ((event_now_keeps full e is.0 q).keeps (begun s) h) in (k.0.0, k.1)

pub start_named : (full : Bool) (remote : Held) (clusters : ℕ) → NamedState full (start mode.Replay remote clusters)
start_named full remote clusters = ((root_named full, refl), refl)
