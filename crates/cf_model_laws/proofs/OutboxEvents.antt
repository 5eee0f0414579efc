-- What each event keeps of the callbacks that are still to be called and of what waits and is asked, in `filter` by itself.
use Rattle.cf_base.specs.declared.answers.Shown.TheVariants as shown
use Rattle.cf_base.specs.declared.calls.Call.{Call}
use Rattle.cf_base.specs.declared.calls.Call.TheVariants as call
use Rattle.cf_base.specs.declared.events.DeviceEvent.{DeviceEvent}
use Rattle.cf_base.specs.declared.events.DeviceEvent.TheVariants as device
use Rattle.cf_base.specs.declared.events.Event.{Event}
use Rattle.cf_base.specs.declared.events.Event.TheVariants as event
use Rattle.cf_base.specs.declared.events.ProviderEvent.{ProviderEvent}
use Rattle.cf_base.specs.declared.events.ProviderEvent.TheVariants as provider
use Rattle.cf_base.specs.declared.policies.Mode.{Mode}
use Rattle.cf_base.specs.declared.policies.Mode.TheVariants as mode
use Rattle.cf_model.specs.Arrows.{noted, ret}
use Rattle.cf_model.specs.Calls.{delete, df, flush, info, open_file, ranges, rename, set_pin, set_policy, set_size, used, write}
use Rattle.cf_model.specs.Placements.{convert, create, keep_full, mark, revert, unmark, update}
use Rattle.cf_model.specs.Dehydration.{dehydrate}
use Rattle.cf_model.specs.Missing.{span_of}
use Rattle.cf_model.specs.Operations.{execute}
use Rattle.cf_model.specs.Plans.{NewDir, NewFile, NewPlaceholder, NewPlaceholderDir}
use Rattle.cf_model.specs.State.{State}
use Rattle.cf_model.specs.Waits.{cancel, close, connect, get, hydrate, list, read, tick}
use Rattle.cf_model.proofs.CallsKeep as calls_keep
use Rattle.cf_model.proofs.DehydrationKeep as dehydration_keep
use Rattle.cf_model.proofs.OperationsKeep as operations_keep
use Rattle.cf_model.proofs.PlacementsKeep as placements_keep
use Rattle.cf_model.proofs.WaitsKeep as waits_keep
use Rattle.cf_model.specs.Arrows.{Preserves}
use Rattle.std.proofs.Common.{◌≡◌, true, List, [], ◌∷◌, sym, subst}
use Rattle.std.specs.Prelude.{Option, Some, None}
use Rattle.cf_base.specs.declared.answers.Answer.{Answer}
use Rattle.cf_base.specs.declared.answers.Shown.{Shown}
use Rattle.cf_base.specs.declared.codes.Code.{Code}
use Rattle.cf_model.specs.Events.{answered, begun, call_in, choices_in, device_event, event_now, is_of, may_stop, needs_volume, no_volume, outcome, provider_event, tree_of, with_planned}
use Rattle.cf_model.specs.Lawful.{Runs}
use Rattle.cf_model.specs.Restarts.{epoch_after, restart_by}
use Rattle.cf_model.specs.Trees.{Choices, play}
use Rattle.cf_model.proofs.ArrowLaws.{keeps_noted, keeps_ret, keeps_then}
use Rattle.cf_model.proofs.TreeLaws.{kept_by_walk}
use Rattle.cf_model_laws.proofs.Leading.{kept_leads}
use Rattle.cf_model_laws.proofs.OpeningLaws.{Opening, restart_leads}
use Rattle.cf_model_laws.proofs.RightItems.{no_way}
use Rattle.cf_model_laws.proofs.OutboxCallbacks.{calling_keeps, part_keeps}
use Rattle.cf_model_laws.proofs.OutboxFacts.{BoxingRuns, Fact, Holds, filter_closed}

module _ (F : Fact) (b : BoxingRuns F) where
  abbrev pub In : State → Type 0
  In s = Holds F s.filter

  call_in_keeps : (m : Mode) (c : Call) → Preserves In (call_in m c)
  call_in_keeps m (call.Open path) = part_keeps F b.boxing (open_file path) (calls_keep.open_file_keeps (Holds F) (filter_closed F b.boxing) path)
  call_in_keeps m (call.Close handle) = calling_keeps F b.boxing (close handle) (waits_keep.close_keeps (Holds F) (filter_closed F b.boxing) handle)
  call_in_keeps m (call.Cancel wait) = calling_keeps F b.boxing (cancel wait) (waits_keep.cancel_keeps (Holds F) (filter_closed F b.boxing) wait)
  call_in_keeps m (call.Tick ticks) = calling_keeps F b.boxing (tick ticks) (waits_keep.tick_keeps (Holds F) (filter_closed F b.boxing) ticks)
  call_in_keeps m (call.Read handle offset len) = calling_keeps F b.boxing (read handle (span_of offset len)) (waits_keep.read_keeps (Holds F) (filter_closed F b.boxing) handle (span_of offset len))
  call_in_keeps m (call.Get path offset len) = calling_keeps F b.boxing (get path (span_of offset len)) (waits_keep.get_keeps (Holds F) (filter_closed F b.boxing) path (span_of offset len))
  call_in_keeps m (call.Write handle offset bytes) = calling_keeps F b.boxing (write handle offset bytes) (calls_keep.write_keeps (Holds F) (filter_closed F b.boxing) handle offset bytes)
  call_in_keeps m (call.Size handle size) = calling_keeps F b.boxing (set_size handle size) (calls_keep.set_size_keeps (Holds F) (filter_closed F b.boxing) handle size)
  call_in_keeps m call.Flush = part_keeps F b.boxing flush (calls_keep.flush_keeps (Holds F) (filter_closed F b.boxing))
  call_in_keeps m (call.Create path) = part_keeps F b.boxing (create path NewFile) (placements_keep.create_keeps (Holds F) (filter_closed F b.boxing) path NewFile)
  call_in_keeps m (call.Mkdir path) = part_keeps F b.boxing (create path NewDir) (placements_keep.create_keeps (Holds F) (filter_closed F b.boxing) path NewDir)
  call_in_keeps m (call.Delete path) = part_keeps F b.boxing (delete m path) (calls_keep.delete_keeps (Holds F) (filter_closed F b.boxing) m path)
  call_in_keeps m (call.Rename from to) = part_keeps F b.boxing (rename from to) (calls_keep.rename_keeps (Holds F) (filter_closed F b.boxing) from to)
  call_in_keeps m (call.List path) = calling_keeps F b.boxing (list path) (waits_keep.list_keeps (Holds F) (filter_closed F b.boxing) path)
  call_in_keeps m (call.Pin path pin reach) = part_keeps F b.boxing (set_pin path pin reach) (calls_keep.set_pin_keeps (Holds F) (filter_closed F b.boxing) path pin reach)
  call_in_keeps m (call.Hydrate path) = calling_keeps F b.boxing (hydrate path) (waits_keep.hydrate_keeps (Holds F) (filter_closed F b.boxing) path)
  call_in_keeps m (call.Dehydrate path range) = calling_keeps F b.boxing (dehydrate path range) (dehydration_keep.dehydrate_keeps (Holds F) (filter_closed F b.boxing) path range)
  call_in_keeps m (call.Info path) = part_keeps F b.boxing (info path) (calls_keep.info_keeps (Holds F) (filter_closed F b.boxing) path)
  call_in_keeps m (call.Ranges path class) = part_keeps F b.boxing (ranges path class) (calls_keep.ranges_keeps (Holds F) (filter_closed F b.boxing) path class)
  call_in_keeps m call.Df = part_keeps F b.boxing df (calls_keep.df_keeps (Holds F) (filter_closed F b.boxing))
  call_in_keeps m (call.Policy policy) = part_keeps F b.boxing (set_policy m policy) (calls_keep.set_policy_keeps (Holds F) (filter_closed F b.boxing) m policy)
  call_in_keeps m (call.Keep path on) = calling_keeps F b.boxing (keep_full path on) (placements_keep.keep_full_keeps (Holds F) (filter_closed F b.boxing) path on)
  call_in_keeps m (call.Used path) = part_keeps F b.boxing (used path) (calls_keep.used_keeps (Holds F) (filter_closed F b.boxing) path)
  call_in_keeps m (call.Connect on) = part_keeps F b.boxing (connect on) (waits_keep.connect_keeps (Holds F) (filter_closed F b.boxing) on)

  provider_event_keeps : (e : ProviderEvent) → Preserves In (provider_event e)
  provider_event_keeps (provider.Place path size identity in_sync) = part_keeps F b.boxing (create path (NewPlaceholder size identity in_sync)) (placements_keep.create_keeps (Holds F) (filter_closed F b.boxing) path (NewPlaceholder size identity in_sync))
  provider_event_keeps (provider.PlaceDir path identity in_sync) = part_keeps F b.boxing (create path (NewPlaceholderDir identity in_sync)) (placements_keep.create_keeps (Holds F) (filter_closed F b.boxing) path (NewPlaceholderDir identity in_sync))
  provider_event_keeps (provider.Convert path identity) = part_keeps F b.boxing (convert path identity) (placements_keep.convert_keeps (Holds F) (filter_closed F b.boxing) path identity)
  provider_event_keeps (provider.Revert path) = part_keeps F b.boxing (revert path) (placements_keep.revert_keeps (Holds F) (filter_closed F b.boxing) path)
  provider_event_keeps (provider.Update path identity size) = part_keeps F b.boxing (update path identity size) (placements_keep.update_keeps (Holds F) (filter_closed F b.boxing) path identity size)
  provider_event_keeps (provider.Mark path number) = calling_keeps F b.boxing (mark path number) (placements_keep.mark_keeps (Holds F) (filter_closed F b.boxing) path number)
  provider_event_keeps (provider.Unmark path) = part_keeps F b.boxing (unmark path) (placements_keep.unmark_keeps (Holds F) (filter_closed F b.boxing) path)
  provider_event_keeps (provider.Do operation) = calling_keeps F b.boxing (execute operation) (operations_keep.execute_keeps (Holds F) (filter_closed F b.boxing) operation)
  provider_event_keeps (provider.Plan own operation) = keeps_then In (noted (with_planned own operation)) (ret shown.Done) (keeps_noted In (with_planned own operation) (λ s h. h)) (keeps_ret In shown.Done)

  opening : (s : State) → In s → Opening In (λ r t. In t) s
  opening s h = record { opens = λ p skipped is small. b.opens (epoch_after skipped s); refused = λ r none. h; fails = h }

  device_event_keeps : (e : DeviceEvent) → Preserves In (device_event e)
  device_event_keeps (device.Stop calls) = keeps_ret In shown.Done
  device_event_keeps (device.Crash choice) = record { keeps = λ s h. b.crashes s.filter.outbox s.filter.waiting h }
  device_event_keeps device.Restart = record { keeps = λ s h. kept_leads In (restart_by s.power s) (restart_leads In (λ r t. In t) s (opening s h) s.power) }

  -- in `filter`

  pub filter_event_keeps : (e : Event) → is_of mode.Filter e ≡ true → Preserves In (event_now e)
  filter_event_keeps (event.Call c) is = record { keeps = λ s h. (call_in_keeps s.mode c).keeps s h }
  filter_event_keeps (event.Device e) is = device_event_keeps e
  filter_event_keeps (event.Peer e) is = no_way is
  filter_event_keeps (event.Engine e) is = no_way is
  filter_event_keeps (event.Provider e) is = provider_event_keeps e

  outcome_keeps : (x : Option Shown × State) → In x.1 → In (outcome x).0
  outcome_keeps (Some r, s) h = h
  outcome_keeps (None, s) h = h

  answered_keeps : (why : Option Code) (c : Choices) (s : State) (e : Event) → is_of mode.Filter e ≡ true → In s → In (answered why c s e).0
  answered_keeps (Some r) c s e is h = h
  answered_keeps None c s e is h =
      let d : Choices = choices_in (may_stop e) c in
      outcome_keeps (play d (tree_of e s)) (kept_by_walk In d.stop d.forks d.tellings (tree_of e s) ((filter_event_keeps e is).keeps (begun s) h))

  pub filter_runs_keep : (s : State) (trace : List (Event × Answer)) (t : State) → Runs mode.Filter s trace t → In s → In t
  filter_runs_keep s [] t h i = subst In (sym h) i
  filter_runs_keep s (p ∷ ps) t h i =
      let mid : In h.0 = subst (λ (x : State × Answer). In x.0) h.1.2 (answered_keeps (no_volume (needs_volume p.0) s.power) h.1.1 s p.0 h.1.0 i) in
      filter_runs_keep h.0 ps t h.2 mid
