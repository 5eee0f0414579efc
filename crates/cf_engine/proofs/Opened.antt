-- An engine on a volume that was just opened.
use Rattle.std.proofs.Common.{◌≡◌, ℕ, List, Bool, false, refl, sym, ◌∙◌, ap, subst}
use Rattle.cf_base.specs.declared.policies.Policy.{Policy}
use Rattle.cf_disk.specs.Disk.{State as Disk, size_of}
use Rattle.cf_engine.specs.Actors.{Answers, Holds, Stands, Syncing, acts_of, new_engine}
use Rattle.cf_engine.specs.Engines.{IsSyncing, on_volume}
use Rattle.cf_engine.specs.Playing.{is_actor}
use Rattle.cf_filter_events.proofs.Hushed.{same_clusters, same_quota}
use Rattle.cf_filter_events.proofs.Wholes.{on_hands, on_holds}
use Rattle.cf_filter_events.specs.Meaning.{OnBy}
use Rattle.cf_filter_events.specs.Pasts.{Past, StandsFor}
use Rattle.cf_filter_events.specs.declared.places.RunningOn.{RunningOn as Run}
use Rattle.cf_filter_desk.specs.Desks.{Desk}
use Rattle.cf_filter_machine.specs.Held.{Held}
use Rattle.cf_filter_machine.specs.Sensing as sensing
use Rattle.cf_journal.specs.Settled.{IsFitSize}
use Rattle.cf_link.specs.Linked.{IsLink, Linked}
use Rattle.cf_model.specs.Powers.{StandsNow}
use Rattle.cf_model.specs.State.{Link, State, Volume, new_filter}
use Rattle.cf_remote.specs.Told.{Told}
use Rattle.cf_volume.specs.Calls.{Runs}
use Rattle.cf_volume_points.specs.Standing.{clusters_for}

module _ {D R : Type 0} (state : D → Disk) (told : R → Told) where
  pub opened_on : (d : D) (x : Held D) (p : Syncing R) (l : Linked R) (link : Link) (past : Past) (policy : Policy) (v : Volume) → IsFitSize (size_of (state d)) → Runs (state d) (state x.disk) → v.clusters ≡ clusters_for (state d)
      → sensing.Stands state x (new_filter v policy) → p ≡ new_engine l → IsLink told l link → past.told ≡ (state d).powers → IsSyncing state told past (record { filter = x; actor = p }) (on_volume policy link v)
  opened_on d x p l link past policy v fit runs clusters stands is linked powers =
      let s : State = on_volume policy link v in
      let begun : Stands told (new_engine l) s = record { held = record { link = linked; next = refl }; volatile = refl } in
      let on : OnBy (acts_of told) state false (record { filter = x; actor = p }) s = (refl, subst (λ (q : Syncing R). Stands told q s) (sym is) begun, stands) in
      record {
        mode = refl;
        quiet = ap (λ (k : Desk). k.notes) stands.desk;
        disk = record { fit = λ leaves. subst IsFitSize (sym runs.size) fit; clusters = clusters ∙ sym (same_clusters (state d) (state x.disk) runs.size (same_quota (state d) (state x.disk) runs.settings)); powers = runs.powers ∙ sym powers };
        is = subst (λ (b : Bool). OnBy (acts_of told) state b (record { filter = x; actor = p }) s) (sym (ap (λ (k : Desk). k.broken) stands.desk)) on;
      }

  -- the same as the code comes to it
  pub opened_by : (d : D) (x : Held D) (run : Run D (Syncing R)) (l : Linked R) (link : Link) (past : Past) (policy : Policy) (v : Volume) → IsFitSize (size_of (state d)) → Runs (state d) (state x.disk) → v.clusters ≡ clusters_for (state d)
      → sensing.Stands state x (new_filter v policy) → run ≡ record { filter = x; actor = new_engine l } → IsLink told l link → past.told ≡ (state d).powers → IsSyncing state told past run (on_volume policy link v)
  opened_by d x run l link past policy v fit runs clusters stands is linked powers = subst (λ (r : Run D (Syncing R)). IsSyncing state told past r (on_volume policy link v)) (sym is)
      (opened_on d x (new_engine l) l link past policy v fit runs clusters stands refl linked powers)

  -- what is handed back

  pub disk_back : (past : Past) (run : Run D (Syncing R)) (d : D) (s : State) → IsSyncing state told past run s → d ≡ run.filter.disk → (c : List ℕ) → (state d).may_leave c → StandsNow StandsFor s c
  disk_back past run d s is same c may = on_hands (acts_of told) state past run s is c (subst (λ (e : D). (state e).may_leave c) same may)

  pub link_back : (past : Past) (run : Run D (Syncing R)) (l : Linked R) (s : State) → IsSyncing state told past run s → l ≡ run.actor.engine.agent.link → IsLink told l s.link
  link_back past run l s is same =
      let held : Holds told run.actor s = on_holds (Answers told) (acts_of told) (is_actor told) state past run s is in
      subst (λ (k : Linked R). IsLink told k s.link) (sym same) held.link
