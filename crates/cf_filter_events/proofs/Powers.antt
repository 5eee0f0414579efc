-- Events of the device while the volume is open.
use Rattle.std.proofs.Common.{◌≡◌, ℕ, ◌+◌, length, take, Bool, true, false, List, [], refl, sym, ap, subst, ◌∙◌, arith, inl}
use Rattle.std.specs.Prelude.{Ok, Option, Some, ◌∷◌, not}
use Rattle.cf_filter_events.specs.Answered.{answer_with}
use Rattle.cf_filter_events.specs.Actors.{Acts, IsActor, hushed}
use Rattle.cf_filter_events.specs.Meaning.{Is, IsNewest, IsOff, IsOn, IsDiskOf, OnBy}
use Rattle.cf_filter_events.specs.declared.places.RunningOn.{RunningOn as Run}
use Rattle.cf_filter_events.specs.Pasts.{Gains, Past, StandsFor}
use Rattle.cf_filter_events.specs.Stepped.{Steps, StepsOver}
use Rattle.cf_filter_events.specs.declared.places.Acting.TheVariants as acting
use Rattle.cf_filter_events.specs.declared.places.Cut.{Cut}
use Rattle.cf_filter_events.proofs.Finished.{device_of}
use Rattle.cf_filter_events.proofs.Hushed.{same_clusters, same_quota}
use Rattle.cf_base.specs.declared.answers.Shown.TheVariants as shown
use Rattle.cf_base.specs.declared.codes.Code.{Code}
use Rattle.cf_base.specs.declared.codes.Code.TheVariants as code
use Rattle.cf_base.specs.declared.events.DeviceEvent.TheVariants as device
use Rattle.cf_base.specs.declared.events.Event.TheVariants as event
use Rattle.cf_base.specs.declared.policies.Choice.{Choice}
use Rattle.cf_engine_host.specs.Callbacks.{Answering}
use Rattle.cf_disk.specs.Disk.{AddsPower, IsUnchanged, Only, Powers, State as Disk, size_of}
use Rattle.cf_journal.specs.Settled.{IsFitSize}
use Rattle.cf_filter_desk.specs.Desks.{Desk}
use Rattle.cf_filter_machine.specs.Held.{Held}
use Rattle.cf_filter_machine.specs.Lasting.{IsOfPoint, Lasts}
use Rattle.cf_filter_machine.specs.Sensing.{Stands}
use Rattle.cf_filter_machine.specs.Showing.{Shows}
use Rattle.cf_model.proofs.TraceLaws.{ended_step}
use Rattle.cf_model.specs.Events.{begun, tree_of}
use Rattle.cf_model.specs.Powers.{IsPower}
use Rattle.cf_model.specs.Restarts.{crashed}
use Rattle.cf_model.specs.State.{Broken, Filter, On, Point, Power, State, Volume}
use Rattle.cf_model.specs.Trees.{Ends}
use Rattle.cf_model.specs.Points.{Opens}
use Rattle.cf_volume_points.proofs.Points.{kept_stands}
use Rattle.cf_volume_points.specs.Known.{Known}
use Rattle.cf_volume_points.specs.Standing.{Standing, clusters_on}

-- what a power cut left
abbrev pub left_by : Disk → Past
left_by d = record { told = d.powers; last = Some d.seen }

-- a disk of the same size and quota that had no power cut
pub disk_again : {D : Type 0} (state : D → Disk) (past : Past) (d e : Disk) (v : Volume) → size_of e ≡ size_of d → e.settings.quota ≡ d.settings.quota → e.powers ≡ d.powers → IsDiskOf state past d v → IsDiskOf state past e v
disk_again state past d e v same quota still h = record { fit = λ leaves. subst IsFitSize (sym same) (h.fit leaves); clusters = h.clusters ∙ sym (same_clusters d e same quota); powers = still ∙ h.powers }

-- and one that had a power cut
pub disk_cut : {D : Type 0} (state : D → Disk) (past : Past) (choice : Choice) (d e : Disk) (v : Volume) → Powers choice d e → IsDiskOf state past d v → IsDiskOf state (left_by e) e v
disk_cut state past choice d e v powers h = record { fit = λ leaves. subst IsFitSize (sym powers.size) (h.fit leaves); clusters = h.clusters ∙ sym (same_clusters d e powers.size (same_quota d e powers.settings)); powers = refl }

pub lasting_again : (d e : Disk) (v : Volume) → IsUnchanged d e → Lasts d v → Lasts e v
lasting_again d e v same h = λ c left. h c (same.crash c left)

shown_again : (d e : Disk) (k l : Known) (v : Volume) → IsUnchanged d e → l ≡ k → Shows (clusters_on d.seen) k v → Shows (clusters_on e.seen) l v
shown_again d e k l v same known h = subst (λ (c : List ℕ). Shows (clusters_on c) l v) (sym same.seen) (subst (λ (j : Known). Shows (clusters_on d.seen) j v) (sym known) h)

-- the restart of a volume that is not off
refuses : (p : Power) (s : State) → s.power ≡ p → p ≡ On → Ends (tree_of (event.Device device.Restart) s) (shown.Refused code.Running) (begun s)
refuses p s is on = rw (is ∙ on) (refl, refl)

refuses_broken : (s : State) → s.power ≡ Broken → Ends (tree_of (event.Device device.Restart) s) (shown.Refused code.Running) (begun s)
refuses_broken s is = rw is (refl, refl)

same_epoch : (e : ℕ) → e + 0 ≡ e
same_epoch e = omega arith

-- a restart that is refused opens nothing
pub opens_nothing : (last : Option (List ℕ)) (c : Code) (t : State) → IsPower StandsFor last (event.Device device.Restart) (answer_with (shown.Refused c) []) t [] last []
opens_nothing last c t = (λ never. let z : false ≡ true = never in absurd cc, refl, refl)

-- the one power cut of a crash
pub one_gained : (past : Past) (choice : Choice) (d e : Disk) → d.powers ≡ past.told → Powers choice d e → Gains ((choice, e.seen) ∷ []) past.told e.powers
one_gained past choice d e told powers = (e.powers, subst (λ (o : Option (List (Choice × List ℕ))). AddsPower choice e.seen o e.powers) told powers.adds, refl)

module _ {D A : Type 0} (answers : Answering A) (acts : Acts A) (actor : IsActor answers acts) (state : D → Disk) where
  -- an event without notes that leaves the volume
  pub begins_on : (past : Past) (x : Run D A) (s : State) → IsOn acts state past x s → IsOn acts state past x (begun s)
  begins_on past x s on = record { mode = on.mode; quiet = on.quiet; disk = record { fit = on.disk.fit; clusters = on.disk.clusters; powers = on.disk.powers }; is = by x.filter.desk.broken on.is }
    where
      by : (b : Bool) → OnBy acts state b x s → OnBy acts state b x (begun s)
      by true h = (h.0, actor.holds_on x.actor s (begun s) refl refl h.1, h.2, h.3, h.4)
      by false h = (h.0, actor.stands_on x.actor s (begun s) (record { plan = refl; link = refl; volatile = refl; tokens = refl }) h.1, h.2)

  pub running_step : (x : Run D A) → StepsOver acts.mode (IsOn acts state) (event.Device device.Restart) x (Ok (answer_with (shown.Refused code.Running) [])) x
  running_step x = record {
    leads = λ past s on. (
      begun s,
      [],
      past,
      ended_step acts.mode s (event.Device device.Restart) (shown.Refused code.Running) (begun s) (device_of acts.mode device.Restart) refl (by s x.filter.desk.broken on.is),
      opens_nothing past.last code.Running (begun s),
      refl,
      begins_on past x s on,
    );
  }
    where
      by : (s : State) (b : Bool) → OnBy acts state b x s → Ends (tree_of (event.Device device.Restart) s) (shown.Refused code.Running) (begun s)
      by s true h = refuses_broken s h.0
      by s false h = refuses On s h.0 refl

  pub stop_step : (n : ℕ) (x y : Held D) (p : A) → IsUnchanged (state x.disk) (state y.disk) → ((f : Filter) → Stands state x f → Stands state y f) → y.desk ≡ x.desk → y.known ≡ x.known
      → Steps acts.mode (IsOn acts state) (event.Device (device.Stop n)) (record { filter = x; actor = p }) (Ok (answer_with shown.Done [])) (record { filter = y; actor = p })
  stop_step n x y p same stands desk known = record {
    leads = λ past s on. (
      begun s,
      ended_step acts.mode s (event.Device (device.Stop n)) shown.Done (begun s) (device_of acts.mode (device.Stop n)) refl (refl, refl),
      record {
        mode = on.mode;
        quiet = ap (λ (d : Desk). d.notes) desk ∙ on.quiet;
        disk = disk_again state past (state x.disk) (state y.disk) s.filter.volume (ap length same.seen) (same_quota (state x.disk) (state y.disk) same.settings) same.powers on.disk;
        is = subst (λ (b : Bool). OnBy acts state b (record { filter = y; actor = p }) (begun s)) (sym (ap (λ (d : Desk). d.broken) desk)) (by s x.desk.broken on.is);
      },
    );
  }
    where
      by : (s : State) (b : Bool) → OnBy acts state b (record { filter = x; actor = p }) s → OnBy acts state b (record { filter = y; actor = p }) (begun s)
      by s true h = (h.0, actor.holds_on p s (begun s) refl refl h.1, ap (λ (d : Desk). d.policy) desk ∙ h.2, lasting_again (state x.disk) (state y.disk) s.filter.volume same h.3, shown_again (state x.disk) (state y.disk) x.known y.known s.filter.volume same known h.4)
      by s false h = (h.0, actor.stands_on p s (begun s) (record { plan = refl; link = refl; volatile = refl; tokens = refl }) h.1, stands (hushed s.filter) h.2)

  -- what the power cut leaves stands for a point
  pub cut_off : (past : Past) (x : D) (y : Cut D A) (choice : Choice) (s : State) → s.mode ≡ acts.mode → acts.holds y.actor s → IsDiskOf state past (state x) s.filter.volume → y.policy ≡ s.filter.policy → (at : IsOfPoint s.filter.volume (state y.disk).seen)
      → (y.whole ≡ true → IsNewest at.point s.filter.volume.points) → Only (state y.disk).seen (state y.disk) → Powers choice (state x) (state y.disk) → IsOff acts state (left_by (state y.disk)) y (crashed (begun s))
  cut_off past x y choice s mode holds disk policy at newest only powers =
      record {
        mode = mode;
        power = refl;
        holds = actor.holds_on y.actor s (crashed (begun s)) refl refl holds;
        policy = policy;
        disk = disk_cut state past choice (state x) (state y.disk) s.filter.volume powers disk;
        point = at.point;
        opens = at.opens;
        newest = newest;
        kept = at.kept;
        lasts = λ c may. record {
          taken = 0;
          few = omega arith;
          stands = subst (λ (i : List ℕ). Standing (s.filter.volume.epoch + 0) i (take at.point.count s.filter.volume.log) at.point.book) (sym (only c may)) (subst (λ (n : ℕ). Standing n (state y.disk).seen (take at.point.count s.filter.volume.log) at.point.book) (sym (same_epoch s.filter.volume.epoch)) at.stands);
        };
        image = (state y.disk).seen;
        last = refl;
        left = (s.filter.volume.epoch, at.stands);
      }

  pub cut_step : (choice : Choice) (x : Run D A) (y : Cut D A) → y.policy ≡ x.filter.desk.policy → y.actor ≡ x.actor → y.whole ≡ not x.filter.desk.broken → (state x.filter.disk).may_leave (state y.disk).seen → Only (state y.disk).seen (state y.disk) → Powers choice (state x.filter.disk) (state y.disk)
      → StepsOver acts.mode (Is acts state) (event.Device (device.Crash choice)) (acting.On x) (Ok (answer_with shown.Done [])) (acting.Off y)
  cut_step choice x y policy kept whole left only powers = record {
    leads = λ past s on. (
      crashed (begun s),
      (choice, (state y.disk).seen) ∷ [],
      left_by (state y.disk),
      ended_step acts.mode s (event.Device (device.Crash choice)) shown.Done (crashed (begun s)) (device_of acts.mode (device.Crash choice)) refl (refl, refl),
      (refl, refl, refl),
      one_gained past choice (state x.filter.disk) (state y.disk) on.disk.powers powers,
      by past s on x.filter.desk.broken whole on.is,
    );
  }
    where
      by : (past : Past) (s : State) → IsOn acts state past x s → (b : Bool) → y.whole ≡ not b → OnBy acts state b x s → IsOff acts state (left_by (state y.disk)) y (crashed (begun s))
      by past s on true is h =
          cut_off past x.filter.disk y choice s on.mode (subst (λ (p : A). acts.holds p s) (sym kept) h.1) on.disk (policy ∙ h.2) (h.3 (state y.disk).seen left)
          (λ so. let z : false ≡ true = sym is ∙ so in absurd cc) only powers
      by past s on false is h =
          let holds = actor.stands_held x.actor s h.1 in
          let last = h.2.volume.last in
          let opens : Opens s.filter.volume.points last.point = subst (λ (l : List Point). Opens l last.point) (sym last.points_are) (inl refl) in
          cut_off past x.filter.disk y choice s on.mode (subst (λ (p : A). acts.holds p s) (sym kept) holds) on.disk (policy ∙ ap (λ (d : Desk). d.policy) h.2.desk)
          (record {
            point = last.point;
            opens = opens;
            stands = kept_stands (state x.filter.disk) x.filter.known.journal x.filter.known.uses s.filter.volume.epoch (take last.point.count s.filter.volume.log) last.point.book h.2.fair last.kept (state y.disk).seen left;
            kept = h.2.points last.point opens;
          }) (λ so. (last.earlier, last.points_are)) only powers
