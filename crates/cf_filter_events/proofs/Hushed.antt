-- The filter between two events, whose notes are told.
use Rattle.std.proofs.Common.{◌≡◌, List, [], refl, sym, ap, subst, ◌∙◌}
use Rattle.std.specs.Prelude.{◌-◌, ◌/◌, min}
use Rattle.cf_filter_events.specs.Actors.{hushed}
use Rattle.cf_filter_events.specs.Meaning.{IsDiskOf}
use Rattle.cf_filter_events.specs.Pasts.{Past}
use Rattle.cf_base.specs.declared.notices.Notice.{Notice}
use Rattle.cf_disk.specs.Disk.{State as Disk, size_of}
use Rattle.cf_filter.specs.Calling.{noted}
use Rattle.cf_journal.specs.Settled.{IsFitSize}
use Rattle.cf_filter_desk.specs.Desks.{Desk}
use Rattle.cf_filter_machine.specs.Held.{Held}
use Rattle.cf_filter_machine.specs.Lasting.{Lasts, Moved}
use Rattle.cf_filter_machine.specs.Sensing.{Stands, Stopped}
use Rattle.cf_filter_machine.specs.Showing.{Shows}
use Rattle.cf_model.specs.State.{Filter, Volume}
use Rattle.cf_volume_points.specs.Standing.{clusters_for, clusters_on}
use Rattle.cf_filter_steps.specs.Good.{IsGood}

module _ {D : Type 0} (state : D → Disk) where
  pub noted_none : (x : Held D) → x.desk.notes ≡ [] → noted [] x ≡ x
  unfolding noted
  noted_none x quiet = ap (λ (l : List Notice). record x { desk = record x.desk { notes = l } }) (sym quiet)

  pub was_broken : (x : Held D) → (noted [] x).desk.broken ≡ x.desk.broken
  unfolding noted
  was_broken x = refl

  pub is_broken : (y : Held D) (ns : List Notice) → (noted ns y).desk.broken ≡ y.desk.broken
  unfolding noted
  is_broken y ns = refl

  pub notes_told : (y : Held D) (ns : List Notice) (f : Filter) → Stands state (noted ns y) f → f.notes ≡ ns
  unfolding noted
  notes_told y ns f h = sym (ap (λ (d : Desk). d.notes) h.desk)

  pub stop_told : (y : Held D) (ns : List Notice) (f : Filter) → Stopped state (noted ns y) f → f.notes ≡ ns
  unfolding noted
  stop_told y ns f h = sym h.notes

  pub stop_policy : (y : Held D) (ns : List Notice) (f : Filter) → Stopped state (noted ns y) f → y.desk.policy ≡ f.policy
  unfolding noted
  stop_policy y ns f h = h.policy

  pub stop_lasts : (y : Held D) (ns : List Notice) (f : Filter) → Stopped state (noted ns y) f → Lasts (state y.disk) f.volume
  unfolding noted
  stop_lasts y ns f h = h.lasts

  pub stop_shows : (y : Held D) (ns : List Notice) (f : Filter) → Stopped state (noted ns y) f → Shows (clusters_on (state y.disk).seen) y.known f.volume
  unfolding noted
  stop_shows y ns f h = h.shows

  good_hushed : (f : Filter) → IsGood f → IsGood (hushed f)
  good_hushed f h = record { volume = h.volume; files = h.files; numbered = h.numbered; reads = h.reads }

  -- after a call its notes are taken out
  pub stands_hushed : (y : Held D) (ns : List Notice) (f : Filter) → y.desk.notes ≡ [] → Stands state (noted ns y) f → Stands state y (hushed f)
  unfolding noted
  stands_hushed y ns f quiet h = record {
    fair = h.fair;
    volume = h.volume;
    desk = ap (λ (l : List Notice). record y.desk { notes = l }) quiet ∙ ap (λ (d : Desk). record d { notes = [] }) h.desk;
    whole = h.whole;
    good = good_hushed f h.good;
    kept = h.kept;
    points = h.points;
    aimed = h.aimed;
  }

  pub stands_noted : (x : Held D) (f : Filter) → x.desk.notes ≡ [] → Stands state x f → Stands state (noted [] x) f
  stands_noted x f quiet h = subst (λ (z : Held D). Stands state z f) (sym (noted_none x quiet)) h

pub same_clusters : (d e : Disk) → size_of e ≡ size_of d → e.settings.quota ≡ d.settings.quota → clusters_for e ≡ clusters_for d
same_clusters d e same quota = λ i. min (quota i) ((same i - 3145728) / 4096)

pub same_quota : (d e : Disk) → e.settings ≡ d.settings → e.settings.quota ≡ d.settings.quota
same_quota d e same = λ i. (same i).quota

-- a call leaves the size and the power cuts of the disk, and the clusters of the volume
pub disk_moved : {D : Type 0} (state : D → Disk) (past : Past) (d e : Disk) (v w : Volume) → IsDiskOf state past d v → Moved d e v w → IsDiskOf state past e w
disk_moved state past d e v w h m = record {
  fit = λ leaves. subst IsFitSize (sym m.runs.size) (h.fit leaves);
  clusters = m.grows.clusters ∙ h.clusters ∙ sym (same_clusters d e m.runs.size (same_quota d e m.runs.settings));
  powers = m.runs.powers ∙ h.powers;
}
