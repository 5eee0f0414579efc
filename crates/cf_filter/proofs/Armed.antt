-- A filter whose disk is armed stands for what it stood for.
use Rattle.std.proofs.Common.{◌≡◌, List, ℕ, inl, sym, ◌∙◌, ap, subst, arith}
use Rattle.cf_filter_machine.proofs.Aims.{aims_on}
use Rattle.cf_disk.specs.Disk.{IsUnchanged, Keeps, Leaves, State}
use Rattle.cf_filter_desk.specs.Desks.{Desk}
use Rattle.cf_filter_machine.specs.Held.{Held}
use Rattle.cf_filter_machine.specs.Sensing.{Stands, Stopped}
use Rattle.cf_filter_machine.specs.Showing.{Shows}
use Rattle.cf_model.specs.State.{Filter}
use Rattle.cf_volume_points.proofs.Points.{Fair}
use Rattle.cf_volume_points.proofs.Readings.{read_at}
use Rattle.cf_volume_points.specs.At.{At}
use Rattle.cf_volume_points.specs.Known.{Known}
use Rattle.cf_volume_points.specs.Standing.{clusters_on}

still_keeps : (d e : State) → IsUnchanged d e → Keeps d e
still_keeps d e u = record { seen = u.seen; crash = u.crash }

still_leaves : (d e : State) → IsUnchanged d e → Leaves d e d.may_leave
still_leaves d e u = record { later = omega (arith, u.moment); now = u.crash; since = λ t c le left. inl (u.since t c left) }

module _ {D : Type 0} (state : D → State) (x y : Held D) (same : IsUnchanged (state x.disk) (state y.disk)) (known : y.known ≡ x.known) (desk : y.desk ≡ x.desk) where
  pub armed_stands : Fair (state y.disk) → (s : Filter) → Stands state x s → Stands state y s
  armed_stands fair s h = record {
    fair = fair;
    volume = subst (λ (k : Known). At (state y.disk) k s.volume) (sym known)
        (read_at (state x.disk) (state y.disk) x.known s.volume h.fair h.volume (still_keeps (state x.disk) (state y.disk) same) (still_leaves (state x.disk) (state y.disk) same));
    desk = desk ∙ h.desk;
    whole = ap (λ (k : Known). k.broken) known ∙ h.whole;
    good = h.good;
    kept = h.kept;
    points = h.points;
    aimed = aims_on (state x.disk) (state y.disk) s.volume same.settings h.aimed;
  }

  pub armed_stopped : (s : Filter) → Stopped state x s → Stopped state y s
  armed_stopped s h = record {
    notes = ap (λ (d : Desk). d.notes) desk ∙ h.notes;
    policy = ap (λ (d : Desk). d.policy) desk ∙ h.policy;
    connected = ap (λ (d : Desk). d.connected) desk ∙ h.connected;
    shows = subst (λ (c : List ℕ). Shows (clusters_on c) y.known s.volume) (sym same.seen)
        (subst (λ (k : Known). Shows (clusters_on (state x.disk).seen) k s.volume) (sym known) h.shows);
    lasts = λ c left. h.lasts c (same.crash c left);
  }
