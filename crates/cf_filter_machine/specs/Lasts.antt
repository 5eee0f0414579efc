-- What a crash leaves, as calls go on.
use Rattle.std.proofs.Common.{inl, inr, ⊎_elim, ℕ, ◌≤◌, List, [], ◌++◌, length, take, refl, sym, ◌∙◌, ap, subst, arith, append-nil, append_assoc}
use Rattle.std.proofs.lemmas.List.{length-append}
use Rattle.cf_base.specs.declared.changes.Change.{Change}
use Rattle.cf_base.specs.declared.ids.Usn.{Usn}
use Rattle.cf_disk.specs.Disk.{State}
use Rattle.cf_disk.specs.Leaving.{leaves_then, leaves_weaker}
use Rattle.cf_filter_machine.specs.Keeping.{HasKeptPoints}
use Rattle.cf_filter_machine.specs.Lasting.{Grows, IsBetween, Lasts, Moved}
use Rattle.cf_model.specs.Points.{Opens}
use Rattle.cf_model.specs.State.{Point, Volume}
use Rattle.cf_volume_points.proofs.Points.{Fair, kept_stands}
use Rattle.cf_volume_points.specs.At.{At}
use Rattle.cf_volume_points.specs.Known.{Known}

pub lasts_at : (d : State) (k : Known) (v : Volume) → Fair d → At d k v → HasKeptPoints v → Lasts d v
lasts_at d k v fair at kept = λ c left. record {
  point = at.last.point;
  opens = opens;
  stands = kept_stands d k.journal k.uses v.epoch (take at.last.point.count v.log) at.last.point.book fair at.last.kept c left;
  kept = kept at.last.point opens;
}
  where
    opens : Opens v.points at.last.point
    opens = subst (λ (l : List Point). Opens l at.last.point) (sym at.last.points_are) (inl refl)

-- volumes that grow

pub grows_not : (v : Volume) → Grows v v
grows_not v = record { epoch = refl; clusters = refl; more = []; log = sym (append-nil v.log); points = λ p h. inl h }

longer : (a b : List (Usn × Change)) (n : ℕ) → length (a ++ b) ≤ n → length a ≤ n
longer a b n h = omega (arith, h, length-append a b)

pub grows_on : (u v w : Volume) → Grows u v → Grows v w → Grows u w
grows_on u v w f g = record {
  epoch = g.epoch ∙ f.epoch;
  clusters = g.clusters ∙ f.clusters;
  more = f.more ++ g.more;
  log = g.log ∙ ap (λ (l : List (Usn × Change)). l ++ g.more) f.log ∙ append_assoc u.log f.more g.more;
  points = λ p h. ⊎_elim (λ was. f.points p was) (λ (later : length v.log ≤ p.count). inr (longer u.log f.more p.count (subst (λ (l : List (Usn × Change)). length l ≤ p.count) f.log later))) (g.points p h);
}

-- calls that go on

pub no_move : (d : State) (v : Volume) → Lasts d v → Moved d d v v
no_move d v lasts = record {
  runs = record { size = refl; settings = refl; powers = refl; faults = omega arith; calm = omega arith };
  grows = grows_not v;
  leaves = record {
    later = omega arith;
    now = λ c left. record { mid = v; after = grows_not v; before = grows_not v; stands = lasts c left };
    since = λ t c le left. inl left;
  };
}

pub stays_put : (d : State) (k : Known) (v : Volume) → Fair d → At d k v → HasKeptPoints v → Moved d d v v
stays_put d k v fair at kept = no_move d v (lasts_at d k v fair at kept)

pub moved_on : (d e f : State) (u v w : Volume) → Moved d e u v → Moved e f v w → Moved d f u w
moved_on d e f u v w m n = record {
  runs = record { size = n.runs.size ∙ m.runs.size; settings = n.runs.settings ∙ m.runs.settings; powers = n.runs.powers ∙ m.runs.powers; faults = let a = m.runs.faults in let b = n.runs.faults in omega (arith, a, b); calm = let a = m.runs.calm in let b = n.runs.calm in omega (arith, a, b) };
  grows = grows_on u v w m.grows n.grows;
  leaves = leaves_then d e f (IsBetween u w) (IsBetween v w)
      (leaves_weaker d e (IsBetween u v) (IsBetween u w) m.leaves (λ c b. record { mid = b.mid; after = b.after; before = grows_on b.mid v w b.before n.grows; stands = b.stands }))
      n.leaves
      (λ c b. record { mid = b.mid; after = grows_on u v b.mid m.grows b.after; before = b.before; stands = b.stands });
}
