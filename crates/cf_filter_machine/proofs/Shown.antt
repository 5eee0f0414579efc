-- What shows of a volume, before a call that the device stops and after it.
use Rattle.std.proofs.Common.{◌≡◌, ◌≤◌, ℕ, length, sym, ◌∙◌, ap, subst, arith}
use Rattle.std.proofs.lemmas.Result.{err_from_is_err_and}
use Rattle.std.specs.Prelude.{◌-◌, ◌/◌, Err, IfErr, Ok, Result}
use Rattle.std.specs.Result.{IsErrAnd}
use Rattle.cf_base.specs.declared.codes.CallError.{CallError}
use Rattle.cf_base.specs.declared.codes.CallError.TheVariants.{OutOfMemory, No}
use Rattle.cf_clusters.proofs.Counts.{uses_add_up}
use Rattle.cf_disk.specs.Disk.{State}
use Rattle.cf_filter_machine.specs.Held.{Held}
use Rattle.cf_filter_machine.specs.Sensing.{Stands}
use Rattle.cf_filter_machine.specs.Showing.{Shows, StaysBy}
use Rattle.cf_model.specs.Blocks.{blocks_used}
use Rattle.cf_model.specs.Points.{with_point_begun}
use Rattle.cf_model.specs.State.{Filter, Volume}
use Rattle.cf_table.specs.Tables.{MeansAll}
use Rattle.cf_volume.specs.Calls.{IsMemory, Runs}
use Rattle.cf_volume.specs.Written.{contents_in}
use Rattle.cf_volume_image.specs.declared.contents.Contents.{Contents}
use Rattle.cf_volume_points.proofs.Counted.{blocks_are_clusters, used_now}
use Rattle.cf_volume_points.proofs.KeptSound.{means_all}
use Rattle.cf_volume_points.specs.At.{At}
use Rattle.cf_volume_points.specs.Clusters.{clusters_in_rows}
use Rattle.cf_volume_points.specs.Known.{Known}
use Rattle.cf_volume_points.specs.Standing.{cluster_on, clusters_on}

pub shows_at : (d : State) (k : Known) (v : Volume) → At d k v → Shows (clusters_on d.seen) k v
shows_at d k v at =
    let used = used_now (cluster_on d.seen) v.book k.table.rows v.items k.uses at.now.rows at.now.owns in
    let sums = uses_add_up k.uses in
    let within : blocks_used v.items ≤ length k.uses = omega (arith, used, sums) in
    record {
      rows = means_all (cluster_on d.seen) v.book k.table.rows v.items at.now.rows;
      blocks = blocks_are_clusters (cluster_on d.seen) v.book k.table.rows v.items at.now.rows;
      few = subst (λ (n : ℕ). blocks_used v.items ≤ n) at.last.kept.clusters within;
      count = at.now.count;
      epoch = at.now.epoch;
    }

shows_on : (n : ℕ) (k l : Known) (v : Volume) → contents_in l ≡ contents_in k → Shows n k v → Shows n l v
shows_on n k l v same h = record {
  rows = subst (λ (c : Contents). MeansAll c.rows.rows v.items) (sym same) h.rows;
  blocks = ap (λ (c : Contents). length (clusters_in_rows c.rows.rows)) same ∙ h.blocks;
  few = h.few;
  count = ap (λ (c : Contents). c.count) same ∙ h.count;
  epoch = ap (λ (c : Contents). c.last.epoch) same ∙ h.epoch;
}

-- a call that left what the volume says of its items, and the size of the disk
pub shows_after : (d e : State) (k l : Known) (v : Volume) → Runs d e → contents_in l ≡ contents_in k → At d k v → Shows (clusters_on e.seen) l v
shows_after d e k l v runs same at =
    subst (λ (n : ℕ). Shows n l v) (ap (λ (n : ℕ). (n - 3145728) / 4096) (sym runs.size)) (shows_on (clusters_on d.seen) k l v same (shows_at d k v at))

-- a commit that was begun
pub shows_begun : (n : ℕ) (k : Known) (v : Volume) → Shows n k v → Shows n k (with_point_begun v)
shows_begun n k v h = record { rows = h.rows; blocks = h.blocks; few = h.few; count = h.count; epoch = h.epoch }

pub stays_shown : {D : Type 0} (state : D → State) (x : Held D) (d : D) (k : Known) (s : Filter) → Runs (state x.disk) (state d) → contents_in k ≡ contents_in x.known → Stands state x s → Shows (clusters_on (state d).seen) k s.volume
stays_shown state x d k s runs same h = shows_after (state x.disk) (state d) x.known k s.volume runs same h.volume

-- what a call left, as fields of a value

pub seen_same : {D : Type 0} (k : Known) {x y : Held D} → x ≡ y → contents_in k ≡ contents_in x.known → contents_in k ≡ contents_in y.known
seen_same {D} k e same = same ∙ ap (λ (x : Held D). contents_in x.known) e

pub seen_stays : {D : Type 0} (q : CallError) (k : Known) {x y : Held D} → x ≡ y → StaysBy q x.known k → StaysBy q y.known k
seen_stays {D} q k e h = subst (λ (x : Held D). StaysBy q x.known k) e h

pub stays_same : (q : CallError) (k l : Known) → contents_in l ≡ contents_in k → StaysBy q k l
stays_same OutOfMemory k l same = record {}
stays_same (No code) k l same = same

memory_stays : (q : CallError) (k l : Known) → IsMemory q → StaysBy q k l
memory_stays OutOfMemory k l h = record {}
memory_stays (No code) k l h = absurd h

-- at an exit by `?`

pub memory_left : {A : Type 0} (r : Result A CallError) (q : CallError) (k l : Known) → IsErrAnd r (λ z. z ≡ q) → IsMemory q → IfErr r (λ e. StaysBy e k l)
memory_left {A} r q k l is h =
    let p = err_from_is_err_and r is in
    subst (λ (z : Result A CallError). IfErr z (λ e. StaysBy e k l)) (sym (p.1 ∙ ap (λ (z : CallError). Err z) p.2)) (memory_stays q k l h)

pub same_left : {A : Type 0} (r : Result A CallError) (k l : Known) → contents_in l ≡ contents_in k → IfErr r (λ e. StaysBy e k l)
same_left (Ok a) k l same = record {}
same_left (Err e) k l same = stays_same e k l same
