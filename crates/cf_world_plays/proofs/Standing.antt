-- What is known of a world is what its states say.
use Rattle.std.proofs.Common.{◌≡◌, ◌⊎◌, ◌≤◌, inl, inr, sym, ◌∙◌, ap, subst, arith, ℕ, Bool, true, false, List, length, min, Result, IfOk}
use Rattle.std.specs.Prelude.{◌-◌, ◌/◌}
use Rattle.std.proofs.lemmas.Result.{IfOk-weaker}
use Rattle.cf_base.specs.declared.memory.OutOfMemory.{OutOfMemory as NoMemory}
use Rattle.cf_disk.specs.Disk.{State as Disk, size_of}
use Rattle.cf_filter_events.specs.Actors.{Acts}
use Rattle.cf_filter_events.specs.Meaning.{Is, IsOn, LeavesWhatReads, OnBy}
use Rattle.cf_filter_events.specs.Pasts.{Past}
use Rattle.cf_filter_events.specs.Stepped.{disk_of}
use Rattle.cf_filter_events.specs.declared.places.Acting.{Acting}
use Rattle.cf_filter_events.specs.declared.places.Acting.TheVariants as acting
use Rattle.cf_filter_events.specs.declared.places.RunningOn.{RunningOn as Run}
use Rattle.cf_filter_machine.proofs.Shown.{shows_at}
use Rattle.cf_filter_machine.specs.Showing.{Shows}
use Rattle.cf_model.specs.Blocks.{blocks_used}
use Rattle.cf_model.specs.Items.{Item}
use Rattle.cf_model.specs.State.{Broken, Off, On, Power, State, Volume}
use Rattle.cf_world_plays.specs.States.{state_text, state_value, used_blocks, used_in}
use Rattle.cf_state_rows.specs.Values.{line_of, volume_value}
use Rattle.cf_table.specs.Tables.{MeansAll}
use Rattle.cf_volume_points.specs.Clusters.{clusters_in_rows}
use Rattle.cf_volume_points.specs.Standing.{clusters_on}

-- an open volume shows what the state has, broken or not
record IsShown {D A : Type 0} (state : D → Disk) (x : Run D A) (s : State) : Type 0 where
  pub power : (s.power ≡ On) ⊎ (s.power ≡ Broken)
  pub volume : Shows (clusters_on (state x.filter.disk).seen) x.filter.known s.filter.volume

by_break : {D A : Type 0} (acts : Acts A) (state : D → Disk) (x : Run D A) (s : State) (b : Bool) → OnBy acts state b x s → IsShown state x s
by_break acts state x s false h = record { power = inl h.0; volume = shows_at (state x.filter.disk) x.filter.known s.filter.volume h.2.volume }
by_break acts state x s true h = record { power = inr h.0; volume = h.4 }

shown_on : {D A : Type 0} (acts : Acts A) (state : D → Disk) (past : Past) (x : Run D A) (s : State) → IsOn acts state past x s → IsShown state x s
shown_on acts state past x s h = by_break acts state x s x.filter.desk.broken h.is

open_value : (p : Power) (v : Volume) → (p ≡ On) ⊎ (p ≡ Broken) → state_value p v ≡ volume_value (length v.log) v.epoch v.items
open_value p v (inl on) = ap (λ (q : Power). state_value q v) on
open_value p v (inr broken) = ap (λ (q : Power). state_value q v) broken

open_used : (p : Power) (v : Volume) → (p ≡ On) ⊎ (p ≡ Broken) → used_in p v ≡ blocks_used v.items
open_used p v (inl on) = ap (λ (q : Power). used_in q v) on
open_used p v (inr broken) = ap (λ (q : Power). used_in q v) broken

text_at : {D A : Type 0} (state : D → Disk) (x : Run D A) (s : State) (count epoch : ℕ) (r : Result (List ℕ) NoMemory)
    → count ≡ x.filter.known.count → epoch ≡ x.filter.known.epoch
    → ((items : List Item) → MeansAll x.filter.known.table.rows items → IfOk r (λ b. b ≡ line_of (volume_value count epoch items)))
    → IsShown state x s → IfOk r (λ b. b ≡ state_text s)
text_at state x s count epoch r counted now told shown =
    let length_is : count ≡ length s.filter.volume.log = counted ∙ shown.volume.count in
    let epoch_is : epoch ≡ s.filter.volume.epoch = now ∙ shown.volume.epoch in
    let value : volume_value count epoch s.filter.volume.items ≡ state_value s.power s.filter.volume =
    (λ j. volume_value (length_is j) (epoch_is j) s.filter.volume.items) ∙ sym (open_value s.power s.filter.volume shown.power) in
    IfOk-weaker r _ _ (λ b e. e ∙ ap line_of value) (told s.filter.volume.items shown.volume.rows)

pub text_on : {D A : Type 0} (acts : Acts A) (state : D → Disk) (past : Past) (x : Run D A) (s : State) (count epoch : ℕ) (r : Result (List ℕ) NoMemory)
    → count ≡ x.filter.known.count → epoch ≡ x.filter.known.epoch
    → ((items : List Item) → MeansAll x.filter.known.table.rows items → IfOk r (λ b. b ≡ line_of (volume_value count epoch items)))
    → IsOn acts state past x s → IfOk r (λ b. b ≡ state_text s)
text_on acts state past x s count epoch r counted now told h = text_at state x s count epoch r counted now told (shown_on acts state past x s h)

-- a disk of a fit size has at most 65,536 clusters
most_clusters : (used size : ℕ) → used ≤ (size - 3145728) / 4096 → size ≤ 271581184 → used ≤ 65536
most_clusters used size few fit = omega (arith, few, fit)

-- no disk has so many clusters that a smaller number is told
told_whole : (used : ℕ) → used ≤ 65536 → min used 4294967295 ≡ used
told_whole used few = omega (arith, few)

module _ {D A : Type 0} (acts : Acts A) (state : D → Disk) (past : Past) where
  few_on : (x : Run D A) (s : State) → IsOn acts state past x s → used_blocks s ≤ clusters_on (state x.filter.disk).seen
  few_on x s h =
      let shown = shown_on acts state past x s h in
      subst (λ (n : ℕ). n ≤ clusters_on (state x.filter.disk).seen) (sym (open_used s.power s.filter.volume shown.power)) shown.volume.few

  few_in : (power : Power) (v : Volume) (n : ℕ) → power ≡ Off → used_in power v ≤ n
  few_in power v n off = let none : 0 ≤ n = omega arith in subst (λ (p : Power). used_in p v ≤ n) (sym off) none

  -- no more blocks are used than the disk has clusters
  pub few_blocks : (x : Acting D A) (s : State) → Is acts state past x s → used_blocks s ≤ clusters_on (state (disk_of x)).seen
  few_blocks (acting.On x) s h = few_on x s h
  few_blocks (acting.Off x) s h = few_in s.power s.filter.volume (clusters_on (state x.disk).seen) h.power

  module _ (reads : LeavesWhatReads state) where
    most_on : (x : Run D A) (s : State) → IsOn acts state past x s → used_blocks s ≤ 65536
    most_on x s h = most_clusters (used_blocks s) (size_of (state x.filter.disk)) (few_on x s h) (h.disk.fit reads).1

    pub most_blocks : (x : Acting D A) (s : State) → Is acts state past x s → used_blocks s ≤ 65536
    most_blocks (acting.On x) s h = most_on x s h
    most_blocks (acting.Off x) s h = few_in s.power s.filter.volume 65536 h.power

    pub used_on : (x : Run D A) (s : State) (n : ℕ) → n ≡ min (length (clusters_in_rows x.filter.known.table.rows)) 4294967295 → IsOn acts state past x s → n ≡ used_blocks s
    used_on x s n counted h =
        let shown = shown_on acts state past x s h in
        let used : length (clusters_in_rows x.filter.known.table.rows) ≡ used_blocks s = shown.volume.blocks ∙ sym (open_used s.power s.filter.volume shown.power) in
        counted ∙ ap (λ (k : ℕ). min k 4294967295) used ∙ told_whole (used_blocks s) (most_on x s h)
