-- One block, staged after a read.
use Rattle.std.proofs.Common.{◌≡◌, ℕ, ◌<◌, List, length, Option, Some, None, refl, sym, ◌∙◌, ap, subst}
use Rattle.std.specs.Option.{ForSome}
use Rattle.cf_volume_blocks.specs.Bytes.{HoldsBlock}
use Rattle.cf_clusters.specs.Area.{KeepsWhere, SameWhere}
use Rattle.cf_clusters.specs.Roles.{IsUsed, staged_at, use_of}
use Rattle.cf_clusters.specs.declared.uses.Use.{Use}
use Rattle.cf_clusters.specs.declared.uses.Use.TheVariants.{Free}
use Rattle.cf_disk.specs.Disk.{Keeps, Leaves, State, size_of}
use Rattle.cf_disk.specs.Leaving.{leaves_then, leaves_weaker}
use Rattle.cf_volume_points.specs.Staging.{StagesBlock}
use Rattle.cf_volume_points.specs.Standing.{cluster_on}
use Rattle.cf_ranges.specs.Pairs.{IsRising, Puts, cluster_at}
use Rattle.cf_volume_changes.specs.Laid.{HoldsIn}

pub same_here : (P : Use → Type 0) (uses : List Use) (c : List ℕ) → SameWhere P uses c c
same_here P uses c = record { size = refl; halves = refl; clusters = λ k lt h. refl }

-- a read before a stage
pub read_first : (s t u : State) (uses : List Use) → Keeps s t → Leaves s t s.may_leave → Leaves t u (KeepsWhere IsUsed uses t) → Leaves s u (KeepsWhere IsUsed uses s)
read_first s t u uses keeps p q = leaves_then s t u (KeepsWhere IsUsed uses s) (KeepsWhere IsUsed uses t)
    (leaves_weaker s t s.may_leave (KeepsWhere IsUsed uses s) p (λ c left. (c, left, same_here IsUsed uses c))) q
    (λ d near. (near.0, keeps.crash near.0 near.1, near.2))

-- what was read holds the block
pub loaded : (held : List (Option ℕ)) (b : ℕ) (cluster : Option ℕ) (disk block : List ℕ) → ForSome cluster (λ k. block ≡ cluster_on disk k) → HoldsIn disk held b cluster → HoldsBlock held b block
loaded held b None disk block got holds = λ q v low h. absurd (holds q v low h)
loaded held b (Some k) disk block got holds = let same : block ≡ cluster_on disk k = got k refl in subst (λ (l : List ℕ). HoldsBlock held b l) (sym same) holds

pub staged_block : (number : ℕ) (bytes : List ℕ) (t u : State) (old new : List Use) (es fs : List (ℕ × ℕ)) (k : ℕ) (before : Option ℕ) → before ≡ cluster_at es number → (k < length old) × (use_of old k ≡ Free) → new ≡ staged_at k before old
    → Puts es fs number (Some k) → IsRising es → IsRising fs → size_of u ≡ size_of t → SameWhere IsUsed old t.seen u.seen → cluster_on u.seen k ≡ bytes → StagesBlock number bytes t u old new es fs
staged_block number bytes t u old new es fs k before is free uses puts was rising size same holds = record {
  cluster = k;
  in_range = free.0;
  was_free = free.1;
  uses = uses ∙ ap (λ (o : Option ℕ). staged_at k o old) is;
  puts = puts;
  before = was;
  rising = rising;
  size = size;
  same = same;
  holds = holds;
}

-- a block staged after a read
pub staged_after : (number : ℕ) (bytes : List ℕ) (s t u : State) (old new : List Use) (es fs : List (ℕ × ℕ)) → Keeps s t → StagesBlock number bytes t u old new es fs → StagesBlock number bytes s u old new es fs
staged_after number bytes s t u old new es fs keeps st = record {
  cluster = st.cluster;
  in_range = st.in_range;
  was_free = st.was_free;
  uses = st.uses;
  puts = st.puts;
  before = st.before;
  rising = st.rising;
  size = st.size ∙ ap length keeps.seen;
  same = subst (λ (l : List ℕ). SameWhere IsUsed old l u.seen) keeps.seen st.same;
  holds = st.holds;
}
