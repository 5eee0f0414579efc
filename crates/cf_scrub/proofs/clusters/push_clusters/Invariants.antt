use Rattle.std.proofs.Common.{◌≡◌, ◌++◌, ℕ, List, drop}
use Rattle.std.specs.Prelude.{map}
use Rattle.cf_scrub.specs.Blocks.{AreMarks, with_held}
use Rattle.cf_scrub.specs.States.{cluster_damages}
use Rattle.cf_table.specs.Spelling.{extent_of}
use Rattle.cf_scrub.proofs.clusters.push_clusters.Given as goal

abbrev pub invariant-loop-pair : goal.invariant-loop-pair
invariant-loop-pair l = (clusters : ℕ) (held : List ℕ) → AreMarks clusters held l.fn.marks.items → (now : List ℕ) × AreMarks clusters now l.marks.items
    × (l.out.items ++ cluster_damages clusters now (map extent_of (drop l.pair-index l.pairs)) ≡ l.fn.out.items ++ cluster_damages clusters held (map extent_of l.pairs))
    × (with_held now (map extent_of (drop l.pair-index l.pairs)) ≡ with_held held (map extent_of l.pairs))
