-- A write into a free cluster.
use Rattle.std.proofs.Common.{◌≡◌, inl, inr, ℕ, ◌+◌, ◌≤◌, List, length, get_or, ◌∙◌, ap, subst, arith}
use Rattle.std.proofs.lemmas.Bool.{cases_order}
use Rattle.cf_disk.specs.Disk.{State, part, SameBut, Holds, Near, Follows, Goes, Leaves}
use Rattle.cf_disk.specs.Leaving.{leaves_weaker, leaves_write}
use Rattle.cf_disk.specs.Parts.{part_same, front_same, holds_part, holds_same}
use Rattle.cf_clusters.specs.declared.uses.Use.{Use}
use Rattle.cf_clusters.specs.declared.uses.Use.TheVariants.{Free, Held}
use Rattle.cf_clusters.specs.Area.{place, SameWhere, KeepsWhere}
use Rattle.cf_clusters.specs.Roles.{IsUsed}

free_write : (uses : List Use) (k : ℕ) (d c : List ℕ) → get_or uses k Held ≡ Free → SameBut (place k) 4096 d c → SameWhere IsUsed uses d c
free_write uses k d c is_free same = record {
  size = same.size;
  halves = front_same (place k) 4096 d c same 3145728 (omega arith);
  clusters = λ j lt held. elim (cases_order j k) [
    | inl here ↦ absurd (subst IsUsed (ap (λ (i : ℕ). get_or uses i Held) here ∙ is_free) held)
    | inr apart ↦ elim apart [
      | inl low ↦ part_same (place k) 4096 d c same (place j) 4096 (inl (omega arith))
      | inr high ↦ part_same (place k) 4096 d c same (place j) 4096 (inr (omega arith))
    ]
  ];
}

pub stage_crash : (uses : List Use) (k n : ℕ) (old new : State) → get_or uses k Held ≡ Free → n ≡ 4096 → Follows (place k) n old new → Goes old new → Leaves old new (KeepsWhere IsUsed uses old)
stage_crash uses k n old new is_free block follows goes = leaves_weaker old new (Near old (place k) n) (KeepsWhere IsUsed uses old) (leaves_write old new (place k) n follows goes)
    (λ c near. (near.0, near.1, free_write uses k near.0 c is_free (subst (λ (m : ℕ). SameBut (place k) m near.0 c) block near.2)))

pub staged : (k : ℕ) (bytes old new : List ℕ) → length bytes ≡ 4096 → place k + length bytes ≤ length old → Holds (place k) bytes old new → part (place k) 4096 new ≡ bytes
staged k bytes old new block room holds = subst (λ (n : ℕ). part (place k) n new ≡ bytes) block (holds_part (place k) bytes old new room holds)

pub staged_same : (uses : List Use) (k : ℕ) (bytes old new : List ℕ) → get_or uses k Held ≡ Free → length bytes ≡ 4096 → place k + length bytes ≤ length old → Holds (place k) bytes old new → SameWhere IsUsed uses old new
staged_same uses k bytes old new is_free block room holds = free_write uses k old new is_free (subst (λ (m : ℕ). SameBut (place k) m old new) block (holds_same (place k) bytes old new room holds))
