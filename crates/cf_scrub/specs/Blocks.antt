-- Tests of the clusters of files.
use Rattle.std.specs.Prelude.{ℕ, Bool, List, [], length, get_or, false, not, nat_lt, ◌+◌, ◌-◌, ◌/◌, ◌&&◌, ◌==◌, ◌≡◌, ◌<◌, ◌∷◌}
use Rattle.std.specs.List.{list_all, list_any}
use Rattle.cf_base.specs.declared.spans.Span.{Span}
use Rattle.cf_model.specs.Rows.{Extent}
use Rattle.cf_model.specs.Words.{counting}
use Rattle.cf_ranges.specs.Positions.{touches}
use Rattle.cf_volume_image.specs.Sound.{has_block}

-- the blocks of 4,096 places that have one of a run
abbrev pub blocks_of : Span → List ℕ
blocks_of s = counting (s.start / 4096) ((s.start + s.len - 1) / 4096 + 1 - s.start / 4096)

-- there is a cluster just for each block that has a place of the set
abbrev pub are_blocks_of : List Extent → List Span → Bool
are_blocks_of es runs = list_all (λ s. list_all (has_block es) (blocks_of s)) runs && list_all (λ e. touches runs e.block) es

abbrev pub is_held : List ℕ → ℕ → Bool
is_held held cluster = list_any (λ n. n == cluster) held

-- there is such a cluster among so many, and none of those that are held is it
abbrev pub is_free : ℕ → List ℕ → ℕ → Bool
is_free clusters held cluster = nat_lt cluster clusters && not (is_held held cluster)

-- what is held with these clusters besides, which come one after the other
abbrev pub with_held : List ℕ → List Extent → List ℕ
with_held held [] = held
with_held held (e ∷ es) = with_held (e.cluster ∷ held) es

-- a mark for each of so many clusters that is held
pub record AreMarks (clusters : ℕ) (held : List ℕ) (marks : List Bool) : Type 0 where
  pub size : length marks ≡ clusters
  pub each : (n : ℕ) → n < clusters → get_or marks n false ≡ is_held held n
