-- The numbers that so many files need.
use Rattle.std.specs.Prelude.{ℕ, Bool, ◌||◌}
use Rattle.cf_model.specs.Numbers.{passes_most}
use Rattle.cf_model.specs.State.{Filter}

abbrev pub lacks_places : ℕ → Filter → Bool
lacks_places n s = passes_most s.volume.place n

abbrev pub lacks_asks : ℕ → Filter → Bool
lacks_asks n s = passes_most s.waiting.key_count n || passes_most s.waiting.wait_count n
