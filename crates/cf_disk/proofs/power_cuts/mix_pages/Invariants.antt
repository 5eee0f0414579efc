use Rattle.std.proofs.Common.{◌≡◌, ℕ, ◌*◌}
use Rattle.cf_disk.specs.Fronts.{filled}
use Rattle.cf_disk.specs.Images.{mixed, mixed_after}
use Rattle.cf_disk.specs.Keeping.{old_bytes, written_places, IsMedium}
use Rattle.cf_disk.proofs.power_cuts.mix_pages.Given as goal

abbrev pub invariant-loop-page : goal.invariant-loop-page
invariant-loop-page l = (n room : ℕ) → IsMedium n room l.fn.bytes l.pages
    → mixed_after (l.page * 4096) l.state (filled n 0 l.bytes) (old_bytes n l.fn.bytes l.pages) (written_places n l.pages)
    ≡ mixed l.seed (filled n 0 l.fn.bytes) (old_bytes n l.fn.bytes l.pages) (written_places n l.pages)
