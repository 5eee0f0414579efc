-- Blocks of asks that come before others, and waits that need nothing before a block.
use Rattle.std.specs.Prelude.{◌≡◌, ℕ, Bool, true, false, min, ◌+◌, ◌*◌, ◌^◌, ◌≤◌}
use Rattle.std.specs.List.{AllByRecursion}
use Rattle.cf_base.specs.declared.waits.WaitKind.{WaitKind}
use Rattle.cf_base.specs.declared.waits.WaitKind.TheVariants as wait_kind
use Rattle.cf_model.specs.Missing.{View, Wait, needed}
use Rattle.cf_model.specs.Requests.{Live}

-- The ask has no block below 2^32 from the end on.
abbrev pub EndsBy : ℕ → Live → Type 0
EndsBy end a = AllByRecursion (λ b. min (b + 1) (2 ^ 32) ≤ end) a.owned

-- the wait is for bytes
abbrev pub is_data_wait : WaitKind → Bool
is_data_wait wait_kind.Read = true
is_data_wait wait_kind.Hydrate = true
is_data_wait wait_kind.Background = true
is_data_wait _ = false

-- The wait is for bytes, and needs none before the block.
abbrev pub NeedsFrom : View → ℕ → Wait → Type 0
NeedsFrom v first w = (is_data_wait w.kind ≡ true) × (4096 * first ≤ (needed v w).start)
