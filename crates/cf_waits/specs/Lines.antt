-- Reads, each of which begins where the one before ended, or behind it.
use Rattle.std.specs.Prelude.{ℕ, Bool, true, false, List, [], ◌∷◌, Option, Some, None, ◌+◌, ◌^◌, ◌≡◌, ◌≤◌}
use Rattle.cf_base.specs.declared.waits.WaitKind.{WaitKind}
use Rattle.cf_base.specs.declared.waits.WaitKind.TheVariants as wait_kind
use Rattle.cf_model.specs.Missing.{Wait}

abbrev pub is_read : WaitKind → Bool
is_read wait_kind.Read = true
is_read _ = false

-- from a position on, up to another
abbrev pub AreBehind : ℕ → ℕ → List Wait → Type 0
AreBehind from to [] = from ≤ to
AreBehind from to (w ∷ ws) = (is_read w.kind ≡ true) × (from ≤ w.span.start) × AreBehind (w.span.start + w.span.len) to ws

-- Where an end is given, the waits are such reads up to it.
abbrev pub InLine : Option ℕ → List Wait → Type 0
InLine None ws = Unit {0}
InLine (Some end) ws = AreBehind 0 end ws × (end ≤ 2 ^ 52)

abbrev pub IsLine : List Wait → Type 0
IsLine ws = (end : ℕ) × AreBehind 0 end ws
