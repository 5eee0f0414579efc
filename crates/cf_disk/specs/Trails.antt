-- The calls of a disk that keeps them, and what they make of what it holds.
use Rattle.std.specs.Prelude.{◌≡◌, ◌+◌, ◌<◌, ◌≤◌, ℕ, cond, List, [], ◌∷◌, length, Option, Some, None}
use Rattle.cf_disk.specs.Cuts.{total}
use Rattle.cf_disk.specs.Images.{Held, written, durable}
use Rattle.cf_disk.specs.declared.trails.Kind.{Kind}
use Rattle.cf_disk.specs.declared.trails.Kind.TheVariants as kind
use Rattle.cf_disk.specs.declared.trails.Head.{Head}

-- the calls in order, each with its bytes, and the room for calls and for bytes
pub record Trail : Type 0 where
  pub calls : List (Head × List ℕ)
  pub most : ℕ
  pub most_bytes : ℕ

abbrev pub size_of_call : Head × List ℕ → ℕ
size_of_call c = length c.1

-- one more call with n bytes has room
pub record HasRoom (n : ℕ) (t : Trail) : Type 0 where
  pub calls : length t.calls < t.most
  pub bytes : total size_of_call t.calls + n ≤ t.most_bytes

abbrev pub by_kind : Kind → Head → List ℕ → Held → Held
by_kind kind.Read head bytes h = h
by_kind kind.Write head bytes h = written head.at bytes h
by_kind kind.Sync head bytes h = cond head.done (durable h.bytes) h

-- what a call makes of what the disk holds: a write that failed leaves its bytes pending all the same
abbrev pub step : Head × List ℕ → Held → Held
step c h = by_kind c.0.kind c.0 c.1 h

unfoldable pub run_calls : Held → List (Head × List ℕ) → Held
run_calls h [] = h
run_calls h (c ∷ cs) = run_calls (step c h) cs

-- how many moments lie before a power cut, where it is told: those before the last one, one a call, and the power cut's own
abbrev pub MovesOn : Option ℕ → ℕ → Option ℕ → Type 0
MovesOn None calls new = new ≡ None
MovesOn (Some before) calls None = Unit {0}
MovesOn (Some before) calls (Some new) = new ≡ before + calls + 1
