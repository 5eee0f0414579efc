-- What a request makes of the remote, as the definitions say it.
use Rattle.std.specs.Prelude.{◌≡◌, ℕ, List, Option, Result, Ok, Err}
use Rattle.cf_base.specs.declared.ids.Token.{Token}
use Rattle.cf_base.specs.declared.memory.OutOfMemory.{OutOfMemory}
use Rattle.cf_base.specs.declared.messages.Reply.{Reply}
use Rattle.cf_model.specs.Store.{Held, Mutation, Recorded, Stored, decide}

abbrev pub holding : List Stored → ℕ → List (Token × Recorded) → Option ℕ → Held
holding items clock tokens keep = record { items = items; clock = clock; tokens = tokens; keep = keep }

-- the reply and the state after it; without memory nothing changes
abbrev pub Gives : Reply × Held → Held → Result Reply OutOfMemory → Held → Type 0
Gives step old (Ok r) new = (r ≡ step.0) × (new ≡ step.1)
Gives step old (Err e) new = new ≡ old

abbrev pub Decides : Token → Mutation → Held → Result Reply OutOfMemory → Held → Type 0
Decides token m old result new = Gives (decide old token m m.refusal) old result new
