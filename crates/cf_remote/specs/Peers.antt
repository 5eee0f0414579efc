-- What another device does, done with a remote: a way through the tree of the definitions on which each ask is answered as
-- the remote did.
use Rattle.std.specs.Prelude.{◌≡◌, ◌⊎◌, ℕ, ◌+◌, ◌≤◌, ◌-◌, ◌^◌, true, false, [], Option, Some, None, Result, Ok, Err, is_some, min}
use Rattle.cf_base.specs.declared.answers.Answer.{Answer}
use Rattle.cf_base.specs.declared.answers.Shown.{Shown}
use Rattle.cf_base.specs.declared.memory.OutOfMemory.{OutOfMemory}
use Rattle.cf_model.specs.Arrows.{Arrow}
use Rattle.cf_model.specs.State.{State}
use Rattle.cf_model.specs.Store.{Held}
use Rattle.cf_model.specs.Trees.{AsItKeeps, Asked, Faults, Fork, Ret, Step, Telling, Tells, Tree}
use Rattle.cf_remote.specs.Told.{Counts, Told, counted}

-- What the remote did at one ask. It fails exactly at those that are listed, where it reports them, and then what it holds stays
-- and its count of faults rises. It breaks its rules only where it does not tell what it holds, and goes on telling what it
-- told before.
abbrev pub IsTelling : Telling → Told → Told → Type 0
IsTelling AsItKeeps old new = Counts false old new × (old.faults ≤ new.faults) × (is_some new.held ≡ is_some old.held)
IsTelling Faults old new = Counts true old new × (counted old.faults ≤ new.faults) × (new.held ≡ old.held)
IsTelling (Tells r) old new = Counts false old new × (old.faults ≤ new.faults) × (old.held ≡ None) × (new.held ≡ None)

-- the tree may end with this result and this state, its asks being those that lead the remote from old to new
abbrev pub Leads : {S A : Type 0} → Tree S A → Told → A → S → Told → Type 0
Leads (Ret a s) old b t new = (b ≡ a) × (t ≡ s) × (new ≡ old)
Leads (Step s p) old b t new = Leads p old b t new
Leads (Fork p q) old b t new = Leads p old b t new ⊎ Leads q old b t new
Leads (Asked k) old b t new = (w : Telling) × (mid : Told) × IsTelling w old mid × Leads (k w) mid b t new

-- the device may stop in the tree and leave this state, its asks being those that lead the remote from old to new
abbrev pub StopsAt : {S A : Type 0} → Tree S A → Told → S → Told → Type 0
StopsAt (Ret a s) old t new = ⊥
StopsAt (Step s p) old t new = ((t ≡ s) × (new ≡ old)) ⊎ StopsAt p old t new
StopsAt (Fork p q) old t new = StopsAt p old t new ⊎ StopsAt q old t new
StopsAt (Asked k) old t new = (w : Telling) × (mid : Told) × IsTelling w old mid × StopsAt (k w) mid t new

-- the tree was gone so far, to an ask or to its end, its asks being those that lead the remote from old to new
abbrev pub Begins : {S A : Type 0} → Tree S A → Told → Told → Type 0
Begins (Ret a s) old new = new ≡ old
Begins (Step s p) old new = Begins p old new
Begins (Fork p q) old new = Begins p old new ⊎ Begins q old new
Begins (Asked k) old new = (new ≡ old) ⊎ ((w : Telling) × (mid : Told) × IsTelling w old mid × Begins (k w) mid new)

abbrev pub IsHeld : Option Held → Held → Type 0
IsHeld None held = Unit {0}
IsHeld (Some told) held = held ≡ told

abbrev pub IsCount : Option ℕ → ℕ → Type 0
IsCount None asks = Unit {0}
IsCount (Some told) asks = told ≡ min asks (2 ^ 64 - 1)

-- The state of the definitions has this next token of a peer, and what this remote reports. A remote that tells what it holds has
-- kept its rules so far.
pub record Stands (next : ℕ) (told : Told) (s : State) : Type 0 where
  pub token : next ≡ s.peer_tokens + 1
  pub held : IsHeld told.held s.link.remote
  pub asks : IsCount told.asks s.link.remote_asks
  pub honest : is_some told.held ≡ true → s.link.honest ≡ true

-- The answer is one of the event's, and it keeps the reply that made it Stale. Without memory one token at most is used up, and
-- the event was begun: the first of its asks were made, or none.
abbrev pub Does : Arrow State Shown → ℕ → Told → Result Answer OutOfMemory → ℕ → Told → Type 0
Does f next old (Ok a) after new = (s : State) → s.running.stray ≡ None → Stands next old s
    → (t : State) × Leads (f s) old a.shown t new × Stands after new t × (a ≡ record { notes = []; shown = a.shown; stray = t.running.stray })
Does f next old (Err e) after new = (next ≤ after) × (after ≤ next + 1) × ((s : State) → Stands next old s → Begins (f s) old new)
