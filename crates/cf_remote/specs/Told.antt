-- What a remote reports of itself, and what an ask makes of that.
use Rattle.std.specs.Prelude.{◌≡◌, ℕ, ◌+◌, ◌-◌, ◌^◌, ◌≤◌, Bool, true, false, List, Option, Some, None, Result, Ok, Err, min, option_map, ◌==◌}
use Rattle.std.specs.List.{list_any}
use Rattle.cf_base.specs.declared.messages.Reply.{Reply}
use Rattle.cf_base.specs.declared.messages.Request.{Request}
use Rattle.cf_model.specs.Store.{Held, remote_step}
use Rattle.cf_remote.specs.declared.ask_errors.AskError.{AskError}
use Rattle.cf_remote.specs.declared.ask_errors.AskError.TheVariants.{Fault, OutOfMemory}
use Rattle.cf_wire.specs.Spelled.{ReplyHasRoom}

-- What a remote holds, how often it was asked, and the numbers of the asks that fail, counted from 1, each where the
-- remote reports it; and how often it failed.
pub record Told : Type 0 where
  pub held : Option Held
  pub asks : Option ℕ
  pub fails : Option (List ℕ)
  pub faults : ℕ

-- what a remote in memory holds, and how often it was asked
pub record Asked : Type 0 where
  pub held : Held
  pub asks : ℕ

-- the count after one more, which stays at the greatest u64
abbrev pub counted : ℕ → ℕ
counted n = min (n + 1) (2 ^ 64 - 1)

-- whether the next ask is one of those that fail, where the remote reports it
abbrev pub IsNextListed : Option ℕ → Option (List ℕ) → Bool → Type 0
IsNextListed (Some asks) (Some fails) listed = list_any (λ n. n == counted asks) fails ≡ listed
IsNextListed (Some asks) None listed = Unit {0}
IsNextListed None fails listed = Unit {0}

-- an ask was made
pub record Counts (listed : Bool) (old new : Told) : Type 0 where
  pub asks : new.asks ≡ option_map counted old.asks
  pub fails : new.fails ≡ old.fails
  pub which : IsNextListed old.asks old.fails listed

-- the reply and what is held then are the definitions', where the remote reports what it holds; it does not begin to tell it
abbrev pub Replies : Request → Reply → Option Held → Option Held → Type 0
Replies q r None new = new ≡ None
Replies q r (Some held) new = (r ≡ (remote_step held q).0) × (new ≡ Some (remote_step held q).1)

pub record Answers (q : Request) (r : Reply) (old new : Told) : Type 0 where
  pub replies : Replies q r old.held new.held
  pub room : ReplyHasRoom r
  pub counts : Counts false old new
  pub never_falls : old.faults ≤ new.faults

pub record Faults (old new : Told) : Type 0 where
  pub held : new.held ≡ old.held
  pub counts : Counts true old new
  pub rose : counted old.faults ≤ new.faults

-- an ask by its result
abbrev pub Asks : Request → Told → Result Reply AskError → Told → Type 0
Asks q old (Ok r) new = Answers q r old new
Asks q old (Err Fault) new = Faults old new
Asks q old (Err OutOfMemory) new = new ≡ old
