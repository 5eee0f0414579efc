-- Calls that may wait.
use Rattle.std.specs.Prelude.{◌≡◌, Bool, true, false, Option, Some, None, Result, Ok, Err}
use Rattle.cf_base.specs.declared.codes.Code.{Code}
use Rattle.cf_base.specs.declared.codes.CallError.{CallError}
use Rattle.cf_base.specs.declared.codes.CallError.TheVariants.{No, OutOfMemory}
use Rattle.cf_base.specs.declared.ids.ItemId.{ItemId}
use Rattle.cf_base.specs.declared.ids.WaitId.{WaitId}
use Rattle.cf_base.specs.declared.waits.Cause.TheVariants as cause
use Rattle.cf_base.specs.declared.waits.End.{End}
use Rattle.cf_model.specs.Arrows.{Arrow, noted, reading, unit, unless}
use Rattle.cf_base.specs.declared.answers.Shown.{Shown}
use Rattle.cf_base.specs.declared.answers.Shown.TheVariants as shown
use Rattle.cf_model.specs.Calls.{open_tests}
use Rattle.cf_model.specs.Settling.{end_of, with_waiting}
use Rattle.cf_model.specs.State.{Filter}
use Rattle.cf_model.specs.Waits as waits
use Rattle.cf_model.specs.Words.{first_of}
use Rattle.cf_waits.specs.Steps.{limit_of, limits_by, moved_of}
use Rattle.cf_waits.specs.declared.moves.Moves.{Moves}
use Rattle.cf_filter_steps.specs.Answering.{Answers, Any, Reads, Sense}
use Rattle.cf_filter_steps.specs.Good.{IsFileIn, IsOnFile}
use Rattle.cf_filter_steps.specs.declared.needs.Need.{Need}

-- in the words of the definitions
abbrev pub meant : Need → waits.Need
meant n = record { kind = n.kind; item = n.item; handle = n.handle; span = n.span; background = n.background }

-- nothing is missing that it needs
abbrev pub IsMet : waits.Need → Filter → Type 0
IsMet n s = waits.is_met_now n s ≡ true

-- what it reads is a file
abbrev pub ReadsFile : waits.Need → Filter → Type 0
ReadsFile n s = IsOnFile n.kind s.volume.items n.item

pub record MayAnswer (n : waits.Need) (s : Filter) : Type 0 where
  pub met : IsMet n s
  pub file : ReadsFile n s

abbrev pub end_told : waits.Need → Filter → End
end_told n s = end_of s.volume.items (waits.wait_for n s) cause.Met

-- the limit that the wait would pass
abbrev pub start_refusal : waits.Need → Filter → Option Code
start_refusal n s = limit_of (limits_by n.kind) (waits.begun n s).1

-- what is told as it begins
abbrev pub begun_moves : Option WaitId → waits.Need → Filter → Moves
begun_moves beside n s = moved_of beside (waits.begun n s).0

abbrev pub with_begun : waits.Need → Filter → Filter
with_begun n s = with_waiting (waits.begun n s).1 (waits.with_own n s)

-- a wait as far as the limits of its kind allow
abbrev pub begin_limited : waits.Need → Arrow Filter Shown
begin_limited n s = unless shown.Refused (start_refusal n s) (reading (waits.begun n) (waits.begin_now n)) s

-- The wait began; or it would pass a limit, and nothing changed; or there was no memory.
abbrev pub Starts : {X : Type 0} → Sense X → waits.Need → X → Result (WaitId × Moves) CallError → X → Type 0
Starts S n old (Ok m) new =
    Reads S Any (start_refusal n) old None × Reads S Any (waits.own_id n) old m.0 × Reads S Any (begun_moves m.1.background n) old m.1 × Answers S (ReadsFile n) (noted (with_begun n)) old (Ok unit) new
Starts S n old (Err (No c)) new = Reads S Any (start_refusal n) old (Some c) × (new ≡ old)
Starts S n old (Err OutOfMemory) new = Answers S (ReadsFile n) (begin_limited n) old (Err OutOfMemory) new

-- one more handle may be open
abbrev pub MayOpen : Filter → Type 0
MayOpen s = first_of (open_tests s) ≡ None

-- on this file
pub record MayOpenFile (item : ItemId) (s : Filter) : Type 0 where
  pub room : MayOpen s
  pub file : IsFileIn s.volume.items item

-- whether a provider is there
abbrev pub with_link : Bool → Filter → Filter
with_link true s = waits.connected_again s
with_link false s = waits.disconnected s
