-- What a list of changes comes to that a call makes.
use Rattle.std.specs.Prelude.{◌≡◌, ◌⊎◌, List, Option, Some, None, Result, Ok, Err}
use Rattle.cf_base.specs.declared.changes.Change.{Change}
use Rattle.cf_base.specs.declared.codes.Code.{Code}
use Rattle.cf_base.specs.declared.codes.CallError.{CallError}
use Rattle.cf_base.specs.declared.codes.CallError.TheVariants.{OutOfMemory}
use Rattle.cf_model.specs.Arrows.{unit}
use Rattle.cf_model.specs.Changes.{changes}
use Rattle.cf_filter_steps.specs.Answering.{Answers, Reads, Sense}
use Rattle.cf_filter_steps.specs.Readings.{room_refusal}
use Rattle.cf_filter_steps.specs.Suiting.{ReadyAll, Suiting}

-- They were all made; or they find no room, and nothing changed; or one of them failed, or there was no memory to begin.
abbrev pub Made : {X : Type 0} → Sense X → List Change → X → Result (Option Code) CallError → X → Type 0
Made S cs old (Ok None) new = Reads S (Suiting cs) (room_refusal cs) old None × Answers S (ReadyAll cs) (changes cs) old (Ok unit) new
Made S cs old (Ok (Some c)) new = Reads S (Suiting cs) (room_refusal cs) old (Some c) × (new ≡ old)
Made S cs old (Err e) new = ((e ≡ OutOfMemory) × (new ≡ old)) ⊎ (Reads S (Suiting cs) (room_refusal cs) old None × Answers S (ReadyAll cs) (changes cs) old (Err e) new)
