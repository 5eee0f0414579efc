-- What a judgement of the bytes of a device writes.
use Rattle.std.specs.Prelude.{◌≡◌, ℕ, Bool, true, false, List, [], Option}
use Rattle.cf_base.specs.declared.statuses.Status.{Status}
use Rattle.cf_base.specs.declared.statuses.Status.TheVariants as status
use Rattle.cf_io.specs.Moves.{Adds, AddsFront}
use Rattle.cf_scrub.specs.Judgements.{IsJudgement}
use Rattle.cf_scrub.specs.Texts.{text_of}
use Rattle.cf_scrub.specs.declared.judgements.Judgement.{Judgement}
use Rattle.cf_scrub.specs.declared.judgements.Judgement.TheVariants.{Clean, Damaged}

-- how many bytes of the source are judged at most: one more than a device has
abbrev pub most_judged : ℕ
most_judged = 271581185

abbrev pub is_clean : Judgement → Bool
is_clean (Clean count epoch) = true
is_clean (Damaged v) = false

-- the status of a judgement whose text was written, or not
abbrev pub judged_status : Judgement → Status → Status
judged_status (Damaged v) status.Done = status.Damaged
judged_status j s = s

-- The text of a judgement was written, by the status.
abbrev pub PutsJudgement : Judgement → Option (List ℕ) → Option (List ℕ) → Status → Type 0
PutsJudgement j old new status.Done = (is_clean j ≡ true) × Adds old new (text_of j)
PutsJudgement j old new status.Damaged = (is_clean j ≡ false) × Adds old new (text_of j)
PutsJudgement j old new status.SinkFault = AddsFront old new (text_of j)
PutsJudgement j old new status.OutOfMemory = Adds old new []
PutsJudgement j old new _ = ⊥

-- The text of the judgement of these bytes was written, by the status.
abbrev pub JudgesText : List ℕ → Option (List ℕ) → Option (List ℕ) → Status → Type 0
JudgesText bytes old new status.Done = (j : Judgement) × IsJudgement bytes j × (is_clean j ≡ true) × Adds old new (text_of j)
JudgesText bytes old new status.Damaged = (j : Judgement) × IsJudgement bytes j × (is_clean j ≡ false) × Adds old new (text_of j)
JudgesText bytes old new status.SinkFault = (j : Judgement) × IsJudgement bytes j × AddsFront old new (text_of j)
JudgesText bytes old new status.OutOfMemory = Adds old new []
JudgesText bytes old new _ = ⊥

-- The same, or the source failed before, and nothing was written.
abbrev pub ScrubWrites : List ℕ → Option (List ℕ) → Option (List ℕ) → Status → Type 0
ScrubWrites bytes old new status.SourceFault = Adds old new []
ScrubWrites bytes old new status.Done = JudgesText bytes old new status.Done
ScrubWrites bytes old new status.Damaged = JudgesText bytes old new status.Damaged
ScrubWrites bytes old new status.SinkFault = JudgesText bytes old new status.SinkFault
ScrubWrites bytes old new status.OutOfMemory = Adds old new []
ScrubWrites bytes old new _ = ⊥

-- how it ends where neither source nor sink failed
abbrev pub IsScrubEnd : Status → Type 0
IsScrubEnd status.Done = Unit {0}
IsScrubEnd status.Damaged = Unit {0}
IsScrubEnd status.OutOfMemory = Unit {0}
IsScrubEnd _ = ⊥

-- All that holds of the bytes that were judged, by how it ended. It was quiet where neither source nor sink failed.
pub record OfScrub (bytes : List ℕ) (old new : Option (List ℕ)) (Quiet : Type 0) (end : Status) : Type 0 where
  pub writes : ScrubWrites bytes old new end
  pub complete : Quiet → IsScrubEnd end
