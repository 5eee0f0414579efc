-- The judgement of the bytes of a device.
use Rattle.std.proofs.Common.{◌≡◌, ℕ, List, [], inl, inr, refl}
use Rattle.std.specs.Prelude.{◌⊎◌, Option, None, Some, take}
use Rattle.cf_base.specs.declared.statuses.Status.{Status}
use Rattle.cf_base.specs.declared.statuses.Status.TheVariants as status
use Rattle.cf_io.specs.Moves.{Adds, AddsFront, IsFront, IsQuiet, Rose}
use Rattle.cf_scrub.specs.Judgements.{IsJudgement}
use Rattle.cf_scrub.specs.Texts.{text_of}
use Rattle.cf_scrub.specs.declared.judgements.Judgement.{Judgement}
use Rattle.cf_scrub.specs.declared.judgements.Judgement.TheVariants.{Clean, Damaged}
use Rattle.cf_world_devices.proofs.Adding.{adds_nothing}
use Rattle.cf_world_devices.proofs.Sources.{not_quiet}
use Rattle.cf_world_devices.specs.Scrubs.{JudgesText, OfScrub, PutsJudgement, judged_status, most_judged}

-- what was written of a judgement, by its status
pub put_judgement : (j : Judgement) (old new : Option (List ℕ)) (s : Status) → (s ≡ status.Done → Adds old new (text_of j)) → (s ≡ status.SinkFault → AddsFront old new (text_of j)) → (s ≡ status.Done) ⊎ (s ≡ status.SinkFault) → PutsJudgement j old new (judged_status j s)
put_judgement (Clean count epoch) old new status.Done done front only = (refl, done refl)
put_judgement (Damaged v) old new status.Done done front only = (refl, done refl)
put_judgement (Clean count epoch) old new status.SinkFault done front only = front refl
put_judgement (Damaged v) old new status.SinkFault done front only = front refl
put_judgement j old new status.Usage done front (inl is) = let z : status.Usage ≡ status.Done = is in absurd cc
put_judgement j old new status.Usage done front (inr is) = let z : status.Usage ≡ status.SinkFault = is in absurd cc
put_judgement j old new status.BadScript done front (inl is) = let z : status.BadScript ≡ status.Done = is in absurd cc
put_judgement j old new status.BadScript done front (inr is) = let z : status.BadScript ≡ status.SinkFault = is in absurd cc
put_judgement j old new status.SourceFault done front (inl is) = let z : status.SourceFault ≡ status.Done = is in absurd cc
put_judgement j old new status.SourceFault done front (inr is) = let z : status.SourceFault ≡ status.SinkFault = is in absurd cc
put_judgement j old new status.BadDevice done front (inl is) = let z : status.BadDevice ≡ status.Done = is in absurd cc
put_judgement j old new status.BadDevice done front (inr is) = let z : status.BadDevice ≡ status.SinkFault = is in absurd cc
put_judgement j old new status.TooLong done front (inl is) = let z : status.TooLong ≡ status.Done = is in absurd cc
put_judgement j old new status.TooLong done front (inr is) = let z : status.TooLong ≡ status.SinkFault = is in absurd cc
put_judgement j old new status.OutOfMemory done front (inl is) = let z : status.OutOfMemory ≡ status.Done = is in absurd cc
put_judgement j old new status.OutOfMemory done front (inr is) = let z : status.OutOfMemory ≡ status.SinkFault = is in absurd cc
put_judgement j old new status.DeviceFault done front (inl is) = let z : status.DeviceFault ≡ status.Done = is in absurd cc
put_judgement j old new status.DeviceFault done front (inr is) = let z : status.DeviceFault ≡ status.SinkFault = is in absurd cc
put_judgement j old new status.BadImage done front (inl is) = let z : status.BadImage ≡ status.Done = is in absurd cc
put_judgement j old new status.BadImage done front (inr is) = let z : status.BadImage ≡ status.SinkFault = is in absurd cc
put_judgement j old new status.Unlawful done front (inl is) = let z : status.Unlawful ≡ status.Done = is in absurd cc
put_judgement j old new status.Unlawful done front (inr is) = let z : status.Unlawful ≡ status.SinkFault = is in absurd cc
put_judgement j old new status.Undecided done front (inl is) = let z : status.Undecided ≡ status.Done = is in absurd cc
put_judgement j old new status.Undecided done front (inr is) = let z : status.Undecided ≡ status.SinkFault = is in absurd cc
put_judgement j old new status.Damaged done front (inl is) = let z : status.Damaged ≡ status.Done = is in absurd cc
put_judgement j old new status.Damaged done front (inr is) = let z : status.Damaged ≡ status.SinkFault = is in absurd cc

-- of these bytes
pub judges : (bytes : List ℕ) (j : Judgement) (old new : Option (List ℕ)) (s : Status) → IsJudgement bytes j → PutsJudgement j old new s → JudgesText bytes old new s
judges bytes j old new status.Done is p = (j, is, p.0, p.1)
judges bytes j old new status.Damaged is p = (j, is, p.0, p.1)
judges bytes j old new status.SinkFault is p = (j, is, p)
judges bytes j old new status.OutOfMemory is p = p
judges bytes j old new status.Usage is p = absurd p
judges bytes j old new status.BadScript is p = absurd p
judges bytes j old new status.SourceFault is p = absurd p
judges bytes j old new status.BadDevice is p = absurd p
judges bytes j old new status.TooLong is p = absurd p
judges bytes j old new status.DeviceFault is p = absurd p
judges bytes j old new status.BadImage is p = absurd p
judges bytes j old new status.Unlawful is p = absurd p
judges bytes j old new status.Undecided is p = absurd p

module _ (bytes : List ℕ) (old new : Option (List ℕ)) (a b c d : ℕ) where
  abbrev Quiet : Type 0
  Quiet = IsQuiet a b × IsQuiet c d

  pub judged_bytes : (s : Status) → JudgesText bytes old new s → (s ≡ status.SinkFault → Rose c d) → OfScrub bytes old new Quiet s
  judged_bytes status.Done h fault = record { writes = h; complete = λ quiet. tt }
  judged_bytes status.Damaged h fault = record { writes = h; complete = λ quiet. tt }
  judged_bytes status.OutOfMemory h fault = record { writes = h; complete = λ quiet. tt }
  judged_bytes status.SinkFault h fault = record { writes = h; complete = λ quiet. absurd (not_quiet c d (fault refl) quiet.1) }
  judged_bytes status.Usage h fault = absurd h
  judged_bytes status.BadScript h fault = absurd h
  judged_bytes status.SourceFault h fault = absurd h
  judged_bytes status.BadDevice h fault = absurd h
  judged_bytes status.TooLong h fault = absurd h
  judged_bytes status.DeviceFault h fault = absurd h
  judged_bytes status.BadImage h fault = absurd h
  judged_bytes status.Unlawful h fault = absurd h
  judged_bytes status.Undecided h fault = absurd h

-- a front of what the source has left, or some bytes where it reports nothing
abbrev pub some_front : Option (List ℕ) → List ℕ
some_front None = []
some_front (Some left) = take most_judged left

pub is_front : (left : Option (List ℕ)) → IsFront most_judged left (some_front left)
is_front None = tt
is_front (Some left) = refl

-- the source failed, or memory ran out
pub not_read : (left held : Option (List ℕ)) (a b c : ℕ) → Rose a b → (bytes : List ℕ) × IsFront most_judged left bytes × OfScrub bytes held held (IsQuiet a b × IsQuiet c c) status.SourceFault
not_read left held a b c rose = (some_front left, is_front left, record { writes = adds_nothing held; complete = λ quiet. absurd (not_quiet a b rose quiet.0) })

pub no_memory : (left held : Option (List ℕ)) (a b c : ℕ) → (bytes : List ℕ) × IsFront most_judged left bytes × OfScrub bytes held held (IsQuiet a b × IsQuiet c c) status.OutOfMemory
no_memory left held a b c = (some_front left, is_front left, record { writes = adds_nothing held; complete = λ quiet. tt })
