-- What a disk is, and what its calls do: what a read gives, and what a crash may leave.
use Rattle.std.specs.Prelude.{Bool, ◌<◌, ◌≡◌, ◌⊎◌, ℕ, ◌+◌, ◌≤◌, ◌-◌, ◌^◌, min, List, [], ◌∷◌, ◌++◌, length, take, drop, get_or, Option, Some, None, Result, IsErr, OnOk, is_ok, true, false, zero, suc, option_map}
use Rattle.cf_base.specs.declared.policies.Choice.{Choice}

-- What the owner of a disk tells a volume on it: how many blocks of 4,096 bytes it may fill, however many the disk has, and
-- after how many changes a commit is wanted, if one is.
pub record Settings : Type 0 where
  pub quota : ℕ
  pub aim : Option ℕ

-- what a disk is to its callers
pub record State : Type 1 where
  -- what a read gives
  pub seen : List ℕ
  -- which images a crash now may leave
  pub may_leave : List ℕ → Type 0
  -- the time, which does not fall
  pub moment : ℕ
  -- which images a crash at some moment from that time on may have left, where the disk reports it (else none)
  pub left_since : ℕ → List ℕ → Type 0
  -- from which times on it tells them all
  pub tells : ℕ → Type 0
  -- each power cut so far, its choice and the image that it left, in order, where the disk reports it
  pub powers : Option (List (Choice × List ℕ))
  -- how many bytes were written, and how often a call failed
  pub written : ℕ
  pub faults : ℕ
  -- the armed number (how many further calls pass, or none armed), where the disk reports it: then exactly the calls
  -- after those fail
  pub armed : Option (Option ℕ)
  pub settings : Settings

-- the disk with another number of changes after which a commit is wanted
abbrev pub aimed_at : ℕ → State → State
aimed_at n s = record s { settings = record s.settings { aim = Some n } }

-- in bytes
abbrev pub size_of : State → ℕ
size_of s = length s.seen

-- n bytes from a place on
abbrev pub part : ℕ → ℕ → List ℕ → List ℕ
part at n bytes = take n (drop at bytes)

-- new is old with these bytes at this place
abbrev pub Holds : ℕ → List ℕ → List ℕ → List ℕ → Type 0
Holds at bytes old new = new ≡ take at old ++ bytes ++ drop (at + length bytes) old

-- the same bytes but for n of them at a place
pub record SameBut (at n : ℕ) (old new : List ℕ) : Type 0 where
  pub size : length new ≡ length old
  pub before : (i : ℕ) → i < at → get_or new i 0 ≡ get_or old i 0
  pub after : (i : ℕ) → at + n ≤ i → get_or new i 0 ≡ get_or old i 0

-- an image that a crash may leave, but for n bytes at a place
abbrev pub Near : State → ℕ → ℕ → List ℕ → Type 0
Near s at n c = (d : List ℕ) × s.may_leave d × SameBut at n d c

-- a crash now leaves what it might have left before, but for n bytes at a place
abbrev pub Follows : ℕ → ℕ → State → State → Type 0
Follows at n old new = (c : List ℕ) → new.may_leave c → Near old at n c

-- a read gives the same, and a crash leaves nothing that it might not have left before
pub record Keeps (old new : State) : Type 0 where
  pub seen : new.seen ≡ old.seen
  pub crash : (c : List ℕ) → new.may_leave c → old.may_leave c

-- a crash leaves this and nothing else
abbrev pub Only : List ℕ → State → Type 0
Only image s = (c : List ℕ) → s.may_leave c → c ≡ image

-- Time goes on: what a crash since t may have left, it may have left before or may leave now; a time that is told was
-- told before, and no image of the past is lost. No power is added, and the settings stay.
pub record Goes (old new : State) : Type 0 where
  pub later : old.moment ≤ new.moment
  pub since : (t : ℕ) (c : List ℕ) → t ≤ old.moment → new.left_since t c → old.left_since t c ⊎ new.may_leave c
  pub told : (t : ℕ) → t ≤ old.moment → new.tells t → old.tells t × ((c : List ℕ) → old.left_since t c → new.left_since t c)
  pub powers : new.powers ≡ old.powers
  pub settings : new.settings ≡ old.settings

-- a count, which stays at the greatest u64
abbrev pub capped : ℕ → ℕ
capped n = min n (2 ^ 64 - 1)

-- n bytes were written, or at most that many where the call failed
pub record Counts {T E : Type 0} (n : ℕ) (result : Result T E) (old new : State) : Type 0 where
  pub exact : OnOk result (new.written ≡ capped (old.written + n))
  pub least : old.written ≤ new.written
  pub most : new.written ≤ old.written + n

-- Whether calls may fail, by the armed number where the disk reports it: 0 where it reports that none is armed, 1 where it reports a
-- number, and 2 where it reports nothing.
abbrev pub may_fail : Option (Option ℕ) → ℕ
may_fail (Some None) = 0
may_fail (Some (Some n)) = 1
may_fail None = 2

-- The count of faults rose if the call failed. No call of a disk fails that reports that none is armed, and no call arms it.
pub record Rises {T E : Type 0} (result : Result T E) (old new : State) : Type 0 where
  pub least : old.faults ≤ new.faults
  pub calm : may_fail new.armed ≤ may_fail old.armed
  pub failed : IsErr result → capped (old.faults + 1) ≤ new.faults
  pub armed : IsErr result → 1 ≤ may_fail old.armed

-- A call failed on the way from the one to the other: the count of faults rose, or stays at the most that it counts; and the disk did
-- not report that none is armed.
abbrev pub HasFailed : State → State → Type 0
HasFailed old new = (capped (old.faults + 1) ≤ new.faults) × (1 ≤ may_fail old.armed)

-- the list of power cuts has one more, or is no longer reported
abbrev pub AddsPower : Choice → List ℕ → Option (List (Choice × List ℕ)) → Option (List (Choice × List ℕ)) → Type 0
AddsPower choice image old None = Unit {0}
AddsPower choice image None (Some new) = Unit {0} → ⊥
AddsPower choice image (Some old) (Some new) = new ≡ old ++ (choice, image) ∷ []

-- what a power cut does to the counts, to time and to the settings
pub record Powers (choice : Choice) (old new : State) : Type 0 where
  pub size : size_of new ≡ size_of old
  pub later : old.moment ≤ new.moment
  pub since : (t : ℕ) (c : List ℕ) → t ≤ old.moment → new.left_since t c → old.left_since t c ⊎ new.may_leave c
  pub adds : AddsPower choice new.seen old.powers new.powers
  pub written : new.written ≡ old.written
  pub faults : new.faults ≡ old.faults
  pub armed : new.armed ≡ option_map (λ _. None) old.armed
  pub settings : new.settings ≡ old.settings

-- Each image that a crash may leave after a call has P, and so has, where the disk reports them, each that a crash
-- at some moment of the call may have left.
pub record Leaves (old new : State) (P : List ℕ → Type 0) : Type 0 where
  pub later : old.moment ≤ new.moment
  pub now : (c : List ℕ) → new.may_leave c → P c
  pub since : (t : ℕ) (c : List ℕ) → t ≤ old.moment → new.left_since t c → old.left_since t c ⊎ P c

-- the same to every reader of these clauses
pub record IsUnchanged (old new : State) : Type 0 where
  pub seen : new.seen ≡ old.seen
  pub crash : (c : List ℕ) → new.may_leave c → old.may_leave c
  pub crash_back : (c : List ℕ) → old.may_leave c → new.may_leave c
  pub moment : new.moment ≡ old.moment
  pub since : (t : ℕ) (c : List ℕ) → new.left_since t c → old.left_since t c
  pub since_back : (t : ℕ) (c : List ℕ) → old.left_since t c → new.left_since t c
  pub tells : (t : ℕ) → new.tells t → old.tells t
  pub powers : new.powers ≡ old.powers
  pub written : new.written ≡ old.written
  pub faults : new.faults ≡ old.faults
  pub settings : new.settings ≡ old.settings

-- the armed number after a call
abbrev pub counted : Option ℕ → Option ℕ
counted None = None
counted (Some zero) = Some 0
counted (Some (suc n)) = Some n

-- a disk that tells its armed number fails exactly while it is spent
abbrev pub IsSpent : Option (Option ℕ) → Bool → Type 0
IsSpent None ok = Unit {0}
IsSpent (Some None) ok = ok ≡ true
IsSpent (Some (Some zero)) ok = ok ≡ false
IsSpent (Some (Some (suc n))) ok = ok ≡ true

pub record Spends {T E : Type 0} (result : Result T E) (old new : State) : Type 0 where
  pub counts : new.armed ≡ option_map counted old.armed
  pub fails : IsSpent old.armed (is_ok result)
