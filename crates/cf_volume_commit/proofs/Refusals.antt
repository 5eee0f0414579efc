-- Why an opening is refused.
use Rattle.std.proofs.Common.{◌≡◌, ◌⊎◌, inl, inr, ℕ, subst, sym, ◌∙◌}
use Rattle.std.specs.Prelude.{Err, IsOk, Result}
use Rattle.std.specs.Result.{IsErrAnd}
use Rattle.std.proofs.lemmas.Bool.{true≢false}
use Rattle.std.proofs.lemmas.Result.{err_from_is_err_and}
use Rattle.cf_base.specs.declared.codes.Code.TheVariants as code
use Rattle.cf_base.specs.declared.codes.CallError.TheVariants as fail
use Rattle.cf_base.specs.declared.codes.CallError.{CallError}
use Rattle.cf_codec.specs.declared.formats.Format.{Format}
use Rattle.cf_disk.specs.Disk.{HasFailed, State}
use Rattle.cf_volume_commit.proofs.FoundParts.{no_slot}
use Rattle.cf_volume_commit.specs.Damages.{IsFindCause, find_error}
use Rattle.cf_volume_commit.specs.Loaded.{IsNoVolume, fail_of}
use Rattle.cf_volume_commit.specs.declared.damages.FindError.{FindError}
use Rattle.cf_volume_commit.specs.declared.damages.FindError.TheVariants as find
use Rattle.cf_journal.specs.Format.{Chosen}
use Rattle.cf_journal.specs.Settled.{IsOpenCause}
use Rattle.cf_journal.specs.declared.found.Found.{Found}
use Rattle.cf_journal.specs.declared.sides.Side.{Side}
use Rattle.cf_journal.specs.declared.failures.JournalError.{JournalError}
use Rattle.cf_journal.specs.declared.failures.JournalError.TheVariants as journal

pub no_volume : (e : FindError) (old new : State) → fail_of e ≡ fail.No code.NotAVolume → IsFindCause old new e → IsNoVolume old.seen
no_volume (find.Damaged d) old new is cause = cause.1
no_volume find.Device old new is cause = let z : fail.No code.Device ≡ fail.No code.NotAVolume = is in absurd cc
no_volume find.OutOfMemory old new is cause = let z : fail.OutOfMemory ≡ fail.No code.NotAVolume = is in absurd cc

pub device_rose : (e : FindError) (old new : State) → fail_of e ≡ fail.No code.Device → IsFindCause old new e → HasFailed old new
device_rose (find.Damaged d) old new is cause = let z : fail.No code.NotAVolume ≡ fail.No code.Device = is in absurd cc
device_rose find.Device old new is cause = cause
device_rose find.OutOfMemory old new is cause = let z : fail.OutOfMemory ≡ fail.No code.Device = is in absurd cc

pub only_found : (e : FindError) (r : CallError) → r ≡ fail_of e → (r ≡ fail.No code.NotAVolume) ⊎ ((r ≡ fail.No code.Exhausted) ⊎ ((r ≡ fail.No code.Device) ⊎ (r ≡ fail.OutOfMemory)))
only_found (find.Damaged d) r is = inl is
only_found find.Device r is = inr (inr (inl is))
only_found find.OutOfMemory r is = inr (inr (inr is))

-- why the journal was not read

pub journal_cause : (e : JournalError) (r : Result Found JournalError) (old new : State) → r ≡ Err e → (r ≡ Err journal.NotAVolume → (s : Side) (f : Format) (g l : ℕ) → Chosen f old.seen s g l → ⊥)
    → (e ≡ journal.NotAVolume) ⊎ IsOpenCause e old new → IsFindCause old new (find_error e)
journal_cause journal.Failed r old new is none (inl same) = let z : journal.Failed ≡ journal.NotAVolume = same in absurd cc
journal_cause journal.Failed r old new is none (inr cause) = cause
journal_cause journal.NotAVolume r old new is none cause = (none is, no_slot old.seen (none is))
journal_cause journal.Broken r old new is none (inl same) = let z : journal.Broken ≡ journal.NotAVolume = same in absurd cc
journal_cause journal.Broken r old new is none (inr cause) = absurd cause
journal_cause journal.OutOfMemory r old new is none cause = tt

-- the error that a call passes on

pub same_error : {T E : Type 0} (x y : E) → ◌≡◌ {A = Result T E} (Err x) (Err y) → x ≡ y
same_error x y e = cc

pub error_is : {T E : Type 0} (r : Result T E) (e x : E) → IsErrAnd r (λ y. y ≡ e) → r ≡ Err x → e ≡ x
error_is r e x h is =
    let q = err_from_is_err_and r h in
    let one : Err q.0 ≡ Err x = sym q.1 ∙ is in
    let two : q.0 ≡ x = cc in
    sym q.2 ∙ two

pub not_ok : {T E : Type 0} (r : Result T E) (e : E) → IsErrAnd r (λ y. y ≡ e) → IsOk r → ⊥
not_ok r e h ok = let q = err_from_is_err_and r h in true≢false (sym (subst IsOk q.1 ok))
