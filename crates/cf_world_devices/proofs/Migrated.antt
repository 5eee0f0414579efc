-- How a migration ends.
use Rattle.std.proofs.Common.{◌≡◌, ◌≢◌, ◌⊎◌, inl, inr, ℕ, ◌+◌, ◌<◌, ◌≤◌, List, length, refl, sym, ◌∙◌, subst, arith}
use Rattle.std.specs.Prelude.{Err, IfErr, Option, Result, min}
use Rattle.std.proofs.lemmas.List.{take_all}
use Rattle.cf_base.specs.declared.changes.Change.{Change}
use Rattle.cf_base.specs.declared.codes.CallError.{CallError}
use Rattle.cf_base.specs.declared.codes.CallError.TheVariants as fail
use Rattle.cf_base.specs.declared.codes.Code.TheVariants as code
use Rattle.cf_base.specs.declared.ids.Usn.{Usn}
use Rattle.cf_base.specs.declared.statuses.Status.{Status}
use Rattle.cf_base.specs.declared.statuses.Status.TheVariants as status
use Rattle.cf_disk.specs.Disk.{HasFailed, Holds, State as Disk, may_fail, part, size_of}
use Rattle.cf_disk.specs.Parts.{holds_part, holds_same}
use Rattle.cf_io.specs.Moves.{IsLonger, IsQuiet, IsWhole, Rose}
use Rattle.cf_io.specs.declared.faults.ReadError.{ReadError}
use Rattle.cf_io.specs.declared.faults.ReadError.TheVariants as reading
use Rattle.cf_journal.specs.Content.{clusters}
use Rattle.cf_model.specs.Books.{Book}
use Rattle.cf_model.specs.Formats.{Image}
use Rattle.cf_model.specs.Numbers.{most}
use Rattle.cf_volume_commit.specs.Loaded.{HoldsImage, HoldsSecond, IsNoVolume, known_of, raised_image}
use Rattle.cf_volume_commit.specs.declared.parts.Parts.{Parts}
use Rattle.cf_volume_image.specs.Contents.{image_of}
use Rattle.cf_volume_points.proofs.Points.{Fair}
use Rattle.cf_volume_points.proofs.Saves.{last_stands}
use Rattle.cf_volume_points.specs.At.{At}
use Rattle.cf_volume_points.specs.Standing.{Standing, clusters_for, opened}
use Rattle.cf_world_devices.proofs.Adding.{adds_nothing}
use Rattle.cf_world_devices.proofs.Sources.{long_text, not_quiet, some_text, whole_text}
use Rattle.cf_world_devices.specs.Migrations.{HandsOut, IsEnd, IsMigrated, IsRefused, IsUnfitEnd, IsUnopened, IsUnopenedEnd, IsUnread, Migrates, OfDevice}
use Rattle.cf_world_devices.specs.Sizes.{IsFit}

-- the source was not read to its end

module _ (old : Disk) (left held : Option (List ℕ)) (a b c d limit : ℕ) (why : ReadError) (long : why ≡ reading.TooLong → IsLonger left limit) (rose : why ≡ reading.Fault → Rose a b) (limit_is : limit ≡ min (size_of old) 271581184) where
  abbrev Quiet : Type 0
  Quiet = IsQuiet a b × IsQuiet c d

  abbrev Found : Status → Type 0
  Found end = (bytes : List ℕ) × IsWhole left bytes × OfDevice old old bytes held held Quiet end

  other_size : IsLonger left limit → IsFit (size_of old) → length (some_text (limit + 1) left) ≢ size_of old
  other_size more fit = λ same. let longer = long_text limit left more in omega (arith, longer, same, limit_is, fit.0.1)

  pub unread_device : (end : Status) → IsUnread end → (end ≡ status.SourceFault → why ≡ reading.Fault) → (end ≡ status.BadDevice → IsFit (size_of old) → ⊥) → (end ≡ status.BadImage → (why ≡ reading.TooLong) × IsFit (size_of old)) → Found end
  unread_device status.SourceFault only fault fit image = (
    some_text 0 left,
    whole_text 0 left,
    record {
      writes = adds_nothing held;
      fit = fit;
      unfit = λ none. tt;
      complete = λ quiet is. absurd (not_quiet a b (rose (fault refl)) quiet.0);
    },
  )
  unread_device status.BadDevice only fault fit image = (
    some_text 0 left,
    whole_text 0 left,
    record {
      writes = adds_nothing held;
      fit = fit;
      unfit = λ none. tt;
      complete = λ quiet is. absurd (fit refl is);
    },
  )
  unread_device status.BadImage only fault fit image = (
    some_text (limit + 1) left,
    whole_text (limit + 1) left,
    record {
      writes = (inl (other_size (long (image refl).0) (image refl).1), adds_nothing held);
      fit = fit;
      unfit = λ none. absurd (none (image refl).1);
      complete = λ quiet is. tt;
    },
  )
  unread_device status.OutOfMemory only fault fit image = (
    some_text 0 left,
    whole_text 0 left,
    record {
      writes = adds_nothing held;
      fit = fit;
      unfit = λ none. tt;
      complete = λ quiet is. tt;
    },
  )
  unread_device status.Done only fault fit image = absurd only
  unread_device status.Usage only fault fit image = absurd only
  unread_device status.BadScript only fault fit image = absurd only
  unread_device status.SinkFault only fault fit image = absurd only
  unread_device status.TooLong only fault fit image = absurd only
  unread_device status.DeviceFault only fault fit image = absurd only
  unread_device status.Unlawful only fault fit image = absurd only
  unread_device status.Undecided only fault fit image = absurd only
  unread_device status.Damaged only fault fit image = absurd only

-- the source was read

module _ (old now : Disk) (bytes : List ℕ) (held after : Option (List ℕ)) (a b c d : ℕ) where
  ends : (end : Status) → Migrates old now bytes held after end → (end ≡ status.BadDevice → IsFit (size_of old) → ⊥) → (end ≡ status.SourceFault → ⊥) → (end ≡ status.SinkFault → Rose c d) → IsQuiet c d → IsFit (size_of old) → IsEnd end
  ends status.Done writes fit read sink quiet is = tt
  ends status.BadImage writes fit read sink quiet is = tt
  ends status.DeviceFault writes fit read sink quiet is = tt
  ends status.OutOfMemory writes fit read sink quiet is = tt
  ends status.SinkFault writes fit read sink quiet is = absurd (not_quiet c d (sink refl) quiet)
  ends status.BadDevice writes fit read sink quiet is = absurd (fit refl is)
  ends status.SourceFault writes fit read sink quiet is = absurd (read refl)
  ends status.Usage writes fit read sink quiet is = absurd writes
  ends status.BadScript writes fit read sink quiet is = absurd writes
  ends status.TooLong writes fit read sink quiet is = absurd writes
  ends status.Unlawful writes fit read sink quiet is = absurd writes
  ends status.Undecided writes fit read sink quiet is = absurd writes
  ends status.Damaged writes fit read sink quiet is = absurd writes

  pub read_device : (end : Status) → Migrates old now bytes held after end → (end ≡ status.BadDevice → IsFit (size_of old) → ⊥) → ((IsFit (size_of old) → ⊥) → end ≡ status.BadDevice) → (end ≡ status.SourceFault → ⊥) → (end ≡ status.SinkFault → Rose c d)
      → OfDevice old now bytes held after (IsQuiet a b × IsQuiet c d) end
  read_device end writes fit unfit read sink = record {
    writes = writes;
    fit = fit;
    unfit = λ none. subst IsUnfitEnd (sym (unfit none)) tt;
    complete = λ quiet is. ends end writes fit read sink quiet.1 is;
  }

-- a volume that was opened

pub migrated : (old new : Disk) (p : Parts) → Fair new → new.may_leave new.seen → (i : Image) × HoldsImage old.seen i × (i.header.last.epoch < most) × (image_of p.contents ≡ raised_image i.header.last.epoch i) → HoldsSecond new.seen (image_of p.contents) → clusters new.seen ≡ clusters old.seen
    → ((e : ℕ) (log : List (Usn × Change)) (b : Book) → Standing e old.seen log b → At new (known_of p) (opened (e + 1) log b (clusters_for old))) → IsMigrated old.seen new.seen
migrated old new p fair one found holds rest ok = record {
  image = found.0;
  held = found.1;
  below = found.2;
  holds = subst (λ (i : Image). HoldsSecond new.seen i) found.3 holds;
  clusters_are = rest;
  stands = λ e log b st. subst (λ (l : List (Usn × Change)). Standing (e + 1) new.seen l b) (take_all (length log) log (omega arith))
      (last_stands new new (known_of p) (opened (e + 1) log b (clusters_for old)) fair (ok e log b st) new.seen one);
}

-- one that was not

pub unopened_cause : (s : Status) (e : CallError) (old new : Disk) → (s ≡ status.BadImage → (e ≢ fail.No code.Device) × (e ≢ fail.OutOfMemory)) → (s ≡ status.DeviceFault → e ≡ fail.No code.Device) → (s ≡ status.BadImage) ⊎ ((s ≡ status.DeviceFault) ⊎ (s ≡ status.OutOfMemory))
    → (e ≡ fail.No code.NotAVolume → IsNoVolume old.seen) → (e ≡ fail.No code.Exhausted → (i : Image) × HoldsImage old.seen i × (i.header.last.epoch ≡ most)) → (e ≡ fail.No code.Device → HasFailed old new)
    → (e ≡ fail.No code.NotAVolume) ⊎ ((e ≡ fail.No code.Exhausted) ⊎ ((e ≡ fail.No code.Device) ⊎ (e ≡ fail.OutOfMemory))) → IsUnopened old new s
unopened_cause s e old new image device (inr (inr is)) none last cause only = subst (λ (x : Status). IsUnopened old new x) (sym is) tt
unopened_cause s e old new image device (inr (inl is)) none last cause only = subst (λ (x : Status). IsUnopened old new x) (sym is) (cause (device is))
unopened_cause s e old new image device (inl is) none last cause (inl absent) = subst (λ (x : Status). IsUnopened old new x) (sym is) (inl (none absent))
unopened_cause s e old new image device (inl is) none last cause (inr (inl end)) = subst (λ (x : Status). IsUnopened old new x) (sym is) (inr (last end))
unopened_cause s e old new image device (inl is) none last cause (inr (inr (inl fault))) = absurd ((image is).0 fault)
unopened_cause s e old new image device (inl is) none last cause (inr (inr (inr memory))) = absurd ((image is).1 memory)

pub refused_image : (r : Result (Unit {0}) Status) (s t : Disk) (bytes : List ℕ) → IfErr r (IsUnopened s t) → s.seen ≡ bytes → r ≡ Err status.BadImage → IsRefused bytes
refused_image r s t bytes cause seen is =
    let refused : IsRefused s.seen = subst (λ (x : Result (Unit {0}) Status). IfErr x (IsUnopened s t)) is cause in
    subst IsRefused seen refused

pub unopened_writes : (old now : Disk) (bytes : List ℕ) (held : Option (List ℕ)) (why : Status) → IsUnopenedEnd why → (why ≡ status.BadImage → IsRefused bytes) → length bytes ≡ size_of old → Migrates old now bytes held held why
unopened_writes old now bytes held status.BadImage only image size = (inr (image refl), adds_nothing held)
unopened_writes old now bytes held status.DeviceFault only image size = (size, adds_nothing held)
unopened_writes old now bytes held status.OutOfMemory only image size = adds_nothing held
unopened_writes old now bytes held status.Done only image size = absurd only
unopened_writes old now bytes held status.Usage only image size = absurd only
unopened_writes old now bytes held status.BadScript only image size = absurd only
unopened_writes old now bytes held status.SourceFault only image size = absurd only
unopened_writes old now bytes held status.SinkFault only image size = absurd only
unopened_writes old now bytes held status.BadDevice only image size = absurd only
unopened_writes old now bytes held status.TooLong only image size = absurd only
unopened_writes old now bytes held status.Unlawful only image size = absurd only
unopened_writes old now bytes held status.Undecided only image size = absurd only
unopened_writes old now bytes held status.Damaged only image size = absurd only

pub later_fault : (r s t : Disk) (held after : Option (List ℕ)) (end : Status) → HandsOut s t held after end → r.faults ≤ s.faults → may_fail s.armed ≤ may_fail r.armed → end ≡ status.DeviceFault → HasFailed r t
later_fault r s t held after end out least calm is =
    let failed = (subst (λ (x : Status). HandsOut s t held after x) is out).0 in
    (omega (arith, failed.0, least), omega (arith, failed.1, calm))

-- the bytes of a whole disk

pub whole_part : (n : ℕ) (xs : List ℕ) → n ≡ length xs → part 0 n xs ≡ xs
whole_part n xs is = take_all n xs (omega (arith, is))

pub all_placed : (bytes old new : List ℕ) → length bytes ≡ length old → Holds 0 bytes old new → new ≡ bytes
all_placed bytes old new size holds =
    sym (whole_part (length bytes) new (size ∙ sym (holds_same 0 bytes old new (omega (arith, size)) holds).size)) ∙ holds_part 0 bytes old new (omega (arith, size)) holds
