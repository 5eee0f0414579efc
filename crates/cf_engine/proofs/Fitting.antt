-- What is known of a volume that was opened, and the image that its disk held.
use Rattle.std.proofs.Common.{◌≡◌, ◌⊎◌, inl, inr, ℕ, ◌<◌, List, sym, ◌∙◌, subst}
use Rattle.cf_base.specs.declared.answers.AuxRecord.{AuxRecord}
use Rattle.cf_base.specs.declared.changes.Change.{Change}
use Rattle.cf_base.specs.declared.codes.CallError.{CallError}
use Rattle.cf_base.specs.declared.codes.CallError.TheVariants as fail
use Rattle.cf_base.specs.declared.codes.Code.{Code}
use Rattle.cf_base.specs.declared.codes.Code.TheVariants.{Device, Exhausted, NotAVolume}
use Rattle.cf_base.specs.declared.ids.ItemId.{ItemId}
use Rattle.cf_base.specs.declared.ids.Usn.{Usn}
use Rattle.cf_disk.specs.Disk.{State}
use Rattle.cf_engine.specs.Openings.{FitsEngine, FitsKnown, IsOfEngine}
use Rattle.cf_model.specs.Books.{Book}
use Rattle.cf_model.specs.Formats.{Image}
use Rattle.cf_model.specs.Numbers.{most}
use Rattle.cf_model.specs.Rows.{Row}
use Rattle.cf_volume.specs.Calls.{IsCause, IsMemory, IsRefused, StopsOnly}
use Rattle.cf_volume.specs.Openings.{IsOpenedFrom}
use Rattle.cf_volume_commit.specs.Loaded.{HoldsImage}
use Rattle.cf_volume_commit.proofs.FoundParts.{OneContent, one_image}
use Rattle.cf_volume_points.specs.Known.{Known}
use Rattle.cf_volume_points.specs.Standing.{Standing}

pub image_fits : (i : Image) (k : Known) → IsOpenedFrom i k → FitsKnown k → IsOfEngine i
image_fits i k o f =
    let by_rows : FitsEngine k.table.next i.rows k.records = subst (λ (rs : List Row). FitsEngine k.table.next rs k.records) o.rows f in
    let by_records : FitsEngine k.table.next i.rows i.records = subst (λ (rs : List AuxRecord). FitsEngine k.table.next i.rows rs) o.records by_rows in
    subst (λ (n : ItemId). FitsEngine n i.rows i.records) o.next by_records

pub known_fits : (i : Image) (k : Known) → IsOpenedFrom i k → IsOfEngine i → FitsKnown k
known_fits i k o f =
    let by_next : FitsEngine k.table.next i.rows i.records = subst (λ (n : ItemId). FitsEngine n i.rows i.records) (sym o.next) f in
    let by_records : FitsEngine k.table.next i.rows k.records = subst (λ (rs : List AuxRecord). FitsEngine k.table.next i.rows rs) (sym o.records) by_next in
    subst (λ (rs : List Row). FitsEngine k.table.next rs k.records) (sym o.rows) by_records

abbrev pub IsFound : List ℕ → Known → Type 0
IsFound disk k = (i : Image) × HoldsImage disk i × (i.header.last.epoch < most) × IsOpenedFrom i k

module _ (one : OneContent) (disk : List ℕ) (k : Known) (found : IsFound disk k) where
  pub of_engine : FitsKnown k → (i : Image) × HoldsImage disk i × IsOfEngine i
  of_engine fits = (found.0, found.1, image_fits found.0 k found.3 fits)

  pub of_none : (FitsKnown k → ⊥) → (j : Image) → HoldsImage disk j → IsOfEngine j → ⊥
  of_none unfit j held ours = unfit (known_fits found.0 k found.3 (subst IsOfEngine (one_image one disk j found.0 held found.1) ours))

pub image_there : (e : ℕ) (disk : List ℕ) (log : List (Usn × Change)) (b : Book) (st : Standing e disk log b) → HoldsImage disk st.image
image_there e disk log b st = record { content = st.content; holds = st.holds; told = st.told }

-- what an opening that was done is refused as then

not_another : (c d : Code) → c ≡ NotAVolume → c ≡ d → NotAVolume ≡ d
not_another c d is other = sym is ∙ other

pub only_of : (e : CallError) → IsMemory e ⊎ IsRefused e NotAVolume → StopsOnly e ⊎ (IsRefused e NotAVolume ⊎ IsRefused e Exhausted)
only_of fail.OutOfMemory h = inl tt
only_of (fail.No code) (inl h) = absurd h
only_of (fail.No code) (inr is) = inr (inl is)

pub not_exhausted : (e : CallError) → IsMemory e ⊎ IsRefused e NotAVolume → IsRefused e Exhausted → ⊥
not_exhausted fail.OutOfMemory h last = last
not_exhausted (fail.No code) (inl h) last = h
not_exhausted (fail.No code) (inr is) last = let z : NotAVolume ≡ Exhausted = not_another code Exhausted is last in cc

pub no_cause : (e : CallError) (s t : State) → IsMemory e ⊎ IsRefused e NotAVolume → IsCause e s t
no_cause fail.OutOfMemory s t h = tt
no_cause (fail.No code) s t (inl h) = absurd h
no_cause (fail.No code) s t (inr is) = λ device. absurd (let z : NotAVolume ≡ Device = not_another code Device is device in cc)
