-- What an opening finds on a disk.
use Rattle.std.proofs.Common.{◌≡◌, inl, inr, ℕ, ◌<◌, Bool, true, false, List, length, map, refl, sym, ◌∙◌, ap, subst}
use Rattle.std.specs.Prelude.{All, Err, IfOk, Ok, Result}
use Rattle.cf_base.specs.declared.changes.Change.{Change}
use Rattle.cf_base.specs.declared.codes.CallError.{CallError}
use Rattle.cf_base.specs.declared.ids.Usn.{Usn}
use Rattle.cf_codec.specs.declared.formats.Format.{Format}
use Rattle.cf_volume_commit.specs.Damages.{IsDamage, IsFault, IsFindCause, IsFoundCause, TellsNone, content_of}
use Rattle.cf_volume_commit.specs.Loaded.{Finds, HoldsImage, IsNoVolume, raised_image}
use Rattle.cf_volume_commit.specs.declared.damages.Damage.{Damage}
use Rattle.cf_volume_commit.specs.declared.damages.Damage.TheVariants as damage
use Rattle.cf_volume_commit.specs.declared.damages.FindError.{FindError}
use Rattle.cf_volume_commit.specs.declared.damages.FindError.TheVariants as find
use Rattle.cf_volume_commit.specs.declared.parts.Parts.{Parts}
use Rattle.cf_clusters.specs.Roles.{Opens}
use Rattle.cf_disk.specs.Disk.{Only, State}
use Rattle.cf_volume_image.proofs.Told.{one_state_in}
use Rattle.cf_volume_image.specs.Contents.{image_of}
use Rattle.cf_volume_image.specs.States.{IsContentsIn}
use Rattle.cf_volume_image.specs.declared.contents.Contents.{Contents}
use Rattle.cf_journal.proofs.WhatWasRead.{found_none, found_stands}
use Rattle.cf_journal.specs.Content.{Content, Stands}
use Rattle.cf_journal.specs.Format.{Chosen}
use Rattle.cf_journal.specs.Places.{IsFound}
use Rattle.cf_journal.specs.declared.found.Found.{Found}
use Rattle.cf_journal.specs.declared.sides.Side.{Side}
use Rattle.cf_journal.specs.Settled.{Settled}
use Rattle.cf_journal.specs.declared.journals.Journal.{Journal}
use Rattle.cf_journal.specs.declared.journals.Opened.{Opened}
use Rattle.cf_model.specs.Books.{Book}
use Rattle.cf_model.specs.Formats.{Image}
use Rattle.cf_model.specs.Numbers.{most}
use Rattle.cf_model.specs.Standing.{clusters_of}
use Rattle.cf_volume_points.specs.Standing.{Standing, clusters_for, clusters_on}
use Rattle.cf_table.specs.Spelling.{HasRoom, row_value}
use Rattle.cf_table.specs.declared.rows.Row.{Row}

-- the journal's law
abbrev pub OneContent : Type 0
OneContent = (disk : List ℕ) (x y : Content) → Stands disk x → Stands disk y → x ≡ y

-- a disk holds one image

pub one_image : OneContent → (disk : List ℕ) (i j : Image) → HoldsImage disk i → HoldsImage disk j → i ≡ j
one_image one disk i j g h =
    one_state_in h.content.format h.content.image h.content.payloads (clusters_on disk) i j
    (subst (λ (x : Content). IsContentsIn x.format x.image x.payloads (clusters_on disk) i) (one disk g.content h.content g.holds h.holds) g.told) h.told

-- a disk that stands for a log and a book holds their image

pub image_there : (e : ℕ) (disk : List ℕ) (log : List (Usn × Change)) (b : Book) (st : Standing e disk log b) → HoldsImage disk st.image
image_there e disk log b st = record { content = st.content; holds = st.holds; told = st.told }

pub last_epoch : OneContent → (disk : List ℕ) → (i : Image) × HoldsImage disk i × (i.header.last.epoch ≡ most) → (e : ℕ) (log : List (Usn × Change)) (b : Book) → Standing e disk log b → e ≡ most
last_epoch one disk last e log b st = sym st.epoch_is ∙ ap (λ (i : Image). i.header.last.epoch) (one_image one disk st.image last.0 (image_there e disk log b st) last.1) ∙ last.2

-- what was opened, what it tells, and the parts of it

module _ (one : OneContent) (old mid : State) (o : Opened) (c : Contents) (settled : Settled o.journal mid (content_of o)) (seen : mid.seen ≡ old.seen) (told : IsContentsIn o.format o.image o.payloads (clusters_on old.seen) (image_of c)) where
  holds : Stands old.seen (content_of o)
  holds = subst (λ (d : List ℕ). Stands d (content_of o)) seen (o.journal.side, o.journal.generation, settled.ready.stands)

  alone : (y : Content) → Stands old.seen y → y ≡ content_of o
  alone y h = one old.seen y (content_of o) h holds

  pub there : HoldsImage old.seen (image_of c)
  there = record { content = content_of o; holds = holds; told = told }

  pub finds : Only old.seen mid → All HasRoom c.rows.rows → (r : Result Parts CallError) → IfOk r (λ p. p.journal ≡ o.journal) → IfOk r (λ p. c.last.epoch < most) → IfOk r (λ p. image_of p.contents ≡ raised_image c.last.epoch (image_of c))
      → IfOk r (λ p. p.contents.rows.rows ≡ c.rows.rows) → IfOk r (λ p. Opens (clusters_on old.seen) (clusters_of (map row_value p.contents.rows.rows)) p.held) → IfOk r (λ p. p.limit ≡ clusters_for old) → IfOk r (λ p. (x : Content) × Finds old mid x p)
  finds only room (Err e) same below image rows opens limit = tt
  finds only room (Ok p) same below image rows opens limit = (
    content_of o,
    record {
      alone = alone;
      seen = seen;
      only = only;
      settled = subst (λ (j : Journal). Settled j mid (content_of o)) (sym same) settled;
      image = image_of c;
      told = told;
      below = below;
      is = image;
      room = subst (λ (rs : List Row). All HasRoom rs) (sym rows) room;
      opens = opens;
      limit = limit;
    },
  )

-- what is found is no volume

none_stands : (disk : List ℕ) → ((x : Content) → Stands disk x → ⊥) → IsNoVolume disk
none_stands disk none i h = none h.content h.holds

pub no_slot : (disk : List ℕ) → ((s : Side) (f : Format) (g l : ℕ) → Chosen f disk s g l → ⊥) → IsNoVolume disk
no_slot disk none = none_stands disk (λ x stands. none stands.0 x.format stands.1 (length x.image) stands.2.chosen)

pub not_told : OneContent → (disk : List ℕ) (f : Found) → IsFound f disk → TellsNone f (clusters_on disk) → IsNoVolume disk
not_told one disk f found (inl torn) = none_stands disk (found_none f disk found torn)
not_told one disk f found (inr none) = λ i h. by i h f.overruns refl
  where
    by : (i : Image) → HoldsImage disk i → (torn : Bool) → f.overruns ≡ torn → ⊥
    by i h true torn = found_none f disk found torn h.content h.holds
    by i h false whole =
        let same = one disk h.content (record { format = f.format; image = f.image; payloads = f.payloads }) h.holds (f.side, f.generation, found_stands f disk found whole) in
        none i (subst (λ (x : Content). IsContentsIn x.format x.image x.payloads (clusters_on disk) i) same h.told)

is_damage : (disk : List ℕ) (f : Found) (n : ℕ) (d : Damage) → IsFound f disk → n ≡ clusters_on disk → IsFault f n d → IsDamage disk d
is_damage disk f n damage.NoSlot found number fault = absurd fault
is_damage disk f n (damage.Image at) found number fault = (f, found, fault)
is_damage disk f n (damage.Record at) found number fault = (f, found, fault)
is_damage disk f n damage.Unsound found number fault = (f, found, subst (λ (m : ℕ). IsFault f m damage.Unsound) number fault)

pub found_cause : OneContent → (old new : State) (f : Found) (n : ℕ) (e : FindError) → IsFound f old.seen → n ≡ clusters_on old.seen → IsFoundCause f n e → IsFindCause old new e
found_cause one old new f n (find.Damaged d) found number cause = (is_damage old.seen f n d found number cause.0, not_told one old.seen f found (subst (λ (m : ℕ). TellsNone f m) number cause.1))
found_cause one old new f n find.Device found number cause = absurd cause
found_cause one old new f n find.OutOfMemory found number cause = tt
