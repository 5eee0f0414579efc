-- What makes a row sound, part by part.
use Rattle.std.specs.Prelude.{true, false, [], length, None, unwrap_or, ◌≡◌, ◌≢◌, ◌≤◌, ◌<◌}
use Rattle.cf_base.specs.declared.ids.ItemId.{ItemId}
use Rattle.cf_base.specs.declared.ids.Usn.{Usn}
use Rattle.cf_base.specs.declared.limits.TheConstants.{MOST_FILE_BYTES}
use Rattle.cf_model.specs.Numbers.{above}
use Rattle.cf_model.specs.Texts.{is_name}
use Rattle.cf_ranges.specs.Positions.{IsBelow}
use Rattle.cf_volume_image.specs.Sets.{HasAll, HasSpan}
use Rattle.cf_table.specs.declared.rows.Row.{Row}

abbrev pub HasSoundNumbers : ItemId → Usn → Row → Type 0
HasSoundNumbers next last r = (r.id.0 < next.0) × (above r.number last ≡ false) × (above r.anchor last ≡ false)

abbrev pub HasSoundName : Row → Type 0
HasSoundName r = (r.id.0 ≡ 1 → r.name ≡ []) × (r.id.0 ≢ 1 → is_name r.name ≡ true)

abbrev pub AreSmall : Row → Type 0
AreSmall r = (length r.identity ≤ 4096) × (r.size ≤ MOST_FILE_BYTES) × (unwrap_or r.base 0 ≤ MOST_FILE_BYTES)

pub record HasSoundSets (r : Row) : Type 0 where
  pub in_size : IsBelow r.here r.size
  pub valid : HasAll r.here r.valid
  pub modified : HasAll r.here r.modified
  pub modified_since : HasAll r.modified r.modified_since
  pub past_base : HasSpan r.modified (unwrap_or r.base 0) r.size

pub record IsBareRow (r : Row) : Type 0 where
  pub size : r.size ≡ 0
  pub base : r.base ≡ None
  pub here : r.here ≡ []
  pub valid : r.valid ≡ []
  pub modified : r.modified ≡ []
  pub modified_since : r.modified_since ≡ []
  pub clean : (r.dirty ≡ false) × (r.dirty_since ≡ false)
  pub keep : r.keep ≡ false
  pub last : r.last ≡ 0
  pub placeholder : r.populated ≡ false → r.placeholder ≡ true

abbrev pub IsPlainRow : Row → Type 0
IsPlainRow r = r.placeholder ≡ false → (r.identity ≡ []) × (r.in_sync ≡ false) × (r.keep ≡ false)

pub record IsSoundFile (r : Row) : Type 0 where
  pub directory : r.dir ≡ true → IsBareRow r
  pub file : r.dir ≡ false → r.populated ≡ false
  pub plain : IsPlainRow r
  pub in_sync : r.in_sync ≡ true → r.dirty ≡ false
  pub clean : r.dirty ≡ false → (r.modified ≡ []) × (r.dirty_since ≡ false)

pub record IsSoundButName (next : ItemId) (last : Usn) (r : Row) : Type 0 where
  pub numbers : HasSoundNumbers next last r
  pub small : AreSmall r
  pub sets : HasSoundSets r
  pub file : IsSoundFile r
